-- A printed text is an interface, the one that it is of, lines aside.
use Rattle.std.proofs.Common.{◌≡◌, ℕ, List, [], ◌++◌, length, refl, sym, ap, ◌∙◌, subst, Some, codes, arith}
use Rattle.std.proofs.lemmas.List.{append-nil}
use Rattle.std.proofs.lemmas.List.Elements.{recursion_from_All}
use Rattle.lx_words.specs.declared.token.TokenRule.TheVariants as rules
use Rattle.lx_words.specs.declared.token.TokenKind.TheVariants as kinds
use Rattle.lx_words.specs.declared.token.Lexeme.TheVariants as lexemes
use Rattle.lx_words.specs.Lexemes.{lexeme_of, lexeme_behind}
use Rattle.lx_words.specs.Cuts.{Piece, tokens_of, place_after, line_after}
use Rattle.lx_annot.specs.declared.interface.Interface.{Interface}
use Rattle.lx_annot_read.specs.declared.head.Version.TheVariants as versions
use Rattle.lx_annot_read.specs.Interfaces.{empty}
use Rattle.lx_annot_read.specs.Aside.{lines_aside}
use Rattle.lx_annot_laws.specs.Statements.{Statement, IsHead, IsInterface}
use Rattle.lx_cproto_print.specs.Printed.{interface_text}
use Rattle.lx_annot_laws.specs.Says.{text_of, AreLaid, IsWord}
use Rattle.lx_annot_laws.proofs.Pieces.{texts_joined, laid_joined, spaced, word_is, token, one_token}
use Rattle.lx_annot_laws.proofs.Scanned.{scanned, toks_there, tokens_joined, place_is}
use Rattle.lx_annot_laws.specs.RoundTripLaws.{lines_of, HasShortLines, IsShort}
use Rattle.lx_annot_laws.proofs.LinesOf.{text_is_lines}
use Rattle.lx_annot_laws.proofs.Said.{SaysLine, ends_line, AreSaid, after, pieces_of, pieces_whole, pieces_laid}
use Rattle.lx_annot_laws.proofs.Walked.{walked}

a_head_word : IsWord (codes "interface")
unfolding lexeme_behind
a_head_word = refl

a_two : lexeme_of rules.Interface (codes "2") ≡ Some (lexemes.Token kinds.Number)
unfolding lexeme_behind
a_two = refl

-- the first line
first_line : SaysLine (codes "interface 2\n") (IsHead versions.Two)
first_line = ends_line (spaced (word_is a_head_word) (token kinds.Number (codes "2") a_two (one_token kinds.Number (codes "2"))))

module _ (i : Interface) (ss : List Statement) (said : AreSaid empty ss (lines_of i)) (all : after empty ss ≡ i) (short : HasShortLines i) where
  abbrev front : List Piece
  front = first_line.pieces

  abbrev body : List Piece
  body = pieces_of empty ss (lines_of i) said

  abbrev text : List ℕ
  text = text_of (front ++ body)

  text_is : text ≡ interface_text i
  text_is =
      texts_joined front body ∙ ap (λ v. v ++ text_of body) first_line.whole ∙ ap (λ v. codes "interface 2\n" ++ v) (pieces_whole empty ss (lines_of i) said) ∙ sym (text_is_lines i)

  laid : AreLaid (front ++ body) []
  laid = laid_joined front body [] (first_line.laid (text_of body ++ [])) (pieces_laid empty ss (lines_of i) said [])

  is_interface : (j : Interface) × IsInterface text j × (lines_aside j ≡ lines_aside i)
  is_interface =
      let whole : text ≡ text_of front ++ (text_of body ++ []) = texts_joined front body ∙ ap (λ v. text_of front ++ v) (sym (append-nil (text_of body))) in
      let begun : text ≡ [] ++ (text_of front ++ text_of body) = texts_joined front body in
      let place : place_after 0 front ≡ length (text_of front) = omega (arith, place_is front 0) in
      let w = walked text empty empty ss (lines_of i) said (text_of front) [] (place_after 0 front) (line_after 1 front) refl whole place (recursion_from_All IsShort (lines_of i) short) in (
        w.1,
        record {
          version = versions.Two;
          tokens = tokens_of 0 1 (front ++ body);
          scans = scanned (front ++ body) laid;
          head = tokens_of 0 1 front;
          body = tokens_of (place_after 0 front) (line_after 1 front) body;
          whole = tokens_joined front body 0 1;
          begins = subst (IsHead versions.Two) (sym (toks_there text front [] (text_of body) 0 1 begun refl)) first_line.is;
          statements = w.0;
          are = w.2;
        },
        sym w.3 ∙ ap lines_aside all,
      )

  -- the printed text is an interface
  pub is_again : (j : Interface) × IsInterface (interface_text i) j × (lines_aside j ≡ lines_aside i)
  is_again = let j = is_interface in (j.0, subst (λ v. IsInterface v j.0) text_is j.1, j.2)
