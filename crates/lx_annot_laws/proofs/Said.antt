-- Lines that say statements, one behind the other.
use Rattle.std.proofs.Common.{◌≡◌, ℕ, List, [], ◌∷◌, ◌++◌, refl, sym, ap, ◌∙◌, subst, Some, codes}
use Rattle.std.specs.List.{concat}
use Rattle.std.proofs.lemmas.List.{append-nil}
use Rattle.lx_words.specs.declared.token.TokenRule.TheVariants as rules
use Rattle.lx_words.specs.declared.token.Lexeme.TheVariants as lexemes
use Rattle.lx_words.specs.Lexemes.{lexeme_of, lexeme_behind}
use Rattle.lx_words.specs.Cuts.{Piece}
use Rattle.lx_annot.specs.declared.interface.Interface.{Interface}
use Rattle.lx_annot_expressions.specs.Grammar.{Part}
use Rattle.lx_annot_read.specs.declared.head.Version.TheVariants as versions
use Rattle.lx_annot_laws.specs.Statements.{Statement, IsStatement, with_statement}
use Rattle.lx_annot_laws.specs.Says.{text_of, AreLaid, toks, Says}
use Rattle.lx_annot_laws.proofs.Pieces.{texts_joined, toks_joined, laid_joined}

-- A text that falls into lexemes whatever follows, and whose tokens are this part of the grammar.
pub record SaysLine (text : List ℕ) (part : Part) : Type 0 where
  pub pieces : List Piece
  pub whole : text_of pieces ≡ text
  pub laid : (rest : List ℕ) → AreLaid pieces rest
  pub is : part (toks pieces)

abbrev feed : List Piece
feed = record { lexeme = lexemes.Space; bytes = codes "\n" } ∷ []

a_feed : lexeme_of rules.Interface (codes "\n") ≡ Some lexemes.Space
unfolding lexeme_behind
a_feed = refl

-- a text, and the end of its line
pub ends_line : {t : List ℕ} {p : Part} → Says t p → SaysLine (t ++ codes "\n") p
ends_line {t} {p} a = record {
  pieces = a.pieces ++ feed;
  whole = texts_joined a.pieces feed ∙ ap (λ v. v ++ codes "\n") a.whole;
  laid = λ rest. laid_joined a.pieces feed rest (a.laid (text_of feed ++ rest) refl) (a_feed, refl, tt);
  is = subst p (sym (toks_joined a.pieces feed ∙ append-nil (toks a.pieces))) a.is;
}

-- Each line says its statement, behind those that declare this interface.
abbrev pub AreSaid : Interface → List Statement → List (List ℕ) → Type 0
AreSaid i [] [] = Unit {0}
AreSaid i [] (t ∷ ts) = ⊥
AreSaid i (s ∷ ss) [] = ⊥
AreSaid i (s ∷ ss) (t ∷ ts) = SaysLine t (IsStatement versions.Two i s) × AreSaid (with_statement i s) ss ts

-- what is declared behind statements
abbrev pub after : Interface → List Statement → Interface
after i [] = i
after i (s ∷ ss) = after (with_statement i s) ss

pub said_joined : (i : Interface) (ss us : List Statement) (ts vs : List (List ℕ)) → AreSaid i ss ts → AreSaid (after i ss) us vs → AreSaid i (ss ++ us) (ts ++ vs)
said_joined i [] us [] vs h k = k
said_joined i [] us (t ∷ ts) vs h k = absurd h
said_joined i (s ∷ ss) us [] vs h k = absurd h
said_joined i (s ∷ ss) us (t ∷ ts) vs h k = (h.0, said_joined (with_statement i s) ss us ts vs h.1 k)

pub after_joined : (i : Interface) (ss us : List Statement) → after i (ss ++ us) ≡ after (after i ss) us
after_joined i [] us = refl
after_joined i (s ∷ ss) us = after_joined (with_statement i s) ss us

-- Their pieces.

abbrev pub pieces_of : (i : Interface) (ss : List Statement) (ts : List (List ℕ)) → AreSaid i ss ts → List Piece
pieces_of i [] ts h = []
pieces_of i (s ∷ ss) [] h = []
pieces_of i (s ∷ ss) (t ∷ ts) h = h.0.pieces ++ pieces_of (with_statement i s) ss ts h.1

pub pieces_whole : (i : Interface) (ss : List Statement) (ts : List (List ℕ)) (h : AreSaid i ss ts) → text_of (pieces_of i ss ts h) ≡ concat ts
pieces_whole i [] [] h = refl
pieces_whole i [] (t ∷ ts) h = absurd h
pieces_whole i (s ∷ ss) [] h = absurd h
pieces_whole i (s ∷ ss) (t ∷ ts) h =
    texts_joined h.0.pieces (pieces_of (with_statement i s) ss ts h.1) ∙ ap (λ v. v ++ text_of (pieces_of (with_statement i s) ss ts h.1)) h.0.whole ∙ ap (λ v. t ++ v) (pieces_whole (with_statement i s) ss ts h.1)

pub pieces_laid : (i : Interface) (ss : List Statement) (ts : List (List ℕ)) (h : AreSaid i ss ts) (rest : List ℕ) → AreLaid (pieces_of i ss ts h) rest
pieces_laid i [] ts h rest = tt
pieces_laid i (s ∷ ss) [] h rest = absurd h
pieces_laid i (s ∷ ss) (t ∷ ts) h rest =
    laid_joined h.0.pieces (pieces_of (with_statement i s) ss ts h.1) rest (h.0.laid (text_of (pieces_of (with_statement i s) ss ts h.1) ++ rest)) (pieces_laid (with_statement i s) ss ts h.1 rest)
