-- Laid pieces are what a text is cut into.
use Rattle.std.proofs.Common.{◌≡◌, ℕ, suc, ◌+◌, ◌-◌, ◌<◌, ◌≤◌, List, [], ◌∷◌, ◌++◌, length, take, drop, true, refl, sym, ap, ◌∙◌, subst, arith, Some, None, append_assoc, length-append}
use Rattle.std.specs.List.{AllZip}
use Rattle.std.proofs.lemmas.List.{append-nil, take_at}
use Rattle.lx_words.specs.declared.token.TokenRule.TheVariants.{Ir}
use Rattle.lx_words.specs.declared.token.Lexeme.{Lexeme}
use Rattle.lx_words.specs.declared.token.Lexeme.TheVariants.{Space, Comment, Token}
use Rattle.lx_words.specs.Lexemes.{lexeme_of}
use Rattle.lx_words.specs.Longest.{Begins}
use Rattle.lx_words.specs.Cuts.{Piece, Cuts, Scans, feeds, token_at, tokens_of, place_after, line_after}
use Rattle.lx_words.proofs.Lists.{take_over, between}
use Rattle.lx_ir_tokens.specs.declared.token.Tok.{Tok}
use Rattle.lx_ir_tokens.specs.Said.{kind_of, said}
use Rattle.lx_ir_tokens.specs.Reading.{IsTokOf, StandsFor}
use Rattle.lx_ir_complete.specs.Pieces.{ends_before, text_of, AreLaid, lex, lex_of, lexes}
use Rattle.lx_ir_complete.specs.Printed.{IsSeen}
use Rattle.lx_ir_complete.proofs.LexemeEnds.{lost}

no_longer : (bytes : List ℕ) (r : ℕ) (more : List ℕ) (l : Lexeme) → lexeme_of Ir bytes ≡ Some l → ends_before l (r ∷ more) ≡ true → lexeme_of Ir (bytes ++ r ∷ more) ≡ None
no_longer [] r more l e h = cc e
no_longer (b ∷ bs) r more l e h = lost b bs r more l h e

longer : (bytes rest : List ℕ) (l : Lexeme) → lexeme_of Ir bytes ≡ Some l → ends_before l rest ≡ true → (m : ℕ) → length bytes < m → m ≤ length (bytes ++ rest) → lexeme_of Ir (take m (bytes ++ rest)) ≡ None
longer bytes [] l e h m lt le = let n = ap length (append-nil bytes) in absurd (omega (arith, n, lt, le))
longer bytes (r ∷ rest) l e h m lt le =
    let k : ℕ = m - length bytes - 1 in
    let n : m ≡ length bytes + suc k = omega arith in
    ap (lexeme_of Ir) (take_over bytes r rest k m n) ∙ no_longer bytes r (take k rest) l e h

-- A lexeme begins a text whose rest does not lengthen it.
pub begins : (bytes rest : List ℕ) (l : Lexeme) → lexeme_of Ir bytes ≡ Some l → ends_before l rest ≡ true → Begins (lexeme_of Ir) (bytes ++ rest) l (length bytes)
begins bytes rest l e h = record {
  within = omega (arith, length-append bytes rest);
  is = ap (lexeme_of Ir) (take_at bytes rest (length bytes) refl) ∙ e;
  longer = longer bytes rest l e h;
}

pub cut : (ps : List Piece) (rest : List ℕ) → AreLaid ps rest → Cuts Ir (text_of ps ++ rest) ps rest
cut [] rest h = refl
cut (p ∷ ps) rest h =
    let whole : (p.bytes ++ text_of ps) ++ rest ≡ p.bytes ++ (text_of ps ++ rest) = append_assoc p.bytes (text_of ps) rest in
    (text_of ps ++ rest, whole, subst (λ t. Begins (lexeme_of Ir) t p.lexeme (length p.bytes)) (sym whole) (begins p.bytes (text_of ps ++ rest) p.lexeme h.0 h.1), cut ps rest h.2)

pub scanned : (ps : List Piece) → AreLaid ps [] → Scans Ir (text_of ps) (tokens_of 0 1 ps) None
scanned ps h = (
  place_after 0 ps,
  line_after 1 ps,
  record {
    pieces = ps;
    cut = subst (λ t. Cuts Ir t ps []) (append-nil (text_of ps)) (cut ps [] h);
    are = refl;
    place = refl;
    row = refl;
  },
)

module _ (whole : List ℕ) (names : List (List ℕ)) where
  -- the tokens of a lexeme, and those behind it
  one_seen : (lexeme : Lexeme) (bytes before after : List ℕ) (at line : ℕ) (ts : List Rattle.lx_words.specs.declared.token.Token.Token) (toks : List Tok) (ls : List Rattle.lx_ir_complete.specs.Pieces.Lex)
      → whole ≡ before ++ (bytes ++ after) → at ≡ length before
      → ((us : List Tok) → AllZip (IsTokOf whole names) ts us → AllZip (IsSeen names) ls us)
      → AllZip (IsTokOf whole names) (token_at lexeme at (at + length bytes) line ++ ts) toks → AllZip (IsSeen names) (lex_of lexeme bytes ++ ls) toks
  one_seen Space bytes before after at line ts toks ls e l behind h = behind toks h
  one_seen Comment bytes before after at line ts toks ls e l behind h = behind toks h
  one_seen (Token kind) bytes before after at line ts [] ls e l behind h = absurd h
  one_seen (Token kind) bytes before after at line ts (tok ∷ toks) ls e l behind h =
      let here : take (at + length bytes - at) (drop at whole) ≡ bytes = between whole before bytes after at e l in
      (record { kind = h.0.kind ∙ ap (kind_of kind) here; name = subst (λ b. StandsFor names tok.name (said kind b)) here h.0.name }, behind toks h.1)

  all_seen : (ps : List Piece) (before : List ℕ) (at line : ℕ) (toks : List Tok) → whole ≡ before ++ text_of ps → at ≡ length before → AllZip (IsTokOf whole names) (tokens_of at line ps) toks → AllZip (IsSeen names) (lexes ps) toks
  all_seen [] before at line [] e l h = tt
  all_seen [] before at line (tok ∷ toks) e l h = absurd h
  all_seen (p ∷ ps) before at line toks e l h =
      one_seen p.lexeme p.bytes before (text_of ps) at line (tokens_of (at + length p.bytes) (line + feeds p.bytes) ps) toks (lexes ps) e l
      (λ us k. all_seen ps (before ++ p.bytes) (at + length p.bytes) (line + feeds p.bytes) us (e ∙ sym (append_assoc before p.bytes (text_of ps))) (ap (λ n. n + length p.bytes) l ∙ sym (length-append before p.bytes)) k)
      h

pub seen : (ps : List Piece) (names : List (List ℕ)) (toks : List Tok) → AllZip (IsTokOf (text_of ps) names) (tokens_of 0 1 ps) toks → AllZip (IsSeen names) (lexes ps) toks
seen ps names toks h = all_seen (text_of ps) names ps [] 0 1 toks refl refl h
