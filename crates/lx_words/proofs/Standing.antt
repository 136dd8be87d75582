-- Where the tokens of a text stand in it.
use Rattle.std.proofs.Common.{◌≡◌, ℕ, cond, ◌+◌, ◌-◌, ◌<◌, List, [], ◌∷◌, ◌++◌, length, take, All, refl, sym, ap, ◌∙◌, subst, arith, Some, append_assoc, length-append}
use Rattle.std.proofs.lemmas.List.{take_at}
use Rattle.std.proofs.lemmas.List.Elements.{All-nil, All-cons, All-append}
use Rattle.std.proofs.lemmas.List.Sums.{sum_by-append}
use Rattle.std.specs.Prelude.{◌==◌}
use Rattle.lx_words.specs.declared.token.TokenRule.{TokenRule}
use Rattle.lx_words.specs.declared.token.Lexeme.{Lexeme}
use Rattle.lx_words.specs.declared.token.Lexeme.TheVariants as lexemes
use Rattle.lx_words.specs.declared.token.Token.{Token}
use Rattle.lx_words.specs.declared.token.Stop.{Stop}
use Rattle.lx_words.specs.Lexemes.{lexeme_of}
use Rattle.lx_words.specs.Cuts.{Piece, Cuts, feeds, token_at, tokens_of, line_after, Reaches, StopsAt, StandsAt, IsTokenOf}
use Rattle.lx_words.proofs.Lists.{between}

not_empty : (rule : TokenRule) (bytes : List ℕ) (lexeme : Lexeme) → lexeme_of rule bytes ≡ Some lexeme → 0 < length bytes
not_empty rule [] lexeme e = cc
not_empty rule (b ∷ bs) lexeme e = omega arith

one_stands : (rule : TokenRule) (whole before bytes after : List ℕ) (at line : ℕ) (lexeme : Lexeme) → whole ≡ before ++ (bytes ++ after) → at ≡ length before → line ≡ 1 + feeds before → lexeme_of rule bytes ≡ Some lexeme
    → All (IsTokenOf rule whole) (token_at lexeme at (at + length bytes) line)
one_stands rule whole before bytes after at line lexemes.Space e l r is = All-nil (IsTokenOf rule whole)
one_stands rule whole before bytes after at line lexemes.Comment e l r is = All-nil (IsTokenOf rule whole)
one_stands rule whole before bytes after at line (lexemes.Token kind) e l r is =
    let t : Token = record { kind = kind; start = at; end = at + length bytes; line = line } in
    let size : length whole ≡ length before + (length bytes + length after) = ap length e ∙ length-append before (bytes ++ after) ∙ ap (λ n. length before + n) (length-append bytes after) in
    let front : take at whole ≡ before = ap (take at) e ∙ take_at before (bytes ++ after) at (sym l) in
    All-cons (IsTokenOf rule whole) t []
    (record {
      within = record { some = omega (arith, not_empty rule bytes (lexemes.Token kind) is); inside = omega arith };
      is = ap (lexeme_of rule) (between whole before bytes after at e l) ∙ is;
      row = r ∙ ap (λ b. 1 + feeds b) (sym front);
    })
    (All-nil (IsTokenOf rule whole))

all_stand : (rule : TokenRule) (whole before text : List ℕ) (at line : ℕ) (ps : List Piece) (rest : List ℕ) → whole ≡ before ++ text → at ≡ length before → line ≡ 1 + feeds before → Cuts rule text ps rest → All (IsTokenOf rule whole) (tokens_of at line ps)
all_stand rule whole before text at line [] rest e l r cut = All-nil (IsTokenOf rule whole)
all_stand rule whole before text at line (p ∷ ps) rest e l r cut =
    let here : whole ≡ before ++ (p.bytes ++ cut.0) = e ∙ ap (λ t. before ++ t) cut.1 in
    let is : lexeme_of rule p.bytes ≡ Some p.lexeme = ap (lexeme_of rule) (sym (take_at p.bytes cut.0 (length p.bytes) refl) ∙ ap (take (length p.bytes)) (sym cut.1)) ∙ cut.2.is in
    let next : at + length p.bytes ≡ length (before ++ p.bytes) = ap (λ n. n + length p.bytes) l ∙ sym (length-append before p.bytes) in
    let row : line + feeds p.bytes ≡ 1 + feeds (before ++ p.bytes) = omega (arith, r, sum_by-append (λ (b : ℕ). cond (b == 10) 1 0) before p.bytes) in
    All-append (IsTokenOf rule whole) (token_at p.lexeme at (at + length p.bytes) line) (tokens_of (at + length p.bytes) (line + feeds p.bytes) ps)
    (one_stands rule whole before p.bytes cut.0 at line p.lexeme here l r is)
    (all_stand rule whole (before ++ p.bytes) cut.0 (at + length p.bytes) (line + feeds p.bytes) ps rest (here ∙ sym (append_assoc before p.bytes cut.0)) next row cut.3)

pub tokens_stand : (rule : TokenRule) (text : List ℕ) (tokens : List Token) (at line : ℕ) (rest : List ℕ) → Reaches rule text tokens at line rest → All (IsTokenOf rule text) tokens
tokens_stand rule text tokens at line rest r =
    subst (All (IsTokenOf rule text)) (sym r.are) (all_stand rule text [] text 0 1 r.pieces rest refl refl refl r.cut)

-- the line feeds before what is left
rest_stands : (rule : TokenRule) (whole before text : List ℕ) (line : ℕ) (ps : List Piece) (rest : List ℕ) → whole ≡ before ++ text → line ≡ 1 + feeds before → Cuts rule text ps rest
    → (front : List ℕ) × (whole ≡ front ++ rest) × (line_after line ps ≡ 1 + feeds front)
rest_stands rule whole before text line [] rest e r cut = (before, e ∙ ap (λ t. before ++ t) cut, r)
rest_stands rule whole before text line (p ∷ ps) rest e r cut =
    let row : line + feeds p.bytes ≡ 1 + feeds (before ++ p.bytes) = omega (arith, r, sum_by-append (λ (b : ℕ). cond (b == 10) 1 0) before p.bytes) in
    rest_stands rule whole (before ++ p.bytes) cut.0 (line + feeds p.bytes) ps rest (e ∙ ap (λ t. before ++ t) cut.1 ∙ sym (append_assoc before p.bytes cut.0)) row cut.3

pub stop_stands : (rule : TokenRule) (text : List ℕ) (tokens : List Token) (stop : Stop) → StopsAt rule text tokens stop → StandsAt text stop
stop_stands rule text tokens stop s =
    let front = rest_stands rule text [] text 1 s.2.pieces (stop.byte ∷ s.1) refl refl s.2.cut in
    record { before = front.0; more = s.1; whole = front.1; row = s.2.row ∙ front.2 }
