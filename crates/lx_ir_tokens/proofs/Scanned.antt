-- Lines and number of the tokens that a text falls into.
use Rattle.std.proofs.Common.{◌≡◌, ◌∙◌, ℕ, ◌+◌, ◌≤◌, ◌<◌, List, [], ◌∷◌, ◌++◌, length, Option, Some, None, All, sym, ap, subst, length-append, arith}
use Rattle.lx_words.specs.declared.token.TokenRule.{TokenRule}
use Rattle.lx_words.specs.declared.token.Lexeme.{Lexeme}
use Rattle.lx_words.specs.declared.token.Lexeme.TheVariants as lexemes
use Rattle.lx_words.specs.declared.token.Token.{Token}
use Rattle.lx_words.specs.declared.token.Stop.{Stop}
use Rattle.lx_words.specs.Longest.{Begins}
use Rattle.lx_words.specs.Lexemes.{lexeme_of}
use Rattle.lx_words.specs.Cuts.{Piece, Cuts, token_at, tokens_of, feeds, Reaches, Scans, IsTokenOf, IsWithin}
use Rattle.lx_ir_tokens.specs.Lines.{Ascends}

lower : (k line : ℕ) (ts : List Token) → k ≤ line → Ascends line ts → Ascends k ts
lower k line [] le h = tt
lower k line (t ∷ ts) le h = (omega (arith, h.0), h.1)

-- one piece before others
before_all : (lexeme : Lexeme) (at end line later : ℕ) (ts : List Token) → line ≤ later → Ascends later ts → Ascends line (token_at lexeme at end line ++ ts)
before_all lexemes.Space at end line later ts le h = lower line later ts le h
before_all lexemes.Comment at end line later ts le h = lower line later ts le h
before_all (lexemes.Token kind) at end line later ts le h = (omega arith, lower line later ts le h)

ascend : (at line : ℕ) (ps : List Piece) → Ascends line (tokens_of at line ps)
ascend at line [] = tt
ascend at line (p ∷ ps) =
    before_all p.lexeme at (at + length p.bytes) line (line + feeds p.bytes) (tokens_of (at + length p.bytes) (line + feeds p.bytes) ps) (omega arith) (ascend (at + length p.bytes) (line + feeds p.bytes) ps)

-- a lexeme has a byte
some_byte : (rule : TokenRule) (text bytes : List ℕ) (lexeme : Lexeme) → Begins (lexeme_of rule) text lexeme (length bytes) → 0 < length bytes
some_byte rule text [] lexeme h = absurd (nothing h.is)
  where
    nothing : None ≡ Some lexeme → ⊥
    nothing e = cc
some_byte rule text (b ∷ bs) lexeme h = omega arith

at_most_one : (lexeme : Lexeme) (at end line : ℕ) (ts : List Token) → length (token_at lexeme at end line ++ ts) ≤ 1 + length ts
at_most_one lexemes.Space at end line ts = omega arith
at_most_one lexemes.Comment at end line ts = omega arith
at_most_one (lexemes.Token kind) at end line ts = omega arith

few : (rule : TokenRule) (text : List ℕ) (at line : ℕ) (ps : List Piece) (rest : List ℕ) → Cuts rule text ps rest → length (tokens_of at line ps) ≤ length text
few rule text at line [] rest h = omega arith
few rule text at line (p ∷ ps) rest h =
    let tail = few rule h.0 (at + length p.bytes) (line + feeds p.bytes) ps rest h.3 in
    let one = at_most_one p.lexeme at (at + length p.bytes) line (tokens_of (at + length p.bytes) (line + feeds p.bytes) ps) in
    let whole = ap length h.1 ∙ length-append p.bytes h.0 in
    let some = some_byte rule text p.bytes p.lexeme h.2 in
    omega arith

-- the tokens of a scan are reached
reached : (rule : TokenRule) (text : List ℕ) (tokens : List Token) (stop : Option Stop) → Scans rule text tokens stop → (at : ℕ) × (line : ℕ) × (rest : List ℕ) × Reaches rule text tokens at line rest
reached rule text tokens None h = (h.0, h.1, [], h.2)
reached rule text tokens (Some stop) h = (h.0, stop.line, stop.byte ∷ h.1, h.2)

-- Their lines do not fall.
pub lines_ascend : (rule : TokenRule) (text : List ℕ) (tokens : List Token) (stop : Option Stop) → Scans rule text tokens stop → Ascends 1 tokens
lines_ascend rule text tokens stop h =
    let r = (reached rule text tokens stop h).3 in
    subst (Ascends 1) (sym r.are) (ascend 0 1 r.pieces)

-- There are at most as many as bytes.
pub at_most_bytes : (rule : TokenRule) (text : List ℕ) (tokens : List Token) (stop : Option Stop) → Scans rule text tokens stop → length tokens ≤ length text
at_most_bytes rule text tokens stop h =
    let r = (reached rule text tokens stop h).3 in
    let e = ap length r.are in
    let all = few rule text 0 1 r.pieces (reached rule text tokens stop h).2 r.cut in
    omega arith

-- They stand within the text.
pub all_within : (rule : TokenRule) (text : List ℕ) (tokens : List Token) → All (IsTokenOf rule text) tokens → All (IsWithin text) tokens
all_within rule text tokens each = λ k d lt. (each k d lt).within
