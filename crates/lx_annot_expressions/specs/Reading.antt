-- Reading tokens from left to right, with the first fault that is met.
use Rattle.std.specs.Prelude.{◌≡◌, ℕ, zero, suc, Bool, false, ◌&&◌, Option, Some, None, List, [], ◌∷◌, ◌++◌, length, Result, Ok, Err, if◌then◌else◌, bytes_eq, nat_le}
use Rattle.std.specs.List.{list_all}
use Rattle.lx_words.specs.Lexemes.{is_digit}
use Rattle.lx_words.specs.Text.{decimal_value}
use Rattle.lx_words.specs.declared.token.TokenKind.{TokenKind}
use Rattle.lx_words.specs.declared.token.TokenKind.TheVariants as kinds
use Rattle.lx_annot_expressions.specs.declared.fault.Fault.{Fault}
use Rattle.lx_annot_expressions.specs.declared.fault.FaultKind.{FaultKind}
use Rattle.lx_annot_expressions.specs.declared.fault.FaultKind.TheVariants.{Statement}
use Rattle.lx_annot_expressions.specs.declared.fault.ReadError.{ReadError}
use Rattle.lx_annot_expressions.specs.declared.fault.ReadError.TheVariants as errors
use Rattle.lx_annot_expressions.specs.Tokens.{Tok}

-- what tokens say, and the tokens behind it; or the first fault
abbrev pub Read : Type 0 → Type 0
Read A = Result (A × List Tok) Fault

infixl 10 ◌>>=◌
abbrev pub ◌>>=◌ : {A B : Type 0} → Result A Fault → (A → Result B Fault) → Result B Fault
(Ok x) >>= f = f x
(Err e) >>= f = Err e

-- the error says this fault, or that memory ran out
abbrev pub Fails : {Y : Type 0} → ReadError → Result Y Fault → Type 0
Fails errors.Memory read = Unit {0}
Fails (errors.Fault f) read = read ≡ Err f

-- an answer, and the tokens that it leaves, are what reading gives, unless memory ran out
abbrev pub Gives : {X : Type 0} → Result X ReadError → List Tok → Read X → Type 0
Gives (Ok x) left read = read ≡ Ok (x, left)
Gives (Err e) left read = Fails e read

-- the same of an answer seen by view
abbrev pub GivesBy : {X Y : Type 0} → (X → Y) → Result X ReadError → List Tok → Read Y → Type 0
GivesBy view (Ok x) left read = read ≡ Ok (view x, left)
GivesBy view (Err e) left read = Fails e read

-- the same of what stands in a place behind the call
abbrev pub Leaves : {X Y : Type 0} → Y → Result X ReadError → List Tok → Read Y → Type 0
Leaves y (Ok x) left read = read ≡ Ok (y, left)
Leaves y (Err e) left read = Fails e read

-- the same of tokens that say nothing
abbrev pub Passes : {X : Type 0} → Result X ReadError → List Tok → Read (Unit {0}) → Type 0
Passes (Ok x) left read = read ≡ Ok (tt, left)
Passes (Err e) left read = Fails e read

-- the fault at the next token, or at the end
abbrev pub at : FaultKind → List Tok → Fault
at kind ts = record { kind = kind; left = length ts }

-- a token that cannot stand there
abbrev pub refused : {A : Type 0} → List Tok → Read A
refused ts = Err (at Statement ts)

-- the tokens behind the next
abbrev pub behind : List Tok → List Tok
behind [] = []
behind (t ∷ ts) = ts

-- what the next token is picked as, or its fault
abbrev pub picked : {A : Type 0} → Option A → FaultKind → List Tok → Read A
picked (Some x) kind ts = Ok (x, behind ts)
picked None kind ts = Err (at kind ts)

-- one token that says something, or its fault
abbrev pub pick_at : {A : Type 0} → (Tok → Option A) → (TokenKind → FaultKind) → List Tok → Read A
pick_at what how [] = refused []
pick_at what how (t ∷ ts) = picked (what t) (how t.kind) (t ∷ ts)

-- the token of these bytes stands next
abbrev pub has : List ℕ → List Tok → Bool
has text [] = false
has text (t ∷ ts) = bytes_eq t.bytes text

-- the token of these bytes, which has to stand there
abbrev pub next_at : List ℕ → List Tok → Read (Unit {0})
next_at text ts = if has text ts then Ok (tt, behind ts) else refused ts

-- Words and numbers.

abbrev pub word_of : TokenKind → List ℕ → Option (List ℕ)
word_of kinds.Word bytes = Some bytes
word_of _ bytes = None

abbrev pub always_refused : TokenKind → FaultKind
always_refused kind = Statement

-- where a word has to stand that names something, another token is refused
abbrev pub unless_word : FaultKind → TokenKind → FaultKind
unless_word kind kinds.Word = kind
unless_word kind _ = Statement

-- a word, whatever it says
abbrev pub word_at : List Tok → Read (List ℕ)
word_at ts = pick_at (λ t. word_of t.kind t.bytes) always_refused ts

-- what digits say, where that is at most this much
abbrev pub within : ℕ → List ℕ → Option ℕ
within limit digits = if list_all is_digit digits && nat_le (decimal_value digits) limit then Some (decimal_value digits) else None

abbrev pub number_of : ℕ → TokenKind → List ℕ → Option ℕ
number_of limit kinds.Number bytes = within limit bytes
number_of limit _ bytes = None

-- a number that is at most this much
abbrev pub number_at : ℕ → List Tok → Read ℕ
number_at limit ts = pick_at (λ t. number_of limit t.kind t.bytes) always_refused ts

-- Steps, one after the other, as long as the test passes, and at most so many.
unfoldable pub steps_at : {S : Type 0} → (List Tok → Bool) → (S → List Tok → Read S) → ℕ → S → List Tok → Read S
steps_at test step zero s ts = Ok (s, ts)
steps_at test step (suc n) s ts = if test ts then (step s ts >>= λ x. steps_at test step n x.0 x.1) else Ok (s, ts)

-- a step that puts one more value to a list, behind the token before it
abbrev pub adding_at : {A : Type 0} → (List A → List Tok → Read A) → List A → List Tok → Read (List A)
adding_at item before ts = item before (behind ts) >>= λ x. Ok (before ++ x.0 ∷ [], x.1)
