-- Reading tokens from left to right, with the first fault that is met.
use Rattle.std.specs.Prelude.{◌≡◌, ℕ, zero, suc, Bool, true, false, Option, Some, None, List, [], ◌∷◌, length, Result, Ok, Err, if◌then◌else◌}
use denote.Enum.Bare.{sameb}
use Rattle.lx_ir_tokens.specs.declared.token.Tok.{Tok}
use Rattle.lx_ir_tokens.specs.declared.token.Kind.{Kind}
use Rattle.lx_ir_tokens.specs.declared.token.Kind.TheVariants as kinds
use Rattle.lx_ir_tokens.specs.declared.token.Mark.{Mark}
use Rattle.lx_ir_tokens.specs.declared.token.Mark.TheVariants.{Comma}
use Rattle.lx_ir_tokens.specs.contracts.token.Mark as mark
use Rattle.lx_ir_tokens.specs.declared.keyword.Keyword.TheVariants.{Times, To}
use Rattle.lx_ir_tokens.specs.Keywords.{is_in_profile}
use Rattle.lx_ir_terms.specs.declared.fault.Fault.{Fault}
use Rattle.lx_ir_terms.specs.declared.fault.FaultKind.{FaultKind}
use Rattle.lx_ir_terms.specs.declared.fault.FaultKind.TheVariants.{Statement, OutOfProfile}
use Rattle.lx_ir_terms.specs.declared.fault.ReadError.{ReadError}
use Rattle.lx_ir_terms.specs.declared.fault.ReadError.TheVariants as errors

-- what tokens say, and the tokens behind it; or the first fault
abbrev pub Read : Type 0 → Type 0
Read A = Result (A × List Tok) Fault

infixl 10 ◌>>=◌
abbrev pub ◌>>=◌ : {A B : Type 0} → Result A Fault → (A → Result B Fault) → Result B Fault
(Ok x) >>= f = f x
(Err e) >>= f = Err e

-- the error says this fault, or that memory ran out
abbrev pub Fails : {Y : Type 0} → ReadError → Result Y Fault → Type 0
Fails errors.Memory read = Unit {0}
Fails (errors.Fault f) read = read ≡ Err f

-- an answer, and the tokens that it leaves, are what reading gives, unless memory ran out
abbrev pub Gives : {X : Type 0} → Result X ReadError → List Tok → Read X → Type 0
Gives (Ok x) left read = read ≡ Ok (x, left)
Gives (Err e) left read = Fails e read

-- the same of tokens that say nothing
abbrev pub Passes : {X : Type 0} → Result X ReadError → List Tok → Read (Unit {0}) → Type 0
Passes (Ok x) left read = read ≡ Ok (tt, left)
Passes (Err e) left read = Fails e read

-- the fault at the next token, or at the end
abbrev pub at : FaultKind → List Tok → Fault
at kind ts = record { kind = kind; left = length ts }

-- a token that cannot stand there
abbrev pub refused : {A : Type 0} → List Tok → Read A
refused ts = Err (at Statement ts)

-- how a token is refused where a type or a constant has to stand: a word outside the profile has a fault of its own
abbrev pub refusal : Kind → FaultKind
refusal (kinds.Word w) = if is_in_profile w then Statement else OutOfProfile
refusal _ = Statement

-- the tokens behind the next
abbrev pub behind : List Tok → List Tok
behind [] = []
behind (t ∷ ts) = ts

-- what the next token is picked as, or its fault
abbrev pub picked : {A : Type 0} → Option A → FaultKind → List Tok → Read A
picked (Some x) kind ts = Ok (x, behind ts)
picked None kind ts = Err (at kind ts)

-- one token that says something, or its fault
abbrev pub pick_at : {A : Type 0} → (Tok → Option A) → (Kind → FaultKind) → List Tok → Read A
pick_at what how [] = refused []
pick_at what how (t ∷ ts) = picked (what t) (how t.kind) (t ∷ ts)

-- Marks and words.

abbrev pub same_mark : Mark → Mark → Bool
same_mark a b = sameb mark.the_type a b

abbrev pub is_mark : Mark → Kind → Bool
is_mark m (kinds.Mark n) = same_mark n m
is_mark m _ = false

abbrev pub is_times : Kind → Bool
is_times (kinds.Word Times) = true
is_times _ = false

abbrev pub is_to : Kind → Bool
is_to (kinds.Word To) = true
is_to _ = false

-- a token of this kind stands next
abbrev pub has : (Kind → Bool) → List Tok → Bool
has p [] = false
has p (t ∷ ts) = p t.kind

-- a token of this kind, which has to stand there
abbrev pub next_at : (Kind → Bool) → List Tok → Read (Unit {0})
next_at p ts = if has p ts then Ok (tt, behind ts) else refused ts

abbrev pub mark_at : Mark → List Tok → Read (Unit {0})
mark_at m ts = next_at (is_mark m) ts

-- Lists.

-- further items, each behind a comma; the number is at least that of the tokens
unfoldable pub more_at : {A : Type 0} → (List Tok → Read A) → ℕ → List Tok → Read (List A)
more_at item zero ts = Ok ([], ts)
more_at item (suc n) ts =
    if has (is_mark Comma) ts then
    (item (behind ts) >>= λ x. more_at item n x.1 >>= λ xs. Ok (x.0 ∷ xs.0, xs.1))
    else Ok ([], ts)

-- one item or more, with commas between them
abbrev pub items_at : {A : Type 0} → (List Tok → Read A) → List Tok → Read (List A)
items_at item ts = do
  x ← item ts
  xs ← more_at item (length x.1) x.1
  Ok (x.0 ∷ xs.0, xs.1)

-- the same, and the mark that closes them
abbrev pub closed_at : {A : Type 0} → Mark → (List Tok → Read A) → List Tok → Read (List A)
closed_at close item ts = do
  xs ← items_at item ts
  c ← mark_at close xs.1
  Ok (xs.0, c.1)

-- items with commas between them, or none, and the mark that closes them
abbrev pub listed_at : {A : Type 0} → Mark → (List Tok → Read A) → List Tok → Read (List A)
listed_at close item ts = if has (is_mark close) ts then Ok ([], behind ts) else closed_at close item ts
