-- Reading step by step, where each step goes on from what was read before it.
use Rattle.std.specs.Prelude.{◌≡◌, ℕ, zero, suc, Bool, List, Result, Ok, Err, if◌then◌else◌}
use Rattle.lx_ir_tokens.specs.declared.token.Tok.{Tok}
use Rattle.lx_ir_terms.specs.declared.fault.ReadError.{ReadError}
use Rattle.lx_ir_terms.specs.Reading.{Read, ◌>>=◌, Fails}

-- steps from what was read before, as long as the test holds; the number is at least that of the tokens
unfoldable pub going_at : {S : Type 0} → (S → List Tok → Bool) → (S → List Tok → Read S) → ℕ → S → List Tok → Read S
going_at go step zero s ts = Ok (s, ts)
going_at go step (suc n) s ts = if go s ts then (step s ts >>= λ x. going_at go step n x.0 x.1) else Ok (s, ts)

-- what was read before becomes this, and the tokens that are left are what reading gives, unless memory ran out
abbrev pub Leaves : {X S : Type 0} → Result X ReadError → S → List Tok → Read S → Type 0
Leaves (Ok x) s left read = read ≡ Ok (s, left)
Leaves (Err e) s left read = Fails e read

-- an answer, what else becomes of it, and the tokens that are left are what reading gives, unless memory ran out
abbrev pub GivesWith : {X S : Type 0} → Result X ReadError → S → List Tok → Read (X × S) → Type 0
GivesWith (Ok x) s left read = read ≡ Ok ((x, s), left)
GivesWith (Err e) s left read = Fails e read
