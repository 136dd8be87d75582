-- Steps that go on from what was read before, as a loop does them.
use Rattle.std.proofs.Common.{◌≡◌, ℕ, zero, suc, ◌≤◌, ◌<◌, Bool, true, false, List, [], ◌∷◌, length, Ok, Err, refl, sym, ◌∙◌, arith}
use Rattle.lx_ir_tokens.specs.declared.token.Tok.{Tok}
use Rattle.lx_ir_terms.specs.declared.fault.Fault.{Fault}
use Rattle.lx_ir_terms.specs.declared.fault.ReadError.{ReadError}
use Rattle.lx_ir_terms.specs.declared.fault.ReadError.TheVariants as errors
use Rattle.lx_ir_terms.specs.Reading.{Read, Fails, behind}
use Rattle.lx_ir_statements.specs.Going.{going_at}
use Rattle.lx_ir_statements.specs.Words.{has_import_attribute, has_function_attribute}

pub record Onward {S : Type 0} (go : S → List Tok → Bool) (step : S → List Tok → Read S) (s : S) (rest : List Tok) (total : Read S) : Type 0 where
  pub fuel : ℕ
  pub enough : length rest ≤ fuel
  pub so_far : going_at go step fuel s rest ≡ total

one : {S : Type 0} (go : S → List Tok → Bool) (step : S → List Tok → Read S) (fuel : ℕ) (s s' : S) (rest us : List Tok) (total : Read S) → length rest ≤ fuel → go s rest ≡ true → going_at go step fuel s rest ≡ total → step s rest ≡ Ok (s', us) → length us < length rest → Onward go step s' us total
unfolding going_at
one go step zero s s' rest us total le h so_far e l = absurd (omega (arith, l, le))
one go step (suc fuel) s s' rest us total le h so_far e l =
    let made : going_at go step (suc fuel) s rest ≡ going_at go step fuel s' us = rw (h, e) refl in
    record { fuel = fuel; enough = omega arith; so_far = sym made ∙ so_far }

-- one step more
pub goes_on : {S : Type 0} (go : S → List Tok → Bool) (step : S → List Tok → Read S) (s s' : S) (rest us : List Tok) (total : Read S) → Onward go step s rest total → go s rest ≡ true → step s rest ≡ Ok (s', us) → length us < length rest → Onward go step s' us total
goes_on go step s s' rest us total p h e l = one go step p.fuel s s' rest us total p.enough h p.so_far e l

one_fails : {S : Type 0} (go : S → List Tok → Bool) (step : S → List Tok → Read S) (fuel : ℕ) (s : S) (rest : List Tok) (f : Fault) (total : Read S) → length rest ≤ fuel → 0 < length rest → go s rest ≡ true → going_at go step fuel s rest ≡ total → step s rest ≡ Err f → total ≡ Err f
unfolding going_at
one_fails go step zero s rest f total le some h so_far e = absurd (omega (arith, some, le))
one_fails go step (suc fuel) s rest f total le some h so_far e =
    let made : going_at go step (suc fuel) s rest ≡ Err f = rw (h, e) refl in
    sym so_far ∙ made

-- the next step is at fault
pub step_fails : {S : Type 0} (go : S → List Tok → Bool) (step : S → List Tok → Read S) (s : S) (rest : List Tok) (e : ReadError) (total : Read S) → Onward go step s rest total → 0 < length rest → go s rest ≡ true → Fails e (step s rest) → Fails e total
step_fails go step s rest errors.Memory total p some h e = tt
step_fails go step s rest (errors.Fault f) total p some h e = one_fails go step p.fuel s rest f total p.enough some h p.so_far e

none : {S : Type 0} (go : S → List Tok → Bool) (step : S → List Tok → Read S) (fuel : ℕ) (s : S) (rest : List Tok) → go s rest ≡ false → going_at go step fuel s rest ≡ Ok (s, rest)
unfolding going_at
none go step zero s rest h = refl
none go step (suc fuel) s rest h = rw h refl

-- no further step
pub ends : {S : Type 0} (go : S → List Tok → Bool) (step : S → List Tok → Read S) (s : S) (rest : List Tok) (total : Read S) → Onward go step s rest total → go s rest ≡ false → total ≡ Ok (s, rest)
ends go step s rest total p h = sym p.so_far ∙ none go step p.fuel s rest h

-- what the tests of the loops see is a token

pub function_attributes_shorter : (ts : List Tok) → has_function_attribute ts ≡ true → length (behind ts) < length ts
function_attributes_shorter [] h = cc
function_attributes_shorter (t ∷ ts) h = omega arith

pub import_attributes_shorter : (ts : List Tok) → has_import_attribute ts ≡ true → length (behind ts) < length ts
import_attributes_shorter [] h = cc
import_attributes_shorter (t ∷ ts) h = omega arith
