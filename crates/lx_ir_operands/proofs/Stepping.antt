-- Steps one after the other, as a loop does them.
use Rattle.std.proofs.Common.{◌≡◌, ℕ, zero, suc, ◌≤◌, ◌<◌, Bool, true, false, List, [], ◌∷◌, length, Ok, Err, refl, sym, ◌∙◌, arith}
use Rattle.lx_ir_tokens.specs.declared.token.Tok.{Tok}
use Rattle.lx_ir_terms.specs.declared.fault.Fault.{Fault}
use Rattle.lx_ir_terms.specs.declared.fault.ReadError.{ReadError}
use Rattle.lx_ir_terms.specs.declared.fault.ReadError.TheVariants as errors
use Rattle.lx_ir_terms.specs.Reading.{Read, Fails, behind}
use Rattle.lx_ir_operands.specs.Steps.{has_attribute, steps_at}

pub record Stepping (go : List Tok → Bool) (step : List Tok → Read (Unit {0})) (rest : List Tok) (total : Read (Unit {0})) : Type 0 where
  pub fuel : ℕ
  pub enough : length rest ≤ fuel
  pub so_far : steps_at go step fuel rest ≡ total

one : (go : List Tok → Bool) (step : List Tok → Read (Unit {0})) (fuel : ℕ) (rest us : List Tok) (total : Read (Unit {0})) → length rest ≤ fuel → go rest ≡ true → steps_at go step fuel rest ≡ total → step rest ≡ Ok (tt, us) → length us < length rest → Stepping go step us total
unfolding steps_at
one go step zero rest us total le h so_far e l = absurd (omega (arith, l, le))
one go step (suc fuel) rest us total le h so_far e l =
    let made : steps_at go step (suc fuel) rest ≡ steps_at go step fuel us = rw (h, e) refl in
    record { fuel = fuel; enough = omega arith; so_far = sym made ∙ so_far }

pub steps_on : (go : List Tok → Bool) (step : List Tok → Read (Unit {0})) (rest us : List Tok) (total : Read (Unit {0})) → Stepping go step rest total → go rest ≡ true → step rest ≡ Ok (tt, us) → length us < length rest → Stepping go step us total
steps_on go step rest us total p h e l = one go step p.fuel rest us total p.enough h p.so_far e l

one_fails : (go : List Tok → Bool) (step : List Tok → Read (Unit {0})) (fuel : ℕ) (rest : List Tok) (f : Fault) (total : Read (Unit {0})) → length rest ≤ fuel → 0 < length rest → go rest ≡ true → steps_at go step fuel rest ≡ total → step rest ≡ Err f → total ≡ Err f
unfolding steps_at
one_fails go step zero rest f total le some h so_far e = absurd (omega (arith, some, le))
one_fails go step (suc fuel) rest f total le some h so_far e =
    let made : steps_at go step (suc fuel) rest ≡ Err f = rw (h, e) refl in
    sym so_far ∙ made

pub step_fails : (go : List Tok → Bool) (step : List Tok → Read (Unit {0})) (rest : List Tok) (e : ReadError) (total : Read (Unit {0})) → Stepping go step rest total → 0 < length rest → go rest ≡ true → Fails e (step rest) → Fails e total
step_fails go step rest errors.Memory total p some h e = tt
step_fails go step rest (errors.Fault f) total p some h e = one_fails go step p.fuel rest f total p.enough some h p.so_far e

pub none : (go : List Tok → Bool) (step : List Tok → Read (Unit {0})) (fuel : ℕ) (rest : List Tok) → go rest ≡ false → steps_at go step fuel rest ≡ Ok (tt, rest)
unfolding steps_at
none go step zero rest h = refl
none go step (suc fuel) rest h = rw h refl

pub steps_end : (go : List Tok → Bool) (step : List Tok → Read (Unit {0})) (rest : List Tok) (total : Read (Unit {0})) → Stepping go step rest total → go rest ≡ false → total ≡ Ok (tt, rest)
steps_end go step rest total p h = sym p.so_far ∙ none go step p.fuel rest h

-- an attribute that stands next is a token
pub attribute_shorter : (ts : List Tok) → has_attribute ts ≡ true → length (behind ts) < length ts
attribute_shorter [] h = cc
attribute_shorter (t ∷ ts) h = omega arith
