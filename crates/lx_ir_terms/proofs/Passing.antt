-- Words that are passed over one after the other, as a loop does.
use Rattle.std.proofs.Common.{◌≡◌, ℕ, zero, suc, ◌≤◌, Bool, true, false, List, length, Ok, Err, refl, sym, ◌∙◌, arith}
use Rattle.lx_ir_tokens.specs.declared.token.Tok.{Tok}
use Rattle.lx_ir_terms.specs.declared.fault.Fault.{Fault}
use Rattle.lx_ir_terms.specs.declared.fault.ReadError.{ReadError}
use Rattle.lx_ir_terms.specs.declared.fault.ReadError.TheVariants as errors
use Rattle.lx_ir_terms.specs.Reading.{Read, Fails, has, behind}
use Rattle.lx_ir_terms.specs.Words.{is_passed, tail_at, first_word, words_at}
use Rattle.lx_ir_terms.proofs.Loop.{behind_shorter}

pub record Passing (linkage : Bool) (rest : List Tok) (total : Read (Unit {0})) : Type 0 where
  pub fuel : ℕ
  pub enough : length rest ≤ fuel
  pub so_far : words_at linkage fuel rest ≡ total

step : (linkage : Bool) (fuel : ℕ) (rest us : List Tok) (total : Read (Unit {0})) → length rest ≤ fuel → has (is_passed linkage) rest ≡ true → words_at linkage fuel rest ≡ total → tail_at (first_word rest) (behind rest) ≡ Ok (tt, us) → length us ≤ length (behind rest) → Passing linkage us total
unfolding words_at
step linkage zero rest us total le h so_far e l = let s = behind_shorter (is_passed linkage) rest h in absurd (omega (arith, s, le))
step linkage (suc fuel) rest us total le h so_far e l =
    let s = behind_shorter (is_passed linkage) rest h in
    let one : words_at linkage (suc fuel) rest ≡ words_at linkage fuel us = rw (h, e) refl in
    record { fuel = fuel; enough = omega arith; so_far = sym one ∙ so_far }

pub passes_on : (linkage : Bool) (rest us : List Tok) (total : Read (Unit {0})) → Passing linkage rest total → has (is_passed linkage) rest ≡ true → tail_at (first_word rest) (behind rest) ≡ Ok (tt, us) → length us ≤ length (behind rest) → Passing linkage us total
passes_on linkage rest us total p h e l = step linkage p.fuel rest us total p.enough h p.so_far e l

fails_step : (linkage : Bool) (fuel : ℕ) (rest : List Tok) (f : Fault) (total : Read (Unit {0})) → length rest ≤ fuel → has (is_passed linkage) rest ≡ true → words_at linkage fuel rest ≡ total → tail_at (first_word rest) (behind rest) ≡ Err f → total ≡ Err f
unfolding words_at
fails_step linkage zero rest f total le h so_far e = let s = behind_shorter (is_passed linkage) rest h in absurd (omega (arith, s, le))
fails_step linkage (suc fuel) rest f total le h so_far e =
    let one : words_at linkage (suc fuel) rest ≡ Err f = rw (h, e) refl in
    sym so_far ∙ one

pub pass_fails : (linkage : Bool) (rest : List Tok) (e : ReadError) (total : Read (Unit {0})) → Passing linkage rest total → has (is_passed linkage) rest ≡ true → Fails e (tail_at (first_word rest) (behind rest)) → Fails e total
pass_fails linkage rest errors.Memory total p h e = tt
pass_fails linkage rest (errors.Fault f) total p h e = fails_step linkage p.fuel rest f total p.enough h p.so_far e

no_more : (linkage : Bool) (fuel : ℕ) (rest : List Tok) → has (is_passed linkage) rest ≡ false → words_at linkage fuel rest ≡ Ok (tt, rest)
unfolding words_at
no_more linkage zero rest h = refl
no_more linkage (suc fuel) rest h = rw h refl

pub passing_ends : (linkage : Bool) (rest : List Tok) (total : Read (Unit {0})) → Passing linkage rest total → has (is_passed linkage) rest ≡ false → total ≡ Ok (tt, rest)
passing_ends linkage rest total p h = sym p.so_far ∙ no_more linkage p.fuel rest h
