-- Operands joined one after the other, as a loop does.
use Rattle.std.proofs.Common.{◌≡◌, ℕ, zero, suc, ◌≤◌, ◌<◌, Some, None, List, [], ◌∷◌, length, Ok, Err, refl, sym, ◌∙◌, subst, arith}
use Rattle.lx_annot.specs.declared.expr.Mark.{Mark}
use Rattle.lx_annot.specs.Expr.{Expr, Binary}
use Rattle.lx_annot_expressions.specs.declared.fault.Fault.{Fault}
use Rattle.lx_annot_expressions.specs.declared.fault.ReadError.{ReadError}
use Rattle.lx_annot_expressions.specs.declared.fault.ReadError.TheVariants as errors
use Rattle.lx_annot_expressions.specs.Tokens.{Tok}
use Rattle.lx_annot_expressions.specs.Reading.{Read, Fails, behind}
use Rattle.lx_annot_expressions.specs.Operators.{operator_next}
use Rattle.lx_annot_expressions.specs.Exprs.{chain_at}

pub record Chaining (operand : List Tok → Read Expr) (level : ℕ) (left : Expr) (rest : List Tok) (total : Read Expr) : Type 0 where
  pub fuel : ℕ
  pub enough : length rest ≤ fuel
  pub so_far : chain_at operand level fuel left rest ≡ total

pub behind_operator : (level : ℕ) (ts : List Tok) (m : Mark) → operator_next level ts ≡ Some m → length (behind ts) < length ts
behind_operator level [] m h = cc
behind_operator level (t ∷ ts) m h = omega arith

pub chain_begins : (operand : List Tok → Read Expr) (level : ℕ) (left : Expr) (ts : List Tok) → Chaining operand level left ts (chain_at operand level (length ts) left ts)
chain_begins operand level left ts = record { fuel = length ts; enough = omega arith; so_far = refl }

step : (operand : List Tok → Read Expr) (level fuel : ℕ) (left : Expr) (rest us : List Tok) (m : Mark) (b : Expr) (total : Read Expr) → length rest ≤ fuel → operator_next level rest ≡ Some m → chain_at operand level fuel left rest ≡ total → operand (behind rest) ≡ Ok (b, us) → length us ≤ length (behind rest) → Chaining operand level (Binary m left b) us total
unfolding chain_at
step operand level zero left rest us m b total le h so_far e l = let s = behind_operator level rest m h in absurd (omega (arith, s, le))
step operand level (suc fuel) left rest us m b total le h so_far e l =
    let s = behind_operator level rest m h in
    let one : chain_at operand level (suc fuel) left rest ≡ chain_at operand level fuel (Binary m left b) us = rw (h, e) refl in
    record { fuel = fuel; enough = omega (arith, s, le, l); so_far = sym one ∙ so_far }

-- one more operand behind an operator
pub chain_goes_on : (operand : List Tok → Read Expr) (level : ℕ) (left new : Expr) (rest ts us : List Tok) (m : Mark) (b : Expr) (total : Read Expr) → new ≡ Binary m left b → Chaining operand level left rest total → operator_next level rest ≡ Some m → ts ≡ behind rest → operand ts ≡ Ok (b, us) → length us ≤ length ts → Chaining operand level new us total
chain_goes_on operand level left new rest ts us m b total n g h t e l =
    let e' : operand (behind rest) ≡ Ok (b, us) = subst (λ r. operand r ≡ Ok (b, us)) t e in
    let l' : length us ≤ length (behind rest) = subst (λ r. length us ≤ length r) t l in
    subst (λ x. Chaining operand level x us total) (sym n) (step operand level g.fuel left rest us m b total g.enough h g.so_far e' l')

fails_step : (operand : List Tok → Read Expr) (level fuel : ℕ) (left : Expr) (rest : List Tok) (m : Mark) (f : Fault) (total : Read Expr) → length rest ≤ fuel → operator_next level rest ≡ Some m → chain_at operand level fuel left rest ≡ total → operand (behind rest) ≡ Err f → total ≡ Err f
unfolding chain_at
fails_step operand level zero left rest m f total le h so_far e = let s = behind_operator level rest m h in absurd (omega (arith, s, le))
fails_step operand level (suc fuel) left rest m f total le h so_far e =
    let one : chain_at operand level (suc fuel) left rest ≡ Err f = rw (h, e) refl in
    sym so_far ∙ one

-- the operand behind an operator is at fault
pub chain_fails : (operand : List Tok → Read Expr) (level : ℕ) (left : Expr) (rest ts : List Tok) (m : Mark) (e : ReadError) (total : Read Expr) → Chaining operand level left rest total → operator_next level rest ≡ Some m → ts ≡ behind rest → Fails e (operand ts) → Fails e total
chain_fails operand level left rest ts m errors.Memory total g h t e = tt
chain_fails operand level left rest ts m (errors.Fault f) total g h t e =
    fails_step operand level g.fuel left rest m f total g.enough h g.so_far (subst (λ r. operand r ≡ Err f) t e)

no_more : (operand : List Tok → Read Expr) (level fuel : ℕ) (left : Expr) (ts : List Tok) → operator_next level ts ≡ None → chain_at operand level fuel left ts ≡ Ok (left, ts)
unfolding chain_at
no_more operand level zero left ts h = refl
no_more operand level (suc fuel) left ts h = rw h refl

-- no further operator stands there
pub chain_ends : (operand : List Tok → Read Expr) (level : ℕ) (left : Expr) (rest : List Tok) (total : Read Expr) → Chaining operand level left rest total → operator_next level rest ≡ None → total ≡ Ok (left, rest)
chain_ends operand level left rest total g h = sym g.so_far ∙ no_more operand level g.fuel left rest h
