-- Places of instructions in a block.
use Rattle.std.proofs.Common.{◌≡◌, ℕ, zero, suc, ◌≤◌, Bool, true, false, not, cond, Option, Some, None, List, [], ◌∷◌, length, map, drop, refl, sym, ap, ◌∙◌, arith}
use Rattle.std.specs.Prelude.{slice_get, option_map}
use Rattle.std.proofs.lemmas.Option.{slice_get-map, slice_get_past}
use Rattle.lx_ir.specs.declared.instr.Instr.{Instr}
use Rattle.lx_ir.specs.declared.instr.Op.{Op}
use Rattle.lx_model.specs.declared.program.Program.{Program}
use Rattle.lx_model.specs.Thread.{Activation, behind_head}
use Rattle.lx_model.specs.Effect.{is_phi, without_phis, returned_by, returned_at, returned_value, site_result, call_result}
use Rattle.lx_image_steps.specs.Standing.{rest_from, front_at, behind_found, head_of, phi_at, is_phi_in}

pub drop_at : {A : Type 0} (xs : List A) (k : ℕ) (x : A) → slice_get xs k ≡ Some x → drop k xs ≡ x ∷ drop (suc k) xs
drop_at [] k x is = absurd (cc)
drop_at (y ∷ ys) zero x is =
    let e : y ≡ x = cc in
    ap (λ z. z ∷ ys) e
drop_at (y ∷ ys) (suc k) x is = drop_at ys k x is

pub drop_past : {A : Type 0} (xs : List A) (k : ℕ) → slice_get xs k ≡ None → drop k xs ≡ []
drop_past [] zero is = refl
drop_past [] (suc k) is = refl
drop_past (y ∷ ys) zero is = absurd (cc)
drop_past (y ∷ ys) (suc k) is = drop_past ys k is

-- whether a phi stands at the place of an instruction
pub op_at : (is : List Instr) (k : ℕ) → slice_get (map (λ i. i.op) is) k ≡ option_map (λ i. i.op) (slice_get is k)
op_at is k = slice_get-map (λ i. i.op) is k

pub op_placed : (is : List Instr) (code : List Op) (k : ℕ) (i : Instr) → map (λ i. i.op) is ≡ code → slice_get is k ≡ Some i → slice_get code k ≡ Some i.op
op_placed is code k i same at = ap (λ (os : List Op). slice_get os k) (sym same) ∙ op_at is k ∙ ap (option_map (λ (i : Instr). i.op)) at

pub phi_there : (is : List Instr) (k : ℕ) (i : Instr) → slice_get is k ≡ Some i → is_phi i.op ≡ phi_at (map (λ i. i.op) is) k
phi_there is k i e = sym (ap is_phi_in (op_at is k ∙ ap (option_map (λ i. i.op)) e))

pub no_phi_there : (is : List Instr) (k : ℕ) → slice_get is k ≡ None → false ≡ phi_at (map (λ i. i.op) is) k
no_phi_there is k e = sym (ap is_phi_in (op_at is k ∙ ap (option_map (λ i. i.op)) e))

-- what is left of a block

pub plain_for : (o : Option Op) (k : ℕ) (code : List Op) → slice_get code k ≡ o → rest_from false k code ≡ behind_found false k code o
plain_for None k code e = drop_past code k e
plain_for (Some o) k code e = drop_at code k o e

pub plain_here : (k : ℕ) (code : List Op) → rest_from false k code ≡ front_at false k code
plain_here k code = plain_for (slice_get code k) k code refl

without : (b : Bool) (o : Op) (os : List Op) → is_phi o ≡ b → without_phis (o ∷ os) ≡ cond (not b) (o ∷ without_phis os) (without_phis os)
without b o os e = ap (λ c. cond (not c) (o ∷ without_phis os) (without_phis os)) e

passed_for : (o : Option Op) (k : ℕ) (code : List Op) → slice_get code k ≡ o → is_phi_in o ≡ true → rest_from true k code ≡ rest_from true (suc k) code
passed_for None k code e h = absurd (cc)
passed_for (Some o) k code e h = ap without_phis (drop_at code k o e) ∙ without true o (drop (suc k) code) h

pub phi_passed : (k : ℕ) (code : List Op) → phi_at code k ≡ true → rest_from true k code ≡ rest_from true (suc k) code
phi_passed k code h = passed_for (slice_get code k) k code refl h

found_for : (o : Option Op) (k : ℕ) (code : List Op) → slice_get code k ≡ o → is_phi_in o ≡ false → rest_from true k code ≡ behind_found true k code o
found_for None k code e h = ap without_phis (drop_past code k e)
found_for (Some o) k code e h = ap without_phis (drop_at code k o e) ∙ without false o (drop (suc k) code) h

pub found_here : (k : ℕ) (code : List Op) → phi_at code k ≡ false → rest_from true k code ≡ front_at true k code
found_here k code h = found_for (slice_get code k) k code refl h

pub at_the_end : (k : ℕ) (code : List Op) → length code ≤ k → phi_at code k ≡ false
at_the_end k code h = ap is_phi_in (slice_get_past code k h)

-- the next instruction

head_found : (o : Option Op) (arrived : Bool) (k : ℕ) (code : List Op) → head_of (behind_found arrived k code o) ≡ o
head_found None arrived k code = refl
head_found (Some o) arrived k code = refl

pub head_front : (arrived : Bool) (k j : ℕ) (code : List Op) → rest_from arrived k code ≡ front_at arrived j code → head_of (rest_from arrived k code) ≡ slice_get code j
head_front arrived k j code e = ap head_of e ∙ head_found (slice_get code j) arrived j code

pub no_head : (os : List Op) → head_of os ≡ None → os ≡ []
no_head [] e = refl
no_head (o ∷ os) e = absurd (cc)

pub some_head : (os : List Op) (o : Op) → head_of os ≡ Some o → os ≡ o ∷ behind_head os
some_head [] o e = absurd (cc)
some_head (x ∷ os) o e =
    let s : x ≡ o = cc in
    ap (λ y. y ∷ os) s

pub returned_here : (p : Program) (a : Activation) (o : Op) → Some o ≡ head_of a.code → returned_by p a o ≡ returned_value p a
returned_here p a o e = ap (returned_at p a) (sym (some_head a.code o (sym e)))

pub returned_nowhere : (p : Program) (a : Activation) → None ≡ head_of a.code → None ≡ returned_value p a
returned_nowhere p a e = ap (returned_at p a) (sym (no_head a.code (sym e)))

pub expected_here : (os : List Op) (o : Op) → Some o ≡ head_of os → site_result o ≡ call_result os
expected_here os o e = ap call_result (sym (some_head os o (sym e)))

pub expected_nowhere : (os : List Op) → None ≡ head_of os → None ≡ call_result os
expected_nowhere os e = ap call_result (sym (no_head os (sym e)))

pub next_of_block : (is : List Instr) (code : List Op) (arrived : Bool) (k j : ℕ) (o : Option Instr) → map (λ (i : Instr). i.op) is ≡ code →
    rest_from arrived k (map (λ (i : Instr). i.op) is) ≡ front_at arrived j (map (λ (i : Instr). i.op) is) → o ≡ slice_get is j → option_map (λ (i : Instr). i.op) o ≡ head_of (rest_from arrived k code)
next_of_block is code arrived k j o e f g =
    ap (option_map (λ (i : Instr). i.op)) g ∙ sym (op_at is j) ∙ sym (head_front arrived k j (map (λ (i : Instr). i.op) is) f)
    ∙ ap (λ (xs : List Op). head_of (rest_from arrived k xs)) e

same_length : (is : List Instr) → length (map (λ (i : Instr). i.op) is) ≡ length is
same_length [] = refl
same_length (i ∷ is) = ap suc (same_length is)

pub past_end : (is : List Instr) (arrived : Bool) (k : ℕ) → length is ≤ k → arrived ≡ true →
    rest_from true k (map (λ (i : Instr). i.op) is) ≡ front_at arrived (length is) (map (λ (i : Instr). i.op) is)
past_end is arrived k h a =
    let code = map (λ (i : Instr). i.op) is in
    let here : slice_get code k ≡ None = slice_get_past code k (omega (arith, same_length is, h)) in
    let there : slice_get code (length is) ≡ None = slice_get_past code (length is) (omega (arith, same_length is)) in
    found_here k code (ap is_phi_in here) ∙ ap (behind_found true k code) here ∙ ap (behind_found arrived (length is) code) (sym there)
