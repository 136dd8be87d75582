-- A function that jumps holds the same words in both runs, behind the phis of the block that it comes to.
use Rattle.std.proofs.Common.{◌≡◌, ℕ, zero, suc, ◌+◌, true, false, ◌||◌, ◌⊎◌, List, [], ◌∷◌, length, map, take, Option, Some, None, inl, inr, refl, sym, subst, ◌∙◌, ap, eqb-true}
use Rattle.std.specs.Prelude.{slice_set, find, bytes_eq, option_map, unwrap_or}
use Rattle.std.proofs.lemmas.Bool.{or_cases}
use Rattle.lx_words.specs.Word.{Word}
use Rattle.lx_ir.specs.declared.module.Value.{Value}
use Rattle.lx_ir.specs.declared.module.Value.TheVariants as value
use Rattle.lx_ir.specs.declared.module.Function.{Function}
use Rattle.lx_ir.specs.declared.module.Module.{Module}
use Rattle.lx_ir.specs.declared.instr.Edge.{Edge}
use Rattle.lx_ir.specs.declared.instr.Instr.{Instr}
use Rattle.lx_ir.specs.declared.instr.Op.{Op}
use Rattle.lx_ir.specs.declared.instr.Op.TheVariants as op
use Rattle.lx_ir.specs.Operands.{given_by, is_terminator, is_phi, targets_of}
use Rattle.lx_ir.specs.Faults.{instrs_at, no_instrs, is_given, assigns, walk_assigns}
use Rattle.lx_model.specs.declared.program.Program.{Program}
use Rattle.lx_model.specs.Thread.{CodeBlock, Activation, zero_word}
use Rattle.lx_model.specs.Effect.{operand, edge_value, with_phi, with_phis, without_phis}
use Rattle.lx_images.specs.Places.{IsIn}
use Rattle.lx_simulation.proofs.Elements.{any_in}
use Rattle.lx_simulation.proofs.Verifying.{op_of, PhisLead, Sound}
use Rattle.lx_simulation.proofs.Walking.{name_of, Arrives, grows}
use Rattle.lx_simulation.proofs.Jumping.{at_block, one_length, phis_length, edge}
use Rattle.lx_linked.specs.Alike.{PhiReads}
use Rattle.lx_linked.proofs.AssignedReads.{Known}
use Rattle.lx_linked.proofs.Standing.{held, holding, Stood, set_here, set_same, AtEnd, at_its_end, whole_assigned, known_at_end, phi_same}

-- the phi has the same value in both
abbrev ValueSame : Program → Activation → List Word → Op → Type 0
ValueSame p a qs (op.Phi to ty edges) = edge_value p (holding qs a) edges ≡ edge_value p a edges
ValueSame p a qs o = Unit {0}

abbrev PhiGives : ℕ → Op → Type 0
PhiGives r (op.Phi to ty edges) = to ≡ r
PhiGives r o = ⊥

abbrev PhisGive : ℕ → List Op → Type 0
PhisGive r [] = ⊥
PhisGive r (o ∷ os) = PhiGives r o ⊎ PhisGive r os

set_given : (xs ys : List Word) (to r : ℕ) (v w : Word) → length xs ≡ length ys → v ≡ w → to ≡ r → held (slice_set xs to v) r ≡ held (slice_set ys to w) r
set_given xs ys to r v w long ev er =
    subst (λ (n : ℕ). held (slice_set xs to v) n ≡ held (slice_set ys to w) n) er (ap (λ (x : Word). held (slice_set xs to x) to) ev ∙ set_here xs ys to w long)

set_other : (xs ys : List Word) (to r : ℕ) (v w : Word) → length xs ≡ length ys → v ≡ w → held xs r ≡ held ys r → held (slice_set xs to v) r ≡ held (slice_set ys to w) r
set_other xs ys to r v w long ev h = ap (λ (x : Word). held (slice_set xs to x) r) ev ∙ set_same xs ys to r w long (λ e. h)

after_one : (p : Program) (a : Activation) (qs : List Word) (o : Op) (os : List Op) (xs ys : List Word) (r : ℕ) → length xs ≡ length ys → ValueSame p a qs o → (PhisGive r (o ∷ os) ⊎ (held xs r ≡ held ys r)) →
    PhisGive r os ⊎ (held (with_phi p (holding qs a) o xs) r ≡ held (with_phi p a o ys) r)
after_one p a qs (op.Phi to ty edges) os xs ys r long v (inl (inl e)) = inr (set_given xs ys to r (edge_value p (holding qs a) edges) (edge_value p a edges) long v e)
after_one p a qs (op.Phi to ty edges) os xs ys r long v (inl (inr g)) = inl g
after_one p a qs (op.Phi to ty edges) os xs ys r long v (inr h) = inr (set_other xs ys to r (edge_value p (holding qs a) edges) (edge_value p a edges) long v h)
after_one p a qs o os xs ys r long v (inl (inl e)) = absurd e
after_one p a qs o os xs ys r long v (inl (inr g)) = inl g
after_one p a qs o os xs ys r long v (inr h) = inr h

phis_same : (p : Program) (a : Activation) (qs : List Word) (os : List Op) (xs ys : List Word) (r : ℕ) → length xs ≡ length ys → ((o : Op) → IsIn o os → ValueSame p a qs o) → (PhisGive r os ⊎ (held xs r ≡ held ys r)) →
    held (with_phis p (holding qs a) os xs) r ≡ held (with_phis p a os ys) r
phis_same p a qs [] xs ys r long v (inl g) = absurd g
phis_same p a qs [] xs ys r long v (inr h) = h
phis_same p a qs (o ∷ os) xs ys r long v h =
    phis_same p a qs os (with_phi p (holding qs a) o xs) (with_phi p a o ys) r (one_length p (holding qs a) o xs ∙ (long ∙ sym (one_length p a o ys))) (λ x i. v x (inr i)) (after_one p a qs o os xs ys r long (v o (inl refl)) h)

-- values of phis

pub operand_same : (p : Program) (a : Activation) (qs : List Word) (v : Value) → ((r : ℕ) → v ≡ value.Register r → held qs r ≡ held a.registers r) → operand p (holding qs a) v ≡ operand p a v
operand_same p a qs (value.Register r) h = h r refl
operand_same p a qs (value.Constant c) h = refl

edge_same : (p : Program) (a : Activation) (qs : List Word) (found : Option Edge) → ((e : Edge) (r : ℕ) → found ≡ Some e → e.value ≡ value.Register r → held qs r ≡ held a.registers r) →
    unwrap_or (option_map (λ (e : Edge). operand p (holding qs a) e.value) found) zero_word ≡ unwrap_or (option_map (λ (e : Edge). operand p a e.value) found) zero_word
edge_same p a qs None h = refl
edge_same p a qs (Some e) h = operand_same p a qs e.value (λ r ev. h e r refl ev)

value_same : (p : Program) (a : Activation) (qs : List Word) (b : CodeBlock) → ((r : ℕ) → PhiReads a.label b r → held qs r ≡ held a.registers r) → (o : Op) → IsIn o b.code → ValueSame p a qs o
value_same p a qs b h (op.Phi to ty edges) i = edge_same p a qs (find (λ (e : Edge). bytes_eq e.label a.label) edges) (λ e r ef ev. h r (to, ty, edges, e, i, ef, ev))
value_same p a qs b h o i = tt

-- what is known behind the jump

gives_in : (r : ℕ) (o : Op) (os : List Op) → IsIn o os → PhiGives r o → PhisGive r os
gives_in r o [] i g = absurd i
gives_in r o (x ∷ os) (inl e) g = inl (subst (PhiGives r) (sym e) g)
gives_in r o (x ∷ os) (inr i) g = inr (gives_in r o os i g)

phi_gives : (r : ℕ) (o : Op) → is_phi o ≡ true → is_given r (given_by o) ≡ true → PhiGives r o
phi_gives r (op.Phi to ty edges) e g = eqb-true to r g
phi_gives r o e g = absurd (no_phi e)
  where
    no_phi : false ≡ true → ⊥
    no_phi e = cc

op_taken : (is : List Instr) (n : ℕ) (i : Instr) → IsIn i (take n is) → IsIn i.op (map op_of is)
op_taken is zero i a = absurd a
op_taken [] (suc n) i a = absurd a
op_taken (x ∷ is) (suc n) i (inl e) = inl (ap op_of e)
op_taken (x ∷ is) (suc n) i (inr a) = inr (op_taken is n i a)

lead_gives : (r : ℕ) (is : List Instr) (lead : PhisLead is) → assigns (take lead.place is) r ≡ true → PhisGive r (map op_of is)
lead_gives r is lead e =
    let f = any_in (λ (i : Instr). is_given r (given_by i.op)) (take lead.place is) e in
    gives_in r f.0.op (map op_of is) (op_taken is lead.place f.0 f.1) (phi_gives r f.0.op (lead.phis f.0 f.1) f.2)

known_there : (g : Function) (a : Activation) (qs : List Word) (walk : List ℕ) (block place : ℕ) (o : Op) (os : List Op) (to r : ℕ) (code : List Op) → AtEnd g a block place o os → given_by o ≡ None →
    (lead : PhisLead (instrs_at g to)) → code ≡ map op_of (instrs_at g to) → ((r : ℕ) → Known g walk block place r → held qs r ≡ held a.registers r) → Known g (block ∷ walk) to lead.place r →
    PhisGive r code ⊎ (held qs r ≡ held a.registers r)
known_there g a qs walk block place o os to r code at gives lead ec same (inl l) = inr (same r (inl l))
known_there g a qs walk block place o os to r code at gives lead ec same (inr k) =
    elim (or_cases (assigns (instrs_at g block) r || walk_assigns g walk r) (assigns (take lead.place (instrs_at g to)) r) k) [
      | inl before ↦ inr (same r (known_at_end g walk block place r o os at.here gives (inr (whole_assigned g walk block place r at.whole before))))
      | inr here ↦ inl (subst (PhisGive r) (sym ec) (lead_gives r (instrs_at g to) lead here))
    ]

-- the instruction ends its block, and control comes to another
pub jumped : (p : Program) (m : Module) (g : Function) → Sound m g → (a : Activation) (qs : List Word) (b : CodeBlock) (label : List ℕ) (o : Op) (os : List Op) →
    a.code ≡ o ∷ os → is_terminator o ≡ true → given_by o ≡ None → IsIn label (targets_of o) → Arrives g label b → Stood g a qs → Stood g (at_block p a b) (with_phis p (holding qs a) b.code qs)
jumped p m g s a qs b label o os ec ends gives target x st =
    let at = at_its_end m g s a st.block st.place o os st.label st.code ec ends in
    let there : instrs_at g x.block ≡ x.body.instrs = ap no_instrs x.got in
    let code : b.code ≡ map op_of (instrs_at g x.block) = ap (λ (c : CodeBlock). c.code) x.is ∙ ap (map op_of) (sym there) in
    let lead = s.phis x.block in
    record {
      blocks = st.blocks;
      block = x.block;
      place = lead.place;
      label = ap (λ (c : CodeBlock). c.label) x.is ∙ ap name_of (sym x.got);
      code = ap without_phis code ∙ lead.rest;
      walk = st.block ∷ st.walk;
      comes = (edge g st.block x.block at.body o label at.here.instr at.got at.last at.here.same target x.number, st.comes);
      many = grows (length g.params + length g.locals) a.registers (with_phis p a b.code a.registers) (phis_length p a b.code a.registers) st.many;
      long = phis_length p (holding qs a) b.code qs ∙ (st.long ∙ sym (phis_length p a b.code a.registers));
      same = λ r known.
          phis_same p a qs b.code qs a.registers r st.long (value_same p a qs b (λ r reads. (phi_same m g s a qs b label o os ec ends gives x st r reads).1))
          (known_there g a qs st.walk st.block st.place o os x.block r b.code at gives lead code st.same known);
    }
