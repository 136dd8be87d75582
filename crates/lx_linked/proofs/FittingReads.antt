-- What is read has a value.
use Rattle.std.proofs.Common.{◌≡◌, ℕ, zero, suc, ◌+◌, ◌<◌, ◌≤◌, Bool, true, false, ◌||◌, List, [], ◌∷◌, length, take, Option, Some, inl, refl, sym, subst, ◌∙◌, arith}
use Rattle.std.specs.Prelude.{flat_map, slice_get, nat_lt}
use Rattle.lx_words.proofs.Tests.{true_false, zero_more}
use Rattle.lx_words.proofs.Options.{none_some, some_same}
use Rattle.lx_ir.specs.declared.types.Scalar.{Scalar}
use Rattle.lx_ir.specs.declared.module.Value.{Value}
use Rattle.lx_ir.specs.declared.module.Value.TheVariants.{Register}
use Rattle.lx_ir.specs.declared.module.Block.{Block}
use Rattle.lx_ir.specs.declared.module.Function.{Function}
use Rattle.lx_ir.specs.declared.module.Module.{Module}
use Rattle.lx_ir.specs.declared.instr.Argument.{Argument}
use Rattle.lx_ir.specs.declared.instr.Edge.{Edge}
use Rattle.lx_ir.specs.declared.instr.Instr.{Instr}
use Rattle.lx_ir.specs.declared.instr.Op.{Op}
use Rattle.lx_ir.specs.declared.instr.Op.TheVariants as op
use Rattle.lx_ir.specs.Lookup.{blocks_of}
use Rattle.lx_ir.specs.Operands.{given_by, is_phi, operands_of, register_types}
use Rattle.lx_ir.specs.Faults.{Read, reads_of, reads_of_blocks, reads_from, reads_of_op, read_here, read_at_end, block_number, instrs_at, no_instrs, Walk, is_given, assigns, walk_assigns}
use Rattle.lx_images.specs.Places.{IsIn}
use Rattle.lx_simulation.proofs.Elements.{in_first, in_second, in_flat, any_in}
use Rattle.lx_simulation.proofs.Walking.{gives_it}
use Rattle.lx_simulation.proofs.Verifying.{Sound}
use Rattle.lx_simulation.proofs.Jumping.{in_taken}
use Rattle.lx_linked.specs.Threads.{has_value}
use Rattle.lx_linked.proofs.Functions.{Known, given_type, given_typed, param_typed}
use Rattle.lx_linked.proofs.AssignedReads.{block_instr}

-- a read of an instruction is one of the function's

none_more : (n : ℕ) → n + 0 ≡ n
none_more n = omega arith

read_from : (g : Function) (block place j : ℕ) (is : List Instr) (i : Instr) (x : Read) → slice_get is j ≡ Some i → IsIn x (reads_of_op g block (place + j) i.line i.op) → IsIn x (reads_from g block place is)
read_from g block place j [] i x e a = none_some e
read_from g block place zero (y ∷ is) i x e a =
    in_first x (reads_of_op g block place y.line y.op) (reads_from g block (suc place) is)
    (subst (λ (z : Instr). IsIn x (reads_of_op g block place z.line z.op)) (sym (some_same e)) (subst (λ (n : ℕ). IsIn x (reads_of_op g block n i.line i.op)) (none_more place) a))
read_from g block place (suc j) (y ∷ is) i x e a =
    let at : place + suc j ≡ suc place + j = omega arith in
    in_second x (reads_of_op g block place y.line y.op) (reads_from g block (suc place) is)
    (read_from g block (suc place) j is i x e (subst (λ (n : ℕ). IsIn x (reads_of_op g block n i.line i.op)) at a))

read_of : (g : Function) (k j : ℕ) (bs : List Block) (b : Block) (x : Read) → slice_get bs j ≡ Some b → IsIn x (reads_from g (k + j) 0 b.instrs) → IsIn x (reads_of_blocks g k bs)
read_of g k j [] b x e a = none_some e
read_of g k zero (c ∷ bs) b x e a =
    in_first x (reads_from g k 0 c.instrs) (reads_of_blocks g (suc k) bs)
    (subst (λ (y : Block). IsIn x (reads_from g k 0 y.instrs)) (sym (some_same e)) (subst (λ (n : ℕ). IsIn x (reads_from g n 0 b.instrs)) (none_more k) a))
read_of g k (suc j) (c ∷ bs) b x e a =
    let at : k + suc j ≡ suc k + j = omega arith in
    in_second x (reads_from g k 0 c.instrs) (reads_of_blocks g (suc k) bs) (read_of g (suc k) j bs b x e (subst (λ (n : ℕ). IsIn x (reads_from g n 0 b.instrs)) at a))

got_body : (bs : List Block) (k j : ℕ) (i : Instr) → slice_get (no_instrs (slice_get bs k)) j ≡ Some i → (b : Block) × (slice_get bs k ≡ Some b) × (slice_get b.instrs j ≡ Some i)
got_body [] k j i e = none_some e
got_body (b ∷ bs) zero j i e = (b, refl, e)
got_body (b ∷ bs) (suc k) j i e = got_body bs k j i e

read_in : (g : Function) (block place : ℕ) (i : Instr) (x : Read) → slice_get (instrs_at g block) place ≡ Some i → IsIn x (reads_of_op g block place i.line i.op) → IsIn x (reads_of g)
read_in g block place i x e a =
    let at = got_body (blocks_of g) block place i e in
    read_of g 0 block (blocks_of g) at.0 x at.1
    (subst (λ (n : ℕ). IsIn x (reads_from g n 0 at.0.instrs)) (zero_more block)
    (read_from g block 0 place at.0.instrs i x at.2 (subst (λ (n : ℕ). IsIn x (reads_of_op g block n i.line i.op)) (zero_more place) a)))

here_in : (block place line r : ℕ) (v : Value) → v ≡ Register r → IsIn (record { block = block; place = place; register = r; line = line }) (read_here block place line v)
here_in block place line r v e = subst (λ (w : Value). IsIn (record { block = block; place = place; register = r; line = line }) (read_here block place line w)) (sym e) (inl refl)

plain_reads : (g : Function) (block place line : ℕ) (o : Op) → is_phi o ≡ false → reads_of_op g block place line o ≡ flat_map (λ (a : Argument). read_here block place line a.value) (operands_of o)
plain_reads g block place line (op.Phi to ty edges) e = true_false e
plain_reads g block place line o e = refl

-- a read is of a register with a value

read_known : (g : Function) (walk : List ℕ) (block place r : ℕ) (b c d e : Bool) → nat_lt r (length g.params) ≡ b → walk_assigns g walk r ≡ c → assigns (take place (instrs_at g block)) r ≡ d → (b || (c || d)) ≡ e →
    (length g.params ≤ r → c ≡ false → d ≡ false → ⊥) → e ≡ true
read_known g walk block place r true c d e eb ec ed ee never = sym ee
read_known g walk block place r false true d e eb ec ed ee never = sym ee
read_known g walk block place r false false true e eb ec ed ee never = sym ee
read_known g walk block place r false false false e eb ec ed ee never = absurd (never (past r (length g.params) eb) refl refl) where
  past : (a b : ℕ) → nat_lt a b ≡ false → b ≤ a
  past a b h = grind (arith, h)

valued : (m : Module) (g : Function) → Sound m g → (walk : List ℕ) (block place r line : ℕ) → Walk g walk block → IsIn (record { block = block; place = place; register = r; line = line }) (reads_of g) → has_value g walk block place r ≡ true
valued m g s walk block place r line comes a =
    read_known g walk block place r (nat_lt r (length g.params)) (walk_assigns g walk r) (assigns (take place (instrs_at g block)) r) (has_value g walk block place r) refl refl refl refl
    (λ past before here. s.reads (record { block = block; place = place; register = r; line = line }) a (record { no_parameter = past; walk = walk; comes = comes; not_before = before; not_here = here }))

-- an operand of an instruction that is no phi
pub operand_valued : (m : Module) (g : Function) → Sound m g → (walk : List ℕ) (block place : ℕ) (i : Instr) (x : Argument) (r : ℕ) → Walk g walk block → slice_get (instrs_at g block) place ≡ Some i → is_phi i.op ≡ false → IsIn x (operands_of i.op) → x.value ≡ Register r →
    has_value g walk block place r ≡ true
operand_valued m g s walk block place i x r comes e plain a v =
    valued m g s walk block place r i.line comes
    (read_in g block place i _ e
    (subst (λ (xs : List Read). IsIn (record { block = block; place = place; register = r; line = i.line }) xs) (sym (plain_reads g block place i.line i.op plain))
    (in_flat (λ (y : Argument). read_here block place i.line y.value) x (record { block = block; place = place; register = r; line = i.line }) (operands_of i.op) a (here_in block place i.line r x.value v))))

end_in : (g : Function) (n : Option ℕ) (k line r : ℕ) (v : Value) → n ≡ Some k → v ≡ Register r → IsIn (record { block = k; place = length (instrs_at g k); register = r; line = line }) (read_at_end g n line v)
end_in g n k line r v en ev =
    subst (λ (o : Option ℕ). IsIn (record { block = k; place = length (instrs_at g k); register = r; line = line }) (read_at_end g o line v)) (sym en)
    (here_in k (length (instrs_at g k)) line r v ev)

-- an edge of a phi of another block, at the end of the block that its label names
pub edge_valued : (m : Module) (g : Function) → Sound m g → (walk : List ℕ) (k block place : ℕ) (i : Instr) (to : ℕ) (ty : Scalar) (edges : List Edge) (x : Edge) (r : ℕ) → Walk g walk k → slice_get (instrs_at g block) place ≡ Some i →
    i.op ≡ op.Phi to ty edges → IsIn x edges → block_number g x.label ≡ Some k → x.value ≡ Register r → has_value g walk k (length (instrs_at g k)) r ≡ true
edge_valued m g s walk k block place i to ty edges x r comes e phi a n v =
    valued m g s walk k (length (instrs_at g k)) r i.line comes
    (read_in g block place i _ e
    (subst (λ (o : Op). IsIn (record { block = k; place = length (instrs_at g k); register = r; line = i.line }) (reads_of_op g block place i.line o)) (sym phi)
    (in_flat (λ (y : Edge). read_at_end g (block_number g y.label) i.line y.value) x (record { block = k; place = length (instrs_at g k); register = r; line = i.line }) edges a
    (end_in g (block_number g x.label) k i.line r x.value n v))))

-- a register with a value has a type

pub given_in : (is : List Instr) (r : ℕ) → assigns is r ≡ true → (i : Instr) × IsIn i is × (given_by i.op ≡ Some r)
given_in is r e = let f = any_in (λ (i : Instr). is_given r (given_by i.op)) is e in (f.0, f.1, gives_it r (given_by f.0.op) f.2)

typed_in : (m : Module) (g : Function) → Known m g → (k r : ℕ) (is : List Instr) → ((i : Instr) → IsIn i is → IsIn i (instrs_at g k)) → assigns is r ≡ true → (ty : Scalar) × (slice_get (register_types g) r ≡ Some ty)
typed_in m g kn k r is sub e =
    let f = given_in is r e in
    let there = block_instr g k f.0 (sub f.0 f.1) in
    let t = given_typed m g kn f.0 r there f.2 in
    (t.0, given_type m g kn f.0 r there f.2 ∙ t.1)

value_typed : (m : Module) (g : Function) → Known m g → (walk : List ℕ) (block place r : ℕ) (b c d : Bool) → nat_lt r (length g.params) ≡ b → walk_assigns g walk r ≡ c → assigns (take place (instrs_at g block)) r ≡ d → (b || (c || d)) ≡ true →
    (ty : Scalar) × (slice_get (register_types g) r ≡ Some ty)
value_typed m g kn walk block place r true c d eb ec ed e = param_typed g r (less r (length g.params) eb) where
  less : (a b : ℕ) → nat_lt a b ≡ true → a < b
  less a b h = grind (arith, h)
value_typed m g kn walk block place r false true d eb ec ed e =
    let f = any_in (λ (k : ℕ). assigns (instrs_at g k) r) walk ec in
    typed_in m g kn f.0 r (instrs_at g f.0) (λ i a. a) f.2
value_typed m g kn walk block place r false false true eb ec ed e = typed_in m g kn block r (take place (instrs_at g block)) (λ i a. in_taken i place (instrs_at g block) a) ed
value_typed m g kn walk block place r false false false eb ec ed e = true_false (sym e)

pub valued_type : (m : Module) (g : Function) → Known m g → (walk : List ℕ) (block place r : ℕ) → has_value g walk block place r ≡ true → (ty : Scalar) × (slice_get (register_types g) r ≡ Some ty)
valued_type m g kn walk block place r e = value_typed m g kn walk block place r (nat_lt r (length g.params)) (walk_assigns g walk r) (assigns (take place (instrs_at g block)) r) refl refl refl e
