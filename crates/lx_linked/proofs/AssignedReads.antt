-- What a verified function reads was assigned on every walk to the reader.
use Rattle.std.proofs.Common.{◌≡◌, ℕ, zero, suc, ◌+◌, ◌<◌, ◌≤◌, Bool, true, false, not, ◌||◌, ◌⊎◌, List, [], ◌∷◌, length, map, take, Option, Some, None, inl, inr, refl, sym, subst, ◌∙◌, ap, arith}
use Rattle.std.specs.Prelude.{slice_get, nat_lt, cond, bytes_eq, flat_map}
use Rattle.std.specs.List.{list_any, position_or_len}
use Rattle.std.proofs.lemmas.Bool.Decides.{nat_tests}
use Rattle.std.proofs.lemmas.Option.{slice_get_within}
use Rattle.lx_words.proofs.Tests.{true_false, first_of, second_of, no_other}
use Rattle.lx_words.proofs.Options.{none_some, some_same}
use Rattle.lx_words.proofs.Lists.{bytes_itself, position_is}
use Rattle.lx_ir.specs.declared.types.Scalar.{Scalar}
use Rattle.lx_ir.specs.declared.module.Value.{Value}
use Rattle.lx_ir.specs.declared.module.Value.TheVariants as value
use Rattle.lx_ir.specs.declared.module.Block.{Block}
use Rattle.lx_ir.specs.declared.module.Function.{Function}
use Rattle.lx_ir.specs.declared.module.Module.{Module}
use Rattle.lx_ir.specs.declared.instr.Argument.{Argument}
use Rattle.lx_ir.specs.declared.instr.Edge.{Edge}
use Rattle.lx_ir.specs.declared.instr.Instr.{Instr}
use Rattle.lx_ir.specs.declared.instr.Op.{Op}
use Rattle.lx_ir.specs.declared.instr.Op.TheVariants as op
use Rattle.lx_ir.specs.Lookup.{blocks_of, instrs_of}
use Rattle.lx_ir.specs.Lawful.{is_distinct}
use Rattle.lx_ir.specs.Operands.{given_by}
use Rattle.lx_ir.specs.Faults.{Read, reads_of, reads_of_op, read_here, read_at_end, instrs_at, no_instrs, is_given, assigns, walk_assigns, Walk, block_number}
use Rattle.lx_images.specs.Places.{IsIn}
use Rattle.lx_simulation.proofs.Elements.{in_flat, in_map, in_got, any_in, any_of}
use Rattle.lx_simulation.proofs.Verifying.{name_of_block, Sound, gives_known}
use Rattle.lx_simulation.proofs.Walking.{is_assigned, gives_it}
use Rattle.lx_linked.specs.Alike.{operands_read}
use Rattle.lx_simulation.proofs.Held.{read_block, the_read, assigned_cases}
use Rattle.lx_simulation.proofs.Jumping.{in_taken}

-- the register is a parameter, or an instruction before the place on the walk gave it
abbrev pub Known : Function → List ℕ → ℕ → ℕ → ℕ → Type 0
Known g walk block place r = (r < length g.params) ⊎ (is_assigned g walk block place r ≡ true)

-- reads of a function

-- the reads of the instruction at a place
pub read_at : (g : Function) (k j : ℕ) (i : Instr) (x : Read) → slice_get (instrs_at g k) j ≡ Some i → IsIn x (reads_of_op g k j i.line i.op) → IsIn x (reads_of g)
read_at g k j i x e r =
    let start : 0 + k ≡ k = omega arith in
    read_block g 0 (blocks_of g) k j i x e (subst (λ (n : ℕ). IsIn x (reads_of_op g n j i.line i.op)) (sym start) r)

read_value : (k j line r : ℕ) (v : Value) → v ≡ value.Register r → IsIn (the_read k j r line) (read_here k j line v)
read_value k j line r v e = subst (λ (x : Value). IsIn (the_read k j r line) (read_here k j line x)) (sym e) (inl refl)

abbrev plain_reads : ℕ → ℕ → ℕ → Op → List Read
plain_reads k j line o = flat_map (λ (a : Argument). read_here k j line a.value) (operands_read o)

plain_read : (k j line r : ℕ) (o : Op) (x : Argument) → IsIn x (operands_read o) → x.value ≡ value.Register r → IsIn (the_read k j r line) (plain_reads k j line o)
plain_read k j line r o x i e = in_flat (λ (a : Argument). read_here k j line a.value) x (the_read k j r line) (operands_read o) i (read_value k j line r x.value e)

-- an operand is read where the instruction stands
pub operand_read : (g : Function) (k j line r : ℕ) (o : Op) (x : Argument) → IsIn x (operands_read o) → x.value ≡ value.Register r → IsIn (the_read k j r line) (reads_of_op g k j line o)
operand_read g k j line r (op.Phi to ty edges) x i e = absurd i
operand_read g k j line r o x i e = plain_read k j line r o x i e

at_end : (g : Function) (n : Option ℕ) (k line r : ℕ) (v : Value) → n ≡ Some k → v ≡ value.Register r → IsIn (the_read k (length (instrs_at g k)) r line) (read_at_end g n line v)
at_end g None k line r v en e = none_some en
at_end g (Some m) k line r v en e =
    subst (λ (n : ℕ). IsIn (the_read k (length (instrs_at g k)) r line) (read_here n (length (instrs_at g n)) line v)) (sym (some_same en)) (read_value k (length (instrs_at g k)) line r v e)

-- an operand of a phi is read at the end of the block that its label names
pub edge_read : (g : Function) (to j line register k r : ℕ) (ty : Scalar) (edges : List Edge) (e : Edge) → IsIn e edges → block_number g e.label ≡ Some k → e.value ≡ value.Register r →
    IsIn (the_read k (length (instrs_at g k)) r line) (reads_of_op g to j line (op.Phi register ty edges))
edge_read g to j line register k r ty edges e i en ev =
    in_flat (λ (x : Edge). read_at_end g (block_number g x.label) line x.value) e (the_read k (length (instrs_at g k)) r line) edges i (at_end g (block_number g e.label) k line r e.value en ev)

-- a read register is known

parameter_cases : (n r : ℕ) (b : Bool) → nat_lt r n ≡ b → (r < n) ⊎ (n ≤ r)
parameter_cases n r true e = inl (grind (arith, nat_tests, e))
parameter_cases n r false e = inr (grind (arith, nat_tests, e))

pub known_read : (m : Module) (g : Function) → Sound m g → (walk : List ℕ) (k j r line : ℕ) → Walk g walk k → IsIn (the_read k j r line) (reads_of g) → Known g walk k j r
known_read m g s walk k j r line comes at =
    elim (parameter_cases (length g.params) r (nat_lt r (length g.params)) refl) [
      | inl below ↦ inl below
      | inr above ↦ inr (assigned_cases m g s walk k j r line (is_assigned g walk k j r) refl above comes at)
    ]

-- a known register is one of the function's

pub body_in : (bs : List Block) (k : ℕ) (i : Instr) → IsIn i (no_instrs (slice_get bs k)) → (b : Block) × IsIn b bs × IsIn i b.instrs
body_in [] k i a = absurd a
body_in (b ∷ bs) zero i a = (b, inl refl, a)
body_in (b ∷ bs) (suc k) i a = let f = body_in bs k i a in (f.0, inr f.1, f.2)

pub block_instr : (g : Function) (k : ℕ) (i : Instr) → IsIn i (instrs_at g k) → IsIn i (instrs_of g)
block_instr g k i a = let f = body_in (blocks_of g) k i a in in_flat (λ (b : Block). b.instrs) f.0 i (blocks_of g) f.1 f.2

given_within : (m : Module) (g : Function) → Sound m g → (k r : ℕ) (is : List Instr) → ((i : Instr) → IsIn i is → IsIn i (instrs_at g k)) → assigns is r ≡ true → r < length g.params + length g.locals
given_within m g s k r is sub e =
    let f = any_in (λ (i : Instr). is_given r (given_by i.op)) is e in
    gives_known m g s f.0 r (block_instr g k f.0 (sub f.0 f.1)) (gives_it r (given_by f.0.op) f.2)

walked_within : (m : Module) (g : Function) → Sound m g → (r : ℕ) (walk : List ℕ) → walk_assigns g walk r ≡ true → r < length g.params + length g.locals
walked_within m g s r walk e =
    let f = any_in (λ (k : ℕ). assigns (instrs_at g k) r) walk e in given_within m g s f.0 r (instrs_at g f.0) (λ i a. a) f.2

either_within : (m : Module) (g : Function) → Sound m g → (walk : List ℕ) (k j r : ℕ) (a b : Bool) → walk_assigns g walk r ≡ a → assigns (take j (instrs_at g k)) r ≡ b → (a || b) ≡ true → r < length g.params + length g.locals
either_within m g s walk k j r true b ea eb e = walked_within m g s r walk ea
either_within m g s walk k j r false b ea eb e = given_within m g s k r (take j (instrs_at g k)) (λ i a. in_taken i j (instrs_at g k) a) (eb ∙ e)

less_with : (r m n : ℕ) → r < m → r < m + n
less_with r m n h = omega (arith, h)

pub known_within : (m : Module) (g : Function) → Sound m g → (walk : List ℕ) (k j r : ℕ) → Known g walk k j r → r < length g.params + length g.locals
known_within m g s walk k j r (inl h) = less_with r (length g.params) (length g.locals) h
known_within m g s walk k j r (inr e) = either_within m g s walk k j r (walk_assigns g walk r) (assigns (take j (instrs_at g k)) r) refl refl e

-- blocks by their names

differs_cases : (a b : Bool) → a ≡ b → not a ≡ true → b ≡ false
differs_cases true b e h = true_false (sym h)
differs_cases false b e h = sym e

other_cases : (x y : List ℕ) (names : List (List ℕ)) (b : Bool) → bytes_eq y x ≡ b → not (list_any (bytes_eq y) names) ≡ true → IsIn x names → b ≡ false
other_cases x y names false e d i = refl
other_cases x y names true e d i = no_other (list_any (bytes_eq y) names) (any_of (bytes_eq y) names x i e) d

place_here : (name : List ℕ) (b : Block) (bs : List Block) (t : Bool) → bytes_eq b.name name ≡ t → t ≡ true → position_or_len (λ (x : Block). bytes_eq x.name name) (b ∷ bs) ≡ 0
place_here name b bs true e h = ap (λ t. cond (not t) (1 + position_or_len (λ (x : Block). bytes_eq x.name name) bs) 0) e
place_here name b bs false e h = true_false (sym h)

place_later : (name : List ℕ) (b : Block) (bs : List Block) (t : Bool) → bytes_eq b.name name ≡ t → t ≡ false → position_or_len (λ (x : Block). bytes_eq x.name name) (b ∷ bs) ≡ 1 + position_or_len (λ (x : Block). bytes_eq x.name name) bs
place_later name b bs true e h = true_false h
place_later name b bs false e h = ap (λ t. cond (not t) (1 + position_or_len (λ (x : Block). bytes_eq x.name name) bs) 0) e

one_up : (k n : ℕ) → n ≡ k → 1 + n ≡ suc k
one_up k n e = omega (arith, e)

placed : (bs : List Block) (k : ℕ) (b : Block) → is_distinct (map name_of_block bs) ≡ true → slice_get bs k ≡ Some b → position_or_len (λ (x : Block). bytes_eq x.name b.name) bs ≡ k
placed [] k b d e = none_some e
placed (c ∷ bs) zero b d e = place_here b.name c bs (bytes_eq c.name b.name) refl (ap (λ (x : Block). bytes_eq x.name b.name) (some_same e) ∙ bytes_itself b.name)
placed (c ∷ bs) (suc k) b d e =
    place_later b.name c bs (bytes_eq c.name b.name) refl
    (other_cases b.name c.name (map name_of_block bs) (bytes_eq c.name b.name) refl (first_of (not (list_any (bytes_eq c.name) (map name_of_block bs))) (is_distinct (map name_of_block bs)) d) (in_map name_of_block b bs (in_got bs k b e)))
    ∙ one_up k _ (placed bs k b (second_of (not (list_any (bytes_eq c.name) (map name_of_block bs))) (is_distinct (map name_of_block bs)) d) e)

-- a block's name names it
pub named_number : (m : Module) (g : Function) → Sound m g → (k : ℕ) (b : Block) → slice_get (blocks_of g) k ≡ Some b → block_number g b.name ≡ Some k
named_number m g s k b e = position_is (λ (x : Block). bytes_eq x.name b.name) (blocks_of g) k (placed (blocks_of g) k b s.names e) (slice_get_within (blocks_of g) k b e)
