-- What is read unassigned in a function of a module is so in the image, and the other way round.
use Rattle.std.proofs.Common.{◌≡◌, ℕ, zero, suc, Bool, true, false, ◌||◌, List, [], ◌∷◌, ◌++◌, length, take, drop, Option, Some, None, inl, inr, refl, sym, subst, ◌∙◌, ap, arith, le_refl}
use Rattle.std.specs.Prelude.{◌⊎◌, flat_map, slice_get, ⊤}
use Rattle.std.proofs.lemmas.List.{take_all}
use Rattle.lx_words.proofs.Tests.{true_false, or_false, or_assoc}
use Rattle.lx_words.proofs.Lists.{heads, no_list, tails}
use Rattle.lx_words.proofs.Options.{none_some}
use Rattle.lx_ir.specs.declared.module.Value.{Value}
use Rattle.lx_ir.specs.declared.module.Value.TheVariants as value
use Rattle.lx_ir.specs.declared.module.Block.{Block}
use Rattle.lx_ir.specs.declared.module.Function.{Function}
use Rattle.lx_ir.specs.declared.module.Module.{Module}
use Rattle.lx_ir.specs.declared.instr.Argument.{Argument}
use Rattle.lx_ir.specs.declared.instr.Edge.{Edge}
use Rattle.lx_ir.specs.declared.instr.Callee.TheVariants as callee
use Rattle.lx_ir.specs.declared.instr.Instr.{Instr}
use Rattle.lx_ir.specs.declared.instr.Op.{Op}
use Rattle.lx_ir.specs.declared.instr.Op.TheVariants as op
use Rattle.lx_ir.specs.Lookup.{blocks_of}
use Rattle.lx_ir.specs.Operands.{operands_of, is_phi, given_by}
use Rattle.lx_ir.specs.Faults.{Read, block_number, instrs_at, no_instrs, read_here, read_at_end, reads_of_op, reads_from, reads_of_blocks, reads_of, is_given, assigns, Walk, walk_assigns, IsUnassigned, FirstUnassigned}
use Rattle.lx_image_texts.proofs.Distinct.{Each}
use Rattle.lx_image_texts.proofs.Wrapping.{each_joined}
use Rattle.lx_image_texts.proofs.Beside.{Alike, IsMarkOf, Beside, ends, bare, marked, BesideBlocks, no_blocks, blocks, BesideFunction, blocks_beside, same_operands, same_given, same_phi, mark_facts}
use Rattle.lx_image_texts.proofs.Flow.{number_same, walk_image, walk_program, assigns_same, walk_assigns_same}

-- lists

abbrev pub IsIn : {A : Type 0} → A → List A → Type 0
IsIn x [] = ⊥
IsIn x (y ∷ ys) = (y ≡ x) ⊎ IsIn x ys

pub in_first : {A : Type 0} (x : A) (xs ys : List A) → IsIn x xs → IsIn x (xs ++ ys)
in_first x [] ys i = absurd i
in_first x (z ∷ xs) ys (inl e) = inl e
in_first x (z ∷ xs) ys (inr i) = inr (in_first x xs ys i)

pub in_second : {A : Type 0} (x : A) (xs ys : List A) → IsIn x ys → IsIn x (xs ++ ys)
in_second x [] ys i = i
in_second x (z ∷ xs) ys i = inr (in_second x xs ys i)

pub each_map : {A : Type 0} (P Q : A → Type 0) → ((x : A) → P x → Q x) → (xs : List A) → Each P xs → Each Q xs
each_map P Q k [] h = tt
each_map P Q k (x ∷ xs) h = (k x h.0, each_map P Q k xs h.1)

pub each_in : {A : Type 0} (P : A → Type 0) (xs : List A) (x : A) → Each P xs → IsIn x xs → P x
each_in P [] x h i = absurd i
each_in P (y ∷ xs) x h (inl e) = subst P e h.0
each_in P (y ∷ xs) x h (inr i) = each_in P xs x h.1 i

-- a read, and the read in the image that stands for it
record Match (f g : Function) (x y : Read) : Type 0 where
  block : x.block ≡ y.block
  register : x.register ≡ y.register
  given : (r : ℕ) → assigns (take x.place (instrs_at f x.block)) r ≡ assigns (take y.place (instrs_at g y.block)) r

abbrev InImage : Function → Function → List Read → Read → Type 0
InImage f g ys x = (y : Read) × IsIn y ys × Match f g x y

abbrev InProgram : Function → Function → List Read → Read → Type 0
InProgram f g xs y = (x : Read) × IsIn x xs × Match f g x y

-- each read of either list has one in the other
record Pair (f g : Function) (xs ys : List Read) : Type 0 where
  there : Each (InImage f g ys) xs
  back : Each (InProgram f g xs) ys

pair_joined : (f g : Function) (xs ys xs2 ys2 : List Read) → Pair f g xs ys → Pair f g xs2 ys2 → Pair f g (xs ++ xs2) (ys ++ ys2)
pair_joined f g xs ys xs2 ys2 p q =
    record {
      there = each_joined (InImage f g (ys ++ ys2)) xs xs2
          (each_map (InImage f g ys) (InImage f g (ys ++ ys2)) (λ x h. (h.0, in_first h.0 ys ys2 h.1, h.2)) xs p.there)
          (each_map (InImage f g ys2) (InImage f g (ys ++ ys2)) (λ x h. (h.0, in_second h.0 ys ys2 h.1, h.2)) xs2 q.there);
      back = each_joined (InProgram f g (xs ++ xs2)) ys ys2
          (each_map (InProgram f g xs) (InProgram f g (xs ++ xs2)) (λ y h. (h.0, in_first h.0 xs xs2 h.1, h.2)) ys p.back)
          (each_map (InProgram f g xs2) (InProgram f g (xs ++ xs2)) (λ y h. (h.0, in_second h.0 xs xs2 h.1, h.2)) ys2 q.back);
    }

-- a mark's reads stand before, and each has one among the first of the others
pair_marked : (f g : Function) (xs xs2 ks ys : List Read) → Each (InProgram f g xs) ks → Pair f g (xs ++ xs2) ys → Pair f g (xs ++ xs2) (ks ++ ys)
pair_marked f g xs xs2 ks ys k p =
    record {
      there = each_map (InImage f g ys) (InImage f g (ks ++ ys)) (λ x h. (h.0, in_second h.0 ks ys h.1, h.2)) (xs ++ xs2) p.there;
      back = each_joined (InProgram f g (xs ++ xs2)) ks ys (each_map (InProgram f g xs) (InProgram f g (xs ++ xs2)) (λ y h. (h.0, in_first h.0 xs xs2 h.1, h.2)) ks k) p.back;
    }

-- reads of an instruction

pub plain_reads : (f : Function) (block place line : ℕ) (o : Op) → is_phi o ≡ false → reads_of_op f block place line o ≡ flat_map (λ a. read_here block place line a.value) (operands_of o)
plain_reads f block place line (op.Phi to ty edges) e = true_false e
plain_reads f block place line o e = refl

-- the same registers are assigned before these places of a block
abbrev GivenAlike : Function → Function → ℕ → ℕ → ℕ → Type 0
GivenAlike f g block place place2 = (r : ℕ) → assigns (take place (instrs_at f block)) r ≡ assigns (take place2 (instrs_at g block)) r

module _ (f g : Function) (block place place2 line line2 : ℕ) (given : GivenAlike f g block place place2) where
  one_pair : (v : Value) → Pair f g (read_here block place line v) (read_here block place2 line2 v)
  one_pair (value.Register r) =
      let x : Read = record { block = block; place = place; register = r; line = line } in
      let y : Read = record { block = block; place = place2; register = r; line = line2 } in
      let it : Match f g x y = record { block = refl; register = refl; given = given } in
      record { there = ((y, inl refl, it), tt); back = ((x, inl refl, it), tt) }
  one_pair (value.Constant c) = record { there = tt; back = tt }

  arguments_pair : (xs : List Argument) → Pair f g (flat_map (λ a. read_here block place line a.value) xs) (flat_map (λ a. read_here block place2 line2 a.value) xs)
  arguments_pair [] = record { there = tt; back = tt }
  arguments_pair (a ∷ xs) =
      pair_joined f g (read_here block place line a.value) (read_here block place2 line2 a.value) (flat_map (λ a. read_here block place line a.value) xs) (flat_map (λ a. read_here block place2 line2 a.value) xs) (one_pair a.value) (arguments_pair xs)

  -- what is read of a value that is an operand
  one_back : (xs : List Argument) (b : Argument) (v : Value) → IsIn b xs → b.value ≡ v → Each (InProgram f g (flat_map (λ a. read_here block place line a.value) xs)) (read_here block place2 line2 v)
  one_back [] b v i e = absurd i
  one_back (a ∷ xs) b v (inl s) e =
      let here : a.value ≡ v = ap (λ (q : Argument). q.value) s ∙ e in
      each_map (InProgram f g (read_here block place line a.value)) (InProgram f g (read_here block place line a.value ++ flat_map (λ a. read_here block place line a.value) xs))
      (λ y h. (h.0, in_first h.0 (read_here block place line a.value) (flat_map (λ a. read_here block place line a.value) xs) h.1, h.2)) (read_here block place2 line2 v)
      (subst (λ (w : Value). Each (InProgram f g (read_here block place line a.value)) (read_here block place2 line2 w)) here (one_pair a.value).back)
  one_back (a ∷ xs) b v (inr i) e =
      each_map (InProgram f g (flat_map (λ a. read_here block place line a.value) xs)) (InProgram f g (read_here block place line a.value ++ flat_map (λ a. read_here block place line a.value) xs))
      (λ y h. (h.0, in_second h.0 (read_here block place line a.value) (flat_map (λ a. read_here block place line a.value) xs) h.1, h.2)) (read_here block place2 line2 v)
      (one_back xs b v i e)

-- What a mark reads is constant, or an operand of the instruction that it stands before.

abbrev pub IsConstant : Value → Type 0
IsConstant (value.Register r) = ⊥
IsConstant (value.Constant c) = ⊤

abbrev pub Reads : List Argument → Argument → Type 0
Reads xs a = IsConstant a.value ⊎ ((b : Argument) × IsIn b xs × (b.value ≡ a.value))

abbrev ReadsOf : Op → Op → Type 0
ReadsOf o k = Each (Reads (operands_of o)) (operands_of k)

pub mark_reads : (k o : Op) → IsMarkOf k o → Each (Reads (operands_of o)) (operands_of k)
mark_reads k (op.Store ty v at) e = subst (ReadsOf (op.Store ty v at)) (heads e) (inr (_, inr (inl refl), refl), (inl tt, tt))
mark_reads k (op.CopyBlock moves dest source len) e =
    subst (ReadsOf (op.CopyBlock moves dest source len)) (heads e) (inr (_, inl refl, refl), (inr (_, inr (inr (inl refl)), refl), tt))
mark_reads k (op.FillBlock dest byte len) e =
    subst (ReadsOf (op.FillBlock dest byte len)) (heads e) (inr (_, inl refl, refl), (inr (_, inr (inr (inl refl)), refl), tt))
mark_reads k (op.Call to ret (callee.Register r) args) e = subst (ReadsOf (op.Call to ret (callee.Register r) args)) (heads e) (inr (_, inl refl, refl), tt)
mark_reads k (op.Call to ret (callee.Symbol s) args) e = no_list e
mark_reads k o e = no_list e

no_reads : (f g : Function) (block place2 line2 : ℕ) (xs : List Read) (v : Value) → IsConstant v → Each (InProgram f g xs) (read_here block place2 line2 v)
no_reads f g block place2 line2 xs (value.Register r) c = absurd c
no_reads f g block place2 line2 xs (value.Constant k) c = tt

module _ (f g : Function) (block place place2 line line2 : ℕ) (given : GivenAlike f g block place place2) where
  mark_back : (xs ks : List Argument) → Each (Reads xs) ks → Each (InProgram f g (flat_map (λ a. read_here block place line a.value) xs)) (flat_map (λ a. read_here block place2 line2 a.value) ks)
  mark_back xs [] h = tt
  mark_back xs (k ∷ ks) h =
      each_joined (InProgram f g (flat_map (λ a. read_here block place line a.value) xs)) (read_here block place2 line2 k.value) (flat_map (λ a. read_here block place2 line2 a.value) ks)
      (by h.0) (mark_back xs ks h.1)
    where
      by : Reads xs k → Each (InProgram f g (flat_map (λ a. read_here block place line a.value) xs)) (read_here block place2 line2 k.value)
      by (inl c) = no_reads f g block place2 line2 (flat_map (λ a. read_here block place line a.value) xs) k.value c
      by (inr b) = one_back f g block place place2 line line2 given xs b.0 k.value b.1 b.2

-- A phi reads at the ends of blocks.

module _ (m : Module) (f g : Function) (beside : BesideFunction m f g) where
  whole_alike : (k : ℕ) → GivenAlike f g k (length (instrs_at f k)) (length (instrs_at g k))
  whole_alike k r =
      ap (λ (is : List Instr). assigns is r) (take_all (length (instrs_at f k)) (instrs_at f k) (le_refl (length (instrs_at f k))))
      ∙ assigns_same m f g beside k r
      ∙ ap (λ (is : List Instr). assigns is r) (sym (take_all (length (instrs_at g k)) (instrs_at g k) (le_refl (length (instrs_at g k)))))

  end_pair : (n : Option ℕ) (line line2 : ℕ) (v : Value) → Pair f g (read_at_end f n line v) (read_at_end g n line2 v)
  end_pair None line line2 v = record { there = tt; back = tt }
  end_pair (Some k) line line2 v = one_pair f g k (length (instrs_at f k)) (length (instrs_at g k)) line line2 (whole_alike k) v

  edges_pair : (line line2 : ℕ) (es : List Edge) → Pair f g (flat_map (λ e. read_at_end f (block_number f e.label) line e.value) es) (flat_map (λ e. read_at_end g (block_number g e.label) line2 e.value) es)
  edges_pair line line2 [] = record { there = tt; back = tt }
  edges_pair line line2 (e ∷ es) =
      pair_joined f g (read_at_end f (block_number f e.label) line e.value) (read_at_end g (block_number g e.label) line2 e.value) (flat_map (λ e. read_at_end f (block_number f e.label) line e.value) es) (flat_map (λ e. read_at_end g (block_number g e.label) line2 e.value) es)
      (subst (λ (n : Option ℕ). Pair f g (read_at_end f (block_number f e.label) line e.value) (read_at_end g n line2 e.value)) (number_same m f g beside e.label) (end_pair (block_number f e.label) line line2 e.value))
      (edges_pair line line2 es)

  other_pair : (block place place2 line line2 : ℕ) (o p : Op) → GivenAlike f g block place place2 → Alike m o p → is_phi o ≡ false → Pair f g (reads_of_op f block place line o) (reads_of_op g block place2 line2 p)
  other_pair block place place2 line line2 o p given a n =
      let left = plain_reads f block place line o n in
      let right = plain_reads g block place2 line2 p (sym (same_phi m o p a) ∙ n) ∙ ap (flat_map (λ (a : Argument). read_here block place2 line2 a.value)) (sym (same_operands m o p a)) in
      subst (λ (xs : List Read). Pair f g xs (reads_of_op g block place2 line2 p)) (sym left)
      (subst (Pair f g (flat_map (λ a. read_here block place line a.value) (operands_of o))) (sym right) (arguments_pair f g block place place2 line line2 given (operands_of o)))

  op_pair : (block place place2 line line2 : ℕ) (o p : Op) → GivenAlike f g block place place2 → Alike m o p → Pair f g (reads_of_op f block place line o) (reads_of_op g block place2 line2 p)
  op_pair block place place2 line line2 (op.Phi to ty edges) p given a =
      subst (λ (q : Op). Pair f g (reads_of_op f block place line (op.Phi to ty edges)) (reads_of_op g block place2 line2 q)) a.is (edges_pair line line2 edges)
  op_pair block place place2 line line2 o p given a = other_pair block place place2 line line2 o p given a refl

-- the code of a block

pub got_drop : {A : Type 0} (k : ℕ) (xs : List A) (y : A) (ys : List A) → drop k xs ≡ y ∷ ys → slice_get xs k ≡ Some y
got_drop zero [] y ys e = no_list e
got_drop zero (x ∷ xs) y ys e = ap Some (heads e)
got_drop (suc k) [] y ys e = no_list e
got_drop (suc k) (x ∷ xs) y ys e = got_drop k xs y ys e

pub drop_next : {A : Type 0} (k : ℕ) (xs : List A) (y : A) (ys : List A) → drop k xs ≡ y ∷ ys → drop (suc k) xs ≡ ys
drop_next zero [] y ys e = no_list e
drop_next zero (x ∷ xs) y ys e = tails e
drop_next (suc k) [] y ys e = no_list e
drop_next (suc k) (x ∷ xs) y ys e = drop_next k xs y ys e

assigns_next : (k : ℕ) (xs : List Instr) (y : Instr) (ys : List Instr) (r : ℕ) → drop k xs ≡ y ∷ ys → assigns (take (suc k) xs) r ≡ (assigns (take k xs) r || is_given r (given_by y.op))
assigns_next zero [] y ys r e = no_list e
assigns_next zero (x ∷ xs) y ys r e = or_false (is_given r (given_by x.op)) ∙ ap (λ (i : Instr). is_given r (given_by i.op)) (heads e)
assigns_next (suc k) [] y ys r e = no_list e
assigns_next (suc k) (x ∷ xs) y ys r e =
    ap (λ (b : Bool). is_given r (given_by x.op) || b) (assigns_next k xs y ys r e)
    ∙ or_assoc (is_given r (given_by x.op)) (assigns (take k xs) r) (is_given r (given_by y.op))

module _ (m : Module) (f g : Function) (beside : BesideFunction m f g) (block : ℕ) where
  alike_next : (place place2 : ℕ) (i j : Instr) (is js : List Instr) → Alike m i.op j.op → drop place (instrs_at f block) ≡ i ∷ is → drop place2 (instrs_at g block) ≡ j ∷ js → GivenAlike f g block place place2 → GivenAlike f g block (suc place) (suc place2)
  alike_next place place2 i j is js a ei ej given r =
      assigns_next place (instrs_at f block) i is r ei
      ∙ (λ t. given r t || is_given r (same_given m i.op j.op a t))
      ∙ sym (assigns_next place2 (instrs_at g block) j js r ej)

  -- behind a mark nothing more is assigned
  alike_mark : (place place2 : ℕ) (k : Instr) (o : Op) (js : List Instr) → IsMarkOf k.op o → drop place2 (instrs_at g block) ≡ k ∷ js → GivenAlike f g block place place2 → GivenAlike f g block place (suc place2)
  alike_mark place place2 k o js e ek given r =
      given r ∙ sym (assigns_next place2 (instrs_at g block) k js r ek ∙ (ap (λ (n : Option ℕ). assigns (take place2 (instrs_at g block)) r || is_given r n) (mark_facts k.op o e).given ∙ or_false (assigns (take place2 (instrs_at g block)) r)))

  code_pair : (place place2 : ℕ) (is js : List Instr) → Beside m is js → drop place (instrs_at f block) ≡ is → drop place2 (instrs_at g block) ≡ js → GivenAlike f g block place place2 → Pair f g (reads_from f block place is) (reads_from g block place2 js)
  code_pair place place2 _ _ ends ei ej given = record { there = tt; back = tt }
  code_pair place place2 _ _ (bare i j is js a b) ei ej given =
      pair_joined f g (reads_of_op f block place i.line i.op) (reads_of_op g block place2 j.line j.op) (reads_from f block (suc place) is) (reads_from g block (suc place2) js)
      (op_pair m f g beside block place place2 i.line j.line i.op j.op given a)
      (code_pair (suc place) (suc place2) is js b (drop_next place (instrs_at f block) i is ei) (drop_next place2 (instrs_at g block) j js ej) (alike_next place place2 i j is js a ei ej given))
  code_pair place place2 _ _ (marked i k j is js e a b) ei ej given =
      let facts = mark_facts k.op i.op e in
      let ek = drop_next place2 (instrs_at g block) k (j ∷ js) ej in
      let now = alike_mark place place2 k i.op (j ∷ js) e ej given in
      let reads = mark_back f g block place place2 i.line k.line given (operands_of i.op) (operands_of k.op) (mark_reads k.op i.op e) in
      let more = pair_joined f g (reads_of_op f block place i.line i.op) (reads_of_op g block (suc place2) j.line j.op) (reads_from f block (suc place) is) (reads_from g block (suc (suc place2)) js)
      (op_pair m f g beside block place (suc place2) i.line j.line i.op j.op now a)
      (code_pair (suc place) (suc (suc place2)) is js b (drop_next place (instrs_at f block) i is ei) (drop_next (suc place2) (instrs_at g block) j js ek) (alike_next place (suc place2) i j is js a ei ek now)) in
      pair_marked f g (reads_of_op f block place i.line i.op) (reads_from f block (suc place) is) (reads_of_op g block place2 k.line k.op) (reads_of_op g block (suc place2) j.line j.op ++ reads_from g block (suc (suc place2)) js)
      (subst (λ (xs : List Read). Each (InProgram f g xs) (reads_of_op g block place2 k.line k.op)) (sym (plain_reads f block place i.line i.op facts.behind))
      (subst (Each (InProgram f g (flat_map (λ a. read_here block place i.line a.value) (operands_of i.op)))) (sym (plain_reads g block place2 k.line k.op facts.phi)) reads))
      more

module _ (m : Module) (f g : Function) (beside : BesideFunction m f g) where
  blocks_pair : (n : ℕ) (bs cs : List Block) → BesideBlocks m bs cs → drop n (blocks_of f) ≡ bs → drop n (blocks_of g) ≡ cs → Pair f g (reads_of_blocks f n bs) (reads_of_blocks g n cs)
  blocks_pair n _ _ no_blocks eb ec = record { there = tt; back = tt }
  blocks_pair n _ _ (blocks b c bs cs h rest) eb ec =
      pair_joined f g (reads_from f n 0 b.instrs) (reads_from g n 0 c.instrs) (reads_of_blocks f (suc n) bs) (reads_of_blocks g (suc n) cs)
      (code_pair m f g beside n 0 0 b.instrs c.instrs h.code (ap no_instrs (got_drop n (blocks_of f) b bs eb)) (ap no_instrs (got_drop n (blocks_of g) c cs ec)) (λ r. refl))
      (blocks_pair (suc n) bs cs rest (drop_next n (blocks_of f) b bs eb) (drop_next n (blocks_of g) c cs ec))

  reads_pair : Pair f g (reads_of f) (reads_of g)
  reads_pair = blocks_pair 0 (blocks_of f) (blocks_of g) (blocks_beside m f.blocks g.blocks beside.body) refl refl

  -- unassigned reads

  unassigned_image : (x y : Read) → Match f g x y → IsUnassigned f x → IsUnassigned g y
  unassigned_image x y h u =
      let params : length f.params ≡ length g.params = ap length beside.params in
      record {
        no_parameter = omega (arith, params, h.register, u.no_parameter);
        walk = u.walk;
        comes = subst (λ (k : ℕ). Walk g u.walk k) h.block (walk_image m f g beside u.walk x.block u.comes);
        not_before = sym (walk_assigns_same m f g beside u.walk y.register) ∙ ap (walk_assigns f u.walk) (sym h.register) ∙ u.not_before;
        not_here = sym (h.given y.register) ∙ ap (assigns (take x.place (instrs_at f x.block))) (sym h.register) ∙ u.not_here;
      }

  unassigned_program : (x y : Read) → Match f g x y → IsUnassigned g y → IsUnassigned f x
  unassigned_program x y h u =
      let params : length f.params ≡ length g.params = ap length beside.params in
      record {
        no_parameter = omega (arith, params, h.register, u.no_parameter);
        walk = u.walk;
        comes = subst (λ (k : ℕ). Walk f u.walk k) (sym h.block) (walk_program m f g beside u.walk y.block u.comes);
        not_before = walk_assigns_same m f g beside u.walk x.register ∙ ap (walk_assigns g u.walk) h.register ∙ u.not_before;
        not_here = h.given x.register ∙ ap (assigns (take y.place (instrs_at g y.block))) h.register ∙ u.not_here;
      }

abbrev pub Assigned : Function → Read → Type 0
Assigned f x = IsUnassigned f x → ⊥

each_assigned : (f : Function) (xs : List Read) → FirstUnassigned f xs None → Each (Assigned f) xs
each_assigned f [] h = tt
each_assigned f (x ∷ xs) (inl h) = none_some h.1
each_assigned f (x ∷ xs) (inr h) = (h.0, each_assigned f xs h.1)

pub none_unassigned : (f : Function) (xs : List Read) → Each (Assigned f) xs → FirstUnassigned f xs None
none_unassigned f [] h = refl
none_unassigned f (x ∷ xs) h = inr (h.0, none_unassigned f xs h.1)

pub reads_program : (m : Module) (f g : Function) → BesideFunction m f g → FirstUnassigned g (reads_of g) None → FirstUnassigned f (reads_of f) None
reads_program m f g beside h =
    let all = each_assigned g (reads_of g) h in
    none_unassigned f (reads_of f)
    (each_map (InImage f g (reads_of g)) (Assigned f) (λ x i u. each_in (Assigned g) (reads_of g) i.0 all i.1 (unassigned_image m f g beside x i.0 i.2 u)) (reads_of f) (reads_pair m f g beside).there)

pub reads_image : (m : Module) (f g : Function) → BesideFunction m f g → FirstUnassigned f (reads_of f) None → FirstUnassigned g (reads_of g) None
reads_image m f g beside h =
    let all = each_assigned f (reads_of f) h in
    none_unassigned g (reads_of g)
    (each_map (InProgram f g (reads_of f)) (Assigned g) (λ y i u. each_in (Assigned f) (reads_of f) i.0 all i.1 (unassigned_program m f g beside i.0 y i.2 u)) (reads_of g) (reads_pair m f g beside).back)
