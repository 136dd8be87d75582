-- Two runs of a function at the same place of its text hold the same words in the registers that are known there.
use Rattle.std.proofs.Common.{◌≡◌, ℕ, zero, suc, ◌+◌, ◌<◌, ◌≤◌, Bool, true, false, ◌||◌, List, [], ◌∷◌, ◌++◌, length, map, take, drop, replicate, Option, Some, None, inl, inr, refl, sym, subst, ◌∙◌, ap, arith, eqb-true}
use Rattle.std.specs.Prelude.{slice_get, slice_set, slice_index_or, nat_eq, find, bytes_eq, cond}
use Rattle.std.proofs.lemmas.Bool.{eqb-false, or_cases}
use Rattle.lx_words.specs.Word.{Word}
use Rattle.lx_words.proofs.Tests.{true_false, no_less, one_less, one_down, or_turned}
use Rattle.lx_words.proofs.Options.{none_some, some_same}
use Rattle.lx_words.proofs.Lists.{same_bytes, all_taken}
use Rattle.lx_ir.specs.declared.module.Value.TheVariants as value
use Rattle.lx_ir.specs.declared.module.Block.{Block}
use Rattle.lx_ir.specs.declared.module.Function.{Function}
use Rattle.lx_ir.specs.declared.module.Module.{Module}
use Rattle.lx_ir.specs.declared.instr.Argument.{Argument}
use Rattle.lx_ir.specs.declared.instr.Edge.{Edge}
use Rattle.lx_ir.specs.declared.instr.Instr.{Instr}
use Rattle.lx_ir.specs.declared.instr.Op.{Op}
use Rattle.lx_ir.specs.declared.instr.Op.TheVariants as op
use Rattle.lx_ir.specs.Lookup.{blocks_of}
use Rattle.lx_ir.specs.Operands.{given_by, is_terminator, targets_of}
use Rattle.lx_ir.specs.Faults.{instrs_at, no_instrs, is_given, assigns, walk_assigns, Walk, block_number, last_of, reads_of_op}
use Rattle.lx_model.specs.Thread.{CodeBlock, Activation, code_block_of, routine_of, start_of, zero_word, with_register, head_destination, behind_head, activation_behind}
use Rattle.lx_images.specs.Places.{IsIn}
use Rattle.lx_simulation.proofs.Verifying.{op_of, Sound}
use Rattle.lx_simulation.proofs.Walking.{is_assigned, name_of, label_at, register_set, with_length, Here, here, assigned_more, Arrives, arrives, grows, start_code, enough, start_label}
use Rattle.lx_linked.specs.Filled.{refill}
use Rattle.lx_linked.specs.Alike.{operands_read, PhiReads, ReadsNext}
use Rattle.lx_linked.proofs.AssignedReads.{Known, read_at, operand_read, edge_read, known_read, known_within, named_number}
use Rattle.lx_simulation.proofs.Jumping.{ends_at, got_body}
use Rattle.lx_simulation.proofs.Held.{the_read}

abbrev pub held : List Word → ℕ → Word
held rs r = slice_index_or rs r zero_word

-- the activation with other registers
abbrev pub holding : List Word → Activation → Activation
holding rs a = record a { registers = rs }

-- the function is at a place of its text, by a walk from its start, and what is known there is the same in the other registers
pub record Stood (g : Function) (a : Activation) (qs : List Word) : Type 0 where
  pub blocks : a.blocks ≡ map code_block_of (blocks_of g)
  pub block : ℕ
  pub place : ℕ
  pub label : a.label ≡ label_at g block
  pub code : a.code ≡ map op_of (drop place (instrs_at g block))
  pub walk : List ℕ
  pub comes : Walk g walk block
  pub many : length g.params + length g.locals ≤ length a.registers
  pub long : length qs ≡ length a.registers
  pub same : (r : ℕ) → Known g walk block place r → held qs r ≡ held a.registers r

-- registers

suc_same : {m n : ℕ} → suc m ≡ suc n → m ≡ n
suc_same {m} {n} e = omega (arith, e)

some_none_length : {A : Type 0} (n : ℕ) → 0 ≡ suc n → A
some_none_length n e = absurd (omega (arith, e))

pub set_here : (xs ys : List Word) (k : ℕ) (w : Word) → length xs ≡ length ys → held (slice_set xs k w) k ≡ held (slice_set ys k w) k
set_here [] [] k w e = refl
set_here [] (y ∷ ys) k w e = some_none_length (length ys) e
set_here (x ∷ xs) [] k w e = some_none_length (length xs) (sym e)
set_here (x ∷ xs) (y ∷ ys) zero w e = refl
set_here (x ∷ xs) (y ∷ ys) (suc k) w e = set_here xs ys k w (suc_same e)

set_cases : (xs ys : List Word) (k r : ℕ) (w : Word) (b : Bool) → nat_eq k r ≡ b → length xs ≡ length ys → (b ≡ false → held xs r ≡ held ys r) → held (slice_set xs k w) r ≡ held (slice_set ys k w) r
set_cases xs ys k r w true e long h = subst (λ (n : ℕ). held (slice_set xs k w) n ≡ held (slice_set ys k w) n) (eqb-true k r e) (set_here xs ys k w long)
set_cases xs ys k r w false e long h = register_set xs k r w (eqb-false k r e) ∙ (h refl ∙ sym (register_set ys k r w (eqb-false k r e)))

-- a register that is set to the same word in both is the same, and any other stays
pub set_same : (xs ys : List Word) (k r : ℕ) (w : Word) → length xs ≡ length ys → (nat_eq k r ≡ false → held xs r ≡ held ys r) → held (slice_set xs k w) r ≡ held (slice_set ys k w) r
set_same xs ys k r w long h = set_cases xs ys k r w (nat_eq k r) refl long h

-- a value comes wherever the instruction gives a register
abbrev pub Answered : Option ℕ → Option Word → Type 0
Answered None w = Unit {0}
Answered (Some k) None = ⊥
Answered (Some k) (Some w) = Unit {0}

given_same : (to : Option ℕ) (w : Option Word) (xs ys : List Word) (r : ℕ) → Answered to w → length xs ≡ length ys → (is_given r to ≡ false → held xs r ≡ held ys r) → held (with_register to w xs) r ≡ held (with_register to w ys) r
given_same None w xs ys r a long h = h refl
given_same (Some k) None xs ys r a long h = absurd a
given_same (Some k) (Some w) xs ys r a long h = set_same xs ys k r w long h

-- the start

pub refill_length : (k : ℕ) (fresh : ℕ → Word) (xs : List Word) → length (refill k fresh xs) ≡ length xs
refill_length k fresh [] = refl
refill_length zero fresh (x ∷ xs) = ap suc (refill_length zero (λ i. fresh (suc i)) xs)
refill_length (suc k) fresh (x ∷ xs) = ap suc (refill_length k fresh xs)

pub refill_same : (k : ℕ) (fresh : ℕ → Word) (xs : List Word) (r : ℕ) → r < k → held (refill k fresh xs) r ≡ held xs r
refill_same k fresh [] r h = refl
refill_same zero fresh (x ∷ xs) r h = no_less r h
refill_same (suc k) fresh (x ∷ xs) zero h = refl
refill_same (suc k) fresh (x ∷ xs) (suc r) h = refill_same k fresh xs r (one_down r k h)

fresh_down : (k i : ℕ) (xs : List Word) (x : Word) → suc k + i < length (x ∷ xs) → k + i < length xs
fresh_down k i xs x h = omega (arith, h)

pub refill_fresh : (k i : ℕ) (fresh : ℕ → Word) (xs : List Word) → k + i < length xs → held (refill k fresh xs) (k + i) ≡ fresh i
refill_fresh k i fresh [] h = no_less (k + i) h
refill_fresh zero zero fresh (x ∷ xs) h = refl
refill_fresh zero (suc i) fresh (x ∷ xs) h =
    let e : zero + suc i ≡ suc (zero + i) = omega arith in
    let l : zero + i < length xs = omega (arith, h) in
    ap (λ (n : ℕ). held (refill zero fresh (x ∷ xs)) n) e ∙ refill_fresh zero i (λ n. fresh (suc n)) xs l
refill_fresh (suc k) i fresh (x ∷ xs) h =
    let e : suc k + i ≡ suc (k + i) = omega arith in
    ap (λ (n : ℕ). held (refill (suc k) fresh (x ∷ xs)) n) e ∙ refill_fresh k i fresh xs (fresh_down k i xs x h)

nothing_assigned : (g : Function) (r : ℕ) → is_assigned g [] 0 0 r ≡ false
nothing_assigned g r = refl

start_same : (g : Function) (fresh : ℕ → Word) (xs : List Word) (r : ℕ) → Known g [] 0 0 r → held (refill (length g.params) fresh xs) r ≡ held xs r
start_same g fresh xs r (inl h) = refill_same (length g.params) fresh xs r h
start_same g fresh xs r (inr e) = true_false (sym e ∙ nothing_assigned g r)

-- a function that begins, whatever the words
pub started : (g : Function) (n : ℕ) (args : List Word) (low : ℕ) (fresh : ℕ → Word) → length args ≡ length g.params →
    Stood g (start_of n (routine_of g) args low) (refill (length g.params) fresh (args ++ replicate (length g.locals) zero_word))
started g n args low fresh count =
    record {
      blocks = refl;
      block = 0;
      place = 0;
      label = start_label (blocks_of g);
      code = start_code (blocks_of g);
      walk = [];
      comes = refl;
      many = enough (length g.locals) args (length g.params) count;
      long = refill_length (length g.params) fresh (args ++ replicate (length g.locals) zero_word);
      same = start_same g fresh (args ++ replicate (length g.locals) zero_word);
    }

-- past an instruction

known_before : (g : Function) (walk : List ℕ) (block place r : ℕ) (o : Op) (os : List Op) (h : Here (instrs_at g block) place o os) → Known g walk block (suc place) r → is_given r (given_by o) ≡ false → Known g walk block place r
known_before g walk block place r o os h (inl l) e = inl l
known_before g walk block place r o os h (inr k) e =
    elim (or_cases (is_assigned g walk block place r) (is_given r (given_by o)) (sym (assigned_more g walk block place r o os h) ∙ k)) [
      | inl a ↦ inr a
      | inr b ↦ true_false (sym b ∙ e)
    ]

behind_same : (g : Function) (a : Activation) (qs : List Word) (walk : List ℕ) (block place : ℕ) (o : Op) (os : List Op) (w : Option Word) (h : Here (instrs_at g block) place o os) → a.code ≡ o ∷ os → Answered (given_by o) w → length qs ≡ length a.registers →
    ((r : ℕ) → Known g walk block place r → held qs r ≡ held a.registers r) → (r : ℕ) → Known g walk block (suc place) r → held (with_register (head_destination a.code) w qs) r ≡ held (with_register (head_destination a.code) w a.registers) r
behind_same g a qs walk block place o os w h ec given long same r known =
    given_same (head_destination a.code) w qs a.registers r (subst (λ (to : Option ℕ). Answered to w) (ap head_destination (sym ec)) given) long
    (λ e. same r (known_before g walk block place r o os h known (ap (λ (xs : List Op). is_given r (head_destination xs)) (sym ec) ∙ e)))

pub past : (g : Function) (a : Activation) (qs : List Word) (o : Op) (os : List Op) (w : Option Word) → a.code ≡ o ∷ os → Answered (given_by o) w → Stood g a qs → Stood g (activation_behind w a) (with_register (head_destination a.code) w qs)
past g a qs o os w ec given st =
    let h = here (instrs_at g st.block) st.place o os (sym st.code ∙ ec) in
    record {
      blocks = st.blocks;
      block = st.block;
      place = suc st.place;
      label = st.label;
      code = ap behind_head ec ∙ sym h.behind;
      walk = st.walk;
      comes = st.comes;
      many = grows (length g.params + length g.locals) a.registers (with_register (head_destination a.code) w a.registers) (with_length (head_destination a.code) w a.registers) st.many;
      long = with_length (head_destination a.code) w qs ∙ (st.long ∙ sym (with_length (head_destination a.code) w a.registers));
      same = behind_same g a qs st.walk st.block st.place o os w h ec given st.long st.same;
    }

-- reads

-- what an instruction reads is the same in both
pub read_same : (m : Module) (g : Function) → Sound m g → (a : Activation) (qs : List Word) (o : Op) (os : List Op) → a.code ≡ o ∷ os → Stood g a qs → (x : Argument) (r : ℕ) → IsIn x (operands_read o) → x.value ≡ value.Register r →
    (r < length a.registers) × (held qs r ≡ held a.registers r)
read_same m g s a qs o os ec st x r i e =
    let h = here (instrs_at g st.block) st.place o os (sym st.code ∙ ec) in
    let at : IsIn (the_read st.block st.place r h.instr.line) (reads_of_op g st.block st.place h.instr.line h.instr.op)
    = subst (λ (y : Op). IsIn (the_read st.block st.place r h.instr.line) (reads_of_op g st.block st.place h.instr.line y)) (sym h.same) (operand_read g st.block st.place h.instr.line r o x i e) in
    let known = known_read m g s st.walk st.block st.place r h.instr.line st.comes (read_at g st.block st.place h.instr (the_read st.block st.place r h.instr.line) h.got at) in
    let within : r < length g.params + length g.locals = known_within m g s st.walk st.block st.place r known in
    let many : length g.params + length g.locals ≤ length a.registers = st.many in
    (omega (arith, within, many), st.same r known)

-- jumps

-- where the function stands at the end of a block
pub record AtEnd (g : Function) (a : Activation) (block place : ℕ) (o : Op) (os : List Op) : Type 0 where
  pub here : Here (instrs_at g block) place o os
  pub whole : suc place ≡ length (instrs_at g block)
  pub body : Block
  pub got : slice_get (blocks_of g) block ≡ Some body
  pub last : last_of body.instrs ≡ Some here.instr
  pub named : block_number g a.label ≡ Some block

pub at_its_end : (m : Module) (g : Function) → Sound m g → (a : Activation) (block place : ℕ) (o : Op) (os : List Op) → a.label ≡ label_at g block → a.code ≡ map op_of (drop place (instrs_at g block)) → a.code ≡ o ∷ os → is_terminator o ≡ true → AtEnd g a block place o os
at_its_end m g s a block place o os el code ec ends =
    let h = here (instrs_at g block) place o os (sym code ∙ ec) in
    let whole : suc place ≡ length (instrs_at g block) = ends_at (instrs_at g block) place h.instr (s.ends block) h.got (ap is_terminator h.same ∙ ends) in
    let from = got_body (blocks_of g) block place h.instr h.got in
    let here_instrs : instrs_at g block ≡ from.0.instrs = ap no_instrs from.1 in
    record {
      here = h;
      whole = whole;
      body = from.0;
      got = from.1;
      last = ap (λ (is : List Instr). last_of is) (sym here_instrs) ∙ (ap (λ (n : ℕ). slice_get (instrs_at g block) n) (one_less (length (instrs_at g block)) place whole) ∙ h.got);
      named = ap (block_number g) (el ∙ ap name_of from.1) ∙ named_number m g s block from.0 from.1;
    }

-- what is assigned by the end of the block

pub whole_assigned : (g : Function) (walk : List ℕ) (block place r : ℕ) → suc place ≡ length (instrs_at g block) → (assigns (instrs_at g block) r || walk_assigns g walk r) ≡ true → is_assigned g walk block (suc place) r ≡ true
whole_assigned g walk block place r whole e =
    ap (λ (n : ℕ). walk_assigns g walk r || assigns (take n (instrs_at g block)) r) whole
    ∙ (ap (λ (is : List Instr). walk_assigns g walk r || assigns is r) (all_taken (instrs_at g block))
    ∙ (or_turned (walk_assigns g walk r) (assigns (instrs_at g block) r) ∙ e))

pub known_at_end : (g : Function) (walk : List ℕ) (block place r : ℕ) (o : Op) (os : List Op) → Here (instrs_at g block) place o os → given_by o ≡ None → Known g walk block (suc place) r → Known g walk block place r
known_at_end g walk block place r o os h gives k = known_before g walk block place r o os h k (ap (is_given r) gives)

-- a phi's operand

find_cases : {A : Type 0} (p : A → Bool) (x y : A) (xs : List A) (b : Bool) → p x ≡ b → cond b (Some x) (find p xs) ≡ Some y → (find p xs ≡ Some y → IsIn y xs × (p y ≡ true)) → IsIn y (x ∷ xs) × (p y ≡ true)
find_cases p x y xs true e f ih = (inl (some_same f), ap p (sym (some_same f)) ∙ e)
find_cases p x y xs false e f ih = let r = ih f in (inr r.0, r.1)

pub found_in : {A : Type 0} (p : A → Bool) (xs : List A) (y : A) → find p xs ≡ Some y → IsIn y xs × (p y ≡ true)
found_in p [] y e = none_some e
found_in p (x ∷ xs) y e = find_cases p x y xs (p x) refl e (found_in p xs y)

index_in : {A : Type 0} (xs : List A) (x : A) → IsIn x xs → (j : ℕ) × (slice_get xs j ≡ Some x)
index_in [] x i = absurd i
index_in (y ∷ xs) x (inl e) = (0, ap (λ z. Some z) e)
index_in (y ∷ xs) x (inr i) = let r = index_in xs x i in (suc r.0, r.1)

op_in : (is : List Instr) (o : Op) → IsIn o (map op_of is) → (i : Instr) × IsIn i is × (i.op ≡ o)
op_in [] o i = absurd i
op_in (x ∷ is) o (inl e) = (x, inl refl, e)
op_in (x ∷ is) o (inr i) = let r = op_in is o i in (r.0, inr r.1, r.2)

-- a phi of the block that control comes to reads what is the same in both
pub phi_same : (m : Module) (g : Function) → Sound m g → (a : Activation) (qs : List Word) (b : CodeBlock) (label : List ℕ) (o : Op) (os : List Op) → a.code ≡ o ∷ os → is_terminator o ≡ true → given_by o ≡ None → Arrives g label b → Stood g a qs →
    (r : ℕ) → PhiReads a.label b r → (r < length a.registers) × (held qs r ≡ held a.registers r)
phi_same m g s a qs b label o os ec ends gives x st r reads =
    let at = at_its_end m g s a st.block st.place o os st.label st.code ec ends in
    let to : ℕ = reads.0 in
    let e : Edge = reads.3 in
    let f = found_in (λ (y : Edge). bytes_eq y.label a.label) reads.2 e reads.5 in
    let phi = op_in x.body.instrs (op.Phi to reads.1 reads.2) (subst (λ (c : CodeBlock). IsIn (op.Phi to reads.1 reads.2) c.code) x.is reads.4) in
    let there : instrs_at g x.block ≡ x.body.instrs = ap no_instrs x.got in
    let place = index_in x.body.instrs phi.0 phi.1 in
    let number : block_number g e.label ≡ Some st.block = ap (block_number g) (same_bytes e.label a.label f.1) ∙ at.named in
    let read : IsIn (the_read st.block (length (instrs_at g st.block)) r phi.0.line) (reads_of_op g x.block place.0 phi.0.line phi.0.op)
    = subst (λ (y : Op). IsIn (the_read st.block (length (instrs_at g st.block)) r phi.0.line) (reads_of_op g x.block place.0 phi.0.line y)) (sym phi.2)
    (edge_read g x.block place.0 phi.0.line to st.block r reads.1 reads.2 e f.0 number reads.6) in
    let known = known_read m g s st.walk st.block (length (instrs_at g st.block)) r phi.0.line st.comes
    (read_at g x.block place.0 phi.0 (the_read st.block (length (instrs_at g st.block)) r phi.0.line) (ap (λ (is : List Instr). slice_get is place.0) there ∙ place.1) read) in
    let before : Known g st.walk st.block st.place r = known_at_end g st.walk st.block st.place r o os at.here gives (subst (λ (n : ℕ). Known g st.walk st.block n r) (sym at.whole) known) in
    let within : r < length g.params + length g.locals = known_within m g s st.walk st.block st.place r before in
    let many : length g.params + length g.locals ≤ length a.registers = st.many in
    (omega (arith, within, many), st.same r before)

target_ends : (o : Op) (label : List ℕ) → IsIn label (targets_of o) → (is_terminator o ≡ true) × (given_by o ≡ None)
target_ends (op.Jump l) label i = (refl, refl)
target_ends (op.Branch c x y) label i = (refl, refl)
target_ends (op.Switch ty v otherwise cases) label i = (refl, refl)
target_ends o label i = absurd i

-- whatever the function reads next is the same in both
pub next_same : (m : Module) (g : Function) → Sound m g → (a : Activation) (qs : List Word) → Stood g a qs → (r : ℕ) → ReadsNext a r → (r < length a.registers) × (held qs r ≡ held a.registers r)
next_same m g s a qs st r (o, os, ec, inl (x, i, e)) = read_same m g s a qs o os ec st x r i e
next_same m g s a qs st r (o, os, ec, inr (label, b, at, eb, reads)) =
    let t = target_ends o label at in phi_same m g s a qs b label o os ec t.0 t.1 (arrives g a label b st.blocks eb) st r reads
