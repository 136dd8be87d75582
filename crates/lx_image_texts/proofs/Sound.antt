-- A text without a fault is the image of the program that erasing gives.
use Rattle.std.proofs.Common.{◌≡◌, ℕ, zero, suc, ◌+◌, Bool, true, false, not, ◌||◌, List, [], ◌∷◌, ◌++◌, length, map, take, drop, Option, Some, None, refl, sym, subst, ◌∙◌, ap, arith}
use Rattle.std.specs.Prelude.{cond, filter, codes, slice_get, slice_index_or, option_map, flat_map, nat_lt}
use Rattle.std.specs.List.{list_all, list_any}
use Rattle.std.specs.Option.{option_or}
use Rattle.std.proofs.lemmas.Option.{slice_get_within}
use Rattle.std.proofs.lemmas.Bool.{or_parts, and_from, not-true}
use Rattle.lx_words.proofs.Lists.{map_length, all_joined, there_is, all_filter}
use Rattle.lx_words.proofs.Options.{some_same, none_some, neither_some, some_none, map_none}
use Rattle.lx_words.proofs.Tests.{true_false, true_less, less_true, false_true, first_of, second_of}
use Rattle.lx_ir.specs.declared.module.Symbol.TheVariants as symbol
use Rattle.lx_ir.specs.declared.module.Pointer.{Pointer}
use Rattle.lx_ir.specs.declared.module.Pointer.TheVariants as pointer
use Rattle.lx_ir.specs.declared.module.Constant.{Constant}
use Rattle.lx_ir.specs.declared.module.Constant.TheVariants as constant
use Rattle.lx_ir.specs.declared.module.Value.{Value}
use Rattle.lx_ir.specs.declared.module.Value.TheVariants as value
use Rattle.lx_ir.specs.declared.module.GlobalVar.{GlobalVar}
use Rattle.lx_ir.specs.declared.module.Block.{Block}
use Rattle.lx_ir.specs.declared.module.Function.{Function}
use Rattle.lx_ir.specs.declared.module.Module.{Module}
use Rattle.lx_ir.specs.declared.instr.Argument.{Argument}
use Rattle.lx_ir.specs.declared.instr.Callee.{Callee}
use Rattle.lx_ir.specs.declared.instr.Callee.TheVariants as callee
use Rattle.lx_ir.specs.declared.instr.Instr.{Instr}
use Rattle.lx_ir.specs.declared.instr.Op.{Op}
use Rattle.lx_ir.specs.declared.instr.Op.TheVariants as op
use Rattle.lx_ir.specs.Init.{Init, Plain, Empty, Bytes, Group, Inits, no_more, more}
use Rattle.lx_ir.specs.Lookup.{is_defined, blocks_of, blocks_of_option, instrs_of}
use Rattle.lx_ir.specs.Lawful.{IsLawful, IsPlain, is_own_name, is_distinct, is_lawful_pointer}
use Rattle.lx_ir.specs.Operands.{operands_of, is_image_line}
use Rattle.lx_ir.specs.Faults.{first_some}
use Rattle.lx_annot.specs.declared.interface.Interface.{Interface}
use Rattle.lx_propagate.specs.Slots.{conflict_of}
use Rattle.lx_image_texts.specs.Marks.{callee_for, is_mark, without_marks}
use Rattle.lx_image_texts.specs.Guards.{ops_of, IsMarked, AreMarked, HasMarks, AreGuarded, function_text, BlockText, block_text, Guards}
use Rattle.lx_image_texts.specs.WrapperText.{unlined}
use Rattle.lx_image_texts.specs.ImageFaults.{ImageFault, Kind, BodyReached, kind_if, mark_kind, kind_at, may_call, calls_well, pointer_mentions, constant_mentions, value_mentions, reaches_body, first_op, fault_at, fault_in_block, fault_in_blocks, fault_in_function, init_mentions, inits_mention, global_fault, wrapper_fault, import_fault, missing_fault, misplaced, defined_names, conflict_fault, without_wrappers, right_wrappers, whole_fault, first_image_fault}
use Rattle.lx_image_texts.specs.Erased.{erased_number, erased_callee, erased_op, erased_code, erased_block, erased_text, erased_functions, is_of_program}
use Rattle.lx_image_texts.specs.Programs.{program_block, program_function, program_of, constant_within, value_within, callee_within, call_within, op_within, init_within, inits_within, IsClosed}
use Rattle.lx_image_texts.proofs.Erasing.{names_of, is_program_name, all_first, all_second}
use Rattle.lx_image_texts.proofs.MarkedCode.{head_of, first_mark_kind, none_marked}
use Rattle.lx_image_texts.proofs.SlotTypes.{Half, agrees_back}
use Rattle.lx_image_texts.proofs.Ordering.{none_or, sorted}
use Rattle.lx_image_texts.proofs.Distinct.{Each}
use Rattle.lx_image_texts.proofs.Wrapping.{each_filter, filter_own, filter_program, wrapped}
use Rattle.lx_image_texts.proofs.Back.{Text, program, wrappers, in_program, in_module, callee_back, operands_kept, marked_back}
use Rattle.lx_image_texts.proofs.Right.{right_is}

kind_none : (b : Bool) (k : Kind) → kind_if b k ≡ None → not b ≡ true
kind_none true k e = some_none e
kind_none false k e = refl

-- code without a fault

record Clean (x : Module) (f : Function) (before : Option Op) (is : List Op) : Type 0 where
  marks : first_mark_kind x f before is ≡ None
  reach : list_all (λ (o : Op). not (reaches_body x o)) is ≡ true

pub head_same : (is : List Instr) → first_op is ≡ head_of (map (λ (i : Instr). i.op) is)
head_same [] = refl
head_same (i ∷ is) = refl

clean_block : (x : Module) (f : Function) (place : ℕ) (before : Option Op) (is : List Instr) → fault_in_block x f place before is ≡ None → Clean x f before (map (λ (i : Instr). i.op) is)
clean_block x f place before [] e = record { marks = refl; reach = refl }
clean_block x f place before (i ∷ is) e =
    let n = neither_some (option_map (fault_at f place i) (kind_at x f before i.op (first_op is))) (fault_in_block x f (suc place) (Some i.op) is) e in
    let p = neither_some (mark_kind x f before i.op (first_op is)) (kind_if (reaches_body x i.op) BodyReached) (map_none (fault_at f place i) (kind_at x f before i.op (first_op is)) n.0) in
    let ih = clean_block x f (suc place) (Some i.op) is n.1 in
    record {
      marks = none_or (mark_kind x f before i.op (head_of (map (λ (i : Instr). i.op) is))) (first_mark_kind x f (Some i.op) (map (λ (i : Instr). i.op) is)) (ap (mark_kind x f before i.op) (sym (head_same is)) ∙ p.0) ih.marks;
      reach = and_from (not (reaches_body x i.op)) (list_all (λ (o : Op). not (reaches_body x o)) (map (λ (i : Instr). i.op) is)) (kind_none (reaches_body x i.op) BodyReached p.1) ih.reach;
    }

-- a block of a function, and what lawfulness gives of it
record Good (x : Module) (f : Function) (b : Block) : Type 0 where
  clean : Clean x f None (ops_of b)
  within : list_all (λ (i : Instr). op_within x i.op) b.instrs ≡ true

good_blocks : (x : Module) (f : Function) (place : ℕ) (bs : List Block) → fault_in_blocks x f place bs ≡ None → list_all (λ (i : Instr). op_within x i.op) (flat_map (λ (b : Block). b.instrs) bs) ≡ true → Each (Good x f) bs
good_blocks x f place [] e w = tt
good_blocks x f place (b ∷ bs) e w =
    let n = neither_some (fault_in_block x f place None b.instrs) (fault_in_blocks x f (length b.instrs + place) bs) e in (
      record { clean = clean_block x f place None b.instrs n.0; within = all_first (λ (i : Instr). op_within x i.op) b.instrs (flat_map (λ (b : Block). b.instrs) bs) w },
      good_blocks x f (length b.instrs + place) bs n.1 (all_second (λ (i : Instr). op_within x i.op) b.instrs (flat_map (λ (b : Block). b.instrs) bs) w),
    )

abbrev GoodFunction : Module → Function → Type 0
GoodFunction x f = is_own_name f.name ≡ false → Each (Good x f) (blocks_of f)

good_function : (x : Module) (f : Function) → fault_in_function x f ≡ None → list_all (λ (i : Instr). op_within x i.op) (instrs_of f) ≡ true → GoodFunction x f
good_function x f e w own = good_blocks x f 0 (blocks_of f) (sym (λ j. cond (own j) None (fault_in_blocks x f 0 (blocks_of f))) ∙ e) w

good_functions : (x : Module) (fs : List Function) → first_some (fault_in_function x) fs ≡ None → list_all (λ (i : Instr). op_within x i.op) (flat_map instrs_of fs) ≡ true → Each (GoodFunction x) fs
good_functions x [] e w = tt
good_functions x (f ∷ fs) e w =
    let n = neither_some (fault_in_function x f) (first_some (fault_in_function x) fs) e in
    (good_function x f n.0 (all_first (λ (i : Instr). op_within x i.op) (instrs_of f) (flat_map instrs_of fs) w), good_functions x fs n.1 (all_second (λ (i : Instr). op_within x i.op) (instrs_of f) (flat_map instrs_of fs) w))

-- what is left of code

all_each : {A : Type 0} (p q : A → Bool) (xs : List A) → ((x : A) → p x ≡ true → q x ≡ true) → list_all p xs ≡ true → list_all q xs ≡ true
all_each p q [] k h = refl
all_each p q (x ∷ xs) k h = and_from (q x) (list_all q xs) (k x (first_of (p x) (list_all p xs) h)) (all_each p q xs k (second_of (p x) (list_all p xs) h))

well_called : (c r : Bool) → not (not c || r) ≡ true → c ≡ true
well_called true r e = refl
well_called false r e = false_true e

pub unlined_ops : (os : List Op) → map (λ (i : Instr). i.op) (map unlined os) ≡ os
unlined_ops [] = refl
unlined_ops (o ∷ os) = ap (λ (ps : List Op). o ∷ ps) (unlined_ops os)

block_marked : (i : Interface) (x : Module) → Text i x → (f : Function) (is : List Op) → Clean x f None is → IsMarked (program_of x) (program_function x f) (erased_code x is) is
block_marked i x t f is c =
    let m = none_marked x f is c.marks in
    marked_back i x t f (without_marks is) is m.0 (all_filter (calls_well x) (λ o. not (is_mark o)) is (all_each (λ (o : Op). not (reaches_body x o)) (calls_well x) is (λ o h. well_called (calls_well x o) (list_any (λ a. value_mentions x a.value) (operands_of o)) h) c.reach)) m.1

blocks_marked : (i : Interface) (x : Module) → Text i x → (f : Function) (bs : List Block) → Each (Good x f) bs → AreMarked (program_of x) (program_function x f) (map (program_block x) bs) bs
blocks_marked i x t f [] h = tt
blocks_marked i x t f (b ∷ bs) h = (refl, subst (λ (os : List Op). IsMarked (program_of x) (program_function x f) os (ops_of b)) (sym (unlined_ops (erased_code x (ops_of b)))) (block_marked i x t f (ops_of b) h.0.clean), blocks_marked i x t f bs h.1)

body_marked : (i : Interface) (x : Module) → Text i x → (f : Function) (bs : Option (List Block)) → Each (Good x f) (blocks_of_option bs) → HasMarks (program_of x) (program_function x f) (option_map (map (program_block x)) bs) bs
body_marked i x t f None h = tt
body_marked i x t f (Some bs) h = blocks_marked i x t f bs h

are_guarded : (i : Interface) (x : Module) → Text i x → (fs : List Function) → Each (GoodFunction x) fs → list_all is_program_name (names_of fs) ≡ true → AreGuarded (program_of x) (map (program_function x) fs) fs
are_guarded i x t [] h p = refl
are_guarded i x t (f ∷ fs) h p = (
  record { name = refl; params = refl; locals = refl; ret = refl; body = body_marked i x t f f.blocks (h.0 (not-true (is_own_name f.name) (first_of (is_program_name f.name) (list_all is_program_name (names_of fs)) p))) },
  are_guarded i x t fs h.1 (second_of (is_program_name f.name) (list_all is_program_name (names_of fs)) p),
)

-- what is so of each instruction of the program

record Left (x : Module) (o : Op) : Type 0 where
  plain : not (is_image_line o) ≡ true
  reach : not (reaches_body x o) ≡ true
  within : op_within x o ≡ true

abbrev Holds : Module → (Op → Bool) → Type 0
Holds x p = (o : Op) → Left x o → p (erased_op x o) ≡ true

code_holds : (x : Module) (p : Op → Bool) → Holds x p → (os : List Op) → list_all (λ (o : Op). not (is_image_line o)) os ≡ true → list_all (λ (o : Op). not (reaches_body x o)) os ≡ true → list_all (op_within x) os ≡ true → list_all (λ (i : Instr). p i.op) (map unlined (map (erased_op x) os)) ≡ true
code_holds x p h [] a b c = refl
code_holds x p h (o ∷ os) a b c =
    and_from (p (erased_op x o)) (list_all (λ (i : Instr). p i.op) (map unlined (map (erased_op x) os)))
    (h o (record { plain = first_of (not (is_image_line o)) _ a; reach = first_of (not (reaches_body x o)) _ b; within = first_of (op_within x o) _ c }))
    (code_holds x p h os (second_of (not (is_image_line o)) _ a) (second_of (not (reaches_body x o)) _ b) (second_of (op_within x o) _ c))

pub all_ops : (p : Op → Bool) (is : List Instr) → list_all (λ (i : Instr). p i.op) is ≡ true → list_all p (map (λ (i : Instr). i.op) is) ≡ true
all_ops p [] a = refl
all_ops p (i ∷ is) a = and_from (p i.op) (list_all p (map (λ (i : Instr). i.op) is)) (first_of (p i.op) (list_all (λ (i : Instr). p i.op) is) a) (all_ops p is (second_of (p i.op) (list_all (λ (i : Instr). p i.op) is) a))

blocks_hold : (x : Module) (p : Op → Bool) → Holds x p → (f : Function) (bs : List Block) → Each (Good x f) bs → list_all (λ (i : Instr). p i.op) (flat_map (λ (b : Block). b.instrs) (map (program_block x) bs)) ≡ true
blocks_hold x p h f [] g = refl
blocks_hold x p h f (b ∷ bs) g =
    all_joined (λ (i : Instr). p i.op) (map unlined (erased_code x (ops_of b))) (flat_map (λ (b : Block). b.instrs) (map (program_block x) bs))
    (code_holds x p h (without_marks (ops_of b)) (none_marked x f (ops_of b) g.0.clean.marks).0 (all_filter (λ (o : Op). not (reaches_body x o)) (λ o. not (is_mark o)) (ops_of b) g.0.clean.reach) (all_filter (op_within x) (λ o. not (is_mark o)) (ops_of b) (all_ops (op_within x) b.instrs g.0.within)))
    (blocks_hold x p h f bs g.1)

body_holds : (x : Module) (p : Op → Bool) → Holds x p → (f : Function) (bs : Option (List Block)) → Each (Good x f) (blocks_of_option bs) → list_all (λ (i : Instr). p i.op) (flat_map (λ (b : Block). b.instrs) (blocks_of_option (option_map (map (program_block x)) bs))) ≡ true
body_holds x p h f None g = refl
body_holds x p h f (Some bs) g = blocks_hold x p h f bs g

functions_hold : (x : Module) (p : Op → Bool) → Holds x p → (fs : List Function) → Each (GoodFunction x) fs → list_all is_program_name (names_of fs) ≡ true → list_all (λ (i : Instr). p i.op) (flat_map instrs_of (map (program_function x) fs)) ≡ true
functions_hold x p h [] g n = refl
functions_hold x p h (f ∷ fs) g n =
    all_joined (λ (i : Instr). p i.op) (instrs_of (program_function x f)) (flat_map instrs_of (map (program_function x) fs))
    (body_holds x p h f f.blocks (g.0 (not-true (is_own_name f.name) (first_of (is_program_name f.name) (list_all is_program_name (names_of fs)) n))))
    (functions_hold x p h fs g.1 (second_of (is_program_name f.name) (list_all is_program_name (names_of fs)) n))

plain_holds : (x : Module) → Holds x (λ (o : Op). not (is_image_line o))
plain_holds x (op.Call to ret y args) l = refl
plain_holds x o l = l.plain

-- its symbols are its own

pub named : (fs : List Function) (k : ℕ) (f : Function) → slice_get fs k ≡ Some f → slice_index_or (names_of fs) k [] ≡ f.name
named [] k f e = none_some e
named (g ∷ fs) zero f e = ap (λ (h : Function). h.name) (some_same e)
named (g ∷ fs) (suc k) f e = named fs k f e

pointer_left : (i : Interface) (x : Module) → Text i x → (p : Pointer) → is_lawful_pointer x p ≡ true → pointer_mentions x p ≡ false → is_lawful_pointer (program_of x) p ≡ true
pointer_left i x t (pointer.Symbol (symbol.Function k) n) l e =
    let f = there_is x.functions k (true_less k (length x.functions) l) in
    let own : is_own_name f.0.name ≡ false = ap is_own_name (sym (named x.functions k f.0 f.1)) ∙ e in
    less_true k (length (program_of x).functions) (slice_get_within (program_of x).functions k (program_function x f.0) (in_module x k f.0 (in_program i x t k f.0 f.1 own)))
pointer_left i x t (pointer.Symbol (symbol.Global k) n) l e = l
pointer_left i x t p l e = refl

constant_left : (i : Interface) (x : Module) → Text i x → (c : Constant) → constant_within x c ≡ true → constant_mentions x c ≡ false → constant_within (program_of x) c ≡ true
constant_left i x t (constant.Pointer p) l e = pointer_left i x t p l e
constant_left i x t (constant.Cast p w) l e = pointer_left i x t p l e
constant_left i x t c l e = refl

value_left : (i : Interface) (x : Module) → Text i x → (v : Value) → value_within x v ≡ true → value_mentions x v ≡ false → value_within (program_of x) v ≡ true
value_left i x t (value.Register r) l e = refl
value_left i x t (value.Constant c) l e = constant_left i x t c l e

values_left : (i : Interface) (x : Module) → Text i x → (xs : List Argument) → list_all (λ (a : Argument). value_within x a.value) xs ≡ true → list_any (λ (a : Argument). value_mentions x a.value) xs ≡ false → list_all (λ (a : Argument). value_within (program_of x) a.value) xs ≡ true
values_left i x t [] l e = refl
values_left i x t (a ∷ xs) l e =
    let n = or_parts (value_mentions x a.value) (list_any (λ (a : Argument). value_mentions x a.value) xs) e in
    and_from (value_within (program_of x) a.value) (list_all (λ (a : Argument). value_within (program_of x) a.value) xs)
    (value_left i x t a.value (first_of (value_within x a.value) (list_all (λ (a : Argument). value_within x a.value) xs) l) n.0)
    (values_left i x t xs (second_of (value_within x a.value) (list_all (λ (a : Argument). value_within x a.value) xs) l) n.1)

abbrev no_global : Callee → Bool
no_global (callee.Symbol (symbol.Global g)) = false
no_global y = true

number_left : (i : Interface) (x : Module) (j k : ℕ) (o : Option Function) → slice_get (program_of x).functions j ≡ o → callee_for (program_of x) j o ≡ callee.Symbol (symbol.Function k) → nat_lt j (length (program_of x).functions) ≡ true
number_left i x j k None e back = true_false (sym (ap no_global back))
number_left i x j k (Some f) e back = less_true j (length (program_of x).functions) (slice_get_within (program_of x).functions j f e)

callee_left : (i : Interface) (x : Module) → Text i x → (y : Callee) → may_call x y ≡ true → callee_within (program_of x) (erased_callee x y) ≡ true
callee_left i x t (callee.Register r) may = refl
callee_left i x t (callee.Symbol (symbol.Global g)) may = false_true may
callee_left i x t (callee.Symbol (symbol.Function k)) may = number_left i x (erased_number x k (slice_get x.functions k)) k (slice_get (program_of x).functions (erased_number x k (slice_get x.functions k))) refl (callee_back i x t (callee.Symbol (symbol.Function k)) may)

call_left : (i : Interface) (x : Module) → Text i x → (o : Op) → calls_well x o ≡ true → call_within (program_of x) (erased_op x o) ≡ true
call_left i x t (op.Call to ret y args) c = callee_left i x t y c
call_left i x t o c = refl

not_reached : (c r : Bool) → not (not c || r) ≡ true → r ≡ false
not_reached true true e = false_true e
not_reached true false e = refl
not_reached false r e = false_true e

within_holds : (i : Interface) (x : Module) → Text i x → Holds x (op_within (program_of x))
within_holds i x t o l =
    and_from (call_within (program_of x) (erased_op x o)) (list_all (λ (a : Argument). value_within (program_of x) a.value) (operands_of (erased_op x o)))
    (call_left i x t o (well_called (calls_well x o) (list_any (λ a. value_mentions x a.value) (operands_of o)) l.reach))
    (ap (list_all (λ (a : Argument). value_within (program_of x) a.value)) (operands_kept x o)
    ∙ values_left i x t (operands_of o) (second_of (call_within x o) (list_all (λ a. value_within x a.value) (operands_of o)) l.within) (not_reached (calls_well x o) (list_any (λ a. value_mentions x a.value) (operands_of o)) l.reach))

-- globals

pub not_both : (b : Bool) (f : ImageFault) → cond b (Some f) None ≡ None → b ≡ false
not_both true f e = some_none e
not_both false f e = refl

mutual
  init_left : (i : Interface) (x : Module) → Text i x → (n : Init) → init_within x n ≡ true → init_mentions x n ≡ false → init_within (program_of x) n ≡ true
  init_left i x t (Plain c) l e = constant_left i x t c l e
  init_left i x t (Empty b) l e = refl
  init_left i x t (Bytes bs) l e = refl
  init_left i x t (Group k ts is) l e = inits_left i x t is l e

  inits_left : (i : Interface) (x : Module) → Text i x → (ns : Inits) → inits_within x ns ≡ true → inits_mention x ns ≡ false → inits_within (program_of x) ns ≡ true
  inits_left i x t no_more l e = refl
  inits_left i x t (more n ns) l e =
      and_from (init_within (program_of x) n) (inits_within (program_of x) ns)
      (init_left i x t n (first_of (init_within x n) (inits_within x ns) l) (or_parts (init_mentions x n) (inits_mention x ns) e).0)
      (inits_left i x t ns (second_of (init_within x n) (inits_within x ns) l) (or_parts (init_mentions x n) (inits_mention x ns) e).1)

globals_left : (i : Interface) (x : Module) → Text i x → (gs : List GlobalVar) → first_some (global_fault x) gs ≡ None → list_all (λ (g : GlobalVar). init_within x g.init) gs ≡ true → list_all (λ (g : GlobalVar). init_within (program_of x) g.init) gs ≡ true
globals_left i x t [] e l = refl
globals_left i x t (g ∷ gs) e l =
    let n = neither_some (global_fault x g) (first_some (global_fault x) gs) e in
    let both = or_parts (is_own_name g.name) (init_mentions x g.init) (not_both (is_own_name g.name || init_mentions x g.init) (wrapper_fault g.line g.name 0) n.0) in
    and_from (init_within (program_of x) g.init) (list_all (λ (g : GlobalVar). init_within (program_of x) g.init) gs)
    (init_left i x t g.init (first_of (init_within x g.init) (list_all (λ (g : GlobalVar). init_within x g.init) gs) l) both.1)
    (globals_left i x t gs n.1 (second_of (init_within x g.init) (list_all (λ (g : GlobalVar). init_within x g.init) gs) l))

global_names : (x : Module) (gs : List GlobalVar) → first_some (global_fault x) gs ≡ None → list_all is_program_name (map (λ (g : GlobalVar). g.name) gs) ≡ true
global_names x [] e = refl
global_names x (g ∷ gs) e =
    let n = neither_some (global_fault x g) (first_some (global_fault x) gs) e in
    and_from (is_program_name g.name) (list_all is_program_name (map (λ (g : GlobalVar). g.name) gs))
    (ap not (or_parts (is_own_name g.name) (init_mentions x g.init) (not_both (is_own_name g.name || init_mentions x g.init) (wrapper_fault g.line g.name 0) n.0)).0)
    (global_names x gs n.1)

names_kept : (x : Module) (fs : List Function) → names_of (map (program_function x) fs) ≡ names_of fs
names_kept x [] = refl
names_kept x (f ∷ fs) = ap (λ (ns : List (List ℕ)). f.name ∷ ns) (names_kept x fs)

take_front : {A B : Type 0} (xs : List A) (zs : List B) (ys : List A) → length zs ≡ length xs → take (length zs) (xs ++ ys) ≡ xs
take_front [] [] ys e = refl
take_front (x ∷ xs) (z ∷ zs) ys e = ap (λ ws. x ∷ ws) (take_front xs zs ys (omega (arith, e)))
take_front [] (z ∷ zs) ys e = absurd (omega (arith, e))
take_front (x ∷ xs) [] ys e = absurd (omega (arith, e))

drop_front : {A B : Type 0} (xs : List A) (zs : List B) (ys : List A) → length zs ≡ length xs → drop (length zs) (xs ++ ys) ≡ ys
drop_front [] [] ys e = refl
drop_front (x ∷ xs) (z ∷ zs) ys e = drop_front xs zs ys (omega (arith, e))
drop_front [] (z ∷ zs) ys e = absurd (omega (arith, e))
drop_front (x ∷ xs) [] ys e = absurd (omega (arith, e))

-- the five parts

record Whole (i : Interface) (x : Module) : Type 0 where
  globals : first_some (global_fault x) x.globals ≡ None
  imports : first_some import_fault x.functions ≡ None
  missing : first_some (missing_fault x) (right_wrappers i x) ≡ None
  placed : misplaced (defined_names x.functions ++ map (λ w. w.name) (right_wrappers i x)) (Rattle.std.specs.Prelude.filter is_defined x.functions) ≡ None
  agrees : conflict_of i (without_wrappers x) ≡ None

whole : (i : Interface) (x : Module) → whole_fault i x ≡ None → Whole i x
whole i x e =
    let a = neither_some (first_some (global_fault x) x.globals) _ e in
    let b = neither_some (first_some import_fault x.functions) _ a.1 in
    let c = neither_some (first_some (missing_fault x) (right_wrappers i x)) _ b.1 in
    let d = neither_some (misplaced (defined_names x.functions ++ map (λ w. w.name) (right_wrappers i x)) (filter is_defined x.functions)) _ c.1 in
    record { globals = a.0; imports = b.0; missing = c.0; placed = d.0; agrees = map_none conflict_fault (conflict_of i (without_wrappers x)) d.1 }

-- what erasing gives

erased_blocks : (x : Module) (bs : List Block) → map block_text (map (program_block x) bs) ≡ map (erased_block x) bs
erased_blocks x [] = refl
erased_blocks x (b ∷ bs) = λ j. record { name = b.name; code = unlined_ops (erased_code x (ops_of b)) j } ∷ erased_blocks x bs j

erased_body : (x : Module) (bs : Option (List Block)) → option_map (map block_text) (option_map (map (program_block x)) bs) ≡ option_map (map (erased_block x)) bs
erased_body x None = refl
erased_body x (Some bs) = ap (λ (ts : List BlockText). Some ts) (erased_blocks x bs)

erased_program : (x : Module) (fs : List Function) → map function_text (map (program_function x) fs) ≡ map (erased_text x) fs
erased_program x [] = refl
erased_program x (f ∷ fs) = λ j. record { name = f.name; params = f.params; locals = f.locals; ret = f.ret; blocks = erased_body x f.blocks j } ∷ erased_program x fs j

pub program_text : (x : Module) → map function_text (program_of x).functions ≡ erased_functions x
program_text x = erased_program x (program x)

-- the image

pub sound : (i : Interface) (x : Module) → IsClosed x → is_distinct (names_of x.functions) ≡ true → Rattle.lx_ir.specs.Lawful.imports_first x.functions ≡ true → first_image_fault i x ≡ None → Guards i (program_of x) x × IsClosed (program_of x)
sound i x closed distinct first e =
    let n = neither_some (first_some (fault_in_function x) x.functions) (whole_fault i x) e in
    let w = whole i x n.1 in
    let s = sorted x.functions (map (λ w. w.name) (right_wrappers i x)) first w.imports w.placed in
    let t : Text i x = record { parts = s.1.parts; wrapped = wrapped i x s.0 distinct w.missing s.1.names; distinct = distinct } in
    let good = each_filter (GoodFunction x) is_of_program x.functions (good_functions x x.functions n.0 closed.lines) in
    let guarded : AreGuarded (program_of x) (program_of x).functions (program x) = are_guarded i x t (program x) good (filter_program x.functions) in
    let count : length (program_of x).functions ≡ length (program x) = map_length (program_function x) (program x) in
    let front : take (length (program_of x).functions) x.functions ≡ program x = ap (take (length (program_of x).functions)) t.parts ∙ take_front (program x) (program_of x).functions (wrappers x) count in
    let rest : drop (length (program_of x).functions) x.functions ≡ wrappers x = ap (drop (length (program_of x).functions)) t.parts ∙ drop_front (program x) (program_of x).functions (wrappers x) count in
    let half : Half (program_of x) x = record {
      types = refl;
      globals = refl;
      functions = subst (AreGuarded (program_of x) (program_of x).functions) (sym front) guarded;
      program = ap (λ (fs : List Function). list_all is_program_name (names_of fs)) front ∙ filter_program x.functions;
      own = ap (λ (fs : List Function). list_all (λ n. not (is_program_name n)) (names_of fs)) rest ∙ filter_own x.functions;
    } in (
      record {
        plain = record {
          lines = functions_hold x (λ (o : Op). not (is_image_line o)) (plain_holds x) (program x) good (filter_program x.functions);
          names = all_joined is_program_name (map (λ (g : GlobalVar). g.name) x.globals) (names_of (program_of x).functions) (global_names x x.globals w.globals) (ap (list_all is_program_name) (names_kept x (program x)) ∙ filter_program x.functions);
        };
        agrees = agrees_back i (program_of x) x half w.agrees;
        types = refl;
        globals = refl;
        functions = half.functions;
        wrappers = ap (map function_text) rest ∙ (t.wrapped.texts ∙ ap (map function_text) (right_is i (program_of x) x half));
      },
      record {
        lines = functions_hold x (op_within (program_of x)) (within_holds i x t) (program x) good (filter_program x.functions);
        globals = globals_left i x t x.globals w.globals closed.globals;
      },
    )
