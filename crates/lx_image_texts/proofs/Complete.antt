-- An image has no fault.
use Rattle.std.proofs.Common.{◌≡◌, ℕ, zero, suc, ◌+◌, ◌<◌, Bool, true, false, not, ◌&&◌, ◌||◌, List, [], ◌∷◌, ◌++◌, length, map, take, drop, Option, Some, None, inl, inr, refl, sym, ◌∙◌, ap}
use Rattle.std.specs.Prelude.{bytes_eq, cond, codes, slice_get, slice_index_or, option_map, flat_map, filter, ◌⊎◌}
use Rattle.std.specs.List.{list_all, list_any}
use Rattle.std.proofs.lemmas.Option.{slice_get_within}
use Rattle.std.proofs.lemmas.Bool.{or_from, and_from, not-true}
use Rattle.lx_words.proofs.Lists.{bytes_itself, got_take, split_at, all_joined, there_is, heads, tails, any_at}
use Rattle.lx_words.proofs.Tests.{true_false, and_false, true_less, false_true, first_of, second_of}
use Rattle.lx_words.proofs.Options.{some_same, none_some, neither_some}
use Rattle.lx_ir.specs.declared.types.Scalar.{Scalar}
use Rattle.lx_ir.specs.declared.module.Symbol.TheVariants as symbol
use Rattle.lx_ir.specs.declared.module.Pointer.{Pointer}
use Rattle.lx_ir.specs.declared.module.Pointer.TheVariants as pointer
use Rattle.lx_ir.specs.declared.module.Constant.{Constant}
use Rattle.lx_ir.specs.declared.module.Constant.TheVariants as constant
use Rattle.lx_ir.specs.declared.module.Value.{Value}
use Rattle.lx_ir.specs.declared.module.Value.TheVariants as value
use Rattle.lx_ir.specs.declared.module.GlobalVar.{GlobalVar}
use Rattle.lx_ir.specs.declared.module.Block.{Block}
use Rattle.lx_ir.specs.declared.module.Function.{Function}
use Rattle.lx_ir.specs.declared.module.Module.{Module}
use Rattle.lx_ir.specs.declared.instr.Argument.{Argument}
use Rattle.lx_ir.specs.declared.instr.Callee.{Callee}
use Rattle.lx_ir.specs.declared.instr.Callee.TheVariants as callee
use Rattle.lx_ir.specs.declared.instr.Instr.{Instr}
use Rattle.lx_ir.specs.declared.instr.Op.{Op}
use Rattle.lx_ir.specs.declared.instr.Op.TheVariants as op
use Rattle.lx_ir.specs.Init.{Init, Plain, Empty, Bytes, Group, Inits, no_more, more}
use Rattle.lx_ir.specs.Lookup.{is_defined, blocks_of, blocks_of_option, instrs_of}
use Rattle.lx_ir.specs.Lawful.{is_own_name, is_distinct, is_lawful_pointer}
use Rattle.lx_ir.specs.Operands.{operands_of, callee_operands, is_image_line}
use Rattle.lx_ir.specs.Faults.{first_some}
use Rattle.lx_annot.specs.declared.interface.Interface.{Interface}
use Rattle.lx_image_texts.specs.Marks.{size_value, is_narrow, is_alias, is_wrapped, wrapper_number, callee_if, callee_for, image_callee, image_op, mark_of}
use Rattle.lx_image_texts.specs.Spared.{is_spared}
use Rattle.lx_image_texts.specs.Guards.{unlined_global, ops_of, StandsAt, IsMarked, AreMarked, HasMarks, IsGuarded, AreGuarded, Guards}
use Rattle.lx_image_texts.specs.WrapperText.{wrappers_of}
use Rattle.lx_image_texts.specs.ImageFaults.{BodyReached, kind_if, mark_kind, kind_at, has_out_wrapper, has_wrapper_named, wraps_import, may_call_function, may_call, calls_well, pointer_mentions, constant_mentions, value_mentions, reaches_body, first_op, fault_at, fault_in_block, fault_in_blocks, fault_in_function, init_mentions, inits_mention, global_fault, wrapper_fault, import_fault, missing_fault, misplaced, defined_names, conflict_fault, right_wrappers, whole_fault, first_image_fault}
use Rattle.lx_image_texts.specs.Programs.{constant_within, value_within, callee_within, call_within, op_within, init_within, inits_within, IsClosed}
use Rattle.lx_image_texts.proofs.Erasing.{names_of, is_program_name, out_prefix, all_first, all_second, drop_names}
use Rattle.lx_image_texts.proofs.MarkedCode.{head_of, first_mark_kind, StandsBefore, WithMarks, are_plain, marked_none}
use Rattle.lx_image_texts.proofs.Verified.{is_global, calls_no_global, CallsNoGlobal}
use Rattle.lx_image_texts.proofs.Calling.{guarded_at, name_got, all_at, wrapper_at}
use Rattle.lx_image_texts.proofs.SparedAlike.{spared_alike, callees_alike}
use Rattle.lx_image_texts.proofs.SlotTypes.{half_of, still_agrees, defined_same}
use Rattle.lx_image_texts.proofs.Ordering.{none_or}
use Rattle.lx_image_texts.proofs.Distinct.{Each}
use Rattle.lx_image_texts.proofs.Wrapping.{StandsIn, all_stand, double}
use Rattle.lx_image_texts.proofs.Right.{right_is}
use Rattle.lx_image_texts.proofs.Sound.{head_same, named, all_ops}
use Rattle.lx_image_texts.proofs.Whole.{are_wrappers, none_missing, all_defined, none_misplaced}
use Rattle.lx_image_texts.proofs.Back.{Behind, in_parts}

no_kind : {A B : Type 0} (f : A → B) (o : Option A) → o ≡ None → option_map f o ≡ None
no_kind f o e = ap (option_map f) e

-- what is given

record Given (i : Interface) (m x : Module) : Type 0 where
  image : Guards i m x
  closed : IsClosed m
  distinct : is_distinct (names_of x.functions) ≡ true
  -- the functions behind the program's are defined
  defined : list_all is_defined (drop (length m.functions) x.functions) ≡ true

-- names

slice_get_less : (fs : List Function) (k : ℕ) (f : Function) → slice_get fs k ≡ Some f → k < length fs
slice_get_less fs k f e = slice_get_within fs k f e

program_at : (i : Interface) (m x : Module) → Given i m x → (k : ℕ) (f : Function) → slice_get m.functions k ≡ Some f → (g : Function) × (slice_get x.functions k ≡ Some g) × IsGuarded m f g × (is_own_name g.name ≡ false)
program_at i m x v k f e =
    let h = half_of i m x v.image in
    let g = guarded_at m m.functions (take (length m.functions) x.functions) k f h.functions e in (
      g.0,
      sym (got_take x.functions (length m.functions) k (slice_get_less m.functions k f e)) ∙ g.1,
      g.2,
      not-true (is_own_name g.0.name) (all_at is_program_name (names_of (take (length m.functions) x.functions)) k g.0.name h.program (name_got (take (length m.functions) x.functions) k g.0 g.1)),
    )

global_name : (gs : List (List ℕ)) (k : ℕ) → list_all is_program_name gs ≡ true → is_own_name (slice_index_or gs k []) ≡ false
global_name [] k p = refl
global_name (g ∷ gs) zero p = not-true (is_own_name g) (first_of (is_program_name g) (list_all is_program_name gs) p)
global_name (g ∷ gs) (suc k) p = global_name gs k (second_of (is_program_name g) (list_all is_program_name gs) p)

pub names_same : (a b : List GlobalVar) → map unlined_global a ≡ map unlined_global b → map (λ (g : GlobalVar). g.name) a ≡ map (λ (g : GlobalVar). g.name) b
names_same [] [] e = refl
names_same (g ∷ a) (h ∷ b) e = λ j. ap (λ (v : GlobalVar). v.name) (heads e) j ∷ names_same a b (tails e) j
names_same [] (h ∷ b) e = cc
names_same (g ∷ a) [] e = cc

global_names : (i : Interface) (m x : Module) → Guards i m x → list_all is_program_name (map (λ (g : GlobalVar). g.name) x.globals) ≡ true
global_names i m x k = ap (list_all is_program_name) (names_same x.globals m.globals k.globals) ∙ all_first is_program_name (map (λ (g : GlobalVar). g.name) m.globals) (names_of m.functions) k.plain.names

-- a mention of what is the program's is none of a wrapper

pointer_clean : (i : Interface) (m x : Module) → Given i m x → (p : Pointer) → is_lawful_pointer m p ≡ true → pointer_mentions x p ≡ false
pointer_clean i m x v (pointer.Symbol (symbol.Function k) n) l =
    let f = there_is m.functions k (true_less k (length m.functions) l) in
    let g = program_at i m x v k f.0 f.1 in
    ap is_own_name (named x.functions k g.0 g.1) ∙ g.3
pointer_clean i m x v (pointer.Symbol (symbol.Global k) n) l = global_name (map (λ (g : GlobalVar). g.name) x.globals) k (global_names i m x v.image)
pointer_clean i m x v p l = refl

constant_clean : (i : Interface) (m x : Module) → Given i m x → (c : Constant) → constant_within m c ≡ true → constant_mentions x c ≡ false
constant_clean i m x v (constant.Pointer p) l = pointer_clean i m x v p l
constant_clean i m x v (constant.Cast p w) l = pointer_clean i m x v p l
constant_clean i m x v c l = refl

value_clean : (i : Interface) (m x : Module) → Given i m x → (y : Value) → value_within m y ≡ true → value_mentions x y ≡ false
value_clean i m x v (value.Register r) l = refl
value_clean i m x v (value.Constant c) l = constant_clean i m x v c l

values_clean : (i : Interface) (m x : Module) → Given i m x → (xs : List Argument) → list_all (λ (a : Argument). value_within m a.value) xs ≡ true → list_any (λ (a : Argument). value_mentions x a.value) xs ≡ false
values_clean i m x v [] l = refl
values_clean i m x v (a ∷ xs) l =
    or_from (value_mentions x a.value) (list_any (λ (a : Argument). value_mentions x a.value) xs) (value_clean i m x v a.value (first_of (value_within m a.value) (list_all (λ (a : Argument). value_within m a.value) xs) l))
    (values_clean i m x v xs (second_of (value_within m a.value) (list_all (λ (a : Argument). value_within m a.value) xs) l))

-- calls

defined_at : (fs : List Function) (k : ℕ) (f : Function) → list_all is_defined fs ≡ true → slice_get fs k ≡ Some f → is_defined f ≡ true
defined_at [] k f a e = none_some e
defined_at (g ∷ fs) zero f a e = ap is_defined (sym (some_same e)) ∙ first_of (is_defined g) (list_all is_defined fs) a
defined_at (g ∷ fs) (suc k) f a e = defined_at fs k f (second_of (is_defined g) (list_all is_defined fs) a) e

own_by : (i : Interface) (m x : Module) → Given i m x → (k : ℕ) (w : Function) → is_own_name w.name ≡ true → (slice_get (take (length m.functions) x.functions) k ≡ Some w) ⊎ Behind (length (take (length m.functions) x.functions)) (drop (length m.functions) x.functions) k w → is_defined w ≡ true
own_by i m x v k w n (inl e) = true_false (sym n ∙ not-true (is_own_name w.name) (all_at is_program_name (names_of (take (length m.functions) x.functions)) k w.name (half_of i m x v.image).program (name_got (take (length m.functions) x.functions) k w e)))
own_by i m x v k w n (inr b) = defined_at (drop (length m.functions) x.functions) b.place w v.defined b.at

own_defined : (i : Interface) (m x : Module) → Given i m x → (k : ℕ) (w : Function) → slice_get x.functions k ≡ Some w → is_own_name w.name ≡ true → is_defined w ≡ true
own_defined i m x v k w e n = own_by i m x v k w n (in_parts (take (length m.functions) x.functions) (drop (length m.functions) x.functions) k w (ap (λ (fs : List Function). slice_get fs k) (split_at (length m.functions) x.functions) ∙ e))

may_own : (x : Module) (w : Function) → is_own_name w.name ≡ true → is_defined w ≡ true → wraps_import x w.name ≡ true → may_call_function x (Some w) ≡ true
may_own x w n d e = ap (λ (b : Bool). cond b (is_defined w && wraps_import x w.name) (is_defined w || is_alias w)) n ∙ and_from (is_defined w) (wraps_import x w.name) d e

may_other : (x : Module) (g : Function) → is_own_name g.name ≡ false → (is_defined g || is_alias g) ≡ true → may_call_function x (Some g) ≡ true
may_other x g n d = ap (λ (b : Bool). cond b (is_defined g && wraps_import x g.name) (is_defined g || is_alias g)) n ∙ d

unwrapped : (d a : Bool) → (not d && not a) ≡ false → (d || a) ≡ true
unwrapped true a e = refl
unwrapped false true e = refl
unwrapped false false e = true_false e

call_by : (i : Interface) (m x : Module) → Given i m x → (k : ℕ) (f : Function) (b : Bool) → slice_get m.functions k ≡ Some f → is_wrapped f ≡ b → may_call x (callee_if b m k) ≡ true
call_by i m x v k f false e w =
    let g = program_at i m x v k f e in
    ap (may_call_function x) g.1 ∙ may_other x g.0 g.3 (unwrapped (is_defined g.0) (is_alias g.0) ((λ j. not (defined_same m f g.0 g.2 j) && not (bytes_eq (g.2.name j) (codes "lxfi_princ_alias"))) ∙ w))
call_by i m x v k f true e t =
    let w = wrapper_at i m x v.image k f e t in
    let g = program_at i m x v k f e in
    let own : is_own_name w.0.name ≡ true = ap is_own_name w.2 in
    let has : has_out_wrapper g.0 ≡ true
    = and_from (not (is_defined g.0) && not (is_alias g.0)) (not (is_own_name g.0.name)) ((λ j. not (defined_same m f g.0 g.2 j) && not (bytes_eq (g.2.name j) (codes "lxfi_princ_alias"))) ∙ t) (ap not g.3) in
    let same : bytes_eq (out_prefix ++ g.0.name) w.0.name ≡ true = ap (λ (n : List ℕ). bytes_eq (out_prefix ++ n) w.0.name) g.2.name ∙ (ap (bytes_eq (out_prefix ++ f.name)) w.2 ∙ bytes_itself (out_prefix ++ f.name)) in
    ap (may_call_function x) w.1
    ∙ may_own x w.0 own (own_defined i m x v (wrapper_number m k) w.0 w.1 own) (any_at (has_wrapper_named w.0.name) x.functions k g.0 g.1 (and_from (has_out_wrapper g.0) (bytes_eq (out_prefix ++ g.0.name) w.0.name) has same))

callee_clean : (i : Interface) (m x : Module) → Given i m x → (y : Callee) → callee_within m y ≡ true → not (is_global (image_callee m y)) ≡ true → may_call x (image_callee m y) ≡ true
callee_clean i m x v (callee.Register r) l c = refl
callee_clean i m x v (callee.Symbol (symbol.Global g)) l c = false_true c
callee_clean i m x v (callee.Symbol (symbol.Function k)) l c =
    let f = there_is m.functions k (true_less k (length m.functions) l) in
    ap (λ (o : Option Function). may_call x (callee_for m k o)) f.1 ∙ call_by i m x v k f.0 (is_wrapped f.0) f.1 refl

call_clean : (i : Interface) (m x : Module) → Given i m x → (o : Op) → not (is_image_line o) ≡ true → call_within m o ≡ true → calls_no_global (image_op m o) ≡ true → calls_well x (image_op m o) ≡ true
call_clean i m x v (op.Call to ret y args) p l c = callee_clean i m x v y l c
call_clean i m x v (op.Guard at size narrow) p l c = false_true p
call_clean i m x v (op.Check target) p l c = false_true p
call_clean i m x v o p l c = refl

callee_if_reads : (b : Bool) (m : Module) (k : ℕ) → callee_operands (callee_if b m k) ≡ []
callee_if_reads true m k = refl
callee_if_reads false m k = refl

operands_image : (m : Module) (o : Op) → not (is_image_line o) ≡ true → operands_of (image_op m o) ≡ operands_of o
operands_image m (op.Call to ret y args) p = ap (λ (xs : List Argument). xs ++ args) (callees_alike m y)
operands_image m (op.Guard at size narrow) p = false_true p
operands_image m (op.Check target) p = false_true p
operands_image m o p = refl

none_reached : (c r : Bool) → c ≡ true → r ≡ false → not (not c || r) ≡ true
none_reached true true e h = true_false h
none_reached true false e h = refl
none_reached false r e h = false_true e

op_clean : (i : Interface) (m x : Module) → Given i m x → (o : Op) → not (is_image_line o) ≡ true → op_within m o ≡ true → calls_no_global (image_op m o) ≡ true → not (reaches_body x (image_op m o)) ≡ true
op_clean i m x v o p l c =
    none_reached (calls_well x (image_op m o)) (list_any (λ (a : Argument). value_mentions x a.value) (operands_of (image_op m o)))
    (call_clean i m x v o p (first_of (call_within m o) (list_all (λ a. value_within m a.value) (operands_of o)) l) c)
    (ap (list_any (λ (a : Argument). value_mentions x a.value)) (operands_image m o p) ∙ values_clean i m x v (operands_of o) (second_of (call_within m o) (list_all (λ a. value_within m a.value) (operands_of o)) l))

-- code with its marks

marks_by : (b : Bool) (m : Module) (to : Option ℕ) (ret : Option Scalar) (k : ℕ) (args : List Argument) → mark_of (op.Call to ret (callee_if b m k) args) ≡ []
marks_by true m to ret k args = refl
marks_by false m to ret k args = refl

marks_for : (m : Module) (to : Option ℕ) (ret : Option Scalar) (k : ℕ) (o : Option Function) (args : List Argument) → mark_of (op.Call to ret (callee_for m k o) args) ≡ []
marks_for m to ret k None args = refl
marks_for m to ret k (Some g) args = marks_by (is_wrapped g) m to ret k args

marks_image : (m : Module) (o : Op) → mark_of (image_op m o) ≡ mark_of o
marks_image m (op.Call to ret (callee.Register r) args) = refl
marks_image m (op.Call to ret (callee.Symbol (symbol.Global g)) args) = refl
marks_image m (op.Call to ret (callee.Symbol (symbol.Function k)) args) = marks_for m to ret k (slice_get m.functions k) args
marks_image m (op.Guard at size narrow) = refl
marks_image m (op.Check target) = refl
marks_image m o = refl

plain_image : (m : Module) (o : Op) → not (is_image_line o) ≡ true → not (is_image_line (image_op m o)) ≡ true
plain_image m (op.Call to ret y args) p = refl
plain_image m (op.Guard at size narrow) p = refl
plain_image m (op.Check target) p = refl
plain_image m o p = p

spared_image : (m x : Module) (f g : Function) → ((o : Op) → is_spared m f o ≡ true → is_spared x g o ≡ true) → (o : Op) → is_spared m f o ≡ true → is_spared x g (image_op m o) ≡ true
spared_image m x f g s (op.Store ty y at) e = s (op.Store ty y at) e
spared_image m x f g s o e = false_true e

stands_before : (m x : Module) (f g : Function) → ((o : Op) → is_spared m f o ≡ true → is_spared x g o ≡ true) → (o : Op) (is rest : List Op) → StandsAt m f o is rest → StandsBefore x g (image_op m o) is rest
stands_before m x f g s o is rest (inl e) = inl (e ∙ ap (λ (ms : List Op). ms ++ (image_op m o ∷ rest)) (sym (marks_image m o)))
stands_before m x f g s o is rest (inr e) = inr (spared_image m x f g s o e.0, e.1)

with_marks : (m x : Module) (f g : Function) → ((o : Op) → is_spared m f o ≡ true → is_spared x g o ≡ true) → (os is : List Op) → IsMarked m f os is → WithMarks x g (map (image_op m) os) is
with_marks m x f g s [] is h = h
with_marks m x f g s (o ∷ os) is (rest, e, h) = (rest, stands_before m x f g s o is rest e, with_marks m x f g s os rest h)

plain_code : (m : Module) (os : List Op) → list_all (λ (o : Op). not (is_image_line o)) os ≡ true → are_plain (map (image_op m) os) ≡ true
plain_code m [] p = refl
plain_code m (o ∷ os) p =
    and_from (not (is_image_line (image_op m o))) (are_plain (map (image_op m) os)) (plain_image m o (first_of (not (is_image_line o)) (list_all (λ (o : Op). not (is_image_line o)) os) p))
    (plain_code m os (second_of (not (is_image_line o)) (list_all (λ (o : Op). not (is_image_line o)) os) p))

abbrev Unreached : Module → List Op → Type 0
Unreached x os = list_all (λ (o : Op). not (reaches_body x o)) os ≡ true

guard_clean : (i : Interface) (m x : Module) → Given i m x → (at size : Value) (narrow : Bool) → value_within m at ≡ true → value_within m size ≡ true → Unreached x (op.Guard at size narrow ∷ [])
guard_clean i m x v at size narrow a s =
    and_from (not (reaches_body x (op.Guard at size narrow))) true
    (none_reached true (value_mentions x at || (value_mentions x size || false)) refl (or_from (value_mentions x at) (value_mentions x size || false) (value_clean i m x v at a) (or_from (value_mentions x size) false (value_clean i m x v size s) refl))) refl

mark_clean : (i : Interface) (m x : Module) → Given i m x → (o : Op) → list_all (λ (a : Argument). value_within m a.value) (operands_of o) ≡ true → Unreached x (mark_of o)
mark_clean i m x v (op.Store ty y at) w = guard_clean i m x v at (size_value ty) false (first_of (value_within m at) true (second_of (value_within m y) (value_within m at && true) w)) refl
mark_clean i m x v (op.CopyBlock moves dest source len) w =
    guard_clean i m x v dest len.value (is_narrow len.ty) (first_of (value_within m dest) (value_within m source && (value_within m len.value && true)) w)
    (first_of (value_within m len.value) true (second_of (value_within m source) (value_within m len.value && true) (second_of (value_within m dest) (value_within m source && (value_within m len.value && true)) w)))
mark_clean i m x v (op.FillBlock dest byte len) w =
    guard_clean i m x v dest len.value (is_narrow len.ty) (first_of (value_within m dest) (value_within m byte && (value_within m len.value && true)) w)
    (first_of (value_within m len.value) true (second_of (value_within m byte) (value_within m len.value && true) (second_of (value_within m dest) (value_within m byte && (value_within m len.value && true)) w)))
mark_clean i m x v (op.Call to ret (callee.Register r) args) w = refl
mark_clean i m x v (op.Call to ret (callee.Symbol s) args) w = refl
mark_clean i m x v o w = refl

joined_clean : (x : Module) (xs ys : List Op) → Unreached x xs → Unreached x ys → Unreached x (xs ++ ys)
joined_clean x [] ys a b = b
joined_clean x (o ∷ xs) ys a b = and_from (not (reaches_body x o)) (list_all (λ (o : Op). not (reaches_body x o)) (xs ++ ys)) (first_of (not (reaches_body x o)) (list_all (λ (o : Op). not (reaches_body x o)) xs) a) (joined_clean x xs ys (second_of (not (reaches_body x o)) (list_all (λ (o : Op). not (reaches_body x o)) xs) a) b)

code_clean : (i : Interface) (m x : Module) → Given i m x → (f : Function) (os is : List Op) → list_all (λ (o : Op). not (is_image_line o)) os ≡ true → list_all (op_within m) os ≡ true → list_all calls_no_global is ≡ true → IsMarked m f os is → Unreached x is
code_clean i m x v f [] is p w c h = ap (list_all (λ (o : Op). not (reaches_body x o))) h
code_clean i m x v f (o ∷ os) is p w c (rest, inl e, h) =
    let within = first_of (op_within m o) (list_all (op_within m) os) w in
    let calls = all_second calls_no_global (mark_of o) (image_op m o ∷ rest) (ap (list_all calls_no_global) (sym e) ∙ c) in
    ap (list_all (λ (o : Op). not (reaches_body x o))) e
    ∙ joined_clean x (mark_of o) (image_op m o ∷ rest) (mark_clean i m x v o (second_of (call_within m o) (list_all (λ a. value_within m a.value) (operands_of o)) within))
    (and_from (not (reaches_body x (image_op m o))) (list_all (λ (o : Op). not (reaches_body x o)) rest)
    (op_clean i m x v o (first_of (not (is_image_line o)) (list_all (λ (o : Op). not (is_image_line o)) os) p) within (first_of (calls_no_global (image_op m o)) (list_all calls_no_global rest) calls))
    (code_clean i m x v f os rest (second_of (not (is_image_line o)) (list_all (λ (o : Op). not (is_image_line o)) os) p) (second_of (op_within m o) (list_all (op_within m) os) w) (second_of (calls_no_global (image_op m o)) (list_all calls_no_global rest) calls) h))
code_clean i m x v f (o ∷ os) is p w c (rest, inr e, h) =
    let within = first_of (op_within m o) (list_all (op_within m) os) w in
    let calls : list_all calls_no_global (image_op m o ∷ rest) ≡ true = ap (list_all calls_no_global) (sym e.1) ∙ c in
    ap (list_all (λ (o : Op). not (reaches_body x o))) e.1
    ∙ and_from (not (reaches_body x (image_op m o))) (list_all (λ (o : Op). not (reaches_body x o)) rest)
    (op_clean i m x v o (first_of (not (is_image_line o)) (list_all (λ (o : Op). not (is_image_line o)) os) p) within (first_of (calls_no_global (image_op m o)) (list_all calls_no_global rest) calls))
    (code_clean i m x v f os rest (second_of (not (is_image_line o)) (list_all (λ (o : Op). not (is_image_line o)) os) p) (second_of (op_within m o) (list_all (op_within m) os) w) (second_of (calls_no_global (image_op m o)) (list_all calls_no_global rest) calls) h)

kind_none : (b : Bool) → not b ≡ true → kind_if b BodyReached ≡ None
kind_none true e = false_true e
kind_none false e = refl

block_clean : (x : Module) (g : Function) (place : ℕ) (before : Option Op) (is : List Instr) → first_mark_kind x g before (map (λ (i : Instr). i.op) is) ≡ None → Unreached x (map (λ (i : Instr). i.op) is) → fault_in_block x g place before is ≡ None
block_clean x g place before [] k u = refl
block_clean x g place before (n ∷ is) k u =
    let parts = neither_some (mark_kind x g before n.op (head_of (map (λ (i : Instr). i.op) is))) (first_mark_kind x g (Some n.op) (map (λ (i : Instr). i.op) is)) k in
    none_or (option_map (fault_at g place n) (kind_at x g before n.op (first_op is))) (fault_in_block x g (suc place) (Some n.op) is)
    (no_kind (fault_at g place n) (kind_at x g before n.op (first_op is))
    (none_or (mark_kind x g before n.op (first_op is)) (kind_if (reaches_body x n.op) BodyReached) (ap (mark_kind x g before n.op) (head_same is) ∙ parts.0) (kind_none (reaches_body x n.op) (first_of (not (reaches_body x n.op)) _ u))))
    (block_clean x g (suc place) (Some n.op) is parts.1 (second_of (not (reaches_body x n.op)) _ u))

abbrev AllIn : (Op → Bool) → List Block → Type 0
AllIn p bs = list_all (λ (i : Instr). p i.op) (flat_map (λ (b : Block). b.instrs) bs) ≡ true

blocks_clean : (i : Interface) (m x : Module) → Given i m x → (f g : Function) → ((o : Op) → is_spared m f o ≡ true → is_spared x g o ≡ true) → (place : ℕ) (bs cs : List Block) → AllIn (λ (o : Op). not (is_image_line o)) bs → AllIn (op_within m) bs → AllIn calls_no_global cs → AreMarked m f bs cs → fault_in_blocks x g place cs ≡ None
blocks_clean i m x v f g s place [] [] p w c h = refl
blocks_clean i m x v f g s place (b ∷ bs) (d ∷ ds) p w c h =
    let plain = all_ops (λ (o : Op). not (is_image_line o)) b.instrs (all_first (λ (i : Instr). not (is_image_line i.op)) b.instrs (flat_map (λ (b : Block). b.instrs) bs) p) in
    let within = all_ops (op_within m) b.instrs (all_first (λ (i : Instr). op_within m i.op) b.instrs (flat_map (λ (b : Block). b.instrs) bs) w) in
    let calls = all_ops calls_no_global d.instrs (all_first (λ (i : Instr). calls_no_global i.op) d.instrs (flat_map (λ (b : Block). b.instrs) ds) c) in
    none_or (fault_in_block x g place None d.instrs) (fault_in_blocks x g (length d.instrs + place) ds)
    (block_clean x g place None d.instrs (marked_none x g (map (image_op m) (ops_of b)) (ops_of d) (plain_code m (ops_of b) plain) (with_marks m x f g s (ops_of b) (ops_of d) h.1)) (code_clean i m x v f (ops_of b) (ops_of d) plain within calls h.1))
    (blocks_clean i m x v f g s (length d.instrs + place) bs ds (all_second (λ (i : Instr). not (is_image_line i.op)) b.instrs (flat_map (λ (b : Block). b.instrs) bs) p) (all_second (λ (i : Instr). op_within m i.op) b.instrs (flat_map (λ (b : Block). b.instrs) bs) w) (all_second (λ (i : Instr). calls_no_global i.op) d.instrs (flat_map (λ (b : Block). b.instrs) ds) c) h.2)
blocks_clean i m x v f g s place [] (d ∷ ds) p w c h = absurd h
blocks_clean i m x v f g s place (b ∷ bs) [] p w c h = absurd h

body_clean : (i : Interface) (m x : Module) → Given i m x → (f g : Function) → ((o : Op) → is_spared m f o ≡ true → is_spared x g o ≡ true) → (bs cs : Option (List Block)) → AllIn (λ (o : Op). not (is_image_line o)) (blocks_of_option bs) → AllIn (op_within m) (blocks_of_option bs) → AllIn calls_no_global (blocks_of_option cs) → HasMarks m f bs cs → fault_in_blocks x g 0 (blocks_of_option cs) ≡ None
body_clean i m x v f g s None None p w c h = refl
body_clean i m x v f g s (Some bs) (Some cs) p w c h = blocks_clean i m x v f g s 0 bs cs p w c h
body_clean i m x v f g s None (Some cs) p w c h = absurd h
body_clean i m x v f g s (Some bs) None p w c h = absurd h

one_clean : (i : Interface) (m x : Module) → Given i m x → (f g : Function) → IsGuarded m f g → is_own_name g.name ≡ false → list_all (λ (i : Instr). not (is_image_line i.op)) (instrs_of f) ≡ true → list_all (λ (i : Instr). op_within m i.op) (instrs_of f) ≡ true → list_all (λ (i : Instr). calls_no_global i.op) (instrs_of g) ≡ true → fault_in_function x g ≡ None
one_clean i m x v f g h n p w c =
    ap (λ (b : Bool). cond b None (fault_in_blocks x g 0 (blocks_of g))) n
    ∙ body_clean i m x v f g (λ o e. spared_alike m x f g o v.image.types p h ∙ e) f.blocks g.blocks p w c h.body

functions_clean : (i : Interface) (m x : Module) → Given i m x → (fs gs : List Function) → AreGuarded m fs gs → list_all is_program_name (names_of gs) ≡ true → list_all (λ (i : Instr). not (is_image_line i.op)) (flat_map instrs_of fs) ≡ true → list_all (λ (i : Instr). op_within m i.op) (flat_map instrs_of fs) ≡ true →
    list_all (λ (i : Instr). calls_no_global i.op) (flat_map instrs_of gs) ≡ true → first_some (fault_in_function x) gs ≡ None
functions_clean i m x v [] gs h n p w c = ap (first_some (fault_in_function x)) h
functions_clean i m x v (f ∷ fs) [] h n p w c = absurd h
functions_clean i m x v (f ∷ fs) (g ∷ gs) h n p w c =
    none_or (fault_in_function x g) (first_some (fault_in_function x) gs)
    (one_clean i m x v f g h.0 (not-true (is_own_name g.name) (first_of (is_program_name g.name) (list_all is_program_name (names_of gs)) n)) (all_first (λ (i : Instr). not (is_image_line i.op)) (instrs_of f) (flat_map instrs_of fs) p) (all_first (λ (i : Instr). op_within m i.op) (instrs_of f) (flat_map instrs_of fs) w) (all_first (λ (i : Instr). calls_no_global i.op) (instrs_of g) (flat_map instrs_of gs) c))
    (functions_clean i m x v fs gs h.1 (second_of (is_program_name g.name) (list_all is_program_name (names_of gs)) n) (all_second (λ (i : Instr). not (is_image_line i.op)) (instrs_of f) (flat_map instrs_of fs) p) (all_second (λ (i : Instr). op_within m i.op) (instrs_of f) (flat_map instrs_of fs) w) (all_second (λ (i : Instr). calls_no_global i.op) (instrs_of g) (flat_map instrs_of gs) c))

wrappers_clean : (x : Module) (ws : List Function) → list_all (λ n. not (is_program_name n)) (names_of ws) ≡ true → first_some (fault_in_function x) ws ≡ None
wrappers_clean x [] n = refl
wrappers_clean x (w ∷ ws) n =
    none_or (fault_in_function x w) (first_some (fault_in_function x) ws)
    (ap (λ (b : Bool). cond b None (fault_in_blocks x w 0 (blocks_of w))) (double (is_own_name w.name) (first_of (not (is_program_name w.name)) (list_all (λ n. not (is_program_name n)) (names_of ws)) n)))
    (wrappers_clean x ws (second_of (not (is_program_name w.name)) (list_all (λ n. not (is_program_name n)) (names_of ws)) n))

first_joined : {A : Type 0} (h : Function → Option A) (xs ys : List Function) → first_some h xs ≡ None → first_some h ys ≡ None → first_some h (xs ++ ys) ≡ None
first_joined h [] ys a b = b
first_joined h (x ∷ xs) ys a b =
    let n = neither_some (h x) (first_some h xs) a in
    none_or (h x) (first_some h (xs ++ ys)) n.0 (first_joined h xs ys n.1 b)

-- the five parts

imports_program : (fs : List Function) → list_all is_program_name (names_of fs) ≡ true → first_some import_fault fs ≡ None
imports_program [] p = refl
imports_program (f ∷ fs) p =
    none_or (import_fault f) (first_some import_fault fs)
    (ap (λ (b : Bool). cond (not (is_defined f) && b) (Some (wrapper_fault f.line f.name 0)) None) (not-true (is_own_name f.name) (first_of (is_program_name f.name) (list_all is_program_name (names_of fs)) p))
    ∙ ap (λ (b : Bool). cond b (Some (wrapper_fault f.line f.name 0)) None) (and_false (not (is_defined f))))
    (imports_program fs (second_of (is_program_name f.name) (list_all is_program_name (names_of fs)) p))

imports_defined : (fs : List Function) → list_all is_defined fs ≡ true → first_some import_fault fs ≡ None
imports_defined [] p = refl
imports_defined (f ∷ fs) p =
    none_or (import_fault f) (first_some import_fault fs)
    (ap (λ (b : Bool). cond (not b && is_own_name f.name) (Some (wrapper_fault f.line f.name 0)) None) (first_of (is_defined f) (list_all is_defined fs) p))
    (imports_defined fs (second_of (is_defined f) (list_all is_defined fs) p))

mutual
  init_clean : (i : Interface) (m x : Module) → Given i m x → (n : Init) → init_within m n ≡ true → init_mentions x n ≡ false
  init_clean i m x v (Plain c) w = constant_clean i m x v c w
  init_clean i m x v (Empty b) w = refl
  init_clean i m x v (Bytes bs) w = refl
  init_clean i m x v (Group k ts is) w = inits_clean i m x v is w

  inits_clean : (i : Interface) (m x : Module) → Given i m x → (ns : Inits) → inits_within m ns ≡ true → inits_mention x ns ≡ false
  inits_clean i m x v no_more w = refl
  inits_clean i m x v (more n ns) w = or_from (init_mentions x n) (inits_mention x ns) (init_clean i m x v n (first_of (init_within m n) (inits_within m ns) w)) (inits_clean i m x v ns (second_of (init_within m n) (inits_within m ns) w))

globals_clean : (i : Interface) (m x : Module) → Given i m x → (gs : List GlobalVar) → list_all is_program_name (map (λ (g : GlobalVar). g.name) gs) ≡ true → list_all (λ (g : GlobalVar). init_within m g.init) gs ≡ true → first_some (global_fault x) gs ≡ None
globals_clean i m x v [] n w = refl
globals_clean i m x v (g ∷ gs) n w =
    none_or (global_fault x g) (first_some (global_fault x) gs)
    (ap (λ (b : Bool). cond b (Some (wrapper_fault g.line g.name 0)) None)
    (or_from (is_own_name g.name) (init_mentions x g.init) (not-true (is_own_name g.name) (first_of (is_program_name g.name) (list_all is_program_name (map (λ (g : GlobalVar). g.name) gs)) n)) (init_clean i m x v g.init (first_of (init_within m g.init) (list_all (λ (g : GlobalVar). init_within m g.init) gs) w))))
    (globals_clean i m x v gs (second_of (is_program_name g.name) (list_all is_program_name (map (λ (g : GlobalVar). g.name) gs)) n) (second_of (init_within m g.init) (list_all (λ (g : GlobalVar). init_within m g.init) gs) w))

inits_unlined : (m : Module) (gs : List GlobalVar) → list_all (λ (g : GlobalVar). init_within m g.init) gs ≡ list_all (λ (g : GlobalVar). init_within m g.init) (map unlined_global gs)
inits_unlined m [] = refl
inits_unlined m (g ∷ gs) = ap (λ (b : Bool). init_within m g.init && b) (inits_unlined m gs)

each_drop : (P : Function → Type 0) (n : ℕ) (xs : List Function) → Each P xs → Each P (drop n xs)
each_drop P zero xs h = h
each_drop P (suc n) [] h = tt
each_drop P (suc n) (x ∷ xs) h = each_drop P n xs h.1

front_calls : (fs ws : List Function) → list_all (λ (i : Instr). calls_no_global i.op) (flat_map instrs_of (fs ++ ws)) ≡ true → list_all (λ (i : Instr). calls_no_global i.op) (flat_map instrs_of fs) ≡ true
front_calls [] ws a = refl
front_calls (f ∷ fs) ws a =
    all_joined (λ (i : Instr). calls_no_global i.op) (instrs_of f) (flat_map instrs_of fs) (all_first (λ (i : Instr). calls_no_global i.op) (instrs_of f) (flat_map instrs_of (fs ++ ws)) a)
    (front_calls fs ws (all_second (λ (i : Instr). calls_no_global i.op) (instrs_of f) (flat_map instrs_of (fs ++ ws)) a))

pub complete : (i : Interface) (m x : Module) → is_distinct (names_of x.functions) ≡ true → CallsNoGlobal x → IsClosed m → Guards i m x → first_image_fault i x ≡ None
complete i m x distinct calls closed g =
    let n : ℕ = length m.functions in
    let h = half_of i m x g in
    let defined : list_all is_defined (drop n x.functions) ≡ true = all_defined (wrappers_of i m) (drop n x.functions) (are_wrappers i m) g.wrappers in
    let v : Given i m x = record { image = g; closed = closed; distinct = distinct; defined = defined } in
    let right : right_wrappers i x ≡ wrappers_of i m = right_is i m x h in
    let code : list_all (λ (i : Instr). calls_no_global i.op) (flat_map instrs_of (take n x.functions)) ≡ true = front_calls (take n x.functions) (drop n x.functions) (ap (λ (fs : List Function). list_all (λ (i : Instr). calls_no_global i.op) (flat_map instrs_of fs)) (split_at n x.functions) ∙ calls) in
    none_or (first_some (fault_in_function x) x.functions) (whole_fault i x)
    (ap (first_some (fault_in_function x)) (sym (split_at n x.functions)) ∙ first_joined (fault_in_function x) (take n x.functions) (drop n x.functions) (functions_clean i m x v m.functions (take n x.functions) g.functions h.program g.plain.lines closed.lines code) (wrappers_clean x (drop n x.functions) h.own))
    (none_or (first_some (global_fault x) x.globals) _ (globals_clean i m x v x.globals (global_names i m x g) (inits_unlined m x.globals ∙ (ap (list_all (λ (g : GlobalVar). init_within m g.init)) g.globals ∙ (sym (inits_unlined m m.globals) ∙ closed.globals))))
    (none_or (first_some import_fault x.functions) _ (ap (first_some import_fault) (sym (split_at n x.functions)) ∙ first_joined import_fault (take n x.functions) (drop n x.functions) (imports_program (take n x.functions) h.program) (imports_defined (drop n x.functions) defined))
    (none_or (first_some (missing_fault x) (right_wrappers i x)) _ (ap (first_some (missing_fault x)) right ∙ none_missing x (wrappers_of i m) (drop n x.functions) distinct (each_drop (StandsIn x.functions) n x.functions (all_stand x.functions)) (are_wrappers i m) g.wrappers)
    (none_or (misplaced (defined_names x.functions ++ map (λ w. w.name) (right_wrappers i x)) (filter is_defined x.functions)) _
    (ap (λ (fs : List Function). misplaced (defined_names fs ++ map (λ w. w.name) (right_wrappers i x)) (filter is_defined fs)) (sym (split_at n x.functions))
    ∙ none_misplaced (take n x.functions) (drop n x.functions) (map (λ w. w.name) (right_wrappers i x)) h.program h.own defined (drop_names i m x g ∙ ap names_of (sym right)))
    (ap (option_map conflict_fault) (still_agrees i m x g))))))
