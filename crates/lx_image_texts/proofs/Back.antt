-- What erasing takes away comes back: the calls of wrappers, the marks, and which stores are spared.
use Rattle.std.proofs.Common.{◌≡◌, ℕ, zero, suc, ◌+◌, ◌<◌, Bool, true, false, not, ◌&&◌, ◌||◌, List, [], ◌∷◌, ◌++◌, length, map, Option, Some, None, inl, inr, refl, sym, ◌∙◌, ap, arith}
use Rattle.std.specs.Prelude.{bytes_eq, cond, filter, codes, slice_get, option_map, unwrap_or, is_some, flat_map, ◌⊎◌}
use Rattle.std.specs.List.{list_all, list_any}
use Rattle.std.proofs.lemmas.Option.{slice_get-map}
use Rattle.std.proofs.lemmas.List.Elements.{filter-append}
use Rattle.std.proofs.lemmas.List.Folds.{list_any-append}
use Rattle.std.proofs.lemmas.Bool.{and_from, not-true}
use Rattle.lx_words.proofs.Tests.{true_false, false_true, first_of, second_of, either}
use Rattle.lx_words.proofs.Lists.{map_length, same_bytes, got_first, all_joined}
use Rattle.lx_words.proofs.Options.{some_same}
use Rattle.lx_ir.specs.declared.types.NamedType.{NamedType}
use Rattle.lx_ir.specs.declared.module.Symbol.TheVariants as symbol
use Rattle.lx_ir.specs.declared.module.Value.{Value}
use Rattle.lx_ir.specs.declared.module.Value.TheVariants as value
use Rattle.lx_ir.specs.declared.module.Block.{Block}
use Rattle.lx_ir.specs.declared.module.Function.{Function}
use Rattle.lx_ir.specs.declared.module.Module.{Module}
use Rattle.lx_ir.specs.declared.instr.Argument.{Argument}
use Rattle.lx_ir.specs.declared.instr.Callee.{Callee}
use Rattle.lx_ir.specs.declared.instr.Callee.TheVariants as callee
use Rattle.lx_ir.specs.declared.instr.Instr.{Instr}
use Rattle.lx_ir.specs.declared.instr.Op.{Op}
use Rattle.lx_ir.specs.declared.instr.Op.TheVariants as op
use Rattle.lx_ir.specs.Layout.{scalar_size}
use Rattle.lx_ir.specs.Lookup.{is_defined, blocks_of_option}
use Rattle.lx_ir.specs.Lawful.{is_own_name, is_distinct}
use Rattle.lx_ir.specs.Operands.{operands_of, callee_operands, is_image_line}
use Rattle.lx_annot.specs.declared.interface.Interface.{Interface}
use Rattle.lx_image_texts.specs.Marks.{is_alias, is_wrapped, one_if, wrapped_before, wrapper_number, callee_if, callee_for, image_callee, image_op, mark_of, is_mark}
use Rattle.lx_image_texts.specs.Spared.{reads, uses_as_address, allocates, keeps_address, is_spared_at, is_spared}
use Rattle.lx_image_texts.specs.Guards.{IsMarked}
use Rattle.lx_image_texts.specs.WrapperText.{unlined, out_wrappers, in_wrappers}
use Rattle.lx_image_texts.specs.ImageFaults.{has_out_wrapper, has_wrapper_named, may_call_function, may_call, calls_well, without_body, without_wrappers, not_own, right_wrappers}
use Rattle.lx_image_texts.specs.Erased.{wrapped_number, erased_number, erased_callee, erased_op, erased_code, is_of_program}
use Rattle.lx_image_texts.specs.Programs.{program_block, program_function, program_of}
use Rattle.lx_image_texts.proofs.Erasing.{names_of, names_append, is_program_name, out_prefix, all_first, all_second}
use Rattle.lx_image_texts.proofs.MarkedCode.{WithMarks}
use Rattle.lx_image_texts.proofs.Calling.{out_wrapper_names, name_got, wrapped_at, position_at, all_at}
use Rattle.lx_image_texts.proofs.Ordering.{filter_yes, filter_no, is_own}
use Rattle.lx_image_texts.proofs.Distinct.{distinct_same}
use Rattle.lx_image_texts.proofs.Wrapping.{filter_own, filter_program, outs_right, right_distinct, Wrapped, double}

-- the text: its program's functions, and the right wrappers behind them
pub record Text (i : Interface) (x : Module) : Type 0 where
  pub parts : x.functions ≡ filter is_of_program x.functions ++ filter is_own x.functions
  pub wrapped : Wrapped i x
  pub distinct : is_distinct (names_of x.functions) ≡ true

abbrev pub program : Module → List Function
program x = filter is_of_program x.functions

abbrev pub wrappers : Module → List Function
wrappers x = filter is_own x.functions

pub some_kept : {A B : Type 0} (f : A → B) (o : Option A) → is_some (option_map f o) ≡ is_some o
some_kept f None = refl
some_kept f (Some a) = refl

pub defined_kept : (x : Module) (f : Function) → is_defined (program_function x f) ≡ is_defined f
defined_kept x f = some_kept (map (program_block x)) f.blocks

wrapped_kept : (x : Module) (f : Function) → is_wrapped (program_function x f) ≡ is_wrapped f
wrapped_kept x f = λ j. not (defined_kept x f j) && not (bytes_eq f.name (codes "lxfi_princ_alias"))

before_kept : (x : Module) (fs : List Function) (k : ℕ) → wrapped_before (map (program_function x) fs) k ≡ wrapped_before fs k
before_kept x [] k = refl
before_kept x (f ∷ fs) zero = refl
before_kept x (f ∷ fs) (suc k) = λ j. one_if (wrapped_kept x f j) (before_kept x fs k j)

-- where a function of the text stands

pub record Behind (n : ℕ) (ys : List Function) (k : ℕ) (f : Function) : Type 0 where
  pub place : ℕ
  pub number : k ≡ n + place
  pub at : slice_get ys place ≡ Some f

next : (x : Function) (xs ys : List Function) (k : ℕ) (f : Function) → (slice_get xs k ≡ Some f) ⊎ Behind (length xs) ys k f → (slice_get (x ∷ xs) (suc k) ≡ Some f) ⊎ Behind (length (x ∷ xs)) ys (suc k) f
next x xs ys k f (inl e) = inl e
next x xs ys k f (inr b) = inr (record { place = b.place; number = omega (arith, b.number); at = b.at })

pub in_parts : (xs ys : List Function) (k : ℕ) (f : Function) → slice_get (xs ++ ys) k ≡ Some f → (slice_get xs k ≡ Some f) ⊎ Behind (length xs) ys k f
in_parts [] ys k f e = inr (record { place = k; number = omega arith; at = e })
in_parts (x ∷ xs) ys zero f e = inl e
in_parts (x ∷ xs) ys (suc k) f e = next x xs ys k f (in_parts xs ys k f e)

from_wrappers : (x : Module) (l : ℕ) (f : Function) → slice_get (wrappers x) l ≡ Some f → is_own_name f.name ≡ true
from_wrappers x l f e = double (is_own_name f.name) (all_at (λ n. not (is_program_name n)) (names_of (wrappers x)) l f.name (filter_own x.functions) (name_got (wrappers x) l f e))

from_program : (x : Module) (k : ℕ) (f : Function) → slice_get (program x) k ≡ Some f → is_own_name f.name ≡ false
from_program x k f e = not-true (is_own_name f.name) (all_at is_program_name (names_of (program x)) k f.name (filter_program x.functions) (name_got (program x) k f e))

program_side : (x : Module) (k : ℕ) (f : Function) → is_own_name f.name ≡ false → (slice_get (program x) k ≡ Some f) ⊎ Behind (length (program x)) (wrappers x) k f → slice_get (program x) k ≡ Some f
program_side x k f n (inl e) = e
program_side x k f n (inr b) = true_false (sym (from_wrappers x b.place f b.at) ∙ n)

wrapper_side : (x : Module) (k : ℕ) (f : Function) → is_own_name f.name ≡ true → (slice_get (program x) k ≡ Some f) ⊎ Behind (length (program x)) (wrappers x) k f → Behind (length (program x)) (wrappers x) k f
wrapper_side x k f n (inl e) = true_false (sym n ∙ from_program x k f e)
wrapper_side x k f n (inr b) = b

pub in_program : (i : Interface) (x : Module) → Text i x → (k : ℕ) (f : Function) → slice_get x.functions k ≡ Some f → is_own_name f.name ≡ false → slice_get (program x) k ≡ Some f
in_program i x t k f e n = program_side x k f n (in_parts (program x) (wrappers x) k f (ap (λ (fs : List Function). slice_get fs k) (sym t.parts) ∙ e))

in_wrappers_of : (i : Interface) (x : Module) → Text i x → (k : ℕ) (f : Function) → slice_get x.functions k ≡ Some f → is_own_name f.name ≡ true → Behind (length (program x)) (wrappers x) k f
in_wrappers_of i x t k f e n = wrapper_side x k f n (in_parts (program x) (wrappers x) k f (ap (λ (fs : List Function). slice_get fs k) (sym t.parts) ∙ e))

pub in_module : (x : Module) (k : ℕ) (f : Function) → slice_get (program x) k ≡ Some f → slice_get (program_of x).functions k ≡ Some (program_function x f)
in_module x k f e = slice_get-map (program_function x) (program x) k ∙ ap (option_map (program_function x)) e

-- the right wrappers, first those of imports

pub right_parts : (i : Interface) (x : Module) → x.functions ≡ program x ++ wrappers x → right_wrappers i x ≡ out_wrappers i 0 (program x) ++ filter not_own (in_wrappers i (without_wrappers x))
right_parts i x parts =
    filter-append not_own (out_wrappers i 0 (map without_body x.functions)) (in_wrappers i (without_wrappers x))
    ∙ ap (λ (ws : List Function). ws ++ filter not_own (in_wrappers i (without_wrappers x)))
    (ap (λ (fs : List Function). filter not_own (out_wrappers i 0 (map without_body fs))) parts ∙ outs_right i 0 (program x) (wrappers x) (filter_program x.functions) (filter_own x.functions))

right_name : (i : Interface) (x : Module) → x.functions ≡ program x ++ wrappers x → (j : ℕ) (g : Function) → slice_get (program x) j ≡ Some g → is_wrapped g ≡ true → slice_get (names_of (right_wrappers i x)) (wrapped_before (program x) j) ≡ Some (out_prefix ++ g.name)
right_name i x parts j g e w =
    ap (λ (ws : List Function). slice_get (names_of ws) (wrapped_before (program x) j)) (right_parts i x parts)
    ∙ (ap (λ (ns : List (List ℕ)). slice_get ns (wrapped_before (program x) j)) (names_append (out_wrappers i 0 (program x)) (filter not_own (in_wrappers i (without_wrappers x))))
    ∙ got_first (names_of (out_wrappers i 0 (program x))) (names_of (filter not_own (in_wrappers i (without_wrappers x)))) (wrapped_before (program x) j) (out_prefix ++ g.name)
    (ap (λ (ns : List (List ℕ)). slice_get ns (wrapped_before (program x) j)) (out_wrapper_names i 0 (program x))
    ∙ (slice_get-map (λ (h : Function). out_prefix ++ h.name) (filter is_wrapped (program x)) (wrapped_before (program x) j) ∙ ap (option_map (λ (h : Function). out_prefix ++ h.name)) (wrapped_at (program x) j g e w))))

-- the first that passes

record First (p : Function → Bool) (fs : List Function) : Type 0 where
  place : ℕ
  it : Function
  at : slice_get fs place ≡ Some it
  passes : p it ≡ true
  none : (j : ℕ) (y : Function) → j < place → slice_get fs j ≡ Some y → p y ≡ false

first_none : (p : Function → Bool) (f : Function) (fs : List Function) → p f ≡ false → (n : ℕ) → ((j : ℕ) (y : Function) → j < n → slice_get fs j ≡ Some y → p y ≡ false) → (j : ℕ) (y : Function) → j < suc n → slice_get (f ∷ fs) j ≡ Some y → p y ≡ false
first_none p f fs e n h zero y l g = ap p (sym (some_same g)) ∙ e
first_none p f fs e n h (suc j) y l g = h j y (omega (arith, l)) g

first_by : (p : Function → Bool) (f : Function) (fs : List Function) (b : Bool) → p f ≡ b → (b || list_any p fs) ≡ true → (list_any p fs ≡ true → First p fs) → First p (f ∷ fs)
first_by p f fs true e a ih = record { place = 0; it = f; at = refl; passes = e; none = λ j y l h. absurd (omega (arith, l)) }
first_by p f fs false e a ih =
    let r = ih a in
    record { place = suc r.place; it = r.it; at = r.at; passes = r.passes; none = first_none p f fs e r.place r.none }

first : (p : Function → Bool) (fs : List Function) → list_any p fs ≡ true → First p fs
first p [] a = false_true a
first p (f ∷ fs) a = first_by p f fs (p f) refl a (first p fs)

-- calls

own_call : (i : Interface) (x : Module) → Text i x → (k : ℕ) (f : Function) → slice_get x.functions k ≡ Some f → is_own_name f.name ≡ true → list_any (has_wrapper_named f.name) x.functions ≡ true →
    image_callee (program_of x) (callee.Symbol (symbol.Function (unwrap_or (wrapped_number x f.name) k))) ≡ callee.Symbol (symbol.Function k)
own_call i x t k f e own wraps =
    let g = first (has_wrapper_named f.name) x.functions wraps in
    let number : wrapped_number x f.name ≡ Some g.place = position_at (has_wrapper_named f.name) x.functions g.place g.it g.at g.passes g.none in
    let has : has_out_wrapper g.it ≡ true = first_of (has_out_wrapper g.it) (bytes_eq (out_prefix ++ g.it.name) f.name) g.passes in
    let name : out_prefix ++ g.it.name ≡ f.name = same_bytes (out_prefix ++ g.it.name) f.name (second_of (has_out_wrapper g.it) (bytes_eq (out_prefix ++ g.it.name) f.name) g.passes) in
    let import : is_wrapped g.it ≡ true = first_of (is_wrapped g.it) (not (is_own_name g.it.name)) has in
    let at : slice_get (program x) g.place ≡ Some g.it = in_program i x t g.place g.it g.at (not-true (is_own_name g.it.name) (second_of (is_wrapped g.it) (not (is_own_name g.it.name)) has)) in
    let behind = in_wrappers_of i x t k f e own in
    let there : slice_get (names_of (right_wrappers i x)) behind.place ≡ Some f.name = ap (λ (ns : List (List ℕ)). slice_get ns behind.place) t.wrapped.names ∙ name_got (wrappers x) behind.place f behind.at in
    let place : wrapped_before (program x) g.place ≡ behind.place = distinct_same (names_of (right_wrappers i x)) (wrapped_before (program x) g.place) behind.place f.name (right_distinct i x t.distinct) (right_name i x t.parts g.place g.it at import ∙ ap (λ (n : List ℕ). Some n) name) there in
    let final : wrapper_number (program_of x) g.place ≡ k = (λ j. map_length (program_function x) (program x) j + (before_kept x (program x) g.place ∙ place) j) ∙ sym behind.number in
    ap (λ (o : Option ℕ). image_callee (program_of x) (callee.Symbol (symbol.Function (unwrap_or o k)))) number
    ∙ (ap (callee_for (program_of x) g.place) (in_module x g.place g.it at)
    ∙ (ap (λ (b : Bool). callee_if b (program_of x) g.place) (wrapped_kept x g.it ∙ import) ∙ ap (λ (n : ℕ). callee.Symbol (symbol.Function n)) final))

not_wrapped : (d a : Bool) → (d || a) ≡ true → (not d && not a) ≡ false
not_wrapped true a e = refl
not_wrapped false true e = refl
not_wrapped false false e = false_true e

call_by : (i : Interface) (x : Module) → Text i x → (k : ℕ) (f : Function) (b : Bool) → slice_get x.functions k ≡ Some f → is_own_name f.name ≡ b → cond b (is_defined f && list_any (has_wrapper_named f.name) x.functions) (is_defined f || is_alias f) ≡ true →
    image_callee (program_of x) (callee.Symbol (symbol.Function (unwrap_or (cond b (wrapped_number x f.name) None) k))) ≡ callee.Symbol (symbol.Function k)
call_by i x t k f true e n may = own_call i x t k f e n (second_of (is_defined f) (list_any (has_wrapper_named f.name) x.functions) may)
call_by i x t k f false e n may =
    ap (callee_for (program_of x) k) (in_module x k f (in_program i x t k f e n)) ∙ ap (λ (b : Bool). callee_if b (program_of x) k) (wrapped_kept x f ∙ not_wrapped (is_defined f) (is_alias f) may)

call_at : (i : Interface) (x : Module) → Text i x → (k : ℕ) (o : Option Function) → slice_get x.functions k ≡ o → may_call_function x o ≡ true → image_callee (program_of x) (callee.Symbol (symbol.Function (erased_number x k o))) ≡ callee.Symbol (symbol.Function k)
call_at i x t k None e may = false_true may
call_at i x t k (Some f) e may = call_by i x t k f (is_own_name f.name) e refl may

pub callee_back : (i : Interface) (x : Module) → Text i x → (y : Callee) → may_call x y ≡ true → image_callee (program_of x) (erased_callee x y) ≡ y
callee_back i x t (callee.Register r) may = refl
callee_back i x t (callee.Symbol (symbol.Global g)) may = false_true may
callee_back i x t (callee.Symbol (symbol.Function k)) may = call_at i x t k (slice_get x.functions k) refl may

pub op_back : (i : Interface) (x : Module) → Text i x → (o : Op) → not (is_image_line o) ≡ true → calls_well x o ≡ true → image_op (program_of x) (erased_op x o) ≡ o
op_back i x t (op.Call to ret y args) p c = ap (λ (z : Callee). op.Call to ret z args) (callee_back i x t y c)
op_back i x t (op.Guard at size narrow) p c = false_true p
op_back i x t (op.Check target) p c = false_true p
op_back i x t o p c = refl

-- marks

marks_kept : (x : Module) (o : Op) → mark_of (erased_op x o) ≡ mark_of o
marks_kept x (op.Call to ret (callee.Register r) args) = refl
marks_kept x (op.Call to ret (callee.Symbol (symbol.Function k)) args) = refl
marks_kept x (op.Call to ret (callee.Symbol (symbol.Global k)) args) = refl
marks_kept x o = refl

-- spared stores

allocates_kept : (types : List NamedType) (r n : ℕ) (x : Module) (o : Op) → allocates types r n (erased_op x o) ≡ allocates types r n o
allocates_kept types r n x (op.Call to ret y args) = refl
allocates_kept types r n x o = refl

callee_reads : (x : Module) (y : Callee) → callee_operands (erased_callee x y) ≡ callee_operands y
callee_reads x (callee.Register r) = refl
callee_reads x (callee.Symbol (symbol.Global g)) = refl
callee_reads x (callee.Symbol (symbol.Function k)) = refl

pub operands_kept : (x : Module) (o : Op) → operands_of (erased_op x o) ≡ operands_of o
operands_kept x (op.Call to ret y args) = ap (λ (xs : List Argument). xs ++ args) (callee_reads x y)
operands_kept x o = refl

uses_kept : (r : ℕ) (x : Module) (o : Op) → uses_as_address r (erased_op x o) ≡ uses_as_address r o
uses_kept r x (op.Call to ret y args) = ap (λ (xs : List Argument). not (reads r (xs ++ args))) (callee_reads x y)
uses_kept r x o = refl

mark_allocates : (types : List NamedType) (r n : ℕ) (o : Op) → is_mark o ≡ true → allocates types r n o ≡ false
mark_allocates types r n (op.Guard at size narrow) e = refl
mark_allocates types r n (op.Check target) e = refl
mark_allocates types r n (op.Alloca to ty) e = false_true e
mark_allocates types r n o e = refl

abbrev Kept : (Op → Bool) → Module → Type 0
Kept p x = (o : Op) → p (erased_op x o) ≡ p o

abbrev ops : List Instr → List Op
ops is = map (λ (i : Instr). i.op) is

abbrev left : Module → List Instr → List Instr
left x is = map unlined (erased_code x (ops is))

or_left : (a b c : Bool) → (a || b) ≡ true → (b ≡ true → c ≡ true) → (a || c) ≡ true
or_left true b c e h = refl
or_left false b c e h = h e

any_left_by : (p : Op → Bool) (x : Module) → Kept p x → ((o : Op) → is_mark o ≡ true → p o ≡ false) → (i : Instr) (is : List Instr) (b : Bool) → is_mark i.op ≡ b → (p i.op || list_any (λ (i : Instr). p i.op) is) ≡ true → (list_any (λ (i : Instr). p i.op) is ≡ true → list_any (λ (i : Instr). p i.op) (left x is) ≡ true) →
    list_any (λ (i : Instr). p i.op) (left x (i ∷ is)) ≡ true
any_left_by p x k q i is true e a ih =
    ap (λ (os : List Op). list_any (λ (i : Instr). p i.op) (map unlined (map (erased_op x) os))) (filter_no (λ o. not (is_mark o)) i.op (ops is) (ap not e))
    ∙ ih (sym (ap (λ (c : Bool). c || list_any (λ (i : Instr). p i.op) is) (q i.op e)) ∙ a)
any_left_by p x k q i is false e a ih =
    ap (λ (os : List Op). list_any (λ (i : Instr). p i.op) (map unlined (map (erased_op x) os))) (filter_yes (λ o. not (is_mark o)) i.op (ops is) (ap not e))
    ∙ (ap (λ (c : Bool). c || list_any (λ (i : Instr). p i.op) (left x is)) (k i.op) ∙ or_left (p i.op) (list_any (λ (i : Instr). p i.op) is) (list_any (λ (i : Instr). p i.op) (left x is)) a ih)

any_left : (p : Op → Bool) (x : Module) → Kept p x → ((o : Op) → is_mark o ≡ true → p o ≡ false) → (is : List Instr) → list_any (λ (i : Instr). p i.op) is ≡ true → list_any (λ (i : Instr). p i.op) (left x is) ≡ true
any_left p x k q [] a = a
any_left p x k q (i ∷ is) a = any_left_by p x k q i is (is_mark i.op) refl a (any_left p x k q is)

all_left_by : (p : Op → Bool) (x : Module) → Kept p x → (i : Instr) (is : List Instr) (b : Bool) → is_mark i.op ≡ b → p i.op ≡ true → list_all (λ (i : Instr). p i.op) (left x is) ≡ true → list_all (λ (i : Instr). p i.op) (left x (i ∷ is)) ≡ true
all_left_by p x k i is true e a ih = ap (λ (os : List Op). list_all (λ (i : Instr). p i.op) (map unlined (map (erased_op x) os))) (filter_no (λ o. not (is_mark o)) i.op (ops is) (ap not e)) ∙ ih
all_left_by p x k i is false e a ih =
    ap (λ (os : List Op). list_all (λ (i : Instr). p i.op) (map unlined (map (erased_op x) os))) (filter_yes (λ o. not (is_mark o)) i.op (ops is) (ap not e))
    ∙ and_from (p (erased_op x i.op)) (list_all (λ (i : Instr). p i.op) (left x is)) (k i.op ∙ a) ih

all_left : (p : Op → Bool) (x : Module) → Kept p x → (is : List Instr) → list_all (λ (i : Instr). p i.op) is ≡ true → list_all (λ (i : Instr). p i.op) (left x is) ≡ true
all_left p x k [] a = refl
all_left p x k (i ∷ is) a = all_left_by p x k i is (is_mark i.op) refl (first_of (p i.op) (list_all (λ (i : Instr). p i.op) is) a) (all_left p x k is (second_of (p i.op) (list_all (λ (i : Instr). p i.op) is) a))

abbrev flat : List Block → List Instr
flat bs = flat_map (λ (b : Block). b.instrs) bs

any_blocks : (p : Op → Bool) (x : Module) → Kept p x → ((o : Op) → is_mark o ≡ true → p o ≡ false) → (bs : List Block) → list_any (λ (i : Instr). p i.op) (flat bs) ≡ true → list_any (λ (i : Instr). p i.op) (flat (map (program_block x) bs)) ≡ true
any_blocks p x k q [] a = a
any_blocks p x k q (b ∷ bs) a =
    list_any-append (λ (i : Instr). p i.op) (left x b.instrs) (flat (map (program_block x) bs))
    ∙ either (list_any (λ (i : Instr). p i.op) b.instrs) (list_any (λ (i : Instr). p i.op) (flat bs)) (list_any (λ (i : Instr). p i.op) (left x b.instrs)) (list_any (λ (i : Instr). p i.op) (flat (map (program_block x) bs)))
    (sym (list_any-append (λ (i : Instr). p i.op) b.instrs (flat bs)) ∙ a) (any_left p x k q b.instrs) (any_blocks p x k q bs)

all_blocks : (p : Op → Bool) (x : Module) → Kept p x → (bs : List Block) → list_all (λ (i : Instr). p i.op) (flat bs) ≡ true → list_all (λ (i : Instr). p i.op) (flat (map (program_block x) bs)) ≡ true
all_blocks p x k [] a = refl
all_blocks p x k (b ∷ bs) a =
    all_joined (λ (i : Instr). p i.op) (left x b.instrs) (flat (map (program_block x) bs)) (all_left p x k b.instrs (all_first (λ (i : Instr). p i.op) b.instrs (flat bs) a)) (all_blocks p x k bs (all_second (λ (i : Instr). p i.op) b.instrs (flat bs) a))

keeps_kept : (x : Module) (bs : Option (List Block)) (n r : ℕ) → keeps_address x.types (flat (blocks_of_option bs)) n r ≡ true → keeps_address x.types (flat (blocks_of_option (option_map (map (program_block x)) bs))) n r ≡ true
keeps_kept x None n r e = e
keeps_kept x (Some bs) n r e =
    and_from (list_any (λ (i : Instr). allocates x.types r n i.op) (flat (map (program_block x) bs))) (list_all (λ (i : Instr). uses_as_address r i.op) (flat (map (program_block x) bs)))
    (any_blocks (allocates x.types r n) x (allocates_kept x.types r n x) (mark_allocates x.types r n) bs (first_of (list_any (λ (i : Instr). allocates x.types r n i.op) (flat bs)) (list_all (λ (i : Instr). uses_as_address r i.op) (flat bs)) e))
    (all_blocks (uses_as_address r) x (uses_kept r x) bs (second_of (list_any (λ (i : Instr). allocates x.types r n i.op) (flat bs)) (list_all (λ (i : Instr). uses_as_address r i.op) (flat bs)) e))

spared_at_kept : (x : Module) (bs : Option (List Block)) (n : ℕ) (v : Value) → is_spared_at x.types (flat (blocks_of_option bs)) n v ≡ true → is_spared_at x.types (flat (blocks_of_option (option_map (map (program_block x)) bs))) n v ≡ true
spared_at_kept x bs n (value.Register r) e = keeps_kept x bs n r e
spared_at_kept x bs n (value.Constant c) e = e

pub spared_kept : (x : Module) (f : Function) (o : Op) → is_spared x f o ≡ true → is_spared (program_of x) (program_function x f) (erased_op x o) ≡ true
spared_kept x f (op.Store ty v at) e = spared_at_kept x f.blocks (scalar_size ty) at e
spared_kept x f (op.Call to ret y args) e = false_true e
spared_kept x f o e = e

-- code with its marks, and what erasing leaves of it

pub marked_back : (i : Interface) (x : Module) → Text i x → (f : Function) (os is : List Op) → list_all (λ (o : Op). not (is_image_line o)) os ≡ true → list_all (calls_well x) os ≡ true → WithMarks x f os is → IsMarked (program_of x) (program_function x f) (map (erased_op x) os) is
marked_back i x t f [] is p c h = h
marked_back i x t f (o ∷ os) is p c (rest, inl e, h) =
    let back : image_op (program_of x) (erased_op x o) ≡ o = op_back i x t o (first_of (not (is_image_line o)) (list_all (λ (o : Op). not (is_image_line o)) os) p) (first_of (calls_well x o) (list_all (calls_well x) os) c) in
    (rest, inl (e ∙ (λ j. sym (marks_kept x o) j ++ (sym back j ∷ rest))), marked_back i x t f os rest (second_of (not (is_image_line o)) (list_all (λ (o : Op). not (is_image_line o)) os) p) (second_of (calls_well x o) (list_all (calls_well x) os) c) h)
marked_back i x t f (o ∷ os) is p c (rest, inr e, h) =
    let back : image_op (program_of x) (erased_op x o) ≡ o = op_back i x t o (first_of (not (is_image_line o)) (list_all (λ (o : Op). not (is_image_line o)) os) p) (first_of (calls_well x o) (list_all (calls_well x) os) c) in
    (rest, inr (spared_kept x f o e.0, e.1 ∙ (λ j. sym back j ∷ rest)), marked_back i x t f os rest (second_of (not (is_image_line o)) (list_all (λ (o : Op). not (is_image_line o)) os) p) (second_of (calls_well x o) (list_all (calls_well x) os) c) h)
