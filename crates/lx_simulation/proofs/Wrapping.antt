-- The wrappers of a program's images have their right lines.
use Rattle.std.proofs.Common.{◌≡◌, ℕ, zero, suc, ◌+◌, ◌<◌, Bool, true, false, not, ◌&&◌, ◌||◌, List, [], ◌∷◌, ◌++◌, length, map, take, drop, Option, Some, None, ◌⊎◌, inl, inr, refl, sym, subst, ◌∙◌, ap, arith, eqb-true, ltb-true}
use Rattle.std.specs.Prelude.{slice_get, option_map, option_and_then, option_to_list, filter_map, find, cond, nat_eq, nat_lt, bytes_eq, unwrap_or, codes, position}
use Rattle.std.specs.List.{list_all, list_any, starts_with, cons_option, position_or_len}
use Rattle.std.proofs.lemmas.List.Folds.{find_at}
use Rattle.std.proofs.lemmas.Option.{slice_get-map}
use Rattle.std.proofs.lemmas.Bool.{not-true, or_parts, and_from}
use Rattle.lx_words.proofs.Tests.{true_false, first_of, second_of}
use Rattle.lx_words.proofs.Options.{none_some, some_same}
use Rattle.lx_words.proofs.Lists.{bytes_itself, same_bytes, there_is, found_is, split_at, eq_turned}
use Rattle.lx_ir.specs.declared.module.Block.{Block}
use Rattle.lx_ir.specs.declared.module.Function.{Function}
use Rattle.lx_ir.specs.declared.module.GlobalVar.{GlobalVar}
use Rattle.lx_ir.specs.declared.module.Module.{Module}
use Rattle.lx_ir.specs.declared.module.Symbol.TheVariants as symbol
use Rattle.lx_ir.specs.declared.instr.Callee.TheVariants as callee
use Rattle.lx_ir.specs.declared.instr.Op.{Op}
use Rattle.lx_ir.specs.declared.instr.Op.TheVariants as op
use Rattle.lx_ir.specs.Lookup.{is_defined, blocks_of_option}
use Rattle.lx_ir.specs.Lawful.{IsPlain, is_own_name, is_distinct}
use Rattle.lx_ir.proofs.DistinctNames.{distinct_behind}
use Rattle.lx_annot.specs.declared.action.Annotation.{Annotation}
use Rattle.lx_annot.specs.declared.interface.Interface.{Interface}
use Rattle.lx_slot_types.specs.declared.Marked.{Marked}
use Rattle.lx_slot_types.specs.Gets.{slot_of}
use Rattle.lx_propagate.specs.Slots.{marked, annotated_from, annotated_of}
use Rattle.lx_image_texts.specs.Marks.{is_wrapped}
use Rattle.lx_image_texts.specs.Guards.{BlockText, block_text, FunctionText, function_text, AreGuarded, Guards}
use Rattle.lx_image_texts.specs.WrapperText.{In, wrapper_args, result_register, returned, wrapper_code, wrapper_of, import_annotation, slot_annotation, out_if, out_wrappers, in_wrapper, in_wrappers, wrappers_of}
use Rattle.lx_image_texts.proofs.Sound.{unlined_ops}
use Rattle.lx_image_texts.proofs.Calling.{all_at}
use Rattle.lx_model.specs.declared.program.Program.{Program}
use Rattle.lx_model.specs.declared.program.ProgramFunction.{ProgramFunction}
use Rattle.lx_model.specs.declared.program.ProgramFunction.TheVariants.{Of, Native}
use Rattle.lx_model.specs.Program.{slot_annotation as slot_type_annotation, Home, home_of_entry, home_or_kernel, is_entry, number_of, kernel_function, module_of, function_of, function_of_entry, annotation_of_entry, annotation_or_none, no_annotation, export_annotation}
use Rattle.lx_model.specs.Thread.{code_block_of, first_code}
use Rattle.lx_images.specs.Code.{Code, wrapped_name, out_import, wrapped_import}
use Rattle.lx_images.specs.HasImages.{HasImages}
use Rattle.lx_images.specs.Wrappers.{lines_of, function_in_image, called_lines, plain_lines, in_named, lines_or_plain, in_lines_of, in_lines}
use Rattle.lx_images.specs.WrapperLines.{Wording, from_enter, IsWrapperOf, WrapsWell}

abbrev out_prefix : List ℕ
out_prefix = codes "lxfi.out."

abbrev in_prefix : List ℕ
in_prefix = codes "lxfi.in."

abbrev names_of : List Function → List (List ℕ)
names_of fs = map (λ f. f.name) fs

-- lists

pub is_not : (b : Bool) → b ≡ true → not b ≡ true → {A : Type 0} → A
is_not true e h = true_false (sym h)
is_not false e h = true_false (sym e)

-- an element of a list stands in its front or behind it
pub front_or_behind : {A : Type 0} (xs ys : List A) (k : ℕ) (x : A) → slice_get (xs ++ ys) k ≡ Some x → (slice_get xs k ≡ Some x) ⊎ ((j : ℕ) × (slice_get ys j ≡ Some x))
front_or_behind [] ys k x e = inr (k, e)
front_or_behind (y ∷ xs) ys zero x e = inl e
front_or_behind (y ∷ xs) ys (suc k) x e = front_or_behind xs ys k x e

-- the first that passes

finds : {A : Type 0} (p : A → Bool) (x : A) (xs : List A) → p x ≡ true → find p (x ∷ xs) ≡ Some x
finds p x xs e = ap (λ (b : Bool). cond b (Some x) (find p xs)) e

passes_over : {A : Type 0} (p : A → Bool) (x : A) (xs : List A) → p x ≡ false → find p (x ∷ xs) ≡ find p xs
passes_over p x xs e = ap (λ (b : Bool). cond b (Some x) (find p xs)) e

found_passes_by : {A : Type 0} (p : A → Bool) (y : A) (xs : List A) (x : A) (b : Bool) → p y ≡ b → cond b (Some y) (find p xs) ≡ Some x → (find p xs ≡ Some x → p x ≡ true) → p x ≡ true
found_passes_by p y xs x true e h ih = ap p (sym (some_same h)) ∙ e
found_passes_by p y xs x false e h ih = ih h

behind_by : {A : Type 0} (p : A → Bool) (x : A) (xs ys : List A) (b : Bool) → p x ≡ b → cond b (Some x) (find p xs) ≡ None → (find p xs ≡ None → find p (xs ++ ys) ≡ find p ys) → cond b (Some x) (find p (xs ++ ys)) ≡ find p ys
behind_by p x xs ys true e h ih = none_some (sym h)
behind_by p x xs ys false e h ih = ih h

-- behind a front where none passes
find_behind : {A : Type 0} (p : A → Bool) (xs ys : List A) → find p xs ≡ None → find p (xs ++ ys) ≡ find p ys
find_behind p [] ys h = refl
find_behind p (x ∷ xs) ys h = behind_by p x xs ys (p x) refl h (find_behind p xs ys)

pub record At {A : Type 0} (p : A → Bool) (xs : List A) (n : ℕ) : Type 0 where
  pub it : A
  pub got : slice_get xs n ≡ Some it
  pub passes : p it ≡ true

position_by : {A : Type 0} (p : A → Bool) (xs : List A) (n : ℕ) (b : Bool) → nat_lt (position_or_len p xs) (length xs) ≡ b → cond b (Some (position_or_len p xs)) None ≡ Some n → At p xs n
position_by p xs n true e h =
    let same : position_or_len p xs ≡ n = some_same h in
    let x = there_is xs (position_or_len p xs) (ltb-true (position_or_len p xs) (length xs) e) in
    record { it = x.0; got = ap (slice_get xs) (sym same) ∙ x.1; passes = found_is p xs x.0 (find_at p xs ∙ x.1) }
position_by p xs n false e h = none_some h

pub positioned : {A : Type 0} (p : A → Bool) (xs : List A) (n : ℕ) → position p xs ≡ Some n → At p xs n
positioned p xs n e = position_by p xs n (nat_lt (position_or_len p xs) (length xs)) refl e

-- texts

-- the lines of a function by its text
abbrev first_text : Option (List BlockText) → List Op
first_text None = []
first_text (Some []) = []
first_text (Some (b ∷ bs)) = b.code

abbrev pub text_lines : FunctionText → List Op
text_lines t = first_text t.blocks

lines_by : (bs : Option (List Block)) → first_code (map code_block_of (blocks_of_option bs)) ≡ first_text (option_map (map block_text) bs)
lines_by None = refl
lines_by (Some []) = refl
lines_by (Some (b ∷ bs)) = refl

pub lines_of_text : (f : Function) → lines_of (Some f) ≡ text_lines (function_text f)
lines_of_text f = lines_by f.blocks

-- a wrapper's lines

abbrev wording_of : Function → ℕ → Wording
wording_of f n =
    record {
      symbol = symbol.Function n;
      to = result_register (length f.params) f.ret;
      ret = f.ret;
      callee = callee.Symbol (symbol.Function n);
      args = wrapper_args 0 f.params;
      value = returned (length f.params) f.ret;
    }

-- the text of a wrapper of this function for this annotation
abbrev IsText : Annotation → FunctionText → Type 0
IsText an t = (f : Function) × (n : ℕ) × (text_lines t ≡ wrapper_code f n an)

wrapper_lines : (c : Code) (n : ℕ) (an : Annotation) (lines : List Op) (t : FunctionText) → lines ≡ text_lines t → IsText an t → annotation_or_none c.program n ≡ an → IsWrapperOf c n lines
wrapper_lines c n an lines t e (f, k, h) same = (wording_of f k, e ∙ (h ∙ ap (λ (a : Annotation). wrapper_code f k a) (sym same)))

-- calls of imports

-- what is known of the text of a wrapper that is named as one of an import
abbrev Named : Interface → FunctionText → Type 0
Named i t = starts_with nat_eq t.name out_prefix ≡ true → (name : List ℕ) × (t.name ≡ out_prefix ++ name) × IsText (import_annotation i name) t

abbrev pub Each : (FunctionText → Type 0) → List FunctionText → Type 0
Each P [] = Unit {0}
Each P (t ∷ ts) = P t × Each P ts

pub each_at : (P : FunctionText → Type 0) (ts : List FunctionText) (k : ℕ) (t : FunctionText) → Each P ts → slice_get ts k ≡ Some t → P t
each_at P [] k t a e = none_some e
each_at P (x ∷ ts) zero t a e = subst P (some_same e) a.0
each_at P (x ∷ ts) (suc k) t a e = each_at P ts k t a.1 e

pub each_joined : (P : FunctionText → Type 0) (xs ys : List Function) → Each P (map function_text xs) → Each P (map function_text ys) → Each P (map function_text (xs ++ ys))
each_joined P [] ys a b = b
each_joined P (x ∷ xs) ys a b = (a.0, each_joined P xs ys a.1 b)

out_named_if : (i : Interface) (n : ℕ) (f : Function) (ws : List Function) (b : Bool) → Each (Named i) (map function_text ws) → Each (Named i) (map function_text (out_if b i n f ++ ws))
out_named_if i n f ws true h = (λ e. (f.name, refl, (f, n, unlined_ops (wrapper_code f n (import_annotation i f.name)))), h)
out_named_if i n f ws false h = h

outs_named : (i : Interface) (n : ℕ) (fs : List Function) → Each (Named i) (map function_text (out_wrappers i n fs))
outs_named i n [] = tt
outs_named i n (f ∷ fs) = out_named_if i n f (out_wrappers i (suc n) fs) (is_wrapped f) (outs_named i (suc n) fs)

in_named_one : (i : Interface) (k : Marked) (o : Option Function) (ws : List Function) → Each (Named i) (map function_text ws) → Each (Named i) (map function_text (cons_option (option_map (λ g. wrapper_of g k.function (slot_annotation i k.slot) In) o) ws))
in_named_one i k None ws h = h
in_named_one i k (Some f) ws h = (λ e. true_false (sym e), h)

ins_named : (i : Interface) (y : Module) (ks : List Marked) → Each (Named i) (map function_text (filter_map (in_wrapper i y) ks))
ins_named i y [] = tt
ins_named i y (k ∷ ks) = in_named_one i k (slice_get y.functions k.function) (filter_map (in_wrapper i y) ks) (ins_named i y ks)

wrappers_named : (i : Interface) (y : Module) → Each (Named i) (map function_text (wrappers_of i y))
wrappers_named i y = each_joined (Named i) (out_wrappers i 0 y.functions) (in_wrappers i y) (outs_named i 0 y.functions) (ins_named i y (annotated_of i y))

-- a module's own functions are named as no wrapper

all_second : (xs ys : List (List ℕ)) (p : List ℕ → Bool) → list_all p (xs ++ ys) ≡ true → list_all p ys ≡ true
all_second [] ys p a = a
all_second (x ∷ xs) ys p a = all_second xs ys p (second_of (p x) (list_all p (xs ++ ys)) a)

own_names : (m : Module) → IsPlain m → list_all (λ n. not (is_own_name n)) (names_of m.functions) ≡ true
own_names m p = all_second (map (λ (g : GlobalVar). g.name) m.globals) (names_of m.functions) (λ n. not (is_own_name n)) p.names

pub guarded_names : (m : Module) (fs gs : List Function) → AreGuarded m fs gs → names_of gs ≡ names_of fs
guarded_names m [] gs h = ap names_of h
guarded_names m (f ∷ fs) [] h = absurd h
guarded_names m (f ∷ fs) (g ∷ gs) h = λ j. h.0.name j ∷ guarded_names m fs gs h.1 j

pub front_names : (i : Interface) (m x : Module) → Guards i m x → list_all (λ n. not (is_own_name n)) (names_of (take (length m.functions) x.functions)) ≡ true
front_names i m x g = ap (list_all (λ n. not (is_own_name n))) (guarded_names m m.functions (take (length m.functions) x.functions) g.functions) ∙ own_names m g.plain

pub front : (xs ys name : List ℕ) → starts_with nat_eq name (xs ++ ys) ≡ true → starts_with nat_eq name xs ≡ true
front [] ys name e = refl
front (x ∷ xs) ys [] e = e
front (x ∷ xs) ys (n ∷ name) e = and_from (nat_eq x n) (starts_with nat_eq name xs) (first_of (nat_eq x n) (starts_with nat_eq name (xs ++ ys)) e) (front xs ys name (second_of (nat_eq x n) (starts_with nat_eq name (xs ++ ys)) e))

-- a function of an image that is named as a wrapper of an import is one
out_text : (i : Interface) (m x : Module) → Guards i m x → (k : ℕ) (g : Function) → slice_get x.functions k ≡ Some g → starts_with nat_eq g.name out_prefix ≡ true →
    (name : List ℕ) × (g.name ≡ out_prefix ++ name) × IsText (import_annotation i name) (function_text g)
out_text i m x h k g e named =
    elim (front_or_behind (take (length m.functions) x.functions) (drop (length m.functions) x.functions) k g (ap (λ (fs : List Function). slice_get fs k) (split_at (length m.functions) x.functions) ∙ e)) [
      | inl a ↦ is_not (is_own_name g.name) (front (codes "lxfi.") (codes "out.") g.name named)
          (all_at (λ n. not (is_own_name n)) (names_of (take (length m.functions) x.functions)) k g.name (front_names i m x h)
          (slice_get-map (λ (f : Function). f.name) (take (length m.functions) x.functions) k ∙ ap (option_map (λ (f : Function). f.name)) a))
      | inr b ↦ each_at (Named i) (map function_text (wrappers_of i m)) b.0 (function_text g) (wrappers_named i m)
          (ap (λ (ts : List FunctionText). slice_get ts b.0) (sym h.wrappers) ∙ (slice_get-map function_text (drop (length m.functions) x.functions) b.0 ∙ ap (option_map function_text) b.1)) named
    ]

-- the kernel's function with a name

kernel_entry : (k : ℕ) (e : ProgramFunction) → is_entry None k e ≡ true → e ≡ Of None k
kernel_entry k (Of None f) h = ap (λ (n : ℕ). Of None n) (sym (eqb-true k f h))
kernel_entry k (Of (Some m) f) h = true_false (sym h)
kernel_entry k (Native n) h = true_false (sym h)

record KernelFunction (p : Program) (name : List ℕ) (n : ℕ) : Type 0 where
  place : ℕ
  it : Function
  entry : slice_get p.functions n ≡ Some (Of None place)
  got : slice_get p.kernel.functions place ≡ Some it
  named : it.name ≡ name

kernel_numbered : (p : Program) (name : List ℕ) (n : ℕ) (o : Option ℕ) → position (λ (f : Function). is_defined f && bytes_eq f.name name) p.kernel.functions ≡ o → option_and_then (number_of p None) o ≡ Some n → KernelFunction p name n
kernel_numbered p name n None e h = none_some h
kernel_numbered p name n (Some k) e h =
    let f = positioned (λ (f : Function). is_defined f && bytes_eq f.name name) p.kernel.functions k e in
    let x = positioned (is_entry None k) p.functions n h in
    record {
      place = k;
      it = f.it;
      entry = x.got ∙ ap (λ (y : ProgramFunction). Some y) (kernel_entry k x.it x.passes);
      got = f.got;
      named = same_bytes f.it.name name (second_of (is_defined f.it) (bytes_eq f.it.name name) f.passes);
    }

kernel_named : (p : Program) (name : List ℕ) (n : ℕ) → kernel_function p name ≡ Some n → KernelFunction p name n
kernel_named p name n e = kernel_numbered p name n (position (λ (f : Function). is_defined f && bytes_eq f.name name) p.kernel.functions) refl e

kernel_annotation : (p : Program) (name : List ℕ) (n : ℕ) → kernel_function p name ≡ Some n → annotation_or_none p n ≡ import_annotation p.interface name
kernel_annotation p name n e =
    let f = kernel_named p name n e in
    ap (λ (x : Option ProgramFunction). unwrap_or (annotation_of_entry p x (function_of_entry p x)) no_annotation) f.entry
    ∙ (ap (λ (g : Option Function). unwrap_or (annotation_of_entry p (Some (Of None f.place)) g) no_annotation) f.got
    ∙ ap (λ (a : List ℕ). unwrap_or (export_annotation p.interface a) no_annotation) f.named)

-- a called wrapper has its right lines

named_lines : (c : Code) (m x : Module) → Guards c.program.interface m x → (k n : ℕ) (g : Function) (b : Bool) → slice_get x.functions k ≡ Some g → starts_with nat_eq g.name out_prefix ≡ b → option_and_then (kernel_function c.program) (cond b (Some (drop 9 g.name)) None) ≡ Some n →
    IsWrapperOf c n (lines_of (Some g))
named_lines c m x h k n g false e eb en = none_some en
named_lines c m x h k n g true e eb en =
    let w = out_text c.program.interface m x h k g e eb in
    let name : drop 9 g.name ≡ w.0 = ap (drop 9) w.1 in
    wrapper_lines c n (import_annotation c.program.interface w.0) (lines_of (Some g)) (function_text g) (lines_of_text g) w.2
    (kernel_annotation c.program w.0 n (ap (kernel_function c.program) (sym name) ∙ en))

found_lines : (c : Code) (m x : Module) → Guards c.program.interface m x → (k n : ℕ) (o : Option Function) → slice_get x.functions k ≡ o → option_and_then (kernel_function c.program) (wrapped_name o) ≡ Some n →
    IsWrapperOf c n (lines_of o)
found_lines c m x h k n None e en = none_some en
found_lines c m x h k n (Some g) e en = named_lines c m x h k n g (starts_with nat_eq g.name out_prefix) e refl en

image_lines : (c : Code) → HasImages c → (m k n : ℕ) → m < length c.program.modules → out_import c (Some m) k ≡ Some n → IsWrapperOf c n (lines_of (function_in_image c (Some m) k))
image_lines c h m k n less e =
    let im = h.images m less in
    let got : option_and_then (λ (y : Module). slice_get y.functions k) (slice_get c.images m) ≡ slice_get im.0.functions k = ap (λ (x : Option Module). option_and_then (λ (y : Module). slice_get y.functions k) x) im.1 in
    subst (λ (o : Option Function). IsWrapperOf c n (lines_of o)) (sym got)
    (found_lines c (module_of c.program (Some m)) im.0 im.2 k n (slice_get im.0.functions k) refl (ap (λ (o : Option Function). option_and_then (kernel_function c.program) (wrapped_name o)) (sym got) ∙ e))

-- whose text it is

module_below : (c : Code) → HasImages c → (n m : ℕ) (e : Option ProgramFunction) → slice_get c.program.functions n ≡ e → unwrap_or (home_of_entry e) None ≡ Some m → m < length c.program.modules
module_below c h n m None e u = none_some u
module_below c h n m (Some (Native k)) e u = none_some u
module_below c h n m (Some (Of None k)) e u = none_some u
module_below c h n m (Some (Of (Some j) k)) e u = (h.linked.table n m k (e ∙ ap (λ (a : ℕ). Some (Of (Some a) k)) (some_same u))).0

call_lines : (c : Code) → HasImages c → (j : ℕ) (home : Home) (f n : ℕ) → home_or_kernel c.program j ≡ home → out_import c home f ≡ Some n → IsWrapperOf c n (lines_of (function_in_image c home f))
call_lines c h j None f n eh e = none_some e
call_lines c h j (Some m) f n eh e = image_lines c h m f n (module_below c h j m (slice_get c.program.functions j) refl eh) e

called_right : (c : Code) → HasImages c → (j : ℕ) (o : Op) (n : ℕ) → wrapped_import c (home_or_kernel c.program j) o ≡ Some n → IsWrapperOf c n (called_lines c (home_or_kernel c.program j) o)
called_right c h j (op.Call to ret (callee.Symbol (symbol.Function f)) args) n e = call_lines c h j (home_or_kernel c.program j) f n refl e
called_right c h j (op.Call to ret (callee.Symbol (symbol.Global g)) args) n e = none_some e
called_right c h j (op.Call to ret (callee.Register r) args) n e = none_some e
called_right c h j o n e = none_some e

-- the wrapper of a function that is entered from elsewhere

-- by texts
abbrev text_or_plain : Option FunctionText → List Op
text_or_plain None = plain_lines
text_or_plain (Some t) = text_lines t

lines_or_text : (o : Option Function) → lines_or_plain o ≡ text_or_plain (option_map function_text o)
lines_or_text None = refl
lines_or_text (Some f) = lines_of_text f

text_found_by : (q : List ℕ → Bool) (f : Function) (fs : List Function) (b : Bool) → option_map function_text (find (λ (g : Function). q g.name) fs) ≡ find (λ (t : FunctionText). q t.name) (map function_text fs) →
    option_map function_text (cond b (Some f) (find (λ (g : Function). q g.name) fs)) ≡ cond b (Some (function_text f)) (find (λ (t : FunctionText). q t.name) (map function_text fs))
text_found_by q f fs true ih = refl
text_found_by q f fs false ih = ih

text_found : (q : List ℕ → Bool) (fs : List Function) → option_map function_text (find (λ (g : Function). q g.name) fs) ≡ find (λ (t : FunctionText). q t.name) (map function_text fs)
text_found q [] = refl
text_found q (f ∷ fs) = text_found_by q f fs (q f.name) (text_found q fs)

abbrev is_in : List ℕ → Function → Bool
is_in name f = bytes_eq f.name (in_prefix ++ name)

-- no function of the module bytes_itself is named so
plain_not_by : (n name : List ℕ) (b : Bool) → bytes_eq n (in_prefix ++ name) ≡ b → not (is_own_name n) ≡ true → b ≡ false
plain_not_by n name true e h = is_not (is_own_name n) (ap is_own_name (same_bytes n (in_prefix ++ name) e)) h
plain_not_by n name false e h = refl

plain_not : (n name : List ℕ) → not (is_own_name n) ≡ true → bytes_eq n (in_prefix ++ name) ≡ false
plain_not n name h = plain_not_by n name (bytes_eq n (in_prefix ++ name)) refl h

none_plain : (name : List ℕ) (fs : List Function) → list_all (λ n. not (is_own_name n)) (names_of fs) ≡ true → find (is_in name) fs ≡ None
none_plain name [] a = refl
none_plain name (f ∷ fs) a =
    passes_over (is_in name) f fs (plain_not f.name name (first_of (not (is_own_name f.name)) (list_all (λ n. not (is_own_name n)) (names_of fs)) a))
    ∙ none_plain name fs (second_of (not (is_own_name f.name)) (list_all (λ n. not (is_own_name n)) (names_of fs)) a)

-- nor a wrapper of an import
none_out_if : (name : List ℕ) (i : Interface) (n : ℕ) (f : Function) (ws : List Function) (b : Bool) → find (is_in name) ws ≡ None → find (is_in name) (out_if b i n f ++ ws) ≡ None
none_out_if name i n f ws true h = h
none_out_if name i n f ws false h = h

none_out : (name : List ℕ) (i : Interface) (n : ℕ) (fs : List Function) → find (is_in name) (out_wrappers i n fs) ≡ None
none_out name i n [] = refl
none_out name i n (f ∷ fs) = none_out_if name i n f (out_wrappers i (suc n) fs) (is_wrapped f) (none_out name i (suc n) fs)

-- among the wrappers of annotated functions

-- the slot type that a function with this number gets, if its module defines it
abbrev slot_if : Bool → Option ℕ → Option ℕ
slot_if true s = s
slot_if false s = None

abbrev marks_of : ℕ → Bool → Option ℕ → List Marked
marks_of n b s = option_to_list (cond b (option_map (marked n) s) None)

-- the wrapper that it has
abbrev wrapper_if : Interface → ℕ → Function → Option ℕ → Option Function
wrapper_if i n f s = option_map (λ t. wrapper_of f n (slot_annotation i t) In) s

marks_wrap : (i : Interface) (m : Module) (n : ℕ) (f : Function) (b : Bool) (s : Option ℕ) (rest : List Marked) → slice_get m.functions n ≡ Some f →
    filter_map (in_wrapper i m) (marks_of n b s ++ rest) ≡ cons_option (wrapper_if i n f (slot_if b s)) (filter_map (in_wrapper i m) rest)
marks_wrap i m n f false s rest e = refl
marks_wrap i m n f true None rest e = refl
marks_wrap i m n f true (Some t) rest e =
    ap (λ (o : Option Function). cons_option (option_map (λ (g : Function). wrapper_of g n (slot_annotation i t) In) o) (filter_map (in_wrapper i m) rest)) e

-- one that is named otherwise is passed over
other_over : (i : Interface) (n : ℕ) (f : Function) (name : List ℕ) (s : Option ℕ) (ws : List Function) → bytes_eq f.name name ≡ false → find (is_in name) (cons_option (wrapper_if i n f s) ws) ≡ find (is_in name) ws
other_over i n f name None ws e = refl
other_over i n f name (Some t) ws e = passes_over (is_in name) (wrapper_of f n (slot_annotation i t) In) ws e

-- the functions of a module from this number on
abbrev pub From : Module → ℕ → List Function → Type 0
From m n fs = (j : ℕ) → slice_get fs j ≡ slice_get m.functions (n + j)

pub next_from : (m : Module) (n : ℕ) (f : Function) (fs : List Function) → From m n (f ∷ fs) → From m (suc n) fs
next_from m n f fs h j = let e : n + suc j ≡ suc n + j = omega arith in h (suc j) ∙ ap (slice_get m.functions) e

pub first_from : (m : Module) (n : ℕ) (f : Function) (fs : List Function) → From m n (f ∷ fs) → slice_get m.functions n ≡ Some f
first_from m n f fs h = let e : n ≡ n + 0 = omega arith in ap (slice_get m.functions) e ∙ sym (h 0)

none_later : (i : Interface) (m : Module) (name : List ℕ) (n : ℕ) (fs : List Function) → From m n fs → list_any (bytes_eq name) (names_of fs) ≡ false → find (is_in name) (filter_map (in_wrapper i m) (annotated_from i m n fs)) ≡ None
none_later i m name n [] h a = refl
none_later i m name n (f ∷ fs) h a =
    let apart = or_parts (bytes_eq name f.name) (list_any (bytes_eq name) (names_of fs)) a in
    ap (find (is_in name)) (marks_wrap i m n f (is_defined f) (slot_of i m n) (annotated_from i m (suc n) fs) (first_from m n f fs h))
    ∙ (other_over i n f name (slot_if (is_defined f) (slot_of i m n)) (filter_map (in_wrapper i m) (annotated_from i m (suc n) fs)) (eq_turned name f.name (bytes_eq f.name name) refl apart.0)
    ∙ none_later i m name (suc n) fs (next_from m n f fs h) apart.1)

here_found : (i : Interface) (n : ℕ) (f : Function) (s : Option ℕ) (ws : List Function) → find (is_in f.name) ws ≡ None → find (is_in f.name) (cons_option (wrapper_if i n f s) ws) ≡ wrapper_if i n f s
here_found i n f None ws h = h
here_found i n f (Some t) ws h = finds (is_in f.name) (wrapper_of f n (slot_annotation i t) In) ws (bytes_itself f.name)

not_here : (n : List ℕ) (ns : List (List ℕ)) (k : ℕ) (b : List ℕ) → list_any (bytes_eq n) ns ≡ false → slice_get ns k ≡ Some b → bytes_eq n b ≡ false
not_here n [] k b a e = none_some e
not_here n (x ∷ ns) zero b a e = ap (bytes_eq n) (sym (some_same e)) ∙ (or_parts (bytes_eq n x) (list_any (bytes_eq n) ns) a).0
not_here n (x ∷ ns) (suc k) b a e = not_here n ns k b (or_parts (bytes_eq n x) (list_any (bytes_eq n) ns) a).1 e

pub name_got : (fs : List Function) (k : ℕ) (g : Function) → slice_get fs k ≡ Some g → slice_get (names_of fs) k ≡ Some g.name
name_got fs k g e = slice_get-map (λ (f : Function). f.name) fs k ∙ ap (option_map (λ (f : Function). f.name)) e

in_found : (i : Interface) (m : Module) (n : ℕ) (fs : List Function) (k num : ℕ) (g : Function) → num ≡ n + k → From m n fs → is_distinct (names_of fs) ≡ true → slice_get fs k ≡ Some g →
    find (is_in g.name) (filter_map (in_wrapper i m) (annotated_from i m n fs)) ≡ wrapper_if i num g (slot_if (is_defined g) (slot_of i m num))
in_found i m n [] k num g en h d e = none_some e
in_found i m n (f ∷ fs) zero num g en h d e =
    let same : n ≡ num = omega (arith, en) in
    let one : f ≡ g = some_same e in
    subst (λ (y : Function). find (is_in y.name) (filter_map (in_wrapper i m) (annotated_from i m n (f ∷ fs))) ≡ wrapper_if i num y (slot_if (is_defined y) (slot_of i m num))) one
    (ap (find (is_in f.name)) (marks_wrap i m n f (is_defined f) (slot_of i m n) (annotated_from i m (suc n) fs) (first_from m n f fs h))
    ∙ (here_found i n f (slot_if (is_defined f) (slot_of i m n)) (filter_map (in_wrapper i m) (annotated_from i m (suc n) fs))
    (none_later i m f.name (suc n) fs (next_from m n f fs h) (not-true (list_any (bytes_eq f.name) (names_of fs)) (first_of (not (list_any (bytes_eq f.name) (names_of fs))) (is_distinct (names_of fs)) d)))
    ∙ ap (λ (a : ℕ). wrapper_if i a f (slot_if (is_defined f) (slot_of i m a))) same))
in_found i m n (f ∷ fs) (suc k) num g en h d e =
    let next : num ≡ suc n + k = omega (arith, en) in
    ap (find (is_in g.name)) (marks_wrap i m n f (is_defined f) (slot_of i m n) (annotated_from i m (suc n) fs) (first_from m n f fs h))
    ∙ (other_over i n f g.name (slot_if (is_defined f) (slot_of i m n)) (filter_map (in_wrapper i m) (annotated_from i m (suc n) fs))
    (not_here f.name (names_of fs) k g.name (not-true (list_any (bytes_eq f.name) (names_of fs)) (first_of (not (list_any (bytes_eq f.name) (names_of fs))) (is_distinct (names_of fs)) d)) (name_got fs k g e))
    ∙ in_found i m (suc n) fs k num g next (next_from m n f fs h) (second_of (not (list_any (bytes_eq f.name) (names_of fs))) (is_distinct (names_of fs)) d) e)

pub from_start : (m : Module) → From m 0 m.functions
from_start m j = let e : j ≡ 0 + j = omega arith in ap (slice_get m.functions) e

-- among the functions of an image
image_found : (i : Interface) (m x : Module) → Guards i m x → is_distinct (names_of m.functions) ≡ true → (k : ℕ) (g : Function) → slice_get m.functions k ≡ Some g → is_defined g ≡ true →
    lines_or_plain (in_named g.name x.functions) ≡ text_or_plain (option_map function_text (wrapper_if i k g (slot_of i m k)))
image_found i m x h d k g e def =
    let l = length m.functions in
    let behind : find (is_in g.name) x.functions ≡ find (is_in g.name) (drop l x.functions)
    = ap (find (is_in g.name)) (sym (split_at l x.functions)) ∙ find_behind (is_in g.name) (take l x.functions) (drop l x.functions) (none_plain g.name (take l x.functions) (front_names i m x h)) in
    let texts : option_map function_text (find (is_in g.name) (drop l x.functions)) ≡ option_map function_text (find (is_in g.name) (wrappers_of i m))
    = text_found (λ n. bytes_eq n (in_prefix ++ g.name)) (drop l x.functions) ∙ (ap (find (λ (t : FunctionText). bytes_eq t.name (in_prefix ++ g.name))) h.wrappers ∙ sym (text_found (λ n. bytes_eq n (in_prefix ++ g.name)) (wrappers_of i m))) in
    let ins : find (is_in g.name) (wrappers_of i m) ≡ wrapper_if i k g (slot_if (is_defined g) (slot_of i m k))
    = find_behind (is_in g.name) (out_wrappers i 0 m.functions) (in_wrappers i m) (none_out g.name i 0 m.functions)
    ∙ (let start : k ≡ 0 + k = omega arith in in_found i m 0 m.functions k k g start (from_start m) d e) in
    ap lines_or_plain behind ∙ (lines_or_text (find (is_in g.name) (drop l x.functions)) ∙ (ap text_or_plain texts
    ∙ (ap (λ (o : Option Function). text_or_plain (option_map function_text o)) ins
    ∙ ap (λ (b : Bool). text_or_plain (option_map function_text (wrapper_if i k g (slot_if b (slot_of i m k))))) def)))

abbrev plain_wording : Wording
plain_wording = record { symbol = symbol.Function 0; to = None; ret = None; callee = callee.Symbol (symbol.Function 0); args = []; value = None }

-- what a function's entry has
abbrev IsRight : Code → List Op → Annotation → Type 0
IsRight c lines an = (w : Wording) × (lines ≡ from_enter w an)

slot_lines : (c : Code) (i : Interface) (k : ℕ) (g : Function) (s : Option ℕ) → IsRight c (text_or_plain (option_map function_text (wrapper_if i k g s))) (unwrap_or (option_and_then (λ (t : ℕ). slot_type_annotation i t) s) no_annotation)
slot_lines c i k g None = (plain_wording, refl)
slot_lines c i k g (Some t) = (wording_of g k, unlined_ops (wrapper_code g k (slot_annotation i t)))

module_lines : (c : Code) → HasImages c → (n m k : ℕ) (g : Function) → slice_get c.program.functions n ≡ Some (Of (Some m) k) → slice_get (module_of c.program (Some m)).functions k ≡ Some g →
    IsRight c (in_lines_of c (Some (Of (Some m) k)) (Some g)) (unwrap_or (annotation_of_entry c.program (Some (Of (Some m) k)) (Some g)) no_annotation)
module_lines c h n m k g en eg =
    let im = h.images m (h.linked.table n m k en).0 in
    let text = module_of c.program (Some m) in
    let d : is_distinct (names_of text.functions) ≡ true = distinct_behind (map (λ (x : GlobalVar). x.name) text.globals) (names_of text.functions) (h.linked.verified (Some m)).lawful.symbols_once in
    let right = slot_lines c c.program.interface k g (slot_of c.program.interface text k) in
    (right.0, ap (λ (x : Option Module). lines_or_plain (option_and_then (λ (y : Module). in_named g.name y.functions) x)) im.1 ∙ (image_found c.program.interface text im.0 im.2 d k g eg (h.linked.defined n m k g en eg) ∙ right.1))

entry_lines : (c : Code) → HasImages c → (n : ℕ) (e : Option ProgramFunction) → slice_get c.program.functions n ≡ e → (g : Option Function) → function_of_entry c.program e ≡ g →
    IsRight c (in_lines_of c e g) (unwrap_or (annotation_of_entry c.program e g) no_annotation)
entry_lines c h n None en g eg = (plain_wording, refl)
entry_lines c h n (Some (Native k)) en g eg = (plain_wording, refl)
entry_lines c h n (Some (Of None k)) en None eg = (plain_wording, refl)
entry_lines c h n (Some (Of None k)) en (Some g) eg = (wording_of g k, refl)
entry_lines c h n (Some (Of (Some m) k)) en (Some g) eg = module_lines c h n m k g en eg
entry_lines c h n (Some (Of (Some m) k)) en None eg = none_some (sym eg ∙ (there_is (module_of c.program (Some m)).functions k (h.linked.table n m k en).1).1)

entered_right : (c : Code) → HasImages c → (n : ℕ) → IsWrapperOf c n (in_lines c n)
entered_right c h n = entry_lines c h n (slice_get c.program.functions n) refl (function_of c.program n) refl

-- each wrapper of a program's images has its right lines
pub images_wrap : (c : Code) → HasImages c → WrapsWell c
images_wrap c h = record { called = called_right c h; entered = entered_right c h }
