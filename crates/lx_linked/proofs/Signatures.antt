-- Calls of names have as many arguments as the called function has parameters, and expect a result only of what gives one.
use Rattle.std.proofs.Common.{◌≡◌, ℕ, zero, suc, ◌+◌, ◌<◌, Bool, true, false, not, ◌&&◌, ◌||◌, List, [], ◌∷◌, ◌++◌, length, take, get_or, Option, Some, None, refl, sym, subst, ◌∙◌, ap, arith}
use Rattle.std.specs.Prelude.{slice_get, nat_lt, is_some, option_map, option_and_then, cond, bytes_eq, codes, position}
use Rattle.std.specs.List.{list_any, position_or_len}
use Rattle.std.proofs.lemmas.Bool.Decides.{nat_tests}
use Rattle.std.proofs.lemmas.List.Quantifiers.{position-Some}
use Rattle.std.proofs.lemmas.Option.{slice_get-get_or}
use Rattle.lx_words.specs.declared.word.Width.{Width}
use Rattle.lx_words.proofs.Tests.{true_false, first_of, second_of, either_second}
use Rattle.lx_words.proofs.Options.{none_some, some_same}
use Rattle.lx_words.proofs.Lists.{same_bytes, all_got, map_length, find_placed, front_place}
use Rattle.lx_ir.specs.declared.types.Scalar.{Scalar}
use Rattle.lx_ir.specs.declared.module.Function.{Function}
use Rattle.lx_ir.specs.declared.module.Parameter.{Parameter}
use Rattle.lx_ir.specs.declared.module.Module.{Module}
use Rattle.lx_ir.specs.Layout.{width_of}
use Rattle.lx_ir.specs.Lookup.{is_defined}
use Rattle.lx_annot.specs.declared.interface.Slot.{Slot as SlotType}
use Rattle.lx_model.specs.declared.program.Program.{Program}
use Rattle.lx_model.specs.declared.program.ProgramModule.{ProgramModule}
use Rattle.lx_model.specs.Program.{Home, module_of, module_or_empty, function_of, number_of, kernel_function, native_named, native_names, native_call, slot_named, native_or_slot, kernel_import, import, own, slot, Target, ToNative, ToSlot, ToImport, ToOwn, Nowhere, target_of, target, same_widths, same_result, param_widths, result_width, declared_width, are_declared}
use Rattle.lx_link_texts.specs.Signatures.{native_result, has_native_signature, has_slot_call_signature, are_behind_pointer}
use Rattle.lx_link_texts.specs.Faults.{kernel_native, slot_called, defines, defined, is_alias, is_kernel_name, is_exported}
use Rattle.lx_link_texts.specs.WellFormed.{IsWellFormed, IsModuleOf, is_kernel_import, is_kernel_import_by, is_module_import, is_import_of}
use Rattle.lx_simulation.proofs.Elements.{all_in, any_of, in_got}
use Rattle.lx_simulation.proofs.Counting.{widths_length, declared_many, numbered_function}
use Rattle.lx_simulation.proofs.Frames.{AllVerified}
use Rattle.lx_simulation.proofs.Linking.{linked}
use Rattle.lx_linked.specs.Imports.{ImportsFit}
use Rattle.lx_linked.proofs.Standing.{found_in}
use Rattle.lx_caps.proofs.Tests.{or_chosen}

-- a program whose texts are verified, and whose imports have the signatures of what they name
pub record Linked (p : Program) : Type 0 where
  pub verified : AllVerified p
  pub fits : ImportsFit p

alias_first : (a b c : Bool) → a ≡ false → (a && b || c) ≡ true → c ≡ true
alias_first true b c e h = true_false e
alias_first false b c e h = h

alias_kept : (p : Program) (m : Module) → IsModuleOf p.kernel p.interface m → (k : ℕ) (g : Function) → slice_get m.functions k ≡ Some g → is_defined g ≡ false → is_alias g.name ≡ true → has_native_signature 5 g ≡ true
alias_kept p m w k g e d a =
    let all = all_in (is_module_import p.kernel p.interface) m.functions g w.imports (in_got m.functions k g e) in
    or_chosen (is_alias g.name) (has_native_signature 5 g) _ a (either_second (is_defined g) _ d all)

import_kept : (p : Program) (m : Module) → IsModuleOf p.kernel p.interface m → (k : ℕ) (g : Function) → slice_get m.functions k ≡ Some g → is_defined g ≡ false → is_alias g.name ≡ false → is_import_of g (defined p.kernel g.name) ≡ true
import_kept p m w k g e d a =
    let all = all_in (is_module_import p.kernel p.interface) m.functions g w.imports (in_got m.functions k g e) in
    let other = second_of (not (is_alias g.name)) _ (alias_first (is_alias g.name) (has_native_signature 5 g) _ a (either_second (is_defined g) _ d all)) in
    second_of (is_exported p.interface g.name) (is_import_of g (defined p.kernel g.name)) (second_of (not (is_kernel_name g.name)) _ other)

module_kept : (p : Program) → IsWellFormed p → (x : Option ProgramModule) (m : ℕ) → slice_get p.modules m ≡ x → (k : ℕ) (g : Function) → slice_get (module_or_empty x).functions k ≡ Some g → is_defined g ≡ false → is_alias g.name ≡ false → is_import_of g (defined p.kernel g.name) ≡ true
module_kept p w None m em k g e d a = none_some e
module_kept p w (Some x) m em k g e d a = import_kept p x.«module» (all_got (λ (y : ProgramModule). IsModuleOf p.kernel p.interface y.«module») p.modules m x w.modules em) k g e d a

module_alias : (p : Program) → IsWellFormed p → (x : Option ProgramModule) (m : ℕ) → slice_get p.modules m ≡ x → (k : ℕ) (g : Function) → slice_get (module_or_empty x).functions k ≡ Some g → is_defined g ≡ false → is_alias g.name ≡ true → has_native_signature 5 g ≡ true
module_alias p w None m em k g e d a = none_some e
module_alias p w (Some x) m em k g e d a = alias_kept p x.«module» (all_got (λ (y : ProgramModule). IsModuleOf p.kernel p.interface y.«module») p.modules m x w.modules em) k g e d a

pub imports_fit : (p : Program) → IsWellFormed p → ImportsFit p
imports_fit p w =
    record {
      kernel = λ k g e d. either_second (is_defined g) _ d (all_in (is_kernel_import p.interface) p.kernel.functions g w.kernel_imports (in_got p.kernel.functions k g e));
      modules = λ m k g e d a. module_kept p w (slice_get p.modules m) m refl k g e d a;
      alias = λ m k g e d a. module_alias p w (slice_get p.modules m) m refl k g e d a;
    }

pub linked_well : (p : Program) → IsWellFormed p → Linked p
linked_well p w = record { verified = (linked p w).verified; fits = imports_fit p w }

-- results

pub result_there : (v w : Option Width) → same_result v w ≡ true → is_some v ≡ true → is_some w ≡ true
result_there None w e h = true_false (sym h)
result_there (Some v) None e h = e
result_there (Some v) (Some w) e h = refl

pub width_there : (o : Option Scalar) → is_some o ≡ true → is_some (option_map width_of o) ≡ true
width_there None h = h
width_there (Some t) h = refl

pub scalar_there : (o : Option Scalar) → is_some (option_map width_of o) ≡ true → is_some o ≡ true
scalar_there None h = h
scalar_there (Some t) h = refl

pub same_there : (v : Option Width) (g : Function) → same_result v (result_width g) ≡ true → is_some v ≡ true → is_some g.ret ≡ true
same_there v g e h = scalar_there g.ret (result_there v (result_width g) e h)

there_same : (v : Option Width) (g : Function) → same_result v (result_width g) ≡ true → is_some g.ret ≡ true → is_some v ≡ true
there_same None g e h = absurd (no_result g.ret e h)
  where
    no_result : (o : Option Scalar) → same_result None (option_map width_of o) ≡ true → is_some o ≡ true → ⊥
    no_result None e h = true_false (sym h)
    no_result (Some t) e h = true_false (sym e)
there_same (Some v) g e h = refl

-- what a name names: how many arguments it takes, and whether it gives a result, where one is needed

-- the function takes so many arguments, and gives a result where one is needed
abbrev pub Takes : Program → Bool → ℕ → ℕ → Type 0
Takes p needs count n = (g : Function) → function_of p n ≡ Some g → (count ≡ length g.params) × (needs ≡ true → is_some g.ret ≡ true)

abbrev pub TakesSlot : Program → Bool → ℕ → ℕ → Type 0
TakesSlot p needs count s = (st : SlotType) → slice_get p.interface.slots s ≡ Some st → (count ≡ suc (length st.params)) × (needs ≡ true → is_some (declared_width st.ret) ≡ true)

abbrev pub NativeGives : Bool → ℕ → Type 0
NativeGives needs k = needs ≡ true → is_some (native_result (native_call k)) ≡ true

abbrev pub TargetTakes : Program → Bool → ℕ → Target → Type 0
TargetTakes p needs count (ToNative k) = NativeGives needs k
TargetTakes p needs count (ToSlot s) = TakesSlot p needs count s
TargetTakes p needs count (ToImport n) = Takes p needs count n
TargetTakes p needs count (ToOwn n) = Takes p needs count n
TargetTakes p needs count Nowhere = Unit {0}

native_gives : (needs : Bool) (k : ℕ) (g : Function) → has_native_signature k g ≡ true → (needs ≡ true → is_some g.ret ≡ true) → NativeGives needs k
native_gives needs k g e h n = there_same (native_result (native_call k)) g (second_of _ (same_result (native_result (native_call k)) (result_width g)) e) (h n)

own_takes : (p : Program) (needs : Bool) (h : Home) (f : ℕ) (g : Function) (n : Option ℕ) → number_of p h f ≡ n → slice_get (module_of p h).functions f ≡ Some g → (needs ≡ true → is_some g.ret ≡ true) → TargetTakes p needs (length g.params) (own n)
own_takes p needs h f g None e eg res = tt
own_takes p needs h f g (Some n) e eg res =
    λ x ex. (let same : g ≡ x = some_same (sym eg ∙ sym (numbered_function p h f n e) ∙ ex) in (ap (λ (y : Function). length y.params) same, λ h. subst (λ (y : Function). is_some y.ret ≡ true) same (res h)))

-- imports of the kernel

found_none : {A : Type 0} (p : A → Bool) (xs : List A) (k : ℕ) (b : Bool) → cond b (Some (position_or_len p xs)) None ≡ Some k → nat_lt (position_or_len p xs) (length xs) ≡ b → (b ≡ true) × (position_or_len p xs ≡ k)
found_none p xs k true e h = (refl, some_same e)
found_none p xs k false e h = none_some e

place_of : {A : Type 0} (p : A → Bool) (xs : List A) (k : ℕ) → position p xs ≡ Some k → (position_or_len p xs < length xs) × (position_or_len p xs ≡ k)
place_of p xs k e =
    let f = found_none p xs k (nat_lt (position_or_len p xs) (length xs)) e refl in
    (true_less (position_or_len p xs) (length xs) f.0, f.1)
  where
    true_less : (m n : ℕ) → nat_lt m n ≡ true → m < n
    true_less m n e = grind (arith, nat_tests, e)

longer : {A : Type 0} (xs : List A) (n k : ℕ) → k < length (take n xs) → k < length xs
longer xs zero k l = absurd (omega (arith, l))
longer [] (suc n) k l = absurd (omega (arith, l))
longer (x ∷ xs) (suc n) zero l = omega arith
longer (x ∷ xs) (suc n) (suc k) l = let r : k < length xs = longer xs n k (omega (arith, l)) in omega (arith, r)

front_position : {A : Type 0} (p : A → Bool) (xs : List A) (n k : ℕ) → position p (take n xs) ≡ Some k → position p xs ≡ Some k
front_position p xs n k e =
    let f = place_of p (take n xs) k e in
    let at : position_or_len p xs ≡ k = front_place p xs n f.0 ∙ f.1 in
    let l : position_or_len p xs < length xs = subst (λ (i : ℕ). i < length xs) (sym (front_place p xs n f.0)) (longer xs n (position_or_len p (take n xs)) f.0) in
    grind (arith, l, at)

native_place : (name : List ℕ) (k : ℕ) → kernel_native name ≡ Some k → native_named name ≡ Some k
native_place name k e = front_position (bytes_eq name) native_names 5 k e

-- no native is named as a slot's call is
slot_or_native : (name : List ℕ) → list_any (bytes_eq (codes "k.slot." ++ name)) native_names ≡ false
slot_or_native name = refl

named_native : (name : List ℕ) (k : ℕ) → native_named name ≡ Some k → list_any (bytes_eq name) native_names ≡ true
named_native name k e =
    let f = position-Some (bytes_eq name) native_names k [] e in
    any_of (bytes_eq name) native_names (get_or native_names k []) (in_got native_names k (get_or native_names k []) (slice_get-get_or native_names k [] f.0)) f.1

not_both : {A : Type 0} (p : Program) (name : List ℕ) (s : SlotType) (k : ℕ) → slot_called p.interface name ≡ Some s → native_named name ≡ Some k → A
not_both p name s k es en =
    let f = found_in (λ (t : SlotType). bytes_eq (codes "k.slot." ++ t.name) name) p.interface.slots s es in
    true_false (sym (named_native name k en) ∙ (ap (λ (n : List ℕ). list_any (bytes_eq n) native_names) (sym (same_bytes (codes "k.slot." ++ s.name) name f.1)) ∙ slot_or_native s.name))

behind_many : (st : SlotType) (g : Function) → are_behind_pointer st.params (param_widths g) ≡ true → length g.params ≡ suc (length st.params)
behind_many st g e = sym (map_length (λ (x : Parameter). width_of x.ty) g.params) ∙ by_widths (param_widths g) e
  where
    by_widths : (ws : List Width) → are_behind_pointer st.params ws ≡ true → length ws ≡ suc (length st.params)
    by_widths [] e = true_false (sym e)
    by_widths (w ∷ ws) e = ap suc (declared_many st.params ws (second_of _ (are_declared st.params ws) e))

slot_takes : (p : Program) (needs : Bool) (g : Function) (st : SlotType) → has_slot_call_signature st g ≡ true → (needs ≡ true → is_some g.ret ≡ true) → (length g.params ≡ suc (length st.params)) × (needs ≡ true → is_some (declared_width st.ret) ≡ true)
slot_takes p needs g st e res = (
  behind_many st g (first_of (are_behind_pointer st.params (param_widths g)) _ e),
  λ h. there_same (declared_width st.ret) g (second_of _ (same_result (declared_width st.ret) (result_width g)) e) (res h),
)

native_by : (p : Program) (needs : Bool) (g : Function) (k : ℕ) (n : Option ℕ) (t : Option SlotType) → native_named g.name ≡ Some k → kernel_native g.name ≡ n → slot_called p.interface g.name ≡ t → is_kernel_import_by g n t ≡ true → (needs ≡ true → is_some g.ret ≡ true) → NativeGives needs k
native_by p needs g k (Some j) t ek en et h res = subst (NativeGives needs) (some_same (sym (native_place g.name j en) ∙ ek)) (native_gives needs j g h res)
native_by p needs g k None (Some s) ek en et h res = not_both p g.name s k et ek
native_by p needs g k None None ek en et h res = true_false (sym h)

slot_by : (p : Program) (needs : Bool) (g : Function) (st : SlotType) (n : Option ℕ) (t : Option SlotType) → native_named g.name ≡ None → kernel_native g.name ≡ n → t ≡ Some st → is_kernel_import_by g n t ≡ true → (needs ≡ true → is_some g.ret ≡ true) →
    (length g.params ≡ suc (length st.params)) × (needs ≡ true → is_some (declared_width st.ret) ≡ true)
slot_by p needs g st (Some j) t ek en et h res = none_some (sym ek ∙ native_place g.name j en)
slot_by p needs g st None None ek en et h res = none_some et
slot_by p needs g st None (Some s) ek en et h res = subst (λ (x : SlotType). (length g.params ≡ suc (length x.params)) × (needs ≡ true → is_some (declared_width x.ret) ≡ true)) (some_same et) (slot_takes p needs g s h res)

named_slot : (p : Program) (needs : Bool) (g : Function) (s : Option ℕ) → slot_named p g.name ≡ s → native_named g.name ≡ None → is_kernel_import_by g (kernel_native g.name) (slot_called p.interface g.name) ≡ true → (needs ≡ true → is_some g.ret ≡ true) → TargetTakes p needs (length g.params) (slot s)
named_slot p needs g None es ek h res = tt
named_slot p needs g (Some s) es ek h res =
    λ st et. slot_by p needs g st (kernel_native g.name) (slot_called p.interface g.name) ek refl (find_placed (λ (t : SlotType). bytes_eq (codes "k.slot." ++ t.name) g.name) p.interface.slots s es ∙ et) h res

kernel_by : (p : Program) (needs : Bool) (g : Function) (k : Option ℕ) → native_named g.name ≡ k → is_kernel_import_by g (kernel_native g.name) (slot_called p.interface g.name) ≡ true → (needs ≡ true → is_some g.ret ≡ true) → TargetTakes p needs (length g.params) (native_or_slot k (slot_named p g.name))
kernel_by p needs g (Some k) ek h res = native_by p needs g k (kernel_native g.name) (slot_called p.interface g.name) ek refl refl h res
kernel_by p needs g None ek h res = named_slot p needs g (slot_named p g.name) refl ek h res

-- imports of modules

import_takes : (p : Program) (needs : Bool) (g : Function) (n : ℕ) (o : Option Function) → function_of p n ≡ o → is_import_of g o ≡ true → (needs ≡ true → is_some g.ret ≡ true) → Takes p needs (length g.params) n
import_takes p needs g n None en h res x ex = true_false (sym h)
import_takes p needs g n (Some y) en h res x ex =
    let same : y ≡ x = some_same (sym en ∙ ex) in
    let widths : length g.params ≡ length y.params = sym (map_length (λ (z : Parameter). width_of z.ty) g.params) ∙ (widths_length (param_widths g) (param_widths y) (first_of (same_widths (param_widths g) (param_widths y)) _ h) ∙ map_length (λ (z : Parameter). width_of z.ty) y.params) in (
      widths ∙ ap (λ (z : Function). length z.params) same,
      λ need. subst (λ (z : Function). is_some z.ret ≡ true) same (same_there (result_width g) y (second_of _ (same_result (result_width g) (result_width y)) h) (width_there g.ret (res need))),
    )

numbered_by : (p : Program) (needs : Bool) (g : Function) (j : ℕ) (n : Option ℕ) → position (defines g.name) p.kernel.functions ≡ Some j → number_of p None j ≡ n → is_import_of g (defined p.kernel g.name) ≡ true → (needs ≡ true → is_some g.ret ≡ true) → TargetTakes p needs (length g.params) (kernel_import n)
numbered_by p needs g j None ej en h res = tt
numbered_by p needs g j (Some n) ej en h res =
    import_takes p needs g n (defined p.kernel g.name) (numbered_function p None j n en ∙ sym (find_placed (defines g.name) p.kernel.functions j ej)) h res

placed_by : (p : Program) (needs : Bool) (g : Function) (j : Option ℕ) → position (defines g.name) p.kernel.functions ≡ j → is_import_of g (defined p.kernel g.name) ≡ true → (needs ≡ true → is_some g.ret ≡ true) → TargetTakes p needs (length g.params) (kernel_import (option_and_then (number_of p None) j))
placed_by p needs g None ej h res = tt
placed_by p needs g (Some j) ej h res = numbered_by p needs g j (number_of p None j) ej refl h res

module_by : (p : Program) → Linked p → (needs : Bool) (m k : ℕ) (g : Function) (b : Bool) → slice_get (module_of p (Some m)).functions k ≡ Some g → is_defined g ≡ false → is_alias g.name ≡ b → (needs ≡ true → is_some g.ret ≡ true) →
    TargetTakes p needs (length g.params) (cond b (ToNative 5) (kernel_import (kernel_function p g.name)))
module_by p l needs m k g true eg ed eb res = native_gives needs 5 g (l.fits.alias m k g eg ed eb) res
module_by p l needs m k g false eg ed eb res = placed_by p needs g (position (defines g.name) p.kernel.functions) refl (l.fits.modules m k g eg ed eb) res

imports_take : (p : Program) → Linked p → (needs : Bool) (h : Home) (k : ℕ) (g : Function) → slice_get (module_of p h).functions k ≡ Some g → is_defined g ≡ false → (needs ≡ true → is_some g.ret ≡ true) → TargetTakes p needs (length g.params) (import p h g.name)
imports_take p l needs None k g eg ed res = kernel_by p needs g (native_named g.name) refl (l.fits.kernel k g eg ed) res
imports_take p l needs (Some m) k g eg ed res = module_by p l needs m k g (is_alias g.name) eg ed refl res

defined_by : (p : Program) → Linked p → (needs : Bool) (h : Home) (k : ℕ) (g : Function) (b : Bool) → slice_get (module_of p h).functions k ≡ Some g → is_defined g ≡ b → (needs ≡ true → is_some g.ret ≡ true) → TargetTakes p needs (length g.params) (cond b (own (number_of p h k)) (import p h g.name))
defined_by p l needs h k g true eg ed res = own_takes p needs h k g (number_of p h k) refl eg res
defined_by p l needs h k g false eg ed res = imports_take p l needs h k g eg ed res

pub target_takes : (p : Program) → Linked p → (needs : Bool) (h : Home) (k : ℕ) (g : Function) → slice_get (module_of p h).functions k ≡ Some g → (needs ≡ true → is_some g.ret ≡ true) → TargetTakes p needs (length g.params) (target p h k)
target_takes p l needs h k g eg res =
    subst (λ (o : Option Function). TargetTakes p needs (length g.params) (target_of p h k o)) (sym eg) (defined_by p l needs h k g (is_defined g) eg refl res)
