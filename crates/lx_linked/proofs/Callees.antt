-- What a called name names takes the arguments of the call, and gives its result.
use Rattle.std.proofs.Common.{◌≡◌, ℕ, zero, suc, ◌+◌, ◌<◌, Bool, true, false, not, ◌&&◌, ◌||◌, List, [], ◌∷◌, ◌++◌, length, take, get_or, Option, Some, None, refl, sym, subst, ◌∙◌, ap, arith}
use Rattle.std.specs.Prelude.{slice_get, bytes_eq, position, codes, cond, option_and_then, unwrap_or}
use Rattle.std.specs.List.{position_or_len}
use Rattle.std.proofs.lemmas.List.Quantifiers.{position-Some}
use Rattle.std.proofs.lemmas.Option.{slice_get-get_or}
use Rattle.lx_words.specs.declared.word.Width.{Width}
use Rattle.lx_words.proofs.Tests.{true_false, first_of, second_of, either_second}
use Rattle.lx_words.proofs.Options.{none_some, some_same}
use Rattle.lx_words.proofs.Lists.{same_bytes, all_got, find_placed, found_is, position_is, front_place, placed}
use Rattle.lx_caps.specs.declared.Principal.{Principal}
use Rattle.lx_caps.specs.declared.Principal.TheVariants.{Kernel, Shared, Global, Inst}
use Rattle.lx_ir.specs.declared.module.Function.{Function}
use Rattle.lx_ir.specs.Lookup.{is_defined}
use Rattle.lx_annot.specs.declared.interface.Slot.{Slot as SlotType}
use Rattle.lx_model.specs.declared.program.Program.{Program}
use Rattle.lx_model.specs.declared.program.ProgramModule.{ProgramModule}
use Rattle.lx_model.specs.declared.program.ProgramFunction.{ProgramFunction}
use Rattle.lx_model.specs.declared.program.ProgramFunction.TheVariants.{Native, Of}
use Rattle.lx_model.specs.Program.{Home, NativeCall, AliasPrincipal, native_call, native_names, native_named, slot_named, kernel_function, home_of, home_of_entry, home_or_kernel, function_of, function_of_entry, is_entry, is_home, is_in, number_of, module_of, module_or_empty, same_widths, same_result, param_widths, result_width, declared_width, Target, ToNative, ToSlot, ToImport, ToOwn, Nowhere, own, slot, native_or_slot, kernel_import, import, target_of, target}
use Rattle.lx_model.specs.Enter.{text_of_principal}
use Rattle.lx_model.specs.Fits.{FitsPrincipal, native_widths}
use Rattle.lx_link_texts.specs.Signatures.{are_behind_pointer, has_native_signature, has_slot_call_signature, have_same_signature, native_result}
use Rattle.lx_link_texts.specs.Faults.{defined, is_alias, is_exported, is_kernel_name, kernel_native, slot_called}
use Rattle.lx_link_texts.specs.WellFormed.{IsModuleOf, IsWellFormed, is_import_of, is_kernel_import, is_kernel_import_by, is_module_import}
use Rattle.lx_simulation.proofs.Elements.{all_in, in_got}
use Rattle.lx_simulation.proofs.Linking.{linked}
use Rattle.lx_linked.proofs.Functions.{Known, known}
use Rattle.lx_linked.proofs.Widths.{widths_are, result_is}
use Rattle.lx_caps.proofs.Tests.{or_chosen}
use Rattle.lx_simulation.proofs.Frames.{entry_function}
use Rattle.lx_simulation.proofs.Counting.{entry_is}

-- the text of a function

entry_home : (p : Program) (e : Option ProgramFunction) (f : Function) → function_of_entry p e ≡ Some f → home_of_entry e ≡ Some (unwrap_or (home_of_entry e) None)
entry_home p None f e = none_some e
entry_home p (Some (Native k)) f e = none_some e
entry_home p (Some (Of h k)) f e = refl

-- a function that is there is of a text
pub home_there : (p : Program) (n : ℕ) (f : Function) → function_of p n ≡ Some f → home_of p n ≡ Some (home_or_kernel p n)
home_there p n f e = entry_home p (slice_get p.functions n) f e

pub known_at : (p : Program) → IsWellFormed p → (n : ℕ) (g : Function) → function_of p n ≡ Some g → Known (module_of p (home_or_kernel p n)) g
known_at p w n g e = known (module_of p (home_or_kernel p n)) g ((linked p w).verified (home_or_kernel p n)) (entry_function p (slice_get p.functions n) g e)

entry_of : (e : Option ProgramFunction) (m : ℕ) → home_of_entry e ≡ Some (Some m) → (f : ℕ) × (e ≡ Some (Of (Some m) f))
entry_of None m e = none_some e
entry_of (Some (Native k)) m e = none_some e
entry_of (Some (Of h f)) m e = (f, ap (λ (x : Home). Some (Of x f)) (some_same e))

module_there : (p : Program) → IsWellFormed p → (n m : ℕ) (f : Function) → function_of p n ≡ Some f → Some m ≡ home_or_kernel p n → m < length p.modules
module_there p w n m f e h =
    let entry = entry_of (slice_get p.functions n) m (home_there p n f e ∙ ap (λ (x : Home). Some x) (sym h)) in
    ((linked p w).table n m entry.0 entry.1).0

-- a function's principal is one of the program
pub principal_there : (p : Program) → IsWellFormed p → (q : Principal) (n : ℕ) (f : Function) → function_of p n ≡ Some f → text_of_principal q ≡ home_or_kernel p n → FitsPrincipal p q
principal_there p w Kernel n f e h = tt
principal_there p w (Shared m) n f e h = module_there p w n m f e h
principal_there p w (Global m) n f e h = module_there p w n m f e h
principal_there p w (Inst m k) n f e h = module_there p w n m f e h

-- numbers

numbered : (p : Program) (h : Home) (f n : ℕ) → number_of p h f ≡ Some n → slice_get p.functions n ≡ Some (Of h f)
numbered p h f n e =
    let found = position-Some (is_entry h f) p.functions n (Native 0) e in
    slice_get-get_or p.functions n (Native 0) found.0 ∙ ap (λ (x : ProgramFunction). Some x) (entry_is h f (get_or p.functions n (Native 0)) found.1)

less_suc : (a b : ℕ) → 1 + a < suc b → a < b
less_suc a b h = omega (arith, h)

front_cases : {A : Type 0} (p : A → Bool) (x : A) (xs : List A) (n : ℕ) (b : Bool) → (position_or_len p (take n xs) < length (take n xs) → position_or_len p xs ≡ position_or_len p (take n xs)) →
    cond (not b) (1 + position_or_len p (take n xs)) 0 < suc (length (take n xs)) → cond (not b) (1 + position_or_len p xs) 0 ≡ cond (not b) (1 + position_or_len p (take n xs)) 0
front_cases p x xs n true ih l = refl
front_cases p x xs n false ih l = ap (λ (k : ℕ). 1 + k) (ih (less_suc _ _ l))

-- the natives

-- a native of the kernel's is the native of that number, and not the last
native_is : (name : List ℕ) (k : ℕ) → kernel_native name ≡ Some k → (native_named name ≡ Some k) × (k < 5)
native_is name k e =
    let at = placed (bytes_eq name) (take 5 native_names) k e in
    let few : k < 5 = subst (λ (n : ℕ). n < 5) at.0 at.1 in
    (position_is (bytes_eq name) native_names k (front_place (bytes_eq name) native_names 5 at.1 ∙ at.0) (omega (arith, few)), few)

slot_front : (x : List ℕ) (k : ℕ) → k < 6 → bytes_eq (codes "k.slot." ++ x) (get_or native_names k []) ≡ true → ⊥
slot_front x zero l e = true_false (sym e)
slot_front x (suc zero) l e = true_false (sym e)
slot_front x (suc (suc zero)) l e = true_false (sym e)
slot_front x (suc (suc (suc zero))) l e = true_false (sym e)
slot_front x (suc (suc (suc (suc zero)))) l e = true_false (sym e)
slot_front x (suc (suc (suc (suc (suc zero))))) l e = true_false (sym e)
slot_front x (suc (suc (suc (suc (suc (suc k)))))) l e = omega (arith, l)

-- a slot's name is no native's
slot_is_none : (name x : List ℕ) (n : Option ℕ) → native_named name ≡ n → bytes_eq (codes "k.slot." ++ x) name ≡ true → n ≡ None
slot_is_none name x None en e = refl
slot_is_none name x (Some k) en e =
    let found = position-Some (bytes_eq name) native_names k [] en in
    absurd (slot_front x k found.0 (ap (λ (y : List ℕ). bytes_eq y (get_or native_names k [])) (same_bytes (codes "k.slot." ++ x) name e) ∙ found.1))

-- what a name names

-- the alias is for modules alone
abbrev pub MayCallFrom : Home → NativeCall → Type 0
MayCallFrom None AliasPrincipal = ⊥
MayCallFrom h n = Unit {0}

-- a function of these parameters and this result
abbrev pub IsOf : Program → List Width → Option Width → ℕ → Type 0
IsOf p ws res n = (f : Function) × (function_of p n ≡ Some f) × (ws ≡ param_widths f) × (res ≡ result_width f)

abbrev pub TargetFits : Program → Home → List Width → Option Width → Target → Type 0
TargetFits p h ws res (ToNative k) = (k < 6) × (ws ≡ native_widths (native_call k)) × (res ≡ native_result (native_call k)) × MayCallFrom h (native_call k)
TargetFits p h ws res (ToSlot s) = (t : SlotType) × (slice_get p.interface.slots s ≡ Some t) × (are_behind_pointer t.params ws ≡ true) × (declared_width t.ret ≡ res)
TargetFits p h ws res (ToImport n) = (is_in p None n ≡ true) × IsOf p ws res n
TargetFits p h ws res (ToOwn n) = (home_or_kernel p n ≡ h) × IsOf p ws res n
TargetFits p h ws res Nowhere = Unit {0}

own_fits : (p : Program) (h : Home) (k : ℕ) (g : Function) (n : Option ℕ) → number_of p h k ≡ n → slice_get (module_of p h).functions k ≡ Some g → TargetFits p h (param_widths g) (result_width g) (own n)
own_fits p h k g None e eg = tt
own_fits p h k g (Some n) e eg =
    let at = numbered p h k n e in
    (ap (λ (x : Option ProgramFunction). unwrap_or (home_of_entry x) None) at, (g, ap (function_of_entry p) at ∙ eg, refl, refl))

-- the kernel's imports

few_callers : (k : ℕ) → k < 5 → MayCallFrom None (native_call k)
few_callers zero l = tt
few_callers (suc zero) l = tt
few_callers (suc (suc zero)) l = tt
few_callers (suc (suc (suc zero))) l = tt
few_callers (suc (suc (suc (suc zero)))) l = tt
few_callers (suc (suc (suc (suc (suc n))))) l = absurd (omega (arith, l))

native_fits : (p : Program) (h : Home) (k : ℕ) (g : Function) → k < 6 → MayCallFrom h (native_call k) → has_native_signature k g ≡ true → TargetFits p h (param_widths g) (result_width g) (ToNative k)
native_fits p h k g l may e = (
  l,
  sym (widths_are (native_widths (native_call k)) (param_widths g) (first_of (same_widths (native_widths (native_call k)) (param_widths g)) (same_result (native_result (native_call k)) (result_width g)) e)),
  sym (result_is (native_result (native_call k)) (result_width g) (second_of (same_widths (native_widths (native_call k)) (param_widths g)) (same_result (native_result (native_call k)) (result_width g)) e)),
  may,
)

slot_fits : (p : Program) (g : Function) (t : SlotType) (s : Option ℕ) → slot_named p g.name ≡ s → slot_called p.interface g.name ≡ Some t → has_slot_call_signature t g ≡ true → TargetFits p None (param_widths g) (result_width g) (slot s)
slot_fits p g t None es et e = tt
slot_fits p g t (Some s) es et e = (
  t,
  sym (find_placed (λ (x : SlotType). bytes_eq (codes "k.slot." ++ x.name) g.name) p.interface.slots s es) ∙ et,
  first_of (are_behind_pointer t.params (param_widths g)) (same_result (declared_width t.ret) (result_width g)) e,
  result_is (declared_width t.ret) (result_width g) (second_of (are_behind_pointer t.params (param_widths g)) (same_result (declared_width t.ret) (result_width g)) e),
)

one_more : (k : ℕ) → k < 5 → k < 6
one_more k l = omega (arith, l)

kernel_fits : (p : Program) (g : Function) (k : Option ℕ) (t : Option SlotType) → kernel_native g.name ≡ k → slot_called p.interface g.name ≡ t → is_kernel_import_by g k t ≡ true →
    TargetFits p None (param_widths g) (result_width g) (native_or_slot (native_named g.name) (slot_named p g.name))
kernel_fits p g (Some k) t ek et e =
    let n = native_is g.name k ek in
    subst (λ (o : Option ℕ). TargetFits p None (param_widths g) (result_width g) (native_or_slot o (slot_named p g.name))) (sym n.0) (native_fits p None k g (one_more k n.1) (few_callers k n.1) e)
kernel_fits p g None (Some t) ek et e =
    let named : bytes_eq (codes "k.slot." ++ t.name) g.name ≡ true = found_is (λ (x : SlotType). bytes_eq (codes "k.slot." ++ x.name) g.name) p.interface.slots t et in
    subst (λ (o : Option ℕ). TargetFits p None (param_widths g) (result_width g) (native_or_slot o (slot_named p g.name))) (sym (slot_is_none g.name t.name (native_named g.name) refl named))
    (slot_fits p g t (slot_named p g.name) refl et e)
kernel_fits p g None None ek et e = true_false (sym e)

-- a module's imports

import_at : (p : Program) (g f : Function) (k n : Option ℕ) → position (λ (x : Function). is_defined x && bytes_eq x.name g.name) p.kernel.functions ≡ k → defined p.kernel g.name ≡ Some f → have_same_signature g f ≡ true →
    option_and_then (number_of p None) k ≡ n → (m : ℕ) → TargetFits p (Some m) (param_widths g) (result_width g) (kernel_import n)
import_at p g f k None ek ef e en m = tt
import_at p g f None (Some n) ek ef e en m = none_some en
import_at p g f (Some k) (Some n) ek ef e en m =
    let at = numbered p None k n en in
    let got : slice_get p.kernel.functions k ≡ Some f = sym (find_placed (λ (x : Function). is_defined x && bytes_eq x.name g.name) p.kernel.functions k ek) ∙ ef in (
      ap (λ (x : Option ProgramFunction). is_home None (home_of_entry x)) at,
      (
        f,
        ap (function_of_entry p) at ∙ got,
        widths_are (param_widths g) (param_widths f) (first_of (same_widths (param_widths g) (param_widths f)) (same_result (result_width g) (result_width f)) e),
        result_is (result_width g) (result_width f) (second_of (same_widths (param_widths g) (param_widths f)) (same_result (result_width g) (result_width f)) e),
      ),
    )

exported_by : (p : Program) (g : Function) (m : ℕ) (f : Option Function) → defined p.kernel g.name ≡ f → is_import_of g f ≡ true → TargetFits p (Some m) (param_widths g) (result_width g) (kernel_import (kernel_function p g.name))
exported_by p g m None ef e = true_false (sym e)
exported_by p g m (Some f) ef e =
    import_at p g f (position (λ (x : Function). is_defined x && bytes_eq x.name g.name) p.kernel.functions) (kernel_function p g.name) refl ef e refl m

alias_second : (a n k : Bool) → a ≡ false → (a && n || not a && k) ≡ true → k ≡ true
alias_second true n k ea e = true_false ea
alias_second false n k ea e = e

module_fits : (p : Program) (g : Function) (m : ℕ) (b : Bool) → is_alias g.name ≡ b →
    (is_alias g.name && has_native_signature 5 g || not (is_alias g.name) && (not (is_kernel_name g.name) && (is_exported p.interface g.name && is_import_of g (defined p.kernel g.name)))) ≡ true →
    TargetFits p (Some m) (param_widths g) (result_width g) (cond b (ToNative 5) (kernel_import (kernel_function p g.name)))
module_fits p g m true ea e = native_fits p (Some m) 5 g (omega arith) tt (or_chosen (is_alias g.name) (has_native_signature 5 g) _ ea e)
module_fits p g m false ea e =
    let further = alias_second (is_alias g.name) (has_native_signature 5 g) _ ea e in
    exported_by p g m (defined p.kernel g.name) refl (second_of (is_exported p.interface g.name) _ (second_of (not (is_kernel_name g.name)) _ further))

of_module : (p : Program) → IsWellFormed p → (m k : ℕ) (g : Function) (x : Option ProgramModule) → slice_get p.modules m ≡ x → slice_get (module_or_empty x).functions k ≡ Some g → is_defined g ≡ false →
    TargetFits p (Some m) (param_widths g) (result_width g) (cond (is_alias g.name) (ToNative 5) (kernel_import (kernel_function p g.name)))
of_module p w m k g None ex eg ed = none_some eg
of_module p w m k g (Some x) ex eg ed =
    let of = all_got (λ (y : ProgramModule). IsModuleOf p.kernel p.interface y.«module») p.modules m x w.modules ex in
    module_fits p g m (is_alias g.name) refl
    (either_second (is_defined g) _ ed (all_in (is_module_import p.kernel p.interface) x.«module».functions g of.imports (in_got x.«module».functions k g eg)))

import_fits : (p : Program) → IsWellFormed p → (h : Home) (k : ℕ) (g : Function) → slice_get (module_of p h).functions k ≡ Some g → is_defined g ≡ false → TargetFits p h (param_widths g) (result_width g) (import p h g.name)
import_fits p w None k g eg ed =
    kernel_fits p g (kernel_native g.name) (slot_called p.interface g.name) refl refl
    (either_second (is_defined g) _ ed (all_in (is_kernel_import p.interface) p.kernel.functions g w.kernel_imports (in_got p.kernel.functions k g eg)))
import_fits p w (Some m) k g eg ed = of_module p w m k g (slice_get p.modules m) refl eg ed

defined_fits : (p : Program) → IsWellFormed p → (h : Home) (k : ℕ) (g : Function) (b : Bool) → is_defined g ≡ b → slice_get (module_of p h).functions k ≡ Some g →
    TargetFits p h (param_widths g) (result_width g) (cond b (own (number_of p h k)) (import p h g.name))
defined_fits p w h k g true ed eg = own_fits p h k g (number_of p h k) refl eg
defined_fits p w h k g false ed eg = import_fits p w h k g eg ed

pub target_fits : (p : Program) → IsWellFormed p → (h : Home) (k : ℕ) (g : Function) → slice_get (module_of p h).functions k ≡ Some g → TargetFits p h (param_widths g) (result_width g) (target p h k)
target_fits p w h k g eg = subst (λ (o : Option Function). TargetFits p h (param_widths g) (result_width g) (target_of p h k o)) (sym eg) (defined_fits p w h k g (is_defined g) refl eg)
