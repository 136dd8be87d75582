-- Texts without a fault make a well-formed program.
use Rattle.std.proofs.Common.{◌≡◌, ℕ, zero, suc, ◌+◌, ◌<◌, Bool, true, false, ◌&&◌, ◌||◌, not, Option, Some, None, List, [], ◌∷◌, length, get_or, nat_le, refl, ap, sym, subst, ◌∙◌, arith, leb-true}
use Rattle.std.specs.Prelude.{All, slice_get, if◌then◌else◌, IsTrue}
use Rattle.std.specs.List.{list_all, AllPass}
use Rattle.std.specs.Option.{option_or}
use Rattle.std.proofs.lemmas.List.Sums.{AllPass-from_list_all}
use Rattle.std.proofs.lemmas.Bool.{and_from}
use Rattle.lx_words.proofs.Options.{first_none, rest_none}
use Rattle.lx_ir.specs.declared.module.Function.{Function}
use Rattle.lx_ir.specs.declared.module.Module.{Module}
use Rattle.lx_ir.specs.declared.module.GlobalVar.{GlobalVar}
use Rattle.lx_ir.specs.Faults.{first_some}
use Rattle.lx_ir.specs.Lawful.{IsLawful, is_lawful_global, is_lawful_init, is_name, nesting_of_init}
use Rattle.lx_ir.specs.Layout.{is_lawful_type}
use Rattle.lx_ir.specs.Lookup.{is_defined}
use Rattle.lx_ir.specs.Verified.{IsVerified}
use Rattle.lx_annot.specs.declared.interface.Slot.{Slot}
use Rattle.lx_annot.specs.declared.interface.Export.{Export}
use Rattle.lx_annot.specs.declared.interface.Interface.{Interface}
use Rattle.lx_slot_types.specs.declared.Marked.{Marked}
use Rattle.lx_propagate.specs.Slots.{annotated_of}
use Rattle.lx_model.specs.declared.program.ProgramModule.{ProgramModule}
use Rattle.lx_link_texts.specs.declared.fault.FaultKind.TheVariants.{Missing, Unannotated, SignatureDiffers}
use Rattle.lx_link_texts.specs.declared.fault.Source.{Source}
use Rattle.lx_link_texts.specs.declared.fault.Source.TheVariants as source
use Rattle.lx_link_texts.specs.declared.sources.Sources.{Sources}
use Rattle.lx_model.specs.Program.{has_slot_signature}
use Rattle.lx_link_texts.specs.Signatures.{has_export_signature, has_slot_call_signature, has_native_signature, have_same_signature}
use Rattle.lx_link_texts.specs.Placing.{HasLimits, HasLawfulGlobals, functions_of, globals_end, last_end, program_of}
use Rattle.lx_link_texts.specs.Faults.{Fault, fault, fault_of, fault_unless, first_module, calls_indirectly, kernel_call_fault, defined, export_fault, export_fault_by, kernel_native, slot_called, kernel_import_fault, kernel_import_fault_by, is_alias, is_kernel_name, is_exported, import_fault_by, module_import_fault, imports_fault, slot_fault, slot_fault_by, slots_fault, text_fault, limit_fault, functions_fault, globals_fault, most_functions}
use Rattle.lx_link_texts.specs.WellFormed.{IsWellFormed, IsModuleOf, is_export_of, is_exported_well, is_kernel_import_by, is_kernel_import, is_import_of, is_module_import, has_slot_of, is_marked_well}
use Rattle.lx_link_texts.specs.Laws.{AreSound, AreWellFormed, VerifiedHaveLimits}

-- No fault in a row of passes.

pub passes : (b : Bool) (x : Fault) → fault_unless b x ≡ None → b ≡ true
passes true x h = refl
passes false x h = absurd (cc)

all_pass : {A : Type 0} (f : A → Option Fault) (p : A → Bool) (xs : List A) → ((x : A) → f x ≡ None → p x ≡ true) → first_some f xs ≡ None → list_all p xs ≡ true
all_pass f p [] g h = refl
all_pass f p (x ∷ xs) g h =
    and_from (p x) (list_all p xs) (g x (first_none (f x) (first_some f xs) h)) (all_pass f p xs g (rest_none (f x) (first_some f xs) h))

each_module : (f : ℕ → Module → Option Fault) (P : Module → Type 0) (n : ℕ) (ms : List ProgramModule) → ((k : ℕ) (m : Module) → f k m ≡ None → P m) → first_module f n ms ≡ None → All (λ (m : ProgramModule). P m.«module») ms
each_module f P n [] g h k d less = absurd (omega (arith, less))
each_module f P n (m ∷ ms) g h zero d less = g n m.«module» (first_none (f n m.«module») (first_module f (n + 1) ms) h)
each_module f P n (m ∷ ms) g h (suc k) d less = each_module f P (n + 1) ms g (rest_none (f n m.«module») (first_module f (n + 1) ms) h) k d (omega (arith, less))

-- Each pass.

call_well : (f : Function) → kernel_call_fault f ≡ None → not (calls_indirectly f) ≡ true
call_well f h = passes (not (calls_indirectly f)) _ h

export_by : (e : Export) (o : Option Function) → export_fault_by e o ≡ None → is_export_of e o ≡ true
export_by e None h = absurd (cc)
export_by e (Some f) h = passes (has_export_signature e f) _ h

export_well : (kernel : Module) (e : Export) → export_fault kernel e ≡ None → is_exported_well kernel e ≡ true
export_well kernel e h = export_by e (defined kernel e.name) h

kernel_import_by : (f : Function) (k : Option ℕ) (s : Option Slot) → kernel_import_fault_by f k s ≡ None → is_kernel_import_by f k s ≡ true
kernel_import_by f (Some k) s h = passes (has_native_signature k f) _ h
kernel_import_by f None (Some s) h = passes (has_slot_call_signature s f) _ h
kernel_import_by f None None h = absurd (cc)

unless_defined : (b c : Bool) (x : Option Fault) → (x ≡ None → c ≡ true) → (if b then None else x) ≡ None → (b || c) ≡ true
unless_defined true c x g h = refl
unless_defined false c x g h = g h

kernel_import_well : (i : Interface) (f : Function) → kernel_import_fault i f ≡ None → is_kernel_import i f ≡ true
kernel_import_well i f h =
    unless_defined (is_defined f) (is_kernel_import_by f (kernel_native f.name) (slot_called i f.name)) _
    (λ g. kernel_import_by f (kernel_native f.name) (slot_called i f.name) g) h

import_of : (s : Source) (f : Function) (o : Option Function) (e : Bool) (i : Interface) → is_exported i f.name ≡ e → import_fault_by i s f o ≡ None → (e && is_import_of f o) ≡ true
import_of s f None e i is h = absurd (cc)
import_of s f (Some g) true i is h =
    passes (have_same_signature f g) _ (subst (λ b. (if b then fault_unless (have_same_signature f g) (fault_of SignatureDiffers s f) else Some (fault_of Unannotated s f)) ≡ None) is h)
import_of s f (Some g) false i is h =
    let never : Some (fault_of Unannotated s f) ≡ None = subst (λ b. (if b then fault_unless (have_same_signature f g) (fault_of SignatureDiffers s f) else Some (fault_of Unannotated s f)) ≡ None) is h in
    absurd (cc)

alias_or : (a k n e : Bool) (x y : Fault) (o : Option Fault) → (o ≡ None → e ≡ true) → (if a then fault_unless n x else if k then Some y else o) ≡ None → (a && n || not a && (not k && e)) ≡ true
alias_or true true true e x y o g h = refl
alias_or true true false e x y o g h = absurd (cc)
alias_or true false true e x y o g h = refl
alias_or true false false e x y o g h = absurd (cc)
alias_or false true n e x y o g h = absurd (cc)
alias_or false false n e x y o g h = g h

import_well : (kernel : Module) (i : Interface) (s : Source) (f : Function) → module_import_fault kernel i s f ≡ None → is_module_import kernel i f ≡ true
import_well kernel i s f h =
    unless_defined (is_defined f) _ _
    (λ g. alias_or (is_alias f.name) (is_kernel_name f.name) (has_native_signature 5 f) (is_exported i f.name && is_import_of f (defined kernel f.name)) _ _ (import_fault_by i s f (defined kernel f.name))
    (λ q. import_of s f (defined kernel f.name) (is_exported i f.name) i refl q) g) h

slot_by : (s : Source) (t : Option Slot) (f : Option Function) → slot_fault_by s t f ≡ None → has_slot_of t f ≡ true
slot_by s None None h = refl
slot_by s None (Some f) h = refl
slot_by s (Some t) None h = refl
slot_by s (Some t) (Some f) h = passes (has_slot_signature t f) _ h

slot_well : (i : Interface) (s : Source) (m : Module) (x : Marked) → slot_fault i s m x ≡ None → is_marked_well i m x ≡ true
slot_well i s m x h = slot_by s (slice_get i.slots x.slot) (slice_get m.functions x.function) h

imports_well : (kernel : Module) (i : Interface) (k : ℕ) (m : Module) → imports_fault kernel i k m ≡ None → list_all (is_module_import kernel i) m.functions ≡ true
imports_well kernel i k m h = all_pass (module_import_fault kernel i (source.Module k)) (is_module_import kernel i) m.functions (import_well kernel i (source.Module k)) h

slots_well : (i : Interface) (k : ℕ) (m : Module) → slots_fault i k m ≡ None → list_all (is_marked_well i m) (annotated_of i m) ≡ true
slots_well i k m h = all_pass (slot_fault i (source.Module k) m) (is_marked_well i m) (annotated_of i m) (slot_well i (source.Module k) m) h

-- All passes together.

pub are_well_formed : AreWellFormed
are_well_formed s sound texts limits =
    let calls = first_some kernel_call_fault s.kernel.functions in
    let exports = first_some (export_fault s.kernel) s.interface.exports in
    let kernel_imports = first_some (kernel_import_fault s.interface) s.kernel.functions in
    let imports = first_module (imports_fault s.kernel s.interface) 0 s.modules in
    let slots = first_module (slots_fault s.interface) 0 s.modules in
    let behind_calls = rest_none calls (option_or exports (option_or kernel_imports (option_or imports slots))) texts in
    let behind_exports = rest_none exports (option_or kernel_imports (option_or imports slots)) behind_calls in
    let behind_kernel = rest_none kernel_imports (option_or imports slots) behind_exports in
    let imported = each_module (imports_fault s.kernel s.interface) (λ m. list_all (is_module_import s.kernel s.interface) m.functions ≡ true) 0 s.modules (imports_well s.kernel s.interface) (first_none imports slots behind_kernel) in
    let marked = each_module (slots_fault s.interface) (λ m. list_all (is_marked_well s.interface m) (annotated_of s.interface m) ≡ true) 0 s.modules (slots_well s.interface) (rest_none imports slots behind_kernel) in
    record {
      kernel_verified = sound.kernel;
      kernel_plain = sound.kernel_plain;
      kernel_calls = all_pass kernel_call_fault (λ f. not (calls_indirectly f)) s.kernel.functions call_well (first_none calls (option_or exports (option_or kernel_imports (option_or imports slots))) texts);
      kernel_imports = all_pass (kernel_import_fault s.interface) (is_kernel_import s.interface) s.kernel.functions (kernel_import_well s.interface) (first_none kernel_imports (option_or imports slots) behind_exports);
      interface = sound.interface;
      exports = all_pass (export_fault s.kernel) (is_exported_well s.kernel) s.interface.exports (export_well s.kernel) (first_none exports (option_or kernel_imports (option_or imports slots)) behind_calls);
      modules = λ k d h. record { verified = (sound.modules k d h).0; plain = (sound.modules k d h).1; imports = imported k d h; marked = marked k d h };
      functions = refl;
      globals = refl;
      few_functions = leb-true (length (functions_of s)) most_functions (passes (nat_le (length (functions_of s)) most_functions) _ (first_none (functions_fault s) (globals_fault s) limits));
      globals_fit = leb-true (globals_end s) last_end (passes (nat_le (globals_end s) last_end) _ (rest_none (functions_fault s) (globals_fault s) limits));
    }

-- Verified texts.

middle : (a b c d : Bool) → (a && b && c && d) ≡ true → b ≡ true
middle true true c d h = refl
middle true false c d h = absurd (cc)
middle false b c d h = absurd (cc)

typed : (m : Module) (gs : List GlobalVar) → list_all (is_lawful_global m) gs ≡ true → All (λ (g : GlobalVar). IsTrue (is_lawful_type m.types g.ty)) gs
typed m gs h k d less =
    let g = get_or gs k d in
    middle (is_name g.name) (is_lawful_type m.types g.ty) (is_lawful_init m g.ty g.init) (nat_le (nesting_of_init g.init) 64) (AllPass-from_list_all (is_lawful_global m) gs h k d less)

has_globals : (m : Module) → IsVerified m → HasLawfulGlobals m
has_globals m v = record { few = omega (arith, v.lawful.few_globals); types = typed m m.globals v.lawful.globals }

pub verified_have_limits : VerifiedHaveLimits
verified_have_limits s kernel modules few =
    record {
      modules = few;
      kernel_functions = omega (arith, kernel.lawful.few_functions);
      kernel_globals = has_globals s.kernel kernel;
      functions = λ k d h. omega (arith, (modules k d h).lawful.few_functions);
      globals = λ k d h. has_globals _ (modules k d h);
    }
