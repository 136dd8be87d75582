-- What is granted before the first call is within the bound.
use Rattle.std.proofs.Common.{◌≡◌, ℕ, ◌+◌, ◌*◌, ◌-◌, ◌/◌, ◌%◌, Bool, true, false, Option, Some, None, List, [], ◌∷◌, refl, sym, subst, ◌∙◌, arith}
use Rattle.std.specs.Prelude.{◌&&◌, is_some, length, nat_eq, nat_le, if◌then◌else◌}
use Rattle.lx_caps.specs.declared.Cap.TheVariants as cap
use Rattle.lx_caps.specs.declared.Principal.TheVariants.{Shared}
use Rattle.lx_caps.specs.declared.Act.TheVariants.{Grant, Strip}
use Rattle.lx_caps.specs.History.{History}
use Rattle.lx_ir.specs.declared.module.GlobalVar.{GlobalVar}
use Rattle.lx_slot_types.specs.Gets.{below}
use Rattle.lx_model.specs.declared.program.Program.{Program}
use Rattle.lx_model.specs.declared.program.ProgramGlobal.{ProgramGlobal}
use Rattle.lx_model.specs.Opening.{call_granted, calls_granted, global_granted, global_of, globals_granted, is_global_of, module_opened, modules_opened, opening_history}
use Rattle.lx_model.specs.Program.{Target, ToNative, ToSlot, ToImport, ToOwn, Nowhere, address_of, function_at, home_of, module_of, numbered, target}
use Rattle.lx_surface.specs.declared.Thing.TheVariants as thing
use Rattle.lx_surface.specs.Reach.{Can, declares, defines}
use Rattle.lx_surface.proofs.Targets.{FitsText, home_of_module, target_fits}
use Rattle.lx_surface.proofs.Given.{AllWithin, IsWithin}

write_within : (p : Program) (m at size : ℕ) → IsWithin p (Shared m) (cap.Write at size)
write_within p m at size k x text of = absurd of

one_global : (p : Program) (m at size : ℕ) (constant : Bool) (h : History) → AllWithin p h
    → AllWithin p (if constant then Strip (cap.Write at size) ∷ Grant (Shared m) (cap.Write at size) ∷ h else Grant (Shared m) (cap.Write at size) ∷ h)
one_global p m at size true h all = (write_within p m at size, all)
one_global p m at size false h all = (write_within p m at size, all)

global_within : (p : Program) (m : ℕ) (x : ProgramGlobal) (g : Option GlobalVar) (h : History) → AllWithin p h → AllWithin p (global_granted p m x g h)
global_within p m x None h all = all
global_within p m x (Some g) h all = one_global p m x.at _ g.constant h all

either : (p : Program) (b : Bool) (new old : History) → AllWithin p new → AllWithin p old → AllWithin p (if b then new else old)
either p true new old fresh all = fresh
either p false new old fresh all = all

globals_within : (p : Program) (m : ℕ) (xs : List ProgramGlobal) (h : History) → AllWithin p h → AllWithin p (globals_granted p m xs h)
globals_within p m [] h all = all
globals_within p m (x ∷ xs) h all =
    globals_within p m xs _ (either p (is_global_of m x) (global_granted p m x (global_of p x) h) h (global_within p m x (global_of p x) h all) all)

-- the function at a function's address is that function

numbered_is : (o : Bool) (n g : ℕ) → (if o then Some n else None) ≡ Some g → n ≡ g
numbered_is false n g is = absurd (cc)
numbered_is true n g is = cc

at_is : (p : Program) (b : Bool) (n g : ℕ) → (if b then numbered p n else None) ≡ Some g → n ≡ g
at_is p false n g is = absurd (cc)
at_is p true n g is = numbered_is (is_some (home_of p n)) n g is

place_of : (n : ℕ) → (0x10000 + 16 * n - 0x10000) / 16 ≡ n
place_of n = omega arith

pub function_at_address : (p : Program) (n g : ℕ) → function_at p (address_of n) ≡ Some g → g ≡ n
function_at_address p n g is = sym (at_is p (nat_le 0x10000 (address_of n) && nat_eq (address_of n % 16) 0) ((address_of n - 0x10000) / 16) g is) ∙ place_of n

call_within : (p : Program) (m n : ℕ) → Can p m (thing.Function n) → IsWithin p (Shared m) (cap.Call (address_of n))
call_within p m n can k (thing.RefType u) text of = absurd of
call_within p m n can k (thing.Function g) text of =
    let there : g ≡ n = function_at_address p n g of in
    let same : m ≡ k = cc in
    subst (λ i. Can p i (thing.Function g)) same (subst (λ i. Can p m (thing.Function i)) (sym there) can)

target_within : (p : Program) (m f : ℕ) (x : Target) (h : History) → target p (Some m) f ≡ x → FitsText p (Some m) x → AllWithin p h → AllWithin p (call_granted m x h)
target_within p m f (ToNative k) h is fits all = all
target_within p m f (ToSlot s) h is fits all = all
target_within p m f (ToImport n) h is fits all = (call_within p m n (declares m f n is), all)
target_within p m f (ToOwn n) h is fits all = (call_within p m n (defines m n (home_of_module p n m fits)), all)
target_within p m f Nowhere h is fits all = all

calls_within : (p : Program) (m : ℕ) (fs : List ℕ) (h : History) → AllWithin p h → AllWithin p (calls_granted p m fs h)
calls_within p m [] h all = all
calls_within p m (f ∷ fs) h all = calls_within p m fs _ (target_within p m f (target p (Some m) f) h refl (target_fits p (Some m) f) all)

modules_within : (p : Program) (ms : List ℕ) (h : History) → AllWithin p h → AllWithin p (modules_opened p ms h)
modules_within p [] h all = all
modules_within p (m ∷ ms) h all =
    modules_within p ms (module_opened p m h) (calls_within p m (below (length (module_of p (Some m)).functions)) _ (globals_within p m p.globals h all))

pub opening_within : (p : Program) → AllWithin p (opening_history p)
opening_within p = modules_within p (below (length p.modules)) [] tt
