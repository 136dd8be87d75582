-- What a called name names in a text: a function of the same text, or a slot in the kernel's text alone.
use Rattle.std.proofs.Common.{◌≡◌, ℕ, Bool, true, false, Option, Some, None, List, refl, ap, ◌∙◌}
use Rattle.std.specs.Prelude.{⊤, cond, bytes_eq, codes, unwrap_or}
use Rattle.lx_ir.specs.declared.module.Function.{Function}
use Rattle.lx_ir.specs.Lookup.{is_defined}
use Rattle.lx_model.specs.declared.program.Program.{Program}
use Rattle.lx_model.specs.Program.{Home, home_of, home_or_kernel, number_of, native_named, slot_named, kernel_function, Target, ToNative, ToSlot, ToImport, ToOwn, Nowhere, own, slot, native_or_slot, kernel_import, import, target_of, target}
use Rattle.lx_model.proofs.NumberedHomes.{numbered_in}

of_module : (o : Option Home) (m : ℕ) → unwrap_or o None ≡ Some m → o ≡ Some (Some m)
of_module None m is = absurd (cc)
of_module (Some home) m is = ap Some is

-- a function of a module's text is defined there
pub home_of_module : (p : Program) (n m : ℕ) → home_or_kernel p n ≡ Some m → home_of p n ≡ Some (Some m)
home_of_module p n m is = of_module (home_of p n) m is

-- what is called in this text
abbrev pub FitsText : Program → Home → Target → Type 0
FitsText p home (ToNative k) = ⊤
FitsText p home (ToSlot s) = home ≡ None
FitsText p home (ToImport n) = ⊤
FitsText p home (ToOwn n) = home_or_kernel p n ≡ home
FitsText p home Nowhere = ⊤

slot_fits : (p : Program) (home : Home) (s : Option ℕ) → home ≡ None → FitsText p home (slot s)
slot_fits p home None is = tt
slot_fits p home (Some s) is = is

native_fits : (p : Program) (home : Home) (k s : Option ℕ) → home ≡ None → FitsText p home (native_or_slot k s)
native_fits p home None s is = slot_fits p home s is
native_fits p home (Some k) s is = tt

import_fits : (p : Program) (home : Home) (o : Option ℕ) → FitsText p home (kernel_import o)
import_fits p home None = tt
import_fits p home (Some n) = tt

own_fits : (p : Program) (home : Home) (o : Option ℕ) → ((n : ℕ) → o ≡ Some n → home_or_kernel p n ≡ home) → FitsText p home (own o)
own_fits p home None h = tt
own_fits p home (Some n) h = h n refl

if_fits : (p : Program) (home : Home) (b : Bool) (x y : Target) → FitsText p home x → FitsText p home y → FitsText p home (cond b x y)
if_fits p home true x y h k = h
if_fits p home false x y h k = k

imported : (p : Program) (home : Home) (name : List ℕ) → FitsText p home (import p home name)
imported p None name = native_fits p None (native_named name) (slot_named p name) refl
imported p (Some m) name =
    if_fits p (Some m) (bytes_eq name (codes "lxfi_princ_alias")) (ToNative 5) (kernel_import (kernel_function p name)) tt
    (import_fits p (Some m) (kernel_function p name))

of_fits : (p : Program) (home : Home) (f : ℕ) (g : Option Function) → FitsText p home (target_of p home f g)
of_fits p home f None = tt
of_fits p home f (Some g) =
    if_fits p home (is_defined g) (own (number_of p home f)) (import p home g.name) (own_fits p home (number_of p home f) (numbered_in p home f))
    (imported p home g.name)

-- whatever a called name names
pub target_fits : (p : Program) (home : Home) (f : ℕ) → FitsText p home (target p home f)
target_fits p home f = of_fits p home f _
