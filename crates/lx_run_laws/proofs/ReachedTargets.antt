-- A call by a name enters a function of the same text, where it enters one without a request.
use Rattle.std.proofs.Common.{◌≡◌, ℕ, Bool, true, false, Option, Some, None, List, refl, ◌∙◌}
use Rattle.std.specs.Prelude.{⊤, cond, bytes_eq, codes}
use Rattle.lx_ir.specs.declared.module.Function.{Function}
use Rattle.lx_ir.specs.Lookup.{is_defined}
use Rattle.lx_model.specs.declared.program.Program.{Program}
use Rattle.lx_model.specs.Program.{Home, home_or_kernel, number_of, native_named, slot_named, kernel_function, Target, ToNative, ToSlot, ToImport, ToOwn, Nowhere, own, slot, native_or_slot, kernel_import, import, target_of, target}
use Rattle.lx_model.proofs.NumberedHomes.{numbered_in}

-- a function of the same text is of that text
abbrev pub IsOwn : Program → Home → Target → Type 0
IsOwn p home (ToNative k) = ⊤
IsOwn p home (ToSlot s) = ⊤
IsOwn p home (ToImport n) = ⊤
IsOwn p home (ToOwn n) = home_or_kernel p n ≡ home
IsOwn p home Nowhere = ⊤

own_slot : (p : Program) (home : Home) (s : Option ℕ) → IsOwn p home (slot s)
own_slot p home None = tt
own_slot p home (Some s) = tt

own_native : (p : Program) (home : Home) (k s : Option ℕ) → IsOwn p home (native_or_slot k s)
own_native p home None s = own_slot p home s
own_native p home (Some k) s = tt

own_import : (p : Program) (home : Home) (o : Option ℕ) → IsOwn p home (kernel_import o)
own_import p home None = tt
own_import p home (Some n) = tt

own_number : (p : Program) (home : Home) (o : Option ℕ) → ((n : ℕ) → o ≡ Some n → home_or_kernel p n ≡ home) → IsOwn p home (own o)
own_number p home None h = tt
own_number p home (Some n) h = h n refl

own_if : (p : Program) (home : Home) (b : Bool) (x y : Target) → IsOwn p home x → IsOwn p home y → IsOwn p home (cond b x y)
own_if p home true x y h k = h
own_if p home false x y h k = k

imported : (p : Program) (home : Home) (name : List ℕ) → IsOwn p home (import p home name)
imported p None name = own_native p None (native_named name) (slot_named p name)
imported p (Some m) name =
    own_if p (Some m) (bytes_eq name (codes "lxfi_princ_alias")) (ToNative 5) (kernel_import (kernel_function p name)) tt
    (own_import p (Some m) (kernel_function p name))

own_of : (p : Program) (home : Home) (f : ℕ) (g : Option Function) → IsOwn p home (target_of p home f g)
own_of p home f None = tt
own_of p home f (Some g) =
    own_if p home (is_defined g) (own (number_of p home f)) (import p home g.name) (own_number p home (number_of p home f) (numbered_in p home f))
    (imported p home g.name)

-- whatever a called name names
pub target_own : (p : Program) (home : Home) (f : ℕ) → IsOwn p home (target p home f)
target_own p home f = own_of p home f _
