-- A function that a module calls by its name is the kernel's.
use Rattle.std.proofs.Common.{◌≡◌, ℕ, Bool, true, false, Option, Some, None, List, get_or, refl, ap, ◌∙◌}
use Rattle.std.specs.Prelude.{⊤, cond, ◌&&◌, option_and_then, position, bytes_eq, codes}
use Rattle.std.proofs.lemmas.List.Quantifiers.{position-Some}
use Rattle.std.proofs.lemmas.Option.{slice_get-get_or}
use Rattle.lx_ir.specs.declared.module.Function.{Function}
use Rattle.lx_ir.specs.Lookup.{is_defined}
use Rattle.lx_model.specs.declared.program.Program.{Program}
use Rattle.lx_model.specs.declared.program.ProgramFunction.TheVariants.{Native}
use Rattle.lx_model.specs.Program.{Home, home_of_entry, is_home, is_entry, is_in, number_of, native_named, slot_named, kernel_function, Target, ToNative, ToSlot, ToImport, ToOwn, Nowhere, own, slot, native_or_slot, kernel_import, import, target_of, target}
use Rattle.lx_model.proofs.Homes.{kernel_entry}

-- an import that is called is the kernel's
abbrev pub IsKnown : Program → Target → Type 0
IsKnown p (ToNative k) = ⊤
IsKnown p (ToSlot s) = ⊤
IsKnown p (ToImport n) = is_in p None n ≡ true
IsKnown p (ToOwn n) = ⊤
IsKnown p Nowhere = ⊤

pub numbered_in : (p : Program) (f n : ℕ) → number_of p None f ≡ Some n → is_in p None n ≡ true
numbered_in p f n is =
    let there = position-Some (is_entry None f) p.functions n (Native 0) is in
    ap (λ e. is_home None (home_of_entry e)) (slice_get-get_or p.functions n (Native 0) there.0)
    ∙ kernel_entry f (get_or p.functions n (Native 0)) there.1

pub found_in : (p : Program) (o : Option ℕ) (n : ℕ) → option_and_then (number_of p None) o ≡ Some n → is_in p None n ≡ true
found_in p None n is = absurd (cc)
found_in p (Some f) n is = numbered_in p f n is

known_import : (p : Program) (o : Option ℕ) → ((n : ℕ) → o ≡ Some n → is_in p None n ≡ true) → IsKnown p (kernel_import o)
known_import p None h = tt
known_import p (Some n) h = h n refl

known_slot : (p : Program) (s : Option ℕ) → IsKnown p (slot s)
known_slot p None = tt
known_slot p (Some s) = tt

known_native : (p : Program) (k s : Option ℕ) → IsKnown p (native_or_slot k s)
known_native p None s = known_slot p s
known_native p (Some k) s = tt

known_own : (p : Program) (o : Option ℕ) → IsKnown p (own o)
known_own p None = tt
known_own p (Some n) = tt

known_if : (p : Program) (b : Bool) (x y : Target) → IsKnown p x → IsKnown p y → IsKnown p (cond b x y)
known_if p true x y h k = h
known_if p false x y h k = k

import_known : (p : Program) (home : Home) (name : List ℕ) → IsKnown p (import p home name)
import_known p None name = known_native p (native_named name) (slot_named p name)
import_known p (Some m) name =
    known_if p (bytes_eq name (codes "lxfi_princ_alias")) (ToNative 5) (kernel_import (kernel_function p name)) tt
    (known_import p (kernel_function p name) (λ n is. found_in p (position (λ f. is_defined f && bytes_eq f.name name) p.kernel.functions) n is))

known_of : (p : Program) (home : Home) (f : ℕ) (g : Option Function) → IsKnown p (target_of p home f g)
known_of p home f None = tt
known_of p home f (Some g) = known_if p (is_defined g) (own (number_of p home f)) (import p home g.name) (known_own p (number_of p home f)) (import_known p home g.name)

-- whatever a called name names
pub target_known : (p : Program) (home : Home) (f : ℕ) → IsKnown p (target p home f)
target_known p home f = known_of p home f _
