-- Homes, and what has its home in them.
use Rattle.std.proofs.Common.{None, Some, ap, eqb-true, refl, true, ◌≡◌, ℕ, Option, sym}
use Rattle.std.proofs.lemmas.Bool.{and_parts}
use Rattle.std.specs.Prelude.{nat_eq, slice_get, unwrap_or}
use Rattle.std.specs.Option.{option_eq}
use Rattle.lx_words.proofs.Tests.{nat_turned}
use Rattle.lx_caps.specs.Names.{Namings}
use Rattle.lx_model.specs.Program.{Home, same_home, home_of_entry, is_entry, is_home, ToImport, own, module_of, module_or_empty, home_of, home_or_kernel, is_in}
use Rattle.lx_model.specs.declared.program.ProgramFunction.{ProgramFunction}
use Rattle.lx_model.specs.declared.program.ProgramFunction.TheVariants.{Native, Of}
use Rattle.lx_model.specs.Enter.{instance_of, text_of_principal}
use Rattle.lx_model.specs.declared.program.Program.{Program}
use Rattle.lx_model.specs.declared.program.ProgramModule.{ProgramModule}

pub same_home_is : (a b : Home) → same_home a b ≡ true → a ≡ b
same_home_is None None e = refl
same_home_is None (Some n) e = absurd (cc)
same_home_is (Some m) None e = absurd (cc)
same_home_is (Some m) (Some n) e = ap Some (eqb-true m n e)

pub kernel_entry : (f : ℕ) (e : ProgramFunction) → is_entry None f e ≡ true → is_home None (home_of_entry (Some e)) ≡ true
kernel_entry f (Native k) is = absurd (cc)
kernel_entry f (Of None g) is = refl
kernel_entry f (Of (Some m) g) is = absurd (cc)

pub entry_in : (home : Home) (f : ℕ) (e : ProgramFunction) → is_entry home f e ≡ true → is_home home (home_of_entry (Some e)) ≡ true
entry_in home f (Native k) is = absurd (cc)
entry_in home f (Of other g) is = (and_parts (same_home home other) (nat_eq f g) is).0

pub own_named : (o : Option ℕ) (g : ℕ) → own o ≡ ToImport g → ⊥
own_named None g is = absurd (cc)
own_named (Some n) g is = absurd (cc)

pub instance_text : (names : Namings) (m v : ℕ) (o : Option ℕ) → text_of_principal (instance_of names m v o).principal ≡ Some m
instance_text names m v None = refl
instance_text names m v (Some k) = refl

pub kernel_home : (home : Option Home) → is_home None home ≡ true → home ≡ Some None
kernel_home None is = absurd cc
kernel_home (Some None) is = refl
kernel_home (Some (Some m)) is = absurd cc

pub home_turned : (a b : Home) → option_eq nat_eq a b ≡ same_home b a
home_turned None None = refl
home_turned None (Some n) = refl
home_turned (Some m) None = refl
home_turned (Some m) (Some n) = nat_turned m n

pub home_same : (a b : Home) → option_eq nat_eq a b ≡ same_home a b
home_same None None = refl
home_same None (Some n) = refl
home_same (Some m) None = refl
home_same (Some m) (Some n) = refl

pub module_at : (p : Program) (m : ℕ) (y : ProgramModule) → slice_get p.modules m ≡ Some y → module_of p (Some m) ≡ y.«module»
module_at p m y e = ap module_or_empty e

pub in_home : (home : Home) (o : Option Home) → is_home home o ≡ true → unwrap_or o None ≡ home
in_home home None is = absurd (cc)
in_home home (Some other) is = sym (same_home_is home other is)

pub home_is : (p : Program) (home : Home) (n : ℕ) → is_in p home n ≡ true → home_or_kernel p n ≡ home
home_is p home n is = in_home home (home_of p n) is
