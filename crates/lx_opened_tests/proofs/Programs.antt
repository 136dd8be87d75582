-- What the programs of the tests have.
use Rattle.std.proofs.Common.{◌≡◌, ℕ, zero, suc, ◌≤◌, true, false, None, List, [], ◌∷◌, length, map, IsTrue, refl, sym, ap, subst, arith}
use Rattle.std.specs.Prelude.{All}
use Rattle.std.specs.List.{list_all}
use Rattle.std.proofs.lemmas.Bool.{and_from}
use Rattle.lx_caps.specs.declared.Act.TheVariants.{Grant}
use Rattle.lx_caps.specs.declared.Cap.TheVariants.{Call}
use Rattle.lx_caps.specs.declared.Principal.TheVariants.{Shared}
use Rattle.lx_code.specs.Reach.{IsWithinReach, CountsActions, is_sized_function, is_sized_module}
use Rattle.lx_image_code.specs.Reach.{AreWithinReach}
use Rattle.lx_ir.specs.Lawful.{IsLawful}
use Rattle.lx_ir.specs.declared.module.Function.{Function}
use Rattle.lx_model.specs.Account.{image_count}
use Rattle.lx_model.specs.Opening.{opening_history, with_globals}
use Rattle.lx_model.specs.Program.{annotation_of}
use Rattle.lx_model.specs.declared.program.Program.{Program}
use Rattle.lx_model.specs.declared.program.ProgramModule.{ProgramModule}
use Rattle.lx_slot_types.specs.Gets.{below}
use Rattle.lx_report.specs.Lawful.{HasLawfulModules}
use Rattle.lx_serve.specs.Sources.{IsLinked, Knows}
use Rattle.lx_opened_tests.specs.Programs.{kernel_alone, module_with, one_silent, slotted, naming}

-- programs of one function of the kernel

sized_alone : (f : Function) → IsTrue (is_sized_function [] f) → IsTrue (is_sized_module (module_with (f ∷ [])))
sized_alone f sized = and_from (is_sized_function [] f) true sized refl

within_reach : (f : Function) → IsTrue (is_sized_function [] f) → IsWithinReach (kernel_alone f)
within_reach f sized = record { functions = omega arith; slots = omega arith; kernel = sized_alone f sized; modules = refl }

pub is_within_reach : (p : Program) (f : Function) → p ≡ kernel_alone f → IsTrue (is_sized_function [] f) → IsWithinReach p
is_within_reach p f is sized = subst IsWithinReach (sym is) (within_reach f sized)

counted : (f : Function) → CountsActions (kernel_alone f) []
counted f zero true = refl
counted f zero false = refl
counted f (suc n) true = refl
counted f (suc n) false = refl

pub counts_none : (p : Program) (f : Function) → p ≡ kernel_alone f → CountsActions p []
counts_none p f is = subst (λ (q : Program). CountsActions q []) (sym is) (counted f)

-- where there is no image, each is within reach
pub no_images : (p : Program) → AreWithinReach p []
no_images p m image there = absurd (cc)

-- the program of a function that has no instruction

silent_is_within_reach : IsWithinReach one_silent
silent_is_within_reach = record { functions = omega arith; slots = omega arith; kernel = refl; modules = refl }

pub silent_within_reach : (p : Program) → p ≡ one_silent → IsWithinReach p
silent_within_reach p is = subst IsWithinReach (sym is) silent_is_within_reach

silent_counted : CountsActions one_silent []
silent_counted zero true = refl
silent_counted zero false = refl
silent_counted (suc n) true = refl
silent_counted (suc n) false = refl

pub silent_counts : (p : Program) → p ≡ one_silent → CountsActions p []
silent_counts p is = subst (λ (q : Program). CountsActions q []) (sym is) silent_counted

pub silent_blank : (p : Program) → p ≡ one_silent → with_globals p p.globals [] ≡ []
silent_blank p is = ap (λ (q : Program). with_globals q q.globals []) is

pub silent_owns : (p : Program) → p ≡ one_silent → opening_history p ≡ Grant (Shared 0) (Call 0x10000) ∷ []
silent_owns p is = ap opening_history is

silent_bare : (n : ℕ) → annotation_of one_silent n ≡ None
silent_bare zero = refl
silent_bare (suc n) = refl

pub silent_known : (p : Program) → p ≡ one_silent → Knows p []
silent_known p is = subst (λ (q : Program). Knows q []) (sym is) (λ n. sym (silent_bare n))

pub silent_linked : (p : Program) → p ≡ one_silent → IsLinked p
silent_linked p is = subst IsLinked (sym is) (record { iterators = λ k. omega arith; functions = omega arith })

pub silent_images : (p : Program) → p ≡ one_silent → record { guards = 0; checks = 0; wrappers = 0 } ∷ [] ≡ map (image_count p) (below (length p.modules))
silent_images p is = sym (ap (λ (q : Program). map (image_count q) (below (length q.modules))) is)

-- the program with a slot type

pub slotted_blank : (p : Program) → p ≡ slotted → with_globals p p.globals [] ≡ []
slotted_blank p is = ap (λ (q : Program). with_globals q q.globals []) is

pub slotted_owns : (p : Program) → p ≡ slotted → opening_history p ≡ []
slotted_owns p is = ap opening_history is

slotted_bare : (n : ℕ) → annotation_of slotted n ≡ None
slotted_bare zero = refl
slotted_bare (suc n) = refl

pub slotted_known : (p : Program) → p ≡ slotted → Knows p []
slotted_known p is = subst (λ (q : Program). Knows q []) (sym is) (λ n. sym (slotted_bare n))

pub slotted_linked : (p : Program) → p ≡ slotted → IsLinked p
slotted_linked p is = subst IsLinked (sym is) (record { iterators = λ k. omega arith; functions = omega arith })

-- the program whose names name each kind of thing

naming_is_within_reach : IsWithinReach naming
naming_is_within_reach = record { functions = omega arith; slots = omega arith; kernel = refl; modules = refl }

pub naming_within_reach : (p : Program) → p ≡ naming → IsWithinReach p
naming_within_reach p is = subst IsWithinReach (sym is) naming_is_within_reach

naming_counted : CountsActions naming []
naming_counted zero true = refl
naming_counted zero false = refl
naming_counted (suc zero) true = refl
naming_counted (suc zero) false = refl
naming_counted (suc (suc n)) true = refl
naming_counted (suc (suc n)) false = refl

pub naming_counts : (p : Program) → p ≡ naming → CountsActions p []
naming_counts p is = subst (λ (q : Program). CountsActions q []) (sym is) naming_counted

-- programs of a module that has nothing

empty_is_lawful : IsLawful (module_with [])
empty_is_lawful = record {
  types_once = refl;
  symbols_once = refl;
  types = refl;
  globals = refl;
  functions = refl;
  imports_first = refl;
  few_types = omega arith;
  few_globals = omega arith;
  few_functions = omega arith;
}

one_lawful : (name : List ℕ) → All (λ (m : ProgramModule). IsLawful m.«module») (record { name = name; «module» = module_with [] } ∷ [])
one_lawful name zero d below = empty_is_lawful
one_lawful name (suc k) d below = absurd (omega (arith, below))

pub has_lawful_modules : (p : Program) (name : List ℕ) → p.modules ≡ record { name = name; «module» = module_with [] } ∷ [] → HasLawfulModules p
has_lawful_modules p name is = subst (All (λ (m : ProgramModule). IsLawful m.«module»)) (sym is) (one_lawful name)
