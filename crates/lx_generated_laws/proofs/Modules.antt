-- The kernel is printed by its text, the module of generated cases is read of its own, and no fault stands in them.
use Rattle.std.proofs.Common.{◌≡◌, ◌⊎◌, inl, inr, List, [], ◌∷◌, ℕ, None, refl, sym, subst, arith}
use Rattle.std.specs.Prelude.{IsTrue}
use Rattle.lx_generate.specs.Generated.{module_text}
use Rattle.lx_generate.specs.Kernel.{kernel_text}
use Rattle.lx_ir.specs.declared.module.Module.{Module}
use Rattle.lx_ir.specs.Faults.{FirstFault}
use Rattle.lx_ir.specs.Lawful.{IsLawful, IsPlain}
use Rattle.lx_ir.specs.Text.{module_text as printed, name_text}
use Rattle.lx_ir_calls.specs.declared.intrinsics.TextForm.TheVariants.{Program}
use Rattle.lx_ir_complete.specs.Laws.{TextsAreAnswered}
use Rattle.lx_ir_complete.specs.PieceLaws.{LaidAreScanned}
use Rattle.lx_ir_complete.specs.RoundTripLaws.{IsReadBack, RoundTrips}
use Rattle.lx_ir_complete.specs.Said.{is_kept_module}
use Rattle.lx_ir_complete.specs.Same.{SameModules}
use Rattle.lx_ir_read.specs.Laws.{ModulesAreFound}
use Rattle.lx_ir_read.specs.declared.fault.ReadFault.{ReadFault}
use Rattle.lx_ir_read.specs.Reading.{SaysModule, FirstFault as ReadFails}
use Rattle.lx_generated_laws.specs.Generated.{the_module}
use Rattle.lx_generated_laws.specs.Kernel.{kernel}
use Rattle.lx_generated_laws.specs.Builtin.{IsSoundText, KernelIsSound, ModuleIsSound}
use Rattle.lx_generated_laws.proofs.Lined.{lined, same_lined}
use Rattle.lx_generated_laws.proofs.ModuleReading.{module_is_said, read_module}
use Rattle.lx_generated_laws.proofs.Assigned.{Table, no_fault}

-- a text that a lawful module prints
record Prints (text : List ℕ) (m : Module) : Type 0 where
  is : printed m ≡ text
  lawful : IsLawful m
  plain : IsPlain m
  kept : IsTrue (is_kept_module Program m)
  sound : (n : Module) → FirstFault (lined n m) None

sound_text : (text : List ℕ) (m : Module) → RoundTrips Program → TextsAreAnswered → ModulesAreFound → Prints text m → IsSoundText text m
sound_text text m trips answered found p = by (answered Program (printed m))
  where
    back : IsReadBack Program m
    back = trips m p.lawful p.kept (λ e. p.plain)

    by : ((n : Module) × SaysModule Program (printed m) n) ⊎ ((f : ReadFault) × ReadFails Program (printed m) f) → IsSoundText text m
    by (inl (n, says)) =
        let same : SameModules n m = back.same n says in
        let said : SaysModule Program text n = subst (λ t. SaysModule Program t n) p.is says in
        record {
          read = n;
          is = found Program text n said;
          says = said;
          same = same;
          no_fault = subst (λ x. FirstFault x None) (sym (same_lined n m same)) (p.sound n);
        }
    by (inr (f, fault)) = absurd (back.no_fault f fault)

-- the registers that are assigned on each walk to the blocks of the kernel's functions, as far as they are read there
kernel_tables : List Table
kernel_tables =
    [] ∷ [] ∷ [] ∷ [] ∷ [] ∷ [] ∷ []
    ∷ ([] ∷ [] ∷ (4 ∷ []) ∷ [])
    ∷ ([] ∷ (1 ∷ []) ∷ (1 ∷ []) ∷ [])
    ∷ []
    ∷ ([] ∷ [] ∷ [] ∷ (3 ∷ []) ∷ [])
    ∷ [] ∷ [] ∷ []
    ∷ ([] ∷ (1 ∷ []) ∷ (1 ∷ 3 ∷ []) ∷ (1 ∷ []) ∷ [])
    ∷ []

kernel_printed : Prints kernel_text kernel
unfolding kernel_text name_text kernel_tables
kernel_printed = record {
  is = refl;
  lawful = record {
    types_once = refl;
    symbols_once = refl;
    types = refl;
    globals = refl;
    functions = refl;
    imports_first = refl;
    few_types = omega arith;
    few_globals = omega arith;
    few_functions = omega arith;
  };
  plain = record { lines = refl; names = refl };
  kept = refl;
  sound = λ n. no_fault (lined n kernel) kernel_tables refl refl;
}

pub kernel_is_sound : RoundTrips Program → TextsAreAnswered → ModulesAreFound → KernelIsSound
kernel_is_sound trips answered found = sound_text kernel_text kernel trips answered found kernel_printed

-- what is read of the module's text is the module, lines aside
same_module : SameModules read_module the_module
same_module = record {
  types = refl;
  globals = tt;
  functions = (
    record { name = refl; params = refl; locals = refl; ret = refl; blocks = tt },
    (
      record { name = refl; params = refl; locals = refl; ret = refl; blocks = tt },
      (
        record { name = refl; params = refl; locals = refl; ret = refl; blocks = ((refl, refl), tt) },
        (record { name = refl; params = refl; locals = refl; ret = refl; blocks = ((refl, refl), tt) }, tt),
      ),
    ),
  );
}

pub module_is_sound : LaidAreScanned → ModulesAreFound → ModuleIsSound
module_is_sound scanned found =
    let said : SaysModule Program module_text read_module = module_is_said scanned in
    record { read = read_module; is = found Program module_text read_module said; says = said; same = same_module; no_fault = no_fault read_module [] refl refl }
