-- What the readers give is sound.
use Rattle.std.proofs.Common.{◌≡◌, refl, ℕ, zero, suc, ◌+◌, ◌<◌, ◌≤◌, ◌^◌, List, [], ◌∷◌, ◌++◌, length, arith}
use Rattle.std.specs.Prelude.{All}
use Rattle.std.specs.List.{IsDistinct}
use Rattle.std.proofs.lemmas.List.Elements.{All-append}
use Rattle.lx_ir.specs.declared.module.Module.{Module}
use Rattle.lx_ir.specs.Lawful.{IsLawful}
use Rattle.lx_ir_calls.specs.declared.intrinsics.TextForm.TheVariants.{Program, Image}
use Rattle.lx_ir_read.specs.Reading.{SaysModule}
use Rattle.lx_ir_lawful.specs.Laws.{ReadIsLawful, ProgramsArePlain}
use Rattle.lx_annot.specs.declared.interface.Interface.{Interface}
use Rattle.lx_annot_read.specs.Texts.{SaysInterface}
use Rattle.lx_annot.specs.Lawful.{IsLawfulInterface}
use Rattle.lx_annot_laws.specs.LawfulLaws.{ReadIsLawful as ReadInterfaceIsLawful}
use Rattle.lx_cproto.specs.Texts.{SaysPrototypes}
use Rattle.lx_annot_laws.specs.PrototypeGrammarLaws.{ReadIsLawful as ReadPrototypesAreLawful}
use Rattle.lx_files.specs.Inputs.{no_module, no_interface}
use Rattle.lx_files.specs.Sound.{IsSoundModule}
use Rattle.lx_files.specs.Turns.{most_bytes}

pub module_sound : ReadIsLawful → ProgramsArePlain → (text : List ℕ) (m : Module) → length text ≤ most_bytes → SaysModule Program text m → IsSoundModule m
module_sound lawful plain text m within says =
    let short : length text + 1 < 2 ^ 32 = omega (arith, within) in
    record { lawful = lawful Program text m short says; plain = plain text m says }

pub image_lawful : ReadIsLawful → (text : List ℕ) (x : Module) → length text ≤ most_bytes → SaysModule Image text x → IsLawful x
image_lawful lawful text x within says = let short : length text + 1 < 2 ^ 32 = omega (arith, within) in lawful Image text x short says

pub interface_lawful : ReadInterfaceIsLawful → (text : List ℕ) (i : Interface) → length text ≤ most_bytes → SaysInterface text i → IsLawfulInterface i
interface_lawful lawful text i within says =
    let short : length text < 2 ^ 32 = omega (arith, within) in
    lawful text i short says

pub prototypes_lawful : ReadPrototypesAreLawful → (text : List ℕ) (i : Interface) → length text ≤ most_bytes → SaysPrototypes text i → IsLawfulInterface i
prototypes_lawful lawful text i within says =
    let short : length text < 2 ^ 32 = omega (arith, within) in
    lawful text i short says

-- what stands for none

pub no_module_sound : IsSoundModule no_module
no_module_sound = record {
  lawful = record {
    types_once = refl;
    symbols_once = refl;
    types = refl;
    globals = refl;
    functions = refl;
    imports_first = refl;
    few_types = omega arith;
    few_globals = omega arith;
    few_functions = omega arith;
  };
  plain = record { lines = refl; names = refl };
}

pub no_interface_lawful : IsLawfulInterface no_interface
unfolding IsDistinct
no_interface_lawful = record {
  named = record {
    reftypes = tt;
    iterator_names = tt;
    slot_names = tt;
    export_names = tt;
    fields_differ = tt;
    iterators = λ k d end. absurd (omega (arith, end));
    slots = λ k d end. absurd (omega (arith, end));
    exports = λ k d end. absurd (omega (arith, end));
    fields = λ k d end. absurd (omega (arith, end));
  };
  numbered = record {
    reftypes = omega arith;
    iterators = omega arith;
    slots = omega arith;
    fields = omega arith;
    exports = omega arith;
  };
}

-- one more

one_sound : (m : Module) → IsSoundModule m → All IsSoundModule (m ∷ [])
one_sound m h zero d below = h
one_sound m h (suc k) d below = absurd (omega (arith, below))

pub more_sound : (ms : List Module) (m : Module) → All IsSoundModule ms → IsSoundModule m → All IsSoundModule (ms ++ m ∷ [])
more_sound ms m all h = All-append IsSoundModule ms (m ∷ []) all (one_sound m h)

pub one_longer : (ms : List Module) (m : Module) → length (ms ++ m ∷ []) ≡ length ms + 1
one_longer [] m = omega arith
one_longer (x ∷ ms) m = let less = one_longer ms m in omega (arith, less)
