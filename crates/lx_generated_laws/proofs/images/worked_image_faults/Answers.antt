-- Each row is computed; that no walk reaches the second block of a function is seen by its first block.
use Rattle.std.proofs.Common.{◌≡◌, ℕ, zero, suc, true, false, List, [], ◌∷◌, None, inr, refl, arith}
use Rattle.lx_ir.specs.Lawful.{IsLawful}
use Rattle.lx_ir.specs.Faults.{Walk, has_edge, IsUnassigned, FirstFault}
use Rattle.lx_generated_laws.specs.ImageTexts.{unreached_function, unreached}
use Rattle.lx_generated_laws.proofs.images.worked_image_faults.Goals as goal

false_true : {A : Type 0} → false ≡ true → A
false_true e = cc

no_edge : (p : ℕ) → has_edge unreached_function p 1 ≡ true → ⊥
no_edge zero e = false_true e
no_edge (suc zero) e = false_true e
no_edge (suc (suc p)) e = false_true e

no_walk : (ps : List ℕ) → Walk unreached_function ps 1 → ⊥
no_walk [] e = absurd (omega (arith, e))
no_walk (p ∷ ps) w = no_edge p w.0

none_unassigned : (place r line : ℕ) → IsUnassigned unreached_function (record { block = 1; place = place; register = r; line = line }) → ⊥
none_unassigned place r line u = no_walk u.walk u.comes

verifies : FirstFault unreached None
verifies = inr (inr (none_unassigned 0 1 4, inr (none_unassigned 1 0 5, inr (none_unassigned 1 1 5, refl))), refl)

lawful : IsLawful unreached
lawful = record { types_once = refl; symbols_once = refl; types = refl; globals = refl; functions = refl; imports_first = refl; few_types = omega arith; few_globals = omega arith; few_functions = omega arith }

pub returns : goal.returns
returns c =
    record {
      stored = refl;
      other_size = refl;
      bare = refl;
      twice = refl;
      behind = refl;
      entered = refl;
      further = refl;
      hooked = refl;
      unchecked = refl;
      reached = refl;
      no_post = refl;
      spared = refl;
      guarded = refl;
      too_wide = refl;
      let_go = refl;
      unreached_lawful = lawful;
      unreached_verifies = verifies;
      unreached_image = refl;
      unreached_numbers = refl;
      unreached_program = refl;
    }
