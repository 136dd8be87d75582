-- What it means for a request that it may be served.
use Rattle.std.proofs.Common.{◌≡◌, ◌∙◌, ap, sym, ℕ, ◌≤◌, true, arith, leb-true}
use Rattle.std.proofs.lemmas.Bool.Decides.{nat_tests}
use Rattle.lx_caps.specs.Regions.{stack_start}
use Rattle.lx_model.specs.declared.program.Program.{Program}
use Rattle.lx_model.specs.declared.request.What.{What}
use Rattle.lx_model.specs.declared.request.What.TheVariants as what
use Rattle.lx_model.specs.Fits.{FitsStack}
use Rattle.lx_run_laws.specs.Servable.{is_on_stack, is_servable_what}

-- bytes of the stack are asked for at or above its start
pub from_start : (p : Program) (t at size : ℕ) (w : What) → w ≡ what.Alloca at size → is_servable_what p t w ≡ true → stack_start t ≤ at
from_start p t at size w is servable = leb-true (stack_start t) at (ap (is_servable_what p t) (sym is) ∙ servable)

part_of : (t low high : ℕ) → is_on_stack t low high ≡ true → FitsStack t low high
part_of t low high on = (grind (arith, nat_tests), grind (arith, nat_tests), grind (arith, nat_tests))

-- what a function gives back is a part of its thread's stack
pub stack_part : (p : Program) (t low high : ℕ) (w : What) → w ≡ what.Return low high → is_servable_what p t w ≡ true → FitsStack t low high
stack_part p t low high w is servable = part_of t low high (ap (is_servable_what p t) (sym is) ∙ servable)
