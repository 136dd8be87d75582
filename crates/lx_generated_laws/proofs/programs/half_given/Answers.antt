-- The row computes.
use Rattle.std.proofs.Common.{refl}
use Rattle.lx_generated_laws.proofs.programs.half_given.Goals as goal

pub returns : goal.returns
returns c = record { account_is = refl; is_whole_is = refl }
