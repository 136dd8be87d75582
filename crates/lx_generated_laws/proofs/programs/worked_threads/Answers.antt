-- Each row computes.
use Rattle.std.proofs.Common.{refl}
use Rattle.lx_generated_laws.proofs.programs.worked_threads.Goals as goal

pub returns : goal.returns
returns c = record { refused = record { account_is = refl; is_whole_is = refl }; returned = record { account_is = refl; is_whole_is = refl } }
