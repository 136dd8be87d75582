-- Each row computes.
use Rattle.std.proofs.Common.{refl}
use Rattle.lx_generated_laws.proofs.programs.worked_rows.Goals as goal

pub returns : goal.returns
returns c = record {
  stored = record { account_is = refl; is_whole_is = refl };
  budget = record { account_is = refl; is_whole_is = refl };
  past = record { account_is = refl; is_whole_is = refl };
  plain_past = refl;
}
