use Rattle.std.proofs.Common.{refl}
use Rattle.lx_cap_lists.specs.Lists.{some_below}
use Rattle.lx_cap_tables.specs.Work.{shut_bound, strip_bound}
use Rattle.lx_cap_tables.proofs.laws.worked_bounds.Goals as goal

pub returns : goal.returns
unfolding some_below shut_bound strip_bound
returns c = record {
  one_part = refl;
  two_parts = refl;
  no_bytes = refl;
  no_call = refl;
  of_loans = refl;
  newest_ends = refl;
  both_end = refl;
  no_more_than_there_are = refl;
  none_ends = refl;
  of_another_thread = refl;
  stripped = refl;
  ended = refl;
}
