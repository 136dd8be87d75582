use Rattle.std.proofs.Common.{refl}
use Rattle.lx_writer_sets.proofs.BoundLemmas.{two_where_clean}
use Rattle.lx_writer_sets.specs.Work.{some_below, look_bound, note_bound}
use Rattle.lx_writer_sets.proofs.laws.writer_look_laws.Goals as goal

pub returns : goal.returns
unfolding some_below look_bound note_bound
returns c = record {
  clean_parts = λ h slot first last. two_where_clean h slot first last;
  other_part = refl;
  same_part = refl;
  over_the_edge = refl;
  here = refl;
  outside = refl;
  two_writers = refl;
  two_parts = refl;
  zeroed = refl;
  notes_slot = refl;
  notes_over_the_edge = refl;
  notes_page = refl;
  notes_nothing = refl;
}
