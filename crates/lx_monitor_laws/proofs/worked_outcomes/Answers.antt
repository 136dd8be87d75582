-- Each row computes.
use Rattle.std.proofs.Common.{refl}
use Rattle.lx_report.specs.Report.{address_text, number_text, signed_word_text}
use Rattle.lx_monitor_laws.proofs.worked_outcomes.Goals as goal

pub returns : goal.returns
unfolding number_text address_text signed_word_text
returns c = record {
  nothing = refl;
  value = refl;
  negative = refl;
  budget = refl;
  unmapped = refl;
  division = refl;
  unreachable = refl;
  stack_full = refl;
  too_deep = refl;
  signature = refl;
  not_live = refl;
  write = refl;
  call = refl;
  reference = refl;
  not_annotated = refl;
  other_annotation = refl;
  writer = refl;
  on_stack = refl;
  outside = refl;
  alias = refl;
  borrowed_range = refl;
  borrowed_call = refl;
  borrowed_reference = refl;
}
