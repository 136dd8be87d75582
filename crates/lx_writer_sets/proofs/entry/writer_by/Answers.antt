use Rattle.std.proofs.Common.{◌∙◌, sym}
use Rattle.lx_writer_sets.proofs.Lists.{found_here, none_passes, none_touched}
use Rattle.lx_writer_sets.proofs.entry.writer_by.Goals.{else-touches-via-then-touches+else-passes, else-touches-via-else-touches}
use Rattle.lx_writer_sets.proofs.entry.writer_by.Goals as goal

pub returns-then-passes : goal.returns-then-passes
returns-then-passes g c t tells =
    found_here t c.args.entry c.args.at.part c.args.at.slot (sym (c.passes.ensures t tells) ∙ c.if-passes.true) (sym c.touches.ensures ∙ c.if-touches.true)

pub returns-else-touches : goal.returns-else-touches
returns-else-touches g c t tells = elim c.else-touches.branch [
  | else-touches-via-then-touches+else-passes w ↦ none_passes t c.args.entry c.args.at.part c.args.at.slot (sym (w.passes.ensures t tells) ∙ w.if-passes.false)
  | else-touches-via-else-touches w ↦ none_touched t c.args.entry c.args.at.part c.args.at.slot (sym c.touches.ensures ∙ w.if-touches.false)
]
