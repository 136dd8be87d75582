use Rattle.std.proofs.Common.{◌∙◌, ap, map}
use Rattle.lx_annot.specs.Canonical.{canonical}
use Rattle.lx_slot_sums.proofs.Classed.{classed}
use Rattle.lx_slot_sums.proofs.classes.classes_of.Goals as goal

pub returns : goal.returns
returns c =
    classed c.args.i.now _ c.in_ok-classes.classes
    (c.as_slice-2.ensures ∙ c.in_ok-texts.ensures ∙ ap (map (λ s. canonical c.args.i.now s.annotation)) c.as_slice.ensures)
    c.in_ok-classes.ensures
