use Rattle.std.proofs.Common.{◌∙◌, subst, sym}
use Rattle.lx_images.specs.Guarded.{Accepted}
use Rattle.lx_images.specs.Image.{Code}
use Rattle.lx_code_lines.specs.Lines.{AreLinesOf}
use Rattle.lx_trace.proofs.run.TraceRun.over.Goals as goal

pub new-requires : goal.new-requires
new-requires g c =
    let o = c.requires.2 in
    subst Accepted (sym (c.code.ensures ∙ o.exact.code)) o.accepted

pub returns-in-Ok : goal.returns-in-Ok
returns-in-Ok g c = λ p script o. record {
  of_run = record {
    formed = o.formed;
    images = o.images;
    accepted = o.accepted;
    guarded = o.guarded;
    world = o.stands_for;
    lines = subst (λ (d : Code). AreLinesOf d c.in-Ok.lines) (c.code.ensures ∙ o.exact.code) c.in-Ok.ensures;
  };
  exact = o.exact;
}
