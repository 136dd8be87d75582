use Rattle.std.proofs.Common.{◌∙◌, sym, bytes_eq}
use Rattle.lx_annot.specs.declared.interface.Parameter.{Parameter}
use Rattle.lx_annot_expressions.proofs.Numbered.{position_mapped}
use Rattle.lx_annot_expressions.proofs.exprs.place_of.Goals as goal

pub returns : goal.returns
returns c = c.first_named.ensures ∙ sym (position_mapped (bytes_eq c.args.name.now) (λ (p : Parameter). p.name) c.args.params.now)
