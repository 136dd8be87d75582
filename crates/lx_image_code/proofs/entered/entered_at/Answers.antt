use Rattle.std.proofs.Common.{◌∙◌, sym}
use Rattle.lx_image_code.proofs.Naming.{not_entered}
use Rattle.lx_image_code.proofs.entered.entered_at.Goals as goal

pub returns-in-Some : goal.returns-in-Some
returns-in-Some c = λ code has. has.each c.args.number c.in-Some.wrapper (sym c.wrapper_at.ensures ∙ c.in-Some.is)

pub returns-in-None : goal.returns-in-None
returns-in-None c = λ code has. not_entered code c.args.entered.now c.args.number has (sym c.in-None.is ∙ c.wrapper_at.ensures)
