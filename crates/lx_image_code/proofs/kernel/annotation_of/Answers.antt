use Rattle.lx_image_code.proofs.Made.{exported_at, not_exported}
use Rattle.lx_image_code.proofs.kernel.annotation_of.Goals as goal

pub returns-in-Some : goal.returns-in-Some
returns-in-Some c = exported_at c.args.interface.now c.args.names.now c.args.name.now c.in-Some.place _ c.requires c.in-Some.ensures.place c.annotation_at.ensures

pub returns-in-None : goal.returns-in-None
returns-in-None c = not_exported c.args.interface.now c.args.names.now c.args.name.now c.requires c.in-None.ensures.place
