use Rattle.std.proofs.Common.{◌∙◌}
use Rattle.lx_script.proofs.Table.{same_position}
use Rattle.lx_script.proofs.modules.Modules.number_of.Goals as goal

pub returns-in-Some : goal.returns-in-Some
returns-in-Some c = rw (← c.self.view_is) (c.in-Some.ensures.index ∙ same_position c.args.name.now c.self.inside.files.entries)

pub returns-in-None : goal.returns-in-None
returns-in-None c = rw (← c.self.view_is) (c.in-None.ensures.index ∙ same_position c.args.name.now c.self.inside.files.entries)
