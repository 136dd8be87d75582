use Rattle.lx_script.proofs.Table.{added}
use Rattle.lx_script.proofs.modules.Modules.add.Goals as goal

pub returns-clause-ok : goal.returns-clause-ok
returns-clause-ok c = rw (← c.self.view_is) (added c.args.name c.args.file c.self.inside.files.entries c.insert.new.self.entries (rw c.self.view_is c.requires.new) c.in_ok-insert.ensures.entries)
