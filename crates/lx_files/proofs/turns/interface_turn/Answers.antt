use Rattle.std.proofs.Common.{sym, subst}
use Rattle.lx_annot.specs.Lawful.{IsLawfulInterface}
use Rattle.lx_files.proofs.Sound.{no_interface_lawful}
use Rattle.lx_files.proofs.turns.interface_turn.Goals as goal

pub returns-in-None-clause-lawful : goal.returns-in-None-clause-lawful
returns-in-None-clause-lawful g c = subst IsLawfulInterface (sym c.no_interface.ensures) no_interface_lawful
