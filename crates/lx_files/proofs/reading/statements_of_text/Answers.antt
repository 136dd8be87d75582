use Rattle.lx_files.proofs.Sound.{interface_lawful}
use Rattle.lx_files.specs.declared.line.FaultKind.TheVariants as kinds
use Rattle.lx_files.proofs.Told.{interface_told}
use Rattle.lx_files.proofs.reading.statements_of_text.Goals as goal

pub returns-in-Ok-clause-lawful : goal.returns-in-Ok-clause-lawful
returns-in-Ok-clause-lawful c = interface_lawful c.lawful_laws.ensures c.args.text.now c.in-Ok.interface c.requires c.in-Ok.ensures.ok

pub returns-in-Ok-clause-reads : goal.returns-in-Ok-clause-reads
returns-in-Ok-clause-reads c = c.interface_laws.ensures.found c.args.text.now c.in-Ok.interface c.in-Ok.ensures.ok

pub returns-in-Err-clause-reads : goal.returns-in-Err-clause-reads
returns-in-Err-clause-reads c =
    interface_told c.first_interface_fault_laws.ensures.statements c.args.file.now c.args.text.now kinds.Interface c.in-Err.fault c.interface_stop.result c.in-Err.ensures.fault c.interface_stop.ensures
