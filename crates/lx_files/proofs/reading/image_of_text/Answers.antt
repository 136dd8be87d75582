use Rattle.lx_files.proofs.Sound.{image_lawful}
use Rattle.lx_ir_calls.specs.declared.intrinsics.TextForm.TheVariants.{Image}
use Rattle.lx_files.proofs.Told.{image_told}
use Rattle.lx_files.proofs.reading.image_of_text.Goals as goal

pub returns-in-Ok-clause-lawful : goal.returns-in-Ok-clause-lawful
returns-in-Ok-clause-lawful c = image_lawful c.whole_laws.ensures.lawful c.args.text.now c.in-Ok.image c.requires c.in-Ok.ensures.«module»

pub returns-in-Ok-clause-reads : goal.returns-in-Ok-clause-reads
returns-in-Ok-clause-reads c = c.module_laws.ensures.found Image c.args.text.now c.in-Ok.image c.in-Ok.ensures.«module»

pub returns-in-Err-clause-reads : goal.returns-in-Err-clause-reads
returns-in-Err-clause-reads c =
    image_told c.first_fault_laws.ensures.told c.args.file.now c.args.text.now c.in-Err.fault c.module_stop.result c.in-Err.ensures.fault c.module_stop.ensures
