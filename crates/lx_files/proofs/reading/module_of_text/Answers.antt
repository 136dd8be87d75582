use Rattle.lx_files.proofs.Sound.{module_sound}
use Rattle.lx_ir_calls.specs.declared.intrinsics.TextForm.TheVariants.{Program}
use Rattle.lx_files.proofs.Told.{module_told}
use Rattle.lx_files.proofs.reading.module_of_text.Goals as goal

pub returns-in-Ok-clause-sound : goal.returns-in-Ok-clause-sound
returns-in-Ok-clause-sound c =
    module_sound c.whole_laws.ensures.lawful c.whole_laws.ensures.plain c.args.text.now c.in-Ok.«module» c.requires c.in-Ok.ensures.«module»

pub returns-in-Ok-clause-reads : goal.returns-in-Ok-clause-reads
returns-in-Ok-clause-reads c = c.module_laws.ensures.found Program c.args.text.now c.in-Ok.«module» c.in-Ok.ensures.«module»

pub returns-in-Err-clause-reads : goal.returns-in-Err-clause-reads
returns-in-Err-clause-reads c =
    module_told c.first_fault_laws.ensures.told c.args.file.now c.args.text.now c.in-Err.fault c.module_stop.result c.in-Err.ensures.fault c.module_stop.ensures
