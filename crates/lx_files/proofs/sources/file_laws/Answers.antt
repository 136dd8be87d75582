use Rattle.lx_ir_calls.specs.declared.intrinsics.TextForm.TheVariants.{Program, Image}
use Rattle.lx_script.specs.Grammar.{SaysCase, FirstCaseFault}
use Rattle.lx_script.specs.Schedule.{Reads as SaysSchedule, FirstScheduleFault}
use Rattle.lx_ir_read.specs.Grammar.{IsModule}
use Rattle.lx_ir_complete.specs.FaultOfText.{IsFirstFault}
use Rattle.lx_annot_laws.specs.Statements.{IsInterface}
use Rattle.lx_annot_laws.specs.Declarations.{ArePrototypes}
use Rattle.lx_annot_laws.specs.FaultOfText.{IsFirstInterfaceFault, IsFirstPrototypeFault}
use Rattle.lx_files.specs.Laws.{IsSure}
use Rattle.lx_files.proofs.Dialects.{either_sure}
use Rattle.lx_files.proofs.OneInput.{sources_one, sources_end}
use Rattle.lx_files.proofs.sources.file_laws.Goals as goal

pub returns : goal.returns
returns c =
    let case : IsSure SaysCase FirstCaseFault = record { value = c.one_case.ensures.value; fault = c.one_case.ensures.fault; apart = c.one_case.ensures.apart } in
    let schedule : IsSure SaysSchedule FirstScheduleFault = record { value = c.one_schedule.ensures.value; fault = c.one_schedule.ensures.fault; apart = c.one_schedule.ensures.apart } in
    let read : IsSure (IsModule Program) (IsFirstFault Program) = record { value = c.module_is_read_laws.ensures.one Program; fault = c.first_fault_laws.ensures.one Program; apart = λ text m f is first. first.none m is } in
    let image : IsSure (IsModule Image) (IsFirstFault Image) = record { value = c.module_is_read_laws.ensures.one Image; fault = c.first_fault_laws.ensures.one Image; apart = λ text m f is first. first.none m is } in
    let statements : IsSure IsInterface IsFirstInterfaceFault = record { value = c.interface_laws.ensures.one; fault = λ text e f x y. c.interface_laws.ensures.fault text e f x.first y.first; apart = λ text i f is first. first.none i is } in
    let prototypes : IsSure ArePrototypes IsFirstPrototypeFault = record { value = c.prototype_laws.ensures.one; fault = λ text e f x y. c.prototype_laws.ensures.fault text e f x.first y.first; apart = λ text i f is first. first.none i is } in
    let interface = either_sure statements prototypes in
    record {
      one = λ files name asked. sources_one case read image interface schedule files asked name;
      missing = λ files name asked. sources_end case read image interface schedule files asked name;
    }
