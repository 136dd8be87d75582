use Rattle.std.proofs.Common.{◌≡◌, subst, Some}
use Rattle.std.specs.Prelude.{IfOk}
use Rattle.lx_model.specs.declared.program.Program.{Program}
use Rattle.lx_model.specs.Program.{module_of}
use Rattle.lx_slot_types.specs.Gets.{slot_of}
use Rattle.lx_report.proofs.annotations.slot_in.Goals as goal

pub returns : goal.returns
returns c =
    subst (λ (p : Program). IfOk c.slot_of.result (λ slot. slot ≡ slot_of p.interface (module_of p (Some c.args.home)) c.args.function)) c.args.told.now.same_slots c.slot_of.ensures
