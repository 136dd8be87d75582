-- Programs may be handed to threads and shared by them.
use denote.Param.Send.{IsSend, IsSync, sendable}
use Rattle.std.proofs.Crossing.{crosses}
use Rattle.lx_ir.proofs.Crossing.{module_field_sync, module_sync, module_field_send, module_send}
use Rattle.lx_annot.proofs.Crossing.{interface_field_sync, interface_sync, interface_field_send, interface_send}
use Rattle.lx_model.specs.contracts.program.ProgramModule as ProgramModule
use Rattle.lx_model.specs.contracts.program.Program as Program

pub program_module_field_sync : IsSync (ProgramModule.the_field).row
program_module_field_sync = search (module_field_sync, module_sync, crosses, sendable) depth 60 fits 20000

pub program_module_sync : IsSync ProgramModule.the_row
program_module_sync = search (program_module_field_sync, sendable) depth 60 fits 20000

pub program_module_field_send : IsSend (ProgramModule.the_field).row
program_module_field_send = search (module_field_send, module_send, crosses, sendable) depth 60 fits 20000

pub program_module_send : IsSend ProgramModule.the_row
program_module_send = search (program_module_field_send, sendable) depth 60 fits 20000

pub program_field_sync : IsSync (Program.the_field).row
program_field_sync = search (module_field_sync, module_sync, program_module_field_sync, program_module_sync, interface_field_sync, interface_sync, crosses, sendable) depth 60 fits 20000

pub program_sync : IsSync Program.the_row
program_sync = search (program_field_sync, sendable) depth 60 fits 20000

pub program_field_send : IsSend (Program.the_field).row
program_field_send = search (module_field_send, module_send, program_module_field_send, program_module_send, interface_field_send, interface_send, crosses, sendable) depth 60 fits 20000

pub program_send : IsSend Program.the_row
program_send = search (program_field_send, sendable) depth 60 fits 20000
