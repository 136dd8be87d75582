-- What threads share may be sent to another thread.
use denote.RattleType.{RattleType}
use denote.Param.Send.{IsSend, sendable}
use denote.Param.SendFields.{declared_send, as_row_send}
use Rattle.std.proofs.Crossing.{crosses}
use Rattle.lx_model.proofs.Crossing.{program_sync, program_send}
use Rattle.lx_serve.specs.contracts.linked.LinkedProgram as LinkedProgram
use Rattle.lx_serve.specs.contracts.shared.SharedPart as SharedPart
use Rattle.lx_serve.proofs.monitor.Monitor.TheSendSync.{the_send as monitor_send}

pub linked_field_send : IsSend (LinkedProgram.the_field).row
linked_field_send = search (program_sync, program_send, crosses, sendable) depth 60 fits 20000

pub linked_send : IsSend LinkedProgram.the_row
linked_send = search (linked_field_send, sendable) depth 60 fits 20000

-- what threads share may be sent where its store may be
pub part_send : (T : RattleType) → IsSend T → IsSend (SharedPart.the_row T)
part_send T s =
    declared_send (SharedPart.the_type T)
    (search (linked_send, sendable) depth 60 fits 20000, (monitor_send T s, (search (crosses, as_row_send, sendable) depth 60 fits 20000, tt)))
