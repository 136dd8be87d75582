-- Interfaces may be handed to threads and shared by them, type by type.
use denote.Param.Send.{IsSend, IsSync, sendable}
use Rattle.std.proofs.Crossing.{crosses}
use Rattle.lx_annot.proofs.expr.Expr.TheLaws.TheKnot as ExprKnot
use Rattle.lx_annot.proofs.action.Action.TheLaws.TheKnot as ActionKnot
use Rattle.lx_annot.specs.contracts.expr.Expr as Expr
use Rattle.lx_annot.specs.contracts.action.CapSpec as CapSpec
use Rattle.lx_annot.specs.contracts.action.Action as Action
use Rattle.lx_annot.specs.contracts.action.Who as Who
use Rattle.lx_annot.specs.contracts.action.Annotation as Annotation
use Rattle.lx_annot.specs.contracts.interface.Item as Item
use Rattle.lx_annot.specs.contracts.interface.CapIterator as CapIterator
use Rattle.lx_annot.specs.contracts.interface.Parameter as Parameter
use Rattle.lx_annot.specs.contracts.interface.Slot as Slot
use Rattle.lx_annot.specs.contracts.interface.Export as Export
use Rattle.lx_annot.specs.contracts.interface.Field as Field
use Rattle.lx_annot.specs.contracts.interface.Interface as Interface

pub expr_sync : IsSync Expr.the_row
expr_sync = search (crosses, ExprKnot.crosses, sendable) depth 60 fits 20000

pub expr_field_sync : IsSync (Expr.the_field).row
expr_field_sync = expr_sync

pub expr_send : IsSend Expr.the_row
expr_send = search (crosses, ExprKnot.crosses, sendable) depth 60 fits 20000

pub expr_field_send : IsSend (Expr.the_field).row
expr_field_send = expr_send

pub cap_spec_field_sync : IsSync (CapSpec.the_field).row
cap_spec_field_sync = search (expr_field_sync, crosses, sendable) depth 60 fits 20000

pub cap_spec_sync : IsSync CapSpec.the_row
cap_spec_sync = search (cap_spec_field_sync, sendable) depth 60 fits 20000

pub cap_spec_field_send : IsSend (CapSpec.the_field).row
cap_spec_field_send = search (expr_field_send, crosses, sendable) depth 60 fits 20000

pub cap_spec_send : IsSend CapSpec.the_row
cap_spec_send = search (cap_spec_field_send, sendable) depth 60 fits 20000

pub action_sync : IsSync Action.the_row
action_sync = search (expr_field_sync, cap_spec_sync, crosses, ActionKnot.crosses, sendable) depth 60 fits 20000

pub action_field_sync : IsSync (Action.the_field).row
action_field_sync = action_sync

pub action_send : IsSend Action.the_row
action_send = search (expr_field_send, cap_spec_send, crosses, ActionKnot.crosses, sendable) depth 60 fits 20000

pub action_field_send : IsSend (Action.the_field).row
action_field_send = action_send

pub who_field_sync : IsSync (Who.the_field).row
who_field_sync = search (expr_field_sync, crosses, sendable) depth 60 fits 20000

pub who_sync : IsSync Who.the_row
who_sync = search (who_field_sync, sendable) depth 60 fits 20000

pub who_field_send : IsSend (Who.the_field).row
who_field_send = search (expr_field_send, crosses, sendable) depth 60 fits 20000

pub who_send : IsSend Who.the_row
who_send = search (who_field_send, sendable) depth 60 fits 20000

pub annotation_field_sync : IsSync (Annotation.the_field).row
annotation_field_sync = search (who_sync, action_field_sync, crosses, sendable) depth 60 fits 20000

pub annotation_sync : IsSync Annotation.the_row
annotation_sync = search (annotation_field_sync, sendable) depth 60 fits 20000

pub annotation_field_send : IsSend (Annotation.the_field).row
annotation_field_send = search (who_send, action_field_send, crosses, sendable) depth 60 fits 20000

pub annotation_send : IsSend Annotation.the_row
annotation_send = search (annotation_field_send, sendable) depth 60 fits 20000

pub item_field_sync : IsSync (Item.the_field).row
item_field_sync = search (expr_field_sync, cap_spec_field_sync, crosses, sendable) depth 60 fits 20000

pub item_sync : IsSync Item.the_row
item_sync = search (item_field_sync, sendable) depth 60 fits 20000

pub item_field_send : IsSend (Item.the_field).row
item_field_send = search (expr_field_send, cap_spec_field_send, crosses, sendable) depth 60 fits 20000

pub item_send : IsSend Item.the_row
item_send = search (item_field_send, sendable) depth 60 fits 20000

pub iterator_field_sync : IsSync (CapIterator.the_field).row
iterator_field_sync = search (item_sync, crosses, sendable) depth 60 fits 20000

pub iterator_sync : IsSync CapIterator.the_row
iterator_sync = search (iterator_field_sync, sendable) depth 60 fits 20000

pub iterator_field_send : IsSend (CapIterator.the_field).row
iterator_field_send = search (item_send, crosses, sendable) depth 60 fits 20000

pub iterator_send : IsSend CapIterator.the_row
iterator_send = search (iterator_field_send, sendable) depth 60 fits 20000

pub parameter_field_sync : IsSync (Parameter.the_field).row
parameter_field_sync = search (crosses, sendable) depth 60 fits 20000

pub parameter_sync : IsSync Parameter.the_row
parameter_sync = search (parameter_field_sync, sendable) depth 60 fits 20000

pub parameter_field_send : IsSend (Parameter.the_field).row
parameter_field_send = search (crosses, sendable) depth 60 fits 20000

pub parameter_send : IsSend Parameter.the_row
parameter_send = search (parameter_field_send, sendable) depth 60 fits 20000

pub slot_field_sync : IsSync (Slot.the_field).row
slot_field_sync = search (annotation_field_sync, parameter_sync, crosses, sendable) depth 60 fits 20000

pub slot_sync : IsSync Slot.the_row
slot_sync = search (slot_field_sync, sendable) depth 60 fits 20000

pub slot_field_send : IsSend (Slot.the_field).row
slot_field_send = search (annotation_field_send, parameter_send, crosses, sendable) depth 60 fits 20000

pub slot_send : IsSend Slot.the_row
slot_send = search (slot_field_send, sendable) depth 60 fits 20000

pub export_field_sync : IsSync (Export.the_field).row
export_field_sync = search (annotation_field_sync, parameter_sync, crosses, sendable) depth 60 fits 20000

pub export_sync : IsSync Export.the_row
export_sync = search (export_field_sync, sendable) depth 60 fits 20000

pub export_field_send : IsSend (Export.the_field).row
export_field_send = search (annotation_field_send, parameter_send, crosses, sendable) depth 60 fits 20000

pub export_send : IsSend Export.the_row
export_send = search (export_field_send, sendable) depth 60 fits 20000

pub field_field_sync : IsSync (Field.the_field).row
field_field_sync = search (crosses, sendable) depth 60 fits 20000

pub field_sync : IsSync Field.the_row
field_sync = search (field_field_sync, sendable) depth 60 fits 20000

pub field_field_send : IsSend (Field.the_field).row
field_field_send = search (crosses, sendable) depth 60 fits 20000

pub field_send : IsSend Field.the_row
field_send = search (field_field_send, sendable) depth 60 fits 20000

pub interface_field_sync : IsSync (Interface.the_field).row
interface_field_sync = search (iterator_sync, slot_sync, export_sync, field_sync, crosses, sendable) depth 60 fits 20000

pub interface_sync : IsSync Interface.the_row
interface_sync = search (interface_field_sync, sendable) depth 60 fits 20000

pub interface_field_send : IsSend (Interface.the_field).row
interface_field_send = search (iterator_send, slot_send, export_send, field_send, crosses, sendable) depth 60 fits 20000

pub interface_send : IsSend Interface.the_row
interface_send = search (interface_field_send, sendable) depth 60 fits 20000
