-- Modules may be handed to threads and shared by them. One type after the other: a search through all of them at once meets its limits.
use denote.Param.Send.{IsSend, IsSync, sendable, enum_send, enum_sync, EachSend, EachSync}
use denote.Enum.Declared as E
use Rattle.std.proofs.Crossing.{crosses}
use Rattle.lx_ir.proofs.types.IrType.TheLaws.TheKnot as IrTypeKnot
use Rattle.lx_ir.proofs.module.Init.TheLaws.TheKnot as InitKnot
use Rattle.lx_ir.specs.contracts.types.IrType as IrType
use Rattle.lx_ir.specs.contracts.types.NamedType as NamedType
use Rattle.lx_ir.specs.contracts.layout.Layout as Layout
use Rattle.lx_ir.specs.contracts.named.NamedTypes as NamedTypes
use Rattle.lx_ir.specs.contracts.instr.Edge as Edge
use Rattle.lx_ir.specs.contracts.instr.SwitchCase as SwitchCase
use Rattle.lx_ir.specs.contracts.instr.Argument as Argument
use Rattle.lx_ir.specs.contracts.instr.Callee as Callee
use Rattle.lx_ir.specs.contracts.module.Value as Value
use Rattle.lx_ir.specs.contracts.instr.Op as Op
use Rattle.lx_ir.specs.contracts.instr.Instr as Instr
use Rattle.lx_ir.specs.contracts.module.Init as Init
use Rattle.lx_ir.specs.contracts.module.Block as Block
use Rattle.lx_ir.specs.contracts.module.GlobalVar as GlobalVar
use Rattle.lx_ir.specs.contracts.module.Parameter as Parameter
use Rattle.lx_ir.specs.contracts.module.Function as Function
use Rattle.lx_ir.specs.contracts.module.Module as Module

pub ir_type_sync : IsSync IrType.the_row
ir_type_sync = search (crosses, IrTypeKnot.crosses, sendable) depth 60 fits 20000

pub ir_type_field_sync : IsSync (IrType.the_field).row
ir_type_field_sync = ir_type_sync

pub ir_type_send : IsSend IrType.the_row
ir_type_send = search (crosses, IrTypeKnot.crosses, sendable) depth 60 fits 20000

pub ir_type_field_send : IsSend (IrType.the_field).row
ir_type_field_send = ir_type_send

pub init_sync : IsSync Init.the_row
init_sync = search (ir_type_field_sync, crosses, InitKnot.crosses, sendable) depth 60 fits 20000

pub init_field_sync : IsSync (Init.the_field).row
init_field_sync = init_sync

pub init_send : IsSend Init.the_row
init_send = search (ir_type_field_send, crosses, InitKnot.crosses, sendable) depth 60 fits 20000

pub init_field_send : IsSend (Init.the_field).row
init_field_send = init_send

pub named_type_field_sync : IsSync (NamedType.the_field).row
named_type_field_sync = search (ir_type_field_sync, crosses, sendable) depth 60 fits 20000

pub named_type_sync : IsSync NamedType.the_row
named_type_sync = search (named_type_field_sync, sendable) depth 60 fits 20000

pub named_type_field_send : IsSend (NamedType.the_field).row
named_type_field_send = search (ir_type_field_send, crosses, sendable) depth 60 fits 20000

pub named_type_send : IsSend NamedType.the_row
named_type_send = search (named_type_field_send, sendable) depth 60 fits 20000

pub layout_sync : IsSync Layout.the_row
layout_sync = search (crosses, sendable) depth 60 fits 20000

pub layout_send : IsSend Layout.the_row
layout_send = search (crosses, sendable) depth 60 fits 20000

pub named_types_sync : IsSync NamedTypes.the_row
named_types_sync = search (named_type_sync, layout_sync, crosses, sendable) depth 60 fits 20000

pub named_types_send : IsSend NamedTypes.the_row
named_types_send = search (named_type_send, layout_send, crosses, sendable) depth 60 fits 20000

pub value_field_sync : IsSync (Value.the_field).row
value_field_sync = search (crosses, sendable) depth 60 fits 20000

pub value_sync : IsSync Value.the_row
value_sync = search (value_field_sync, sendable) depth 60 fits 20000

pub value_field_send : IsSend (Value.the_field).row
value_field_send = search (crosses, sendable) depth 60 fits 20000

pub value_send : IsSend Value.the_row
value_send = search (value_field_send, sendable) depth 60 fits 20000

pub edge_field_sync : IsSync (Edge.the_field).row
edge_field_sync = search (value_field_sync, crosses, sendable) depth 60 fits 20000

pub edge_sync : IsSync Edge.the_row
edge_sync = search (edge_field_sync, sendable) depth 60 fits 20000

pub edge_field_send : IsSend (Edge.the_field).row
edge_field_send = search (value_field_send, crosses, sendable) depth 60 fits 20000

pub edge_send : IsSend Edge.the_row
edge_send = search (edge_field_send, sendable) depth 60 fits 20000

pub switch_case_field_sync : IsSync (SwitchCase.the_field).row
switch_case_field_sync = search (value_field_sync, crosses, sendable) depth 60 fits 20000

pub switch_case_sync : IsSync SwitchCase.the_row
switch_case_sync = search (switch_case_field_sync, sendable) depth 60 fits 20000

pub switch_case_field_send : IsSend (SwitchCase.the_field).row
switch_case_field_send = search (value_field_send, crosses, sendable) depth 60 fits 20000

pub switch_case_send : IsSend SwitchCase.the_row
switch_case_send = search (switch_case_field_send, sendable) depth 60 fits 20000

pub argument_field_sync : IsSync (Argument.the_field).row
argument_field_sync = search (value_field_sync, crosses, sendable) depth 60 fits 20000

pub argument_sync : IsSync Argument.the_row
argument_sync = search (argument_field_sync, sendable) depth 60 fits 20000

pub argument_field_send : IsSend (Argument.the_field).row
argument_field_send = search (value_field_send, crosses, sendable) depth 60 fits 20000

pub argument_send : IsSend Argument.the_row
argument_send = search (argument_field_send, sendable) depth 60 fits 20000

pub callee_field_sync : IsSync (Callee.the_field).row
callee_field_sync = search (crosses, sendable) depth 60 fits 20000

pub callee_sync : IsSync Callee.the_row
callee_sync = search (callee_field_sync, sendable) depth 60 fits 20000

pub callee_field_send : IsSend (Callee.the_field).row
callee_field_send = search (crosses, sendable) depth 60 fits 20000

pub callee_send : IsSend Callee.the_row
callee_send = search (callee_field_send, sendable) depth 60 fits 20000

ruleset op_parts_sync = (ir_type_field_sync, ir_type_sync, value_field_sync, value_sync, edge_field_sync, edge_sync, switch_case_field_sync, switch_case_sync, argument_field_sync, argument_sync, callee_field_sync, callee_sync)

-- one search for each variant
op_each_sync : EachSync (E.shape Op.the_type).variants
op_each_sync = (
  search (op_parts_sync, crosses, sendable) depth 60 fits 20000,
  (
    search (op_parts_sync, crosses, sendable) depth 60 fits 20000,
    (
      search (op_parts_sync, crosses, sendable) depth 60 fits 20000,
      (
        search (op_parts_sync, crosses, sendable) depth 60 fits 20000,
        (
          search (op_parts_sync, crosses, sendable) depth 60 fits 20000,
          (
            search (op_parts_sync, crosses, sendable) depth 60 fits 20000,
            (
              search (op_parts_sync, crosses, sendable) depth 60 fits 20000,
              (
                search (op_parts_sync, crosses, sendable) depth 60 fits 20000,
                (
                  search (op_parts_sync, crosses, sendable) depth 60 fits 20000,
                  (
                    search (op_parts_sync, crosses, sendable) depth 60 fits 20000,
                    (
                      search (op_parts_sync, crosses, sendable) depth 60 fits 20000,
                      (
                        search (op_parts_sync, crosses, sendable) depth 60 fits 20000,
                        (
                          search (op_parts_sync, crosses, sendable) depth 60 fits 20000,
                          (
                            search (op_parts_sync, crosses, sendable) depth 60 fits 20000,
                            (
                              search (op_parts_sync, crosses, sendable) depth 60 fits 20000,
                              (
                                search (op_parts_sync, crosses, sendable) depth 60 fits 20000,
                                (
                                  search (op_parts_sync, crosses, sendable) depth 60 fits 20000,
                                  (
                                    search (op_parts_sync, crosses, sendable) depth 60 fits 20000,
                                    (
                                      search (op_parts_sync, crosses, sendable) depth 60 fits 20000,
                                      (
                                        search (op_parts_sync, crosses, sendable) depth 60 fits 20000,
                                        (
                                          search (op_parts_sync, crosses, sendable) depth 60 fits 20000,
                                          (
                                            search (op_parts_sync, crosses, sendable) depth 60 fits 20000,
                                            (
                                              search (op_parts_sync, crosses, sendable) depth 60 fits 20000,
                                              (
                                                search (op_parts_sync, crosses, sendable) depth 60 fits 20000,
                                                tt,
                                              ),
                                            ),
                                          ),
                                        ),
                                      ),
                                    ),
                                  ),
                                ),
                              ),
                            ),
                          ),
                        ),
                      ),
                    ),
                  ),
                ),
              ),
            ),
          ),
        ),
      ),
    ),
  ),
)

pub op_field_sync : IsSync (Op.the_field).row
op_field_sync = enum_sync (E.shape Op.the_type) op_each_sync

pub op_sync : IsSync Op.the_row
op_sync = search (op_field_sync, sendable) depth 60 fits 20000

ruleset op_parts_send = (ir_type_field_send, ir_type_send, value_field_send, value_send, edge_field_send, edge_send, switch_case_field_send, switch_case_send, argument_field_send, argument_send, callee_field_send, callee_send)

-- one search for each variant
op_each_send : EachSend (E.shape Op.the_type).variants
op_each_send = (
  search (op_parts_send, crosses, sendable) depth 60 fits 20000,
  (
    search (op_parts_send, crosses, sendable) depth 60 fits 20000,
    (
      search (op_parts_send, crosses, sendable) depth 60 fits 20000,
      (
        search (op_parts_send, crosses, sendable) depth 60 fits 20000,
        (
          search (op_parts_send, crosses, sendable) depth 60 fits 20000,
          (
            search (op_parts_send, crosses, sendable) depth 60 fits 20000,
            (
              search (op_parts_send, crosses, sendable) depth 60 fits 20000,
              (
                search (op_parts_send, crosses, sendable) depth 60 fits 20000,
                (
                  search (op_parts_send, crosses, sendable) depth 60 fits 20000,
                  (
                    search (op_parts_send, crosses, sendable) depth 60 fits 20000,
                    (
                      search (op_parts_send, crosses, sendable) depth 60 fits 20000,
                      (
                        search (op_parts_send, crosses, sendable) depth 60 fits 20000,
                        (
                          search (op_parts_send, crosses, sendable) depth 60 fits 20000,
                          (
                            search (op_parts_send, crosses, sendable) depth 60 fits 20000,
                            (
                              search (op_parts_send, crosses, sendable) depth 60 fits 20000,
                              (
                                search (op_parts_send, crosses, sendable) depth 60 fits 20000,
                                (
                                  search (op_parts_send, crosses, sendable) depth 60 fits 20000,
                                  (
                                    search (op_parts_send, crosses, sendable) depth 60 fits 20000,
                                    (
                                      search (op_parts_send, crosses, sendable) depth 60 fits 20000,
                                      (
                                        search (op_parts_send, crosses, sendable) depth 60 fits 20000,
                                        (
                                          search (op_parts_send, crosses, sendable) depth 60 fits 20000,
                                          (
                                            search (op_parts_send, crosses, sendable) depth 60 fits 20000,
                                            (
                                              search (op_parts_send, crosses, sendable) depth 60 fits 20000,
                                              (
                                                search (op_parts_send, crosses, sendable) depth 60 fits 20000,
                                                tt,
                                              ),
                                            ),
                                          ),
                                        ),
                                      ),
                                    ),
                                  ),
                                ),
                              ),
                            ),
                          ),
                        ),
                      ),
                    ),
                  ),
                ),
              ),
            ),
          ),
        ),
      ),
    ),
  ),
)

pub op_field_send : IsSend (Op.the_field).row
op_field_send = enum_send (E.shape Op.the_type) op_each_send

pub op_send : IsSend Op.the_row
op_send = search (op_field_send, sendable) depth 60 fits 20000

pub instr_field_sync : IsSync (Instr.the_field).row
instr_field_sync = search (op_field_sync, crosses, sendable) depth 60 fits 20000

pub instr_sync : IsSync Instr.the_row
instr_sync = search (instr_field_sync, sendable) depth 60 fits 20000

pub instr_field_send : IsSend (Instr.the_field).row
instr_field_send = search (op_field_send, crosses, sendable) depth 60 fits 20000

pub instr_send : IsSend Instr.the_row
instr_send = search (instr_field_send, sendable) depth 60 fits 20000

pub block_field_sync : IsSync (Block.the_field).row
block_field_sync = search (instr_sync, crosses, sendable) depth 60 fits 20000

pub block_sync : IsSync Block.the_row
block_sync = search (block_field_sync, sendable) depth 60 fits 20000

pub block_field_send : IsSend (Block.the_field).row
block_field_send = search (instr_send, crosses, sendable) depth 60 fits 20000

pub block_send : IsSend Block.the_row
block_send = search (block_field_send, sendable) depth 60 fits 20000

pub global_var_field_sync : IsSync (GlobalVar.the_field).row
global_var_field_sync = search (ir_type_field_sync, init_field_sync, crosses, sendable) depth 60 fits 20000

pub global_var_sync : IsSync GlobalVar.the_row
global_var_sync = search (global_var_field_sync, sendable) depth 60 fits 20000

pub global_var_field_send : IsSend (GlobalVar.the_field).row
global_var_field_send = search (ir_type_field_send, init_field_send, crosses, sendable) depth 60 fits 20000

pub global_var_send : IsSend GlobalVar.the_row
global_var_send = search (global_var_field_send, sendable) depth 60 fits 20000

pub parameter_field_sync : IsSync (Parameter.the_field).row
parameter_field_sync = search (crosses, sendable) depth 60 fits 20000

pub parameter_sync : IsSync Parameter.the_row
parameter_sync = search (parameter_field_sync, sendable) depth 60 fits 20000

pub parameter_field_send : IsSend (Parameter.the_field).row
parameter_field_send = search (crosses, sendable) depth 60 fits 20000

pub parameter_send : IsSend Parameter.the_row
parameter_send = search (parameter_field_send, sendable) depth 60 fits 20000

pub function_field_sync : IsSync (Function.the_field).row
function_field_sync = search (parameter_sync, block_sync, crosses, sendable) depth 60 fits 20000

pub function_sync : IsSync Function.the_row
function_sync = search (function_field_sync, sendable) depth 60 fits 20000

pub function_field_send : IsSend (Function.the_field).row
function_field_send = search (parameter_send, block_send, crosses, sendable) depth 60 fits 20000

pub function_send : IsSend Function.the_row
function_send = search (function_field_send, sendable) depth 60 fits 20000

pub module_field_sync : IsSync (Module.the_field).row
module_field_sync = search (named_types_sync, global_var_sync, function_sync, crosses, sendable) depth 60 fits 20000

pub module_sync : IsSync Module.the_row
module_sync = search (module_field_sync, sendable) depth 60 fits 20000

pub module_field_send : IsSend (Module.the_field).row
module_field_send = search (named_types_send, global_var_send, function_send, crosses, sendable) depth 60 fits 20000

pub module_send : IsSend Module.the_row
module_send = search (module_field_send, sendable) depth 60 fits 20000
