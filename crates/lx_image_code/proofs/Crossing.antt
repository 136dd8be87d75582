-- Code may be shared by threads.
use denote.Param.Send.{IsSync, sendable}
use Rattle.std.proofs.Crossing.{crosses}
use Rattle.lx_ir.proofs.Crossing.{function_sync, module_field_sync}
use Rattle.lx_ir_verify.specs.contracts.verified.Verified as Verified
use Rattle.lx_code.proofs.Crossing.{code_field as program_code_field}
use Rattle.lx_code.proofs.TablesCrossing.{tables_sync as jumps_sync}
use Rattle.lx_image_code.specs.contracts.wrappers.Wrapper as Wrapper
use Rattle.lx_image_code.specs.contracts.tables.Tables as Tables
use Rattle.lx_image_code.specs.contracts.code.Code as Code

pub verified_field : IsSync (Verified.the_field).row
verified_field = search (module_field_sync, crosses, sendable) depth 60 fits 20000

pub verified_sync : IsSync Verified.the_row
verified_sync = search (verified_field, sendable) depth 60 fits 20000

pub wrapper_field : IsSync (Wrapper.the_field).row
wrapper_field = search (crosses, sendable) depth 60 fits 20000

pub wrapper_sync : IsSync Wrapper.the_row
wrapper_sync = search (wrapper_field, sendable) depth 60 fits 20000

pub tables_field : IsSync (Tables.the_field).row
tables_field = search (jumps_sync, wrapper_sync, function_sync, crosses, sendable) depth 60 fits 20000

pub tables_sync : IsSync Tables.the_row
tables_sync = search (tables_field, sendable) depth 60 fits 20000

pub code_field : IsSync (Code.the_field).row
code_field = search (program_code_field, verified_sync, tables_field, crosses, sendable) depth 60 fits 20000

pub code_sync : IsSync Code.the_row
code_sync = search (code_field, sendable) depth 60 fits 20000
