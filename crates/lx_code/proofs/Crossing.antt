-- Code may be shared by threads.
use denote.Param.Send.{IsSync, sendable}
use Rattle.std.proofs.Crossing.{crosses}
use Rattle.lx_ir.proofs.Crossing.{module_field_sync}
use Rattle.lx_model.proofs.Crossing.{program_sync, program_send}
use Rattle.lx_code.specs.contracts.targets.Target as Target
use Rattle.lx_code.specs.contracts.tables.Tables as Tables
use Rattle.lx_code.specs.contracts.code.ActionCounts as ActionCounts
use Rattle.lx_code.specs.contracts.named.Names as Names
use Rattle.lx_code.specs.contracts.code.Code as Code

pub target_field : IsSync (Target.the_field).row
target_field = search (crosses, sendable) depth 60 fits 20000

pub target_sync : IsSync Target.the_row
target_sync = search (target_field, sendable) depth 60 fits 20000

pub counts_field : IsSync (ActionCounts.the_field).row
counts_field = search (crosses, sendable) depth 60 fits 20000

pub counts_sync : IsSync ActionCounts.the_row
counts_sync = search (counts_field, sendable) depth 60 fits 20000

pub tables_field : IsSync (Tables.the_field).row
tables_field = search (target_sync, crosses, sendable) depth 60 fits 20000

pub tables_sync : IsSync Tables.the_row
tables_sync = search (tables_field, sendable) depth 60 fits 20000

pub names_field : IsSync (Names.the_field).row
names_field = search (module_field_sync, program_sync, program_send, tables_field, crosses, sendable) depth 60 fits 20000

pub names_sync : IsSync Names.the_row
names_sync = search (names_field, sendable) depth 60 fits 20000

pub code_field : IsSync (Code.the_field).row
code_field = search (names_field, counts_sync, crosses, sendable) depth 60 fits 20000

pub code_sync : IsSync Code.the_row
code_sync = search (code_field, sendable) depth 60 fits 20000
