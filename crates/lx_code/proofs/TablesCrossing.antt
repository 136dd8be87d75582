-- Tables may be shared by threads.
use denote.Param.Send.{IsSync, sendable}
use Rattle.std.proofs.Crossing.{crosses}
use Rattle.lx_code.specs.contracts.instructions.Table as Table
use Rattle.lx_code.specs.contracts.code_tables.CodeTables as CodeTables

pub table_field : IsSync (Table.the_field).row
table_field = search (crosses, sendable) depth 60 fits 20000

pub table_sync : IsSync Table.the_row
table_sync = search (table_field, sendable) depth 60 fits 20000

pub tables_field : IsSync (CodeTables.the_field).row
tables_field = search (table_sync, crosses, sendable) depth 60 fits 20000

pub tables_sync : IsSync CodeTables.the_row
tables_sync = search (tables_field, sendable) depth 60 fits 20000
