use Rattle.std.proofs.Common.{◌≡◌, ◌++◌, drop}
use Rattle.lx_ir_tables.specs.Numbering.{symbols_by}
use Rattle.lx_ir_tables.proofs.symbols.symbols_by.Given as goal

abbrev pub invariant-loop-global : goal.invariant-loop-global
invariant-loop-global l = l.symbols ++ symbols_by (drop l.global-index l.globals) l.rest ≡ symbols_by l.globals l.functions
