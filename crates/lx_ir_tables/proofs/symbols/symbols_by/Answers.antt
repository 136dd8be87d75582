use Rattle.std.proofs.Common.{drop, sym, ◌∙◌}
use Rattle.lx_ir_tables.proofs.Noting.{symbols_end}
use Rattle.lx_ir_tables.proofs.symbols.symbols_by.Goals as goal

pub returns-in_default : goal.returns-in_default
returns-in_default c =
    sym (symbols_end (drop c.loop-global.global-index c.args.globals.now) c.loop-global.rest.now c.loop-global.symbols c.in_default.ensures.cases) ∙ c.loop-global.invariant
