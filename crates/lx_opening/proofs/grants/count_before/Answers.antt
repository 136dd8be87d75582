use Rattle.std.proofs.Common.{of_calls, rules}
use Rattle.std.proofs.lemmas.Fn.{always_returns_same}
use Rattle.std.specs.Prelude.{nat_lt}
use Rattle.lx_model.specs.declared.program.ProgramGlobal.{ProgramGlobal}
use Rattle.lx_opening.specs.Ordered.{rank}
use Rattle.lx_opening.proofs.Ordered.{is_split, parted}
use Rattle.lx_opening.proofs.grants.count_before.Goals as goal

pub returns-clause-split : goal.returns-clause-split
returns-clause-split c =
    is_split c.args.globals.now c.args.text c.partition_point.result
    (c.partition_point.ensures.partitioned (λ (x : ProgramGlobal). nat_lt (rank x.«module») c.args.text) (always_returns_same _ _ _ (λ a r f k. search (rules, of_calls))) (parted c.args.globals.now c.args.text c.requires))
