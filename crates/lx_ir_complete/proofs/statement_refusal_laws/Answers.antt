use Rattle.std.proofs.Common.{true, refl}
use Rattle.lx_ir_complete.proofs.Local.{stops_there}
use Rattle.lx_ir_complete.proofs.RefusedBlocks.{Anything, blocks_local}
use Rattle.lx_ir_complete.proofs.RefusedStatements.{statement_stops}
use Rattle.lx_ir_complete.proofs.statement_refusal_laws.Goals as goal

pub returns-clause-bodies : goal.returns-clause-bodies
returns-clause-bodies c context free form places numbered registers ts fault e = stops_there (λ k. true) Anything _ (blocks_local (λ k. true) context free form places numbered registers) ts fault refl e

pub returns-clause-statements : goal.returns-clause-statements
returns-clause-statements c context free form places defined ts fault other e = statement_stops context free form places defined ts fault other e
