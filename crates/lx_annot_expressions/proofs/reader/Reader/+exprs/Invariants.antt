use Rattle.std.proofs.Common.{◌*◌, ◌+◌, ◌≤◌, length}
use Rattle.lx_annot_expressions.specs.Exprs.{level_at, operand_at, chain_at}
use Rattle.lx_annot_expressions.proofs.Chains.{Chaining}
use Rattle.lx_annot_expressions.proofs.reader.Reader.+exprs.Given as goal

abbrev pub decreases-operand : goal.decreases-operand
decreases-operand l = 32 * l.depth

abbrev pub decreases-level : goal.decreases-level
decreases-level l = 32 * l.depth + (2 * l.levels + 1)

abbrev pub decreases-chain : goal.decreases-chain
decreases-chain l = 32 * l.depth + (2 * l.tighter + 2)

abbrev pub decreases-inner : goal.decreases-inner
decreases-inner l = 32 * l.depth + 22

abbrev pub decreases-primary : goal.decreases-primary
decreases-primary l = 32 * l.depth + 23

abbrev pub invariant-chain-loop-mark : goal.invariant-chain-loop-mark
invariant-chain-loop-mark l = record {
  so_far : Chaining (level_at (operand_at l.scope l.depth) l.tighter) l.tighter l.left l.self (chain_at (level_at (operand_at l.scope l.depth) l.tighter) l.tighter (length l.fn.self) l.fn.first l.fn.self);
  shrinks : length l.self ≤ length l.fn.self;
}

abbrev pub decreases-chain-loop-mark : goal.decreases-chain-loop-mark
decreases-chain-loop-mark l = length l.self
