use Rattle.std.proofs.Common.{◌*◌, ◌+◌}
use Rattle.lx_annot_terms.proofs.actions.+actions.Given as goal

abbrev pub decreases-action_within : goal.decreases-action_within
decreases-action_within l = 2 * l.depth

abbrev pub decreases-condition : goal.decreases-condition
decreases-condition l = 2 * l.depth + 1
