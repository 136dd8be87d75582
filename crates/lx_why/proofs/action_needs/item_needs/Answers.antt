-- Not more items stand at the front than there are.
use Rattle.std.proofs.Common.{[]}
use Rattle.lx_run_laws.specs.Errands.{is_placed}
use Rattle.lx_why.specs.AskedNeeds.{errand_by}
use Rattle.lx_why.proofs.Asking.{front_length}
use Rattle.lx_why.proofs.action_needs.item_needs.Goals as goal

pub slice_bounds-push_item_needs-end : goal.slice_bounds-push_item_needs-end
slice_bounds-push_item_needs-end c = front_length (is_placed (errand_by c.args.terms [])) c.args.items.now c.placed_count-count.result c.placed_count-count.ensures
