use Rattle.std.proofs.Common.{◌||◌, ap, ◌∙◌}
use Rattle.lx_cap_nodes.specs.declared.pool.Family.TheVariants as family
use Rattle.lx_cap_nodes.specs.Words.{nodes_at}
use Rattle.lx_cap_lists.specs.Holders.{counts}
use Rattle.lx_cap_lists.specs.Entries.{bit_among}
use Rattle.lx_cap_lists.specs.Walks.{from}
use Rattle.lx_cap_lists.proofs.WalkLemmas.{begins}
use Rattle.lx_cap_nodes.proofs.Masks.{none_set}
use Rattle.lx_cap_lists.proofs.lists.reached.Goals as goal

pub loop-node-init : goal.loop-node-init
loop-node-init c =
    let es = nodes_at c.args.pool.now.places c.args.place in
    let start = begins es c.first-node.result (c.laws.ensures.apart family.Place c.args.place) c.first-node.ensures.first in
    record {
      come = start.1;
      bits = λ k. ap (λ b. b || bit_among (counts c.args.in_reach) (from c.first-node.result es) k) (none_set k) ∙ ap (λ r. bit_among (counts c.args.in_reach) r k) start.0;
    }
