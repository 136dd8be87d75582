use Rattle.std.proofs.Common.{subst}
use Rattle.lx_cap_nodes.specs.Words.{nodes_at}
use Rattle.lx_writer_sets.specs.Nodes.{Parts}
use Rattle.lx_writer_sets.specs.Sets.{IsNobody, writes_in, writes_part}
use Rattle.lx_writer_sets.proofs.Slots.{in_part, out_of_part, same_nobody}
use Rattle.lx_writer_sets.proofs.parts.PartLists.is_untouched.Goals as goal

pub returns-in-Some-clause-nobody : goal.returns-in-Some-clause-nobody
returns-in-Some-clause-nobody g c =
    let lists = c.self.inside.pool.places in
    let at = c.args.at in
    subst (λ (v : Parts). IsNobody c.is_untouched.result (writes_part v.lists at.part at.slot)) c.self.view_is
    (same_nobody c.is_untouched.result (writes_in at.part (nodes_at lists c.in-Some.list) at.slot) (writes_part lists at.part at.slot) (in_part lists at.part c.in-Some.list at.slot c.in-Some.ensures.found.0) c.is_untouched.ensures.nobody)

pub returns-in-None-clause-nobody : goal.returns-in-None-clause-nobody
returns-in-None-clause-nobody g c q = out_of_part c.args.self.now.lists c.args.at.part c.args.at.slot c.in-None.ensures.none q
