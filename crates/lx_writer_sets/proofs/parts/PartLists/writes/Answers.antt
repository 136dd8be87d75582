use Rattle.std.proofs.Common.{◌≡◌, sym, ◌∙◌, subst}
use Rattle.lx_writer_sets.specs.Nodes.{Parts}
use Rattle.lx_writer_sets.specs.Sets.{writes_part}
use Rattle.lx_writer_sets.proofs.Slots.{in_part, out_of_part}
use Rattle.lx_writer_sets.proofs.parts.PartLists.writes.Goals as goal

pub returns-in-Some : goal.returns-in-Some
returns-in-Some c =
    let at = c.args.at in
    subst (λ (v : Parts). c.writes.result ≡ writes_part v.lists at.part at.slot c.args.who) c.self.view_is
    (c.writes.ensures ∙ in_part c.self.inside.pool.places at.part c.in-Some.list at.slot c.in-Some.ensures.found.0 c.args.who)

pub returns-in-None : goal.returns-in-None
returns-in-None c = sym (out_of_part c.args.self.now.lists c.args.at.part c.args.at.slot c.in-None.ensures.none c.args.who)
