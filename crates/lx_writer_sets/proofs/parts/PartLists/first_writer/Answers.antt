use Rattle.std.proofs.Common.{Bool, ◌&&◌, ◌||◌, ap, subst}
use Rattle.lx_words.proofs.Tests.{nobody_more}
use Rattle.lx_caps.specs.Precedence.{IsFirstPrincipal}
use Rattle.lx_cap_nodes.specs.Words.{nodes_at}
use Rattle.lx_writer_sets.specs.Nodes.{Parts}
use Rattle.lx_writer_sets.specs.Sets.{writes_in, writes_part}
use Rattle.lx_writer_sets.proofs.Slots.{in_part, out_of_part}
use Rattle.lx_writer_sets.proofs.parts.PartLists.first_writer.Goals as goal
use Rattle.lx_caps.proofs.PrincipalOrder.{same_first}

pub returns-in-Some : goal.returns-in-Some
returns-in-Some g c t tells p is =
    let lists = c.self.inside.pool.places in
    let at = c.args.at in
    subst (λ (v : Parts). IsFirstPrincipal (λ q. p q || (t q && writes_part v.lists at.part at.slot q)) c.first_writer.result) c.self.view_is
    (same_first (λ q. p q || (t q && writes_in at.part (nodes_at lists c.in-Some.list) at.slot q)) (λ q. p q || (t q && writes_part lists at.part at.slot q))
    (λ q. ap (λ (b : Bool). p q || (t q && b)) (in_part lists at.part c.in-Some.list at.slot c.in-Some.ensures.found.0 q))
    c.first_writer.result (c.first_writer.ensures t tells p is))

pub returns-in-None : goal.returns-in-None
returns-in-None g c t tells p is =
    let lists = c.args.self.now.lists in
    let at = c.args.at in
    same_first p (λ q. p q || (t q && writes_part lists at.part at.slot q))
    (λ q. nobody_more (p q) (t q) (writes_part lists at.part at.slot q) (out_of_part lists at.part at.slot c.in-None.ensures.none q)) c.args.found is
