use Rattle.std.proofs.Common.{Bool, ◌&&◌, ◌∙◌, ap, subst}
use Rattle.lx_words.proofs.Tests.{and_false}
use Rattle.lx_cap_nodes.specs.Words.{nodes_at}
use Rattle.lx_writer_sets.specs.Nodes.{Parts}
use Rattle.lx_writer_sets.specs.Sets.{IsSomePrincipal, writes_in, writes_part}
use Rattle.lx_writer_sets.proofs.Slots.{in_part, out_of_part}
use Rattle.lx_writer_sets.proofs.SomeLemmas.{same_some}
use Rattle.lx_writer_sets.proofs.parts.PartLists.some_writer.Goals as goal

pub returns-in-Some : goal.returns-in-Some
returns-in-Some g c t tells =
    let lists = c.self.inside.pool.places in
    let at = c.args.at in
    subst (λ (v : Parts). IsSomePrincipal (λ q. t q && writes_part v.lists at.part at.slot q) c.some_writer.result) c.self.view_is
    (same_some (λ q. t q && writes_in at.part (nodes_at lists c.in-Some.list) at.slot q) (λ q. t q && writes_part lists at.part at.slot q)
    (λ q. ap (λ (b : Bool). t q && b) (in_part lists at.part c.in-Some.list at.slot c.in-Some.ensures.found.0 q))
    c.some_writer.result (c.some_writer.ensures t tells))

pub returns-in-None : goal.returns-in-None
returns-in-None g c t tells =
    λ q. ap (λ (b : Bool). t q && b) (out_of_part c.args.self.now.lists c.args.at.part c.args.at.slot c.in-None.ensures.none q) ∙ and_false (t q)
