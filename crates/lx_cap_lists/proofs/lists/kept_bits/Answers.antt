use Rattle.std.proofs.Common.{◌≡◌, ap, ◌∙◌, subst, true}
use Rattle.lx_cap_nodes.specs.declared.pool.Family.TheVariants as family
use Rattle.lx_cap_nodes.specs.Words.{value_in}
use Rattle.lx_cap_lists.specs.declared.entry.Entry.{Entry}
use Rattle.lx_cap_lists.specs.declared.holder.Holder.{Holder}
use Rattle.lx_cap_lists.specs.declared.holder.Holder.TheVariants.{Keeper}
use Rattle.lx_cap_nodes.specs.Bits.{is_set}
use Rattle.lx_cap_lists.specs.Entries.{bit_among}
use Rattle.lx_cap_lists.specs.Holders.{counts}
use Rattle.lx_cap_lists.proofs.BitLemmas.{same_is}
use Rattle.lx_cap_nodes.proofs.Masks.{none_set}
use Rattle.lx_cap_lists.proofs.HasLemmas.{bit_there}
use Rattle.lx_cap_lists.proofs.TakenLemmas.{same_some}
use Rattle.lx_cap_lists.proofs.lists.kept_bits.Goals as goal

pub value-requires : goal.value-requires
value-requires c =
    let f = c.in-Some.ensures.found in
    (c.laws.ensures.at_node family.Place c.args.place f.front c.in-Some.n f.v f.behind f.is).live

pub returns-in-Some : goal.returns-in-Some
returns-in-Some c = λ k is.
    let f = c.in-Some.ensures.found in
    let at = c.laws.ensures.at_node family.Place c.args.place f.front c.in-Some.n f.v f.behind f.is in
    let own : f.v ≡ c.value.result.now = same_some f.v c.value.result.now (value_in c.in-Some.n c.args.pool.now.places) at.value c.value.ensures in
    let who = subst (λ (s : Holder). counts c.args.in_reach s ≡ true) (same_is (Keeper c.asked_for.result) f.v.holder f.such) c.asked_for.ensures in
    ap (λ es. bit_among (counts c.args.in_reach) es k) f.is
    ∙ bit_there (counts c.args.in_reach) k f.front f.behind c.in-Some.n f.v who (ap (λ (e : Entry). is_set e.mask k) own ∙ is)

pub returns-in-None : goal.returns-in-None
returns-in-None c = λ k is. absurd (let none = none_set k in cc)
