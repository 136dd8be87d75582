use Rattle.std.proofs.Common.{length, ap, ◌∙◌, arith}
use Rattle.lx_cap_nodes.specs.Words.{nodes_at}
use Rattle.lx_cap_lists.specs.Loans.{loans_of}
use Rattle.lx_cap_tables.specs.Sound.{StandsFor}
use Rattle.lx_cap_tables.proofs.SoundLemmas.{sound_new, shows_none, no_loans}
use Rattle.lx_cap_tables.proofs.tables.CapTables.new.Goals as goal

pub invariant_of-result : goal.invariant_of-result
invariant_of-result c =
    let more = c.in_ok-more_places.ensures in
    let bound = more.bound in
    let ok = more.ok in
    rw (c.new.ensures.empty, c.new-2.ensures.empty)
    (sound_new c.more_places.new.pool _ _ c.more_places.new.have _ (more.rest.0 ∙ c.new-pool.ensures.owners) (λ l. more.places l ∙ ap (λ ls. nodes_at ls l) c.new-pool.ensures.places) more.count (omega (arith, bound, ok)) (ap length c.in_ok-loans.ensures) (λ u. ap (λ ls. loans_of ls u) c.in_ok-loans.ensures ∙ no_loans 16 u))

pub returns : goal.returns
unfolding StandsFor
returns c =
    let more = c.in_ok-more_places.ensures in
    (tt, shows_none c.more_places.new.pool.places c.new-2.result.keys (λ l. more.places l ∙ ap (λ ls. nodes_at ls l) c.new-pool.ensures.places), λ u h16. ap (λ ls. loans_of ls u) c.in_ok-loans.ensures ∙ no_loans 16 u)
