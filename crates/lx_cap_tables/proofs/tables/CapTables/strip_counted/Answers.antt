use Rattle.std.proofs.Common.{not, ◌&&◌, sym, ap, ◌∙◌, subst, arith}
use Rattle.lx_caps.specs.History.{has}
use Rattle.lx_cap_lists.specs.Tables.{is_in_order}
use Rattle.lx_cap_tables.specs.Sound.{StandsFor}
use Rattle.lx_cap_tables.proofs.SoundLemmas.{order_respects}
use Rattle.lx_cap_tables.proofs.BoundLemmas.{work_within}
use Rattle.lx_cap_tables.proofs.tables.CapTables.strip_counted.Goals as goal

pub invariant_of-self : goal.invariant_of-self
invariant_of-self g c =
    let t = c.self.inside in
    let old = c.self.invariant in
    let owners = t.owners.keys in
    let atoms = t.atoms.keys in
    record {
      owner_count = c.take_cap.ensures.counts.1 ∙ old.owner_count;
      place_count = c.take_cap.ensures.counts.0 ∙ old.place_count;
      owner_has_room = old.owner_has_room;
      atom_has_room = old.atom_has_room;
      node_fit = let a = old.node_fit in let b = c.take_cap.ensures.spare in omega (arith, a, b);
      owner_fit = let a = old.owner_fit in omega (arith, a);
      atom_fit = let a = old.atom_fit in omega (arith, a);
      loan_fit = let a = old.loan_fit in omega (arith, a);
      threads = old.threads;
      deep = old.deep;
      empty = c.take_cap.ensures.empty old.empty;
      in_order = c.take_cap.ensures.kept (is_in_order owners atoms t.loans.items) (order_respects owners atoms t.loans.items) old.in_order;
      nodes = c.take_cap.ensures.nodes old.nodes;
    }

pub returns-clause-appends : goal.returns-clause-appends
unfolding StandsFor
returns-clause-appends g c = λ h stands.
    let st = subst (λ t. StandsFor t h) (sym c.self.view_is) stands in
    ((c.requires.placed, st.0), (λ among x. ap (λ b. not (has c.args.cap x) && b) (st.1 among x) ∙ sym (c.take_cap.ensures.shows among x)), st.2)

pub returns-clause-bound : goal.returns-clause-bound
unfolding StandsFor
returns-clause-bound g c = λ h stands.
    let st = subst (λ t. StandsFor t h) (sym c.self.view_is) stands in
    let bound = work_within c.self.inside.pool.places c.self.inside.atoms.keys h st.1 c.self.invariant.nodes c.args.cap in
    let cost = c.take_cap.ensures.cost in
    omega (arith, bound, cost)
