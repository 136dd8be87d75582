use Rattle.std.proofs.Common.{◌≡◌, ◌<◌, ◌≤◌, true, false, nat_eq, cond, ◌∷◌, length, refl, sym, ap, ◌∙◌, subst, arith, length-set}
use Rattle.std.proofs.lemmas.Bool.Decides.{nat_tests}
use Rattle.lx_cap_lists.specs.Holders.{left_by, open_count}
use Rattle.lx_cap_lists.specs.Loans.{loans_of}
use Rattle.lx_cap_lists.specs.Tables.{place_of, bit_of, is_in_order}
use Rattle.lx_cap_tables.specs.Sound.{StandsFor}
use Rattle.lx_cap_tables.proofs.EndLemmas.{loans_set, deep_set, order_left, shown_left}
use Rattle.lx_cap_tables.specs.Sound.{Tables}
use Rattle.lx_cap_lists.specs.Kept.{AreEnded, StayBut}
use Rattle.lx_cap_tables.proofs.tables.CapTables.end_loans.Goals as goal

pub invariant_of-self : goal.invariant_of-self
invariant_of-self g c =
    let t = c.self.inside in
    let old = c.self.invariant in
    let owners = t.owners.keys in
    let atoms = t.atoms.keys in
    let loans = t.loans.items in
    let low : c.args.thread < length loans = let a = old.threads in let b = c.requires.thread in omega (arith, a, b) in
    let some : c.args.first ≤ loans_of loans c.args.thread = subst (λ (v : Tables). c.args.first ≤ loans_of v.loans c.args.thread) (sym c.self.view_is) c.requires.some in
    record {
      owner_count = c.shut_loans.ensures.counts.1 ∙ old.owner_count;
      place_count = c.shut_loans.ensures.counts.0 ∙ old.place_count;
      owner_has_room = old.owner_has_room;
      atom_has_room = old.atom_has_room;
      node_fit = let a = old.node_fit in let b = c.shut_loans.ensures.spare in omega (arith, a, b);
      owner_fit = let a = old.owner_fit in omega (arith, a);
      atom_fit = let a = old.atom_fit in omega (arith, a);
      loan_fit = let a = old.loan_fit in omega (arith, a);
      threads = length-set loans c.args.thread c.args.first ∙ old.threads;
      deep = deep_set loans c.args.thread c.args.first t.deepest low old.deep (let d = old.deep c.args.thread in omega (arith, some, d));
      empty = λ l h. c.shut_loans.ensures.empty l (old.empty l h);
      in_order = order_left owners atoms loans c.args.thread c.args.first c.shut_loans.new.pool low (c.shut_loans.ensures.kept (is_in_order owners atoms loans) old.in_order) (subst (λ n. AreEnded c.args.thread c.args.first n c.shut_loans.new.pool) c.loans_of.ensures (c.shut_loans.ensures.gone atoms loans old.in_order));
      nodes = c.shut_loans.ensures.nodes old.nodes;
    }

pub returns-clause-appends : goal.returns-clause-appends
unfolding StandsFor
returns-clause-appends g c = λ h act stands is.
    let t = c.self.inside in
    let old = c.self.invariant in
    let st = subst (λ v. StandsFor v h) (sym c.self.view_is) stands in
    let loans = t.loans.items in
    let low : c.args.thread < length loans = let a = old.threads in let b = c.requires.thread in omega (arith, a, b) in (
      (is.placed, st.0),
      (λ among x. is.had_then among x ∙ (st.1 (left_by c.args.thread c.args.first among) x
          ∙ shown_left c.args.thread c.args.first loans t.owners.keys t.atoms.keys t.pool c.shut_loans.new.pool
          (c.shut_loans.ensures.kept (is_in_order t.owners.keys t.atoms.keys loans) old.in_order) (subst (λ n. AreEnded c.args.thread c.args.first n c.shut_loans.new.pool) c.loans_of.ensures (c.shut_loans.ensures.gone t.atoms.keys loans old.in_order))
          (subst (λ n. StayBut c.args.thread c.args.first n t.pool.places c.shut_loans.new.pool.places) c.loans_of.ensures (c.shut_loans.ensures.stays t.atoms.keys loans old.in_order))
          among (place_of t.atoms.keys x) (bit_of x))),
      (λ u h16. loans_set loans c.args.thread c.args.first u low
          ∙ (elim (nat_eq c.args.thread u) as (λ b. nat_eq c.args.thread u ≡ b → cond b c.args.first (loans_of loans u) ≡ open_count (act ∷ h) u) [
            | true ↦ λ e. sym is.here ∙ ap (open_count (act ∷ h)) (let same : c.args.thread ≡ u = grind (arith, nat_tests, e) in same)
            | false ↦ λ e. st.2 u h16 ∙ sym (is.others u e)
          ]) refl),
    )
