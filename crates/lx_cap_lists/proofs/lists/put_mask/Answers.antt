use Rattle.std.proofs.Common.{ap, sym, subst, ◌∙◌}
use Rattle.lx_cap_nodes.specs.Pool.{Pool}
use Rattle.lx_cap_nodes.specs.Words.{pool_with, value_in}
use Rattle.lx_cap_lists.specs.declared.entry.Entry.{Entry}
use Rattle.lx_cap_lists.specs.Entries.{with_mask}
use Rattle.lx_cap_lists.specs.Kept.{AreAll}
use Rattle.lx_cap_lists.proofs.KeptLemmas.{kept_with}
use Rattle.lx_cap_lists.proofs.TakenLemmas.{same_some}
use Rattle.lx_cap_lists.proofs.lists.put_mask.Goals as goal

pub returns-clause-written : goal.returns-clause-written
returns-clause-written c v at =
    let w = c.put_mask.ensures in
    w.2 ∙ ap (λ (x : Entry). pool_with c.args.pool.now c.args.n (with_mask x c.args.mask)) (same_some w.0 v (value_in c.args.n c.args.pool.now.places) w.1 at)

pub returns-clause-kept : goal.returns-clause-kept
returns-clause-kept c = λ p r all.
    let w = c.put_mask.ensures in
    subst (λ (q : Pool Entry). AreAll p q) (sym w.2) (kept_with c.args.pool.now c.args.n w.0 c.args.mask c.laws.ensures w.1 p r all)
