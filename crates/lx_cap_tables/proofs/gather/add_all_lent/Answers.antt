use Rattle.std.proofs.Common.{◌≡◌, ◌&&◌, ◌||◌, subst, arith}
use Rattle.lx_caps.specs.declared.Atom.{Atom}
use Rattle.lx_cap_lists.specs.Lists.{some_below}
use Rattle.lx_cap_lists.specs.Loans.{loans_of}
use Rattle.lx_cap_lists.specs.Owned.{lent_atom}
use Rattle.lx_cap_tables.proofs.AloneLemmas.{below_step, none_below}
use Rattle.lx_cap_tables.proofs.gather.add_all_lent.Goals as goal

pub loop-thread-init : goal.loop-thread-init
loop-thread-init g c = record {
  high = omega arith;
  added = λ x. none_below (g.G.Gather.has c.args.out.now x) (g.G.Gather.of_kind x) (λ t. lent_atom c.args.pool.now.owners c.args.owners.now.keys c.args.who x t (loans_of c.args.loans.now t));
}

pub loop-thread-preserved : goal.loop-thread-preserved
loop-thread-preserved g c = record {
  high = omega arith;
  added = λ x.
      below_step (g.G.Gather.has c.args.out.now x) (g.G.Gather.of_kind x) (g.G.Gather.has c.loop-thread.out x) _ c.loop-thread.thread
      (λ t. lent_atom c.args.pool.now.owners c.args.owners.now.keys c.args.who x t (loans_of c.args.loans.now t)) (c.loop-thread.invariant.added x) (c.in_ok-add_lent.ensures x);
}

pub returns : goal.returns
returns g c =
    let high = c.loop-thread.invariant.high in
    let at : c.loop-thread.thread ≡ 16 = omega arith in
    subst (λ n. (x : Atom) → g.G.Gather.has c.loop-thread.out x ≡ (g.G.Gather.has c.args.out.now x || (g.G.Gather.of_kind x && some_below n (λ t. lent_atom c.args.pool.now.owners c.args.owners.now.keys c.args.who x t (loans_of c.args.loans.now t))))) at
    c.loop-thread.invariant.added
