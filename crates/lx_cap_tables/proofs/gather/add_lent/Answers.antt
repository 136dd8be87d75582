use Rattle.std.proofs.Common.{◌≡◌, ◌&&◌, ◌||◌, ap, ◌∙◌, subst, arith}
use Rattle.lx_caps.specs.declared.Atom.{Atom}
use Rattle.lx_cap_lists.specs.Owned.{lent_atom, listed_atom}
use Rattle.lx_cap_lists.specs.Tables.{loan_key}
use Rattle.lx_cap_tables.proofs.AloneLemmas.{below_step, none_below}
use Rattle.lx_cap_tables.proofs.gather.add_lent.Goals as goal

pub loop-older-init : goal.loop-older-init
loop-older-init g c = record {
  high = omega arith;
  added = λ x. none_below (g.G.Gather.has c.args.out.now x) (g.G.Gather.of_kind x) (λ d. listed_atom c.args.pool.now.owners c.args.owners.now.keys c.args.lent.who x (loan_key c.args.lent.thread d));
}

pub loop-older-preserved : goal.loop-older-preserved
loop-older-preserved g c =
    let lists = c.args.pool.now.owners in
    let owners = c.args.owners.now.keys in
    let who = c.args.lent.who in
    record {
      high = omega arith;
      added = λ x.
          below_step (g.G.Gather.has c.args.out.now x) (g.G.Gather.of_kind x) (g.G.Gather.has c.loop-older.out x) _ c.loop-older.older (λ d. listed_atom lists owners who x (loan_key c.args.lent.thread d))
          (c.loop-older.invariant.added x) (c.in_ok-add_listed.ensures x ∙ ap (λ k. g.G.Gather.has c.loop-older.out x || (g.G.Gather.of_kind x && listed_atom lists owners who x k)) c.loan_key.ensures);
    }

pub returns : goal.returns
returns g c =
    let high = c.loop-older.invariant.high in
    let at : c.loop-older.older ≡ c.args.lent.count = omega arith in
    subst (λ n. (x : Atom) → g.G.Gather.has c.loop-older.out x ≡ (g.G.Gather.has c.args.out.now x || (g.G.Gather.of_kind x && lent_atom c.args.pool.now.owners c.args.owners.now.keys c.args.lent.who x c.args.lent.thread n))) at
    c.loop-older.invariant.added
