use Rattle.std.proofs.Common.{◌≡◌, ◌&&◌, Bool, ℕ, subst, arith}
use Rattle.std.proofs.lemmas.Bool.{and_right}
use Rattle.lx_caps.specs.declared.Atom.{Atom}
use Rattle.lx_caps.specs.Order.{is_behind, IsFirst}
use Rattle.lx_cap_lists.specs.Lists.{some_below}
use Rattle.lx_cap_lists.specs.Loans.{loans_of}
use Rattle.lx_cap_lists.specs.Owned.{lent_atom}
use Rattle.lx_cap_tables.proofs.Below.{some_none, one_more_found}
use Rattle.lx_cap_tables.proofs.held.owned_on_loans.Goals as goal

pub loop-thread-init : goal.loop-thread-init
loop-thread-init c = record {
  high = omega arith;
  first = λ x. and_right (is_behind c.args.wanted.after x) _ (some_none (λ t. lent_atom c.args.pool.now.owners c.args.owners.now.keys c.args.wanted.who x t (loans_of c.args.loans.now t)));
}

pub loop-thread-preserved : goal.loop-thread-preserved
loop-thread-preserved c =
    let old = c.loop-thread.invariant in
    let thread = c.loop-thread.thread in
    let after = c.args.wanted.after in
    let found : Atom → ℕ → Bool = λ x t. lent_atom c.args.pool.now.owners c.args.owners.now.keys c.args.wanted.who x t (loans_of c.args.loans.now t) in
    record {
      high = omega arith;
      first = subst (λ (p : Atom → Bool). IsFirst p c.sooner-first.result) (λ j x. one_more_found thread (is_behind after x) (found x) j)
          (c.sooner-first.ensures (λ x. is_behind after x && some_below thread (found x)) (λ x. is_behind after x && found x thread) old.first c.owned_on_loans_of-found.ensures);
    }

pub returns : goal.returns
returns c =
    let high = c.loop-thread.invariant.high in
    let at : c.loop-thread.thread ≡ 16 = omega arith in
    subst (λ n. IsFirst (λ x. is_behind c.args.wanted.after x && some_below n (λ t. lent_atom c.args.pool.now.owners c.args.owners.now.keys c.args.wanted.who x t (loans_of c.args.loans.now t))) c.loop-thread.first) at c.loop-thread.invariant.first
