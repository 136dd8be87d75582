use Rattle.std.proofs.Common.{◌≡◌, ◌&&◌, Bool, ℕ, subst, arith}
use Rattle.std.proofs.lemmas.Bool.{and_right}
use Rattle.lx_caps.specs.declared.Atom.{Atom}
use Rattle.lx_caps.specs.Order.{is_behind, IsFirst}
use Rattle.lx_cap_lists.specs.Lists.{some_below}
use Rattle.lx_cap_lists.specs.Owned.{lent_atom, listed_atom}
use Rattle.lx_cap_lists.specs.Tables.{loan_key}
use Rattle.lx_cap_tables.proofs.Below.{some_none, one_more_found}
use Rattle.lx_cap_tables.proofs.held.owned_on_loans_of.Goals as goal

pub loop-older-init : goal.loop-older-init
loop-older-init c = record {
  high = omega arith;
  first = λ x. and_right (is_behind c.args.wanted.after x) _ (some_none (λ d. listed_atom c.args.pool.now.owners c.args.owners.now.keys c.args.wanted.who x (loan_key c.args.thread d)));
}

pub loop-older-preserved : goal.loop-older-preserved
loop-older-preserved c =
    let old = c.loop-older.invariant in
    let older = c.loop-older.older in
    let after = c.args.wanted.after in
    let found : Atom → ℕ → Bool = λ x d. listed_atom c.args.pool.now.owners c.args.owners.now.keys c.args.wanted.who x (loan_key c.args.thread d) in
    let here : IsFirst (λ x. is_behind after x && found x older) c.owned_by_list-found.result =
    subst (λ k. IsFirst (λ x. is_behind after x && listed_atom c.args.pool.now.owners c.args.owners.now.keys c.args.wanted.who x k) c.owned_by_list-found.result) c.loan_key.ensures c.owned_by_list-found.ensures in
    record {
      high = omega arith;
      first = subst (λ (p : Atom → Bool). IsFirst p c.sooner-first.result) (λ j x. one_more_found older (is_behind after x) (found x) j)
          (c.sooner-first.ensures (λ x. is_behind after x && some_below older (found x)) (λ x. is_behind after x && found x older) old.first here);
    }

pub returns : goal.returns
returns c =
    let high = c.loop-older.invariant.high in
    let at : c.loop-older.older ≡ c.args.count = omega arith in
    subst (λ n. IsFirst (λ x. is_behind c.args.wanted.after x && lent_atom c.args.pool.now.owners c.args.owners.now.keys c.args.wanted.who x c.args.thread n) c.loop-older.first) at c.loop-older.invariant.first
