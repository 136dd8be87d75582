use Rattle.std.proofs.Common.{◌<◌, refl, ◌∙◌, arith}
use Rattle.lx_cap_lists.specs.Tables.{is_in_order, loan_key, place_in}
use Rattle.lx_cap_tables.proofs.EndLemmas.{ended_none, ended_more, ended_less, ended_kept, stay_none, stay_more, stay_all, other_loan, one_loan_more, no_loan_more}
use Rattle.lx_cap_tables.proofs.loans.shut_loans.Goals as goal
use Rattle.lx_cap_lists.proofs.PartLemmas.{same_count_by}

pub loop-older-init : goal.loop-older-init
loop-older-init g c = record {
  low = omega arith;
  high = omega arith;
  gone = λ atoms loans order. ended_none c.args.ended.thread c.args.ended.first c.args.pool.now;
  stays = λ atoms loans order. stay_none c.args.ended.thread c.args.ended.first c.args.pool.now.places;
  empty = λ k none. none;
  counts = (refl, refl);
  spare = omega arith;
  nodes = λ all. all;
  later = λ d k le at. refl;
  cost = refl;
  kept = λ p all. all;
}

pub loop-older-preserved : goal.loop-older-preserved
loop-older-preserved g c =
    let old = c.loop-older.invariant in
    let owners = c.args.owners.now.keys in
    let t = c.args.ended.thread in
    let first = c.args.ended.first in
    let older = c.loop-older.older in
    record {
      low = let a = old.low in omega (arith, a);
      high = omega arith;
      gone = λ atoms loans order.
          ended_more t first older c.shut_loan.new.pool old.low (ended_kept t first older c.loop-older.pool c.shut_loan.new.pool c.shut_loan.ensures.kept (old.gone atoms loans order))
          (c.shut_loan.ensures.gone atoms loans (old.kept (is_in_order owners atoms loans) order));
      stays = λ atoms loans order.
          stay_more t first older c.args.pool.now.places c.loop-older.pool.places c.shut_loan.new.pool.places old.low (old.stays atoms loans order)
          (c.shut_loan.ensures.stays atoms loans (old.kept (is_in_order owners atoms loans) order));
      empty = λ k none. c.shut_loan.ensures.empty k (old.empty k none);
      counts = (c.shut_loan.ensures.counts.0 ∙ old.counts.0, c.shut_loan.ensures.counts.1 ∙ old.counts.1);
      spare = let a = c.shut_loan.ensures.spare in let b = old.spare in omega (arith, a, b);
      nodes = λ all. c.shut_loan.ensures.nodes (old.nodes all);
      later = λ d k le at. c.shut_loan.ensures.others k (λ is. other_loan owners t older d k is at (omega (arith, le))) ∙ old.later d k (omega (arith, le)) at;
      cost =
          let lt : older < c.args.ended.end = omega arith in
          let w = one_loan_more c.args.pool.now.owners owners t older c.args.ended.end lt in
          let n = same_count_by c.args.pool.now.owners c.loop-older.pool.owners (place_in owners (loan_key t older)) (λ k is. old.later older k (omega arith) is) in
          let a = c.shut_loan.ensures.cost in
          let b = old.cost in
          omega (arith, w, n, a, b);
      kept = λ p all. c.shut_loan.ensures.kept p (old.kept p all);
    }

pub returns-clause-gone : goal.returns-clause-gone
returns-clause-gone g c = λ atoms loans order.
    ended_less c.args.ended.thread c.args.ended.first c.args.ended.end c.loop-older.older c.loop-older.pool (omega arith) (c.loop-older.invariant.gone atoms loans order)

pub returns-clause-stays : goal.returns-clause-stays
returns-clause-stays g c = λ atoms loans order.
    let high = c.loop-older.invariant.high in
    stay_all c.args.ended.thread c.args.ended.first c.args.ended.end c.loop-older.older c.args.pool.now.places c.loop-older.pool.places (λ some. omega (arith, high, some)) (c.loop-older.invariant.stays atoms loans order)

pub returns-clause-cost : goal.returns-clause-cost
returns-clause-cost g c =
    let none = no_loan_more c.args.pool.now.owners c.args.owners.now.keys c.args.ended.thread c.loop-older.older c.args.ended.end (omega arith) in
    let cost = c.loop-older.invariant.cost in
    omega (arith, none, cost)
