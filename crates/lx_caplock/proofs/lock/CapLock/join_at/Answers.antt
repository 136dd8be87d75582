use Rattle.std.proofs.Common.{rules, arith, ap, ◌∙◌, subst}
use mathlib.Core.Option.{none}
use Rattle.atomic_table.specs.Table.{step}
use Rattle.lx_caplock.specs.declared.knowledge.View.{View}
use Rattle.lx_caplock.specs.Telling.{TellsSettle}
use Rattle.lx_caplock.proofs.Rests.{rests_joined}
use Rattle.lx_caplock.proofs.Steps.{joins, settles}
use Rattle.lx_caplock.proofs.Asks.{joined}
use Rattle.lx_caplock.proofs.lock.CapLock.join_at.Goals as goal

pub join_seat-requires : goal.join_seat-requires
join_seat-requires g c = let a = c.requires.rest.0 in let b = c.requires.rest.1 in
    (search rules, search rules, search rules, search rules, joins _ _ _ _ _ _ _ _ a.spent a.unsettled b.spent b.unsettled b.stage)

pub load-requires : goal.load-requires
load-requires g c = let a = c.requires.rest.0 in let now = c.join_seat.ensures.2 in
    (search rules, search rules, settles _ _ _ _ _ _ _ (ap (λ m. m.0.spent) now ∙ a.spent) (ap (λ m. m.0.stage) now ∙ a.stage))

pub returns-clause-joined : goal.returns-clause-joined
returns-clause-joined g c = let a = c.requires.rest.0 in let b = c.requires.rest.1 in
    joined c.args.place.now.me.0 c.args.other.me.0 (step 0 0 0 0 none) c.join_seat.new.seat.me c.load.new.seat.me c.load.result (ap (λ m. m.0) c.join_seat.ensures.2) b.mine_seen a.number b.number a.ended b.ended c.load.ensures.2

pub returns-clause-rest : goal.returns-clause-rest
returns-clause-rest g c =
    let now = c.join_seat.ensures.2 in let b = c.requires.rest.1 in let v : View g.row.T.Denot = c.args.place.now.me.0 in let w : View g.row.T.Denot = c.args.other.me.0 in
    let t = subst (λ m. TellsSettle (step 0 0 0 0 none) m c.load.result c.load.new.seat.me) now c.load.ensures.2 in
    rests_joined c.args.place.now c.load.new.seat c.requires.rest.0 w c.load.result t.0 b.ended b.number t.1 t.2.1 (omega (arith, t.4)) (omega (arith, t.4)) t.6
