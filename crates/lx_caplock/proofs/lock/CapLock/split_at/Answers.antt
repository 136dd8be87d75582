use Rattle.std.proofs.Common.{rules, arith, ◌+◌, ◌≡◌, ◌≢◌, ◌<◌, ℕ, [], refl, ap, ◌∙◌, subst}
use Rattle.lx_caplock.specs.declared.knowledge.View.{View}
use Rattle.lx_caplock.specs.History.{In, entries_of}
use Rattle.lx_caplock.specs.Views.{with_numbers_out, with_drawn, without_drawn, drawn_view}
use Rattle.lx_caplock.proofs.Rests.{rests_counted, rests_divided, rests_new, is_split}
use Rattle.lx_caplock.proofs.Steps.{counts, draws, splits}
use Rattle.lx_caplock.proofs.lock.CapLock.split_at.Goals as goal

pub load-number-requires : goal.load-number-requires
load-number-requires g c = let i = c.loop.invariant in (search rules, search rules, counts _ _ _ _ _ _ _ (ap (λ m. m.0.spent) i.2 ∙ c.requires.rest.spent))

pub compare_exchange-requires : goal.compare_exchange-requires
compare_exchange-requires g c = let i = c.loop.invariant in let t = c.load-number.ensures.2 in let v : View g.row.T.Denot = c.args.place.now.me.0 in let n : ℕ = c.load-number.result in
    let now : c.load-number.new.seat.me ≡ (with_numbers_out v n, c.args.place.now.me.1) = t.0 ∙ ap (λ m. (with_numbers_out m.0 n, m.1)) i.2 in
    let seats : c.load-number.new.seat.me.0.seats ≡ c.args.self.now.seats = ap (λ m. m.0.seats) now ∙ c.requires.own.1 in
    let room : n < c.load-number.new.seat.me.0.seats = omega (arith, seats, c.if-number-self.false) in
    (search rules, search rules, draws _ _ _ _ _ _ _ n (n + 1) (ap (λ m. m.0.spent) now ∙ c.requires.rest.spent) (ap (λ m. m.0.unsettled) now ∙ c.requires.rest.unsettled) room refl)

pub split_seat-requires : goal.split_seat-requires
split_seat-requires g c = let i = c.loop.invariant in let t = c.load-number.ensures.2 in let v : View g.row.T.Denot = c.args.place.now.me.0 in let n : ℕ = c.load-number.result in
    let now : c.load-number.new.seat.me ≡ (with_numbers_out v n, c.args.place.now.me.1) = t.0 ∙ ap (λ m. (with_numbers_out m.0 n, m.1)) i.2 in
    let hit : c.compare_exchange.result ≡ n = search rules in let d = c.compare_exchange.ensures.2.0 hit in let k : ℕ = c.compare_exchange.result in
    let then : c.compare_exchange.new.seat.me ≡ (with_drawn v k, c.args.place.now.me.1) = d.0 ∙ ap (λ m. (with_drawn m.0 k, m.1)) now in
    let number : c.load-number.new.seat.me.0.number ≡ v.number = ap (λ m. m.0.number) now in let low = d.1 in
    let ended = ap (λ m. m.0.ended) now in
    let new : k ≢ c.compare_exchange.new.seat.me.0.number = λ e. let same : c.compare_exchange.new.seat.me.0.number ≡ v.number = ap (λ m. m.0.number) then in omega arith in (
      search rules,
      search rules,
      splits _ _ _ _ _ c.compare_exchange.new.seat.me.0 k (ap (λ m. m.0.spent) then ∙ c.requires.rest.spent) (ap (λ m. m.0.unsettled) then) (ap (λ m. m.0.unsettled_seen) then) new
          (λ j h e. let below = d.3 j (subst (In j) (ap (λ m. m.0.ended) d.0) h) in omega arith),
    )

pub returns-then-number-self-clause-rest : goal.returns-then-number-self-clause-rest
returns-then-number-self-clause-rest g c = let i = c.loop.invariant in let t = c.load-number.ensures.2 in let v : View g.row.T.Denot = c.args.place.now.me.0 in let n : ℕ = c.load-number.result in
    let now : c.load-number.new.seat.me ≡ (with_numbers_out v n, c.args.place.now.me.1) = t.0 ∙ ap (λ m. (with_numbers_out m.0 n, m.1)) i.2 in
    let seats : c.loop.place.me.0.seats ≡ v.seats = ap (λ m. m.0.seats) i.2 in let out : c.loop.place.me.0.out ≡ i.0 = ap (λ m. m.0.out) i.2 in
    rests_counted c.args.place.now c.load-number.new.seat c.requires.rest n now (omega (arith, i.1, out, t.1)) (omega (arith, seats, t.2))

pub returns-then-compare_exchange-number-clause-rest : goal.returns-then-compare_exchange-number-clause-rest
returns-then-compare_exchange-number-clause-rest g c = let i = c.loop.invariant in let t = c.load-number.ensures.2 in let v : View g.row.T.Denot = c.args.place.now.me.0 in let n : ℕ = c.load-number.result in
    let now : c.load-number.new.seat.me ≡ (with_numbers_out v n, c.args.place.now.me.1) = t.0 ∙ ap (λ m. (with_numbers_out m.0 n, m.1)) i.2 in
    let out : c.loop.place.me.0.out ≡ i.0 = ap (λ m. m.0.out) i.2 in
    let hit : c.compare_exchange.result ≡ n = search rules in let d = c.compare_exchange.ensures.2.0 hit in let k : ℕ = c.compare_exchange.result in
    let then : c.compare_exchange.new.seat.me ≡ (with_drawn (with_numbers_out v n) k, c.args.place.now.me.1) = d.0 ∙ ap (λ m. (with_drawn m.0 k, m.1)) now in
    rests_divided c.args.place.now c.split_seat.new.seat c.requires.rest n k (c.split_seat.ensures.2 ∙ ap (λ m. (without_drawn m.0, m.1)) then) (omega (arith, i.1, out, t.1, hit)) (omega (arith, hit, c.requires.own.1, c.if-number-self.false))

pub returns-then-compare_exchange-number-clause-some : goal.returns-then-compare_exchange-number-clause-some
returns-then-compare_exchange-number-clause-some g c = let i = c.loop.invariant in let t = c.load-number.ensures.2 in let v : View g.row.T.Denot = c.args.place.now.me.0 in let n : ℕ = c.load-number.result in
    let now : c.load-number.new.seat.me ≡ (with_numbers_out v n, c.args.place.now.me.1) = t.0 ∙ ap (λ m. (with_numbers_out m.0 n, m.1)) i.2 in
    let out : c.loop.place.me.0.out ≡ i.0 = ap (λ m. m.0.out) i.2 in
    let hit : c.compare_exchange.result ≡ n = search rules in let d = c.compare_exchange.ensures.2.0 hit in let k : ℕ = c.compare_exchange.result in
    let then : c.compare_exchange.new.seat.me ≡ (with_drawn (with_numbers_out v n) k, c.args.place.now.me.1) = d.0 ∙ ap (λ m. (with_drawn m.0 k, m.1)) now in
    let none : entries_of k v.seen ≡ [] = subst (λ (u : View g.row.T.Denot). entries_of k u.seen ≡ []) (ap (λ m. m.0) now) d.4 in
    let within_seats : k < v.seats = omega (arith, hit, c.requires.own.1, c.if-number-self.false) in
    let new : c.split_seat.result.me ≡ (drawn_view (with_drawn (with_numbers_out v n) k), []) = c.split_seat.ensures.4 ∙ ap (λ m. (drawn_view m.0, [])) then in (
      search rules,
      rests_new c.args.place.now c.split_seat.result c.requires.rest n k new within_seats none,
      is_split c.args.place.now c.split_seat.new.seat c.requires.rest n k _ _ (ap (λ m. m.0) (c.split_seat.ensures.2 ∙ ap (λ m. (without_drawn m.0, m.1)) then)) (ap (λ m. m.0) new) (omega (arith, i.1, out, t.1, hit)) within_seats none,
    )
