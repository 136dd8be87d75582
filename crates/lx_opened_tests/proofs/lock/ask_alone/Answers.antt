use Rattle.std.proofs.Common.{◌≡◌, ◌∙◌, refl, sym, ap, subst, arith, ◌+◌, List, [], ◌∷◌, length, length-append}
use Rattle.std.specs.Prelude.{Option, Some}
use Rattle.lx_caplock.specs.declared.knowledge.Entry.{Entry}
use Rattle.lx_caplock.specs.declared.knowledge.View.{View}
use Rattle.lx_caplock.specs.History.{In, entries_of, entry}
use Rattle.lx_caplock.specs.Seats.{view_of}
use Rattle.lx_caplock.specs.Serving.{Leaves, state_after}
use Rattle.lx_model.specs.Opening.{opening_state}
use Rattle.lx_opened_tests.specs.declared.lock.Counter.{Counter}
use Rattle.lx_opened_tests.specs.Programs.{empty}
use Rattle.lx_opened_tests.proofs.Alone.{all_its_own, longer}
use Rattle.lx_opened_tests.proofs.lock.ask_alone.Goals as goal

pub returns : goal.returns
returns g c =
    let v : View Counter = view_of c.in_ok-lock.seat in
    let opened = c.in_ok-lock.ensures.first in
    let w : View Counter = view_of c.ask.new.seat in
    let u : View Counter = view_of c.ask-2.new.seat in
    let first = c.in_ok-_first.ensures in
    let second = c.in_ok-_second.ensures in
    let history : List Entry = c.close-counter.ensures.0 in
    let closed = c.close-counter.ensures.1 in
    let counter : Counter = c.close-counter.result in
    let from : u.opened_part ≡ Some (record { served = 0 }) = second.same.opened_part ∙ (first.same.opened_part ∙ ap (λ (q : View Counter). q.opened_part) opened) in
    let ended : u.ended ≡ [] = second.same.ended ∙ (first.same.ended ∙ ap (λ (q : View Counter). q.ended) opened) in
    let none : v.mine ≡ [] = ap (λ (q : View Counter). q.mine) opened in
    let own : entries_of u.number history ≡ history = all_its_own u.number history (λ k not. closed.none_else k not (λ x. absurd (subst (In k) ended x))) in
    let many : length history ≡ length u.mine = ap length (sym own ∙ closed.own) in
    let left = subst (λ (q : Option Counter). Leaves (λ part. empty) (λ part s. length s.journal ≡ part.served) q counter history) from closed.is_left in
    let served : length (state_after empty (opening_state empty) history).journal ≡ counter.served = left.1 (opening_state empty) refl in
    let more : length (state_after empty (opening_state empty) history).journal ≡ 0 + length history = longer empty (opening_state empty) history in
    let one : length w.mine ≡ length v.mine + 1 = ap length first.answer.mine ∙ length-append v.mine (entry v.number 0 c.args.request.now c.in_ok-_first._first ∷ []) in
    let two : length u.mine ≡ length w.mine + 1 = ap length second.answer.mine ∙ length-append w.mine (entry w.number 0 c.args.request.now c.in_ok-_second._second ∷ []) in
    let zero : length v.mine ≡ 0 = ap length none in
    omega (arith, served, more, many, one, two, zero)
