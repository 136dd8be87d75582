-- A seat between its calls.
use Rattle.std.proofs.Common.{◌≡◌, ⊎_elim, ℕ, ◌+◌, ◌<◌, ◌≤◌, arith, List, [], ◌∷◌, ◌++◌, sym, refl, ap, ◌∙◌, subst}
use Rattle.atomic_table.specs.declared.shared.Seat.{Seat}
use Rattle.lx_caplock.specs.declared.knowledge.Entry.{Entry}
use Rattle.lx_caplock.specs.declared.knowledge.View.{View}
use Rattle.lx_caplock.specs.History.{entries_of, In}
use Rattle.lx_caplock.specs.Views.{waiting, serving, released, with_numbers_out, with_drawn, without_drawn, drawn_view, merged, settled_view, IsAtRest}
use Rattle.lx_caplock.specs.Calls.{IsSplit}
use Rattle.lx_caplock.proofs.Histories.{in_either}

module _ {T : Type 0} (p q : Seat T (View T)) (rest : IsAtRest p) where
  -- a request was served, or not
  pub rests_asked : (t0 t : ℕ) (history es : List Entry) → q.me ≡ (released (serving (waiting p.me.0 t0) t history) es, []) → entries_of p.me.0.number (history ++ es) ≡ p.me.0.mine ++ es → IsAtRest q
  rests_asked t0 t history es is mine_seen = record {
    no_slots = ap (λ m. m.1) is;
    spent = ap (λ m. m.0.spent) is ∙ rest.spent;
    stage = ap (λ m. m.0.stage) is;
    unsettled = ap (λ m. m.0.unsettled) is ∙ rest.unsettled;
    unsettled_seen = ap (λ m. m.0.unsettled_seen) is ∙ rest.unsettled_seen;
    mine_seen = subst (λ (u : View T). entries_of u.number u.seen ≡ u.mine) (sym (ap (λ m. m.0) is)) mine_seen;
    number = subst (λ (u : View T). u.number < u.out) (sym (ap (λ m. m.0) is)) rest.number;
    ended = subst (λ (u : View T). (k : ℕ) → In k u.ended → k < u.out) (sym (ap (λ m. m.0) is)) rest.ended;
    within_seats = subst (λ (u : View T). u.out ≤ u.seats) (sym (ap (λ m. m.0) is)) rest.within_seats;
  }

  -- the numbers were counted
  pub rests_counted : (n : ℕ) → q.me ≡ (with_numbers_out p.me.0 n, p.me.1) → p.me.0.out ≤ n → n ≤ p.me.0.seats → IsAtRest q
  rests_counted n is low within_seats = record {
    no_slots = ap (λ m. m.1) is ∙ rest.no_slots;
    spent = ap (λ m. m.0.spent) is ∙ rest.spent;
    stage = ap (λ m. m.0.stage) is ∙ rest.stage;
    unsettled = ap (λ m. m.0.unsettled) is ∙ rest.unsettled;
    unsettled_seen = ap (λ m. m.0.unsettled_seen) is ∙ rest.unsettled_seen;
    mine_seen = subst (λ (u : View T). entries_of u.number u.seen ≡ u.mine) (sym (ap (λ m. m.0) is)) rest.mine_seen;
    number = subst (λ (u : View T). u.number < u.out) (sym (ap (λ m. m.0) is)) (let a = rest.number in omega arith);
    ended = subst (λ (u : View T). (k : ℕ) → In k u.ended → k < u.out) (sym (ap (λ m. m.0) is)) (λ k h. let a = rest.ended k h in omega arith);
    within_seats = subst (λ (u : View T). u.out ≤ u.seats) (sym (ap (λ m. m.0) is)) within_seats;
  }

  -- a number was drawn, and given to a new seat
  pub rests_divided : (n k : ℕ) → q.me ≡ (without_drawn (with_drawn (with_numbers_out p.me.0 n) k), p.me.1) → p.me.0.out ≤ k → k < p.me.0.seats → IsAtRest q
  rests_divided n k is low within_seats = record {
    no_slots = ap (λ m. m.1) is ∙ rest.no_slots;
    spent = ap (λ m. m.0.spent) is ∙ rest.spent;
    stage = ap (λ m. m.0.stage) is ∙ rest.stage;
    unsettled = ap (λ m. m.0.unsettled) is;
    unsettled_seen = ap (λ m. m.0.unsettled_seen) is;
    mine_seen = subst (λ (u : View T). entries_of u.number u.seen ≡ u.mine) (sym (ap (λ m. m.0) is)) rest.mine_seen;
    number = subst (λ (u : View T). u.number < u.out) (sym (ap (λ m. m.0) is)) (let a = rest.number in omega arith);
    ended = subst (λ (u : View T). (j : ℕ) → In j u.ended → j < u.out) (sym (ap (λ m. m.0) is)) (λ j h. let a = rest.ended j h in omega arith);
    within_seats = subst (λ (u : View T). u.out ≤ u.seats) (sym (ap (λ m. m.0) is)) (omega arith);
  }

  pub rests_new : (n k : ℕ) → q.me ≡ (drawn_view (with_drawn (with_numbers_out p.me.0 n) k), []) → k < p.me.0.seats → entries_of k p.me.0.seen ≡ [] → IsAtRest q
  rests_new n k is within_seats none = record {
    no_slots = ap (λ m. m.1) is;
    spent = ap (λ m. m.0.spent) is;
    stage = ap (λ m. m.0.stage) is;
    unsettled = ap (λ m. m.0.unsettled) is;
    unsettled_seen = ap (λ m. m.0.unsettled_seen) is;
    mine_seen = subst (λ (u : View T). entries_of u.number u.seen ≡ u.mine) (sym (ap (λ m. m.0) is)) none;
    number = subst (λ (u : View T). u.number < u.out) (sym (ap (λ m. m.0) is)) (omega arith);
    ended = subst (λ (u : View T). (j : ℕ) → In j u.ended → j < u.out) (sym (ap (λ m. m.0) is)) (λ j h. absurd h);
    within_seats = subst (λ (u : View T). u.out ≤ u.seats) (sym (ap (λ m. m.0) is)) (omega arith);
  }

  -- what the new seat is to the one that was divided
  pub is_split : (n k : ℕ) (w u : View T) → w ≡ without_drawn (with_drawn (with_numbers_out p.me.0 n) k) → u ≡ drawn_view (with_drawn (with_numbers_out p.me.0 n) k)
      → p.me.0.out ≤ k → k < p.me.0.seats → entries_of k p.me.0.seen ≡ [] → IsSplit p.me.0 w u
  is_split n k w u divider new low within_seats none = subst (IsSplit p.me.0 w) (sym new) record {
    number = low;
    within_seats = within_seats;
    others = λ j h. ⊎_elim (λ (e : j ≡ k). ((λ (f : j ≡ p.me.0.number). let a = rest.number in omega arith), (λ x. let a = rest.ended j x in omega arith))) (λ x. absurd x) h;
    no_entry = none;
    divider = divider ∙ (λ i. record p.me.0 { out = k + 1; unsettled = sym rest.unsettled i; unsettled_seen = sym rest.unsettled_seen i });
    new = refl;
  }

  -- another seat was taken in
  pub rests_joined : (w : View T) (n : ℕ) (history : List Entry) → ((k : ℕ) → In k w.ended → k < w.out) → w.number < w.out → q.me ≡ (settled_view (merged p.me.0 w) n history, p.me.1) → entries_of p.me.0.number history ≡ p.me.0.mine
      → p.me.0.out ≤ n → w.out ≤ n → n ≤ p.me.0.seats → IsAtRest q
  rests_joined w n history theirs number is mine_seen low their_low within_seats = record {
    no_slots = ap (λ m. m.1) is ∙ rest.no_slots;
    spent = ap (λ m. m.0.spent) is ∙ rest.spent;
    stage = ap (λ m. m.0.stage) is ∙ rest.stage;
    unsettled = ap (λ m. m.0.unsettled) is;
    unsettled_seen = ap (λ m. m.0.unsettled_seen) is;
    mine_seen = subst (λ (u : View T). entries_of u.number u.seen ≡ u.mine) (sym (ap (λ m. m.0) is)) mine_seen;
    number = subst (λ (u : View T). u.number < u.out) (sym (ap (λ m. m.0) is)) (let a = rest.number in omega arith);
    ended = subst (λ (u : View T). (k : ℕ) → In k u.ended → k < u.out) (sym (ap (λ m. m.0) is)) all;
    within_seats = subst (λ (u : View T). u.out ≤ u.seats) (sym (ap (λ m. m.0) is)) within_seats;
  }
    where
      other : (k : ℕ) → In k (w.number ∷ w.ended) → k < n
      other k h = ⊎_elim (λ (e : k ≡ w.number). omega arith) (λ x. let a = theirs k x in omega arith) h

      all : (k : ℕ) → In k ((w.number ∷ w.ended) ++ p.me.0.ended) → k < n
      all k h = ⊎_elim (λ x. other k x) (λ x. let a = rest.ended k x in omega arith) (in_either k (w.number ∷ w.ended) p.me.0.ended h)
