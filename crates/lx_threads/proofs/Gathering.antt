-- Workers' seats are taken in one after the other.
use Rattle.std.proofs.Common.{◌≡◌, ◌∙◌, ◌⊎◌, inl, inr, ⊎_elim, refl, sym, ap, subst, ℕ, suc, ◌+◌, ◌<◌, ◌≤◌, arith, List, [], ◌∷◌, ◌++◌, length, length-append, append_assoc, append-nil}
use Rattle.lx_caplock.specs.declared.knowledge.Entry.{Entry}
use Rattle.lx_caplock.specs.declared.knowledge.View.{View}
use Rattle.lx_caplock.specs.declared.lock.CapLock.{CapLock}
use Rattle.lx_caplock.specs.declared.seat.Seat.{Seat}
use Rattle.lx_caplock.specs.History.{entries_of, Begins, In}
use Rattle.lx_caplock.specs.Seats.{view_of, number_of, seen_of}
use Rattle.lx_caplock.specs.Calls.{HasJoined}
use Rattle.lx_caplock.proofs.Histories.{in_either, in_right}
use Rattle.lx_threads.specs.declared.worker.Worker.{Worker}
use Rattle.lx_threads.specs.Gathered.{IsSeated, HasEnded, HaveEnded, HasGathered}

pub begins_trans : (xs ys zs : List Entry) → Begins xs ys → Begins ys zs → Begins xs zs
begins_trans xs ys zs a b = (a.0 ++ b.0, b.1 ∙ (ap (λ l. l ++ b.0) a.1 ∙ append_assoc xs a.0 b.0))

module _ {T : Type 0} where
  ended_on : (t : ℕ) (s : Seat T) (u : View T) (w : View T) (u' : View T) → HasJoined u w u' → HasEnded t s u → HasEnded t s u'
  ended_on t s u w u' j h = record {
    ended = subst (In (t + 1)) (sym j.ended) (in_right (t + 1) (w.number ∷ w.ended) u.ended h.ended);
    mine = j.own_ended (t + 1) h.ended ∙ h.mine;
    seen = begins_trans (seen_of s) u.seen u'.seen h.seen j.begins;
  }

  ended_here : (lock : CapLock T) (t : ℕ) (s : Seat T) (u u' : View T) → IsSeated lock t s → HasJoined u (view_of s) u' → HasEnded t s u'
  ended_here lock t s u u' seated j = record {
    ended = subst (In (t + 1)) (sym j.ended) (inl (sym seated.number));
    mine = ap (λ (n : ℕ). entries_of n u'.seen) (sym seated.number) ∙ j.theirs;
    seen = j.takes_in;
  }

module _ {T N : Type 0} (lock : CapLock T) where
  pub gathered_none : (v : View T) → v.out ≤ v.seats → HasGathered {N = N} v [] v
  gathered_none v within_seats = record { opened_part = refl; seats = refl; number = refl; mine = refl; ended = λ k h. inl h; all = tt; within_seats = within_seats }

  ended_more : (t n : ℕ) (ws : List (Worker T N)) (w : Worker T N) (u u' : View T) → t + length ws ≡ n → HaveEnded t ws u → IsSeated lock n w.seat → HasJoined u (view_of w.seat) u' → HaveEnded t (ws ++ w ∷ []) u'
  ended_more t n [] w u u' is all seated j = (subst (λ (k : ℕ). HasEnded k w.seat u') (omega arith) (ended_here lock n w.seat u u' seated j), tt)
  ended_more t n (z ∷ ws) w u u' is all seated j = (ended_on t z.seat u (view_of w.seat) u' j all.0, ended_more (suc t) n ws w u u' (omega arith) all.1 seated j)

  pub gathered_more : (v u u' : View T) (ws : List (Worker T N)) (w : Worker T N) → HasGathered v ws u → IsSeated lock (length ws) w.seat → HasJoined u (view_of w.seat) u' → HasGathered v (ws ++ w ∷ []) u'
  gathered_more v u u' ws w h seated j = record {
    opened_part = j.opened_part ∙ h.opened_part;
    seats = j.seats ∙ h.seats;
    number = j.number ∙ h.number;
    mine = j.mine ∙ h.mine;
    ended = ended;
    all = ended_more 0 (length ws) ws w u u' (omega arith) h.all seated j;
    within_seats = let a = j.within_seats in let b = h.seats in omega arith;
  }
    where
      longer : length (ws ++ w ∷ []) ≡ length ws + 1
      longer = omega (arith, length-append ws (w ∷ []))

      new : (k : ℕ) → In k ((number_of w.seat) ∷ (view_of w.seat).ended) → (0 < k) × (k ≤ length (ws ++ w ∷ []))
      new k x = ⊎_elim (λ (e : k ≡ number_of w.seat). let a = seated.number in (omega arith, omega (arith, longer))) (λ no. absurd (subst (In k) seated.ended no)) x

      old : (k : ℕ) → In k v.ended ⊎ ((0 < k) × (k ≤ length ws)) → In k v.ended ⊎ ((0 < k) × (k ≤ length (ws ++ w ∷ [])))
      old k x = ⊎_elim (λ y. inl y) (λ y. let a = y.1 in inr (y.0, omega (arith, longer))) x

      ended : (k : ℕ) → In k u'.ended → In k v.ended ⊎ ((0 < k) × (k ≤ length (ws ++ w ∷ [])))
      ended k x = ⊎_elim (λ y. inr (new k y)) (λ y. old k (h.ended k y)) (in_either k (number_of w.seat ∷ (view_of w.seat).ended) u.ended (subst (In k) j.ended x))

pub all_taken : {A : Type 0} (taken all left : List A) → all ≡ taken ++ left → length left ≡ 0 → taken ≡ all
all_taken taken all [] is none = sym (is ∙ append-nil taken)
all_taken taken all (x ∷ left) is none = absurd (omega arith)
