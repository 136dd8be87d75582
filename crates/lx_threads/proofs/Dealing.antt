-- Seats with rising numbers that fill a range have the numbers of that range.
use Rattle.std.proofs.Common.{◌≡◌, ◌∙◌, sym, ap, subst, ℕ, suc, ◌+◌, ◌≤◌, arith, List, [], ◌∷◌, ◌++◌, length}
use Rattle.lx_caplock.specs.declared.knowledge.View.{View}
use Rattle.lx_caplock.specs.declared.lock.CapLock.{CapLock}
use Rattle.lx_caplock.specs.declared.seat.Seat.{Seat}
use Rattle.lx_caplock.specs.Seats.{IsSeatOf, view_of, number_of, out_of}
use Rattle.lx_caplock.specs.Views.{split_view, with_numbers_out}
use Rattle.lx_threads.specs.declared.worker.Worker.{Worker}
use Rattle.lx_threads.specs.Dealt.{IsNew, AreRising, AreDealt}

module _ {T N : Type 0} (lock : CapLock T) (v : View T) where
  rising_more : (t n low high : ℕ) (ws : List (Worker T N)) (w : Worker T N) → AreRising lock v t low high ws → t + length ws ≡ n → IsSeatOf lock w.seat → view_of w.seat ≡ split_view v (number_of w.seat)
      → w.thread ≡ n → high ≤ number_of w.seat → AreRising lock v t low (number_of w.seat + 1) (ws ++ w ∷ [])
  rising_more t n low high [] w up is of view thread above = (of, view, omega arith, omega arith, omega arith)
  rising_more t n low high (z ∷ ws) w up is of view thread above = (up.0, up.1, up.2, up.3, rising_more (suc t) n (number_of z.seat + 1) high ws w up.4 (omega arith) of view thread above)

  -- a further worker, with a seat of one that was split before
  pub dealt_more : (now next : Seat T) (w : Worker T N) (ws : List (Worker T N)) → AreRising lock v 0 1 (out_of now) ws → view_of now ≡ with_numbers_out v (out_of now) → IsNew lock (view_of now) w.seat
      → view_of next ≡ with_numbers_out (view_of now) (number_of w.seat + 1) → w.thread ≡ length ws → AreRising lock v 0 1 (out_of next) (ws ++ w ∷ [])
  dealt_more now next w ws up is made then thread =
      let view : view_of w.seat ≡ split_view v (number_of w.seat) = made.view ∙ ap (λ (u : View T). split_view u (number_of w.seat)) is in
      let out : out_of next ≡ number_of w.seat + 1 = ap (λ (u : View T). u.out) then in
      subst (λ (n : ℕ). AreRising lock v 0 1 n (ws ++ w ∷ [])) (sym out) (rising_more 0 (length ws) 1 (out_of now) ws w up (omega arith) made.of view thread made.number)

  rising_room : (t low high : ℕ) (ws : List (Worker T N)) → AreRising lock v t low high ws → low + length ws ≤ high
  rising_room t low high [] up = omega arith
  rising_room t low high (w ∷ ws) up = let a = rising_room (suc t) (number_of w.seat + 1) high ws up.4 in let b = up.3 in omega arith

  exact : (t high : ℕ) (ws : List (Worker T N)) → AreRising lock v t (t + 1) high ws → high ≤ t + 1 + length ws → AreDealt lock v t ws
  exact t high [] up within_seats = tt
  exact t high (w ∷ ws) up within_seats =
      let a = rising_room (suc t) (number_of w.seat + 1) high ws up.4 in
      let b = up.3 in
      let is : number_of w.seat ≡ t + 1 = omega arith in (
        record { of = up.0; view = up.1 ∙ ap (split_view v) is; thread = up.2 },
        exact (suc t) high ws (subst (λ (n : ℕ). AreRising lock v (suc t) n high ws) (omega arith) up.4) (omega arith),
      )

  pub all_dealt : (high count : ℕ) (ws : List (Worker T N)) → AreRising lock v 0 1 high ws → high ≤ count + 1 → length ws ≡ count → (high ≡ count + 1) × AreDealt lock v 0 ws
  all_dealt high count ws up within_seats all = let a = rising_room 0 1 high ws up in (omega arith, exact 0 high ws (subst (λ (n : ℕ). AreRising lock v 0 n high ws) (omega arith) up) (omega arith))
