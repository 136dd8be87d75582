-- Workers whose seats were split off one after the other.
use Rattle.std.specs.Prelude.{◌≡◌, ◌≤◌, ◌<◌, ◌+◌, ℕ, suc, List, [], ◌∷◌}
use Rattle.lx_caplock.specs.declared.knowledge.View.{View}
use Rattle.lx_caplock.specs.declared.lock.CapLock.{CapLock}
use Rattle.lx_caplock.specs.declared.seat.Seat.{Seat}
use Rattle.lx_caplock.specs.Seats.{IsSeatOf, view_of, number_of}
use Rattle.lx_caplock.specs.Views.{split_view}
use Rattle.lx_threads.specs.declared.worker.Worker.{Worker}

module _ {T : Type 0} where
  -- the first seat, before it was split, of so many
  pub record IsFirst (v : View T) (count : ℕ) : Type 0 where
    pub number : v.number ≡ 0
    pub out : v.out ≡ 1
    pub seats : v.seats ≡ count

  -- a seat that was split off
  pub record IsNew (lock : CapLock T) (v : View T) (seat : Seat T) : Type 0 where
    pub of : IsSeatOf lock seat
    pub view : view_of seat ≡ split_view v (number_of seat)
    pub number : v.out ≤ number_of seat
    pub within_seats : number_of seat < v.seats

module _ {T N : Type 0} where
  -- workers of the lock, for threads from t on, whose seats have rising numbers from low, all below high
  abbrev pub AreRising : CapLock T → View T → ℕ → ℕ → ℕ → List (Worker T N) → Type 0
  AreRising lock v t low high [] = low ≤ high
  AreRising lock v t low high (w ∷ ws) = IsSeatOf lock w.seat × (view_of w.seat ≡ split_view v (number_of w.seat)) × (w.thread ≡ t) × (low ≤ number_of w.seat) × AreRising lock v (suc t) (number_of w.seat + 1) high ws

  -- the worker of the thread with this number
  pub record IsDealt (lock : CapLock T) (v : View T) (t : ℕ) (worker : Worker T N) : Type 0 where
    pub of : IsSeatOf lock worker.seat
    pub view : view_of worker.seat ≡ split_view v (t + 1)
    pub thread : worker.thread ≡ t

  -- workers for threads, the first of which has this number
  abbrev pub AreDealt : CapLock T → View T → ℕ → List (Worker T N) → Type 0
  AreDealt lock v t [] = Unit {0}
  AreDealt lock v t (w ∷ ws) = IsDealt lock v t w × AreDealt lock v (suc t) ws
