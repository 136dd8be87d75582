-- A seat that has taken in those of all workers.
use Rattle.std.specs.Prelude.{◌≡◌, ◌⊎◌, ◌≤◌, ◌<◌, ◌+◌, ℕ, suc, List, [], ◌∷◌, length}
use Rattle.lx_caplock.specs.declared.knowledge.View.{View}
use Rattle.lx_caplock.specs.declared.lock.CapLock.{CapLock}
use Rattle.lx_caplock.specs.declared.seat.Seat.{Seat}
use Rattle.lx_caplock.specs.History.{entries_of, Begins, In}
use Rattle.lx_caplock.specs.Seats.{IsSeatOf, number_of, ended_of, seen_of, mine_of}
use Rattle.lx_threads.specs.declared.worker.Worker.{Worker}

-- the seat of the thread of this number, to which no other was joined
pub record IsSeated {T : Type 0} (lock : CapLock T) (t : ℕ) (seat : Seat T) : Type 0 where
  pub of : IsSeatOf lock seat
  pub number : number_of seat ≡ t + 1
  pub ended : ended_of seat ≡ []

-- the seat of the thread has ended, and all its entries are seen, and all that it had seen
pub record HasEnded {T : Type 0} (t : ℕ) (seat : Seat T) (u : View T) : Type 0 where
  pub ended : In (t + 1) u.ended
  pub mine : entries_of (t + 1) u.seen ≡ mine_of seat
  pub seen : Begins (seen_of seat) u.seen

module _ {T N : Type 0} where
  abbrev pub AreSeated : CapLock T → ℕ → List (Worker T N) → Type 0
  AreSeated lock t [] = Unit {0}
  AreSeated lock t (w ∷ ws) = IsSeated lock t w.seat × AreSeated lock (suc t) ws

  abbrev pub HaveEnded : ℕ → List (Worker T N) → View T → Type 0
  HaveEnded t [] u = Unit {0}
  HaveEnded t (w ∷ ws) u = HasEnded t w.seat u × HaveEnded (suc t) ws u

  -- the seat has the workers' numbers and no others, and has seen all their entries
  pub record HasGathered (v : View T) (workers : List (Worker T N)) (u : View T) : Type 0 where
    pub opened_part : u.opened_part ≡ v.opened_part
    pub seats : u.seats ≡ v.seats
    pub number : u.number ≡ v.number
    pub mine : u.mine ≡ v.mine
    pub ended : (k : ℕ) → In k u.ended → In k v.ended ⊎ ((0 < k) × (k ≤ length workers))
    pub all : HaveEnded 0 workers u
    pub within_seats : u.out ≤ v.seats
