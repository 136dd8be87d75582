-- What callers see of a seat.
use Rattle.std.specs.Prelude.{◌≡◌, ℕ, List, Option}
use Rattle.lx_caplock.specs.declared.knowledge.Entry.{Entry}
use Rattle.lx_caplock.specs.declared.knowledge.View.{View}
use Rattle.lx_caplock.specs.declared.lock.CapLock.{CapLock}
use Rattle.lx_caplock.specs.declared.seat.Seat.{Seat}

module _ {T : Type 0} where
  -- what the seat knows
  abbrev pub view_of : Seat T → View T
  view_of seat = seat.place.me.0

  -- the seat comes from the lock, by its opening or by a split of such a seat
  pub record IsSeatOf (lock : CapLock T) (seat : Seat T) : Type 0 where
    pub table : seat.place.table_id ≡ lock.table.shared.table_id
    pub seats : seat.place.me.0.seats ≡ lock.seats

  -- the part that the lock was opened with
  abbrev pub opened_with : Seat T → Option T
  opened_with seat = seat.place.me.0.opened_part

  -- no two seats of a lock have one number
  abbrev pub number_of : Seat T → ℕ
  number_of seat = seat.place.me.0.number

  -- the history that the seat has seen
  abbrev pub seen_of : Seat T → List Entry
  seen_of seat = seat.place.me.0.seen

  -- its own entries
  abbrev pub mine_of : Seat T → List Entry
  mine_of seat = seat.place.me.0.mine

  -- the numbers of the seats that were joined into it, directly or through others
  abbrev pub ended_of : Seat T → List ℕ
  ended_of seat = seat.place.me.0.ended

  -- how many numbers were out when it last looked
  abbrev pub out_of : Seat T → ℕ
  out_of seat = seat.place.me.0.out
