-- What a seat knows: its view, and what the steps make of it.
use Rattle.std.specs.Prelude.{◌≡◌, ℕ, ◌+◌, ◌<◌, ◌≤◌, List, [], ◌∷◌, ◌++◌, true, false, max, None}
use Rattle.std.specs.Prelude as std
use Rattle.atomic_table.specs.declared.shared.Seat.{Seat}
use Rattle.lx_caplock.specs.declared.knowledge.Entry.{Entry}
use Rattle.lx_caplock.specs.declared.knowledge.Stage.TheVariants.{Idle, Waits, Serves}
use Rattle.lx_caplock.specs.declared.knowledge.View.{View}
use Rattle.lx_caplock.specs.History.{entries_of, In}

abbrev pub first_or_zero : List ℕ → ℕ
first_or_zero [] = 0
first_or_zero (x ∷ xs) = x

module _ {T : Type 0} where
  -- the view of the first seat
  abbrev pub first_view : std.Option T → ℕ → View T
  first_view opened seats = record { opened_part = opened; seats = seats; spent = false; stage = Idle; number = 0; out = 1; unsettled = []; ended = []; unsettled_seen = []; seen = []; mine = [] }

  -- the view of a seat that another one took in
  abbrev pub spent_view : View T
  spent_view = record { opened_part = None; seats = 0; spent = true; stage = Idle; number = 0; out = 0; unsettled = []; ended = []; unsettled_seen = []; seen = []; mine = [] }

  -- it has a ticket
  abbrev pub waiting : View T → ℕ → View T
  waiting v t = record v { stage = Waits t }

  -- its turn came, and it has seen the whole history
  abbrev pub serving : View T → ℕ → List Entry → View T
  serving v t history = record v { stage = Serves t; seen = history }

  -- its turn is over, and it has added entries
  abbrev pub released : View T → List Entry → View T
  released v es = record v { stage = Idle; seen = v.seen ++ es; mine = v.mine ++ es }

  -- it has seen that so many numbers are out
  abbrev pub with_numbers_out : View T → ℕ → View T
  with_numbers_out v n = record v { out = n }

  -- it has drawn a number, which no seat has yet
  abbrev pub with_drawn : View T → ℕ → View T
  with_drawn v n = record v { out = n + 1; unsettled = n ∷ []; unsettled_seen = [] }

  abbrev pub without_drawn : View T → View T
  without_drawn v = record v { unsettled = [] }

  -- the new seat of the number that this one has drawn
  abbrev pub drawn_view : View T → View T
  drawn_view v = record { opened_part = v.opened_part; seats = v.seats; spent = false; stage = Idle; number = first_or_zero v.unsettled; out = v.out; unsettled = []; ended = []; unsettled_seen = []; seen = v.seen; mine = [] }

  -- the new seat of this number, which was split off this view
  abbrev pub split_view : View T → ℕ → View T
  split_view v n = record { opened_part = v.opened_part; seats = v.seats; spent = false; stage = Idle; number = n; out = n + 1; unsettled = []; ended = []; unsettled_seen = []; seen = v.seen; mine = [] }

  -- it has taken in another seat, whose numbers are not settled yet
  abbrev pub merged : View T → View T → View T
  merged v w = record v { out = max v.out w.out; unsettled = w.number ∷ w.ended; unsettled_seen = w.seen }

  -- its unsettled numbers have ended, and it has seen the whole history
  abbrev pub settled_view : View T → ℕ → List Entry → View T
  settled_view v n history = record v { out = n; unsettled = []; unsettled_seen = []; ended = v.unsettled ++ v.ended; seen = history }

  -- a seat that is in no call
  pub record IsAtRest (p : Seat T (View T)) : Type 0 where
    pub no_slots : p.me.1 ≡ []
    pub spent : p.me.0.spent ≡ false
    pub stage : p.me.0.stage ≡ Idle
    pub unsettled : p.me.0.unsettled ≡ []
    pub unsettled_seen : p.me.0.unsettled_seen ≡ []
    pub mine_seen : entries_of p.me.0.number p.me.0.seen ≡ p.me.0.mine
    pub number : p.me.0.number < p.me.0.out
    pub ended : (k : ℕ) → In k p.me.0.ended → k < p.me.0.out
    pub within_seats : p.me.0.out ≤ p.me.0.seats
