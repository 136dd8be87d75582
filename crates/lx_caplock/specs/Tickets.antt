-- The rule of the ticket lock: what holds between any two steps. Word 0 counts the numbers that are out, word 1 the tickets that were
-- given and word 2 the turns that are over, the latter two modulo 2^64. The slot has the part while no seat has its turn.
use Rattle.std.specs.Prelude.{◌≡◌, ◌≢◌, ◌⊎◌, ℕ, ◌+◌, ◌%◌, ◌^◌, ◌<◌, ◌≤◌, List, [], ◌∷◌, length, Bool, true, false}
use Rattle.std.specs.Prelude as std
use mathlib.Core.Option.{Option, none, some}
use lib.ListN.{get_elem?}
use Rattle.atomic_table.specs.Table.{State}
use Rattle.lx_caplock.specs.declared.knowledge.Entry.{Entry}
use Rattle.lx_caplock.specs.declared.knowledge.Stage.{Stage}
use Rattle.lx_caplock.specs.declared.knowledge.Stage.TheVariants.{Idle, Waits, Serves}
use Rattle.lx_caplock.specs.declared.knowledge.View.{View}
use Rattle.lx_caplock.specs.History.{entries_of, Begins, In}

-- the sum over a list
abbrev pub total : {A : Type 0} → (A → ℕ) → List A → ℕ
total f [] = 0
total f (x ∷ xs) = f x + total f xs

-- the number, and none where the view is spent
abbrev pub unless_spent : Bool → ℕ → ℕ
unless_spent true n = 0
unless_spent false n = n

-- how many tickets a view has that is spent or not, at this stage
abbrev pub tickets_of_stage : Bool → Stage → ℕ
tickets_of_stage true s = 0
tickets_of_stage false Idle = 0
tickets_of_stage false (Waits t) = 1
tickets_of_stage false (Serves t) = 1

-- what the stage of a view says: the tickets out are those from now_serving to the one before next_ticket, and ticket_holder tells which
-- view has which; who serves has the first of them, and has seen the whole history
abbrev pub StageFits : ℕ → ℕ → List Entry → (ℕ → ℕ) → ℕ → List Entry → Stage → Type 0
StageFits now_serving next_ticket history ticket_holder index seen Idle = Unit {0}
StageFits now_serving next_ticket history ticket_holder index seen (Waits t) = (now_serving ≤ t) × (t < next_ticket) × (ticket_holder t ≡ index)
StageFits now_serving next_ticket history ticket_holder index seen (Serves t) = (t ≡ now_serving) × (t < next_ticket) × (ticket_holder t ≡ index) × (seen ≡ history)

module _ {T : Type 0} where
  -- how many numbers a view has
  abbrev pub number_count : View T → ℕ
  number_count v = unless_spent v.spent (1 + (length v.unsettled + length v.ended))

  abbrev pub ticket_count : View T → ℕ
  ticket_count v = tickets_of_stage v.spent v.stage

  -- the number is one of the view's: its own, one that is not settled, or one that has ended in it
  abbrev pub HasNumber : View T → ℕ → Type 0
  HasNumber v k = (k ≡ v.number) ⊎ (In k v.unsettled ⊎ In k v.ended)

  -- what holds of the view at an index where it is not spent. A number n above 0 was drawn by a seat that has the number drawn_by n,
  -- and number_holder tells which view has a number
  pub record SeatFits (opened : std.Option T) (seats numbers_out now_serving next_ticket : ℕ) (history : List Entry) (number_holder ticket_holder drawn_by : ℕ → ℕ) (index : ℕ) (v : View T) : Type 0 where
    pub opened_part : v.opened_part ≡ opened
    pub same_seats : v.seats ≡ seats
    pub number : v.number < v.out
    pub out : v.out ≤ numbers_out
    pub seen : Begins v.seen history
    pub unsettled_seen : Begins v.unsettled_seen history
    pub mine : entries_of v.number history ≡ v.mine
    pub mine_seen : entries_of v.number v.seen ≡ v.mine
    pub ended : (k : ℕ) → In k v.ended → (k < v.out) × (k ≢ v.number) × (entries_of k history ≡ entries_of k v.seen)
    pub unsettled : (k : ℕ) → In k v.unsettled → (k < v.out) × (k ≢ v.number) × (entries_of k history ≡ entries_of k v.unsettled_seen) × (In k v.ended → ⊥)
    pub held : (k : ℕ) → HasNumber v k → number_holder k ≡ index
    pub drawn_below_out : (n : ℕ) → 0 < n → n < numbers_out → HasNumber v (drawn_by n) → n < v.out
    pub stage : StageFits now_serving next_ticket history ticket_holder index v.seen v.stage

  -- some view has its turn
  abbrev pub HasTurn : List (View T) → Type 0
  HasTurn views = (i : ℕ) × (v : View T) × (t : ℕ) × (get_elem? views i ≡ some v) × (v.spent ≡ false) × (v.stage ≡ Serves t)

module _ {T : Type 0} (leaves : std.Option T → T → List Entry → Type 0) (legal : std.Option T → List Entry → Type 0) where
  -- the part at home is what the history leaves; where none is at home, some view has its turn
  abbrev pub PartOrTurn : std.Option T → List Entry → List (View T) → Option T → Type 0
  PartOrTurn opened history views none = HasTurn views
  PartOrTurn opened history views (some x) = leaves opened x history

  -- there is one legal history, of which each seat has seen a beginning. Each number that is out belongs to one view at most, and so does
  -- each ticket
  pub record TicketRule (opened : std.Option T) (seats : ℕ) (table : State T (View T)) : Type 0 where
    pub numbers_out : ℕ
    pub now_serving : ℕ
    pub next_ticket : ℕ
    pub history : List Entry
    pub number_holder : ℕ → ℕ
    pub ticket_holder : ℕ → ℕ
    pub drawn_by : ℕ → ℕ
    pub part_at_home : Option T
    pub words : table.words ≡ numbers_out ∷ (next_ticket % 2 ^ 64) ∷ (now_serving % 2 ^ 64) ∷ []
    pub homes : table.homes ≡ part_at_home ∷ []
    pub limits : (numbers_out ≤ seats) × (seats ≤ 17)
    pub part_or_turn : PartOrTurn opened history table.views part_at_home
    pub is_legal : legal opened history
    pub each_seat : (index : ℕ) (v : View T) → get_elem? table.views index ≡ some v → v.spent ≡ false → SeatFits opened seats numbers_out now_serving next_ticket history number_holder ticket_holder drawn_by index v
    pub no_entry : (k : ℕ) → numbers_out ≤ k → entries_of k history ≡ []
    pub drawn_by_lower : (n : ℕ) → 0 < n → n < numbers_out → drawn_by n < n
    pub count : total number_count table.views ≤ numbers_out
    pub queue : total ticket_count table.views + now_serving ≡ next_ticket
