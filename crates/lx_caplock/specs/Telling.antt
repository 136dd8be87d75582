-- What each step tells its seat.
use Rattle.std.specs.Prelude.{◌≡◌, ◌≢◌, ℕ, ◌%◌, ◌^◌, ◌<◌, ◌≤◌, List, [], ◌∷◌}
use Rattle.std.specs.Prelude as std
use Rattle.atomic_table.specs.Table.{Me, Step, rest}
use Rattle.lx_caplock.specs.declared.knowledge.Entry.{Entry}
use Rattle.lx_caplock.specs.declared.knowledge.Stage.TheVariants.{Waits}
use Rattle.lx_caplock.specs.declared.knowledge.View.{View}
use Rattle.lx_caplock.specs.History.{entries_of, Begins, In, AreOthers}
use Rattle.lx_caplock.specs.Views.{waiting, serving, released, with_numbers_out, with_drawn, settled_view}

module _ {T : Type 0} where
  -- a ticket was taken: the word that was found is the ticket modulo 2^64
  abbrev pub TellsTicket : Step T → Me T (View T) → ℕ → Me T (View T) → Type 0
  TellsTicket s m r n = (t : ℕ) × (r ≡ t % 2 ^ 64) × (n ≡ (waiting m.0 t, m.1))

  -- what a seat learns of a history that it sees: it goes on from what was seen, and has no other entries of the seat's numbers
  abbrev pub Learns : View T → List Entry → Type 0
  Learns v history = Begins v.seen history × (entries_of v.number history ≡ v.mine) × ((k : ℕ) → In k v.ended → (k ≢ v.number) × (entries_of k history ≡ entries_of k v.seen))

  -- whose turn it is was looked at: where it is the seat's own, the seat takes the part, which is what the whole history leaves
  abbrev pub TellsTurn : (std.Option T → T → List Entry → Type 0) → (std.Option T → List Entry → Type 0) → Step T → Me T (View T) → ℕ → Me T (View T) → Type 0
  TellsTurn leaves legal s m r n = (t : ℕ) → m.0.stage ≡ Waits t
      → (r ≡ t % 2 ^ 64 → (history : List Entry) × (x : T) × (n ≡ (serving m.0 t history, (0, x) ∷ m.1)) × leaves m.0.opened_part x history × legal m.0.opened_part history × Learns m.0 history)
      × (r ≢ t % 2 ^ 64 → n ≡ m)

  -- the turn was ended: the part is home, with these entries more in the history
  abbrev pub TellsRelease : List Entry → Step T → Me T (View T) → ℕ → Me T (View T) → Type 0
  TellsRelease es s m r n = n ≡ (released m.0 es, rest m.1)

  -- the numbers out were counted
  abbrev pub TellsCount : Step T → Me T (View T) → ℕ → Me T (View T) → Type 0
  TellsCount s m r n = (n ≡ (with_numbers_out m.0 r, m.1)) × (m.0.out ≤ r) × (r ≤ m.0.seats)

  -- a number was drawn, which no seat has and which has no entry; or another seat was faster
  abbrev pub TellsDraw : Step T → Me T (View T) → ℕ → Me T (View T) → Type 0
  TellsDraw s m r n = (r ≡ s.first → (n ≡ (with_drawn m.0 r, m.1)) × (m.0.number < r) × (m.0.out ≤ r) × ((k : ℕ) → In k m.0.ended → k < r) × (entries_of r m.0.seen ≡ [])) × (r ≢ s.first → n ≡ m)

  -- the numbers of a seat that was taken in were settled: none of them is the seat's own, and the history has no entry of them that
  -- the other seat had not seen
  abbrev pub TellsSettle : Step T → Me T (View T) → ℕ → Me T (View T) → Type 0
  TellsSettle s m r n = (history : List Entry) × (n ≡ (settled_view m.0 r history, m.1)) × Learns m.0 history × Begins m.0.unsettled_seen history × (m.0.out ≤ r) × ((k : ℕ) → In k m.0.unsettled → entries_of k history ≡ entries_of k m.0.unsettled_seen) × (r ≤ m.0.seats) × AreOthers m.0.unsettled m.0.number m.0.ended

module _ {T : Type 0} (leaves : std.Option T → T → List Entry → Type 0) (legal : std.Option T → List Entry → Type 0) where
  -- the seat's turn came: it has the part that the whole history leaves, and has seen that history
  abbrev pub TurnHasCome : Me T (View T) → Me T (View T) → Type 0
  TurnHasCome m n = (t : ℕ) × (history : List Entry) × (x : T) × (n ≡ (serving m.0 t history, (0, x) ∷ [])) × leaves m.0.opened_part x history × legal m.0.opened_part history × Learns m.0 history
