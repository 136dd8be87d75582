-- What the calls of the lock promise, by what a seat knows before and behind them. In each, the first view is the seat before the
-- call. Legal and left are said from the part that the lock was opened with.
use Rattle.std.specs.Prelude.{◌≡◌, ◌≢◌, ◌⊎◌, ℕ, ◌+◌, ◌≤◌, ◌<◌, List, [], ◌∷◌, ◌++◌}
use Rattle.std.specs.Prelude as std
use Rattle.lx_model.specs.declared.request.Reply.{Reply}
use Rattle.lx_model.specs.declared.request.Request.{Request}
use Rattle.lx_caplock.specs.declared.fault.SplitFault.{SplitFault}
use Rattle.lx_caplock.specs.declared.fault.SplitFault.TheVariants.{NoSeat, Memory}
use Rattle.lx_caplock.specs.declared.knowledge.Entry.{Entry}
use Rattle.lx_caplock.specs.declared.knowledge.View.{View}
use Rattle.lx_caplock.specs.History.{AreOthers, Begins, In, entries_of, entry}
use Rattle.lx_caplock.specs.Views.{split_view, with_numbers_out}

-- the same but for what was seen and asked
pub record IsSameSeat {T : Type 0} (v w : View T) : Type 0 where
  pub opened_part : w.opened_part ≡ v.opened_part
  pub seats : w.seats ≡ v.seats
  pub number : w.number ≡ v.number
  pub ended : w.ended ≡ v.ended
  pub out : w.out ≡ v.out

-- what a call shows of the history: it is legal and goes on from what was seen, it has the seat's own entries, and no
-- further ones of the ended numbers
pub record Sees {T : Type 0} (legal : std.Option T → List Entry → Type 0) (v w : View T) : Type 0 where
  pub is_legal : legal v.opened_part w.seen
  pub begins : Begins v.seen w.seen
  pub own : entries_of v.number w.seen ≡ w.mine
  pub ended : (k : ℕ) → In k v.ended → entries_of k w.seen ≡ entries_of k v.seen

-- the request was served: its entry is the last that was seen, and the last of the seat's own
pub record Answers {T : Type 0} (legal : std.Option T → List Entry → Type 0) (thread : ℕ) (request : Request) (v : View T) (reply : Reply) (w : View T) : Type 0 where
  pub sees : Sees legal v w
  pub last : (between : List Entry) × (w.seen ≡ (v.seen ++ between) ++ entry v.number thread request reply ∷ [])
  pub mine : w.mine ≡ v.mine ++ entry v.number thread request reply ∷ []

-- there was no memory: the seat may have seen more, and what that history leaves of the part may lack the memory for the request
pub record Refuses {T : Type 0} (leaves : std.Option T → T → List Entry → Type 0) (legal : std.Option T → List Entry → Type 0) (lacks : T → ℕ → Request → Type 0) (thread : ℕ) (request : Request) (v w : View T) : Type 0 where
  pub sees : Sees legal v w
  pub mine : w.mine ≡ v.mine
  pub lacking : (x : T) × leaves v.opened_part x w.seen × lacks x thread request

-- the new seat (the third view) has a number of the lock that was not out when the dividing seat last looked, is neither that seat's
-- own nor one that ended in it, and has no entry; it knows what the dividing seat has seen, and that seat knows that the number is out
pub record IsSplit {T : Type 0} (v w u : View T) : Type 0 where
  pub number : v.out ≤ u.number
  pub within_seats : u.number < v.seats
  pub others : AreOthers (u.number ∷ []) v.number v.ended
  pub no_entry : entries_of u.number v.seen ≡ []
  pub divider : w ≡ with_numbers_out v (u.number + 1)
  pub new : u ≡ split_view v u.number

-- there is no further seat: all numbers are out
abbrev pub IsFull : {T : Type 0} → View T → View T → Type 0
IsFull v w = w ≡ with_numbers_out v v.seats

-- why there is no further seat: all numbers are out, and never for want of memory
abbrev pub IsUnsplit : {T : Type 0} → View T → View T → SplitFault → Type 0
IsUnsplit v w NoSeat = IsFull v w
IsUnsplit v w Memory = ⊥

-- the seat that took in another one (w; u is the seat behind the call) has seen all that both had seen, and has the other's numbers,
-- which are none of its own. It counts the numbers that are out anew, and each number that it has is one of them
pub record HasJoined {T : Type 0} (v w u : View T) : Type 0 where
  pub opened_part : u.opened_part ≡ v.opened_part
  pub seats : u.seats ≡ v.seats
  pub number : u.number ≡ v.number
  pub mine : u.mine ≡ v.mine
  pub ended : u.ended ≡ (w.number ∷ w.ended) ++ v.ended
  pub others : AreOthers (w.number ∷ w.ended) v.number v.ended
  pub begins : Begins v.seen u.seen
  pub takes_in : Begins w.seen u.seen
  pub own : entries_of v.number u.seen ≡ v.mine
  pub theirs : entries_of w.number u.seen ≡ w.mine
  pub own_ended : (k : ℕ) → In k v.ended → entries_of k u.seen ≡ entries_of k v.seen
  pub their_ended : (k : ℕ) → In k w.ended → entries_of k u.seen ≡ entries_of k w.seen
  pub out : v.out ≤ u.out
  pub their_out : w.out ≤ u.out
  pub within_seats : u.out ≤ v.seats
  pub number_out : u.number < u.out
  pub ended_out : (k : ℕ) → In k u.ended → k < u.out

module _ {T : Type 0} where
  -- no other seat is out: each number that was out when the seat last looked is its own or has ended in it
  abbrev pub IsAlone : View T → Type 0
  IsAlone v = (k : ℕ) → k < v.out → (k ≡ v.number) ⊎ In k v.ended

-- the history at the end: it is legal and leaves the part x, goes on from what was seen, and has the seat's own entries and
-- those that were seen of the ended numbers, and no others
pub record HasClosed {T : Type 0} (leaves : std.Option T → T → List Entry → Type 0) (legal : std.Option T → List Entry → Type 0) (v : View T) (x : T) (history : List Entry) : Type 0 where
  pub is_left : leaves v.opened_part x history
  pub is_legal : legal v.opened_part history
  pub begins : Begins v.seen history
  pub own : entries_of v.number history ≡ v.mine
  pub ended : (k : ℕ) → In k v.ended → entries_of k history ≡ entries_of k v.seen
  pub none_else : (k : ℕ) → k ≢ v.number → (In k v.ended → ⊥) → entries_of k history ≡ []
