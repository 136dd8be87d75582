-- Histories: the requests that were served, oldest first, each with the number of the seat that asked.
use Rattle.std.specs.Prelude.{◌≡◌, ◌≢◌, ◌⊎◌, ℕ, List, [], ◌∷◌, ◌++◌, ◌==◌, if◌then◌else◌}
use Rattle.lx_model.specs.declared.request.Reply.{Reply}
use Rattle.lx_model.specs.declared.request.Request.{Request}
use Rattle.lx_caplock.specs.declared.knowledge.Entry.{Entry}

abbrev pub entry : ℕ → ℕ → Request → Reply → Entry
entry number thread request reply = record { seat = number; thread = thread; request = request; reply = reply }

-- the entries of one number, in their order
abbrev pub entries_of : ℕ → List Entry → List Entry
entries_of n [] = []
entries_of n (e ∷ es) = if n == e.seat then e ∷ entries_of n es else entries_of n es

-- the first history is where the second begins
abbrev pub Begins : List Entry → List Entry → Type 0
Begins xs ys = (rest : List Entry) × (ys ≡ xs ++ rest)

-- the number stands in the list
abbrev pub In : ℕ → List ℕ → Type 0
In k [] = ⊥
In k (x ∷ xs) = (k ≡ x) ⊎ In k xs

-- the numbers are others than a seat's own and the ended ones that it has
abbrev pub AreOthers : List ℕ → ℕ → List ℕ → Type 0
AreOthers theirs own ended = (k : ℕ) → In k theirs → (k ≢ own) × (In k ended → ⊥)
