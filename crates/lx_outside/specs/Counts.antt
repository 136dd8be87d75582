-- Counts of calls and of faults, which stand still at their type's end.
use Rattle.std.specs.Prelude.{ℕ, ◌+◌, ◌-◌, ◌^◌, ◌<◌, ◌==◌, min, Bool, List}
use Rattle.std.specs.List.{list_any}

-- the count after one more
abbrev pub one_more : ℕ → ℕ
one_more count = min (count + 1) (2 ^ 64 - 1)

-- a count has risen; one that stands at its type's end is taken as risen
abbrev pub HasRisen : ℕ → ℕ → Type 0
HasRisen before now = before < 2 ^ 64 - 1 → before < now

-- the call of this number is one of those that are to fail
abbrev pub is_to_fail : List ℕ → ℕ → Bool
is_to_fail fails call = list_any (λ number. number == call) fails
