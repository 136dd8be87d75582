-- The room of a list.
use Rattle.std.specs.Prelude.{ℕ, ◌-◌, Vec, vec_capacity, vec_len}

-- how many more elements there is room for
abbrev pub room_of : {X Z : Type 0} → Vec X Z → ℕ
room_of v = vec_capacity v - vec_len v
