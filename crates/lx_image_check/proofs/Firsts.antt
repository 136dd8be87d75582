-- The first place in a list, and what stands there.
use Rattle.std.proofs.Common.{Option, Some, None}

abbrev is_one : {A : Type 0} → A → Option A → A
is_one d None = d
is_one d (Some x) = x
