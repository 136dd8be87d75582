-- The loans of each thread that have not ended, by how many there are.
use Rattle.std.specs.Prelude.{ℕ, Bool, true, false, nat_eq, nat_le, nat_lt, ◌&&◌, List, slice_index_or}
use Rattle.lx_cap_lists.specs.declared.holder.Holder.{Holder}
use Rattle.lx_cap_lists.specs.declared.holder.Holder.TheVariants.{Keeper, Borrower}

abbrev pub loans_of : List ℕ → ℕ → ℕ
loans_of loans t = slice_index_or loans t 0

-- the holder's loan is one of them, if it has something on a loan
abbrev pub is_open : List ℕ → Holder → Bool
is_open loans (Keeper q) = true
is_open loans (Borrower t d q) = nat_lt t 16 && nat_lt d (loans_of loans t)

-- the holder's is a loan of the thread, one with so many older ones or more, and with fewer than so many
abbrev pub is_on : ℕ → ℕ → ℕ → Holder → Bool
is_on t first end (Keeper q) = false
is_on t first end (Borrower u d q) = nat_eq t u && (nat_le first d && nat_lt d end)
