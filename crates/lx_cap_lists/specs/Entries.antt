-- What entries say of holders.
use Rattle.std.specs.Prelude.{◌≡◌, ℕ, ◌<◌, Bool, true, false, ◌&&◌, ◌||◌, List, [], ◌∷◌, ◌-◌, nat_eq, bit_and, if◌then◌else◌}
use Rattle.lx_cap_lists.specs.declared.entry.Entry.{Entry}
use Rattle.lx_cap_lists.specs.declared.holder.Holder.{Holder}
use Rattle.lx_cap_nodes.specs.Bits.{is_set}
use Rattle.lx_cap_lists.specs.Holders.{same_holder}

-- the entry gives the bit to one of these holders
abbrev pub gives_bit : (Holder → Bool) → ℕ → Entry → Bool
gives_bit among k e = among e.holder && is_set e.mask k

-- some node gives the bit to one of these holders
abbrev pub bit_among : (Holder → Bool) → List (ℕ × Entry) → ℕ → Bool
bit_among among [] k = false
bit_among among (n ∷ ns) k = gives_bit among k n.1 || bit_among among ns k

-- whether these holders have each bit of the mask; where they do not, one of them lacks
abbrev pub HasBits : (Holder → Bool) → List (ℕ × Entry) → ℕ → Bool → Type 0
HasBits among es mask true = (k : ℕ) → k < 64 → is_set mask k ≡ true → bit_among among es k ≡ true
HasBits among es mask false = (k : ℕ) × (k < 64) × (is_set mask k ≡ true) × (bit_among among es k ≡ false)

-- some node is of the holder
abbrev pub is_holder : Holder → List (ℕ × Entry) → Bool
is_holder q [] = false
is_holder q (n ∷ ns) = same_holder q n.1.holder || is_holder q ns

abbrev pub with_mask : Entry → ℕ → Entry
with_mask e m = record { holder = e.holder; spot = e.spot; mask = m }

-- the bits of a mask but for some
abbrev pub left_of : ℕ → ℕ → ℕ
left_of mask bits = bit_and mask (18446744073709551615 - bits)

-- what is left of a node without some bits, before others
abbrev pub cut_node : ℕ → ℕ × Entry → List (ℕ × Entry) → List (ℕ × Entry)
cut_node bits e es = if nat_eq (left_of e.1.mask bits) 0 then es else ((e.0, with_mask e.1 (left_of e.1.mask bits)) ∷ es)

-- what is left of nodes without some bits
abbrev pub cut_all : ℕ → List (ℕ × Entry) → List (ℕ × Entry)
cut_all bits [] = []
cut_all bits (e ∷ es) = cut_node bits e (cut_all bits es)
