-- Whether bits are had: by what the principal keeps itself, or by all that is in reach.
use Rattle.std.proofs.Common.{◌≡◌, ℕ, ◌<◌, ◌^◌, Bool, true, false, ◌||◌, nat_eq, bit_and, List, ◌∷◌, ◌++◌, sym, ◌∙◌}
use Rattle.std.proofs.lemmas.Bool.{and_from, or_left, or_right}
use Rattle.lx_cap_lists.specs.declared.entry.Entry.{Entry}
use Rattle.lx_cap_lists.specs.declared.holder.Holder.{Holder}
use Rattle.lx_cap_nodes.specs.Bits.{is_set}
use Rattle.lx_cap_lists.specs.Entries.{HasBits, bit_among, gives_bit}
use Rattle.lx_cap_lists.proofs.BitLemmas.{bit_append}
use Rattle.lx_cap_lists.proofs.HeldLemmas.{missing, present}

-- what one of the nodes gives is among what all give
pub bit_there : (among : Holder → Bool) (k : ℕ) (xs ys : List (ℕ × Entry)) (n : ℕ) (v : Entry) → among v.holder ≡ true → is_set v.mask k ≡ true → bit_among among (xs ++ (n, v) ∷ ys) k ≡ true
bit_there among k xs ys n v counts is =
    bit_append among k xs ((n, v) ∷ ys)
    ∙ or_right (bit_among among xs k) (gives_bit among k v || bit_among among ys k)
    (or_left (gives_bit among k v) (bit_among among ys k) (and_from (among v.holder) (is_set v.mask k) counts is))

-- bits that some mask of theirs has
pub kept_all : (among : Holder → Bool) (es : List (ℕ × Entry)) (m w : ℕ) → ((k : ℕ) → is_set m k ≡ true → bit_among among es k ≡ true) → nat_eq (bit_and m w) w ≡ true → HasBits among es w true
kept_all among es m w kept e = λ k low is. kept k (present m w k e is)

-- bits of the mask that has all of theirs
pub all_had : (among : Holder → Bool) (es : List (ℕ × Entry)) (r w : ℕ) → w < 2 ^ 64 → ((k : ℕ) → is_set r k ≡ bit_among among es k) → (b : Bool) → b ≡ nat_eq (bit_and r w) w → HasBits among es w b
all_had among es r w fits all true e = λ k low is. sym (all k) ∙ present r w k (sym e) is
all_had among es r w fits all false e = let lack = missing r w fits (sym e) in (lack.0, lack.1, lack.2, sym (all lack.0) ∙ lack.3)
