-- Digits, one after the other.
use Rattle.std.proofs.Common.{◌≡◌, ℕ, ◌+◌, ◌*◌, ◌≤◌, ◌<◌, List, [], ◌∷◌, length, drop, get_or, arith, ap}
use Rattle.std.proofs.Math.Nat.{mul-le-mul_left}
use Rattle.std.proofs.lemmas.List.{drop_more}
use Rattle.lx_words.specs.Text.{digit_value, number_from}

-- more digits make no smaller number
pub number_grows : (base number : ℕ) (digits : List ℕ) → 0 < base → number ≤ number_from base number digits
number_grows base number [] h = omega arith
number_grows base number (d ∷ ds) h =
    let least : number * 1 ≤ number * base = mul-le-mul_left number h in
    omega (arith, least, number_grows base (number * base + digit_value d) ds h)

pub next : (base number i : ℕ) (digits : List ℕ) → i < length digits → number_from base number (drop i digits) ≡ number_from base (number * base + digit_value (get_or digits i 0)) (drop (i + 1) digits)
next base number i digits lt = ap (number_from base number) (drop_more digits i 0 lt)

-- a part that is too large makes the whole too large
pub too_large : (base most number i : ℕ) (digits : List ℕ) → 0 < base → i < length digits → number_from base number (drop i digits) ≡ number_from base 0 digits → most ≤ number * base + digit_value (get_or digits i 0) → most ≤ number_from base 0 digits
too_large base most number i digits some lt so_far large =
    omega (arith, next base number i digits lt, so_far, number_grows base (number * base + digit_value (get_or digits i 0)) (drop (i + 1) digits) some)
