-- Numbers as text. Numbers end at 128 bits.
use Rattle.std.specs.Prelude.{◌-◌, ◌*◌, fold, nat_le, ℕ, zero, suc, ◌+◌, ◌/◌, ◌%◌, List, [], ◌∷◌, ◌++◌, true, false, nat_lt, if◌then◌else◌, ℤ, pos, negsuc, codes}

-- the digit of a number below 36
abbrev pub digit : ℕ → ℕ
digit n = if nat_lt n 10 then 48 + n else 87 + n

-- at most so many digits of a number to a base, the last ones (`elim` computes no further than the number is known)
abbrev pub digits_to : ℕ → ℕ → ℕ → List ℕ
digits_to base zero n = []
digits_to base (suc k) n =
    elim (nat_lt n base) [ true ↦ digit n ∷ [] | false ↦ digits_to base k (n / base) ++ digit (n % base) ∷ [] ]

abbrev pub decimal_text : ℕ → List ℕ
decimal_text n = digits_to 10 39 n

abbrev pub signed_text : ℤ → List ℕ
signed_text (pos n) = decimal_text n
signed_text (negsuc n) = codes "-" ++ decimal_text (suc n)

-- `0x` and lower-case hexadecimal
abbrev pub hex_text : ℕ → List ℕ
hex_text n = codes "0x" ++ digits_to 16 32 n

-- what a decimal or hexadecimal digit counts
abbrev pub digit_value : ℕ → ℕ
digit_value d = if nat_le d 57 then d - 48 else if nat_le d 70 then d - 55 else d - 87

-- digits behind a number make a greater one
abbrev pub number_from : ℕ → ℕ → List ℕ → ℕ
number_from base number digits = fold (λ n d. n * base + digit_value d) number digits

-- the number that decimal digits say
abbrev pub decimal_value : List ℕ → ℕ
decimal_value digits = number_from 10 0 digits

-- the number that hexadecimal digits say
abbrev pub hex_value : List ℕ → ℕ
hex_value digits = number_from 16 0 digits
