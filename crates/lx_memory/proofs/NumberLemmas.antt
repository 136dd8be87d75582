-- Numbers in bytes.
use Rattle.std.proofs.Common.{◌≡◌, ◌+◌, ◌-◌, ◌/◌, ◌%◌, ◌^◌, ◌<◌, ◌≤◌, ℕ, zero, suc, List, [], ◌∷◌, ◌++◌, length, get_or, set, take, arith, sym, ◌∙◌, ap, append_assoc}
use Rattle.std.proofs.Math.Nat.{pow-suc}
use Rattle.std.proofs.lemmas.List.{take_more_set}
use Rattle.lx_caps.specs.Memory.{number_of, bytes_of}

byte_power : (k : ℕ) → 0 < 256 ^ k
byte_power zero = omega arith
byte_power (suc k) = let more = byte_power k in rw (pow-suc 256 k) (omega arith)

-- a number of at most k bytes
pub number_bound : (bytes : List ℕ) (k : ℕ) → ((i : ℕ) → get_or bytes i 0 < 256) → length bytes ≤ k → number_of bytes < 256 ^ k
number_bound [] k small short = byte_power k
number_bound (b ∷ bytes) zero small short = absurd (omega arith)
number_bound (b ∷ bytes) (suc k) small short =
    let rest = number_bound bytes k (λ i. small (suc i)) (omega arith) in
    let first = small 0 in
    rw (pow-suc 256 k) (omega arith)

-- one more byte of a number is put behind those before it
pub put_step : (bytes : List ℕ) (rest i : ℕ) → i < length bytes → take (i + 1) (set bytes i (rest % 256)) ++ bytes_of (length bytes - (i + 1)) (rest / 256) ≡ take i bytes ++ bytes_of (length bytes - i) rest
put_step bytes rest i within =
    let left : length bytes - i ≡ suc (length bytes - (i + 1)) = omega arith in
    ap (λ front. front ++ bytes_of (length bytes - (i + 1)) (rest / 256)) (take_more_set bytes i (rest % 256) within) ∙ append_assoc (take i bytes) (rest % 256 ∷ []) (bytes_of (length bytes - (i + 1)) (rest / 256)) ∙ ap (λ n. take i bytes ++ bytes_of n rest) (sym left)
