-- Hexadecimal digits, written from the last to the first.
use Rattle.std.proofs.Common.{◌≡◌, ℕ, zero, suc, ◌+◌, ◌-◌, ◌/◌, ◌%◌, ◌^◌, ◌<◌, ◌≤◌, List, [], ◌∷◌, ◌++◌, length, drop, set, sym, ap, ◌∙◌, arith, append_assoc}
use Rattle.std.proofs.Math.Nat.{pow-suc}
use Rattle.std.proofs.lemmas.Nat.{div_below}
use Rattle.std.proofs.lemmas.List.{drop-set, length-set}
use Rattle.lx_words.specs.Text.{digit, digits_to}
use Rattle.lx_words.proofs.NumberText.{digits_to-last, digits_to-more}

-- a number of more than one digit leaves a place behind
pub hex_step : (left rest : ℕ) → 16 ≤ rest → rest < 16 ^ left → (2 ≤ left) × (rest / 16 < 16 ^ (left - 1))
hex_step zero rest lo hi = absurd (omega arith)
hex_step (suc zero) rest lo hi = absurd (omega arith)
hex_step (suc (suc a)) rest lo hi =
    let k : suc (suc a) - 1 ≡ suc a = omega arith in
    (omega arith, rw k (div_below rest 16 (16 ^ suc a) (omega arith) (rw pow-suc at hi)))

-- one digit more, before those that stand
pub hex_more : (buffer : List ℕ) (left rest d : ℕ) (whole : List ℕ) → length buffer ≡ 18 → left ≤ 16 → 1 ≤ left → 16 ≤ rest → d ≡ digit (rest % 16)
    → digits_to 16 (left + 16) rest ++ drop (left + 2) buffer ≡ whole → digits_to 16 (left - 1 + 16) (rest / 16) ++ drop (left - 1 + 2) (set buffer (left + 1) d) ≡ whole
hex_more buffer left rest d whole size most least lo e so_far =
    let k : left + 16 ≡ suc (left - 1 + 16) = omega arith in
    let i : left - 1 + 2 ≡ left + 1 = omega arith in
    let j : left + 1 + 1 ≡ left + 2 = omega arith in
    let fits : left + 1 < length buffer = omega arith in
    let placed : drop (left - 1 + 2) (set buffer (left + 1) d) ≡ d ∷ drop (left + 2) buffer = ap (λ n. drop n (set buffer (left + 1) d)) i ∙ drop-set buffer (left + 1) d fits ∙ ap (λ n. d ∷ drop n buffer) j in
    let split : digits_to 16 (left + 16) rest ≡ digits_to 16 (left - 1 + 16) (rest / 16) ++ d ∷ [] = ap (λ n. digits_to 16 n rest) k ∙ digits_to-more 16 (left - 1 + 16) rest lo ∙ ap (λ x. digits_to 16 (left - 1 + 16) (rest / 16) ++ x ∷ []) (sym e) in
    ap (λ t. digits_to 16 (left - 1 + 16) (rest / 16) ++ t) placed ∙ sym (append_assoc (digits_to 16 (left - 1 + 16) (rest / 16)) (d ∷ []) (drop (left + 2) buffer)) ∙ ap (λ t. t ++ drop (left + 2) buffer) (sym split) ∙ so_far

three_set : (buffer : List ℕ) (a d : ℕ) → a + 2 < length buffer → drop a (set (set (set buffer (a + 2) d) (a + 1) 120) a 48) ≡ 48 ∷ 120 ∷ d ∷ drop (a + 3) buffer
three_set buffer a d h =
    let i : a + 1 + 1 ≡ a + 2 = omega arith in
    let j : a + 2 + 1 ≡ a + 3 = omega arith in
    let one = set buffer (a + 2) d in
    let two = set one (a + 1) 120 in
    let n : length one ≡ length buffer = length-set buffer (a + 2) d in
    let m : length two ≡ length one = length-set one (a + 1) 120 in
    drop-set two a 48 (omega arith)
    ∙ ap (λ t. 48 ∷ t) (drop-set one (a + 1) 120 (omega arith) ∙ ap (λ k. 120 ∷ drop k one) i ∙ ap (λ t. 120 ∷ t) (drop-set buffer (a + 2) d h ∙ ap (λ k. d ∷ drop k buffer) j))

-- the first digit, and `0x` before it
pub hex_end : (buffer : List ℕ) (left rest d : ℕ) (whole : List ℕ) → length buffer ≡ 18 → left ≤ 16 → 1 ≤ left → rest < 16 → d ≡ digit rest
    → digits_to 16 (left + 16) rest ++ drop (left + 2) buffer ≡ whole → drop (left - 1) (set (set (set buffer (left + 1) d) left 120) (left - 1) 48) ≡ 48 ∷ 120 ∷ whole
hex_end buffer zero rest d whole size most least hi e so_far = absurd (omega arith)
hex_end buffer (suc a) rest d whole size most least hi e so_far =
    let k : suc a + 16 ≡ suc (a + 16) = omega arith in
    let x : suc a - 1 ≡ a = omega arith in
    let y : suc a ≡ a + 1 = omega arith in
    let z : suc a + 1 ≡ a + 2 = omega arith in
    let w : suc a + 2 ≡ a + 3 = omega arith in
    let one : digits_to 16 (suc a + 16) rest ≡ d ∷ [] = ap (λ n. digits_to 16 n rest) k ∙ digits_to-last 16 (a + 16) rest hi ∙ ap (λ t. t ∷ []) (sym e) in
    let all : d ∷ drop (a + 3) buffer ≡ whole = ap (λ n. d ∷ drop n buffer) (sym w) ∙ ap (λ t. t ++ drop (suc a + 2) buffer) (sym one) ∙ so_far in
    ap (λ n. drop n (set (set (set buffer (suc a + 1) d) (suc a) 120) n 48)) x
    ∙ ap (λ n. drop a (set (set (set buffer (suc a + 1) d) n 120) a 48)) y
    ∙ ap (λ n. drop a (set (set (set buffer n d) (a + 1) 120) a 48)) z
    ∙ three_set buffer a d (omega arith)
    ∙ ap (λ t. 48 ∷ 120 ∷ t) all
