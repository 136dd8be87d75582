-- Bytes that are put one after another.
use Rattle.std.proofs.Common.{◌≡◌, ℕ, zero, suc, ◌+◌, ◌-◌, ◌%◌, ◌<◌, ◌≤◌, Bool, true, false, cond, List, [], ◌∷◌, ◌++◌, length, get_or, take, refl, ap, sym, subst, ◌∙◌, arith}
use Rattle.std.specs.Prelude.{slice_index}
use Rattle.std.proofs.lemmas.List.{take_more, length-take-le, take_all}
use Rattle.std.proofs.lemmas.Bool.Decides.{nat_tests}
use Rattle.lx_caps.specs.Regions.{covers, mapped}
use Rattle.lx_caps.specs.Memory.{Memory, Put, byte_at}
use Rattle.lx_actions.specs.Shown.{IsShownBy}
use Rattle.lx_caps.proofs.Covering.{none_covered}

-- memories with the same bytes are shown alike
shown_alike : (space : List ℕ) (m n : Memory) → ((a : ℕ) → byte_at m a ≡ byte_at n a) → IsShownBy space m → IsShownBy space n
unfolding IsShownBy
shown_alike space m n same shown = λ a is. shown a is ∙ same a

-- no bytes are put
pub put_none : (space : List ℕ) (at : ℕ) (m : Memory) → IsShownBy space m → IsShownBy space (Put at [] ∷ m)
put_none space at m shown =
    shown_alike space m (Put at [] ∷ m) (λ a. sym (ap (λ b. cond b (slice_index [] (a - at)) (byte_at m a)) (none_covered at a))) shown

-- one byte behind others

inside : (xs : List ℕ) (b k : ℕ) → k < length xs → slice_index (xs ++ b ∷ []) k ≡ slice_index xs k
inside [] b k h = absurd (omega (arith, h))
inside (x ∷ xs) b zero h = refl
inside (x ∷ xs) b (suc k) h = inside xs b k (omega (arith, h))

at_end : (xs : List ℕ) (b k : ℕ) → k ≡ length xs → slice_index (xs ++ b ∷ []) k ≡ b
at_end [] b zero h = refl
at_end [] b (suc k) h = absurd (omega (arith, h))
at_end (x ∷ xs) b zero h = absurd (omega (arith, h))
at_end (x ∷ xs) b (suc k) h = at_end xs b k (omega (arith, h))

longer : (xs : List ℕ) (b : ℕ) → length (xs ++ b ∷ []) ≡ length xs + 1
longer [] b = refl
longer (x ∷ xs) b = let e : length (xs ++ b ∷ []) ≡ length xs + 1 = longer xs b in omega (arith, e)

by_place : (here before all : Bool) (x y z w : ℕ) → (here ≡ true → all ≡ true) → (here ≡ true → w ≡ x) → (here ≡ false → before ≡ true → all ≡ true) → (before ≡ true → here ≡ false → w ≡ y)
    → (here ≡ false → before ≡ false → all ≡ false) → cond here x (cond before y z) ≡ cond all w z
by_place true before all x y z w a b c d e = sym (ap (λ q. cond q w z) (a refl) ∙ b refl)
by_place false true all x y z w a b c d e = sym (ap (λ q. cond q w z) (c refl refl) ∙ d refl refl)
by_place false false all x y z w a b c d e = sym (ap (λ q. cond q w z) (e refl refl))

pushed : (at b : ℕ) (xs : List ℕ) (m : Memory) (a : ℕ) → byte_at (Put (at + length xs) (b ∷ []) ∷ Put at xs ∷ m) a ≡ byte_at (Put at (xs ++ b ∷ []) ∷ m) a
pushed at b xs m a =
    let n : ℕ = length xs in
    let l : length (xs ++ b ∷ []) ≡ n + 1 = longer xs b in
    by_place (covers (at + n) 1 a) (covers at n a) (covers at (length (xs ++ b ∷ [])) a) (slice_index (b ∷ []) (a - (at + n))) (slice_index xs (a - at)) (byte_at m a) (slice_index (xs ++ b ∷ []) (a - at))
    (λ h. grind (arith, nat_tests, h, l))
    (λ h. let e : a ≡ at + n = grind (arith, nat_tests, h) in
    let z : a - (at + n) ≡ 0 = omega (arith, e) in
    at_end xs b (a - at) (omega (arith, e)) ∙ sym (ap (slice_index (b ∷ [])) z))
    (λ g h. grind (arith, nat_tests, g, h, l))
    (λ h g. let low : at ≤ a = grind (arith, nat_tests, h) in
    let high : a < at + n = grind (arith, nat_tests, h) in
    inside xs b (a - at) (omega (arith, low, high)))
    (λ g h. grind (arith, nat_tests, g, h, l))

-- so many bytes are put, and then the next one
pub put_more : (space : List ℕ) (at : ℕ) (bytes : List ℕ) (k d : ℕ) (m : Memory) → k < length bytes → IsShownBy space (Put (at + k) (get_or bytes k d ∷ []) ∷ Put at (take k bytes) ∷ m) → IsShownBy space (Put at (take (k + 1) bytes) ∷ m)
put_more space at bytes k d m h shown =
    let b : ℕ = get_or bytes k d in
    let l : length (take k bytes) ≡ k = length-take-le k bytes (omega (arith, h)) in
    let n : at + k ≡ at + length (take k bytes) = omega (arith, l) in
    let t : take k bytes ++ b ∷ [] ≡ take (k + 1) bytes = sym (take_more bytes k d h) in
    subst (λ xs. IsShownBy space (Put at xs ∷ m)) t
    (shown_alike space (Put (at + length (take k bytes)) (b ∷ []) ∷ Put at (take k bytes) ∷ m) (Put at (take k bytes ++ b ∷ []) ∷ m) (pushed at b (take k bytes) m)
    (subst (λ z. IsShownBy space (Put z (b ∷ []) ∷ Put at (take k bytes) ∷ m)) n shown))

pub put_all : (space : List ℕ) (at : ℕ) (bytes : List ℕ) (k : ℕ) (m : Memory) → length bytes ≤ k → IsShownBy space (Put at (take k bytes) ∷ m) → IsShownBy space (Put at bytes ∷ m)
put_all space at bytes k m h shown = subst (λ xs. IsShownBy space (Put at xs ∷ m)) (take_all k bytes h) shown

-- a byte of a mapped range is mapped
pub byte_mapped : (at size k : ℕ) → mapped at size ≡ true → k < size → mapped (at + k) 1 ≡ true
byte_mapped at size k m h = grind (arith, nat_tests)

pub byte_near : (at size k : ℕ) → mapped at size ≡ true → k < size → at + k < 0x10000000000000000
byte_near at size k m h = grind (arith, nat_tests)

-- a byte is what it is modulo 256
pub one_byte : (space : List ℕ) (at b : ℕ) (m : Memory) → b < 256 → IsShownBy space (Put at (b % 256 ∷ []) ∷ m) → IsShownBy space (Put at (b ∷ []) ∷ m)
one_byte space at b m h shown = let e : b % 256 ≡ b = omega (arith, h) in subst (λ x. IsShownBy space (Put at (x ∷ []) ∷ m)) e shown
