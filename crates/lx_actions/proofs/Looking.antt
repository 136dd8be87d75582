-- Memory, as the bytes of a space show it.
use Rattle.std.proofs.Common.{◌≡◌, ◌⊎◌, inl, inr, ◌∙◌, refl, sym, ap, ℕ, zero, suc, ◌+◌, ◌-◌, ◌*◌, ◌<◌, ◌≤◌, Bool, true, false, ◌||◌, cond, nat_lt, nat_le, Some, None, Result, Ok, Err, List, [], ◌∷◌, length, take, drop, get_or, if◌then◌else◌, arith}
use Rattle.std.specs.Prelude.{IfOk}
use Rattle.std.specs.Result.{result_ok}
use Rattle.std.proofs.lemmas.Bool.Decides.{nat_tests}
use Rattle.std.proofs.lemmas.Bool.{cond-false, or_cases, and_parts, leb-true, lt-ltb, le-ltb}
use Rattle.std.proofs.lemmas.List.{places}
use Rattle.lx_words.proofs.Tests.{zero_more}
use Rattle.lx_caps.specs.Regions.{covers, mapped, first_unmapped, lies_in, region_size, globals_start, heap_start, stacks_start}
use Rattle.lx_caps.specs.Memory.{Memory, Put, byte_at, bytes_at, number_at, number_of, load64}
use Rattle.lx_memory.specs.Ranges.{place_of, range_fault, IsFault}
use Rattle.lx_memory.specs.Shows.{Shows}
use Rattle.lx_memory.specs.declared.range.Unmapped.{Unmapped}
use Rattle.lx_actions.specs.Shown.{memory_of, IsShownBy}

-- a byte of a range that lies in memory lies in memory
byte_mapped : (at size b : ℕ) → mapped at size ≡ true → at ≤ b → b < at + size → mapped b 1 ≡ true
byte_mapped at size b m low high = grind (arith, nat_tests)

same_bytes : (space : List ℕ) (m n : Memory) (at size : ℕ) → Shows space m → Shows space n → ((b : ℕ) → at ≤ b → b < at + size → mapped b 1 ≡ true)
    → bytes_at m at size ≡ bytes_at n at size
same_bytes space m n at zero shows shown each = refl
same_bytes space m n at (suc size) shows shown each =
    let here = each at (omega arith) (omega arith) in
    let first : byte_at m at ≡ byte_at n at = sym (shows at here) ∙ shown at here in
    let rest = same_bytes space m n (suc at) size shows shown (λ b low high. each b (omega arith) (omega arith)) in
    rw (first, rest) refl

same_look_by : (b : Bool) (x y : ℕ) → (b ≡ true → x ≡ y) → (if b then Some x else None) ≡ (if b then Some y else None)
same_look_by true x y same = ap Some (same refl)
same_look_by false x y same = refl

-- two memories that a space shows are looked at alike
pub looked_alike : (space : List ℕ) (m n : Memory) → Shows space m → Shows space n → load64 m ≡ load64 n
looked_alike space m n shows shown =
    λ j at. same_look_by (mapped at 8) (number_at m at 8) (number_at n at 8) (λ is. ap number_of (same_bytes space m n at 8 shows shown (λ b low high. byte_mapped at 8 b is low high))) j

kept_in : (xs : List ℕ) (b n k : ℕ) → k < n → get_or xs (b + k) 0 ≡ cond (nat_lt k (length (take n (drop b xs)))) (get_or (take n (drop b xs)) k 0) 0
kept_in xs b n k below = grind (arith, places, nat_tests)

same_test : (start a n : ℕ) → start ≤ a → nat_lt (a - start) n ≡ covers start n a
same_test start a n low = grind (arith, nat_tests)

-- the byte of an address in a region, whose bytes begin at a place
in_region : (space : List ℕ) (start b a rest : ℕ) → start ≤ a → a < start + region_size → rest ≡ 0
    → get_or space (b + (a - start)) 0 ≡ (if covers start (length (take region_size (drop b space))) a then get_or (take region_size (drop b space)) (a - start) 0 else rest)
in_region space start b a rest low high none =
    kept_in space b region_size (a - start) (omega arith)
    ∙ by_test (nat_lt (a - start) (length (take region_size (drop b space)))) (covers start (length (take region_size (drop b space))) a) (get_or (take region_size (drop b space)) (a - start) 0) rest none (same_test start a (length (take region_size (drop b space))) low)
  where
    by_test : (t c : Bool) (x rest : ℕ) → rest ≡ 0 → t ≡ c → cond t x 0 ≡ (if c then x else rest)
    by_test true true x rest none same = refl
    by_test false false x rest none same = sym none
    by_test true false x rest none same = absurd cc
    by_test false true x rest none same = absurd cc

not_covered : (start n a : ℕ) (x rest : ℕ) → (a < start) ⊎ (start + n ≤ a) → (if covers start n a then x else rest) ≡ rest
not_covered start n a x rest out = cond-false (covers start n a) x rest (apart start n a out)
  where
    apart : (start n a : ℕ) → (a < start) ⊎ (start + n ≤ a) → covers start n a ≡ false
    apart start n a (inl below) = grind (arith, nat_tests)
    apart start n a (inr above) = grind (arith, nat_tests)

short : (n : ℕ) (xs : List ℕ) → length (take n xs) ≤ n
short zero xs = omega arith
short (suc n) [] = omega arith
short (suc n) (x ∷ xs) = omega (arith, short n xs)

-- the bounds that `lies_in` tests of one byte
bounds : (start a : ℕ) → lies_in start a 1 ≡ true → (start ≤ a) × (a < start + region_size)
bounds start a is =
    let parts = and_parts (nat_le start a) (nat_le (a + 1) (start + region_size)) is in
    (leb-true _ _ parts.0, omega (arith, leb-true _ _ parts.1))

in_globals : (space : List ℕ) (a : ℕ) → globals_start ≤ a → a < globals_start + region_size → get_or space (place_of a) 0 ≡ byte_at (memory_of space) a
in_globals space a low high =
    let below : nat_lt a heap_start ≡ true = lt-ltb a heap_start (omega arith) in
    let heap = take region_size (drop region_size space) in
    let stacks = take region_size (drop (2 * region_size) space) in
    ap (λ (b : Bool). get_or space (if b then a - globals_start else (if nat_lt a stacks_start then region_size + (a - heap_start) else 2 * region_size + (a - stacks_start))) 0) below
    ∙ ap (λ (k : ℕ). get_or space k 0) (zero_more (a - globals_start))
    ∙ in_region space globals_start 0 a (byte_at (Put heap_start heap ∷ Put stacks_start stacks ∷ []) a) low high
    (not_covered heap_start (length heap) a _ _ (inl (omega arith)) ∙ not_covered stacks_start (length stacks) a _ _ (inl (omega arith)))

in_heap : (space : List ℕ) (a : ℕ) → heap_start ≤ a → a < heap_start + region_size → get_or space (place_of a) 0 ≡ byte_at (memory_of space) a
in_heap space a low high =
    let above : nat_lt a heap_start ≡ false = le-ltb a heap_start (omega arith) in
    let below : nat_lt a stacks_start ≡ true = lt-ltb a stacks_start (omega arith) in
    let globals = take region_size space in
    let stacks = take region_size (drop (2 * region_size) space) in
    ap (λ (b : Bool). get_or space (if b then a - globals_start else (if nat_lt a stacks_start then region_size + (a - heap_start) else 2 * region_size + (a - stacks_start))) 0) above
    ∙ ap (λ (b : Bool). get_or space (if b then region_size + (a - heap_start) else 2 * region_size + (a - stacks_start)) 0) below
    ∙ in_region space heap_start region_size a (byte_at (Put stacks_start stacks ∷ []) a) low high
    (not_covered stacks_start (length stacks) a _ _ (inl (omega arith)))
    ∙ sym (not_covered globals_start (length globals) a _ _ (inr (omega (arith, short region_size space))))

in_stacks : (space : List ℕ) (a : ℕ) → stacks_start ≤ a → a < stacks_start + region_size → get_or space (place_of a) 0 ≡ byte_at (memory_of space) a
in_stacks space a low high =
    let above : nat_lt a heap_start ≡ false = le-ltb a heap_start (omega arith) in
    let higher : nat_lt a stacks_start ≡ false = le-ltb a stacks_start (omega arith) in
    let globals = take region_size space in
    let heap = take region_size (drop region_size space) in
    ap (λ (b : Bool). get_or space (if b then a - globals_start else (if nat_lt a stacks_start then region_size + (a - heap_start) else 2 * region_size + (a - stacks_start))) 0) above
    ∙ ap (λ (b : Bool). get_or space (if b then region_size + (a - heap_start) else 2 * region_size + (a - stacks_start)) 0) higher
    ∙ in_region space stacks_start (2 * region_size) a 0 low high refl
    ∙ sym (not_covered globals_start (length globals) a _ _ (inr (omega (arith, short region_size space)))
    ∙ not_covered heap_start (length heap) a _ _ (inr (omega (arith, short region_size (drop region_size space)))))

-- a space shows the memory that its bytes are
pub memory_shown : (space : List ℕ) → Shows space (memory_of space)
memory_shown space = λ a is.
    elim (or_cases (lies_in globals_start a 1) (lies_in heap_start a 1 || lies_in stacks_start a 1) is) [
      | inl here ↦ (let b = bounds globals_start a here in in_globals space a b.0 b.1)
      | inr further ↦ elim (or_cases (lies_in heap_start a 1) (lies_in stacks_start a 1) further) [
        | inl here ↦ (let b = bounds heap_start a here in in_heap space a b.0 b.1)
        | inr here ↦ (let b = bounds stacks_start a here in in_stacks space a b.0 b.1)
      ]
    ]

look_by : (b : Bool) (at n : ℕ) (first : ℕ) (result : Result ℕ Unmapped) → IsFault (if b then None else Some first) result → IfOk result (λ bits. bits ≡ n)
    → result_ok result ≡ (if b then Some n else None)
look_by true at n first (Ok bits) fault told = ap Some told
look_by true at n first (Err e) fault told = absurd cc
look_by false at n first (Ok bits) fault told = absurd cc
look_by false at n first (Err e) fault told = refl

-- what is read of eight bytes is what is looked at
pub looked : (space : List ℕ) (at : ℕ) (result : Result ℕ Unmapped) → IsFault (range_fault at 8) result → IfOk result (λ bits. (m : Memory) → Shows space m → bits ≡ number_at m at 8)
    → result_ok result ≡ load64 (memory_of space) at
looked space at result fault told =
    look_by (mapped at 8) at (number_at (memory_of space) at 8) (first_unmapped at) result fault (told_of result told)
  where
    told_of : (result : Result ℕ Unmapped) → IfOk result (λ bits. (m : Memory) → Shows space m → bits ≡ number_at m at 8) → IfOk result (λ bits. bits ≡ number_at (memory_of space) at 8)
    told_of (Ok bits) told = told (memory_of space) (memory_shown space)
    told_of (Err e) told = tt

-- what is looked at by way of the space is what each memory that it shows has
pub each_alike : (space : List ℕ) (m : Memory) → Shows space m → load64 m ≡ load64 (memory_of space)
each_alike space m shown = looked_alike space m (memory_of space) shown (memory_shown space)

pub alike : (space : List ℕ) (m : Memory) → IsShownBy space m → load64 m ≡ load64 (memory_of space)
unfolding IsShownBy
alike space m shown = each_alike space m shown
