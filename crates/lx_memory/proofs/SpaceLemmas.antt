-- What a space shows after a write.
use Rattle.std.proofs.Common.{◌≡◌, ◌+◌, ◌-◌, ◌<◌, ◌≤◌, inl, inr, ℕ, zero, suc, Bool, true, false, cond, List, ◌∷◌, length, replicate, get_or, take, drop, arith, refl, ◌∙◌, ap, sym}
use Rattle.std.specs.List.{splice}
use Rattle.std.proofs.lemmas.List.{places, take_at, length-take-le, length-drop, length-replicate, get_or-replicate, ext_get_or, get_or-take, get_or-drop}
use Rattle.std.proofs.lemmas.Bool.{cases_lt}
use Rattle.lx_caps.specs.Regions.{covers}
use Rattle.lx_caps.specs.Memory.{Memory, bytes_at, byte_at, bytes_of, Put, Repeat}
use Rattle.lx_memory.specs.Ranges.{place_of, memory_size}
use Rattle.lx_memory.specs.Shows.{Shows}
use Rattle.lx_memory.proofs.RangeLemmas.{uncovered, KeptSomewhere, kept, fits, inside, near, is_mapped}
use Rattle.lx_caps.proofs.Covering.{covers_parts}

splice_below : (xs ys : List ℕ) (i j k : ℕ) → k < i → i ≤ length xs → get_or (splice xs i j ys) k 0 ≡ get_or xs k 0
splice_below xs ys i j k below within = grind (arith, places)

splice_in : (xs ys : List ℕ) (i j k : ℕ) → k < length ys → i ≤ length xs → get_or (splice xs i j ys) (i + k) 0 ≡ get_or ys k 0
splice_in xs ys i j k below within = grind (arith, places)

splice_above : (xs ys : List ℕ) (i j k : ℕ) → i + length ys ≡ j → j ≤ k → i ≤ length xs → get_or (splice xs i j ys) k 0 ≡ get_or xs k 0
splice_above xs ys i j k ends above within = grind (arith, places)

-- what was put first stands there
pub put_first : (xs ys : List ℕ) (n j : ℕ) → length ys ≡ n → take n (splice xs 0 j ys) ≡ ys
put_first xs ys n j len = take_at ys (drop j xs) n len

pub length-bytes_at : (m : Memory) (at n : ℕ) → length (bytes_at m at n) ≡ n
length-bytes_at m at zero = refl
length-bytes_at m at (suc n) = ap suc (length-bytes_at m (suc at) n)

pub get_or-bytes_at : (m : Memory) (at n k : ℕ) → k < n → get_or (bytes_at m at n) k 0 ≡ byte_at m (at + k)
get_or-bytes_at m at zero k below = absurd (omega arith)
get_or-bytes_at m at (suc n) zero below = ap (byte_at m) (omega arith)
get_or-bytes_at m at (suc n) (suc k) below =
    get_or-bytes_at m (suc at) n k (omega arith) ∙ ap (byte_at m) (omega arith)

pub length-bytes_of : (n number : ℕ) → length (bytes_of n number) ≡ n
length-bytes_of zero number = refl
length-bytes_of (suc n) number = ap suc (length-bytes_of n _)

-- the bytes that a space keeps for a range are those of the memory that it shows
pub bytes_shown : (space : List ℕ) (m : Memory) (at n : ℕ) → KeptSomewhere at n → length space ≡ memory_size → Shows space m → take n (drop (place_of at) space) ≡ bytes_at m at n
bytes_shown space m at n here all shows =
    let within = fits at n here in
    let size = length-take-le n (drop (place_of at) space) (rw length-drop (omega arith)) in
    ext_get_or 0 (take n (drop (place_of at) space)) (bytes_at m at n) (size ∙ sym (length-bytes_at m at n)) (λ k short.
    let below : k < n = omega arith in
    let there = inside at n k below here in
    let kept : get_or (take n (drop (place_of at) space)) k 0 ≡ get_or space (place_of at + k) 0 = rw (get_or-take, get_or-drop) refl in
    kept ∙ ap (λ i. get_or space i 0) (sym there.1) ∙ shows (at + k) (is_mapped (at + k) there.0) ∙ sym (get_or-bytes_at m at n k below))

-- a part of a list, by its first place and its size
pub part_is : (xs ys : List ℕ) (p q k n : ℕ) → p ≡ q → k ≡ n → xs ≡ ys → take (p + k - p) (drop p xs) ≡ take n (drop q ys)
part_is xs ys p q k n place size same =
    let e : p + k - p ≡ n = omega arith in
    ap (λ i. take i (drop p xs)) e ∙ ap (λ i. take n (drop i xs)) place ∙ ap (λ list. take n (drop q list)) same

pick : (b : Bool) (x y z : ℕ) → (b ≡ true → x ≡ y) → (b ≡ false → x ≡ z) → x ≡ cond b y z
pick true x y z yes_is no_is = yes_is refl
pick false x y z yes_is no_is = no_is refl

-- what is kept of an address after bytes were put in the places of a range
over : (old ys : List ℕ) (at n a : ℕ) → KeptSomewhere at n → KeptSomewhere a 1 → length ys ≡ n → length old ≡ memory_size → get_or (splice old (place_of at) (place_of at + n) ys) (place_of a) 0 ≡ cond (covers at n a) (get_or ys (a - at) 0) (get_or old (place_of a) 0)
over old ys at n a here there size all =
    let within = fits at n here in
    pick (covers at n a) _ _ _ (λ is.
    let bounds = covers_parts at n a is in
    let address : at + (a - at) ≡ a = omega arith in
    let next = inside at n (a - at) (omega arith) here in
    let place : place_of a ≡ place_of at + (a - at) = ap place_of (sym address) ∙ next.1 in
    ap (λ i. get_or (splice old (place_of at) (place_of at + n) ys) i 0) place ∙ splice_in old ys (place_of at) (place_of at + n) (a - at) (omega arith) (omega arith)) (λ is.
    elim (cases_lt (place_of a) (place_of at)) [
      | inl below ↦ splice_below old ys (place_of at) (place_of at + n) (place_of a) below (omega arith)
      | inr above ↦ elim (cases_lt (place_of a) (place_of at + n)) [
        | inl short ↦ (let bounds = near at n a here there above short in absurd (uncovered at n a is bounds.0 bounds.1))
        | inr past ↦ splice_above old ys (place_of at) (place_of at + n) (place_of a) (omega arith) past (omega arith)
      ]
    ])

-- a space shows the bytes that were put
pub shows_put : (old ys : List ℕ) (m : Memory) (at n : ℕ) → KeptSomewhere at n → length ys ≡ n → length old ≡ memory_size → Shows old m → Shows (splice old (place_of at) (place_of at + n) ys) (Put at ys ∷ m)
shows_put old ys m at n here size all shows = λ a is.
    over old ys at n a here (kept a 1 (omega arith) is) size all
    ∙ ap (λ rest. cond (covers at n a) (get_or ys (a - at) 0) rest) (shows a is)
    ∙ ap (λ k. cond (covers at k a) (get_or ys (a - at) 0) (byte_at m a)) (sym size)

-- a space shows the byte that was put into each place
pub shows_repeat : (old : List ℕ) (m : Memory) (at n byte : ℕ) → KeptSomewhere at n → length old ≡ memory_size → Shows old m → Shows (splice old (place_of at) (place_of at + n) (replicate n byte)) (Repeat at n byte ∷ m)
shows_repeat old m at n byte here all shows = λ a is.
    over old (replicate n byte) at n a here (kept a 1 (omega arith) is) (length-replicate n byte) all
    ∙ pick (covers at n a) _ _ _ (λ in_it.
    let bounds = covers_parts at n a in_it in
    rw in_it (get_or-replicate n (a - at) byte 0 (omega arith))) (λ out. rw out (shows a is))

-- to put no bytes changes nothing
pub shows_none : (space ys : List ℕ) (m : Memory) (at : ℕ) → length ys ≡ 0 → Shows space m → Shows space (Put at ys ∷ m)
shows_none space ys m at size shows = λ a is.
    pick (covers at (length ys) a) _ _ _ (λ in_it.
    let bounds = covers_parts at (length ys) a in_it in
    absurd (omega arith)) (λ _. shows a is)
