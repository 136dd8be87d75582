-- Free ranges and allocated blocks, in the words of bytes and addresses.
use Rattle.std.proofs.Common.{◌≡◌, ◌≢◌, ◌↔◌, ◌⊎◌, ◌∙◌, inl, inr, refl, sym, subst, ℕ, zero, suc, ◌+◌, ◌-◌, ◌*◌, ◌/◌, ◌%◌, ◌<◌, ◌≤◌, Bool, true, false, not, nat_le, IsTrue, List, [], ◌∷◌, map, arith}
use Rattle.std.specs.List.{list_any}
use Rattle.std.proofs.lemmas.Bool.{or_cases, or_parts, and_parts, and_from, not-true, both_ways, cases_Bool, cases_lt, cond-true, cond-false, leb-true, le-leb, leb-false, false_from_ne_true, true_from_ne_false, cond_both, not_from_false}
use Rattle.std.proofs.lemmas.Bool.Decides.{nat_tests}
use Rattle.lx_caps.specs.declared.Block.{Block}
use Rattle.lx_caps.specs.Regions.{region_size, heap_start, lies_in, overlaps, align_up}
use Rattle.lx_caps.specs.Heap.{Blocks, is_free, places, lesser, least_free, alloc_address}
use Rattle.lx_caps.specs.HeapLaws.{IsApart, IsFree, Fits, IsLeastFit}

-- two ranges share a byte
abbrev Share : ℕ → ℕ → ℕ → ℕ → Type 0
Share at size other more = (b : ℕ) × ((at ≤ b) × (b < at + size)) × ((other ≤ b) × (b < other + more))

overlap-share : (at size other more : ℕ) → overlaps at size other more ≡ true → Share at size other more
overlap-share at size other more is =
    elim (cases_lt at other) [
      | inl before ↦ (other, (grind (arith, nat_tests), grind (arith, nat_tests)), (grind (arith, nat_tests), grind (arith, nat_tests)))
      | inr behind ↦ (at, (grind (arith, nat_tests), grind (arith, nat_tests)), (grind (arith, nat_tests), grind (arith, nat_tests)))
    ]

share-overlap : (at size other more b : ℕ) → at ≤ b → b < at + size → other ≤ b → b < other + more → overlaps at size other more ≡ true
share-overlap at size other more b one two three four = grind (arith, nat_tests)

-- the block shares a byte with the range
abbrev in_way : ℕ → ℕ → Block → Bool
in_way at size block = overlaps at size block.at block.size

apart-none : (blocks : Blocks) (at size : ℕ) → IsApart blocks at size → list_any (in_way at size) blocks ≡ false
apart-none [] at size apart = refl
apart-none (block ∷ blocks) at size apart =
    let here : overlaps at size block.at block.size ≡ false = false_from_ne_true (overlaps at size block.at block.size)
    (λ is. let (b, mine, its) = overlap-share at size block.at block.size is in apart.0 b mine.0 mine.1 its) in
    rw here (apart-none blocks at size apart.1)

none-apart : (blocks : Blocks) (at size : ℕ) → list_any (in_way at size) blocks ≡ false → IsApart blocks at size
none-apart [] at size none = tt
none-apart (block ∷ blocks) at size none =
    let i = or_parts (in_way at size block) (list_any (in_way at size) blocks) none in (
      (λ b low high its. both_ways (in_way at size block) i.0 (share-overlap at size block.at block.size b low high its.0 its.1)),
      none-apart blocks at size i.1,
    )

is_free-parts : (blocks : Blocks) (at size : ℕ) → is_free blocks at size ≡ true → IsFree blocks at size
is_free-parts blocks at size is =
    let i = and_parts (lies_in heap_start at size) (not (list_any (in_way at size) blocks)) is in
    let j = and_parts (nat_le heap_start at) (nat_le (at + size) (heap_start + region_size)) i.0 in
    record {
      from = leb-true heap_start at j.0;
      to = leb-true (at + size) (heap_start + region_size) j.1;
      apart = none-apart blocks at size (not-true (list_any (in_way at size) blocks) i.1);
    }

parts-is_free : (blocks : Blocks) (at size : ℕ) → IsFree blocks at size → is_free blocks at size ≡ true
parts-is_free blocks at size free =
    and_from (lies_in heap_start at size) (not (list_any (in_way at size) blocks))
    (and_from (nat_le heap_start at) (nat_le (at + size) (heap_start + region_size)) (le-leb heap_start at free.from) (le-leb (at + size) (heap_start + region_size) free.to))
    (not_from_false (list_any (in_way at size) blocks) (apart-none blocks at size free.apart))

pub free : (blocks : Blocks) (at size : ℕ) → IsTrue (is_free blocks at size) ↔ IsFree blocks at size
free blocks at size = (is_free-parts blocks at size, parts-is_free blocks at size)

-- the address is one of these places
abbrev Among : List ℕ → ℕ → Type 0
Among [] at = ⊥
Among (place ∷ places) at = (place ≡ at) ⊎ Among places at

lesser-cases : (a b : ℕ) → (lesser a b ≡ a) ⊎ (lesser a b ≡ b)
lesser-cases zero b = inr refl
lesser-cases (suc a) zero = inl refl
lesser-cases (suc a) (suc b) =
    elim (cases_Bool (nat_le (suc a) (suc b))) [
      | inl less ↦ inl (cond-true (nat_le (suc a) (suc b)) (suc a) (suc b) less)
      | inr more ↦ inr (cond-false (nat_le (suc a) (suc b)) (suc a) (suc b) more)
    ]

lesser-left : (a b : ℕ) → 0 < a → (0 < lesser a b) × (lesser a b ≤ a)
lesser-left zero b above = absurd (omega arith)
lesser-left (suc a) zero above = (omega arith, omega arith)
lesser-left (suc a) (suc b) above =
    cond_both (nat_le (suc a) (suc b)) (suc a) (suc b) (λ (c : ℕ). (0 < c) × (c ≤ suc a))
    (λ less. (omega arith, omega arith))
    (λ more. (omega arith, omega (arith, leb-false (suc a) (suc b) more)))

lesser-right : (a b : ℕ) → 0 < b → (0 < lesser a b) × (lesser a b ≤ b)
lesser-right zero b above = (above, omega arith)
lesser-right (suc a) zero above = absurd (omega arith)
lesser-right (suc a) (suc b) above =
    cond_both (nat_le (suc a) (suc b)) (suc a) (suc b) (λ (c : ℕ). (0 < c) × (c ≤ suc b))
    (λ less. (omega arith, omega (arith, leb-true (suc a) (suc b) less)))
    (λ more. (omega arith, omega arith))

least-here : (blocks : Blocks) (size at : ℕ) (more : List ℕ) → is_free blocks at size ≡ true → least_free blocks size (at ∷ more) ≡ lesser at (least_free blocks size more)
least-here blocks size at more is =
    cond-true (is_free blocks at size) (lesser at (least_free blocks size more)) (least_free blocks size more) is

least-behind : (blocks : Blocks) (size at : ℕ) (more : List ℕ) → is_free blocks at size ≡ false → least_free blocks size (at ∷ more) ≡ least_free blocks size more
least-behind blocks size at more is =
    cond-false (is_free blocks at size) (lesser at (least_free blocks size more)) (least_free blocks size more) is

-- nothing, or one of the places, which is free
abbrev Sound : Blocks → ℕ → List ℕ → ℕ → Type 0
Sound blocks size ps at = (at ≡ 0) ⊎ (Among ps at × (is_free blocks at size ≡ true))

sound-more : (blocks : Blocks) (size first : ℕ) (ps : List ℕ) (at : ℕ) → Sound blocks size ps at → Sound blocks size (first ∷ ps) at
sound-more blocks size first ps at (inl none) = inl none
sound-more blocks size first ps at (inr w) = inr (inr w.0, w.1)

least-sound : (blocks : Blocks) (size : ℕ) (ps : List ℕ) → Sound blocks size ps (least_free blocks size ps)
least-sound blocks size [] = inl refl
least-sound blocks size (at ∷ more) =
    let behind : Sound blocks size (at ∷ more) (least_free blocks size more) = sound-more blocks size at more (least_free blocks size more) (least-sound blocks size more) in
    elim (cases_Bool (is_free blocks at size)) [
      | inl here ↦
          (let e = least-here blocks size at more here in
          elim (lesser-cases at (least_free blocks size more)) [
            | inl it ↦ subst (λ (a : ℕ). Sound blocks size (at ∷ more) a) (sym (e ∙ it)) (inr (inl refl, here))
            | inr other ↦ subst (λ (a : ℕ). Sound blocks size (at ∷ more) a) (sym (e ∙ other)) behind
          ])
      | inr out ↦ subst (λ (a : ℕ). Sound blocks size (at ∷ more) a) (sym (least-behind blocks size at more out)) behind
    ]

above_zero : (blocks : Blocks) (size at : ℕ) → is_free blocks at size ≡ true → 0 < at
above_zero blocks size at is = let free = is_free-parts blocks at size is in omega (arith, free.from)

least-below : (blocks : Blocks) (size : ℕ) (ps : List ℕ) (place : ℕ) → Among ps place → is_free blocks place size ≡ true
    → (0 < least_free blocks size ps) × (least_free blocks size ps ≤ place)
least-below blocks size [] place among is = absurd among
least-below blocks size (at ∷ more) place among is =
    elim (cases_Bool (is_free blocks at size)) [
      | inl here ↦
          subst (λ (a : ℕ). (0 < a) × (a ≤ place)) (sym (least-here blocks size at more here))
          (elim among [
            | inl it ↦ (let i = lesser-left at (least_free blocks size more) (above_zero blocks size at here) in (i.0, omega (arith, i.1, it)))
            | inr behind ↦
                (let j = least-below blocks size more place behind is in
                let i = lesser-right at (least_free blocks size more) j.0 in
                (i.0, omega (arith, i.1, j.1)))
          ])
      | inr out ↦
          subst (λ (a : ℕ). (0 < a) × (a ≤ place)) (sym (least-behind blocks size at more out))
          (elim among [
            | inl it ↦ absurd (both_ways (is_free blocks at size) out (subst (λ (a : ℕ). is_free blocks a size ≡ true) (sym it) is))
            | inr behind ↦ least-below blocks size more place behind is
          ])
    ]

-- the places behind live blocks
abbrev behind : Blocks → List ℕ
behind blocks = map (λ (b : Block). align_up (b.at + b.size) 16) blocks

aligned_behind : (blocks : Blocks) (at : ℕ) → Among (behind blocks) at → at % 16 ≡ 0
aligned_behind [] at among = absurd among
aligned_behind (block ∷ blocks) at (inl it) = omega arith
aligned_behind (block ∷ blocks) at (inr more) = aligned_behind blocks at more

aligned_place : (blocks : Blocks) (at : ℕ) → Among (places blocks) at → at % 16 ≡ 0
aligned_place blocks at (inl it) = omega arith
aligned_place blocks at (inr more) = aligned_behind blocks at more

-- a block that is in the way of a range, and not of the one 16 bytes on, ends between them
ends_between : (k size other more : ℕ) → overlaps (heap_start + 16 * k) size other more ≡ true → overlaps (heap_start + 16 * suc k) size other more ≡ false
    → align_up (other + more) 16 ≡ heap_start + 16 * suc k
ends_between k size other more is out =
    let low : heap_start + 16 * k < other + more = grind (arith, nat_tests) in
    let high : other + more ≤ heap_start + 16 * suc k = grind (arith, nat_tests) in
    omega arith

place_between : (blocks : Blocks) (k size : ℕ) → list_any (in_way (heap_start + 16 * k) size) blocks ≡ true → list_any (in_way (heap_start + 16 * suc k) size) blocks ≡ false
    → Among (behind blocks) (heap_start + 16 * suc k)
place_between [] k size is out = absurd cc
place_between (block ∷ blocks) k size is out =
    let o = or_parts (in_way (heap_start + 16 * suc k) size block) (list_any (in_way (heap_start + 16 * suc k) size) blocks) out in
    elim (or_cases (in_way (heap_start + 16 * k) size block) (list_any (in_way (heap_start + 16 * k) size) blocks) is) [
      | inl here ↦ inl (ends_between k size block.at block.size here o.0)
      | inr there ↦ inr (place_between blocks k size there o.1)
    ]

-- in the heap, only a live block is in the way
in_the_way : (blocks : Blocks) (at size : ℕ) → heap_start ≤ at → at + size ≤ heap_start + region_size → is_free blocks at size ≡ false → list_any (in_way at size) blocks ≡ true
in_the_way blocks at size low high out =
    true_from_ne_false (list_any (in_way at size) blocks)
    (λ none. both_ways (is_free blocks at size) out
    (and_from (lies_in heap_start at size) (not (list_any (in_way at size) blocks))
    (and_from (nat_le heap_start at) (nat_le (at + size) (heap_start + region_size)) (le-leb heap_start at low) (le-leb (at + size) (heap_start + region_size) high))
    (not_from_false (list_any (in_way at size) blocks) none)))

-- a place at or below it
abbrev PlaceBelow : Blocks → ℕ → ℕ → Type 0
PlaceBelow blocks size at = (place : ℕ) × Among (places blocks) place × (is_free blocks place size ≡ true) × (place ≤ at)

place_below : (blocks : Blocks) (size k : ℕ) → is_free blocks (heap_start + 16 * k) size ≡ true → PlaceBelow blocks size (heap_start + 16 * k)
place_below blocks size zero is = (heap_start, inl refl, is, omega arith)
place_below blocks size (suc k) is =
    elim (cases_Bool (is_free blocks (heap_start + 16 * k) size)) [
      | inl here ↦ (let (place, among, free_too, most) = place_below blocks size k here in (place, among, free_too, omega arith))
      | inr out ↦
          (let it = is_free-parts blocks (heap_start + 16 * suc k) size is in
          let way = in_the_way blocks (heap_start + 16 * k) size (omega arith) (omega (arith, it.to)) out in
          let no_way = apart-none blocks (heap_start + 16 * suc k) size it.apart in
          (heap_start + 16 * suc k, inr (place_between blocks k size way no_way), is, omega arith))
    ]

fits_below : (blocks : Blocks) (size at : ℕ) → Fits blocks size at → PlaceBelow blocks size at
fits_below blocks size at fits =
    let steps : heap_start + 16 * (at / 16 - heap_start / 16) ≡ at = omega (arith, fits.aligned, fits.is_free.from) in
    let is = parts-is_free blocks at size fits.is_free in
    subst (λ (a : ℕ). PlaceBelow blocks size a) steps
    (place_below blocks size (at / 16 - heap_start / 16) (subst (λ (a : ℕ). is_free blocks a size ≡ true) (sym steps) is))

place_fits : (blocks : Blocks) (size at : ℕ) → Among (places blocks) at → is_free blocks at size ≡ true → Fits blocks size at
place_fits blocks size at among is =
    record { aligned = aligned_place blocks at among; is_free = is_free-parts blocks at size is }

none_fits : (blocks : Blocks) (size : ℕ) → least_free blocks size (places blocks) ≡ 0 → (at : ℕ) → ¬ Fits blocks size at
none_fits blocks size none at fits =
    let (place, among, is, most) = fits_below blocks size at fits in
    let least = least-below blocks size (places blocks) place among is in
    omega (arith, least.0, none)

pub none : (blocks : Blocks) (size : ℕ) → (alloc_address blocks size ≡ 0) ↔ ((size ≡ 0) ⊎ ((at : ℕ) → ¬ Fits blocks size at))
none blocks zero = ((λ is. inl refl), (λ is. refl))
none blocks (suc n) = (
  (λ is. inr (none_fits blocks (suc n) is)),
  (λ w. elim w [
    | inl empty ↦ absurd cc
    | inr nowhere ↦ elim (least-sound blocks (suc n) (places blocks)) [
      | inl is ↦ is
      | inr found ↦ absurd (nowhere _ (place_fits blocks (suc n) _ found.0 found.1))
    ]
  ]),
)

pub some : (blocks : Blocks) (size : ℕ) → alloc_address blocks size ≢ 0 → IsLeastFit blocks size (alloc_address blocks size)
some blocks zero other = absurd (other refl)
some blocks (suc n) other =
    elim (least-sound blocks (suc n) (places blocks)) [
      | inl is ↦ absurd (other is)
      | inr found ↦
          record {
            fits = place_fits blocks (suc n) (least_free blocks (suc n) (places blocks)) found.0 found.1;
            least = λ at fits.
                let (place, among, is, most) = fits_below blocks (suc n) at fits in
                let least = least-below blocks (suc n) (places blocks) place among is in
                omega (arith, least.1, most);
          }
    ]
