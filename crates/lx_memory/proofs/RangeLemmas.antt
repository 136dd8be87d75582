-- Where the bytes of a range are kept.
use Rattle.std.proofs.Common.{◌≡◌, ◌+◌, ◌-◌, ◌*◌, ◌<◌, ◌≤◌, ◌⊎◌, inl, inr, ℕ, Bool, true, false, ◌||◌, ltb, leb, eqb, arith, cond, Some, None, refl, ◌∙◌, sym}
use Rattle.std.proofs.lemmas.Bool.{false≢true, and_from, le-leb, or_cases, eqb-true, lt-ltb, le-ltb, or_left, or_right}
use Rattle.lx_caps.specs.Regions.{covers, mapped, first_unmapped, lies_in, region_size, globals_start, heap_start, stacks_start}
use Rattle.lx_memory.specs.Ranges.{place_of, range_fault, memory_size}
use Rattle.lx_caps.proofs.RegionLemmas.{lies_in-parts}

-- the range lies in the region that begins at `start`, whose bytes are kept from `base` on
pub record IsKept (at size start base : ℕ) : Type 0 where
  pub from : start ≤ at
  pub to : at + size ≤ start + region_size
  pub place : place_of at ≡ base + (at - start)

-- the range lies in one of the three regions
abbrev pub KeptSomewhere : ℕ → ℕ → Type 0
KeptSomewhere at size =
    IsKept at size globals_start 0 ⊎ (IsKept at size heap_start region_size ⊎ IsKept at size stacks_start (2 * region_size))

in_globals : (at size : ℕ) → 0 < size → globals_start ≤ at → at + size ≤ globals_start + region_size → IsKept at size globals_start 0
in_globals at size some low high =
    let below = lt-ltb at heap_start (omega arith) in
    record { from = low; to = high; place = rw below (omega arith) }

in_heap : (at size : ℕ) → 0 < size → heap_start ≤ at → at + size ≤ heap_start + region_size → IsKept at size heap_start region_size
in_heap at size some low high =
    let above = le-ltb at heap_start (omega arith) in
    let below = lt-ltb at stacks_start (omega arith) in
    record { from = low; to = high; place = rw (above, below) (omega arith) }

in_stacks : (at size : ℕ) → 0 < size → stacks_start ≤ at → at + size ≤ stacks_start + region_size → IsKept at size stacks_start (2 * region_size)
in_stacks at size some low high =
    let above = le-ltb at heap_start (omega arith) in
    let higher = le-ltb at stacks_start (omega arith) in
    record { from = low; to = high; place = rw (above, higher) (omega arith) }

-- a mapped range that is not empty lies in a region
pub kept : (at size : ℕ) → 0 < size → mapped at size ≡ true → KeptSomewhere at size
kept at size some is =
    elim (or_cases (eqb size 0) (lies_in globals_start at size || (lies_in heap_start at size || lies_in stacks_start at size)) is) [
      | inl none ↦ absurd (omega (arith, eqb-true size 0 none))
      | inr somewhere ↦ elim (or_cases (lies_in globals_start at size) (lies_in heap_start at size || lies_in stacks_start at size) somewhere) [
        | inl is_global ↦ (let b = lies_in-parts globals_start at size is_global in inl (in_globals at size some b.0 b.1))
        | inr further ↦ elim (or_cases (lies_in heap_start at size) (lies_in stacks_start at size) further) [
          | inl is_heap ↦ (let b = lies_in-parts heap_start at size is_heap in inr (inl (in_heap at size some b.0 b.1)))
          | inr is_stack ↦ (let b = lies_in-parts stacks_start at size is_stack in inr (inr (in_stacks at size some b.0 b.1)))
        ]
      ]
    ]

-- the test of bounds that hold
lies : (start a : ℕ) → start ≤ a → a + 1 ≤ start + region_size → lies_in start a 1 ≡ true
lies start a low high =
    and_from (leb start a) (leb (a + 1) (start + region_size)) (le-leb _ _ low) (le-leb _ _ high)

-- an address that is kept is mapped
pub is_mapped : (a : ℕ) → KeptSomewhere a 1 → mapped a 1 ≡ true
is_mapped a (inl k) = or_left (lies_in globals_start a 1) _ (lies globals_start a k.from k.to)
is_mapped a (inr (inl k)) =
    or_right (lies_in globals_start a 1) _ (or_left (lies_in heap_start a 1) _ (lies heap_start a k.from k.to))
is_mapped a (inr (inr k)) =
    or_right (lies_in globals_start a 1) _ (or_right (lies_in heap_start a 1) _ (lies stacks_start a k.from k.to))

no_fault : (b : Bool) (n : ℕ) → cond b None (Some n) ≡ None → b ≡ true
no_fault true n h = refl
no_fault false n h = cc

-- a range without a fault is mapped
pub without_fault : (at size : ℕ) → range_fault at size ≡ None → mapped at size ≡ true
without_fault at size h = no_fault (mapped at size) (first_unmapped at) h

-- the bytes of the range are all kept
pub fits : (at size : ℕ) → KeptSomewhere at size → place_of at + size ≤ memory_size
fits at size (inl k) = omega arith
fits at size (inr (inl k)) = omega arith
fits at size (inr (inr k)) = omega arith

-- the range has no more bytes than a region
pub in-region : (at size : ℕ) → KeptSomewhere at size → size ≤ region_size
in-region at size (inl k) = let from = k.from in let to = k.to in omega (arith, from, to)
in-region at size (inr (inl k)) = let from = k.from in let to = k.to in omega (arith, from, to)
in-region at size (inr (inr k)) = let from = k.from in let to = k.to in omega (arith, from, to)

-- each byte of the range lies in memory, at the next place
pub inside : (at size k : ℕ) → k < size → KeptSomewhere at size → KeptSomewhere (at + k) 1 × (place_of (at + k) ≡ place_of at + k)
inside at size k below (inl here) =
    let there = in_globals (at + k) 1 (omega arith) (omega arith) (omega arith) in (inl there, omega arith)
inside at size k below (inr (inl here)) =
    let there = in_heap (at + k) 1 (omega arith) (omega arith) (omega arith) in (inr (inl there), omega arith)
inside at size k below (inr (inr here)) =
    let there = in_stacks (at + k) 1 (omega arith) (omega arith) (omega arith) in (inr (inr there), omega arith)

-- only bytes of the range are kept in its places
pub near : (at size a : ℕ) → KeptSomewhere at size → KeptSomewhere a 1 → place_of at ≤ place_of a → place_of a < place_of at + size → (at ≤ a) × (a < at + size)
near at size a (inl x) (inl y) low high = (omega arith, omega arith)
near at size a (inl x) (inr (inl y)) low high = (omega arith, omega arith)
near at size a (inl x) (inr (inr y)) low high = (omega arith, omega arith)
near at size a (inr (inl x)) (inl y) low high = (omega arith, omega arith)
near at size a (inr (inl x)) (inr (inl y)) low high = (omega arith, omega arith)
near at size a (inr (inl x)) (inr (inr y)) low high = (omega arith, omega arith)
near at size a (inr (inr x)) (inl y) low high = (omega arith, omega arith)
near at size a (inr (inr x)) (inr (inl y)) low high = (omega arith, omega arith)
near at size a (inr (inr x)) (inr (inr y)) low high = (omega arith, omega arith)

pub uncovered : (at size a : ℕ) → covers at size a ≡ false → at ≤ a → a < at + size → ⊥
uncovered at size a is low high =
    false≢true (sym is ∙ and_from (leb at a) (ltb a (at + size)) (le-leb _ _ low) (lt-ltb _ _ high))
