-- Lying in memory, in the words of the bytes.
use Rattle.std.proofs.Common.{◌≡◌, ◌↔◌, ◌⊎◌, inl, inr, refl, ℕ, zero, suc, ◌+◌, ◌<◌, ◌≤◌, Bool, true, false, ◌||◌, nat_eq, nat_le, IsTrue, arith, cond, subst}
use Rattle.std.proofs.lemmas.Bool.{or_cases, or_left, or_right, and_parts, and_from, eqb-true, eq-eqb, leb-true, le-leb, cond_both, cases_lt, cases_eq, both_ways}
use Rattle.std.proofs.lemmas.Bool.Decides.{nat_tests}
use Rattle.lx_caps.specs.Regions.{region_size, globals_start, heap_start, stacks_start, covers, lies_in, mapped, first_unmapped}
use Rattle.lx_caps.specs.RegionLaws.{IsRegion, LiesIn, LiesInMemory, IsFirstOutside}

-- a range that lies in one region
abbrev Within : ℕ → ℕ → Type 0
Within at size = (start : ℕ) × IsRegion start × ((start ≤ at) × (at + size ≤ start + region_size))

pub lies_in-parts : (start at size : ℕ) → lies_in start at size ≡ true → (start ≤ at) × (at + size ≤ start + region_size)
lies_in-parts start at size is =
    let i = and_parts (nat_le start at) (nat_le (at + size) (start + region_size)) is in
    (leb-true start at i.0, leb-true (at + size) (start + region_size) i.1)

lies_in-from : (start at size : ℕ) → start ≤ at → at + size ≤ start + region_size → lies_in start at size ≡ true
lies_in-from start at size low high =
    and_from (nat_le start at) (nat_le (at + size) (start + region_size)) (le-leb start at low) (le-leb (at + size) (start + region_size) high)

mapped-cases : (at size : ℕ) → mapped at size ≡ true → (size ≡ 0) ⊎ Within at size
mapped-cases at size is =
    elim (or_cases (nat_eq size 0) (lies_in globals_start at size || (lies_in heap_start at size || lies_in stacks_start at size)) is) [
      | inl none ↦ inl (eqb-true size 0 none)
      | inr some ↦ elim (or_cases (lies_in globals_start at size) (lies_in heap_start at size || lies_in stacks_start at size) some) [
        | inl one ↦ inr (globals_start, inl refl, lies_in-parts globals_start at size one)
        | inr more ↦ elim (or_cases (lies_in heap_start at size) (lies_in stacks_start at size) more) [
          | inl two ↦ inr (heap_start, inr (inl refl), lies_in-parts heap_start at size two)
          | inr three ↦ inr (stacks_start, inr (inr refl), lies_in-parts stacks_start at size three)
        ]
      ]
    ]

mapped-empty : (at size : ℕ) → size ≡ 0 → mapped at size ≡ true
mapped-empty at size none =
    or_left (nat_eq size 0) (lies_in globals_start at size || (lies_in heap_start at size || lies_in stacks_start at size)) (eq-eqb size 0 none)

mapped-one : (a b c d : Bool) → (b ≡ true) ⊎ ((c ≡ true) ⊎ (d ≡ true)) → (a || (b || (c || d))) ≡ true
mapped-one a b c d (inl one) = or_right a (b || (c || d)) (or_left b (c || d) one)
mapped-one a b c d (inr (inl two)) = or_right a (b || (c || d)) (or_right b (c || d) (or_left c d two))
mapped-one a b c d (inr (inr three)) = or_right a (b || (c || d)) (or_right b (c || d) (or_right c d three))

mapped-within : (at size : ℕ) → Within at size → mapped at size ≡ true
mapped-within at size (start, is, range) =
    mapped-one (nat_eq size 0) (lies_in globals_start at size) (lies_in heap_start at size) (lies_in stacks_start at size)
    (elim is [
      | inl one ↦ inl (lies_in-from globals_start at size (omega arith) (omega arith))
      | inr more ↦ elim more [
        | inl two ↦ inr (inl (lies_in-from heap_start at size (omega arith) (omega arith)))
        | inr three ↦ inr (inr (lies_in-from stacks_start at size (omega arith) (omega arith)))
      ]
    ])

-- the bytes all lie in one region
abbrev InOne : ℕ → ℕ → Type 0
InOne at size = (start : ℕ) × IsRegion start × ((b : ℕ) → at ≤ b → b < at + size → LiesIn start b)

InOne-within : (at size : ℕ) → Within at size → InOne at size
InOne-within at size (start, is, range) = (start, is, λ b from to. (omega arith, omega arith))

within-InOne : (at size : ℕ) → InOne at size → (size ≡ 0) ⊎ Within at size
within-InOne at zero one = inl refl
within-InOne at (suc n) (start, is, all) =
    let first = all at (omega arith) (omega arith) in
    let last = all (at + n) (omega arith) (omega arith) in
    inr (start, is, (first.0, omega (arith, last.1)))

pub in_one : (at size : ℕ) → IsTrue (mapped at size) ↔ ((size ≡ 0) ⊎ InOne at size)
in_one at size = (
  (λ is. elim (mapped-cases at size is) [ inl none ↦ inl none | inr some ↦ inr (InOne-within at size some) ]),
  (λ w. elim w [
    | inl none ↦ mapped-empty at size none
    | inr one ↦ elim (within-InOne at size one) [ inl none ↦ mapped-empty at size none | inr some ↦ mapped-within at size some ]
  ]),
)

-- one more byte in front, since regions do not touch
within-more : (at size : ℕ) → LiesInMemory at → Within (suc at) (suc size) → Within at (suc (suc size))
within-more at size (s, is, here) (r, is_too, rest) =
    let same : s ≡ r = grind arith in
    (s, is, (here.0, omega arith))

within-bytes : (at size : ℕ) → ((b : ℕ) → at ≤ b → b < at + suc size → LiesInMemory b) → Within at (suc size)
within-bytes at zero all =
    let (s, is, here) = all at (omega arith) (omega arith) in
    (s, is, (here.0, omega (arith, here.1)))
within-bytes at (suc n) all =
    within-more at n (all at (omega arith) (omega arith)) (within-bytes (suc at) n (λ b from to. all b (omega arith) (omega arith)))

mapped-bytes : (at size : ℕ) → ((b : ℕ) → at ≤ b → b < at + size → LiesInMemory b) → mapped at size ≡ true
mapped-bytes at zero all = mapped-empty at 0 refl
mapped-bytes at (suc n) all = mapped-within at (suc n) (within-bytes at n all)

pub byte_by_byte : (at size : ℕ) → IsTrue (mapped at size) ↔ ((b : ℕ) → at ≤ b → b < at + size → LiesInMemory b)
byte_by_byte at size = (
  (λ is b from to. elim (mapped-cases at size is) [
    | inl none ↦ absurd (omega arith)
    | inr some ↦ (let (start, region, range) = some in (start, region, (omega arith, omega arith)))
  ]),
  mapped-bytes at size,
)

covers-parts : (start b : ℕ) → covers start region_size b ≡ true → LiesIn start b
covers-parts start b is = grind (arith, nat_tests)

covers-not : (start b : ℕ) → covers start region_size b ≡ false → ¬ LiesIn start b
covers-not start b is in_it = grind (arith, nat_tests)

-- the byte behind a region lies in none
end_outside : (start : ℕ) → IsRegion start → ¬ LiesInMemory (start + region_size)
end_outside start is (r, is_too, here) = grind arith

beyond : (start at size : ℕ) → IsRegion start → LiesIn start at → mapped at size ≡ false → start + region_size < at + size
beyond start at size is here not_mapped =
    elim (cases_lt (start + region_size) (at + size)) [
      | inl past ↦ past
      | inr in_it ↦ absurd (both_ways (mapped at size) not_mapped (mapped-within at size (start, is, (here.0, in_it))))
    ]

end_first : (start at size : ℕ) → IsRegion start → covers start region_size at ≡ true → mapped at size ≡ false → IsFirstOutside at size (start + region_size)
end_first start at size is covered not_mapped =
    let here = covers-parts start at covered in
    record {
      from = omega arith;
      within = beyond start at size is here not_mapped;
      outside = end_outside start is;
      before = λ a low high. (start, is, (omega arith, high));
    }

start_first : (at size : ℕ) → covers globals_start region_size at ≡ false → covers heap_start region_size at ≡ false → covers stacks_start region_size at ≡ false
    → mapped at size ≡ false → IsFirstOutside at size at
start_first at size one two three not_mapped = record {
  from = omega arith;
  within = elim (cases_eq size 0) [
    | inl none ↦ absurd (both_ways (mapped at size) not_mapped (mapped-empty at size none))
    | inr some ↦ omega arith
  ];
  outside = λ (s, is, here). elim is [
    | inl first ↦ covers-not globals_start at one (subst (λ (r : ℕ). LiesIn r at) first here)
    | inr more ↦ elim more [
      | inl second ↦ covers-not heap_start at two (subst (λ (r : ℕ). LiesIn r at) second here)
      | inr third ↦ covers-not stacks_start at three (subst (λ (r : ℕ). LiesIn r at) third here)
    ]
  ];
  before = λ a low high. absurd (omega arith);
}

pub first_outside : (at size : ℕ) → mapped at size ≡ false → IsFirstOutside at size (first_unmapped at)
first_outside at size not_mapped =
    cond_both (covers globals_start region_size at) (globals_start + region_size)
    (cond (covers heap_start region_size at) (heap_start + region_size) (cond (covers stacks_start region_size at) (stacks_start + region_size) at))
    (λ (b : ℕ). IsFirstOutside at size b)
    (λ one. end_first globals_start at size (inl refl) one not_mapped)
    (λ one. cond_both (covers heap_start region_size at) (heap_start + region_size) (cond (covers stacks_start region_size at) (stacks_start + region_size) at)
    (λ (b : ℕ). IsFirstOutside at size b)
    (λ two. end_first heap_start at size (inr (inl refl)) two not_mapped)
    (λ two. cond_both (covers stacks_start region_size at) (stacks_start + region_size) at (λ (b : ℕ). IsFirstOutside at size b)
    (λ three. end_first stacks_start at size (inr (inr refl)) three not_mapped)
    (λ three. start_first at size one two three not_mapped)))
