-- The first gap between blocks is the least address where a new block fits.
use Rattle.std.proofs.Common.{◌≡◌, ◌≢◌, inl, inr, refl, sym, subst, ◌∙◌, ap, ℕ, zero, suc, ◌+◌, ◌%◌, ◌<◌, ◌≤◌, false, not, ◌&&◌, ◌||◌, nat_le, nat_eq, List, [], ◌∷◌, Option, Some, None, length, get_or, arith}
use Rattle.std.specs.List.{insert, remove}
use Rattle.std.proofs.lemmas.Bool.{cases_Bool, cases_lt, leb-true, leb-false}
use Rattle.lx_caps.specs.declared.Block.{Block}
use Rattle.lx_caps.specs.Regions.{heap_start, align_up}
use Rattle.lx_caps.specs.Heap.{Blocks, alloc_address, without_block}
use Rattle.lx_caps.specs.HeapLaws.{IsApart, Fits, HeapLaws}
use Rattle.lx_memory.specs.Heaps.{Gap, heap_end, IsAscending, first_gap, same_block, has_block, KeepsBlocks, with_block}
use Rattle.lx_memory.proofs.Elements.{kept-apart, live-apart, has-inserted, has-removed, has-without}

-- the next address divisible by 16

aligned : (n : ℕ) → align_up n 16 % 16 ≡ 0
aligned n = omega arith

not-below : (n : ℕ) → n ≤ align_up n 16
not-below n = omega arith

least-aligned : (n o : ℕ) → n ≤ o → o % 16 ≡ 0 → align_up n 16 ≤ o
least-aligned n o less even = omega (arith, less, even)

-- a range that ends before the first of these blocks shares no byte with them
apart-before : (bs : List Block) (from at size : ℕ) → IsAscending from bs → at + size ≤ from → IsApart bs at size
apart-before [] from at size ascending ends = tt
apart-before (b ∷ bs) from at size ascending ends =
    let first = ascending.0 in (
      (λ x low high its. omega (arith, first, ends, low, high, its.0, its.1)),
      apart-before bs (b.at + b.size) at size ascending.3 (omega (arith, first, ends)),
    )

-- what a gap is: a place among the blocks where a new one can stand, before all others that fit
pub record IsGap (size at : ℕ) (bs : List Block) (g : Gap) : Type 0 where
  pub from : at ≤ g.at
  pub even : g.at % 16 ≡ 0
  pub to : g.at + size ≤ heap_end
  pub apart : IsApart bs g.at size
  pub least : (o : ℕ) → at ≤ o → o % 16 ≡ 0 → o + size ≤ heap_end → IsApart bs o size → g.at ≤ o

-- an address that is apart from a block that leaves no room before it lies behind it
past : (size at : ℕ) (b : Block) (bs : List Block) (o : ℕ) → 0 < size → at ≤ b.at → 0 < b.size → nat_le (at + size) b.at ≡ false → at ≤ o → o % 16 ≡ 0 → IsApart (b ∷ bs) o size → align_up (b.at + b.size) 16 ≤ o
past size at b bs o some first bytes short low even apart =
    let long = leb-false (at + size) b.at short in
    least-aligned (b.at + b.size) o
    (elim (cases_lt o (b.at + b.size)) [
      | inl before ↦ absurd (elim (cases_lt o b.at) [
        | inl lower ↦ apart.0 b.at (omega (arith, lower)) (omega (arith, lower, long, low)) (omega arith, omega (arith, bytes))
        | inr higher ↦ apart.0 o (omega arith) (omega (arith, some)) (higher, before)
      ])
      | inr after ↦ after
    ])
    even

-- where one block is passed, the gap lies behind it
passed : (size at : ℕ) (b : Block) (bs : List Block) (g : Gap) → 0 < size → at ≤ b.at → IsAscending (b.at + b.size) bs → 0 < b.size → nat_le (at + size) b.at ≡ false → IsGap size (align_up (b.at + b.size) 16) bs g → IsGap size at (b ∷ bs) g
passed size at b bs g some first ascending bytes short it =
    let behind = not-below (b.at + b.size) in
    let start = it.from in
    record {
      from = omega (arith, first, behind, start);
      even = it.even;
      to = it.to;
      apart = ((λ x low high its. omega (arith, behind, start, low, its.1)), it.apart);
      least = λ o low even end apart. it.least o (past size at b bs o some first bytes short low even apart) even end apart.1;
    }

-- the search finds a gap, or there is none
abbrev pub Found : ℕ → ℕ → List Block → Option Gap → Type 0
Found size at bs (Some g) = IsGap size at bs g
Found size at bs None = (o : ℕ) → at ≤ o → o % 16 ≡ 0 → o + size ≤ heap_end → ¬ IsApart bs o size

behind : (size at : ℕ) (b : Block) (bs : List Block) (g : Option Gap) → 0 < size → at ≤ b.at → IsAscending (b.at + b.size) bs → 0 < b.size → nat_le (at + size) b.at ≡ false → Found size (align_up (b.at + b.size) 16) bs g → Found size at (b ∷ bs) g
behind size at b bs (Some g) some first ascending bytes short it = passed size at b bs g some first ascending bytes short it
behind size at b bs None some first ascending bytes short it =
    λ o low even end apart. it o (past size at b bs o some first bytes short low even apart) even end apart.1

-- the last block ends in the heap
ends : (from : ℕ) (bs : List Block) → IsAscending from bs → from ≤ heap_end
ends from [] ascending = ascending
ends from (b ∷ bs) ascending = let first = ascending.0 in let more = ends (b.at + b.size) bs ascending.3 in omega (arith, first, more)

ends-below : (size at : ℕ) (b : Block) (bs : List Block) → IsAscending at (b ∷ bs) → at + size ≤ b.at → at + size ≤ heap_end
ends-below size at b bs ascending before = let more = ends (b.at + b.size) bs ascending.3 in omega (arith, before, more)

raised-aligned : (n : ℕ) (bs : List Block) → IsAscending n bs → IsAscending (align_up n 16) bs
raised-aligned n [] ascending = least-aligned n heap_end ascending (omega arith)
raised-aligned n (b ∷ bs) ascending = (least-aligned n b.at ascending.0 ascending.1, ascending.1, ascending.2, ascending.3)

found-here : (size at place : ℕ) (bs : List Block) → 0 < size → at % 16 ≡ 0 → at + size ≤ heap_end → IsApart bs at size → IsGap size at bs (record { place = place; at = at })
found-here size at place bs some even ends apart = record { from = omega arith; even = even; to = ends; apart = apart; least = λ o low e end a. low }

pub found : (size place at : ℕ) (bs : List Block) → 0 < size → at % 16 ≡ 0 → IsAscending at bs → Found size at bs (first_gap size place at bs)
found size place at [] some even ascending =
    elim (cases_Bool (nat_le (at + size) heap_end)) [
      | inl is ↦ rw is (found-here size at place [] some even (leb-true (at + size) heap_end is) tt)
      | inr long ↦ rw long (λ o low e end a. let over = leb-false (at + size) heap_end long in omega (arith, over, low, end))
    ]
found size place at (b ∷ bs) some even ascending =
    let first = ascending.0 in
    elim (cases_Bool (nat_le (at + size) b.at)) [
      | inl is ↦
          (let ends = leb-true (at + size) b.at is in
          rw is (found-here size at place (b ∷ bs) some even (ends-below size at b bs ascending ends) (apart-before (b ∷ bs) b.at at size (omega arith, ascending.1, ascending.2, ascending.3) ends)))
      | inr short ↦
          rw short (behind size at b bs (first_gap size (suc place) (align_up (b.at + b.size) 16) bs) some first ascending.3 ascending.2 short
          (found size (suc place) (align_up (b.at + b.size) 16) bs some (aligned (b.at + b.size)) (raised-aligned (b.at + b.size) bs ascending.3)))
    ]

-- the address that is given

fits-gap : (kept : List Block) (bs : Blocks) (size : ℕ) (g : Gap) → KeepsBlocks kept bs → IsGap size heap_start kept g → Fits bs size g.at
fits-gap kept bs size g keeps it = record {
  aligned = it.even;
  is_free = record { from = it.from; to = it.to; apart = live-apart kept bs g.at size keeps it.apart };
}

gap-address : HeapLaws → (kept : List Block) (bs : Blocks) (size : ℕ) (g : Gap) → 0 < size → KeepsBlocks kept bs → IsGap size heap_start kept g → g.at ≡ alloc_address bs size
gap-address laws kept bs size g some keeps it =
    let fits = fits-gap kept bs size g keeps it in
    let given : alloc_address bs size ≢ 0 = λ zero. elim ((laws.none bs size).0 zero) [
      | inl none ↦ omega (arith, some, none)
      | inr nowhere ↦ nowhere g.at fits
    ] in
    let least = laws.some bs size given in
    let free = least.fits.is_free in
    let low = it.least (alloc_address bs size) free.from least.fits.aligned free.to (kept-apart kept bs (alloc_address bs size) size keeps free.apart) in
    let high = least.least g.at fits in
    omega (arith, low, high)

no-address : HeapLaws → (kept : List Block) (bs : Blocks) (size : ℕ) → KeepsBlocks kept bs → Found size heap_start kept None → 0 ≡ alloc_address bs size
no-address laws kept bs size keeps none =
    sym ((laws.none bs size).1 (inr (λ at fits. none at fits.is_free.from fits.aligned fits.is_free.to (kept-apart kept bs at size keeps fits.is_free.apart))))

found-gap : (size : ℕ) (kept : List Block) (g : Option Gap) → 0 < size → IsAscending heap_start kept → g ≡ first_gap size 0 heap_start kept → Found size heap_start kept g
found-gap size kept g some ascending is = subst (Found size heap_start kept) (sym is) (found size 0 heap_start kept some (omega arith) ascending)

pub address-given : HeapLaws → (kept : List Block) (bs : Blocks) (size : ℕ) (g : Gap) → 0 < size → IsAscending heap_start kept → Some g ≡ first_gap size 0 heap_start kept → KeepsBlocks kept bs → g.at ≡ alloc_address bs size
address-given laws kept bs size g some ascending is keeps = gap-address laws kept bs size g some keeps (found-gap size kept (Some g) some ascending is)

pub none-given : HeapLaws → (kept : List Block) (bs : Blocks) (size : ℕ) → 0 < size → IsAscending heap_start kept → None ≡ first_gap size 0 heap_start kept → KeepsBlocks kept bs → 0 ≡ alloc_address bs size
none-given laws kept bs size some ascending is keeps = no-address laws kept bs size keeps (found-gap size kept None some ascending is)

with-some : (at size : ℕ) (bs : Blocks) → 0 < at → with_block at size bs ≡ record { at = at; size = size } ∷ bs
with-some zero size bs some = absurd (omega (arith, some))
with-some (suc a) size bs some = refl

pub keeps-grown : (size : ℕ) (kept : List Block) (bs : Blocks) (g : Gap) → 0 < size → IsAscending heap_start kept → Some g ≡ first_gap size 0 heap_start kept → KeepsBlocks kept bs → KeepsBlocks (insert kept g.place (record { at = g.at; size = size })) (with_block g.at size bs)
keeps-grown size kept bs g some ascending is keeps =
    let it = found-gap size kept (Some g) some ascending is in
    let low = it.from in
    rw (with-some g.at size bs (omega (arith, low)))
    (λ b. has-inserted kept g.place (record { at = g.at; size = size }) b ∙ ap (λ t. same_block b (record { at = g.at; size = size }) || t) (keeps b))

-- a block that is taken back
pub keeps-freed : (kept : List Block) (bs : Blocks) (at i : ℕ) (d : Block) → IsAscending heap_start kept → i < length kept → (get_or kept i d).at ≡ at → KeepsBlocks kept bs → KeepsBlocks (remove kept i) (without_block bs at)
keeps-freed kept bs at i d ascending within is keeps =
    λ b. has-removed heap_start kept i d ascending within b
    ∙ ap (λ (a : ℕ). has_block kept b && not (nat_eq b.at a)) is
    ∙ ap (λ t. t && not (nat_eq b.at at)) (keeps b)
    ∙ sym (has-without bs at b)
