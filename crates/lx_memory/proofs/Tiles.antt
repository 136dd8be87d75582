-- The tables of a heap, and the blocks that they tell.
use Rattle.std.proofs.Common.{◌≡◌, inl, inr, refl, sym, subst, ◌∙◌, ap, ℕ, zero, suc, ◌+◌, ◌-◌, ◌<◌, ◌≤◌, false, nat_eq, List, [], ◌∷◌, length, drop, get_or, arith}
use Rattle.std.specs.List.{list_any}
use Rattle.std.specs.Prelude.{slice_index}
use Rattle.std.proofs.Math.Seq.{drop-cons}
use Rattle.std.proofs.lemmas.Bool.{cases_Bool}
use Rattle.std.proofs.lemmas.Bool.Decides.{nat_tests}
use Rattle.lx_caps.specs.declared.Block.{Block}
use Rattle.lx_memory.specs.Heaps.{IsAscending}
use Rattle.lx_memory.specs.Runs.{places}
use Rattle.lx_memory.specs.Tiles.{address, taken, blocks_from, Tile, begin, behind, AreTiles}
use Rattle.lx_memory.proofs.Elements.{raised}
use Rattle.lx_memory.proofs.Places.{places_are}

-- the blocks of tiles, from a place on
abbrev pub blocks_of : ℕ → List Tile → List Block
blocks_of k [] = []
blocks_of k (t ∷ ts) = record { at = address (begin k t); size = t.size } ∷ blocks_of (behind k t) ts

-- tiles end in the heap
pub within : (S B L : ℕ → ℕ) (k : ℕ) (ts : List Tile) → AreTiles S B L k ts → k ≤ places
within S B L k [] it = let run = it.run in omega (arith, run)
within S B L k (t ∷ ts) it = let more = within S B L (behind k t) ts it.1 in omega (arith, more)

pub ascending : (S B L : ℕ → ℕ) (k : ℕ) (ts : List Tile) → AreTiles S B L k ts → IsAscending (address k) (blocks_of k ts)
ascending S B L k [] it = let run = it.run in omega (arith, run, places_are)
ascending S B L k (t ∷ ts) it = (
  omega arith,
  omega arith,
  it.0.some,
  raised (address (begin k t) + t.size) (address (behind k t)) (blocks_of (behind k t) ts) (omega arith) (ascending S B L (behind k t) ts it.1),
)

-- places where no block begins are passed over

empty-place : (k n : ℕ) (xs : List ℕ) → n ≡ 0 → blocks_from k (n ∷ xs) ≡ blocks_from (k + 1) xs
empty-place k zero xs none = refl
empty-place k (suc n) xs none = absurd (omega (arith, none))

full-place : (k n : ℕ) (xs : List ℕ) → 0 < n → blocks_from k (n ∷ xs) ≡ record { at = address k; size = n } ∷ blocks_from (k + 1) xs
full-place k zero xs some = absurd (omega (arith, some))
full-place k (suc n) xs some = refl

passed-over : (d k : ℕ) (xs : List ℕ) → k + d ≤ length xs → ((x : ℕ) → k ≤ x → x < k + d → get_or xs x 0 ≡ 0) → blocks_from k (drop k xs) ≡ blocks_from (k + d) (drop (k + d) xs)
passed-over zero k xs long none =
    let same : k ≡ k + 0 = omega arith in
    ap (λ (m : ℕ). blocks_from m (drop m xs)) same
passed-over (suc d) k xs long none =
    let here = drop-cons xs k 0 (omega (arith, long)) in
    let next : suc k ≡ k + 1 = omega arith in
    let end : k + 1 + d ≡ k + suc d = omega arith in
    ap (λ (ys : List ℕ). blocks_from k ys) here
    ∙ empty-place k (get_or xs k 0) (drop (suc k) xs) (none k (omega arith) (omega arith))
    ∙ ap (λ (m : ℕ). blocks_from (k + 1) (drop m xs)) next
    ∙ passed-over d (k + 1) xs (omega (arith, long)) (λ x low high. none x (omega (arith, low)) (omega (arith, high)))
    ∙ ap (λ (m : ℕ). blocks_from m (drop m xs)) end

drop-all : (xs : List ℕ) (i : ℕ) → length xs ≤ i → drop i xs ≡ []
drop-all [] zero over = refl
drop-all [] (suc i) over = refl
drop-all (x ∷ xs) zero over = absurd (omega (arith, over))
drop-all (x ∷ xs) (suc i) over = drop-all xs i (omega (arith, over))

-- the table of bytes tells the blocks of the tiles
pub shown : (sizes : List ℕ) (B L : ℕ → ℕ) (k : ℕ) (ts : List Tile) → length sizes ≡ places → AreTiles (slice_index sizes) B L k ts → blocks_from k (drop k sizes) ≡ blocks_of k ts
shown sizes B L k [] len it =
    let run = it.run in
    passed-over (L k) k sizes (omega (arith, len, run)) (λ x low high. it.no_block x low)
    ∙ ap (λ (ys : List ℕ). blocks_from (k + L k) ys) (drop-all sizes (k + L k) (omega (arith, len, run)))
shown sizes B L k (t ∷ ts) len it =
    let tile = it.0 in
    let some = tile.some in
    let p = begin k t in
    let more = within (slice_index sizes) B L (behind k t) ts it.1 in
    let n = taken t.size in
    let long : 0 < n = omega (arith, some) in
    let here = drop-cons sizes p 0 (omega (arith, len, more, long)) in
    let next : suc p ≡ p + 1 = omega arith in
    let end : p + 1 + (n - 1) ≡ behind k t = omega (arith, long) in
    passed-over t.room k sizes (omega (arith, len, more)) (λ x low high. tile.no_block x low (omega (arith, high)) (omega (arith, high)))
    ∙ ap (λ (ys : List ℕ). blocks_from p ys) here
    ∙ full-place p (get_or sizes p 0) (drop (suc p) sizes) (subst (λ (s : ℕ). 0 < s) (sym tile.size) some)
    ∙ ap (λ (s : ℕ). record { at = address p; size = s } ∷ blocks_from (p + 1) (drop (suc p) sizes)) tile.size
    ∙ ap (λ (bs : List Block). record { at = address p; size = t.size } ∷ bs)
    (ap (λ (m : ℕ). blocks_from (p + 1) (drop m sizes)) next
    ∙ passed-over (n - 1) (p + 1) sizes (omega (arith, len, more, long)) (λ x low high. tile.no_block x (omega (arith, low)) (omega (arith, high, long)) (omega (arith, low)))
    ∙ ap (λ (m : ℕ). blocks_from m (drop m sizes)) end
    ∙ shown sizes B L (behind k t) ts len it.1)

-- tables that agree from a place on have the same tiles there
pub agreed : (S B L S' B' L' : ℕ → ℕ) (k : ℕ) (ts : List Tile) → ((x : ℕ) → k ≤ x → S' x ≡ S x) → ((x : ℕ) → k ≤ x → B' x ≡ B x) → ((x : ℕ) → k ≤ x → L' x ≡ L x) → AreTiles S B L k ts → AreTiles S' B' L' k ts
agreed S B L S' B' L' k [] s b l it = record {
  run = let run = it.run in rw (l k (omega arith)) run;
  no_block = λ x low. s x low ∙ it.no_block x low;
  no_run = λ x low. l x (omega (arith, low)) ∙ it.no_run x low;
}
agreed S B L S' B' L' k (t ∷ ts) s b l it = (
  record {
    some = it.0.some;
    run = l k (omega arith) ∙ it.0.run;
    size = s (begin k t) (omega arith) ∙ it.0.size;
    room = b (begin k t) (omega arith) ∙ it.0.room;
    no_block = λ x low high other. s x low ∙ it.0.no_block x low high other;
    no_run = λ x low high. l x (omega (arith, low)) ∙ it.0.no_run x low high;
  },
  agreed S B L S' B' L' (behind k t) ts (λ x low. s x (omega (arith, low))) (λ x low. b x (omega (arith, low))) (λ x low. l x (omega (arith, low))) it.1,
)

-- where the table has no block at an address, none is live there
pub not-told : (k : ℕ) (xs : List ℕ) (at : ℕ) → ((p : ℕ) → address (k + p) ≡ at → get_or xs p 0 ≡ 0) → list_any (λ (b : Block). nat_eq b.at at) (blocks_from k xs) ≡ false
not-told k [] at none = refl
not-told k (zero ∷ xs) at none = not-told (k + 1) xs at (λ p its. none (suc p) (omega (arith, its)))
not-told k (suc n ∷ xs) at none =
    elim (cases_Bool (nat_eq (address k) at)) [
      | inl here ↦ absurd (let first = none 0 (grind (arith, nat_tests, here)) in omega (arith, first))
      | inr other ↦ rw other (not-told (k + 1) xs at (λ p its. none (suc p) (omega (arith, its))))
    ]
