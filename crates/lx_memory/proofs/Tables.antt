-- What the calls of a heap write into its tables, and which blocks these then tell.
use Rattle.std.proofs.Common.{◌≡◌, ◌≢◌, inl, inr, refl, sym, subst, ◌∙◌, ap, ℕ, ◌+◌, ◌-◌, ◌<◌, ◌≤◌, true, false, List, [], Some, length, get_or, set, get_or-set_other, eq-eqb, arith}
use Rattle.std.specs.Prelude.{slice_index}
use Rattle.std.specs.List.{insert}
use Rattle.std.proofs.lemmas.List.{length-set, get_or_past}
use Rattle.std.proofs.lemmas.Bool.{cases_lt}
use Rattle.std.proofs.lemmas.Grind.{get_or-set_at}
use Rattle.lx_caps.specs.declared.Block.{Block}
use Rattle.lx_caps.specs.Regions.{heap_start}
use Rattle.lx_caps.specs.Heap.{Blocks, alloc_address, is_live, without_block}
use Rattle.lx_caps.specs.HeapLaws.{HeapLaws}
use Rattle.lx_memory.specs.Heaps.{Gap, KeepsBlocks, with_block, first_gap}
use Rattle.lx_memory.specs.Runs.{places}
use Rattle.lx_memory.specs.Tiles.{address, taken, blocks_from, AreTiles, IsHeap}
use Rattle.lx_memory.proofs.Elements.{live-found, not-live}
use Rattle.lx_memory.proofs.Gaps.{address-given, none-given, keeps-grown, keeps-freed}
use Rattle.lx_memory.proofs.Places.{places_are}
use Rattle.lx_memory.proofs.Tiles.{blocks_of, ascending, shown, not-told}
use Rattle.lx_memory.proofs.Giving.{IsGiven, give, give-none, given_block}
use Rattle.lx_memory.proofs.Freeing.{IsFreed, IsBetween, between, free}

-- a table of which one number is set, and one of which two are

at : (xs ys : List ℕ) (i j y : ℕ) → ys ≡ set xs i y → j ≡ i → i < length xs → get_or ys j 0 ≡ y
at xs ys i j y is same inside = ap (λ (l : List ℕ). get_or l j 0) is ∙ get_or-set_at xs i j y 0 same inside

off : (xs ys : List ℕ) (i j y : ℕ) → ys ≡ set xs i y → j ≢ i → get_or ys j 0 ≡ get_or xs j 0
off xs ys i j y is other = ap (λ (l : List ℕ). get_or l j 0) is ∙ get_or-set_other xs i j y 0 other

at-last : (xs ys : List ℕ) (h i j z y : ℕ) → ys ≡ set (set xs h z) i y → j ≡ i → i < length xs → get_or ys j 0 ≡ y
at-last xs ys h i j z y is same inside = at (set xs h z) ys i j y is same (let len = length-set xs h z in omega (arith, len, inside))

at-first : (xs ys : List ℕ) (h i j z y : ℕ) → ys ≡ set (set xs h z) i y → j ≡ h → j ≢ i → h < length xs → get_or ys j 0 ≡ z
at-first xs ys h i j z y is same other inside = off (set xs h z) ys i j y is other ∙ get_or-set_at xs h j z 0 same inside

off-both : (xs ys : List ℕ) (h i j z y : ℕ) → ys ≡ set (set xs h z) i y → j ≢ h → j ≢ i → get_or ys j 0 ≡ get_or xs j 0
off-both xs ys h i j z y is first last = off (set xs h z) ys i j y is last ∙ get_or-set_other xs h j z 0 first

same-length : (xs ys : List ℕ) (i y : ℕ) → ys ≡ set xs i y → length ys ≡ length xs
same-length xs ys i y is = ap length is ∙ length-set xs i y

both-length : (xs ys : List ℕ) (h i z y : ℕ) → ys ≡ set (set xs h z) i y → length ys ≡ length xs
both-length xs ys h i z y is = same-length (set xs h z) ys i y is ∙ length-set xs h z

-- what is written where a block is given out
pub record WritesGiven (sizes rooms runs sizes' rooms' runs' : List ℕ) (size g : ℕ) : Type 0 where
  pub sizes_are : sizes' ≡ set sizes g size
  pub rooms_are : rooms' ≡ set (set rooms g 0) (g + get_or runs g 0) (get_or runs g 0 - taken size)
  pub runs_are : runs' ≡ set (set runs g 0) (g + taken size) (get_or runs g 0 - taken size)

given-tables : (sizes rooms runs sizes' rooms' runs' : List ℕ) (size g : ℕ) → 0 < size → g < places → taken size ≤ get_or runs g 0 → length sizes ≡ places → length rooms ≡ places → length runs ≡ places → WritesGiven sizes rooms runs sizes' rooms' runs' size g → IsGiven (slice_index sizes) (slice_index rooms) (slice_index runs) (slice_index sizes') (slice_index rooms') (slice_index runs') size g
given-tables sizes rooms runs sizes' rooms' runs' size g some inside long s r l it =
    let run = get_or runs g 0 in
    let rest = run - taken size in record {
      size_at = λ x same. at sizes sizes' g x size it.sizes_are same (omega (arith, inside, s));
      sizes = λ x other. off sizes sizes' g x size it.sizes_are other;
      room_at = λ x same. at-first rooms rooms' g (g + run) x 0 rest it.rooms_are same (omega (arith, same, long, some)) (omega (arith, inside, r));
      room_behind = λ x same low. at-last rooms rooms' g (g + run) x 0 rest it.rooms_are same (omega (arith, same, low, r));
      rooms = λ x first last. off-both rooms rooms' g (g + run) x 0 rest it.rooms_are first last;
      run_at = λ x same. at-first runs runs' g (g + taken size) x 0 rest it.runs_are same (omega (arith, same, some)) (omega (arith, inside, l));
      run_behind = λ x same low. at-last runs runs' g (g + taken size) x 0 rest it.runs_are same (omega (arith, same, low, l));
      runs = λ x first last. off-both runs runs' g (g + taken size) x 0 rest it.runs_are first last;
      past = λ x over. get_or_past runs' x 0 (let len = both-length runs runs' g (g + taken size) 0 rest it.runs_are in omega (arith, len, l, over));
    }

-- the heap behind a call that gives out a block, and what it told before
pub record AfterAlloc (sizes sizes' rooms' runs' : List ℕ) (size a : ℕ) : Type 0 where
  pub heap : IsHeap sizes' rooms' runs'
  pub given : (bs : Blocks) → KeepsBlocks (blocks_from 0 sizes) bs → a ≡ alloc_address bs size
  pub live : (bs : Blocks) → KeepsBlocks (blocks_from 0 sizes) bs → KeepsBlocks (blocks_from 0 sizes') (with_block a size bs)

pub after-alloc : HeapLaws → (sizes rooms runs sizes' rooms' runs' : List ℕ) (size g : ℕ) → 0 < size → g < places → taken size ≤ get_or runs g 0 → ((p : ℕ) → p < g → get_or runs p 0 < taken size) → IsHeap sizes rooms runs → WritesGiven sizes rooms runs sizes' rooms' runs' size g → AfterAlloc sizes sizes' rooms' runs' size (address g)
after-alloc laws sizes rooms runs sizes' rooms' runs' size g some inside long first heap it =
    let tables = given-tables sizes rooms runs sizes' rooms' runs' size g some inside long heap.sizes_len heap.rooms_len heap.runs_len it in
    let r = give (slice_index sizes) (slice_index rooms) (slice_index runs) (slice_index sizes') (slice_index rooms') (slice_index runs') size g some long first tables 0 0 heap.tiles (omega arith) heap.tiled in
    let kept = blocks_of 0 heap.tiles in
    let old = shown sizes (slice_index rooms) (slice_index runs) 0 heap.tiles heap.sizes_len heap.tiled in
    let len = same-length sizes sizes' g size it.sizes_are ∙ heap.sizes_len in
    let new = shown sizes' (slice_index rooms') (slice_index runs') 0 r.tiles len r.tiled ∙ r.blocks in
    let up = ascending (slice_index sizes) (slice_index rooms) (slice_index runs) 0 heap.tiles heap.tiled in
    let the_gap : Gap = record { place = 0 + r.place; at = address g } in
    let place : 0 + r.place ≡ r.place = omega arith in
    let is : Some the_gap ≡ first_gap size 0 heap_start kept = sym r.found in record {
      heap = record {
        sizes_len = len;
        rooms_len = both-length rooms rooms' g (g + get_or runs g 0) 0 (get_or runs g 0 - taken size) it.rooms_are ∙ heap.rooms_len;
        runs_len = both-length runs runs' g (g + taken size) 0 (get_or runs g 0 - taken size) it.runs_are ∙ heap.runs_len;
        tiles = r.tiles;
        tiled = r.tiled;
      };
      given = λ bs keeps. address-given laws kept bs size the_gap some up is (subst (λ (k : List Block). KeepsBlocks k bs) old keeps);
      live = λ bs keeps.
          subst (λ (k : List Block). KeepsBlocks k (with_block (address g) size bs)) (sym new)
          (subst (λ (n : ℕ). KeepsBlocks (insert kept n (given_block size g)) (with_block (address g) size bs)) place
          (keeps-grown size kept bs the_gap some up is (subst (λ (k : List Block). KeepsBlocks k bs) old keeps)));
    }

-- no address is given where no run is long enough
pub no-run : HeapLaws → (sizes rooms runs : List ℕ) (size : ℕ) → 0 < size → ((p : ℕ) → p < places → get_or runs p 0 < taken size) → IsHeap sizes rooms runs → (bs : Blocks) → KeepsBlocks (blocks_from 0 sizes) bs → 0 ≡ alloc_address bs size
no-run laws sizes rooms runs size some short heap bs keeps =
    let old = shown sizes (slice_index rooms) (slice_index runs) 0 heap.tiles heap.sizes_len heap.tiled in
    let up = ascending (slice_index sizes) (slice_index rooms) (slice_index runs) 0 heap.tiles heap.tiled in
    let none = give-none (slice_index sizes) (slice_index rooms) (slice_index runs) size some short 0 0 heap.tiles heap.tiled in
    none-given laws (blocks_of 0 heap.tiles) bs size some up (sym none) (subst (λ (k : List Block). KeepsBlocks k bs) old keeps)

-- what is written where a block is taken back
pub record WritesFreed (sizes rooms runs sizes' rooms' runs' : List ℕ) (p u next all : ℕ) : Type 0 where
  pub before : u + get_or rooms p 0 ≡ p
  pub next_is : next ≡ p + taken (get_or sizes p 0)
  pub all_is : all ≡ get_or rooms p 0 + taken (get_or sizes p 0) + get_or runs next 0
  pub sizes_are : sizes' ≡ set sizes p 0
  pub rooms_are : rooms' ≡ set rooms (next + get_or runs next 0) all
  pub runs_are : runs' ≡ set (set runs next 0) u all

freed-tables : (sizes rooms runs sizes' rooms' runs' : List ℕ) (p u next all : ℕ) → p < places → length sizes ≡ places → length rooms ≡ places → length runs ≡ places → WritesFreed sizes rooms runs sizes' rooms' runs' p u next all → next ≤ places → IsFreed (slice_index sizes) (slice_index rooms) (slice_index runs) (slice_index sizes') (slice_index rooms') (slice_index runs') p u all
freed-tables sizes rooms runs sizes' rooms' runs' p u next all inside s r l it small =
    let before = it.before in
    let whole = it.all_is in
    let behind = it.next_is in
    let end : next + get_or runs next 0 ≡ u + all = omega (arith, before, whole, behind) in
    let wide : length runs ≡ places = l in record {
      before = before;
      all_is = whole ∙ ap (λ (x : ℕ). get_or rooms p 0 + taken (get_or sizes p 0) + get_or runs x 0) behind;
      size_at = λ x same. at sizes sizes' p x 0 it.sizes_are same (omega (arith, inside, s));
      sizes = λ x other. off sizes sizes' p x 0 it.sizes_are other;
      room_behind = λ x same low. at rooms rooms' (next + get_or runs next 0) x all it.rooms_are (same ∙ sym end) (omega (arith, same, end, low, r));
      rooms = λ x other. off rooms rooms' (next + get_or runs next 0) x all it.rooms_are (λ e. other (e ∙ end));
      run_at = λ x same. at-last runs runs' next u x 0 all it.runs_are same (omega (arith, before, inside, l));
      run_behind = λ x other same. elim (cases_lt x places) [
        | inl low ↦ at-first runs runs' next u x 0 all it.runs_are (same ∙ sym behind) other (omega (arith, low, same, behind, l))
        | inr high ↦ get_or_past runs' x 0 (let len = both-length runs runs' next u 0 all it.runs_are in omega (arith, len, l, high))
      ];
      runs = λ x first last. off-both runs runs' next u x 0 all it.runs_are (λ e. last (e ∙ behind)) first;
    }

-- the heap behind a call that takes back the block at a place
pub record AfterFree (sizes sizes' rooms' runs' : List ℕ) (a : ℕ) : Type 0 where
  pub heap : IsHeap sizes' rooms' runs'
  pub freed : (bs : Blocks) → KeepsBlocks (blocks_from 0 sizes) bs → (is_live bs a ≡ true) × KeepsBlocks (blocks_from 0 sizes') (without_block bs a)

pub is-between : (sizes rooms runs : List ℕ) (p : ℕ) → 0 < get_or sizes p 0 → IsHeap sizes rooms runs → IsBetween (slice_index sizes) (slice_index rooms) (slice_index runs) p 0
is-between sizes rooms runs p live heap = between (slice_index sizes) (slice_index rooms) (slice_index runs) p 0 heap.tiles live (omega arith) heap.tiled

pub after-free : (sizes rooms runs sizes' rooms' runs' : List ℕ) (p u next all : ℕ) → p < places → 0 < get_or sizes p 0 → IsHeap sizes rooms runs → WritesFreed sizes rooms runs sizes' rooms' runs' p u next all → AfterFree sizes sizes' rooms' runs' (address p)
after-free sizes rooms runs sizes' rooms' runs' p u next all inside live heap it =
    let room = (is-between sizes rooms runs p live heap).all in
    let behind = it.next_is in
    let tables = freed-tables sizes rooms runs sizes' rooms' runs' p u next all inside heap.sizes_len heap.rooms_len heap.runs_len it (omega (arith, room, behind)) in
    let d : Block = record { at = 0; size = 0 } in
    let r = free (slice_index sizes) (slice_index rooms) (slice_index runs) (slice_index sizes') (slice_index rooms') (slice_index runs') p u all d live tables 0 heap.tiles (omega arith) heap.tiled in
    let kept = blocks_of 0 heap.tiles in
    let old = shown sizes (slice_index rooms) (slice_index runs) 0 heap.tiles heap.sizes_len heap.tiled in
    let len = same-length sizes sizes' p 0 it.sizes_are ∙ heap.sizes_len in
    let new = shown sizes' (slice_index rooms') (slice_index runs') 0 r.tiles len r.tiled ∙ r.blocks in
    let up = ascending (slice_index sizes) (slice_index rooms) (slice_index runs) 0 heap.tiles heap.tiled in record {
      heap = record {
        sizes_len = len;
        rooms_len = same-length rooms rooms' (next + get_or runs next 0) all it.rooms_are ∙ heap.rooms_len;
        runs_len = both-length runs runs' next u 0 all it.runs_are ∙ heap.runs_len;
        tiles = r.tiles;
        tiled = r.tiled;
      };
      freed = λ bs given. let keeps = subst (λ (k : List Block). KeepsBlocks k bs) old given in (
        live-found kept bs (address p) r.place d keeps r.inside (eq-eqb (get_or kept r.place d).at (address p) r.at),
        subst (λ (k : List Block). KeepsBlocks k (without_block bs (address p))) (sym new) (keeps-freed kept bs (address p) r.place d up r.inside r.at keeps),
      );
    }

-- no block is live at an address where the table has none
pub none-live : (sizes : List ℕ) (a : ℕ) → length sizes ≡ places → ((p : ℕ) → p < places → address p ≡ a → get_or sizes p 0 ≡ 0) → (bs : Blocks) → KeepsBlocks (blocks_from 0 sizes) bs → is_live bs a ≡ false
none-live sizes a len none bs keeps =
    not-live (blocks_from 0 sizes) bs a keeps (not-told 0 sizes a (λ p its. elim (cases_lt p places) [
      | inl low ↦ none p low (omega (arith, its))
      | inr high ↦ get_or_past sizes p 0 (omega (arith, len, high))
    ]))

-- one run over all places
pub blank : (sizes rooms runs runs' : List ℕ) → length sizes ≡ places → length rooms ≡ places → length runs ≡ places → ((k : ℕ) → k < places → get_or sizes k 0 ≡ 0) → ((k : ℕ) → get_or runs k 0 ≡ 0) → runs' ≡ set runs 0 places → AreTiles (slice_index sizes) (slice_index rooms) (slice_index runs') 0 []
blank sizes rooms runs runs' s r l none free is = record {
  run = let all = at runs runs' 0 0 places is refl (omega (arith, l, places_are)) in omega (arith, all);
  no_block = λ x low. elim (cases_lt x places) [
    | inl inside ↦ none x inside
    | inr outside ↦ get_or_past sizes x 0 (omega (arith, s, outside))
  ];
  no_run = λ x low. off runs runs' 0 x places is (omega (arith, low)) ∙ free x;
}

pub blank-heap : (sizes rooms runs runs' : List ℕ) → length sizes ≡ places → length rooms ≡ places → length runs ≡ places → ((k : ℕ) → k < places → get_or sizes k 0 ≡ 0) → ((k : ℕ) → get_or runs k 0 ≡ 0) → runs' ≡ set runs 0 places → IsHeap sizes rooms runs'
blank-heap sizes rooms runs runs' s r l none free is = record {
  sizes_len = s;
  rooms_len = r;
  runs_len = same-length runs runs' 0 places is ∙ l;
  tiles = [];
  tiled = blank sizes rooms runs runs' s r l none free is;
}

pub no-blocks : (sizes rooms runs runs' : List ℕ) → length sizes ≡ places → length rooms ≡ places → length runs ≡ places → ((k : ℕ) → k < places → get_or sizes k 0 ≡ 0) → ((k : ℕ) → get_or runs k 0 ≡ 0) → runs' ≡ set runs 0 places → blocks_from 0 sizes ≡ []
no-blocks sizes rooms runs runs' s r l none free is = shown sizes (slice_index rooms) (slice_index runs') 0 [] s (blank sizes rooms runs runs' s r l none free is)
