-- A block is given out where the first long enough run begins.
use Rattle.std.proofs.Common.{◌≡◌, ◌≢◌, inl, inr, refl, sym, subst, ◌∙◌, ap, ℕ, suc, ◌+◌, ◌-◌, ◌<◌, ◌≤◌, false, nat_le, List, [], ◌∷◌, None, arith}
use Rattle.std.specs.List.{insert}
use Rattle.std.proofs.lemmas.Bool.{cases_lt, le-leb}
use Rattle.std.proofs.lemmas.Bool.Decides.{nat_tests}
use Rattle.lx_caps.specs.declared.Block.{Block}
use Rattle.lx_caps.specs.Regions.{align_up}
use Rattle.lx_memory.specs.Heaps.{first_gap, gap, heap_end}
use Rattle.lx_memory.specs.Runs.{places}
use Rattle.lx_memory.specs.Tiles.{address, taken, Tile, begin, behind, HasTile, HasEnd, AreTiles}
use Rattle.lx_memory.proofs.Places.{places_are}
use Rattle.lx_memory.proofs.Tiles.{blocks_of, within, agreed}

-- what is written where a block is given out at a place
pub record IsGiven (S B L S' B' L' : ℕ → ℕ) (size g : ℕ) : Type 0 where
  pub size_at : (x : ℕ) → x ≡ g → S' x ≡ size
  pub sizes : (x : ℕ) → x ≢ g → S' x ≡ S x
  pub room_at : (x : ℕ) → x ≡ g → B' x ≡ 0
  pub room_behind : (x : ℕ) → x ≡ g + L g → x < places → B' x ≡ L g - taken size
  pub rooms : (x : ℕ) → x ≢ g → x ≢ g + L g → B' x ≡ B x
  pub run_at : (x : ℕ) → x ≡ g → L' x ≡ 0
  pub run_behind : (x : ℕ) → x ≡ g + taken size → x < places → L' x ≡ L g - taken size
  pub runs : (x : ℕ) → x ≢ g → x ≢ g + taken size → L' x ≡ L x
  pub past : (x : ℕ) → places ≤ x → L' x ≡ 0

-- the block that is given out
abbrev pub given_block : ℕ → ℕ → Block
given_block size g = record { at = address g; size = size }

-- the tables have tiles with one block more, in the first gap
pub record Gives (S B L : ℕ → ℕ) (size g i k : ℕ) (ts : List Tile) : Type 0 where
  pub place : ℕ
  pub found : first_gap size i (address k) (blocks_of k ts) ≡ gap (i + place) (address g)
  pub tiles : List Tile
  pub tiled : AreTiles S B L k tiles
  pub blocks : blocks_of k tiles ≡ insert (blocks_of k ts) place (given_block size g)

-- the new tile itself, at the front of a run
new-tile : (S B L S' B' L' : ℕ → ℕ) (size g k : ℕ) → 0 < size → taken size ≤ L g → g ≡ k → IsGiven S B L S' B' L' size g → ((x : ℕ) → k ≤ x → x < k + taken size → x ≢ k → S x ≡ 0) → ((x : ℕ) → k < x → x < k + taken size → L x ≡ 0) → HasTile S' B' L' k (record { room = 0; size = size })
new-tile S B L S' B' L' size g k some long here it blocks runs = record {
  some = some;
  run = it.run_at k (omega (arith, here));
  size = it.size_at (k + 0) (omega (arith, here));
  room = it.room_at (k + 0) (omega (arith, here));
  no_block = λ x low high other. it.sizes x (λ same. other (omega (arith, same, here))) ∙ blocks x low (omega (arith, high)) (λ same. other (omega (arith, same)));
  no_run = λ x low high. it.runs x (omega (arith, low, here)) (omega (arith, high, here)) ∙ runs x low (omega (arith, high));
}

-- in the run at the heap's end
give-end : (S B L S' B' L' : ℕ → ℕ) (size g i k : ℕ) → 0 < size → taken size ≤ L g → g ≡ k → IsGiven S B L S' B' L' size g → HasEnd S L k → Gives S' B' L' size g i k []
give-end S B L S' B' L' size g i k some long here it end =
    let run = end.run in
    let same : L g ≡ L k = ap L here in
    let fits = le-leb (address k + size) heap_end (omega (arith, run, same, long, places_are)) in
    let none : i + 0 ≡ i = omega arith in
    let rest : L' (k + 0 + taken size) ≡ L g - taken size = elim (cases_lt (k + 0 + taken size) places) [
      | inl inside ↦ it.run_behind (k + 0 + taken size) (omega (arith, here)) inside
      | inr outside ↦ it.past (k + 0 + taken size) outside ∙ omega (arith, outside, run, same, long)
    ] in record {
      place = 0;
      found = rw (fits, none, here) refl;
      tiles = record { room = 0; size = size } ∷ [];
      tiled = (
        new-tile S B L S' B' L' size g k some long here it (λ x low high other. end.no_block x low) (λ x low high. end.no_run x low),
        record {
          run = rw rest (omega (arith, run, same, long));
          no_block = λ x low. it.sizes x (omega (arith, low, here, some)) ∙ end.no_block x (omega (arith, low));
          no_run = λ x low. it.runs x (omega (arith, low, here, some)) (omega (arith, low, here)) ∙ end.no_run x (omega (arith, low));
        },
      );
      blocks =
          let at : address (k + 0) ≡ address g = omega (arith, here) in
          ap (λ (a : ℕ). record { at = a; size = size } ∷ []) at;
    }

-- in the run before a tile's block
give-tile : (S B L S' B' L' : ℕ → ℕ) (size g i k : ℕ) (t : Tile) (ts : List Tile) → 0 < size → taken size ≤ L g → g ≡ k → IsGiven S B L S' B' L' size g → HasTile S B L k t → AreTiles S B L (behind k t) ts → Gives S' B' L' size g i k (t ∷ ts)
give-tile S B L S' B' L' size g i k t ts some long here it tile more =
    let same : L g ≡ t.room = ap L here ∙ tile.run in
    let bytes = tile.some in
    let ends = within S B L (behind k t) ts more in
    let fits = le-leb (address k + size) (address (begin k t)) (omega (arith, same, long)) in
    let none : i + 0 ≡ i = omega arith in
    let j = k + 0 + taken size in
    let u : Tile = record { room = t.room - taken size; size = t.size } in
    let starts : begin j u ≡ begin k t = omega (arith, same, long) in
    let next : behind j u ≡ behind k t = omega (arith, same, long) in record {
      place = 0;
      found = rw (fits, none, here) refl;
      tiles = record { room = 0; size = size } ∷ u ∷ ts;
      tiled = (
        new-tile S B L S' B' L' size g k some long here it
            (λ x low high other. tile.no_block x low (omega (arith, high, same, long, bytes)) (omega (arith, high, same, long)))
            (λ x low high. tile.no_run x low (omega (arith, high, same, long, bytes))),
        (
          record {
            some = bytes;
            run = it.run_behind j (omega (arith, here)) (omega (arith, same, long, ends, bytes)) ∙ ap (λ (m : ℕ). m - taken size) same;
            size = it.sizes (begin j u) (omega (arith, starts, here, some, same, long)) ∙ ap S starts ∙ tile.size;
            room = it.room_behind (begin j u) (omega (arith, starts, here, same)) (omega (arith, starts, ends, bytes)) ∙ ap (λ (m : ℕ). m - taken size) same;
            no_block = λ x low high other. it.sizes x (omega (arith, low, here, some)) ∙ tile.no_block x (omega (arith, low)) (omega (arith, high, next)) (λ e. other (omega (arith, e, starts)));
            no_run = λ x low high. it.runs x (omega (arith, low, here)) (omega (arith, low, here)) ∙ tile.no_run x (omega (arith, low)) (omega (arith, high, next));
          },
          subst (λ (n : ℕ). AreTiles S' B' L' n ts) (sym next)
              (agreed S B L S' B' L' (behind k t) ts
              (λ x low. it.sizes x (omega (arith, low, here, same, long, some, bytes)))
              (λ x low. it.rooms x (omega (arith, low, here, same, long, some, bytes)) (omega (arith, low, here, same, bytes)))
              (λ x low. it.runs x (omega (arith, low, here, same, long, some, bytes)) (omega (arith, low, here, same, long, bytes)))
              more),
        ),
      );
      blocks =
          let at : address (k + 0) ≡ address g = omega (arith, here) in
          ap (λ (a : ℕ). record { at = a; size = size } ∷ record { at = address (begin j u); size = t.size } ∷ blocks_of (behind j u) ts) at
          ∙ ap (λ (p : ℕ). given_block size g ∷ record { at = address p; size = t.size } ∷ blocks_of (behind j u) ts) starts
          ∙ ap (λ (n : ℕ). given_block size g ∷ record { at = address (begin k t); size = t.size } ∷ blocks_of n ts) next;
    }

-- a tile that is passed
pass-tile : (S B L S' B' L' : ℕ → ℕ) (size g k : ℕ) (t : Tile) → behind k t ≤ g → IsGiven S B L S' B' L' size g → HasTile S B L k t → HasTile S' B' L' k t
pass-tile S B L S' B' L' size g k t later it tile =
    let bytes = tile.some in record {
      some = bytes;
      run = it.runs k (omega (arith, later, bytes)) (omega (arith, later, bytes)) ∙ tile.run;
      size = it.sizes (begin k t) (omega (arith, later, bytes)) ∙ tile.size;
      room = it.rooms (begin k t) (omega (arith, later, bytes)) (omega (arith, later, bytes)) ∙ tile.room;
      no_block = λ x low high other. it.sizes x (omega (arith, later, high)) ∙ tile.no_block x low high other;
      no_run = λ x low high. it.runs x (omega (arith, later, high)) (omega (arith, later, high)) ∙ tile.no_run x low high;
    }

give-behind : (S B L S' B' L' : ℕ → ℕ) (size g i k : ℕ) (t : Tile) (ts : List Tile) → t.room < taken size → behind k t ≤ g → IsGiven S B L S' B' L' size g → HasTile S B L k t → Gives S' B' L' size g (suc i) (behind k t) ts → Gives S' B' L' size g i k (t ∷ ts)
give-behind S B L S' B' L' size g i k t ts short later it tile rest =
    let no : nat_le (address k + size) (address (begin k t)) ≡ false = grind (arith, nat_tests, short) in
    let next : align_up (address (begin k t) + t.size) 16 ≡ address (behind k t) = omega arith in
    let count : suc i + rest.place ≡ i + suc rest.place = omega arith in record {
      place = suc rest.place;
      found = rw (no, next) (rest.found ∙ ap (λ (n : ℕ). gap n (address g)) count);
      tiles = t ∷ rest.tiles;
      tiled = (pass-tile S B L S' B' L' size g k t later it tile, rest.tiled);
      blocks = ap (λ (bs : List Block). record { at = address (begin k t); size = t.size } ∷ bs) rest.blocks;
    }

-- the first run that is long enough begins behind a tile or at its front
later : (L : ℕ → ℕ) (n g k : ℕ) (t : Tile) (S B : ℕ → ℕ) → 0 < n → n ≤ L g → k < g → HasTile S B L k t → behind k t ≤ g
later L n g k t S B some long low tile =
    elim (cases_lt g (behind k t)) [
      | inl inside ↦ absurd (let none = tile.no_run g low inside in omega (arith, none, long, some))
      | inr outside ↦ outside
    ]

pub give : (S B L S' B' L' : ℕ → ℕ) (size g : ℕ) → 0 < size → taken size ≤ L g → ((q : ℕ) → q < g → L q < taken size) → IsGiven S B L S' B' L' size g → (i k : ℕ) (ts : List Tile) → k ≤ g → AreTiles S B L k ts → Gives S' B' L' size g i k ts
give S B L S' B' L' size g some long first it i k [] low tiles =
    elim (cases_lt k g) [
      | inl before ↦ absurd (let none = tiles.no_run g before in omega (arith, none, long, some))
      | inr after ↦ give-end S B L S' B' L' size g i k some long (omega (arith, low, after)) it tiles
    ]
give S B L S' B' L' size g some long first it i k (t ∷ ts) low tiles =
    elim (cases_lt k g) [
      | inl before ↦
          (let short = first k before in
          let run = tiles.0.run in
          let far = later L (taken size) g k t S B (omega (arith, some)) long before tiles.0 in
          give-behind S B L S' B' L' size g i k t ts (omega (arith, short, run)) far it tiles.0 (give S B L S' B' L' size g some long first it (suc i) (behind k t) ts far tiles.1))
      | inr after ↦ give-tile S B L S' B' L' size g i k t ts some long (omega (arith, low, after)) it tiles.0 tiles.1
    ]

-- where no run is long enough there is no gap
pub give-none : (S B L : ℕ → ℕ) (size : ℕ) → 0 < size → ((q : ℕ) → q < places → L q < taken size) → (i k : ℕ) (ts : List Tile) → AreTiles S B L k ts → first_gap size i (address k) (blocks_of k ts) ≡ None
give-none S B L size some short i k [] it =
    let run = it.run in
    let no : nat_le (address k + size) heap_end ≡ false = elim (cases_lt k places) [
      | inl inside ↦ (let less = short k inside in grind (arith, nat_tests, run, less, places_are))
      | inr outside ↦ grind (arith, nat_tests, outside, some, places_are)
    ] in
    rw no refl
give-none S B L size some short i k (t ∷ ts) it =
    let run = it.0.run in
    let bytes = it.0.some in
    let ends = within S B L (behind k t) ts it.1 in
    let less = short k (omega (arith, bytes, ends)) in
    let no : nat_le (address k + size) (address (begin k t)) ≡ false = grind (arith, nat_tests, run, less) in
    let next : align_up (address (begin k t) + t.size) 16 ≡ address (behind k t) = omega arith in
    rw (no, next) (give-none S B L size some short (suc i) (behind k t) ts it.1)
