-- A block is taken back, and its places join the runs before and behind it.
use Rattle.std.proofs.Common.{◌≡◌, ◌≢◌, inl, inr, refl, sym, subst, ◌∙◌, ap, ℕ, suc, ◌+◌, ◌<◌, ◌≤◌, List, [], ◌∷◌, length, get_or, arith}
use Rattle.std.specs.List.{remove}
use Rattle.std.proofs.lemmas.Bool.{cases_lt}
use Rattle.lx_caps.specs.declared.Block.{Block}
use Rattle.lx_memory.specs.Runs.{places}
use Rattle.lx_memory.specs.Tiles.{address, taken, Tile, begin, behind, HasTile, HasEnd, AreTiles}
use Rattle.lx_memory.proofs.Places.{cases_at}
use Rattle.lx_memory.proofs.Tiles.{blocks_of, within, agreed}

-- what is written where the block at a place is taken back: the run before it begins at u, and all is how many places are free then
pub record IsFreed (S B L S' B' L' : ℕ → ℕ) (p u all : ℕ) : Type 0 where
  pub before : u + B p ≡ p
  pub all_is : all ≡ B p + taken (S p) + L (p + taken (S p))
  pub size_at : (x : ℕ) → x ≡ p → S' x ≡ 0
  pub sizes : (x : ℕ) → x ≢ p → S' x ≡ S x
  pub room_behind : (x : ℕ) → x ≡ u + all → x < places → B' x ≡ all
  pub rooms : (x : ℕ) → x ≢ u + all → B' x ≡ B x
  pub run_at : (x : ℕ) → x ≡ u → L' x ≡ all
  pub run_behind : (x : ℕ) → x ≢ u → x ≡ p + taken (S p) → L' x ≡ 0
  pub runs : (x : ℕ) → x ≢ u → x ≢ p + taken (S p) → L' x ≡ L x

-- the tables have tiles with one block less
pub record Frees (S B L : ℕ → ℕ) (p k : ℕ) (ts : List Tile) (d : Block) : Type 0 where
  pub place : ℕ
  pub inside : place < length (blocks_of k ts)
  pub at : (get_or (blocks_of k ts) place d).at ≡ address p
  pub tiles : List Tile
  pub tiled : AreTiles S B L k tiles
  pub blocks : blocks_of k tiles ≡ remove (blocks_of k ts) place

-- what a tile says of the block that is taken back, where it is its own
record Own (S B L : ℕ → ℕ) (p u all k : ℕ) (t : Tile) : Type 0 where
  room : B p ≡ t.room
  size : S p ≡ t.size
  front : u ≡ k
  next : p + taken (S p) ≡ behind k t
  whole : all ≡ t.room + taken t.size + L (behind k t)

own : (S B L S' B' L' : ℕ → ℕ) (p u all k : ℕ) (t : Tile) → p ≡ begin k t → IsFreed S B L S' B' L' p u all → HasTile S B L k t → Own S B L p u all k t
own S B L S' B' L' p u all k t here it tile =
    let room : B p ≡ t.room = ap B here ∙ tile.room in
    let size : S p ≡ t.size = ap S here ∙ tile.size in
    let next : p + taken (S p) ≡ behind k t = ap (λ (s : ℕ). p + taken s) size ∙ ap (λ (x : ℕ). x + taken t.size) here in
    let before = it.before in
    let whole : B p + taken (S p) + L (p + taken (S p)) ≡ t.room + taken t.size + L (behind k t) =
    ap (λ (e : ℕ). e + taken (S p) + L (p + taken (S p))) room
    ∙ ap (λ (s : ℕ). t.room + taken s + L (p + taken (S p))) size
    ∙ ap (λ (x : ℕ). t.room + taken t.size + L x) next in record {
      room = room;
      size = size;
      front = omega (arith, before, room, here);
      next = next;
      whole = it.all_is ∙ whole;
    }

free-last : (S B L S' B' L' : ℕ → ℕ) (p u all k : ℕ) (t : Tile) (d : Block) → p ≡ begin k t → IsFreed S B L S' B' L' p u all → HasTile S B L k t → HasEnd S L (behind k t) → Frees S' B' L' p k (t ∷ []) d
free-last S B L S' B' L' p u all k t d here it tile end =
    let o = own S B L S' B' L' p u all k t here it tile in
    let run = end.run in
    let front = o.front in
    let next = o.next in
    let whole = o.whole in record {
      place = 0;
      inside = omega arith;
      at = ap address (sym here);
      tiles = [];
      tiled = record {
        run = rw (it.run_at k (sym front)) (omega (arith, whole, run));
        no_block = λ x low. elim (cases_at x p) [
          | inl same ↦ it.size_at x same
          | inr other ↦ it.sizes x other ∙ elim (cases_lt x (behind k t)) [
            | inl inside ↦ tile.no_block x low inside (λ e. other (e ∙ sym here))
            | inr outside ↦ end.no_block x outside
          ]
        ];
        no_run = λ x low. elim (cases_at x (p + taken (S p))) [
          | inl same ↦ it.run_behind x (omega (arith, low, front)) same
          | inr other ↦ it.runs x (omega (arith, low, front)) other ∙ elim (cases_lt x (behind k t)) [
            | inl inside ↦ tile.no_run x low inside
            | inr outside ↦ end.no_run x (omega (arith, outside, other, next))
          ]
        ];
      };
      blocks = refl;
    }

free-between : (S B L S' B' L' : ℕ → ℕ) (p u all k : ℕ) (t v : Tile) (ts : List Tile) (d : Block) → p ≡ begin k t → IsFreed S B L S' B' L' p u all → HasTile S B L k t → HasTile S B L (behind k t) v → AreTiles S B L (behind (behind k t) v) ts → Frees S' B' L' p k (t ∷ v ∷ ts) d
free-between S B L S' B' L' p u all k t v ts d here it tile following more =
    let o = own S B L S' B' L' p u all k t here it tile in
    let front = o.front in
    let next = o.next in
    let some = tile.some in
    let bytes = following.some in
    let m = following.run in
    let whole : all ≡ t.room + taken t.size + v.room = o.whole ∙ ap (λ (n : ℕ). t.room + taken t.size + n) m in
    let w : Tile = record { room = all; size = v.size } in
    let starts : begin k w ≡ begin (behind k t) v = omega (arith, whole) in
    let ends : behind k w ≡ behind (behind k t) v = omega (arith, whole) in
    let top = within S B L (behind (behind k t) v) ts more in record {
      place = 0;
      inside = omega arith;
      at = ap address (sym here);
      tiles = w ∷ ts;
      tiled = (
        record {
          some = bytes;
          run = it.run_at k (sym front);
          size = it.sizes (begin k w) (omega (arith, starts, here, some)) ∙ ap S starts ∙ following.size;
          room = it.room_behind (begin k w) (omega (arith, front)) (omega (arith, starts, top, bytes));
          no_block = λ x low high other. elim (cases_at x p) [
            | inl same ↦ it.size_at x same
            | inr off ↦ it.sizes x off ∙ elim (cases_lt x (behind k t)) [
              | inl inside ↦ tile.no_block x low inside (λ e. off (e ∙ sym here))
              | inr outside ↦ following.no_block x outside (omega (arith, high, ends)) (λ e. other (e ∙ sym starts))
            ]
          ];
          no_run = λ x low high. elim (cases_at x (p + taken (S p))) [
            | inl same ↦ it.run_behind x (omega (arith, low, front)) same
            | inr other ↦ it.runs x (omega (arith, low, front)) other ∙ elim (cases_lt x (behind k t)) [
              | inl inside ↦ tile.no_run x low inside
              | inr outside ↦ following.no_run x (omega (arith, outside, other, next)) (omega (arith, high, ends))
            ]
          ];
        },
        subst (λ (n : ℕ). AreTiles S' B' L' n ts) (sym ends)
            (agreed S B L S' B' L' (behind (behind k t) v) ts
            (λ x low. it.sizes x (omega (arith, low, here, some, bytes)))
            (λ x low. it.rooms x (omega (arith, low, front, whole, bytes)))
            (λ x low. it.runs x (omega (arith, low, front, some)) (omega (arith, low, next, bytes)))
            more),
      );
      blocks =
          ap (λ (q : ℕ). record { at = address q; size = v.size } ∷ blocks_of (behind k w) ts) starts
          ∙ ap (λ (n : ℕ). record { at = address (begin (behind k t) v); size = v.size } ∷ blocks_of n ts) ends;
    }

-- a tile before that of the block
free-behind : (S B L S' B' L' : ℕ → ℕ) (p u all k : ℕ) (t : Tile) (ts : List Tile) (d : Block) → behind k t ≤ u → u ≤ p → IsFreed S B L S' B' L' p u all → HasTile S B L k t → Frees S' B' L' p (behind k t) ts d → Frees S' B' L' p k (t ∷ ts) d
free-behind S B L S' B' L' p u all k t ts d later low it tile rest =
    let some = tile.some in record {
      place = suc rest.place;
      inside = let inside = rest.inside in omega (arith, inside);
      at = rest.at;
      tiles = t ∷ rest.tiles;
      tiled = (
        record {
          some = some;
          run = it.runs k (omega (arith, later, some)) (omega (arith, later, low, some)) ∙ tile.run;
          size = it.sizes (begin k t) (omega (arith, later, low, some)) ∙ tile.size;
          room = it.rooms (begin k t) (omega (arith, later, some)) ∙ tile.room;
          no_block = λ x from high other. it.sizes x (omega (arith, later, low, high)) ∙ tile.no_block x from high other;
          no_run = λ x from high. it.runs x (omega (arith, later, high)) (omega (arith, later, low, high)) ∙ tile.no_run x from high;
        },
        rest.tiled,
      );
      blocks = ap (λ (bs : List Block). record { at = address (begin k t); size = t.size } ∷ bs) rest.blocks;
    }

-- a block that is not in a tile begins behind it
not-here : (S B L : ℕ → ℕ) (p k : ℕ) (t : Tile) → 0 < S p → k ≤ p → p ≢ begin k t → HasTile S B L k t → behind k t ≤ p
not-here S B L p k t live low other tile =
    elim (cases_lt p (behind k t)) [
      | inl inside ↦ absurd (let none = tile.no_block p low inside other in omega (arith, none, live))
      | inr outside ↦ outside
    ]

-- the places that are free before a block and behind it
pub record IsBetween (S B L : ℕ → ℕ) (p k : ℕ) : Type 0 where
  pub room : k + B p ≤ p
  pub all : p + taken (S p) + L (p + taken (S p)) ≤ places

run-within : (S B L : ℕ → ℕ) (k : ℕ) (ts : List Tile) → AreTiles S B L k ts → k + L k ≤ places
run-within S B L k [] it = let run = it.run in omega (arith, run)
run-within S B L k (t ∷ ts) it = let run = it.0.run in let more = within S B L (behind k t) ts it.1 in omega (arith, run, more)

between-here : (S B L : ℕ → ℕ) (p k : ℕ) (t : Tile) (ts : List Tile) → p ≡ begin k t → HasTile S B L k t → AreTiles S B L (behind k t) ts → IsBetween S B L p k
between-here S B L p k t ts here tile more =
    let room : B p ≡ t.room = ap B here ∙ tile.room in
    let size : S p ≡ t.size = ap S here ∙ tile.size in
    let next : p + taken (S p) ≡ behind k t = ap (λ (s : ℕ). p + taken s) size ∙ ap (λ (x : ℕ). x + taken t.size) here in record {
      room = omega (arith, room, here);
      all = rw next (run-within S B L (behind k t) ts more);
    }

pub between : (S B L : ℕ → ℕ) (p k : ℕ) (ts : List Tile) → 0 < S p → k ≤ p → AreTiles S B L k ts → IsBetween S B L p k
between S B L p k [] live low it = absurd (let none = it.no_block p low in omega (arith, none, live))
between S B L p k (t ∷ ts) live low it =
    elim (cases_at p (begin k t)) [
      | inl here ↦ between-here S B L p k t ts here it.0 it.1
      | inr other ↦
          (let rest = between S B L p (behind k t) ts live (not-here S B L p k t live low other it.0) it.1 in
          let room = rest.room in record {
            room = omega (arith, room);
            all = rest.all;
          })
    ]

free-here : (S B L S' B' L' : ℕ → ℕ) (p u all : ℕ) (d : Block) → IsFreed S B L S' B' L' p u all → (k : ℕ) (t : Tile) (ts : List Tile) → p ≡ begin k t → HasTile S B L k t → AreTiles S B L (behind k t) ts → Frees S' B' L' p k (t ∷ ts) d
free-here S B L S' B' L' p u all d it k t [] here tile end = free-last S B L S' B' L' p u all k t d here it tile end
free-here S B L S' B' L' p u all d it k t (v ∷ ts) here tile more = free-between S B L S' B' L' p u all k t v ts d here it tile more.0 more.1

pub free : (S B L S' B' L' : ℕ → ℕ) (p u all : ℕ) (d : Block) → 0 < S p → IsFreed S B L S' B' L' p u all → (k : ℕ) (ts : List Tile) → k ≤ p → AreTiles S B L k ts → Frees S' B' L' p k ts d
free S B L S' B' L' p u all d live it k [] low tiles = absurd (let none = tiles.no_block p low in omega (arith, none, live))
free S B L S' B' L' p u all d live it k (t ∷ ts) low tiles =
    elim (cases_at p (begin k t)) [
      | inl here ↦ free-here S B L S' B' L' p u all d it k t ts here tiles.0 tiles.1
      | inr other ↦
          (let far = not-here S B L p k t live low other tiles.0 in
          let room = (between S B L p (behind k t) ts live far tiles.1).room in
          let before = it.before in
          free-behind S B L S' B' L' p u all k t ts d (omega (arith, room, before)) (omega (arith, before)) it tiles.0
          (free S B L S' B' L' p u all d live it (behind k t) ts far tiles.1))
    ]
