use Rattle.std.proofs.Common.{◌≡◌, ◌<◌, ◌+◌, ◌-◌, sym, subst, refl, ℕ, List, true, arith}
use Rattle.std.specs.Prelude.{slice_index}
use Rattle.lx_caps.specs.declared.Block.{Block}
use Rattle.lx_caps.specs.Heap.{is_live, without_block}
use Rattle.lx_memory.specs.Heaps.{KeepsBlocks}
use Rattle.lx_memory.specs.Runs.{places}
use Rattle.lx_memory.specs.Tiles.{address, taken, blocks_from}
use Rattle.lx_memory.proofs.Places.{places_are}
use Rattle.lx_memory.proofs.Tables.{is-between, after-free, none-live}
use Rattle.lx_memory.proofs.heap.KHeap.free.Goals as goal

pub join-requires-clause-bytes : goal.join-requires-clause-bytes
join-requires-clause-bytes c =
    let live = subst (λ (sizes : List ℕ). 0 < slice_index sizes c.in-Some.place) c.deref.ensures.value c.in-Some.ensures.2 in
    let all = (is-between c.self.inside.sizes.items c.self.inside.rooms.items c.self.inside.runs c.in-Some.place live c.self.invariant).all in
    omega (arith, all, places_are)

pub join-requires-clause-before : goal.join-requires-clause-before
join-requires-clause-before c =
    let live = subst (λ (sizes : List ℕ). 0 < slice_index sizes c.in-Some.place) c.deref.ensures.value c.in-Some.ensures.2 in
    let room = (is-between c.self.inside.sizes.items c.self.inside.rooms.items c.self.inside.runs c.in-Some.place live c.self.invariant).room in
    omega (arith, room)

pub join-requires-clause-all : goal.join-requires-clause-all
join-requires-clause-all c =
    let live = subst (λ (sizes : List ℕ). 0 < slice_index sizes c.in-Some.place) c.deref.ensures.value c.in-Some.ensures.2 in
    (is-between c.self.inside.sizes.items c.self.inside.rooms.items c.self.inside.runs c.in-Some.place live c.self.invariant).all

pub invariant_of-self : goal.invariant_of-self
invariant_of-self c =
    let p = c.in-Some.place in
    let live = subst (λ (sizes : List ℕ). 0 < slice_index sizes p) c.deref.ensures.value c.in-Some.ensures.2 in
    let room = (is-between c.self.inside.sizes.items c.self.inside.rooms.items c.self.inside.runs p live c.self.invariant).room in
    let u = p - slice_index c.self.inside.rooms.items p in
    let before : u + slice_index c.self.inside.rooms.items p ≡ p = omega (arith, room) in
    let next = p + taken (slice_index c.self.inside.sizes.items p) in
    let all = slice_index c.self.inside.rooms.items p + taken (slice_index c.self.inside.sizes.items p) + slice_index c.self.inside.runs next in
    (after-free c.self.inside.sizes.items c.self.inside.rooms.items c.self.inside.runs c.join.new.sizes.items c.join.new.rooms.items c.join.new.runs p u next all c.in-Some.ensures.0 live c.self.invariant
    (record { before = before; next_is = refl; all_is = refl; sizes_are = c.join.ensures.sizes; rooms_are = c.join.ensures.rooms next refl; runs_are = c.join.ensures.runs u next before refl })).heap

pub returns-in-Some-clause-freed : goal.returns-in-Some-clause-freed
returns-in-Some-clause-freed c =
    let p = c.in-Some.place in
    let live = subst (λ (sizes : List ℕ). 0 < slice_index sizes p) c.deref.ensures.value c.in-Some.ensures.2 in
    let room = (is-between c.self.inside.sizes.items c.self.inside.rooms.items c.self.inside.runs p live c.self.invariant).room in
    let u = p - slice_index c.self.inside.rooms.items p in
    let before : u + slice_index c.self.inside.rooms.items p ≡ p = omega (arith, room) in
    let next = p + taken (slice_index c.self.inside.sizes.items p) in
    let all = slice_index c.self.inside.rooms.items p + taken (slice_index c.self.inside.sizes.items p) + slice_index c.self.inside.runs next in
    let after = after-free c.self.inside.sizes.items c.self.inside.rooms.items c.self.inside.runs c.join.new.sizes.items c.join.new.rooms.items c.join.new.runs p u next all c.in-Some.ensures.0 live c.self.invariant
    (record { before = before; next_is = refl; all_is = refl; sizes_are = c.join.ensures.sizes; rooms_are = c.join.ensures.rooms next refl; runs_are = c.join.ensures.runs u next before refl }) in
    λ bs given. subst (λ (a : ℕ). (is_live bs a ≡ true) × KeepsBlocks (blocks_from 0 c.join.new.sizes.items) (without_block bs a)) c.in-Some.ensures.1
    (after.freed bs (subst (λ (k : List Block). KeepsBlocks k bs) (sym c.self.view_is) given))

pub returns-in-None-clause-fault : goal.returns-in-None-clause-fault
returns-in-None-clause-fault c = (
  refl,
  (λ bs given.
      none-live c.self.inside.sizes.items c.args.at c.self.invariant.sizes_len
      (subst (λ (sizes : List ℕ). (p : ℕ) → p < places → address p ≡ c.args.at → slice_index sizes p ≡ 0) c.deref.ensures.value c.in-None.ensures)
      bs (subst (λ (k : List Block). KeepsBlocks k bs) (sym c.self.view_is) given)),
)
