use Rattle.std.proofs.Common.{◌<◌, ◌≤◌, ◌∙◌, sym, subst, ℕ, List, arith}
use Rattle.std.specs.Prelude.{slice_index}
use Rattle.lx_caps.specs.declared.Block.{Block}
use Rattle.lx_memory.specs.Heaps.{KeepsBlocks, with_block}
use Rattle.lx_memory.specs.Runs.{places}
use Rattle.lx_memory.specs.Tiles.{blocks_from}
use Rattle.lx_memory.proofs.Tables.{after-alloc, no-run}
use Rattle.lx_memory.proofs.heap.KHeap.alloc.Goals as goal

pub invariant_of-self : goal.invariant_of-self
invariant_of-self c =
    let some : 0 < c.args.size = omega (arith, c.if-size-eq0.false) in
    let first = subst (λ (n : ℕ). (n ≤ slice_index c.self.inside.runs c.in-Some.place) × ((p : ℕ) → p < c.in-Some.place → slice_index c.self.inside.runs p < n)) c.taken.ensures (c.in-Some.ensures.1, c.in-Some.ensures.2) in
    (after-alloc c.heap_laws.ensures c.self.inside.sizes.items c.self.inside.rooms.items c.self.inside.runs c.give.new.sizes.items c.give.new.rooms.items c.give.new.runs c.args.size c.in-Some.place some c.in-Some.ensures.0 first.0 first.1 c.self.invariant
    (record { sizes_are = c.give.ensures.sizes; rooms_are = c.give.ensures.rooms; runs_are = c.give.ensures.runs })).heap

pub returns-in-Some-clause-given : goal.returns-in-Some-clause-given
returns-in-Some-clause-given c =
    let some : 0 < c.args.size = omega (arith, c.if-size-eq0.false) in
    let first = subst (λ (n : ℕ). (n ≤ slice_index c.self.inside.runs c.in-Some.place) × ((p : ℕ) → p < c.in-Some.place → slice_index c.self.inside.runs p < n)) c.taken.ensures (c.in-Some.ensures.1, c.in-Some.ensures.2) in
    let after = after-alloc c.heap_laws.ensures c.self.inside.sizes.items c.self.inside.rooms.items c.self.inside.runs c.give.new.sizes.items c.give.new.rooms.items c.give.new.runs c.args.size c.in-Some.place some c.in-Some.ensures.0 first.0 first.1 c.self.invariant
    (record { sizes_are = c.give.ensures.sizes; rooms_are = c.give.ensures.rooms; runs_are = c.give.ensures.runs }) in
    λ bs given. c.address.ensures ∙ after.given bs (subst (λ (k : List Block). KeepsBlocks k bs) (sym c.self.view_is) given)

pub returns-in-Some-clause-live : goal.returns-in-Some-clause-live
returns-in-Some-clause-live c =
    let some : 0 < c.args.size = omega (arith, c.if-size-eq0.false) in
    let first = subst (λ (n : ℕ). (n ≤ slice_index c.self.inside.runs c.in-Some.place) × ((p : ℕ) → p < c.in-Some.place → slice_index c.self.inside.runs p < n)) c.taken.ensures (c.in-Some.ensures.1, c.in-Some.ensures.2) in
    let after = after-alloc c.heap_laws.ensures c.self.inside.sizes.items c.self.inside.rooms.items c.self.inside.runs c.give.new.sizes.items c.give.new.rooms.items c.give.new.runs c.args.size c.in-Some.place some c.in-Some.ensures.0 first.0 first.1 c.self.invariant
    (record { sizes_are = c.give.ensures.sizes; rooms_are = c.give.ensures.rooms; runs_are = c.give.ensures.runs }) in
    λ bs given. subst (λ (a : ℕ). KeepsBlocks (blocks_from 0 c.give.new.sizes.items) (with_block a c.args.size bs)) (sym c.address.ensures)
    (after.live bs (subst (λ (k : List Block). KeepsBlocks k bs) (sym c.self.view_is) given))

pub returns-in-None-clause-given : goal.returns-in-None-clause-given
returns-in-None-clause-given c =
    let some : 0 < c.args.size = omega (arith, c.if-size-eq0.false) in
    let short = subst (λ (n : ℕ). (p : ℕ) → p < places → slice_index c.self.inside.runs p < n) c.taken.ensures c.in-None.ensures in
    λ bs given. no-run c.heap_laws.ensures c.self.inside.sizes.items c.self.inside.rooms.items c.self.inside.runs c.args.size some short c.self.invariant bs (subst (λ (k : List Block). KeepsBlocks k bs) (sym c.self.view_is) given)
