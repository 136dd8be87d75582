use Rattle.std.proofs.Common.{◌+◌, ◌/◌, ◌∙◌, ap, ℕ, arith}
use Rattle.std.specs.Prelude.{slice_index}
use Rattle.std.proofs.lemmas.Grind.{get_or_default_zero}
use Rattle.lx_memory.proofs.Places.{places_are}
use Rattle.lx_memory.proofs.heap.join.Goals as goal

pub overflow_add-all : goal.overflow_add-all
overflow_add-all c =
    let room = c.index-room.ensures ∙ get_or_default_zero c.args.rooms.now.items c.args.place c.index-room.result.now c.requires.rooms_len in
    let size = c.index.ensures ∙ get_or_default_zero c.args.sizes.now.items c.args.place c.index.result.now c.requires.sizes_len in
    let before = c.requires.before in
    let bytes = c.requires.bytes in
    let taken = c.taken-taken.ensures in
    omega (arith, room, size, before, bytes, taken, c.requires.all, places_are)

pub overflow_add-all-2 : goal.overflow_add-all-2
overflow_add-all-2 c =
    let room = c.index-room.ensures ∙ get_or_default_zero c.args.rooms.now.items c.args.place c.index-room.result.now c.requires.rooms_len in
    let size = c.index.ensures ∙ get_or_default_zero c.args.sizes.now.items c.args.place c.index.result.now c.requires.sizes_len in
    let before = c.requires.before in
    let bytes = c.requires.bytes in
    let taken = c.taken-taken.ensures in
    let next = taken ∙ ap (λ (n : ℕ). (n + 15) / 16) size in
    let run = c.at-run.ensures ∙ ap (λ (n : ℕ). slice_index c.args.runs.now (c.args.place + n)) next in
    omega (arith, room, next, before, bytes, run, c.requires.all, places_are)
