use Rattle.std.proofs.Common.{◌∙◌, ap}
use Rattle.lx_caps.specs.Memory.{number_of}
use Rattle.lx_memory.specs.Ranges.{place_of}
use Rattle.lx_memory.proofs.RangeLemmas.{kept, without_fault}
use Rattle.lx_memory.proofs.SpaceLemmas.{bytes_shown, part_is}
use Rattle.lx_memory.proofs.space.Space.read.Goals as goal

pub returns-clause-told : goal.returns-clause-told
returns-clause-told c = λ m shows.
    let is = without_fault c.args.at c.args.bytes (rw c.from.ensures at c.in_ok-test.ensures) in
    let here = kept c.args.at c.args.bytes c.requires.some is in
    let all = rw c.self.view_is at c.self.invariant.0 in
    let part = part_is c.deref.result.now c.args.self.now c.place_of-place.result (place_of c.args.at) c.from-2.result c.args.bytes c.place_of-place.ensures c.from-2.ensures (c.deref.ensures.value ∙ c.self.view_is) in
    c.number.ensures ∙ ap number_of (part ∙ bytes_shown c.args.self.now m c.args.at c.args.bytes here all shows)
