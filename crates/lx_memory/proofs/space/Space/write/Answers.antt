use Rattle.std.proofs.Common.{List, ℕ, ◌∷◌, sym, subst}
use Rattle.lx_caps.specs.Memory.{bytes_of, Put}
use Rattle.lx_memory.specs.Shows.{Shows}
use Rattle.lx_memory.proofs.RangeLemmas.{kept, without_fault}
use Rattle.lx_memory.proofs.SpaceLemmas.{shows_put, length-bytes_of}
use Rattle.lx_memory.proofs.space.Space.write.Goals as goal

pub returns-clause-put : goal.returns-clause-put
returns-clause-put c = λ m shows.
    let is = without_fault c.args.at c.args.bytes (rw c.from.ensures at c.in_ok-test.ensures) in
    let here = kept c.args.at c.args.bytes c.requires.some is in
    let all = rw c.self.view_is at c.self.invariant.0 in
    let bytes = bytes_of c.args.bytes c.args.bits in
    let P : List ℕ → Type 0 = λ list. Shows list (Put c.args.at bytes ∷ m) in
    let put = shows_put c.args.self.now bytes m c.args.at c.args.bytes here (length-bytes_of c.args.bytes c.args.bits) all shows in
    let same = rw (c.self.view_is, c.place_of-place.ensures, c.from-2.ensures) at c.put_number_at.ensures.put in
    subst P (sym same) put
