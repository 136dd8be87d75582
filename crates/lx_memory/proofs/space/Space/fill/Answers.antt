use Rattle.std.proofs.Common.{List, ℕ, ◌∷◌, sym, subst}
use Rattle.lx_caps.specs.Memory.{Repeat}
use Rattle.lx_memory.specs.Shows.{Shows}
use Rattle.lx_memory.proofs.RangeLemmas.{kept, without_fault}
use Rattle.lx_memory.proofs.SpaceLemmas.{shows_repeat}
use Rattle.lx_memory.proofs.space.Space.fill.Goals as goal

pub returns-then-len-gt0-clause-put : goal.returns-then-len-gt0-clause-put
returns-then-len-gt0-clause-put c = λ m shows.
    let here = kept c.args.to c.args.len c.if-len-gt0.true (without_fault c.args.to c.args.len c.in_ok-test.ensures) in
    let all = rw c.self.view_is at c.self.invariant.0 in
    let P : List ℕ → Type 0 = λ list. Shows list (Repeat c.args.to c.args.len c.args.byte ∷ m) in
    let same = rw (c.self.view_is, c.place_of.ensures) at c.fill_at.ensures.put in
    subst P (sym same) (shows_repeat c.args.self.now m c.args.to c.args.len c.args.byte here all shows)
