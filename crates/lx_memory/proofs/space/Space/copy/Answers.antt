use Rattle.std.proofs.Common.{◌≡◌, ◌+◌, List, ℕ, ◌∷◌, length, sym, subst, ap, ◌∙◌, refl, arith}
use Rattle.std.specs.List.{splice}
use Rattle.lx_caps.specs.Memory.{Put, bytes_at}
use Rattle.lx_memory.specs.Ranges.{place_of}
use Rattle.lx_memory.specs.Shows.{Shows}
use Rattle.lx_memory.proofs.RangeLemmas.{kept, fits, in-region, without_fault}
use Rattle.lx_memory.proofs.SpaceLemmas.{shows_put, shows_none, bytes_shown, part_is, length-bytes_at}
use Rattle.lx_memory.proofs.space.Space.copy.Goals as goal

pub copy_at-requires-clause-to_within : goal.copy_at-requires-clause-to_within
copy_at-requires-clause-to_within c =
    let there = kept c.args.to c.args.len c.if-len-gt0.true (without_fault c.args.to c.args.len c.in_ok-test.ensures) in
    let within = fits c.args.to c.args.len there in
    rw c.place_of.ensures (omega (arith, c.self.invariant.0))

pub copy_at-requires-clause-spare : goal.copy_at-requires-clause-spare
copy_at-requires-clause-spare c =
    let there = kept c.args.to c.args.len c.if-len-gt0.true (without_fault c.args.to c.args.len c.in_ok-test.ensures) in
    let fits = in-region c.args.to c.args.len there in
    omega (arith, c.self.invariant.1, fits)

pub returns-then-len-gt0-clause-put : goal.returns-then-len-gt0-clause-put
returns-then-len-gt0-clause-put c = λ m shows.
    let there = kept c.args.to c.args.len c.if-len-gt0.true (without_fault c.args.to c.args.len c.in_ok-test.ensures) in
    let here = kept c.args.from c.args.len c.if-len-gt0.true (without_fault c.args.from c.args.len c.in_ok-test-2.ensures) in
    let all = rw c.self.view_is at c.self.invariant.0 in
    let bytes = bytes_at m c.args.from c.args.len in
    let P : List ℕ → Type 0 = λ list. Shows list (Put c.args.to bytes ∷ m) in
    let same = rw (c.self.view_is, c.place_of.ensures, c.place_of-then-len-gt0.ensures) at c.copy_at.ensures.put in
    let space = c.args.self.now in
    let from = place_of c.args.from in
    let part = part_is space space from from c.args.len c.args.len refl refl refl ∙ bytes_shown space m c.args.from c.args.len here all shows in
    let put = shows_put space bytes m c.args.to c.args.len there (length-bytes_at m c.args.from c.args.len) all shows in
    subst P (sym (same ∙ ap (λ ys. splice space (place_of c.args.to) (place_of c.args.to + c.args.len) ys) part)) put

pub returns-else-len-gt0-clause-put : goal.returns-else-len-gt0-clause-put
returns-else-len-gt0-clause-put c = λ m shows.
    let bytes = bytes_at m c.args.from c.args.len in
    let none : length bytes ≡ 0 = omega (arith, length-bytes_at m c.args.from c.args.len) in
    shows_none c.args.self.now bytes m c.args.to none shows
