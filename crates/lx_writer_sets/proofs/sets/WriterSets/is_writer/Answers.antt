use Rattle.std.proofs.Common.{◌≡◌, ◌+◌, ◌/◌, false, not, nat_eq, ap, sym, ◌∙◌, arith}
use Rattle.std.proofs.lemmas.Bool.Decides.{nat_tests}
use Rattle.lx_writer_sets.specs.Sets.{writes_part}
use Rattle.lx_writer_sets.proofs.Slots.{writes_by_first, writes_by_last, one_alone}
use Rattle.lx_writer_sets.proofs.sets.WriterSets.is_writer.Goals as goal

pub returns-then-writes : goal.returns-then-writes
returns-then-writes c h stands =
    let lists = c.args.self.now.parts.lists in
    let first = c.first_part-first in
    writes_by_first lists h c.args.slot c.writes.result c.args.who stands
    (c.writes.ensures ∙ (ap (λ n. writes_part lists n first.result.slot c.args.who) first.ensures.part ∙ ap (λ s. writes_part lists (c.args.slot / 64) s c.args.who) first.ensures.slot)) c.if-writes.true

pub returns-then-first-last : goal.returns-then-first-last
returns-then-first-last c h stands =
    let lists = c.args.self.now.parts.lists in
    let first = c.first_part-first in
    let last = c.last_part-last in
    let now = c.writes-then-first-last in
    writes_by_last lists h c.args.slot c.writes.result now.result c.args.who stands
    (c.writes.ensures ∙ (ap (λ n. writes_part lists n first.result.slot c.args.who) first.ensures.part ∙ ap (λ s. writes_part lists (c.args.slot / 64) s c.args.who) first.ensures.slot)) c.if-writes.false
    (now.ensures ∙ (ap (λ n. writes_part lists n last.result.slot c.args.who) last.ensures.part ∙ ap (λ s. writes_part lists ((c.args.slot + 7) / 64) s c.args.who) last.ensures.slot))

pub returns-else-first-last : goal.returns-else-first-last
returns-else-first-last c h stands =
    let lists = c.args.self.now.parts.lists in
    let first = c.first_part-first in
    let last = c.last_part-last in
    let same : first.result.part ≡ last.result.part = grind (arith, nat_tests, c.if-first-last.false) in
    let one : c.args.slot / 64 ≡ (c.args.slot + 7) / 64 = sym first.ensures.part ∙ (same ∙ last.ensures.part) in
    let test : not (nat_eq first.result.part last.result.part) ≡ false = grind (arith, nat_tests, same) in
    test
    ∙ (sym c.if-writes.false
    ∙ (c.writes.ensures ∙ (ap (λ n. writes_part lists n first.result.slot c.args.who) first.ensures.part ∙ (ap (λ s. writes_part lists (c.args.slot / 64) s c.args.who) first.ensures.slot ∙ one_alone lists h c.args.slot stands one c.args.who))))
