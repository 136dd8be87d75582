use Rattle.std.proofs.Common.{◌≡◌, ◌+◌, ◌/◌, false, nat_eq, ap, sym, ◌∙◌, arith}
use Rattle.std.proofs.lemmas.Bool.Decides.{nat_tests}
use Rattle.std.proofs.lemmas.Bool.{true_from_ne_false}
use Rattle.lx_words.proofs.Tests.{eq_from_ne}
use Rattle.lx_caps.specs.declared.Principal.{Principal}
use Rattle.lx_caps.specs.Writers.{is_slot_writer}
use Rattle.lx_writer_sets.specs.Sets.{count_in, writes_part}
use Rattle.lx_cap_nodes.specs.Pieces.{part_list}
use Rattle.lx_writer_sets.proofs.BoundLemmas.{first_within, both_within}
use Rattle.lx_writer_sets.proofs.Slots.{at_slot, nobody_of, somebody_of, someone, nobody_in_both, one_alone, writer_in_first, writer_in_last}
use Rattle.lx_writer_sets.proofs.sets.WriterSets.is_clean_counted.Goals as goal

pub returns-then-not-is_untouched-clause-clean : goal.returns-then-not-is_untouched-clause-clean
returns-then-not-is_untouched-clause-clean g c h stands =
    let lists = c.args.self.now.parts.lists in
    let slot = c.args.slot in
    let first = c.first_part-first in
    let answer = c.is_untouched in
    let told = at_slot lists answer.result first.result.part first.result.slot slot (slot / 64) first.ensures.slot first.ensures.part answer.ensures.nobody in
    let found = somebody_of answer.result (writes_part lists (slot / 64) slot) told c.if-not-is_untouched.true in (
      λ t. absurd (cc),
      λ none. absurd (someone (writes_part lists (slot / 64) slot) (λ (q : Principal). is_slot_writer h slot q) (writer_in_first lists h slot stands) found none),
    )

pub returns-then-not-is_untouched-clause-bound : goal.returns-then-not-is_untouched-clause-bound
returns-then-not-is_untouched-clause-bound g c h stands =
    let lists = c.args.self.now.parts.lists in
    let cost = c.is_untouched.ensures.cost in
    let count = ap (λ n. count_in lists (part_list n)) c.first_part-first.ensures.part in
    let bound = first_within c.history_laws.ensures lists h stands c.is_untouched.ensures.nodes c.args.slot in
    omega (arith, cost, count, bound)

pub returns-then-first-last-clause-clean : goal.returns-then-first-last-clause-clean
returns-then-first-last-clause-clean g c h stands =
    let lists = c.args.self.now.parts.lists in
    let slot = c.args.slot in
    let first = c.first_part-first in
    let last = c.last_part-last in
    let answer = c.is_untouched in
    let told = at_slot lists answer.result first.result.part first.result.slot slot (slot / 64) first.ensures.slot first.ensures.part answer.ensures.nobody in
    let none = nobody_of answer.result (writes_part lists (slot / 64) slot) told c.if-not-is_untouched.false in
    let one : slot / 64 ≡ (slot + 7) / 64 = sym first.ensures.part ∙ (c.if-first-last.true ∙ last.ensures.part) in (
      λ t q. sym (one_alone lists h slot stands one q) ∙ none q,
      λ clean. grind (arith, nat_tests, c.if-first-last.true),
    )

pub returns-then-first-last-clause-bound : goal.returns-then-first-last-clause-bound
returns-then-first-last-clause-bound g c h stands =
    let lists = c.args.self.now.parts.lists in
    let cost = c.is_untouched.ensures.cost in
    let count = ap (λ n. count_in lists (part_list n)) c.first_part-first.ensures.part in
    let bound = first_within c.history_laws.ensures lists h stands c.is_untouched.ensures.nodes c.args.slot in
    omega (arith, cost, count, bound)

pub returns-else-first-last-clause-clean : goal.returns-else-first-last-clause-clean
returns-else-first-last-clause-clean g c h stands =
    let lists = c.args.self.now.parts.lists in
    let slot = c.args.slot in
    let first = c.first_part-first in
    let last = c.last_part-last in
    let one = c.is_untouched in
    let two = c.is_untouched-else-first-last in
    let a = writes_part lists (slot / 64) slot in
    let b = writes_part lists ((slot + 7) / 64) slot in
    let none = nobody_of one.result a (at_slot lists one.result first.result.part first.result.slot slot (slot / 64) first.ensures.slot first.ensures.part one.ensures.nobody) c.if-not-is_untouched.false in
    let told = at_slot lists two.result last.result.part last.result.slot slot ((slot + 7) / 64) last.ensures.slot last.ensures.part two.ensures.nobody in (
      λ t q. nobody_in_both lists h slot stands none (nobody_of two.result b told t) q,
      λ clean. true_from_ne_false two.result (λ out. someone b (λ (q : Principal). is_slot_writer h slot q) (writer_in_last lists h slot stands) (somebody_of two.result b told out) clean),
    )

pub returns-else-first-last-clause-bound : goal.returns-else-first-last-clause-bound
returns-else-first-last-clause-bound g c h stands =
    let lists = c.args.self.now.parts.lists in
    let slot = c.args.slot in
    let first = c.first_part-first in
    let last = c.last_part-last in
    let cost = c.is_untouched.ensures.cost in
    let more = c.is_untouched-else-first-last.ensures.cost in
    let a = ap (λ n. count_in lists (part_list n)) first.ensures.part in
    let b = ap (λ n. count_in lists (part_list n)) last.ensures.part in
    let two : nat_eq (slot / 64) ((slot + 7) / 64) ≡ false = eq_from_ne (slot / 64) ((slot + 7) / 64) (λ same. c.if-first-last.false (first.ensures.part ∙ (same ∙ sym last.ensures.part))) in
    let bound = both_within c.history_laws.ensures lists h stands c.is_untouched.ensures.nodes slot two in
    omega (arith, cost, more, a, b, bound)
