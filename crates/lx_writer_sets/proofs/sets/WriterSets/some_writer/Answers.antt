use Rattle.std.proofs.Common.{◌+◌, ◌/◌, sym, ◌∙◌, subst}
use Rattle.lx_writer_sets.specs.Sets.{IsSomePrincipal}
use Rattle.lx_writer_sets.proofs.SomeLemmas.{at_part, in_first, in_last, none_alone, none_found, passing}
use Rattle.lx_writer_sets.proofs.sets.WriterSets.some_writer.Goals as goal

pub returns-in-Some : goal.returns-in-Some
returns-in-Some g c h stands t tells =
    let lists = c.args.self.now.parts.lists in
    let slot = c.args.slot in
    let first = c.first_part-first in
    let w = c.in-Some.writer in
    in_first lists h slot stands t w
    (subst (IsSomePrincipal (passing lists h slot stands t (slot / 64))) c.in-Some.is
    (at_part lists h slot stands t c.some_writer.result first.result.part first.result.slot (slot / 64) first.ensures.slot first.ensures.part (c.some_writer.ensures t tells)))

pub returns-then-first-last : goal.returns-then-first-last
returns-then-first-last g c h stands t tells =
    let lists = c.args.self.now.parts.lists in
    let slot = c.args.slot in
    let first = c.first_part-first in
    let last = c.last_part-last in
    none_alone lists h slot stands t (sym first.ensures.part ∙ (c.if-first-last.true ∙ last.ensures.part))
    (subst (IsSomePrincipal (passing lists h slot stands t (slot / 64))) (none_found c.some_writer.result c.in_default.not-Some)
    (at_part lists h slot stands t c.some_writer.result first.result.part first.result.slot (slot / 64) first.ensures.slot first.ensures.part (c.some_writer.ensures t tells)))

pub returns-else-first-last : goal.returns-else-first-last
returns-else-first-last g c h stands t tells =
    let lists = c.args.self.now.parts.lists in
    let slot = c.args.slot in
    let first = c.first_part-first in
    let last = c.last_part-last in
    let more = c.some_writer-else-first-last in
    in_last lists h slot stands t
    (subst (IsSomePrincipal (passing lists h slot stands t (slot / 64))) (none_found c.some_writer.result c.in_default.not-Some)
    (at_part lists h slot stands t c.some_writer.result first.result.part first.result.slot (slot / 64) first.ensures.slot first.ensures.part (c.some_writer.ensures t tells)))
    more.result
    (at_part lists h slot stands t more.result last.result.part last.result.slot ((slot + 7) / 64) last.ensures.slot last.ensures.part (more.ensures t tells))
