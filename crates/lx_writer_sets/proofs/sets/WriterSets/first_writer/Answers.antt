use Rattle.std.proofs.Common.{◌+◌, ◌/◌, ◌&&◌, ◌||◌, sym, ◌∙◌, subst}
use Rattle.lx_caps.specs.Precedence.{IsFirstPrincipal}
use Rattle.lx_writer_sets.specs.Sets.{writes_part}
use Rattle.lx_writer_sets.proofs.Slots.{first_by_one, first_by_two}
use Rattle.lx_writer_sets.proofs.sets.WriterSets.first_writer.Goals as goal

pub returns-then-first-last : goal.returns-then-first-last
returns-then-first-last g c h stands t tells =
    let lists = c.args.self.now.parts.lists in
    let slot = c.args.slot in
    let first = c.first_part-first in
    let last = c.last_part-last in
    first_by_one lists h slot t c.first_writer-found.result stands (sym first.ensures.part ∙ (c.if-first-last.true ∙ last.ensures.part))
    (λ p is.
    subst (λ s. IsFirstPrincipal (λ q. p q || (t q && writes_part lists (slot / 64) s q)) c.first_writer-found.result) first.ensures.slot
    (subst (λ n. IsFirstPrincipal (λ q. p q || (t q && writes_part lists n first.result.slot q)) c.first_writer-found.result) first.ensures.part (c.first_writer-found.ensures t tells p is)))

pub returns-else-first-last : goal.returns-else-first-last
returns-else-first-last g c h stands t tells =
    let lists = c.args.self.now.parts.lists in
    let slot = c.args.slot in
    let first = c.first_part-first in
    let last = c.last_part-last in
    first_by_two lists h slot t c.first_writer-found.result c.first_writer.result stands
    (λ p is.
    subst (λ s. IsFirstPrincipal (λ q. p q || (t q && writes_part lists (slot / 64) s q)) c.first_writer-found.result) first.ensures.slot
    (subst (λ n. IsFirstPrincipal (λ q. p q || (t q && writes_part lists n first.result.slot q)) c.first_writer-found.result) first.ensures.part (c.first_writer-found.ensures t tells p is)))
    (λ p is.
    subst (λ s. IsFirstPrincipal (λ q. p q || (t q && writes_part lists ((slot + 7) / 64) s q)) c.first_writer.result) last.ensures.slot
    (subst (λ n. IsFirstPrincipal (λ q. p q || (t q && writes_part lists n last.result.slot q)) c.first_writer.result) last.ensures.part (c.first_writer.ensures t tells p is)))
