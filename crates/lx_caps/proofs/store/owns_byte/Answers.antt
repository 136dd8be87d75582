-- Who owns a byte holds it, and it is what is owned next behind the byte before it.
use Rattle.std.proofs.Common.{◌∙◌, sym}
use Rattle.std.proofs.lemmas.Bool.{both_ways, false_from_ne_true}
use Rattle.lx_caps.specs.declared.Atom.TheVariants.{Byte}
use Rattle.lx_caps.specs.declared.Cap.TheVariants.{Write}
use Rattle.lx_caps.specs.History.{holds, owns}
use Rattle.lx_caps.proofs.OwnerLemmas.{owner_holds}
use Rattle.lx_caps.proofs.store.owns_byte.Goals as goal

pub returns-else-holds_range : goal.returns-else-holds_range
returns-else-holds_range g c = λ h stands.
    let placed = g.met.C.CapStore.lies_in_memory c.args.caps.now h stands in
    let out = sym (c.holds_range.ensures h stands) ∙ c.if-holds_range.false in
    c.if-holds_range.false
    ∙ sym (false_from_ne_true (owns h c.args.who (Byte c.args.byte)) (λ is. both_ways (holds h c.args.who (Write c.args.byte 1)) out (owner_holds h c.args.who c.args.byte placed is)))
