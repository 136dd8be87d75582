-- Outside memory nobody holds bytes, since what was granted lies in memory.
use Rattle.std.proofs.Common.{◌≡◌, ◌∙◌, sym, false}
use Rattle.lx_caps.specs.Regions.{mapped}
use Rattle.lx_caps.proofs.OwnerLemmas.{not_held}
use Rattle.lx_serve.proofs.rights.is_held.Goals as goal

pub returns-else-mapped-clause-held : goal.returns-else-mapped-clause-held
returns-else-mapped-clause-held g c = λ h stands.
    let placed = g.met.C.CapStore.lies_in_memory c.args.caps.now h stands in
    let out : mapped c.args.at c.args.size ≡ false = sym c.mapped.ensures ∙ c.if-mapped.false in
    c.if-mapped.false ∙ sym (not_held h c.args.who c.args.at c.args.size placed out)
