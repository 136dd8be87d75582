use Rattle.std.proofs.Common.{◌∙◌, sym, ap, set, List, ℕ, arith}
use Rattle.lx_memory.proofs.Places.{places_are}
use Rattle.lx_memory.proofs.Trees.{set-past-leaves}
use Rattle.lx_memory.proofs.runs.Runs.set.Goals as goal

pub returns-else-place-lt-PLACES : goal.returns-else-place-lt-PLACES
returns-else-place-lt-PLACES c =
    let high = c.if-place-lt-PLACES.false in
    sym (ap (λ (runs : List ℕ). set runs c.args.place c.args.count) (sym c.self.view_is)
    ∙ set-past-leaves c.self.inside.nodes.items c.args.place c.args.count c.self.invariant.len (omega (arith, high, places_are))
    ∙ c.self.view_is)
