use Rattle.std.proofs.Common.{◌≡◌, ◌+◌, ◌∙◌, subst, set, ℕ, arith}
use Rattle.lx_memory.specs.Runs.{places, AreGreater}
use Rattle.lx_memory.proofs.Places.{places_are}
use Rattle.lx_memory.proofs.Trees.{set-leaf, one-leaf}
use Rattle.lx_memory.proofs.runs.set_length.Goals as goal

pub raise-requires-clause-others : goal.raise-requires-clause-others
raise-requires-clause-others c =
    let x = 65536 + c.args.place in
    let at : x ≡ places + c.args.place = omega (arith, places_are) in
    subst (λ (y : ℕ). AreGreater (set c.args.nodes.now.items x c.args.count) y) at
    (set-leaf c.args.nodes.now.items x c.args.count (omega (arith, places_are)) c.requires.all)

pub returns-clause-places : goal.returns-clause-places
returns-clause-places c =
    c.raise.ensures.places
    ∙ one-leaf c.args.nodes.now.items (65536 + c.args.place) c.args.place c.args.count (omega (arith, places_are))
