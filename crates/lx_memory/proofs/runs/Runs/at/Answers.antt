use Rattle.std.proofs.Common.{◌+◌, ◌∙◌, sym, ap, get_or, List, ℕ, arith}
use Rattle.lx_memory.proofs.Places.{places_are}
use Rattle.lx_memory.proofs.Trees.{read-leaf, past-leaves}
use Rattle.lx_memory.proofs.runs.Runs.at.Goals as goal

pub returns-then-place-lt-PLACES : goal.returns-then-place-lt-PLACES
returns-then-place-lt-PLACES c =
    let len = c.self.invariant.len in
    let low = c.if-place-lt-PLACES.true in
    read-leaf c.self.inside.nodes.items (65536 + c.args.place) c.args.place c.index.result.now c.index.ensures (omega (arith, places_are)) (omega (arith, len, low, places_are))
    ∙ ap (λ (runs : List ℕ). get_or runs c.args.place 0) c.self.view_is

pub returns-else-place-lt-PLACES : goal.returns-else-place-lt-PLACES
returns-else-place-lt-PLACES c =
    let high = c.if-place-lt-PLACES.false in
    sym (ap (λ (runs : List ℕ). get_or runs c.args.place 0) (sym c.self.view_is)
    ∙ past-leaves c.self.inside.nodes.items c.args.place c.self.invariant.len (omega (arith, high, places_are)))
