use Rattle.std.proofs.Common.{◌∙◌, sym, ap, set, ℕ, List, arith}
use Rattle.lx_caps.specs.declared.Block.{Block}
use Rattle.lx_memory.specs.Heaps.{has_block}
use Rattle.lx_memory.proofs.Places.{places_are}
use Rattle.lx_memory.proofs.Tables.{blank-heap, no-blocks}
use Rattle.lx_memory.proofs.heap.KHeap.new.Goals as goal

pub invariant_of-result : goal.invariant_of-result
invariant_of-result c =
    blank-heap c.in_ok-sizes.sizes.items c.in_ok-rooms.rooms.items c.in_ok-runs.runs c.set.new.self (c.in_ok-sizes.ensures.len ∙ sym places_are) (c.in_ok-rooms.ensures.len ∙ sym places_are) c.in_ok-runs.ensures.len
    (λ k low. c.in_ok-sizes.ensures.zero k (omega (arith, low, places_are))) c.in_ok-runs.ensures.none (c.set.ensures ∙ ap (λ (n : ℕ). set c.in_ok-runs.runs 0 n) (sym places_are))

pub returns : goal.returns
returns c =
    let none = no-blocks c.in_ok-sizes.sizes.items c.in_ok-rooms.rooms.items c.in_ok-runs.runs c.set.new.self (c.in_ok-sizes.ensures.len ∙ sym places_are) (c.in_ok-rooms.ensures.len ∙ sym places_are) c.in_ok-runs.ensures.len
    (λ k low. c.in_ok-sizes.ensures.zero k (omega (arith, low, places_are))) c.in_ok-runs.ensures.none (c.set.ensures ∙ ap (λ (n : ℕ). set c.in_ok-runs.runs 0 n) (sym places_are)) in
    λ b. ap (λ (kept : List Block). has_block kept b) none
