-- The first of the places so far that the principal owns behind `after`.
use Rattle.std.proofs.Common.{◌≡◌, ◌⊎◌, ◌&&◌, Some, true, take, reverse}
use Rattle.lx_caps.specs.History.{owns}
use Rattle.lx_caps.specs.Order.{is_behind}
use Rattle.lx_caps.specs.Starts.{start_behind}
use Rattle.lx_caps.proofs.Begins.{StartsIn}
use Rattle.lx_caps.proofs.Least.{IsLeast}
use Rattle.lx_caps.proofs.owned.next_in.Given as goal

abbrev pub invariant-loop-act : goal.invariant-loop-act
invariant-loop-act l =
    IsLeast (λ x. ((is_behind l.after x && owns (reverse l.acts) l.who x) ≡ true) × ((start_behind l.after ≡ Some x) ⊎ StartsIn (reverse (take l.act-index l.acts)) x))
    l.first
