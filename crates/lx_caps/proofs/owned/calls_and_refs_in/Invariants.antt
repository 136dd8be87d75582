use Rattle.std.proofs.Common.{◌&&◌, take, reverse}
use Rattle.lx_caps.specs.History.{owns}
use Rattle.lx_caps.specs.Order.{is_call_or_ref}
use Rattle.lx_caps.proofs.Found.{IsFound}
use Rattle.lx_caps.proofs.owned.calls_and_refs_in.Given as goal

-- The calls and references so far at which an act starts.
abbrev pub invariant-loop-act : goal.invariant-loop-act
invariant-loop-act l = IsFound (λ x. is_call_or_ref x && owns (reverse l.acts) l.who x) (reverse (take l.act-index l.acts)) l.found.items
