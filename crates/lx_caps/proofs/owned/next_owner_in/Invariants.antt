-- The first owner behind `after` among those who were granted the atom so far.
use Rattle.std.proofs.Common.{◌&&◌, take, reverse}
use Rattle.lx_caps.specs.History.{owns}
use Rattle.lx_caps.specs.Precedence.{follows, IsFirstPrincipal}
use Rattle.lx_caps.proofs.NextOwner.{was_given}
use Rattle.lx_caps.proofs.owned.next_owner_in.Given as goal

abbrev pub invariant-loop-act : goal.invariant-loop-act
invariant-loop-act l =
    IsFirstPrincipal (λ q. was_given (reverse (take l.act-index l.acts)) l.atom q && (follows l.after q && owns (reverse l.acts) q l.atom)) l.first
