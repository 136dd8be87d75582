use Rattle.std.proofs.Common.{◌∷◌, take}
use Rattle.lx_actions.specs.Shown.{IsShownBy}
use Rattle.lx_caps.specs.Memory.{Memory, Put}
use Rattle.lx_opening.proofs.bytes.write_bytes.Given as goal

abbrev pub invariant-loop-place : goal.invariant-loop-place
invariant-loop-place l = (m : Memory) → IsShownBy l.fn.space m → IsShownBy l.space (Put l.at (take l.place l.bytes) ∷ m)
