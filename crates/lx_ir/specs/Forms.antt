-- Kinds of forms of instructions.
use Rattle.std.specs.Prelude.{Bool, true, false}
use Rattle.lx_ir.specs.declared.instr.Op.{Op}
use Rattle.lx_ir.specs.declared.instr.Op.TheVariants as op

-- those that reckon or choose a value, and `alloca`
abbrev pub is_value : Op → Bool
is_value (op.Binary to o ty a b) = true
is_value (op.Compare to p ty a b) = true
is_value (op.Convert to how from a into) = true
is_value (op.Unary to o ty a) = true
is_value (op.Select to c ty a b) = true
is_value (op.Phi to ty edges) = true
is_value (op.Alloca to ty) = true
is_value _ = false

-- those that end a block, and those of the monitor's
abbrev pub is_end : Op → Bool
is_end (op.Ret value) = true
is_end (op.Jump label) = true
is_end (op.Branch c a b) = true
is_end (op.Switch ty v otherwise cases) = true
is_end op.Unreachable = true
is_end (op.Guard at size narrow) = true
is_end (op.Check target) = true
is_end (op.Enter s) = true
is_end (op.Pre s k) = true
is_end (op.Post s k) = true
is_end (op.Leave s) = true
is_end _ = false
