-- What the modules of the worked rows share that register devices.
use Rattle.std.specs.Prelude.{ℕ, Some, None, List, [], ◌∷◌, codes}
use Rattle.lx_ir.specs.declared.types.Scalar.TheVariants.{Ptr}
use Rattle.lx_ir.specs.declared.types.NamedType.{NamedType}
use Rattle.lx_ir.specs.declared.module.Brackets.TheVariants as brackets
use Rattle.lx_ir.specs.declared.module.Constant.{Constant}
use Rattle.lx_ir.specs.declared.module.Function.{Function}
use Rattle.lx_ir.specs.declared.module.GlobalVar.{GlobalVar}
use Rattle.lx_ir.specs.declared.module.Module.{Module}
use Rattle.lx_ir.specs.declared.instr.Op.TheVariants as op
use Rattle.lx_ir.specs.IrType.{One, Struct, Named, none, also}
use Rattle.lx_ir.specs.Init.{Plain, Group, no_more, more}
use Rattle.lx_generated_laws.specs.RowTexts.{the_global, line, arg, call, block, define, declare, global, param}

-- `%struct.dev_ops = type { ptr, ptr }`
abbrev pub dev_ops : NamedType
dev_ops = record { name = codes "struct.dev_ops"; ty = Struct (also (One Ptr) (also (One Ptr) none)) }

abbrev pub device_module : List GlobalVar → List Function → Module
device_module globals functions = record { types = dev_ops ∷ []; globals = globals; functions = functions }

-- `@NAME = global %struct.dev_ops { ptr PROBE, ptr XMIT }`
abbrev pub ops : List ℕ → Constant → Constant → GlobalVar
ops name probe xmit = global name (Named 0) (Group brackets.Struct (One Ptr ∷ One Ptr ∷ []) (more (Plain probe) (more (Plain xmit) no_more)))

-- `declare ptr @dev_register(ptr)`
abbrev pub dev_register : Function
dev_register = declare (codes "dev_register") (param [] Ptr ∷ []) (Some Ptr)

-- `@init`, which registers the first global by the first import
abbrev pub init : Function
init =
    define (codes "init") [] (codes "d" ∷ []) None
    (block (codes "0") (call (Some 0) (Some Ptr) 0 (arg Ptr (the_global 0) ∷ []) ∷ line (op.Ret None) ∷ []) ∷ [])
