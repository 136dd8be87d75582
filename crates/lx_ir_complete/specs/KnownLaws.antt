-- Laws on the way from a module to its text and back.
use Rattle.std.specs.Prelude.{◌≡◌, ℕ, ◌<◌, List, [], length, Some, IsTrue}
use Rattle.std.specs.List.{AllZip}
use Rattle.lx_ir.specs.declared.types.NamedType.{NamedType}
use Rattle.lx_ir.specs.declared.module.Block.{Block}
use Rattle.lx_ir.specs.declared.module.Function.{Function}
use Rattle.lx_ir.specs.declared.module.Module.{Module}
use Rattle.lx_ir.specs.IrType.{IrType}
use Rattle.lx_ir.specs.Layout.{is_lawful_type}
use Rattle.lx_ir.specs.Operands.{register_count}
use Rattle.lx_ir.specs.Text.{register_names}
use Rattle.lx_ir.specs.Lawful.{is_distinct, numbers_registers, IsLawful}
use Rattle.lx_ir_offsets.specs.Shapes.{named_shapes, is_inside}
use Rattle.lx_ir_terms.specs.Context.{Context, nothing}
use Rattle.lx_ir_tables.specs.Numbering.{numbering, own_numbers}
use Rattle.lx_ir_tables.specs.Registers.{registers_of}
use Rattle.lx_ir_lawful.specs.Alike.{knowing_registers, AlikeBlocks}
use Rattle.lx_ir_complete.specs.Knows.{Knows, KnowsRegisters}
use Rattle.lx_ir_complete.specs.Said.{SameBlocks}
use Rattle.lx_ir_complete.specs.KnownTables.{AreOnce, named_things, HasTables, HasRegisters}

-- A type that a lawful module may have is within the limits, and so is each type that is written in it.
abbrev pub LawfulTypesAreInside : Type 0
LawfulTypesAreInside = (types : List NamedType) (t : IrType) → IsTrue (is_lawful_type types t) → IsTrue (is_inside (named_shapes types) t)

-- A reader whose tables number the types, globals and functions of a lawful module in order knows their names.
abbrev pub TablesAreKnown : Type 0
TablesAreKnown = (m : Module) (context : Context) → IsLawful m → AreOnce context.names → HasTables m context → Knows m context

-- A reader whose table numbers the registers of a function in order knows their names.
abbrev pub RegistersAreKnown : Type 0
RegistersAreKnown = (f : Function) (context : Context) → IsTrue (is_distinct (register_names f)) → AreOnce context.names → HasRegisters f context → KnowsRegisters f context

-- The context of a first reading: each register stands for the number of its name.
abbrev pub unknown : List (List ℕ) → Context
unknown names = knowing_registers names (own_numbers 0 (length names))

-- A first reading of the blocks of a function, in which each register is the number of its name, numbers its registers as the function does.
abbrev pub RegistersAreNumbered : Type 0
RegistersAreNumbered =
    (f : Function) (bs ds es : List Block) (context : Context)
    → f.blocks ≡ Some bs → IsTrue (numbers_registers f) → IsTrue (is_distinct (register_names f)) → register_count f < nothing
    → AreOnce context.names → HasRegisters f context
    → SameBlocks ds bs → AllZip (AlikeBlocks context (unknown context.names)) ds es
    → registers_of context.names (numbering (length context.names) []) f.params es ≡ named_things context.names (register_names f)
