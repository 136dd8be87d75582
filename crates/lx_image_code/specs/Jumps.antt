-- What is known of the instructions of the functions that run, by tables.
use Rattle.std.specs.Prelude.{◌≡◌, ℕ, true, Option, Some, None, IsSome, List, [], length, nat_eq, bytes_eq, position, slice_get, option_and_then, unwrap_or}
use Rattle.lx_ir.specs.declared.types.NamedType.{NamedType}
use Rattle.lx_ir.specs.declared.types.Scalar.{Scalar}
use Rattle.lx_ir.specs.declared.module.Module.{Module}
use Rattle.lx_ir.specs.declared.instr.Argument.{Argument}
use Rattle.lx_ir.specs.IrType.{IrType}
use Rattle.lx_ir.specs.Layout.{element_offset, layout, layout_of}
use Rattle.lx_ir.specs.declared.module.Value.{Value}
use Rattle.lx_ir.specs.declared.instr.Edge.{Edge}
use Rattle.lx_ir.specs.declared.instr.SwitchCase.{SwitchCase}
use Rattle.lx_ir.specs.declared.instr.Op.{Op}
use Rattle.lx_ir.specs.declared.instr.Op.TheVariants as op
use Rattle.lx_ir.specs.declared.module.Block.{Block}
use Rattle.lx_ir.specs.declared.module.Function.{Function}
use Rattle.lx_ir.specs.Lookup.{blocks_of}
use Rattle.lx_model.specs.declared.program.Program.{Program}
use Rattle.lx_model.specs.declared.program.ProgramFunction.{ProgramFunction}
use Rattle.lx_model.specs.Program.{Home, constant_word, home_of_entry, home_or_kernel, module_of}
use Rattle.lx_model.specs.Thread.{Activation, CodeBlock}
use Rattle.lx_model.specs.Effect.{bits, indices_of}
use Rattle.lx_images.specs.Image.{Code, image_function}
use Rattle.lx_code.specs.declared.code_tables.CodeTables.{CodeTables}
use Rattle.lx_code.specs.declared.routes.Room.{Room}
use Rattle.lx_code.specs.declared.routes.Route.{Route}
use Rattle.lx_code.specs.Fits.{wants_table, AreTablesOf}
use Rattle.lx_code.specs.Routes.{route_offset}
use Rattle.lx_code.specs.Firsts.{Numbers}

-- the blocks of a function; none, where there is no function
abbrev pub blocks_or_none : Option Function → List Block
blocks_or_none None = []
blocks_or_none (Some f) = blocks_of f

-- whose text it is whose function an entry of the program's list names; the kernel's, where it names none
abbrev pub home_in_entry : Option ProgramFunction → Home
home_in_entry e = unwrap_or (home_of_entry e) None

abbrev pub text_of_entry : Program → Option ProgramFunction → Module
text_of_entry p e = module_of p (home_in_entry e)

-- what the constants of a text come to
abbrev pub numbers_at : Program → Home → Numbers
numbers_at p home c = (constant_word p home c).bits

-- the types of the text whose function this is
abbrev pub types_in : Program → ℕ → List NamedType
types_in p n = (module_of p (home_or_kernel p n)).types

-- the instruction at a place of a block
abbrev pub op_at : List CodeBlock → ℕ → ℕ → Option Op
op_at blocks b k = option_and_then (λ x. slice_get x.code k) (slice_get blocks b)

-- where the instruction is a switch of a function, this is the place of its first case that is equal to a number
abbrev pub IsCaseAt : Program → ℕ → Option Op → ℕ → Option ℕ → Type 0
IsCaseAt p f o n found =
    (ty : Scalar) → (v : Value) → (otherwise : List ℕ) → (cases : List SwitchCase) → o ≡ Some (op.Switch ty v otherwise cases) → (a : Activation) → a.function ≡ f
    → found ≡ position (λ c. nat_eq (bits p a c.value) n) cases

-- where it is a phi, this is the place of its first edge from a label
abbrev pub IsEdgeAt : Option Op → List ℕ → Option ℕ → Type 0
IsEdgeAt o label found = (to : ℕ) → (ty : Scalar) → (edges : List Edge) → o ≡ Some (op.Phi to ty edges) → found ≡ position (λ e. bytes_eq e.label label) edges

-- where it is a switch of more than eight cases, each of which is a constant, a table decides it; its cases are not searched
abbrev pub IsSwitchDecided : Option Op → Option (Option ℕ) → Type 0
IsSwitchDecided o decided = (ty : Scalar) → (v : Value) → (otherwise : List ℕ) → (cases : List SwitchCase) → o ≡ Some (op.Switch ty v otherwise cases) → wants_table (op.Switch ty v otherwise cases) ≡ true → IsSome decided

-- where it is a phi of more than eight edges, a table decides it
abbrev pub IsPhiDecided : Option Op → Option (Option ℕ) → Type 0
IsPhiDecided o decided = (to : ℕ) → (ty : Scalar) → (edges : List Edge) → o ≡ Some (op.Phi to ty edges) → wants_table (op.Phi to ty edges) ≡ true → IsSome decided

-- where it is an `alloca` of a function, this is the room of its type
abbrev pub IsRoomAt : Program → ℕ → Option Op → Room → Type 0
IsRoomAt p n o room = (to : ℕ) → (ty : IrType) → o ≡ Some (op.Alloca to ty) → layout room.size room.align ≡ layout_of (types_in p n) ty

-- where it is a `getelementptr` of a function, this is how far its indices go, whatever its registers have
abbrev pub IsRouteAt : Program → ℕ → Option Op → Route → Type 0
IsRouteAt p n o route =
    (to : ℕ) → (ty : IrType) → (base : Value) → (indices : List Argument) → o ≡ Some (op.GetElementPtr to ty base indices) → (a : Activation)
    → element_offset (types_in p n) ty (indices_of p a indices) ≡ route_offset route (indices_of p a indices)

-- the blocks that run of the function with this number
abbrev pub image_blocks : Code → ℕ → List Block
image_blocks c n = blocks_or_none (image_function c n)

-- there are tables of each function's blocks, in its text
pub record HasJumps (c : Code) (tables : List CodeTables) : Type 0 where
  pub count : length tables ≡ length c.program.functions
  pub each : (n : ℕ) → (t : CodeTables) → slice_get tables n ≡ Some t → AreTablesOf (types_in c.program n) (numbers_at c.program (home_or_kernel c.program n)) (image_blocks c n) t
