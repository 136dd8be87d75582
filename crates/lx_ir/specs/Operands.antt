-- What an instruction reads, gives and goes to.
use Rattle.std.specs.Prelude.{ℕ, ◌+◌, Bool, true, false, Option, Some, None, List, [], ◌∷◌, ◌++◌, map, filter_map, flat_map, length, slice_get, option_map, if◌then◌else◌}
use Rattle.lx_words.specs.declared.word.Width.{Width}
use Rattle.lx_words.specs.declared.word.Width.TheVariants.{W1, W8, W32, W64}
use Rattle.lx_ir.specs.declared.types.Scalar.{Scalar}
use Rattle.lx_ir.specs.declared.types.Scalar.TheVariants.{Int, Ptr}
use Rattle.lx_ir.specs.declared.module.Value.{Value}
use Rattle.lx_ir.specs.declared.module.Value.TheVariants.{Register}
use Rattle.lx_ir.specs.declared.module.Block.{Block}
use Rattle.lx_ir.specs.declared.module.Function.{Function}
use Rattle.lx_ir.specs.declared.instr.Argument.{Argument}
use Rattle.lx_ir.specs.declared.instr.Callee.{Callee}
use Rattle.lx_ir.specs.declared.instr.Callee.TheVariants as callee
use Rattle.lx_ir.specs.declared.instr.Instr.{Instr}
use Rattle.lx_ir.specs.declared.instr.Op.{Op}
use Rattle.lx_ir.specs.declared.instr.Op.TheVariants as op
use Rattle.lx_ir.specs.Lookup.{blocks_of, instrs_of}

abbrev pub argument : Scalar → Value → Argument
argument ty v = record { ty = ty; value = v }

-- the width of the length that a guard names
abbrev pub guard_width : Bool → Width
guard_width true = W32
guard_width false = W64

-- a call by a register reads a pointer
abbrev pub callee_operands : Callee → List Argument
callee_operands (callee.Register r) = argument Ptr (Register r) ∷ []
callee_operands (callee.Symbol s) = []

abbrev pub returned_operands : Option Argument → List Argument
returned_operands None = []
returned_operands (Some a) = a ∷ []

-- the operands of an instruction in the order of its text, each with the type that the form asks for
abbrev pub operands_of : Op → List Argument
operands_of (op.Binary to o ty a b) = argument ty a ∷ argument ty b ∷ []
operands_of (op.Compare to p ty a b) = argument ty a ∷ argument ty b ∷ []
operands_of (op.Convert to how from a into) = argument from a ∷ []
operands_of (op.Unary to o ty a) = argument ty a ∷ []
operands_of (op.Select to c ty a b) = argument (Int W1) c ∷ argument ty a ∷ argument ty b ∷ []
operands_of (op.Phi to ty edges) = map (λ e. argument ty e.value) edges
operands_of (op.Alloca to ty) = []
operands_of (op.Load to ty at) = argument Ptr at ∷ []
operands_of (op.Store ty v at) = argument ty v ∷ argument Ptr at ∷ []
operands_of (op.GetElementPtr to ty base indices) = argument Ptr base ∷ indices
operands_of (op.Call to ret target args) = callee_operands target ++ args
operands_of (op.CopyBlock moves dest source len) = argument Ptr dest ∷ argument Ptr source ∷ len ∷ []
operands_of (op.FillBlock dest byte len) = argument Ptr dest ∷ argument (Int W8) byte ∷ len ∷ []
operands_of (op.Ret v) = returned_operands v
operands_of (op.Jump label) = []
operands_of (op.Branch c a b) = argument (Int W1) c ∷ []
operands_of (op.Switch ty v otherwise cases) = argument ty v ∷ map (λ c. argument ty c.value) cases
operands_of op.Unreachable = []
operands_of (op.Guard at size narrow) = argument Ptr at ∷ argument (Int (guard_width narrow)) size ∷ []
operands_of (op.Check target) = argument Ptr target ∷ []
operands_of (op.Enter f) = []
operands_of (op.Pre f k) = []
operands_of (op.Post f k) = []
operands_of (op.Leave f) = []

-- where control goes behind the instruction, in the order of its text
abbrev pub targets_of : Op → List (List ℕ)
targets_of (op.Jump label) = label ∷ []
targets_of (op.Branch c a b) = a ∷ b ∷ []
targets_of (op.Switch ty v otherwise cases) = otherwise ∷ map (λ c. c.label) cases
targets_of _ = []

-- all labels that stand in the instruction: a phi names where control comes from
abbrev pub labels_of : Op → List (List ℕ)
labels_of (op.Phi to ty edges) = map (λ e. e.label) edges
labels_of o = targets_of o

-- the register that the instruction gives
abbrev pub given_by : Op → Option ℕ
given_by (op.Binary to o ty a b) = Some to
given_by (op.Compare to p ty a b) = Some to
given_by (op.Convert to how from a into) = Some to
given_by (op.Unary to o ty a) = Some to
given_by (op.Select to c ty a b) = Some to
given_by (op.Phi to ty edges) = Some to
given_by (op.Alloca to ty) = Some to
given_by (op.Load to ty at) = Some to
given_by (op.GetElementPtr to ty base indices) = Some to
given_by (op.Call to ret target args) = to
given_by _ = None

-- the type of a call's result, where it is given to a register
abbrev pub kept_result : Option ℕ → Option Scalar → Option Scalar
kept_result None ret = None
kept_result (Some to) ret = ret

-- the type of the register that the instruction gives
abbrev pub result_of : Op → Option Scalar
result_of (op.Binary to o ty a b) = Some ty
result_of (op.Compare to p ty a b) = Some (Int W1)
result_of (op.Convert to how from a into) = Some into
result_of (op.Unary to o ty a) = Some ty
result_of (op.Select to c ty a b) = Some ty
result_of (op.Phi to ty edges) = Some ty
result_of (op.Alloca to ty) = Some Ptr
result_of (op.Load to ty at) = Some ty
result_of (op.GetElementPtr to ty base indices) = Some Ptr
result_of (op.Call to ret target args) = kept_result to ret
result_of _ = None

-- an instruction that ends a block
abbrev pub is_terminator : Op → Bool
is_terminator (op.Ret v) = true
is_terminator (op.Jump label) = true
is_terminator (op.Branch c a b) = true
is_terminator (op.Switch ty v otherwise cases) = true
is_terminator op.Unreachable = true
is_terminator _ = false

abbrev pub is_phi : Op → Bool
is_phi (op.Phi to ty edges) = true
is_phi _ = false

-- a line that images alone have
abbrev pub is_image_line : Op → Bool
is_image_line (op.Guard at size narrow) = true
is_image_line (op.Check target) = true
is_image_line (op.Enter f) = true
is_image_line (op.Pre f k) = true
is_image_line (op.Post f k) = true
is_image_line (op.Leave f) = true
is_image_line _ = false

-- what an instruction reads, if it is a line that images alone have (true), or if it is another (false)
abbrev pub operands_where : Bool → Op → List Argument
operands_where true o = if is_image_line o then operands_of o else []
operands_where false o = if is_image_line o then [] else operands_of o

-- the registers of a function: its parameters, then what its instructions give, then those that it only reads
abbrev pub register_count : Function → ℕ
register_count f = length f.params + length f.locals

-- the numbers of the registers that the instructions of a function give, in the order of the text
abbrev pub given_numbers : Function → List ℕ
given_numbers f = filter_map (λ i. given_by i.op) (instrs_of f)

-- the types of the parameters and of what the instructions give, by the numbers of the registers
abbrev pub register_types : Function → List Scalar
register_types f = map (λ p. p.ty) f.params ++ filter_map (λ i. result_of i.op) (instrs_of f)
