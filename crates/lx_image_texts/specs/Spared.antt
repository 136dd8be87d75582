-- Spared stores: straight to bytes of the stack that the function itself allocated, and whose address goes nowhere else.
use Rattle.std.specs.Prelude.{ℕ, Bool, true, false, not, ◌&&◌, List, nat_eq, nat_le}
use Rattle.std.specs.List.{list_all, list_any}
use Rattle.lx_ir.specs.declared.types.NamedType.{NamedType}
use Rattle.lx_ir.specs.declared.module.Value.{Value}
use Rattle.lx_ir.specs.declared.module.Value.TheVariants as value
use Rattle.lx_ir.specs.declared.module.Function.{Function}
use Rattle.lx_ir.specs.declared.module.Module.{Module}
use Rattle.lx_ir.specs.declared.instr.Argument.{Argument}
use Rattle.lx_ir.specs.declared.instr.Instr.{Instr}
use Rattle.lx_ir.specs.declared.instr.Op.{Op}
use Rattle.lx_ir.specs.declared.instr.Op.TheVariants as op
use Rattle.lx_ir.specs.Layout.{scalar_size, size_of}
use Rattle.lx_ir.specs.Lookup.{instrs_of}
use Rattle.lx_ir.specs.Operands.{operands_of}

-- the value is the register
abbrev pub is_register : ℕ → Value → Bool
is_register r (value.Register k) = nat_eq k r
is_register r (value.Constant c) = false

-- the register stands among the operands
abbrev pub reads : ℕ → List Argument → Bool
reads r xs = list_any (λ x. is_register r x.value) xs

-- the instruction uses the register, if at all, as the address of a load or a store, or in a guard
abbrev pub uses_as_address : ℕ → Op → Bool
uses_as_address r (op.Load to ty at) = true
uses_as_address r (op.Store ty v at) = not (is_register r v)
uses_as_address r (op.Guard at size narrow) = true
uses_as_address r o = not (reads r (operands_of o))

-- the instruction gives the register bytes of the stack, at least so many
abbrev pub allocates : List NamedType → ℕ → ℕ → Op → Bool
allocates types r size (op.Alloca to ty) = nat_eq to r && nat_le size (size_of types ty)
allocates types r size o = false

-- some of these instructions gives the register at least so many bytes of the stack, and none lets their address go
abbrev pub keeps_address : List NamedType → List Instr → ℕ → ℕ → Bool
keeps_address types is size r =
    list_any (λ i. allocates types r size i.op) is && list_all (λ i. uses_as_address r i.op) is

-- a store of so many bytes to this address may lack its guard
abbrev pub is_spared_at : List NamedType → List Instr → ℕ → Value → Bool
is_spared_at types is size (value.Register r) = keeps_address types is size r
is_spared_at types is size (value.Constant c) = false

-- a store that may lack its guard, among the instructions of its function
abbrev pub is_spared_in : List NamedType → List Instr → Op → Bool
is_spared_in types is (op.Store ty v at) = is_spared_at types is (scalar_size ty) at
is_spared_in types is o = false

-- among those of a function of the module
abbrev pub is_spared : Module → Function → Op → Bool
is_spared m f o = is_spared_in m.types (instrs_of f) o
