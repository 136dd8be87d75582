-- What a module of the code keeps: each number within its type.
use Rattle.std.specs.Prelude.{ℕ, ◌^◌, Bool, true, ◌&&◌, nat_le, nat_lt}
use Rattle.std.specs.List.{list_all}
use Rattle.lx_words.specs.Width.{modulus}
use Rattle.lx_ir.specs.declared.module.Pointer.{Pointer}
use Rattle.lx_ir.specs.declared.module.Pointer.TheVariants as pointer
use Rattle.lx_ir.specs.declared.module.Constant.{Constant}
use Rattle.lx_ir.specs.declared.module.Constant.TheVariants as constant
use Rattle.lx_ir.specs.declared.module.Value.{Value}
use Rattle.lx_ir.specs.declared.module.Value.TheVariants as value
use Rattle.lx_ir.specs.declared.instr.Op.{Op}
use Rattle.lx_ir.specs.declared.instr.Op.TheVariants as op
use Rattle.lx_ir.specs.IrType.{IrType, One, Array, Struct, Packed, Named, IrTypes, none, also}
use Rattle.lx_ir.specs.Init.{Init, Plain, Empty, Bytes, Group, Inits, no_more, more}
use Rattle.lx_ir.specs.Operands.{operands_of}
use Rattle.lx_ir_terms.specs.Types.{greatest_count}

abbrev mutual
  -- each count is one that the code keeps
  pub is_kept_type : IrType → Bool
  is_kept_type (One s) = true
  is_kept_type (Array n t) = nat_le n greatest_count && is_kept_type t
  is_kept_type (Struct ts) = are_kept_types ts
  is_kept_type (Packed ts) = are_kept_types ts
  is_kept_type (Named k) = true

  pub are_kept_types : IrTypes → Bool
  are_kept_types none = true
  are_kept_types (also t ts) = is_kept_type t && are_kept_types ts

-- an address or an offset of 64 bits
abbrev pub is_kept_pointer : Pointer → Bool
is_kept_pointer (pointer.Number n) = nat_lt n (2 ^ 64)
is_kept_pointer (pointer.Symbol s n) = nat_lt n (2 ^ 64)
is_kept_pointer _ = true

abbrev pub is_kept_constant : Constant → Bool
is_kept_constant (constant.Number w) = nat_lt w.bits (modulus w.width)
is_kept_constant (constant.Pointer p) = is_kept_pointer p
is_kept_constant (constant.Cast p w) = is_kept_pointer p
is_kept_constant _ = true

abbrev pub is_kept_value : Value → Bool
is_kept_value (value.Constant c) = is_kept_constant c
is_kept_value _ = true

abbrev pub is_byte : ℕ → Bool
is_byte b = nat_lt b 256

abbrev mutual
  pub is_kept_init : Init → Bool
  is_kept_init (Plain c) = is_kept_constant c
  is_kept_init (Empty b) = true
  is_kept_init (Bytes bs) = list_all is_byte bs
  is_kept_init (Group k ts is) = list_all is_kept_type ts && are_kept_inits is

  pub are_kept_inits : Inits → Bool
  are_kept_inits no_more = true
  are_kept_inits (more i is) = is_kept_init i && are_kept_inits is

-- the type that an instruction names beside those of its operands
abbrev pub has_kept_type : Op → Bool
has_kept_type (op.Alloca to ty) = is_kept_type ty
has_kept_type (op.GetElementPtr to ty base indices) = is_kept_type ty
has_kept_type _ = true

-- the number of an annotation's action
abbrev pub has_kept_number : Op → Bool
has_kept_number (op.Pre s k) = nat_lt k (2 ^ 32)
has_kept_number (op.Post s k) = nat_lt k (2 ^ 32)
has_kept_number _ = true

abbrev pub is_kept_op : Op → Bool
is_kept_op o = has_kept_type o && has_kept_number o && list_all (λ a. is_kept_value a.value) (operands_of o)
