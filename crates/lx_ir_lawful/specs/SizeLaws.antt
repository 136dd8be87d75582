-- The types of modules that are read are within the limits.
use Rattle.std.specs.Prelude.{ℕ, Bool, true, ◌&&◌, IsTrue, List}
use Rattle.std.specs.List.{list_all}
use Rattle.lx_ir.specs.declared.types.NamedType.{NamedType}
use Rattle.lx_ir.specs.declared.module.Function.{Function}
use Rattle.lx_ir.specs.declared.module.Module.{Module}
use Rattle.lx_ir.specs.declared.instr.Op.{Op}
use Rattle.lx_ir.specs.declared.instr.Op.TheVariants as op
use Rattle.lx_ir.specs.IrType.{IrType}
use Rattle.lx_ir.specs.Layout.{is_struct, is_lawful_type}
use Rattle.lx_ir.specs.Lookup.{blocks_of}
use Rattle.lx_ir_calls.specs.declared.intrinsics.TextForm.{TextForm}
use Rattle.lx_ir_read.specs.Grammar.{IsModule}

-- the type whose layout an instruction asks for is one of these
abbrev pub asks_for : (IrType → Bool) → Op → Bool
asks_for p (op.Alloca to ty) = p ty
asks_for p (op.GetElementPtr to ty base indices) = p ty
asks_for p _ = true

-- and so is that of each instruction of a function
abbrev pub asks_all_for : (IrType → Bool) → Function → Bool
asks_all_for p f = list_all (λ b. list_all (λ i. asks_for p i.op) b.instrs) (blocks_of f)

-- a struct that is one of these
abbrev pub is_such_struct : (IrType → Bool) → NamedType → Bool
is_such_struct p t = is_struct t.ty && p t.ty

pub record HasLawfulTypes (m : Module) : Type 0 where
  -- each type with a name is a struct within the limits
  pub types : IsTrue (list_all (is_such_struct (is_lawful_type m.types)) m.types)
  -- each global has a type within the limits
  pub globals : IsTrue (list_all (λ g. is_lawful_type m.types g.ty) m.globals)
  -- and so has each `alloca` and each `getelementptr`
  pub functions : IsTrue (list_all (asks_all_for (is_lawful_type m.types)) m.functions)

-- The types of a module that a text is are within the limits.
abbrev pub ModulesHaveLawfulTypes : Type 0
ModulesHaveLawfulTypes = (form : TextForm) (text : List ℕ) (m : Module) → IsModule form text m → HasLawfulTypes m
