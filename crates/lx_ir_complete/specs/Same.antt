-- Modules that differ in lines alone.
use Rattle.std.specs.Prelude.{◌≡◌, Option, Some, None, List}
use Rattle.std.specs.List.{AllZip}
use Rattle.lx_ir.specs.declared.module.GlobalVar.{GlobalVar}
use Rattle.lx_ir.specs.declared.module.Block.{Block}
use Rattle.lx_ir.specs.declared.module.Function.{Function}
use Rattle.lx_ir.specs.declared.module.Module.{Module}
use Rattle.lx_ir_complete.specs.Said.{SameBlocks}

pub record SameGlobals (g h : GlobalVar) : Type 0 where
  pub name : g.name ≡ h.name
  pub constant : g.constant ≡ h.constant
  pub ty : g.ty ≡ h.ty
  pub init : g.init ≡ h.init

-- both have no blocks, or both have the same
abbrev pub SameBodies : Option (List Block) → Option (List Block) → Type 0
SameBodies None None = Unit {0}
SameBodies (Some bs) (Some ds) = SameBlocks bs ds
SameBodies _ _ = ⊥

pub record SameFunctions (f g : Function) : Type 0 where
  pub name : f.name ≡ g.name
  pub params : f.params ≡ g.params
  pub locals : f.locals ≡ g.locals
  pub ret : f.ret ≡ g.ret
  pub blocks : SameBodies f.blocks g.blocks

-- The modules are the same, the lines of their globals, functions and instructions aside.
pub record SameModules (m n : Module) : Type 0 where
  pub types : m.types ≡ n.types
  pub globals : AllZip SameGlobals m.globals n.globals
  pub functions : AllZip SameFunctions m.functions n.functions
