-- What holds of the blocks that a trace has names for.
use Rattle.std.specs.Prelude.{◌≡◌, ℕ, List, Some, IsTrue}
use Rattle.lx_caps.specs.Regions.{covers}
use Rattle.lx_ir.specs.declared.module.GlobalVar.{GlobalVar}
use Rattle.lx_ir.specs.declared.types.NamedType.{NamedType}
use Rattle.lx_ir.specs.Layout.{is_lawful_type, size_of}
use Rattle.lx_trace_text.specs.declared.blocks.Block.{Block}
use Rattle.lx_trace_text.specs.Blocks.{block_at, variable_size}

pub record TraceTextLaws : Type 0 where
  -- an address lies in its block
  pub within : (bs : List Block) (a : ℕ) (b : Block) → block_at bs a ≡ Some b → IsTrue (covers b.start b.size a)
  -- a global of a type within the limits has that type's size
  pub sizes : (types : List NamedType) (g : GlobalVar) → IsTrue (is_lawful_type types g.ty) → variable_size types (Some g) ≡ size_of types g.ty
