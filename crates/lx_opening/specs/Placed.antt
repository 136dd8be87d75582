-- Globals whose bytes lie in memory.
use Rattle.std.specs.Prelude.{◌≡◌, ℕ, ◌+◌, Bool, true, ◌&&◌, IsTrue, Some, List, [], ◌∷◌, length, nat_le}
use Rattle.lx_words.specs.Width.{byte_count}
use Rattle.lx_caps.specs.Regions.{mapped}
use Rattle.lx_ir.specs.declared.module.GlobalVar.{GlobalVar}
use Rattle.lx_ir.specs.declared.types.NamedType.{NamedType}
use Rattle.lx_ir.specs.IrType.{IrType}
use Rattle.lx_ir.specs.Init.{Init, Plain, Empty, Bytes, Group, Inits, no_more, more}
use Rattle.lx_ir.specs.Layout.{layout, layout_of, size_of, is_lawful_type}
use Rattle.lx_model.specs.declared.program.Program.{Program}
use Rattle.lx_model.specs.declared.program.ProgramGlobal.{ProgramGlobal}
use Rattle.lx_model.specs.Program.{Home, module_of, constant_word}
use Rattle.lx_model.specs.Opening.{is_packed, item_start, global_of}
use Rattle.lx_link_texts.specs.Placing.{last_end}

-- where a further item of a group begins, behind items that take so many bytes, and where it ends
unfoldable pub start_behind : List NamedType → Bool → ℕ → IrType → ℕ
start_behind types packed taken t = item_start packed (layout taken 1) (layout_of types t)

unfoldable pub end_behind : List NamedType → Bool → ℕ → IrType → ℕ
end_behind types packed taken t = start_behind types packed taken t + size_of types t

-- a type within the limits, of an item that ends within the region of globals
unfoldable pub fits_item : List NamedType → ℕ → Bool → ℕ → IrType → Bool
fits_item types at packed taken t = is_lawful_type types t && nat_le (at + end_behind types packed taken t) last_end

abbrev mutual
  -- what an initialiser writes at an address lies in memory
  pub is_init_placed : Program → Home → ℕ → Init → Bool
  is_init_placed p home at (Plain c) = mapped at (byte_count (constant_word p home c).width)
  is_init_placed p home at (Empty b) = true
  is_init_placed p home at (Bytes bs) = mapped at (length bs)
  is_init_placed p home at (Group k ts is) = are_items_placed p home at (is_packed k) 0 ts is

  -- and so does what further items of a group write that begins at an address, behind items that take so many bytes
  pub are_items_placed : Program → Home → ℕ → Bool → ℕ → List IrType → Inits → Bool
  are_items_placed p home at packed taken ts no_more = true
  are_items_placed p home at packed taken [] (more i is) = true
  are_items_placed p home at packed taken (t ∷ ts) (more i is) =
      fits_item (module_of p home).types at packed taken t
      && (is_init_placed p home (at + start_behind (module_of p home).types packed taken t) i
      && are_items_placed p home at packed (end_behind (module_of p home).types packed taken t) ts is)

-- a global's type is within the limits, and its bytes and what its initialiser writes lie in memory
pub record IsPlaced (p : Program) (x : ProgramGlobal) (g : GlobalVar) : Type 0 where
  pub lawful : IsTrue (is_lawful_type (module_of p x.«module»).types g.ty)
  pub within : mapped x.at (size_of (module_of p x.«module»).types g.ty) ≡ true
  pub init : is_init_placed p x.«module» x.at g.init ≡ true

-- the same of the global that a number in a text names, if it names one
unfoldable pub IsGlobalPlaced : Program → ProgramGlobal → Type 0
IsGlobalPlaced p x = (g : GlobalVar) → global_of p x ≡ Some g → IsPlaced p x g
