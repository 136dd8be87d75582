-- Which instructions are decided by a table, and that each of them has one.
use Rattle.std.specs.Prelude.{◌≡◌, ℕ, true, false, Option, Some, List, [], ◌∷◌, codes, replicate}
use Rattle.lx_words.specs.declared.word.Width.TheVariants.{W8}
use Rattle.lx_words.specs.Word.{word}
use Rattle.lx_ir.specs.declared.types.Scalar.{Scalar}
use Rattle.lx_ir.specs.declared.module.Constant.TheVariants.{Number}
use Rattle.lx_ir.specs.declared.module.Value.{Value}
use Rattle.lx_ir.specs.declared.module.Value.TheVariants.{Register, Constant}
use Rattle.lx_ir.specs.declared.module.Block.{Block}
use Rattle.lx_ir.specs.declared.instr.SwitchCase.{SwitchCase}
use Rattle.lx_ir.specs.declared.instr.Edge.{Edge}
use Rattle.lx_ir.specs.declared.instr.Op.{Op}
use Rattle.lx_ir.specs.declared.instr.Op.TheVariants.{Switch, Phi}
use Rattle.lx_code.specs.declared.instructions.Table.{Table}
use Rattle.lx_code.specs.Fits.{HasEachLarge, Place, at_place, op_at, wants_table}

-- cases of a number and of a register, and an edge
abbrev pub of_number : SwitchCase
of_number = record { value = Constant (Number (word W8 7)); label = codes "a" }

abbrev pub of_register : SwitchCase
of_register = record { value = Register 0; label = codes "a" }

abbrev pub from_block : Edge
from_block = record { value = Register 0; label = codes "a" }

pub record JumpTableLaws : Type 0 where
  pub eight_cases : (ty : Scalar) (v : Value) (otherwise : List ℕ) → wants_table (Switch ty v otherwise (replicate 8 of_number)) ≡ false
  pub nine_cases : (ty : Scalar) (v : Value) (otherwise : List ℕ) → wants_table (Switch ty v otherwise (replicate 9 of_number)) ≡ true
  -- a case that a register gives may be another number each time
  pub a_register : (ty : Scalar) (v : Value) (otherwise : List ℕ) → wants_table (Switch ty v otherwise (of_register ∷ replicate 9 of_number)) ≡ false
  pub eight_edges : (to : ℕ) (ty : Scalar) → wants_table (Phi to ty (replicate 8 from_block)) ≡ false
  pub nine_edges : (to : ℕ) (ty : Scalar) → wants_table (Phi to ty (replicate 9 from_block)) ≡ true
  -- the map has a table at the place of each instruction that is decided by one
  pub at_each : (blocks : List Block) (table : List (Place × Table)) (b k : ℕ) (o : Op) → HasEachLarge blocks table → op_at blocks b k ≡ Some o → wants_table o ≡ true → (t : Table) × (at_place table b k ≡ Some t)
