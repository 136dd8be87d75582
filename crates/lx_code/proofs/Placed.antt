-- Tables at the places of instructions.
use Rattle.std.proofs.Common.{◌≡◌, ◌∙◌, refl, sym, ap, subst, ℕ, Bool, true, false, cond, nat_eq, Option, Some, None, List, eqb-true}
use Rattle.std.specs.Prelude.{IfSome, slice_get, option_map, option_and_then}
use Rattle.std.proofs.lemmas.Bool.{and_parts}
use Rattle.lx_ir.specs.declared.instr.Edge.{Edge}
use Rattle.lx_ir.specs.declared.instr.Instr.{Instr}
use Rattle.lx_ir.specs.declared.instr.SwitchCase.{SwitchCase}
use Rattle.lx_ir.specs.declared.instr.Op.{Op}
use Rattle.lx_ir.specs.declared.instr.Op.TheVariants as op
use Rattle.lx_ir.specs.declared.module.Block.{Block}
use Rattle.lx_ir.specs.declared.module.Value.{Value}
use Rattle.lx_ir.specs.declared.instr.Argument.{Argument}
use Rattle.lx_ir.specs.declared.types.NamedType.{NamedType}
use Rattle.lx_ir.specs.declared.types.Scalar.{Scalar}
use Rattle.lx_ir.specs.IrType.{IrType}
use Rattle.lx_ir.specs.Layout.{layout, layout_of}
use Rattle.lx_code.specs.Firsts.{Numbers}
use Rattle.lx_code.specs.Fits.{op_at, same_place, FitsAt, FitsOp}
use Rattle.lx_code.specs.Routes.{IsRoute}
use Rattle.lx_code.specs.declared.instructions.Table.TheVariants as table
use Rattle.lx_code.specs.declared.routes.Room.{Room}
use Rattle.lx_code.specs.declared.routes.Route.{Route}
use Rattle.lx_code.specs.declared.instructions.Table.{Table}

-- the table of an instruction fits it

module _ (types : List NamedType) (numbers : Numbers) where
  pub switch_fits : (ty : Scalar) (v : Value) (otherwise : List ℕ) (cases xs : List SwitchCase) (found : Option Table) → xs ≡ cases
      → IfSome found (λ t. (types : List NamedType) → (ty : Scalar) → (v : Value) → (otherwise : List ℕ) → FitsOp types numbers (op.Switch ty v otherwise xs) t)
      → FitsAt types numbers (Some (op.Switch ty v otherwise cases)) found
  switch_fits ty v otherwise cases xs None is fits = _
  switch_fits ty v otherwise cases xs (Some t) is fits = subst (λ (l : List SwitchCase). FitsOp types numbers (op.Switch ty v otherwise l) t) is (fits types ty v otherwise)

  pub phi_fits : (to : ℕ) (ty : Scalar) (edges xs : List Edge) (found : Option Table) → xs ≡ edges
      → IfSome found (λ t. (types : List NamedType) → (numbers : Numbers) → (to : ℕ) → (ty : Scalar) → FitsOp types numbers (op.Phi to ty xs) t) → FitsAt types numbers (Some (op.Phi to ty edges)) found
  phi_fits to ty edges xs None is fits = _
  phi_fits to ty edges xs (Some t) is fits = subst (λ (l : List Edge). FitsOp types numbers (op.Phi to ty l) t) is (fits types numbers to ty)

  pub room_fits : (to : ℕ) (ty : IrType) (found : Option Table) → IfSome found (λ t. (numbers : Numbers) → (to : ℕ) → FitsOp types numbers (op.Alloca to ty) t) → FitsAt types numbers (Some (op.Alloca to ty)) found
  room_fits to ty None fits = _
  room_fits to ty (Some t) fits = fits numbers to

  pub route_fits : (to : ℕ) (ty : IrType) (base : Value) (indices xs : List Argument) (found : Option Table) → xs ≡ indices
      → IfSome found (λ t. (numbers : Numbers) → (to : ℕ) → (base : Value) → FitsOp types numbers (op.GetElementPtr to ty base xs) t) → FitsAt types numbers (Some (op.GetElementPtr to ty base indices)) found
  route_fits to ty base indices xs None is fits = _
  route_fits to ty base indices xs (Some t) is fits = subst (λ (l : List Argument). FitsOp types numbers (op.GetElementPtr to ty base l) t) is (fits numbers to base)

-- the instruction at a place of a block
pub op_placed : (blocks : List Block) (b : Block) (n k : ℕ) (instrs : List Instr) (i : Instr) → slice_get blocks n ≡ Some b → b.instrs ≡ instrs → slice_get instrs k ≡ Some i → op_at blocks n k ≡ Some i.op
op_placed blocks b n k instrs i block is at =
    ap (λ (o : Option Block). option_map (λ (x : Instr). x.op) (option_and_then (λ (x : Block). slice_get x.instrs k) o)) block
    ∙ ap (λ (xs : List Instr). option_map (λ (x : Instr). x.op) (slice_get xs k)) is
    ∙ ap (option_map (λ (x : Instr). x.op)) at

-- one table more
module _ (types : List NamedType) (numbers : Numbers) (blocks : List Block) (block place b k : ℕ) (o : Op) (table : Table) (old : Option Table)
    (fits : FitsAt types numbers (Some o) (Some table)) (at : op_at blocks block place ≡ Some o) (kept : FitsAt types numbers (op_at blocks b k) old) where
  by_test : (t : Bool) → same_place (block, place) (b, k) ≡ t → FitsAt types numbers (op_at blocks b k) (cond t (Some table) old)
  by_test true e =
      let both = and_parts (nat_eq block b) (nat_eq place k) e in
      let here : op_at blocks b k ≡ Some o =
      ap (λ (n : ℕ). op_at blocks n k) (sym (eqb-true block b both.0)) ∙ ap (op_at blocks block) (sym (eqb-true place k both.1)) ∙ at in
      subst (λ (x : Option Op). FitsAt types numbers x (Some table)) (sym here) fits
  by_test false e = kept

  pub one_more : (found : Option Table) → found ≡ cond (same_place (block, place) (b, k)) (Some table) old → FitsAt types numbers (op_at blocks b k) found
  one_more found is = subst (FitsAt types numbers (op_at blocks b k)) (sym is) (by_test (same_place (block, place) (b, k)) refl)
