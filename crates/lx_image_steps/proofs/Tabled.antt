-- Instructions at the places at which tables have them.
use Rattle.std.proofs.Common.{◌≡◌, ◌∙◌, refl, sym, ap, ℕ, Option, Some, None, List, map}
use Rattle.std.specs.Prelude.{IfSome, bytes_eq, option_and_then, option_map, position, slice_get}
use Rattle.lx_ir.specs.declared.instr.Edge.{Edge}
use Rattle.lx_ir.specs.declared.instr.Instr.{Instr}
use Rattle.lx_ir.specs.declared.instr.Op.{Op}
use Rattle.lx_ir.specs.declared.instr.Op.TheVariants as op
use Rattle.lx_ir.specs.declared.types.Scalar.{Scalar}
use Rattle.lx_model.specs.Thread.{CodeBlock}
use Rattle.lx_image_code.specs.Jumps.{op_at, IsEdgeAt}
use Rattle.lx_image_steps.specs.Standing.{block_at, block_or_none}
use Rattle.lx_image_steps.proofs.Places.{op_at as op_in}

op_of : (b : Option CodeBlock) (k : ℕ) → option_and_then (λ x. slice_get x.code k) b ≡ slice_get (block_or_none b).code k
op_of None k = refl
op_of (Some b) k = refl

-- the instruction at a place of a block
pub placed : (blocks : List CodeBlock) (b k : ℕ) (is : List Instr) (i : Instr) → map (λ i. i.op) is ≡ (block_at blocks b).code → Some i ≡ slice_get is k → op_at blocks b k ≡ Some i.op
placed blocks b k is i same at =
    op_of (slice_get blocks b) k ∙ ap (λ (l : List Op). slice_get l k) (sym same) ∙ op_in is k ∙ ap (option_map (λ (x : Instr). x.op)) (sym at)

-- what a table of a phi's edges has
pub edge_known : (r : Option (Option ℕ)) (o : Option Op) (to : ℕ) (ty : Scalar) (edges xs : List Edge) (l label : List ℕ) → o ≡ Some (op.Phi to ty edges) → xs ≡ edges → l ≡ label
    → IfSome r (λ found. IsEdgeAt o l found) → IfSome r (λ place. place ≡ position (λ (e : Edge). bytes_eq e.label label) xs)
edge_known None o to ty edges xs l label at same from known = _
edge_known (Some found) o to ty edges xs l label at same from known =
    known to ty edges at ∙ ap (position (λ (e : Edge). bytes_eq e.label l)) (sym same) ∙ ap (λ (n : List ℕ). position (λ (e : Edge). bytes_eq e.label n) xs) from
