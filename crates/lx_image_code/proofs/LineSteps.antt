-- The line at a place of a function's first block.
use Rattle.std.proofs.Common.{◌≡◌, ◌∙◌, refl, sym, ap, ℕ, zero, suc, Option, Some, None, List, [], ◌∷◌, drop, map}
use Rattle.std.specs.Prelude.{option_and_then, option_map, slice_get}
use Rattle.std.proofs.lemmas.Option.{slice_get-map}
use Rattle.lx_ir.specs.declared.instr.Instr.{Instr}
use Rattle.lx_ir.specs.declared.instr.Op.{Op}
use Rattle.lx_ir.specs.declared.module.Block.{Block}
use Rattle.lx_ir.specs.declared.module.Function.{Function}
use Rattle.lx_ir.specs.Lookup.{blocks_of}
use Rattle.lx_model.specs.Thread.{code_block_of, first_code}
use Rattle.lx_images.specs.Wrappers.{lines_of}
use Rattle.lx_image_code.specs.declared.line.Line.{Line}
use Rattle.lx_image_code.specs.declared.line.Line.TheVariants as line
use Rattle.lx_image_code.specs.Wrappers.{first_op, line_of}

-- the first of what is left is what stands at the place
pub first_at : (xs : List Op) (k : ℕ) → first_op (drop k xs) ≡ slice_get xs k
first_at [] zero = refl
first_at [] (suc k) = refl
first_at (x ∷ xs) zero = refl
first_at (x ∷ xs) (suc k) = first_at xs k

first_block_code : (bs : List Block) (at : ℕ) → slice_get (first_code (map code_block_of bs)) at ≡ option_map (λ i. i.op) (option_and_then (λ b. slice_get b.instrs at) (slice_get bs 0))
first_block_code [] at = refl
first_block_code (b ∷ bs) at = slice_get-map (λ i. i.op) b.instrs at

stands : (f : Function) (at : ℕ) (found : Option Block) → found ≡ slice_get (blocks_of f) 0
    → option_map (λ i. i.op) (option_and_then (λ b. slice_get b.instrs at) found) ≡ first_op (drop at (lines_of (Some f)))
stands f at found is =
    ap (λ o. option_map (λ i. i.op) (option_and_then (λ b. slice_get b.instrs at) o)) is
    ∙ sym (first_block_code (blocks_of f) at)
    ∙ sym (first_at (lines_of (Some f)) at)

pub line_found : (f : Function) (b : Block) (i : Instr) (at : ℕ) → Some b ≡ slice_get (blocks_of f) 0 → Some i ≡ slice_get b.instrs at
    → line_of (Some i.op) ≡ line_of (first_op (drop at (lines_of (Some f))))
line_found f b i at first is = ap line_of (ap (option_map (λ (x : Instr). x.op)) is ∙ stands f at (Some b) first)

pub line_past : (f : Function) (b : Block) (at : ℕ) → Some b ≡ slice_get (blocks_of f) 0 → None ≡ slice_get b.instrs at
    → line.Other ≡ line_of (first_op (drop at (lines_of (Some f))))
line_past f b at first is = ap line_of (ap (option_map (λ (x : Instr). x.op)) is ∙ stands f at (Some b) first)

pub line_of_none : (f : Function) (at : ℕ) → None ≡ slice_get (blocks_of f) 0 → line.Other ≡ line_of (first_op (drop at (lines_of (Some f))))
line_of_none f at first = ap line_of (stands f at None first)

-- what no function has
pub nothing_left : (at : ℕ) → line.Other ≡ line_of (first_op (drop at []))
nothing_left zero = refl
nothing_left (suc at) = refl

pub none_left : (f : Option Function) (at : ℕ) → None ≡ f → line.Other ≡ line_of (first_op (drop at (lines_of f)))
none_left f at none = nothing_left at ∙ ap (λ o. line_of (first_op (drop at (lines_of o)))) none

pub some_left : (f : Option Function) (g : Function) (at : ℕ) (r : Line) → Some g ≡ f → r ≡ line_of (first_op (drop at (lines_of (Some g)))) → r ≡ line_of (first_op (drop at (lines_of f)))
some_left f g at r is line = line ∙ ap (λ o. line_of (first_op (drop at (lines_of o)))) is
