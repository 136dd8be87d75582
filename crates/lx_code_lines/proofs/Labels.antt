-- The first block with a label: an image has the labels of its text in the same order.
use Rattle.std.proofs.Common.{◌≡◌, ◌∙◌, refl, sym, ap, ℕ, suc, ◌+◌, ◌≤◌, Bool, true, false, not, cond, Option, Some, None, List, [], ◌∷◌, length, map, nat_lt, arith}
use Rattle.std.specs.Prelude.{bytes_eq, position, slice_get, option_and_then}
use Rattle.std.specs.List.{position_or_len}
use Rattle.std.proofs.lemmas.Bool.Decides.{nat_tests}
use Rattle.std.proofs.lemmas.List.Folds.{find_at}
use Rattle.std.proofs.lemmas.Option.{slice_get_past}
use Rattle.lx_ir.specs.declared.module.Block.{Block}
use Rattle.lx_ir.specs.Lookup.{block_named}
use Rattle.lx_model.specs.Program.{function_of, home_or_kernel}
use Rattle.lx_model.specs.Thread.{CodeBlock, code_block_of}
use Rattle.lx_images.specs.Code.{Code, image_routine}
use Rattle.lx_images.specs.Guarded.{Accepted, guarded_block}
use Rattle.lx_image_code.specs.Jumps.{blocks_or_none}
use Rattle.lx_image_code.proofs.Found.{blocks_of_routine}

-- the blocks of an image are those of the text with the marks
image_blocks_are : (c : Code) → Accepted c → (n : ℕ) → (image_routine c n).blocks ≡ map (guarded_block c (home_or_kernel c.program n) n) (map code_block_of (blocks_or_none (function_of c.program n)))
image_blocks_are c acc n =
    ap (λ r. r.blocks) (acc.routines n) ∙ ap (map (guarded_block c (home_or_kernel c.program n) n)) (blocks_of_routine (function_of c.program n))

abbrev is_labelled : List ℕ → CodeBlock → Bool
is_labelled label b = bytes_eq b.label label

abbrev is_named : List ℕ → Block → Bool
is_named label b = bytes_eq b.name label

module _ (c : Code) (n : ℕ) (label : List ℕ) where
  abbrev in_image : List Block → List CodeBlock
  in_image bs = map (guarded_block c (home_or_kernel c.program n) n) (map code_block_of bs)

  same_length : (bs : List Block) → length (in_image bs) ≡ length bs
  same_length [] = refl
  same_length (b ∷ bs) = ap suc (same_length bs)

  same_first : (bs : List Block) → position_or_len (is_labelled label) (in_image bs) ≡ position_or_len (is_named label) bs
  same_first [] = refl
  same_first (b ∷ bs) = ap (λ k. cond (not (bytes_eq b.name label)) (1 + k) 0) (same_first bs)

abbrev within : ℕ → ℕ → Option ℕ
within i n = cond (nat_lt i n) (Some i) None

got_by : (b : Bool) (bs : List Block) (i : ℕ) → nat_lt i (length bs) ≡ b → option_and_then (slice_get bs) (cond b (Some i) None) ≡ slice_get bs i
got_by true bs i e = refl
got_by false bs i e = let past : length bs ≤ i = grind (arith, nat_tests, e) in sym (slice_get_past bs i past)

got : (bs : List Block) (i : ℕ) → option_and_then (slice_get bs) (within i (length bs)) ≡ slice_get bs i
got bs i = got_by (nat_lt i (length bs)) bs i refl

-- so the block of the text that stands where the image has the first one with a label is the first one with it in the text
pub named_there : (c : Code) → Accepted c → (n : ℕ) (label : List ℕ) (bs : List Block) → bs ≡ blocks_or_none (function_of c.program n) → (found : Option ℕ)
    → found ≡ position (is_labelled label) (image_routine c n).blocks → option_and_then (slice_get bs) found ≡ block_named bs label
named_there c acc n label bs is found e =
    let all : (image_routine c n).blocks ≡ in_image c n label bs = image_blocks_are c acc n ∙ ap (in_image c n label) (sym is) in
    ap (option_and_then (slice_get bs)) (e ∙ ap (position (is_labelled label)) all
    ∙ ap (λ (i : ℕ). within i (length (in_image c n label bs))) (same_first c n label bs)
    ∙ ap (within (position_or_len (is_named label) bs)) (same_length c n label bs))
    ∙ got bs (position_or_len (is_named label) bs) ∙ sym (find_at (is_named label) bs)
