use Rattle.std.proofs.Common.{◌≡◌, ℕ, ap, arith, get_or, length, sym, subst, true, List, Option}
use Rattle.std.specs.Prelude.{option_and_then, option_map, slice_get}
use Rattle.std.proofs.lemmas.Option.{slice_get-get_or, slice_get_past}
use Rattle.lx_words.proofs.Lists.{all_at}
use Rattle.lx_ir.specs.declared.instr.Instr.{Instr}
use Rattle.lx_ir.specs.declared.module.Block.{Block}
use Rattle.lx_code.specs.Sized.{are_sized_instrs}
use Rattle.lx_code.specs.Fits.{at_place, op_at, HasIfLarge}
use Rattle.lx_code.proofs.Large.{below_next, everywhere, in_block, none_here, still_large}
use Rattle.lx_code.proofs.instructions.tables_of.Goals as goal

pub put_block-requires : goal.put_block-requires
put_block-requires g c =
    let types = (g.C.PlacedText.has c.args.text.now).types in
    let blocks = c.args.blocks.now in
    let number = c.loop-number.number in
    let b = c.index-blocks-number.result in
    subst (λ (l : List Instr). are_sized_instrs types l ≡ true) (sym c.as_slice.ensures)
    (all_at (λ (x : Block). are_sized_instrs types x.instrs) blocks number (get_or blocks number b) c.requires (slice_get-get_or blocks number b c.loop-number-test.true))

pub loop-number-preserved : goal.loop-number-preserved
loop-number-preserved g c =
    let blocks = c.args.blocks.now in
    let number = c.loop-number.number in
    let b = c.index-blocks-number.result in
    let at = slice_get-get_or blocks number b c.loop-number-test.true in
    let old = c.loop-number.tables.entries in
    let new = c.put_block.new.tables.entries in record {
      fits = c.in_ok-put_block.ensures.fits blocks (get_or blocks number b) at (sym c.as_slice.ensures) c.loop-number.invariant.fits;
      large = below_next (λ (n : ℕ). (k : ℕ) → HasIfLarge (op_at blocks n k) (at_place new n k)) number
          (λ n below k. still_large (op_at blocks n k) (at_place old n k) (at_place new n k) (c.in_ok-put_block.ensures.kept n k) (c.loop-number.invariant.large n below k))
          (λ k. in_block blocks (get_or blocks number b) number k c.as_slice.result.now (at_place new number k) at (sym c.as_slice.ensures) (c.in_ok-put_block.ensures.large k));
    }

pub returns-clause-large : goal.returns-clause-large
returns-clause-large g c =
    let blocks = c.args.blocks.now in
    let found = at_place c.loop-number.tables.entries in
    everywhere (λ (n : ℕ). (k : ℕ) → HasIfLarge (op_at blocks n k) (found n k)) (length blocks)
    (λ n below. c.loop-number.invariant.large n (omega (arith, below, c.loop-number-test.false)))
    (λ n past k. none_here (op_at blocks n k) (found n k)
    (ap (λ (o : Option Block). option_map (λ (x : Instr). x.op) (option_and_then (λ (x : Block). slice_get x.instrs k) o)) (slice_get_past blocks n past)))
