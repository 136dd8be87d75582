use Rattle.std.proofs.Common.{ℕ, ap, arith, get_or, length}
use Rattle.std.specs.Prelude.{option_map, slice_get}
use Rattle.std.proofs.lemmas.Option.{slice_get-get_or, slice_get_past}
use Rattle.lx_words.proofs.Lists.{all_at}
use Rattle.lx_ir.specs.declared.instr.Instr.{Instr}
use Rattle.lx_code.specs.Sized.{is_sized}
use Rattle.lx_code.specs.Fits.{at_place, HasIfLarge}
use Rattle.lx_code.proofs.Large.{below_next, everywhere, made_here, none_here, still_large}
use Rattle.lx_code.proofs.Placed.{op_placed}
use Rattle.lx_code.proofs.instructions.put_block.Goals as goal

pub put_op-requires : goal.put_op-requires
put_op-requires g c =
    let instrs = c.args.instrs.now in
    let place = c.loop-place.place in
    let i = c.index-instrs-place.result in
    all_at (λ (x : Instr). is_sized (g.C.PlacedText.has c.args.text.now).types x.op) instrs place (get_or instrs place i) c.requires (slice_get-get_or instrs place i c.loop-place-test.true)

pub loop-place-preserved : goal.loop-place-preserved
loop-place-preserved g c =
    let instrs = c.args.instrs.now in
    let number = c.args.number in
    let place = c.loop-place.place in
    let i = c.index-instrs-place.result in
    let at = slice_get-get_or instrs place i c.loop-place-test.true in
    let old = c.loop-place.tables.entries in
    let new = c.put_op.new.tables.entries in record {
      fits = λ blocks b block is has. c.in_ok-put_op.ensures.fits blocks (op_placed blocks b number place instrs (get_or instrs place i) block is at) (c.loop-place.invariant.fits blocks b block is has);
      kept = λ b k some. c.in_ok-put_op.ensures.kept b k (c.loop-place.invariant.kept b k some);
      large = below_next (λ (k : ℕ). HasIfLarge (option_map (λ (x : Instr). x.op) (slice_get instrs k)) (at_place new number k)) place
          (λ k below. still_large (option_map (λ (x : Instr). x.op) (slice_get instrs k)) (at_place old number k) (at_place new number k) (c.in_ok-put_op.ensures.kept number k)
          (c.loop-place.invariant.large k below))
          (made_here (option_map (λ (x : Instr). x.op) (slice_get instrs place)) (get_or instrs place i).op (at_place new number place) (ap (option_map (λ (x : Instr). x.op)) at)
          c.in_ok-put_op.ensures.large);
    }

pub returns-clause-large : goal.returns-clause-large
returns-clause-large g c =
    let instrs = c.args.instrs.now in
    let found = at_place c.loop-place.tables.entries c.args.number in
    everywhere (λ (k : ℕ). HasIfLarge (option_map (λ (x : Instr). x.op) (slice_get instrs k)) (found k)) (length instrs)
    (λ k below. c.loop-place.invariant.large k (omega (arith, below, c.loop-place-test.false)))
    (λ k past. none_here (option_map (λ (x : Instr). x.op) (slice_get instrs k)) (found k) (ap (option_map (λ (x : Instr). x.op)) (slice_get_past instrs k past)))
