use Rattle.std.proofs.Common.{◌≡◌, ◌<◌, ◌++◌, List, length, get_or, ap, ◌∙◌, arith}
use Rattle.lx_ir.specs.declared.module.GlobalVar.{GlobalVar}
use Rattle.lx_link_texts.specs.Placing.{end_behind, global_size, places_from}
use Rattle.lx_link_texts.proofs.Places.{end_step, next_within, places_step}
use Rattle.lx_link_texts.proofs.globals.push_places.Goals as goal

pub loop-number-preserved : goal.loop-number-preserved
loop-number-preserved c =
    let types = c.args.m.now.types in
    let gs = c.args.m.now.globals in
    let i = c.loop-number.number in
    let g = c.global-item.result in
    let end = c.loop-number.end in
    let next = c.in_ok-end.end in
    let size = c.global_size-size.result in
    let last = end_behind types c.args.from gs in
    let e : c.as_slice-global-items.result.now ≡ gs = c.as_slice-global-items.ensures in
    let h : i < length gs = omega (arith, c.loop-number-test.true, ap length e) in
    let d : g ≡ get_or gs i g = c.global-item.is ∙ ap (λ (xs : List GlobalVar). get_or xs i g) e in
    let s : size ≡ global_size types g = c.global_size-size.ensures.value in
    let n = c.in_ok-end.ensures.0 in
    let k = c.loop-number.invariant in (
      places_step types c.args.home gs i g end next size c.loop-number.places c.push_place.new.places (c.args.places.now ++ places_from types c.args.home 0 c.args.from gs) h d s n k.0 c.in_ok-end.ensures.1,
      end_step types gs i g end next size last h d s n k.1,
      next_within types gs i g end next size last h d s n k.1 c.requires.fits,
    )
