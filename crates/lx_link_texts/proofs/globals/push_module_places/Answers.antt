use Rattle.std.proofs.Common.{◌≡◌, ◌≤◌, ◌++◌, ℕ, sym, subst}
use Rattle.lx_link_texts.specs.Placing.{last_end, module_places, modules_end}
use Rattle.lx_link_texts.proofs.Places.{module_places_step, module_within, modules_end_step}
use Rattle.lx_link_texts.proofs.globals.push_module_places.Goals as goal

pub push_places-requires-clause-fits : goal.push_places-requires-clause-fits
push_places-requires-clause-fits c =
    module_within c.args.modules.now c.loop-number.number c.index-modules-number.result c.loop-number.end (modules_end c.args.from c.args.modules.now) c.loop-number-test.true c.index-modules-number.is c.loop-number.invariant.1 c.requires.fits

pub loop-number-preserved : goal.loop-number-preserved
loop-number-preserved c =
    let ms = c.args.modules.now in
    let i = c.loop-number.number in
    let m = c.index-modules-number.result in
    let end = c.loop-number.end in
    let next = c.in_ok-end.end in
    let last = modules_end c.args.from ms in
    let h = c.loop-number-test.true in
    let d = c.index-modules-number.is in
    let n = c.in_ok-end.ensures.0 in
    let k = c.loop-number.invariant in
    let fits = module_within ms i m end last h d k.1 c.requires.fits in (
      module_places_step ms i m end next c.loop-number.places c.push_places.new.places (c.args.places.now ++ module_places 0 c.args.from ms) h d n k.0 c.in_ok-end.ensures.1,
      modules_end_step ms i m end next last h d n k.1,
      subst (λ (z : ℕ). z ≤ last_end) (sym n) fits,
    )
