use Rattle.std.proofs.Common.{◌≡◌, ◌<◌, ◌∙◌, length, get_or, ap, arith}
use Rattle.lx_annotation_tables.proofs.ImageTables.{annotated_at, images_more}
use Rattle.lx_annotation_tables.proofs.Rising.{annotated_rise}
use Rattle.lx_annotation_tables.proofs.images.image_counts.Goals as goal

pub loop-number-preserved : goal.loop-number-preserved
loop-number-preserved c =
    let p = c.args.program.now in
    let k = c.loop-number.number in
    let list : c.as_slice-entry-items.result.now ≡ p.modules = c.as_slice-entry-items.ensures in
    let short : k < length p.modules = omega (arith, ap length list, c.loop-number-test.true) in
    let at : c.entry-item.result ≡ get_or p.modules k c.entry-item.result = c.entry-item.is ∙ ap (λ ys. get_or ys k c.entry-item.result) list in
    images_more p k c.entry-item.result c.in_ok-image.image c.loop-number.images.items c.push.new.self.items short at
    (c.in_ok-image.ensures p.interface (c.as_slice.ensures ∙ annotated_at p c.args.annotated.now k c.entry-item.result c.index-annotated-number.result c.requires short at c.index-annotated-number.is))
    c.loop-number.invariant c.in_ok-push.ensures.items

pub image_of-requires : goal.image_of-requires
image_of-requires c =
    let p = c.args.program.now in
    let k = c.loop-number.number in
    let list : c.as_slice-entry-items.result.now ≡ p.modules = c.as_slice-entry-items.ensures in
    let short : k < length p.modules = omega (arith, ap length list, c.loop-number-test.true) in
    let at : c.entry-item.result ≡ get_or p.modules k c.entry-item.result = c.entry-item.is ∙ ap (λ ys. get_or ys k c.entry-item.result) list in
    annotated_rise p.interface c.entry-item.result.«module» c.as_slice.result.now
    (c.as_slice.ensures ∙ annotated_at p c.args.annotated.now k c.entry-item.result c.index-annotated-number.result c.requires short at c.index-annotated-number.is)
