use Rattle.std.proofs.Common.{◌≡◌, ◌<◌, ◌∙◌, length, get_or, ap, arith}
use Rattle.lx_annotation_tables.proofs.ImageTables.{annotated_at}
use Rattle.lx_runs.proofs.Made.{agrees_at, made_more, module_at}
use Rattle.lx_runs.proofs.images.push_images.Goals as goal

pub push_image-requires-clause-verified : goal.push_image-requires-clause-verified
push_image-requires-clause-verified c =
    let p = c.args.program.now in
    let k = c.loop-number.number in
    let list : c.as_slice-entry-items.result.now ≡ p.modules = c.as_slice-entry-items.ensures in
    let short : k < length p.modules = omega (arith, ap length list, c.loop-number-test.true) in
    let at : c.entry-item.result ≡ get_or p.modules k c.entry-item.result = c.entry-item.is ∙ ap (λ ys. get_or ys k c.entry-item.result) list in
    (module_at p k c.entry-item.result c.requires.formed short at).verified

pub push_image-requires-clause-plain : goal.push_image-requires-clause-plain
push_image-requires-clause-plain c =
    let p = c.args.program.now in
    let k = c.loop-number.number in
    let list : c.as_slice-entry-items.result.now ≡ p.modules = c.as_slice-entry-items.ensures in
    let short : k < length p.modules = omega (arith, ap length list, c.loop-number-test.true) in
    let at : c.entry-item.result ≡ get_or p.modules k c.entry-item.result = c.entry-item.is ∙ ap (λ ys. get_or ys k c.entry-item.result) list in
    (module_at p k c.entry-item.result c.requires.formed short at).plain

pub push_image-requires-clause-annotated : goal.push_image-requires-clause-annotated
push_image-requires-clause-annotated c =
    let p = c.args.program.now in
    let k = c.loop-number.number in
    let list : c.as_slice-entry-items.result.now ≡ p.modules = c.as_slice-entry-items.ensures in
    let short : k < length p.modules = omega (arith, ap length list, c.loop-number-test.true) in
    let at : c.entry-item.result ≡ get_or p.modules k c.entry-item.result = c.entry-item.is ∙ ap (λ ys. get_or ys k c.entry-item.result) list in
    annotated_at p c.args.annotated.now k c.entry-item.result c.index-annotated-number.result c.requires.annotated short at c.index-annotated-number.is

pub push_image-requires-clause-agrees : goal.push_image-requires-clause-agrees
push_image-requires-clause-agrees c =
    let p = c.args.program.now in
    let k = c.loop-number.number in
    let list : c.as_slice-entry-items.result.now ≡ p.modules = c.as_slice-entry-items.ensures in
    let short : k < length p.modules = omega (arith, ap length list, c.loop-number-test.true) in
    let at : c.entry-item.result ≡ get_or p.modules k c.entry-item.result = c.entry-item.is ∙ ap (λ ys. get_or ys k c.entry-item.result) list in
    agrees_at p k c.entry-item.result c.requires.agree short at

pub loop-number-preserved : goal.loop-number-preserved
loop-number-preserved c =
    let p = c.args.program.now in
    let k = c.loop-number.number in
    let list : c.as_slice-entry-items.result.now ≡ p.modules = c.as_slice-entry-items.ensures in
    let short : k < length p.modules = omega (arith, ap length list, c.loop-number-test.true) in
    let at : c.entry-item.result ≡ get_or p.modules k c.entry-item.result = c.entry-item.is ∙ ap (λ ys. get_or ys k c.entry-item.result) list in
    made_more c.args.guarding p.interface p.modules k c.entry-item.result c.loop-number.images.items c.push_image.new.images.items short at c.loop-number.invariant c.in_ok-push_image.ensures
