use Rattle.std.proofs.Common.{◌∙◌, sym, ap, ◌<◌, length, refl, arith}
use Rattle.std.proofs.lemmas.List.{get_or-map, length-map}
use Rattle.lx_annot.specs.declared.interface.CapIterator.{CapIterator}
use Rattle.lx_annot_read.specs.Parts.{names_of_iterators}
use Rattle.lx_annot_read.proofs.Tabled.{one_more, still_new}
use Rattle.lx_annot_read.proofs.parts.table_of_iterators.Goals as goal

pub add-requires : goal.add-requires
add-requires c =
    let xs = c.args.iterators.now in
    let k = c.loop-iterator.iterator-index in
    let x = c.iterator-item.result in
    let lt : k < length (names_of_iterators xs) = omega (arith, c.loop-iterator-test.true, length-map xs (λ (y : CapIterator). y.name)) in
    record { absent = still_new (names_of_iterators xs) c.loop-iterator.table k x.name c.as_slice.result.now c.requires c.loop-iterator.invariant (c.as_slice.ensures ∙ ap (λ (y : CapIterator). y.name) c.iterator-item.is ∙ sym (get_or-map (λ (y : CapIterator). y.name) xs k x x.name c.loop-iterator-test.true)) lt }

pub loop-iterator-preserved : goal.loop-iterator-preserved
loop-iterator-preserved c =
    let xs = c.args.iterators.now in
    let k = c.loop-iterator.iterator-index in
    let x = c.iterator-item.result in
    let lt : k < length (names_of_iterators xs) = omega (arith, c.loop-iterator-test.true, length-map xs (λ (y : CapIterator). y.name)) in
    one_more (names_of_iterators xs) c.loop-iterator.table c.add.new.self k x.name c.as_slice.result.now c.loop-iterator.invariant (c.as_slice.ensures ∙ ap (λ (y : CapIterator). y.name) c.iterator-item.is ∙ sym (get_or-map (λ (y : CapIterator). y.name) xs k x x.name c.loop-iterator-test.true)) lt c.in_ok-add.ensures.ok
