use Rattle.std.proofs.Common.{rules}
use Rattle.std.proofs.lemmas.List.Sorted.{answers_always}
use Rattle.lx_slot_types.specs.declared.Marked.{Marked}
use Rattle.lx_annotation_tables.proofs.Rising.{searched}
use Rattle.lx_annotation_tables.proofs.marked.search.Goals as goal

pub returns : goal.returns
returns c =
    let facts = c.binary_search_by_key.ensures in
    let by_number = facts.position (λ (x : Marked). x.function) (answers_always _ _ _ (λ f a r g called. search rules)) in
    searched c.args.function c.args.annotated.now _ c.requires facts.bound by_number
