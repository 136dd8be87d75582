use Rattle.std.proofs.Common.{◌∙◌, ap, ℕ, List}
use Rattle.std.specs.Borrow.{Bor}
use Rattle.std.specs.List.{list_any}
use Rattle.lx_words.proofs.Lists.{any_mapped}
use Rattle.lx_annot_read.specs.Typed.{is_place}
use Rattle.lx_annot_read.proofs.typed.TypedFields.has.Goals as goal

pub returns : goal.returns
returns c =
    let p = is_place c.args.name.now c.args.index in
    c.contains.ensures ∙ any_mapped p (λ (place : Bor (List ℕ) × ℕ). (place.0.now, place.1)) c.self.inside.places.keys ∙ ap (list_any p) c.self.view_is
