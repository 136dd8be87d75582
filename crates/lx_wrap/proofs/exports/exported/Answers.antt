use Rattle.std.proofs.Common.{◌≡◌, Some, None, sym, ap, ◌∙◌}
use Rattle.std.specs.Prelude.{option_map, position}
use Rattle.lx_words.proofs.Lists.{found_place, none_found}
use Rattle.lx_annot.specs.declared.interface.Export.{Export}
use Rattle.lx_wrap.specs.Exported.{at_name, is_named}
use Rattle.lx_wrap.proofs.exports.exported.Goals as goal

pub returns-in-Some : goal.returns-in-Some
returns-in-Some c =
    let name = c.args.f.now.name in
    let exports = c.args.i.now.exports in
    let first : position (is_named name) exports ≡ Some c.in-Some.place =
    sym (c.requires name) ∙ (ap (at_name c.args.places.now.entries) (sym c.as_slice.ensures) ∙ (sym c.place_of.ensures ∙ c.in-Some.is)) in
    c.annotation_at.ensures ∙ ap (option_map (λ (e : Export). e.annotation)) (found_place (is_named name) exports c.in-Some.place first)

pub returns-in-None : goal.returns-in-None
returns-in-None c =
    let name = c.args.f.now.name in
    let exports = c.args.i.now.exports in
    let none : position (is_named name) exports ≡ None =
    sym (c.requires name) ∙ (ap (at_name c.args.places.now.entries) (sym c.as_slice.ensures) ∙ (sym c.place_of.ensures ∙ c.in-None.is)) in
    ap (option_map (λ (e : Export). e.annotation)) (none_found (is_named name) exports none)
