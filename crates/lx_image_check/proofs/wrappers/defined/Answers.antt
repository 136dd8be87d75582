use Rattle.std.proofs.Common.{◌≡◌, Some, sym, ◌∙◌}
use Rattle.std.specs.Prelude.{position}
use Rattle.lx_words.proofs.Lists.{found_place, none_found}
use Rattle.lx_image_check.specs.Expected.{defines}
use Rattle.lx_image_check.proofs.wrappers.defined.Goals as goal

pub returns-in-Some : goal.returns-in-Some
returns-in-Some c =
    let name = c.args.name.now in
    let functions = c.args.functions.now in
    let first : position (defines name) functions ≡ Some c.in-Some.place = sym (c.requires name) ∙ (sym c.place_of.ensures ∙ c.in-Some.is) in
    c.function_at.ensures ∙ found_place (defines name) functions c.in-Some.place first

pub returns-in-None : goal.returns-in-None
returns-in-None c =
    let name = c.args.name.now in
    let functions = c.args.functions.now in
    none_found (defines name) functions (sym (c.requires name) ∙ (sym c.place_of.ensures ∙ c.in-None.is))
