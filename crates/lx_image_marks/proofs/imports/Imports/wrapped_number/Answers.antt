use Rattle.std.proofs.Common.{◌∙◌, ap, sym, ◌&&◌}
use Rattle.std.proofs.lemmas.Bool.{and_right}
use Rattle.lx_words.proofs.Lists.{none_passes, same_place}
use Rattle.lx_ir.specs.declared.module.Module.{Module}
use Rattle.lx_image_texts.specs.Erased.{wrapped_number}
use Rattle.lx_image_texts.specs.ImageFaults.{has_out_wrapper, has_wrapper_named}
use Rattle.lx_image_marks.specs.Named.{imports_as}
use Rattle.lx_image_marks.proofs.imports.Imports.wrapped_number.Goals as goal

pub returns-in-Some : goal.returns-in-Some
returns-in-Some c =
    let functions = c.self.inside.text.now.functions in
    c.copied.ensures
    ∙ c.get.ensures.value
    ∙ c.self.invariant c.in-Some.import.now
    ∙ same_place (imports_as c.in-Some.import.now) (has_wrapper_named c.args.name.now) functions (λ f. ap (λ b. has_out_wrapper f && b) (sym (c.in-Some.ensures f.name)))
    ∙ ap (λ (x : Module). wrapped_number x c.args.name.now) c.self.view_is

pub returns-in-None : goal.returns-in-None
returns-in-None c =
    let functions = c.self.inside.text.now.functions in
    sym (none_passes (has_wrapper_named c.args.name.now) functions (λ f. and_right (has_out_wrapper f) _ (c.in-None.ensures f.name)))
    ∙ ap (λ (x : Module). wrapped_number x c.args.name.now) c.self.view_is
