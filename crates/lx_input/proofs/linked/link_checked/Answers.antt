use Rattle.std.proofs.Common.{◌∙◌}
use Rattle.lx_input.specs.Inputs.{sources_by}
use Rattle.lx_input.proofs.Linking.{all_marked, is_input, is_linked}
use Rattle.lx_input.proofs.linked.link_checked.Goals as goal

pub link-outcome-requires-clause-annotated : goal.link-outcome-requires-clause-annotated
link-outcome-requires-clause-annotated c =
    let s = sources_by c.args.checked c.args.besides in
    c.as_slice.ensures ∙ all_marked s.kernel s.interface s.case.modules s.modules c.args.annotated c.requires.sound.as_many c.requires.annotated

pub returns-in-Ok-clause-turn : goal.returns-in-Ok-clause-turn
returns-in-Ok-clause-turn c =
    let s = sources_by c.args.checked c.args.besides in
    let marks = all_marked s.kernel s.interface s.case.modules s.modules c.args.annotated c.requires.sound.as_many c.requires.annotated in
    is_input c.args.name.now s c.in-Ok.linked c.into_parts-program.result.0 c.into_parts-program.result.1 c.args.annotated c.in-Ok.ensures.ok
    c.into_parts-program.ensures.program c.into_parts-program.ensures.calls marks c.in-Ok.ensures.fault

pub returns-in-Ok-clause-linked : goal.returns-in-Ok-clause-linked
returns-in-Ok-clause-linked c =
    let s = sources_by c.args.checked c.args.besides in
    let marks = all_marked s.kernel s.interface s.case.modules s.modules c.args.annotated c.requires.sound.as_many c.requires.annotated in
    is_linked c.args.name.now s c.in-Ok.linked c.into_parts-program.result.0 c.into_parts-program.result.1 c.args.annotated c.in-Ok.ensures.ok
    c.into_parts-program.ensures.program c.into_parts-program.ensures.calls marks
    c.into_parts-program.ensures.well_formed c.into_parts-program.ensures.fit c.few_threads-threads.ensures.few c.requires.sound.as_many c.requires.sound.number c.requires.agree
