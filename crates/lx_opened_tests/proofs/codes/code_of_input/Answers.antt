use Rattle.std.proofs.Common.{[], ◌∷◌}
use Rattle.std.specs.Arc.{arc_value}
use Rattle.lx_opened_tests.proofs.Coded.{coded}
use Rattle.lx_opened_tests.proofs.codes.code_of_input.Goals as goal

pub returns-in-Ok-owned_code : goal.returns-in-Ok-owned_code
returns-in-Ok-owned_code c = coded c.args.input.program (arc_value c.in-Ok-owned_code.parts.1) (c.args.image ∷ []) c.in-Ok-owned_code.parts.0
    c.args.input.script c.args.input.annotated c.in-Ok.field-0.counts c.in-Ok-owned_code.ensures.code c.in-Ok-owned_code.ensures.same
    c.requires.ready.linked.formed c.requires.ready.linked.annotated c.requires.ready.linked.few c.in-Ok.ensures.counts
