use Rattle.std.proofs.Common.{codes}
use Rattle.std.proofs.lemmas.Result.{IfOk-equal}
use Rattle.lx_ir.specs.Text.{given_text, type_text, place_text}
use Rattle.lx_ir.proofs.Behind.{joined_behind}
use Rattle.lx_ir.proofs.text.values.put_element.Goals as goal

pub returns : goal.returns
returns c =
    IfOk-equal c.put_place.result _ _ _ c.put_place.ensures
    (joined_behind c.args.out.now.items (given_text c.args.scope.f.now c.args.to) (codes "getelementptr ") (type_text c.args.scope.m.now.types c.args.ty.now) _ (place_text c.args.scope.m.now c.args.scope.f.now c.args.base c.args.indices.now) c.in_ok-put_pieces.ensures)
