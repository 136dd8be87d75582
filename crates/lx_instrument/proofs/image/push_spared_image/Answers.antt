use Rattle.std.proofs.Common.{ap, ◌∙◌}
use Rattle.std.specs.List.{list_all}
use Rattle.std.proofs.lemmas.Result.{IfOk-equal}
use Rattle.lx_ir.specs.Lawful.{is_lawful_function}
use Rattle.lx_instrument.proofs.Laws.{spared_image}
use Rattle.lx_instrument.proofs.image.push_spared_image.Goals as goal

pub push_spared_functions-requires : goal.push_spared_functions-requires
push_spared_functions-requires c = ap (list_all (is_lawful_function c.args.m.now)) c.as_slice-2.ensures ∙ c.requires.lawful

pub returns : goal.returns
returns c =
    IfOk-equal c.push_wrappers.result _ _ _ c.push_wrappers.ensures
    (spared_image c.args.i.now c.args.m.now c.as_slice-2.result.now c.as_slice.result.now c.args.list.now.items c.push_spared_functions.new.list.items (c.as_slice.ensures ∙ c.in_ok-numbers.ensures) c.as_slice-2.ensures c.in_ok-push_spared_functions.ensures)
