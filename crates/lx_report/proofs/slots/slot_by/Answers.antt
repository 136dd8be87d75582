use Rattle.std.proofs.Common.{◌∙◌, ap, sym, Some}
use Rattle.std.proofs.lemmas.Option.{slice_get-get_or}
use Rattle.lx_report.proofs.Tables.{slot_told}
use Rattle.lx_report.proofs.slots.slot_by.Goals as goal

pub returns-in-Some : goal.returns-in-Some
returns-in-Some c =
    let p = c.args.p.now in
    let types = c.in-Some.types.now in
    let seen = c.in-Some.ensures.lookup in
    let there = slice_get-get_or c.args.tables.now c.args.home types seen.3.0 ∙ ap Some (sym seen.1) in
    slot_told p.interface p.modules c.args.tables.now c.args.home c.args.function types c.slot_of.result c.requires.tables there c.slot_of.ensures
