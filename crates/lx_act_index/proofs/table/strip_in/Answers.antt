use Rattle.std.proofs.Common.{◌∙◌, sym, ap, arith}
use Rattle.lx_cap_lists.specs.Tables.{bit_of}
use Rattle.lx_cap_lists.proofs.PlacesWithin.{place_within}
use Rattle.lx_act_index.specs.Lines.{line_strip}
use Rattle.lx_act_index.specs.Table.{shown}
use Rattle.lx_act_index.proofs.table.strip_in.Goals as goal

pub line_in-requires : goal.line_in-requires
line_in-requires c =
    let within = place_within c.args.table.now.atoms.keys c.args.atom c.in-Some.place (sym c.place_of.ensures ∙ c.in-Some.is) in
    let table = c.requires in
    omega (arith, within, table)

pub returns-in-Some : goal.returns-in-Some
returns-in-Some c =
    let says = line_strip in
    c.line_strip.ensures
    ∙ (ap (λ k. says k c.line_in.result.now) c.bit_of.ensures.is
    ∙ (ap (says (bit_of c.args.atom)) c.line_in.ensures
    ∙ ap (λ o. says (bit_of c.args.atom) (shown c.args.table.now.lines.items o)) (sym (sym c.place_of.ensures ∙ c.in-Some.is))))
