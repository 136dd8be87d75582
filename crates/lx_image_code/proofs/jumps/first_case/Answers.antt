use Rattle.std.proofs.Common.{sym}
use Rattle.lx_image_code.proofs.Found.{case_at, case_decided, no_op}
use Rattle.lx_image_code.proofs.jumps.first_case.Goals as goal

pub returns-in-Some-clause-first : goal.returns-in-Some-clause-first
returns-in-Some-clause-first c = λ code has.
    let n = c.args.number in
    let t = c.in-Some.tables.now in
    case_at code t n c.args.block c.args.place (has.each n t (sym c.in-Some.ensures)) c.args.bits c.case.result c.case.ensures.fixed c.case.ensures.first

pub returns-in-Some-clause-quick : goal.returns-in-Some-clause-quick
returns-in-Some-clause-quick c = λ code has.
    let n = c.args.number in
    let t = c.in-Some.tables.now in
    case_decided code t n c.args.block c.args.place (has.each n t (sym c.in-Some.ensures)) c.case.result c.case.ensures.quick

pub returns-in-None-clause-quick : goal.returns-in-None-clause-quick
returns-in-None-clause-quick c = λ code has ty v otherwise cases at. no_op code c.args.number c.args.block c.args.place c.args.jumps.now has.count (sym c.in-None.ensures) _ at
