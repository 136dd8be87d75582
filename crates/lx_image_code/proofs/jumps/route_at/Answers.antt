use Rattle.std.proofs.Common.{sym}
use Rattle.lx_image_code.proofs.Found.{route_found}
use Rattle.lx_image_code.proofs.jumps.route_at.Goals as goal

pub returns-in-Some : goal.returns-in-Some
returns-in-Some c = λ code has.
    let n = c.args.number in
    let t = c.in-Some.tables.now in
    route_found code t n c.args.block c.args.place (has.each n t (sym c.in-Some.ensures)) c.route.result c.route.ensures
