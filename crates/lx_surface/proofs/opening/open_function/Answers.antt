use Rattle.std.proofs.Common.{◌≡◌, Some}
use Rattle.lx_model.specs.Program.{home_of}
use Rattle.lx_surface.proofs.Beginnings.{own_opened}
use Rattle.lx_surface.proofs.opening.open_function.Goals as goal

pub returns-in_ok-give_before-in-Some-Some : goal.returns-in_ok-give_before-in-Some-Some
returns-in_ok-give_before-in-Some-Some c =
    let told = c.in-Some-Some.ensures in
    let outer = c.in-Some-Some.field-0-is in
    let inner = c.in-Some-Some.module-is in
    let home : home_of c.args.program.now c.args.function ≡ Some (Some c.in-Some-Some.«module») = cc in
    own_opened c.args.program.now c.args.work.now c.give.new.self c.give_before.new.work c.in-Some-Some.«module» c.args.function home c.in_ok-give-in-Some-Some.ensures
    c.in_ok-give_before-in-Some-Some.ensures
