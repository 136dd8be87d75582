use Rattle.std.proofs.lemmas.Result.{err_from_is_err_and}
use Rattle.std.proofs.Common.{Some, refl, ap, arith}
use Rattle.lx_model.specs.Next.{request}
use Rattle.lx_frames.specs.Frames.{frames_of}
use Rattle.lx_interp.specs.Runner.{asker_in, marks_in, poorer, thread_of}
use Rattle.lx_interp.proofs.Calls.{paid_at_most}
use Rattle.lx_interp.proofs.Lines.{unwrapped}
use Rattle.lx_interp.proofs.Takings.{taken_as, wants_asks, asked_with_room, roomier_stays}
use Rattle.lx_interp.proofs.runner.Runner.ask.Goals as goal

pub make_room-requires : goal.make_room-requires
make_room-requires c = unwrapped c.args.self.now.stack.top c.requires.top

pub returns-clause-steps : goal.returns-clause-steps
returns-clause-steps c =
    let p = c.args.code.now in
    let old = c.args.self.now in
    let who = asker_in p (marks_in old.marks) old.stack.shadow.principals (frames_of p old.stack.top old.stack.below) c.args.what in
    taken_as p old _ _ _ (wants_asks p (marks_in old.marks) (poorer (thread_of p old)) old.stack.top old.stack.below c.args.what c.requires.top refl)
    (asked_with_room p old _ c.make_room.new.self (request who c.args.what) (c.make_room.ensures.rest p) c.in_ok-make_room.ensures.room
    refl refl refl refl refl refl refl (ap (λ x. Some (request x c.args.what)) c.asker-who.ensures))

pub returns-clause-spares : goal.returns-clause-spares
returns-clause-spares c = omega (arith, paid_at_most c.args.what, c.requires.fuel)

pub returns-in_err-make_room-clause-stays : goal.returns-in_err-make_room-clause-stays
returns-in_err-make_room-clause-stays c =
    let p = c.args.code.now in
    let e = err_from_is_err_and c.from_residual.result c.from_residual.ensures.1 in
    rw e.1 (roomier_stays p c.args.self.now (record c.args.self.now { stack = c.make_room.new.self; room = c.in_err-make_room.self-1-own.given.0 }) c.requires.request refl refl refl refl refl refl refl (c.make_room.ensures.rest p))
