use Rattle.std.proofs.lemmas.Result.{err_from_is_err_and}
use Rattle.std.proofs.Common.{◌≡◌, length, get_or, Some, refl, ap, sym, ◌∙◌, subst, arith}
use Rattle.lx_caps.specs.declared.Principal.TheVariants.{Kernel}
use Rattle.lx_model.specs.declared.request.Way.TheVariants.{Script}
use Rattle.lx_model.specs.declared.request.What.TheVariants as what
use Rattle.lx_model.specs.Next.{request}
use Rattle.lx_frames.specs.Frames.{IsUnwrapped}
use Rattle.lx_frames.specs.Stack.{HasRoomFor}
use Rattle.lx_interp.specs.Runner.{calls_left, thread_of}
use Rattle.lx_interp.proofs.Calls.{paid_at_most, some_left}
use Rattle.lx_interp.proofs.Lacking.{start_lacks}
use Rattle.lx_interp.proofs.Takings.{taken_as, start_unpaid, start_paid, first_at, asked_with_room, roomier_stays}
use Rattle.lx_interp.proofs.runner.Runner.start.Goals as goal

pub returns-then-self-eq0-clause-steps : goal.returns-then-self-eq0-clause-steps
returns-then-self-eq0-clause-steps c =
    let p = c.args.code.now in
    let old = c.args.self.now in
    taken_as p old c.stop.new.self _ _ (start_unpaid (calls_left old) (thread_of p old) c.if-self-eq0.true) (c.stop.ensures.stops p)

pub make_room-requires : goal.make_room-requires
make_room-requires c = subst IsUnwrapped (sym c.requires.top) tt

pub returns-clause-steps : goal.returns-clause-steps
returns-clause-steps c =
    let p = c.args.code.now in
    let old = c.args.self.now in
    let mid = c.make_room.new.self in
    let call = c.index-as_slice-place.result in
    let place : c.len-place.result ≡ length old.endings.items = omega (arith, c.len-place.ensures, old.endings.ok.0) in
    let is = c.index-as_slice-place.is ∙ ap (λ xs. get_or xs c.len-place.result call) c.as_slice.ensures ∙ ap (λ k. get_or old.calls k call) place in
    taken_as p old _ _ _
    (start_paid (calls_left old) call (thread_of p old) c.requires.work
    (first_at (length old.endings.items) old.calls call (some_left (length old.endings.items) old.calls c.requires.work) is) (omega (arith, c.if-self-eq0.false)))
    (asked_with_room p old _ mid (request Kernel (what.Enter (Script call.function) call.args)) (c.make_room.ensures.rest p)
    (subst (HasRoomFor p mid) c.in_ok-what.ensures c.in_ok-make_room.ensures.room)
    refl refl refl refl refl refl refl (ap (λ w. Some (request Kernel w)) c.in_ok-what.ensures))

pub returns-clause-spares : goal.returns-clause-spares
returns-clause-spares c = omega (arith, paid_at_most c.in_ok-what.what, c.if-self-eq0.false)

pub returns-in_err-make_room-clause-stays : goal.returns-in_err-make_room-clause-stays
returns-in_err-make_room-clause-stays c =
    let p = c.args.code.now in
    let e = err_from_is_err_and c.from_residual-in_err-make_room.result c.from_residual-in_err-make_room.ensures.1 in
    rw e.1 (roomier_stays p c.args.self.now (record c.args.self.now { stack = c.make_room.new.self; room = c.in_err-make_room.self-1-own.given.0 }) c.requires.request refl refl refl refl refl refl refl (c.make_room.ensures.rest p))

pub returns-in_err-make_room-clause-lacks : goal.returns-in_err-make_room-clause-lacks
returns-in_err-make_room-clause-lacks c =
    let p = c.args.code.now in
    let old = c.args.self.now in
    let e = err_from_is_err_and c.from_residual-in_err-make_room.result c.from_residual-in_err-make_room.ensures.1 in
    rw e.1 (start_lacks p old.fuel old.stack.top c.make_room.new.self.top old.stack.below c.make_room.new.self.below (omega (arith, c.if-self-eq0.false)) c.requires.top (c.make_room.ensures.rest p).frames)
