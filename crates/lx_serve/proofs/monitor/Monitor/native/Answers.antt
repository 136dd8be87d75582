-- Each native by its number.
use Rattle.std.proofs.Common.{◌≢◌, ap, arith}
use Rattle.lx_model.specs.Program.{Alloc, Free, ZeroBytes, TryLock, NoteValue, AliasPrincipal, native_call}
use Rattle.lx_serve.proofs.Tried.{alias_call, native_tried}
use Rattle.lx_serve.proofs.monitor.Monitor.native.Goals as goal

pub returns-in-0-clause-tries : goal.returns-in-0-clause-tries
returns-in-0-clause-tries g c = λ p s k.
    native_tried g.C.CapStore.stands p c.alloc.new.self s c.args.thread c.args.who c.args.native Alloc c.args.args.now c.alloc.result
    (ap native_call c.in-0.is) (c.alloc.ensures.tries p s c.args.thread c.args.who k)

pub returns-in-1-clause-tries : goal.returns-in-1-clause-tries
returns-in-1-clause-tries g c = λ p s k.
    native_tried g.C.CapStore.stands p c.free.new.self s c.args.thread c.args.who c.args.native Free c.args.args.now c.free.result
    (ap native_call c.in-1.is) (c.free.ensures.tries p s c.args.thread c.args.who k)

pub returns-in-2-clause-tries : goal.returns-in-2-clause-tries
returns-in-2-clause-tries g c = λ p s k.
    native_tried g.C.CapStore.stands p c.zero.new.self s c.args.thread c.args.who c.args.native ZeroBytes c.args.args.now c.zero.result
    (ap native_call c.in-2.is) (c.zero.ensures.tries p s c.args.thread c.args.who k)

pub returns-in-3-clause-tries : goal.returns-in-3-clause-tries
returns-in-3-clause-tries g c = λ p s k.
    native_tried g.C.CapStore.stands p c.try_lock.new.self s c.args.thread c.args.who c.args.native TryLock c.args.args.now c.try_lock.result
    (ap native_call c.in-3.is) (c.try_lock.ensures.tries p s c.args.thread c.args.who k)

pub returns-in-4-clause-tries : goal.returns-in-4-clause-tries
returns-in-4-clause-tries g c = λ p s k.
    native_tried g.C.CapStore.stands p c.note.new.self s c.args.thread c.args.who c.args.native NoteValue c.args.args.now c.note.result
    (ap native_call c.in-4.is) (c.note.ensures.tries p s c.args.who k)

pub returns-in_default-clause-tries : goal.returns-in_default-clause-tries
returns-in_default-clause-tries g c = λ p s k.
    let n0 : c.args.native ≢ 0 = omega arith in
    let n1 : c.args.native ≢ 1 = omega arith in
    let n2 : c.args.native ≢ 2 = omega arith in
    let n3 : c.args.native ≢ 3 = omega arith in
    let n4 : c.args.native ≢ 4 = omega arith in
    native_tried g.C.CapStore.stands p c.alias.new.self s c.args.thread c.args.who c.args.native AliasPrincipal c.args.args.now c.alias.result
    (alias_call c.args.native n0 n1 n2 n3 n4) (c.alias.ensures.tries p s c.args.thread k)
