use Rattle.std.proofs.Common.{◌≡◌, Bool, false, List, length, sym, ap, subst, arith}
use Rattle.lx_words.specs.Word.{Word}
use Rattle.lx_images.specs.Image.{entered_frames, shadow_with}
use Rattle.lx_frames.specs.Frames.{frames_of}
use Rattle.lx_frames.specs.Stack.{CanEnter, Shows}
use Rattle.lx_frames.proofs.Entering.{crosses_into, fits_in}
use Rattle.lx_frames.proofs.stack.FrameStack.enter.Goals as goal

pub returns-then-entry : goal.returns-then-entry
returns-then-entry c = λ enter room.
    let p = c.args.code.now in
    let t = c.args.thread in
    let old = c.args.self.now in
    let e = c.args.entry in
    let a = c.cross.ensures in
    let b = c.push_in_place.ensures in
    subst (λ (x : Bool). Shows p c.arrive.new.self (entered_frames p t x e.function c.args.args (frames_of p old.top old.below)) (shadow_with x e.principal old.shadow.principals)) (sym c.if-entry.true)
    (crosses_into p t old c.cross.new.self c.push_in_place.new.self c.arrive.new.self e.function c.args.args c.entered_wrapper.result e.principal enter c.entered_wrapper.ensures (a.principals room) a.top a.below a.registers
    (b.frames p) b.top b.takes b.registers b.shadow c.arrive.ensures.frames c.arrive.ensures.shadow)

pub returns-else-entry : goal.returns-else-entry
returns-else-entry c = λ enter room.
    let p = c.args.code.now in
    let t = c.args.thread in
    let old = c.args.self.now in
    let e = c.args.entry in
    let new = c.enter_function.new.self in
    let able = subst (λ (xs : List Word). CanEnter p old (length xs) 1) (sym c.as_slice.ensures) (fits_in p old (length c.args.args) 2 1 (omega arith) enter) in
    let frames = subst (λ (xs : List Word). frames_of p new.top new.below ≡ entered_frames p t false e.function xs (frames_of p old.top old.below)) c.as_slice.ensures (c.enter_function.ensures.frames able) in
    subst (λ (x : Bool). Shows p new (entered_frames p t x e.function c.args.args (frames_of p old.top old.below)) (shadow_with x e.principal old.shadow.principals)) (sym c.if-entry.false)
    (record { frames = frames; principals = ap (λ s. s.principals) c.enter_function.ensures.shadow })
