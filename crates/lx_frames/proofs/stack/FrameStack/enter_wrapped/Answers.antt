use Rattle.std.proofs.Common.{Option, sym, ap, ◌∙◌, subst}
use Rattle.lx_images.specs.Image.{behind_line}
use Rattle.lx_frames.specs.declared.frame.Frame.{Frame as KeptFrame}
use Rattle.lx_frames.specs.Frames.{Stack, frames_of}
use Rattle.lx_frames.specs.Stack.{CanGoOn}
use Rattle.lx_frames.proofs.Entering.{goes_on_same}
use Rattle.lx_frames.proofs.stack.FrameStack.enter_wrapped.Goals as goal

pub returns : goal.returns
returns c = λ able room.
    let p = c.args.code.now in
    let t = c.args.thread in
    let old = c.args.self.now in
    let a = c.cross.ensures in
    let mid = c.cross.new.self in
    let ready = subst (CanGoOn p mid) (sym a.top) (goes_on_same p old mid old.top a.below a.registers able) in
    record {
      frames =
          c.end_line.ensures.frames ready
          ∙ ap (λ (o : Option KeptFrame). behind_line p t (frames_of p o mid.below)) a.top
          ∙ ap (λ (s : Stack). behind_line p t (frames_of p old.top s)) a.below;
      principals = ap (λ s. s.principals) c.end_line.ensures.shadow ∙ a.principals room;
    }
