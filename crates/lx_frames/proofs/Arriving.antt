-- The lines of wrappers, and what comes to one.
use Rattle.std.proofs.Common.{◌≡◌, ℕ, zero, suc, ◌+◌, ◌<◌, true, false, Option, Some, None, List, [], ◌∷◌, drop, refl, ap, ◌∙◌, arith}
use Rattle.lx_ir.specs.declared.instr.Op.{Op}
use Rattle.lx_ir.specs.declared.instr.Op.TheVariants as op
use Rattle.lx_model.specs.Thread.{behind_head}
use Rattle.lx_images.specs.Image.{Code, ImageFrame, Runs, Wraps}
use Rattle.lx_frames.specs.declared.frame.Frame.{Frame as KeptFrame}
use Rattle.lx_frames.specs.declared.frame.Frame.TheVariants as kept
use Rattle.lx_frames.specs.declared.stack.FrameStack.{FrameStack}
use Rattle.lx_frames.specs.Frames.{CountsOn, IsWrapper, Stack, frames_of, is_call_if, line_on}
use Rattle.lx_frames.specs.Stack.{CanGoOn, arrived, body_behind}

-- one line more is left out

drop_next : (os : List Op) (k : ℕ) → drop (suc k) os ≡ behind_head (drop k os)
drop_next [] zero = refl
drop_next [] (suc k) = refl
drop_next (o ∷ os) zero = refl
drop_next (o ∷ os) (suc k) = drop_next os k

pub line_more : (os : List Op) (k : ℕ) → drop (k + 1) os ≡ behind_head (drop k os)
line_more os k =
    let e : k + 1 ≡ suc k = omega arith in
    ap (λ n. drop n os) e ∙ drop_next os k

-- a call goes into the body, and before any other line a wrapper stays

pub at_call : (c : Code) (t : ℕ) (fs : List ImageFrame) → true ≡ is_call_if (line_on fs) → arrived c t fs ≡ body_behind c t fs
at_call c t [] e = refl
at_call c t (Runs a ∷ fs) e = refl
at_call c t (Wraps n args [] x ∷ fs) e = absurd (cc)
at_call c t (Wraps n args (op.Call to ret callee as' ∷ lines) x ∷ fs) e = refl
at_call c t (Wraps n args (o ∷ lines) x ∷ fs) e = absurd (cc)

pub at_other : (c : Code) (t : ℕ) (fs : List ImageFrame) → false ≡ is_call_if (line_on fs) → arrived c t fs ≡ fs
at_other c t [] e = refl
at_other c t (Runs a ∷ fs) e = refl
at_other c t (Wraps n args [] x ∷ fs) e = refl
at_other c t (Wraps n args (op.Call to ret callee as' ∷ lines) x ∷ fs) e = absurd (cc)
at_other c t (Wraps n args (o ∷ lines) x ∷ fs) e = refl

-- a wrapper stands at its call
pub wraps_there : (c : Code) (top : Option KeptFrame) (below : Stack) → true ≡ is_call_if (line_on (frames_of c top below)) → IsWrapper top
wraps_there c None below e = absurd (cc)
wraps_there c (Some (kept.Runs run)) below e = absurd (cc)
wraps_there c (Some (kept.Wraps n args wrapper at x)) below e = tt

-- who can go on counts the line that it is at
counts_less : (n : ℕ) → n + 1 < 18446744073709551615 → n < 18446744073709551615
counts_less n h = omega (arith, h)

pub counts_here : (c : Code) (s : FrameStack) (top : Option KeptFrame) → CanGoOn c s top → CountsOn top
counts_here c s None h = tt
counts_here c s (Some (kept.Runs run)) h = tt
counts_here c s (Some (kept.Wraps n args wrapper at x)) h = counts_less at h.1
