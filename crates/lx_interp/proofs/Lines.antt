-- What stands on top, and the step that it takes.
use Rattle.std.proofs.Common.{◌≡◌, ℕ, zero, suc, ◌-◌, ◌<◌, Bool, true, false, Option, Some, None, IsSome, List, [], ◌∷◌, drop, map, refl, sym, ap, ◌∙◌, subst, arith}
use Rattle.std.proofs.lemmas.Option.{same_Some}
use Rattle.lx_words.specs.Word.{Word}
use Rattle.lx_ir.specs.declared.instr.Op.{Op}
use Rattle.lx_ir.specs.declared.instr.Op.TheVariants as op
use Rattle.lx_model.specs.declared.request.Outcome.TheVariants.{Budget, Trapped}
use Rattle.lx_model.specs.declared.request.Trap.TheVariants.{Unreachable}
use Rattle.lx_model.specs.Thread.{Activation, behind_head}
use Rattle.lx_model.specs.Effect.{text_of}
use Rattle.lx_model.specs.Next.{has_action}
use Rattle.lx_images.specs.Image.{Code, ImageFrame, Runs, ImageThread, ImageStep, Goes, Marks, after_leaving, comes_to, costly_step, effect_step, frame_step, if_paid, leaving_line, start_step, tail, with_shadow, wrapped_import, wrapper_call, wrapper_line}
use Rattle.lx_images.specs.Wrappers.{called_lines}
use Rattle.lx_image_code.specs.declared.line.Line.{Line}
use Rattle.lx_image_code.specs.declared.line.Line.TheVariants as line
use Rattle.lx_image_code.specs.Wrappers.{first_op, line_of, wrapper_lines}
use Rattle.lx_image_steps.specs.Marks.{plain_step}
use Rattle.lx_image_steps.specs.Next.{IsNext, IsStep}
use Rattle.lx_image_steps.specs.declared.activation.Activation.{Activation as Running}
use Rattle.lx_image_steps.specs.declared.next.Step.{Step}
use Rattle.lx_image_steps.specs.declared.next.Step.TheVariants as step
use Rattle.lx_image_steps.specs.Standing.{head_of, run_of}
use Rattle.lx_frames.specs.declared.frame.Frame.{Frame as KeptFrame}
use Rattle.lx_frames.specs.declared.frame.Frame.TheVariants as kept
use Rattle.lx_frames.specs.Frames.{IsUnwrapped, Stack, args_on, frame_of, frames_of, function_on, line_behind_on, line_on, marked_frame_step, running_on, value_on}
use Rattle.lx_interp.specs.Runner.{action_on, asked_by, costly_or_none, is_ret, instruction_in, marks_in, next_in, poorer}

-- a step that costs a unit
pub paid_step : (v : ImageThread) (go : ImageThread → ImageStep) → 0 < v.fuel → if_paid v go ≡ go (poorer v)
paid_step v go h =
    let e : v.fuel ≡ suc (v.fuel - 1) = omega (arith, h) in
    ap (λ (k : ℕ). elim k [ zero ↦ comes_to Budget v | suc n ↦ go (record v { fuel = n }) ]) e

pub unpaid_step : (v : ImageThread) (go : ImageThread → ImageStep) → v.fuel ≡ 0 → if_paid v go ≡ comes_to Budget v
unpaid_step v go e = ap (λ (k : ℕ). elim k [ zero ↦ comes_to Budget v | suc n ↦ go (record v { fuel = n }) ]) e

-- a function on top

pub unwrapped : (top : Option KeptFrame) → IsSome (running_on top) → IsUnwrapped top
unwrapped None h = absurd (cc)
unwrapped (Some (kept.Runs run)) h = tt
unwrapped (Some (kept.Wraps n args wrapper at x)) h = absurd (cc)

plain_paid : (c : Code) (v : ImageThread) (fs : List ImageFrame) (m : Marks) (a : Activation) (o : Option Op) → plain_step c v fs m a o ≡ if_paid v (λ w. costly_or_none c m w a fs o)
plain_paid c v fs m a None = refl
plain_paid c v fs m a (Some o) = refl

pub runs_marked : (c : Code) (m : Option Marks) (v : ImageThread) (top : Option KeptFrame) (below : Stack) → IsSome m → IsSome (running_on top) →
    marked_frame_step c m v (frames_of c top below) ≡ if_paid v (λ w. instruction_in c (marks_in m) w (frames_of c top below))
runs_marked c None v top below h r = absurd (cc)
runs_marked c (Some m) v None below h r = absurd (cc)
runs_marked c (Some m) v (Some (kept.Runs run)) below h r = plain_paid c v (map (frame_of c) below.frames) m (run_of c run) (head_of (run_of c run).code)
runs_marked c (Some m) v (Some (kept.Wraps n args wrapper at x)) below h r = absurd (cc)

-- what is found of its next instruction

step_by : (c : Code) (m : Marks) (v : ImageThread) (a : Activation) (fs : List ImageFrame) (o : Op) (s : Step) → IsStep c a o s → costly_step c m a fs o (wrapped_import c (text_of c.program a) o) v ≡ next_in c m v (Runs a ∷ fs) (Some s)
step_by c m v a fs o (step.Crosses n args wrapper) e =
    ap (λ k. costly_step c m a fs o k v) e.0
    ∙ ap (λ xs. wrapper_call v a fs n xs (called_lines c (text_of c.program a) o)) (sym e.1)
    ∙ ap (wrapper_call v a fs n args) (sym e.2)
step_by c m v a fs o (step.Does f) e = ap (λ k. costly_step c m a fs o k v) e.0 ∙ ap (effect_step c v m a fs) (sym e.1)

next_by : (c : Code) (m : Marks) (v : ImageThread) (a : Activation) (fs : List ImageFrame) (o : Option Op) (s : Option Step) → IsNext c a o s → costly_or_none c m v a fs o ≡ next_in c m v (Runs a ∷ fs) s
next_by c m v a fs o None e = ap (costly_or_none c m v a fs) e
next_by c m v a fs o (Some s) e = ap (costly_or_none c m v a fs) e.1 ∙ step_by c m v a fs e.0 s e.2

pub next_found : (c : Code) (m : Marks) (v : ImageThread) (top : Option KeptFrame) (below : Stack) (run : Running) (s : Option Step) → Some run ≡ running_on top → IsNext c (run_of c run) (head_of (run_of c run).code) s →
    instruction_in c m v (frames_of c top below) ≡ next_in c m v (frames_of c top below) s
next_found c m v None below run s e is = absurd (cc)
next_found c m v (Some (kept.Runs r)) below run s e is =
    let same : run ≡ r = cc in
    next_by c m v (run_of c r) (map (frame_of c) below.frames) (head_of (run_of c r).code) s (subst (λ (x : Running). IsNext c (run_of c x) (head_of (run_of c x).code) s) same is)
next_found c m v (Some (kept.Wraps n args wrapper at x)) below run s e is = absurd (cc)

pub nothing_found : (c : Code) (m : Marks) (v : ImageThread) (top : Option KeptFrame) (below : Stack) → None ≡ running_on top → instruction_in c m v (frames_of c top below) ≡ next_in c m v (frames_of c top below) None
nothing_found c m v None below e = refl
nothing_found c m v (Some (kept.Runs r)) below e = absurd (cc)
nothing_found c m v (Some (kept.Wraps n args wrapper at x)) below e = refl

-- nothing on top

starts_at : (c : Code) (m : Option Marks) (v : ImageThread) → marked_frame_step c m v [] ≡ start_step v.calls v
starts_at c None v = refl
starts_at c (Some m) v = refl

pub starts : (c : Code) (m : Option Marks) (v : ImageThread) (top : Option KeptFrame) (below : Stack) → top ≡ None → marked_frame_step c m v (frames_of c top below) ≡ start_step v.calls v
starts c m v top below e = ap (λ (o : Option KeptFrame). marked_frame_step c m v (frames_of c o below)) e ∙ starts_at c m v

-- no wrapper runs where there is no line
pub nothing_there : (c : Code) (top : Option KeptFrame) (below : Stack) → line_on (frames_of c top below) ≡ None → running_on top ≡ None → top ≡ None
nothing_there c None below e r = refl
nothing_there c (Some (kept.Runs run)) below e r = absurd (cc)
nothing_there c (Some (kept.Wraps n args wrapper at x)) below e r = absurd (cc)

-- a wrapper on top

-- it stands behind no marks
pub wrapper_marked : (c : Code) (m : Option Marks) (v : ImageThread) (top : Option KeptFrame) (below : Stack) (l : Line) → line_on (frames_of c top below) ≡ Some l → marked_frame_step c m v (frames_of c top below) ≡ frame_step c v (frames_of c top below)
wrapper_marked c None v top below l e = refl
wrapper_marked c (Some m) v None below l e = absurd (cc)
wrapper_marked c (Some m) v (Some (kept.Runs run)) below l e = absurd (cc)
wrapper_marked c (Some m) v (Some (kept.Wraps n args wrapper at x)) below l e = refl

-- the number behind a line
numbered : ℕ → Line → ℕ
numbered d (line.Pre k) = k
numbered d (line.Post k) = k
numbered d l = d

-- a line that asks for an action
acts_at : (c : Code) (v : ImageThread) (n : ℕ) (args : List Word) (x : Option Word) (fs : List ImageFrame) (lines : List Op) (post : Bool) (k : ℕ) → line_of (first_op lines) ≡ asked_by post k →
    wrapper_line c v n args x fs lines ≡ action_on (has_action c.program n post k) v n args post k x
unfolding numbered
acts_at c v n args x fs [] true k e = absurd (cc)
acts_at c v n args x fs [] false k e = absurd (cc)
acts_at c v n args x fs (op.Post s j ∷ lines) true k e = ap (λ i. action_on (has_action c.program n true i) v n args true i x) (ap (numbered 0) e)
acts_at c v n args x fs (op.Pre s j ∷ lines) false k e = ap (λ i. action_on (has_action c.program n false i) v n args false i x) (ap (numbered 0) e)
acts_at c v n args x fs (o ∷ lines) true k e = absurd (cc)
acts_at c v n args x fs (o ∷ lines) false k e = absurd (cc)

pub acts : (c : Code) (v : ImageThread) (top : Option KeptFrame) (below : Stack) (post : Bool) (k : ℕ) → line_on (frames_of c top below) ≡ Some (asked_by post k) →
    frame_step c v (frames_of c top below) ≡ action_on (has_action c.program (function_on top) post k) v (function_on top) (args_on top) post k (value_on top)
acts c v None below post k e = absurd (cc)
acts c v (Some (kept.Runs run)) below post k e = absurd (cc)
acts c v (Some (kept.Wraps n args wrapper at x)) below post k e =
    acts_at c v n args x (map (frame_of c) below.frames) (drop at (wrapper_lines c wrapper)) post k (same_Some _ _ e)

-- an action that the function has not
pub no_action : (v : ImageThread) (n : ℕ) (args : List Word) (post : Bool) (k : ℕ) (x : Option Word) → action_on false v n args post k x ≡ comes_to (Trapped Unreachable) v
no_action v n args true k x = refl
no_action v n args false k x = refl

-- the `ret`
returns_at : (c : Code) (v : ImageThread) (n : ℕ) (args : List Word) (x : Option Word) (fs : List ImageFrame) (lines : List Op) → line_of (first_op lines) ≡ line.Ret →
    wrapper_line c v n args x fs lines ≡ Goes (after_leaving x fs v)
returns_at c v n args x fs [] e = absurd (cc)
returns_at c v n args x fs (op.Ret r ∷ lines) e = refl
returns_at c v n args x fs (o ∷ lines) e = absurd (cc)

pub returns_by : (c : Code) (v : ImageThread) (top : Option KeptFrame) (below : Stack) → line_on (frames_of c top below) ≡ Some line.Ret →
    frame_step c v (frames_of c top below) ≡ Goes (after_leaving (value_on top) (map (frame_of c) below.frames) v)
returns_by c v None below e = absurd (cc)
returns_by c v (Some (kept.Runs run)) below e = absurd (cc)
returns_by c v (Some (kept.Wraps n args wrapper at x)) below e =
    returns_at c v n args x (map (frame_of c) below.frames) (drop at (wrapper_lines c wrapper)) (same_Some _ _ e)

-- the line that leaves, with the `ret` behind it or not
leaving_by : (v : ImageThread) (x : Option Word) (fs : List ImageFrame) (lines : List Op) → is_ret (Some (line_of (first_op lines))) ≡ true → leaving_line v x fs lines ≡ Goes (after_leaving x fs v)
leaving_by v x fs [] e = absurd (cc)
leaving_by v x fs (op.Ret r ∷ lines) e = refl
leaving_by v x fs (o ∷ lines) e = absurd (cc)

leaving_lost : (v : ImageThread) (x : Option Word) (fs : List ImageFrame) (lines : List Op) → is_ret (Some (line_of (first_op lines))) ≡ false → leaving_line v x fs lines ≡ comes_to (Trapped Unreachable) v
leaving_lost v x fs [] e = refl
leaving_lost v x fs (op.Ret r ∷ lines) e = absurd (cc)
leaving_lost v x fs (o ∷ lines) e = refl

leaves_at : (c : Code) (v : ImageThread) (n : ℕ) (args : List Word) (x : Option Word) (fs : List ImageFrame) (lines : List Op) → line_of (first_op lines) ≡ line.Leave →
    wrapper_line c v n args x fs lines ≡ leaving_line (with_shadow (tail v.shadow) v) x fs (behind_head lines)
leaves_at c v n args x fs [] e = absurd (cc)
leaves_at c v n args x fs (op.Leave s ∷ lines) e = refl
leaves_at c v n args x fs (o ∷ lines) e = absurd (cc)

pub leaves_by : (c : Code) (v : ImageThread) (top : Option KeptFrame) (below : Stack) → line_on (frames_of c top below) ≡ Some line.Leave → is_ret (line_behind_on (frames_of c top below)) ≡ true →
    frame_step c v (frames_of c top below) ≡ Goes (after_leaving (value_on top) (map (frame_of c) below.frames) (with_shadow (tail v.shadow) v))
leaves_by c v None below e r = absurd (cc)
leaves_by c v (Some (kept.Runs run)) below e r = absurd (cc)
leaves_by c v (Some (kept.Wraps n args wrapper at x)) below e r =
    leaves_at c v n args x (map (frame_of c) below.frames) (drop at (wrapper_lines c wrapper)) (same_Some _ _ e)
    ∙ leaving_by (with_shadow (tail v.shadow) v) x (map (frame_of c) below.frames) (behind_head (drop at (wrapper_lines c wrapper))) r

pub leaves_lost : (c : Code) (v : ImageThread) (top : Option KeptFrame) (below : Stack) → line_on (frames_of c top below) ≡ Some line.Leave → is_ret (line_behind_on (frames_of c top below)) ≡ false →
    frame_step c v (frames_of c top below) ≡ comes_to (Trapped Unreachable) v
leaves_lost c v None below e r = absurd (cc)
leaves_lost c v (Some (kept.Runs run)) below e r = absurd (cc)
leaves_lost c v (Some (kept.Wraps n args wrapper at x)) below e r =
    leaves_at c v n args x (map (frame_of c) below.frames) (drop at (wrapper_lines c wrapper)) (same_Some _ _ e)
    ∙ leaving_lost (with_shadow (tail v.shadow) v) x (map (frame_of c) below.frames) (behind_head (drop at (wrapper_lines c wrapper))) r

-- any other line

-- it asks nothing and leaves nothing
abbrev pub is_idle : Line → Bool
is_idle line.Enter = true
is_idle line.Call = true
is_idle line.Other = true
is_idle l = false

idles_at : (c : Code) (v : ImageThread) (n : ℕ) (args : List Word) (x : Option Word) (fs : List ImageFrame) (lines : List Op) → is_idle (line_of (first_op lines)) ≡ true → wrapper_line c v n args x fs lines ≡ comes_to (Trapped Unreachable) v
idles_at c v n args x fs [] e = refl
idles_at c v n args x fs (op.Pre s k ∷ lines) e = absurd (cc)
idles_at c v n args x fs (op.Post s k ∷ lines) e = absurd (cc)
idles_at c v n args x fs (op.Leave s ∷ lines) e = absurd (cc)
idles_at c v n args x fs (op.Ret r ∷ lines) e = absurd (cc)
idles_at c v n args x fs (o ∷ lines) e = refl

pub idles : (c : Code) (v : ImageThread) (top : Option KeptFrame) (below : Stack) (l : Line) → line_on (frames_of c top below) ≡ Some l → is_idle l ≡ true → frame_step c v (frames_of c top below) ≡ comes_to (Trapped Unreachable) v
idles c v None below l e i = absurd (cc)
idles c v (Some (kept.Runs run)) below l e i = absurd (cc)
idles c v (Some (kept.Wraps n args wrapper at x)) below l e i =
    idles_at c v n args x (map (frame_of c) below.frames) (drop at (wrapper_lines c wrapper)) (ap is_idle (same_Some _ _ e) ∙ i)
