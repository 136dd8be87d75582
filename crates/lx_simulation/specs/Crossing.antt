-- What wrappers do. Over accepted images a wrapper does the actions of its function's annotation, in order; over any code it does no
-- action that it has no line for.
use Rattle.std.specs.Prelude.{◌≡◌, ℕ, suc, Bool, true, false, not, Option, Some, None, List, [], ◌∷◌, nat_eq}
use Rattle.std.specs.List.{list_all}
use Rattle.lx_words.specs.Word.{Word}
use Rattle.lx_caps.specs.declared.Principal.{Principal}
use Rattle.lx_ir.specs.declared.instr.Op.{Op}
use Rattle.lx_ir.specs.declared.instr.Op.TheVariants as op
use Rattle.lx_annot.specs.Action.{Action}
use Rattle.lx_annot.specs.declared.expr.Env.{Env}
use Rattle.lx_model.specs.declared.program.ScriptCall.{ScriptCall}
use Rattle.lx_model.specs.declared.request.Entry.{Entry}
use Rattle.lx_model.specs.declared.request.Way.TheVariants.{Direct}
use Rattle.lx_model.specs.declared.request.What.{What}
use Rattle.lx_model.specs.declared.request.What.TheVariants as what
use Rattle.lx_model.specs.declared.request.Request.{Request}
use Rattle.lx_model.specs.declared.request.Reply.TheVariants.{Done}
use Rattle.lx_model.specs.Program.{Home, home_or_kernel, annotation_or_none}
use Rattle.lx_model.specs.Thread.{Activation, start_of}
use Rattle.lx_model.specs.Effect.{text_of}
use Rattle.lx_model.specs.Next.{request}
use Rattle.lx_images.specs.Image.{Code, ImageFrame, Runs, Wraps, ImageThread, Goes, Asks, top, tail, below_top, stack_top, image_routine, wrapped_import, wrapper_args, has_room, with_shadow, after_leaving, entered_frames, behind_line, image_step, image_absorb}
use Rattle.lx_images.specs.ImageWorld.{image_opening, image_run}
use Rattle.lx_images.specs.Wrappers.{called_lines, in_lines}
use Rattle.lx_images.specs.Guarded.{Accepted}
use Rattle.lx_images.specs.Places.{IsIn}

-- in order

-- the thread with this fuel and these frames, where nothing is due
abbrev pub ready : ImageThread → ℕ → List ImageFrame → ImageThread
ready v fuel is = record v { fuel = fuel; due = None; frames = is }

-- the request for an action of a function, from one principal to another
abbrev pub action_request : ℕ → Bool → ℕ → List Word → Option Word → Principal → Principal → Request
action_request n post k args y source dest = request source (what.Perform n post k (record { args = args; ret = y }) source dest)

-- with these frames, whose top one is a wrapper whose call gave `y`, these actions are done, the first of which has this number: each is
-- asked for from the callee to the caller, and the next one stands behind its reply. Behind the last one the wrapper is left with `y`, and
-- the callee's principal with it
abbrev pub ActsBehind : Code → ℕ → ℕ → List Word → Option Word → List ImageFrame → ℕ → List Action → List ImageFrame → Type 0
ActsBehind c t n args y fs k [] is =
    (v : ImageThread) (fuel : ℕ) → image_step c (ready v fuel is) ≡ Goes (after_leaving y fs (with_shadow (tail v.shadow) (ready v fuel is)))
ActsBehind c t n args y fs k (a ∷ actions) is =
    (v : ImageThread) (fuel : ℕ)
    → (image_step c (ready v (suc fuel) is) ≡ Asks (ready v fuel is) (action_request n true k args y (top v.shadow) (below_top v.shadow)))
    × ActsBehind c t n args y fs (suc k) actions (image_absorb c t (ready v fuel is) (action_request n true k args y (top v.shadow) (below_top v.shadow)) Done).frames

-- the function starts with these arguments above its wrapper. Where it is left with a value, the actions behind its body are done
abbrev pub StartsBody : Code → ℕ → ℕ → List Word → List ImageFrame → List ImageFrame → Type 0
StartsBody c t n args fs is =
    (lines : List Op) × (x : Option Word) × (is ≡ Runs (start_of n (image_routine c n) args (stack_top t fs)) ∷ Wraps n args lines x ∷ fs)
    × ((y : Option Word) (v : ImageThread) → ActsBehind c t n args y fs 0 (annotation_or_none c.program n).post (after_leaving y (Wraps n args lines x ∷ fs) v).frames)

-- with these frames these actions are done, the first of which has this number, each from the caller to the callee, and then the body
-- starts
abbrev pub ActsBefore : Code → ℕ → ℕ → List Word → List ImageFrame → ℕ → List Action → List ImageFrame → Type 0
ActsBefore c t n args fs k [] is = StartsBody c t n args fs is
ActsBefore c t n args fs k (a ∷ actions) is =
    (v : ImageThread) (fuel : ℕ)
    → (image_step c (ready v (suc fuel) is) ≡ Asks (ready v fuel is) (action_request n false k args None (below_top v.shadow) (top v.shadow)))
    × ActsBefore c t n args fs (suc k) actions (image_absorb c t (ready v fuel is) (action_request n false k args None (below_top v.shadow) (top v.shadow)) Done).frames

-- all that a wrapper does which has been entered: the actions of its function's annotation before the body, the body, and those behind it
abbrev pub Crosses : Code → ℕ → ℕ → List Word → List ImageFrame → List ImageFrame → Type 0
Crosses c t n args fs is = ActsBefore c t n args fs 0 (annotation_or_none c.program n).pre is

-- no line, no action

-- the line is the action with this number, behind the body or before it
abbrev pub is_action : Bool → ℕ → Op → Bool
is_action false k (op.Pre s j) = nat_eq j k
is_action true k (op.Post s j) = nat_eq j k
is_action post k o = false

-- none of these lines is
abbrev pub lacks : Bool → ℕ → List Op → Bool
lacks post k lines = list_all (λ o. not (is_action post k o)) lines

-- no wrapper of the function with this number has a line for this action: none that is called, and not the one by which it is entered
pub record LacksLine (c : Code) (n : ℕ) (post : Bool) (k : ℕ) : Type 0 where
  pub called : (h : Home) (o : Op) → wrapped_import c h o ≡ Some n → lacks post k (called_lines c h o) ≡ true
  pub entered : lacks post k (in_lines c n) ≡ true

-- the request is not for this action
abbrev pub NotFor : ℕ → Bool → ℕ → What → Type 0
NotFor n post k w = (env : Env) (source dest : Principal) → w ≡ what.Perform n post k env source dest → ⊥

pub record CrossingLaws : Type 0 where
  -- where a module of accepted images calls a wrapper, the enter of its function is asked for first
  pub enters : (c : Code) → Accepted c → (v : ImageThread) (fuel : ℕ) (a : Activation) (o : Op) (os : List Op) (n : ℕ) (fs : List ImageFrame) → a.code ≡ o ∷ os → wrapped_import c (text_of c.program a) o ≡ Some n → has_room (Runs a ∷ fs) ≡ true → image_step c (ready v (suc fuel) (Runs a ∷ fs)) ≡ Asks (ready v fuel (Wraps n (wrapper_args c a o) (called_lines c (text_of c.program a) o) None ∷ Runs a ∷ fs)) (request (top v.shadow) (what.Enter (Direct n) (wrapper_args c a o)))
  -- a function of accepted images that is entered from elsewhere crosses as its annotation says
  pub entered : (c : Code) → Accepted c → (t n : ℕ) (args : List Word) (fs : List ImageFrame) → Crosses c t n args fs (entered_frames c t true n args fs)
  -- so does one whose wrapper a module called, behind its enter
  pub called : (c : Code) → Accepted c → (t k : ℕ) (o : Op) (n : ℕ) → wrapped_import c (home_or_kernel c.program k) o ≡ Some n → (args : List Word) (fs : List ImageFrame) → Crosses c t n args fs (behind_line c t (Wraps n args (called_lines c (home_or_kernel c.program k) o) None ∷ fs))
  -- whatever the code, an action that the wrappers of its function have no line for is never asked for
  pub skipped : (c : Code) (n : ℕ) (post : Bool) (k : ℕ) → LacksLine c n post k → (script : List (List ScriptCall)) (schedule : List ℕ) (e : Entry) → IsIn e (image_run c schedule (image_opening c script)).state.journal → NotFor n post k e.request.what
