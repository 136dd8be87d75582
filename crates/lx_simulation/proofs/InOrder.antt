-- The wrappers of accepted images do the actions of their annotations, in order.
use Rattle.std.proofs.Common.{◌≡◌, ℕ, suc, Bool, true, false, List, [], ◌∷◌, drop, Option, Some, None, refl, sym, subst, ◌∙◌, ap}
use Rattle.lx_words.specs.Word.{Word}
use Rattle.lx_words.proofs.Options.{none_some}
use Rattle.lx_caps.specs.declared.Principal.{Principal}
use Rattle.lx_annot.specs.Action.{Action}
use Rattle.lx_ir.specs.declared.instr.Op.{Op}
use Rattle.lx_ir.specs.declared.instr.Op.TheVariants as op
use Rattle.lx_model.specs.Program.{home_or_kernel, annotation_or_none}
use Rattle.lx_model.specs.declared.request.Way.TheVariants.{Direct}
use Rattle.lx_model.specs.declared.request.What.TheVariants as what
use Rattle.lx_model.specs.Thread.{Activation, behind_head}
use Rattle.lx_model.specs.Effect.{text_of}
use Rattle.lx_model.specs.Next.{request, has_action}
use Rattle.lx_images.specs.Guarded.{Accepted}
use Rattle.lx_images.specs.Image.{Code, ImageFrame, Runs, Wraps, ImageThread, ImageStep, Asks, Marks, no_marks, top, below_top, wrapped_import, wrapper_args, has_room, if_room, first_line, costly_step, one_step, instruction_step, image_step, action_line, at_lines, entered_frames, behind_line}
use Rattle.lx_images.specs.Wrappers.{called_lines, in_lines}
use Rattle.lx_images.specs.WrapperLines.{Wording, from_post, from_pre, IsWrapperOf}
use Rattle.lx_simulation.specs.Crossing.{ready, action_request, ActsBehind, ActsBefore, Crosses}
use Rattle.lx_simulation.proofs.WordedReplies.{is_more, is_left, Steps, goes, stands_post}

-- an action that there is, is asked for
asked : (b : Bool) (v : ImageThread) (fuel : ℕ) (is : List ImageFrame) (n : ℕ) (post : Bool) (k : ℕ) (args : List Word) (y : Option Word) (source dest : Principal) → b ≡ true →
    action_line b (ready v (suc fuel) is) n post k args y source dest ≡ Asks (ready v fuel is) (action_request n post k args y source dest)
asked true v fuel is n post k args y source dest e = refl
asked false v fuel is n post k args y source dest e = cc

-- the actions behind the body, from this one on
behind : (c : Code) (t n : ℕ) (args : List Word) (y : Option Word) (fs : List ImageFrame) (w : Wording) (k : ℕ) (actions : List Action) → drop k (annotation_or_none c.program n).post ≡ actions →
    ActsBehind c t n args y fs k actions (Wraps n args (from_post w k actions) y ∷ fs)
behind c t n args y fs w k [] e = λ v fuel. refl
behind c t n args y fs w k (a ∷ actions) e =
    let next : drop (suc k) (annotation_or_none c.program n).post ≡ actions = subst (λ (xs : List Action). Steps (annotation_or_none c.program n).post k xs) e (goes (annotation_or_none c.program n).post k) in
    λ v fuel. (
      asked (has_action c.program n true k) v fuel (Wraps n args (from_post w k (a ∷ actions)) y ∷ fs) n true k args y (top v.shadow) (below_top v.shadow) (is_left (annotation_or_none c.program n).post k ∙ ap is_more e),
      subst (ActsBehind c t n args y fs (suc k) actions) (sym (stands_post c t n (suc k) args w y fs actions)) (behind c t n args y fs w (suc k) actions next),
    )

-- those before it, from this one on
before : (c : Code) (t n : ℕ) (args : List Word) (x : Option Word) (fs : List ImageFrame) (w : Wording) (k : ℕ) (actions : List Action) → drop k (annotation_or_none c.program n).pre ≡ actions →
    ActsBefore c t n args fs k actions (at_lines c t n args x fs (from_pre w (annotation_or_none c.program n) k actions))
before c t n args x fs w k [] e = (from_post w 0 (annotation_or_none c.program n).post, x, refl, λ y v. behind c t n args y fs w 0 (annotation_or_none c.program n).post refl)
before c t n args x fs w k (a ∷ actions) e =
    let next : drop (suc k) (annotation_or_none c.program n).pre ≡ actions = subst (λ (xs : List Action). Steps (annotation_or_none c.program n).pre k xs) e (goes (annotation_or_none c.program n).pre k) in
    λ v fuel. (
      asked (has_action c.program n false k) v fuel (Wraps n args (from_pre w (annotation_or_none c.program n) k (a ∷ actions)) x ∷ fs) n false k args None (below_top v.shadow) (top v.shadow) (is_left (annotation_or_none c.program n).pre k ∙ ap is_more e),
      before c t n args x fs w (suc k) actions next,
    )

-- a wrapper of the function, behind its enter
crosses : (c : Code) (t n : ℕ) (args : List Word) (fs : List ImageFrame) (lines : List Op) → IsWrapperOf c n lines → Crosses c t n args fs (at_lines c t n args None fs (behind_head lines))
crosses c t n args fs lines (w, e) =
    subst (λ (l : List Op). Crosses c t n args fs (at_lines c t n args None fs (behind_head l))) (sym e) (before c t n args None fs w 0 (annotation_or_none c.program n).pre refl)

pub entered_crosses : (c : Code) → Accepted c → (t n : ℕ) (args : List Word) (fs : List ImageFrame) → Crosses c t n args fs (entered_frames c t true n args fs)
entered_crosses c acc t n args fs = crosses c t n args fs (in_lines c n) (acc.wraps.entered n)

pub called_crosses : (c : Code) → Accepted c → (t k : ℕ) (o : Op) (n : ℕ) → wrapped_import c (home_or_kernel c.program k) o ≡ Some n → (args : List Word) (fs : List ImageFrame) →
    Crosses c t n args fs (behind_line c t (Wraps n args (called_lines c (home_or_kernel c.program k) o) None ∷ fs))
called_crosses c acc t k o n e args fs = crosses c t n args fs (called_lines c (home_or_kernel c.program k) o) (acc.wraps.called k o n e)

-- the call of a wrapper

-- it begins with its enter
first_asks : (c : Code) (v : ImageThread) (fuel : ℕ) (a : Activation) (fs : List ImageFrame) (n : ℕ) (args : List Word) (lines : List Op) (b : Bool) → b ≡ true → IsWrapperOf c n lines →
    if_room b (ready v fuel (Runs a ∷ fs)) (first_line (ready v fuel (Runs a ∷ fs)) n args (Runs a ∷ fs) lines) ≡ Asks (ready v fuel (Wraps n args lines None ∷ Runs a ∷ fs)) (request (top v.shadow) (what.Enter (Direct n) args))
first_asks c v fuel a fs n args lines false eb h = cc
first_asks c v fuel a fs n args lines true eb (w, e) =
    subst (λ (l : List Op). if_room true (ready v fuel (Runs a ∷ fs)) (first_line (ready v fuel (Runs a ∷ fs)) n args (Runs a ∷ fs) l) ≡ Asks (ready v fuel (Wraps n args l None ∷ Runs a ∷ fs)) (request (top v.shadow) (what.Enter (Direct n) args))) (sym e) refl

call_asks : (c : Code) → Accepted c → (v : ImageThread) (fuel : ℕ) (a : Activation) (o : Op) (n : ℕ) (fs : List ImageFrame) → wrapped_import c (text_of c.program a) o ≡ Some n → has_room (Runs a ∷ fs) ≡ true →
    costly_step c no_marks a fs o (wrapped_import c (text_of c.program a) o) (ready v fuel (Runs a ∷ fs)) ≡ Asks (ready v fuel (Wraps n (wrapper_args c a o) (called_lines c (text_of c.program a) o) None ∷ Runs a ∷ fs)) (request (top v.shadow) (what.Enter (Direct n) (wrapper_args c a o)))
call_asks c acc v fuel a o n fs e room =
    ap (λ (w : Option ℕ). costly_step c no_marks a fs o w (ready v fuel (Runs a ∷ fs))) e
    ∙ first_asks c v fuel a fs n (wrapper_args c a o) (called_lines c (text_of c.program a) o) (has_room (Runs a ∷ fs)) room (acc.wraps.called a.function o n e)

one_asks : (c : Code) → Accepted c → (v : ImageThread) (fuel : ℕ) (a : Activation) (o : Op) (n : ℕ) (fs : List ImageFrame) (go : Marks → Activation → ImageStep) → wrapped_import c (text_of c.program a) o ≡ Some n → has_room (Runs a ∷ fs) ≡ true →
    one_step c (ready v (suc fuel) (Runs a ∷ fs)) no_marks a fs o go ≡ Asks (ready v fuel (Wraps n (wrapper_args c a o) (called_lines c (text_of c.program a) o) None ∷ Runs a ∷ fs)) (request (top v.shadow) (what.Enter (Direct n) (wrapper_args c a o)))
one_asks c acc v fuel a (op.Guard at size narrow) n fs go e room = none_some e
one_asks c acc v fuel a (op.Check target) n fs go e room = none_some e
one_asks c acc v fuel a o n fs go e room = call_asks c acc v fuel a o n fs e room

pub enters_first : (c : Code) → Accepted c → (v : ImageThread) (fuel : ℕ) (a : Activation) (o : Op) (os : List Op) (n : ℕ) (fs : List ImageFrame) → a.code ≡ o ∷ os → wrapped_import c (text_of c.program a) o ≡ Some n → has_room (Runs a ∷ fs) ≡ true →
    image_step c (ready v (suc fuel) (Runs a ∷ fs)) ≡ Asks (ready v fuel (Wraps n (wrapper_args c a o) (called_lines c (text_of c.program a) o) None ∷ Runs a ∷ fs)) (request (top v.shadow) (what.Enter (Direct n) (wrapper_args c a o)))
enters_first c acc v fuel a o os n fs code e room =
    ap (λ (xs : List Op). instruction_step c (ready v (suc fuel) (Runs a ∷ fs)) fs xs no_marks a) code
    ∙ one_asks c acc v fuel a o n fs (instruction_step c (ready v (suc fuel) (Runs a ∷ fs)) fs os) e room
