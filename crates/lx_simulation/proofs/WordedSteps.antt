-- A step of one machine is a step of the other.
use Rattle.std.proofs.Common.{◌≡◌, ℕ, zero, suc, Bool, true, false, List, [], ◌∷◌, map, drop, Option, Some, None, refl, sym, subst, ◌∙◌, ap}
use Rattle.lx_words.specs.Word.{Word}
use Rattle.lx_words.proofs.Tests.{true_false, false_true}
use Rattle.lx_caps.specs.declared.Principal.{Principal}
use Rattle.lx_caps.specs.declared.Principal.TheVariants.{Kernel}
use Rattle.lx_annot.specs.Action.{Action}
use Rattle.lx_ir.specs.declared.instr.Op.{Op}
use Rattle.lx_ir.specs.declared.instr.Op.TheVariants as op
use Rattle.lx_model.specs.declared.program.ScriptCall.{ScriptCall}
use Rattle.lx_model.specs.declared.request.Outcome.{Outcome}
use Rattle.lx_model.specs.declared.request.Outcome.TheVariants.{Trapped, Budget}
use Rattle.lx_model.specs.declared.request.Trap.TheVariants.{TooDeep, Unreachable}
use Rattle.lx_model.specs.declared.request.Way.TheVariants.{Script}
use Rattle.lx_model.specs.declared.request.What.TheVariants as what
use Rattle.lx_model.specs.Program.{annotation_or_none}
use Rattle.lx_model.specs.Thread.{Activation, Ending, start_of, activation_behind}
use Rattle.lx_model.specs.Effect.{Effect, Moves, Wants, Enters, Calls, Traps, effect, text_of, bits}
use Rattle.lx_model.specs.Next.{request, has_action}
use Rattle.lx_simulation.proofs.Counted.{Code, Place, AtEnter, AtPre, AtCall, InBody, AtPost, AtLeave, AtRet, ImageFrame as CountedFrame, ImageThread as CountedThread, ImageStep as CountedStep, Marks, no_marks, top, tail, below_top, asker, image_routine, wrapped_import, wrapper_args, image_step as counted_step}
use Rattle.lx_simulation.proofs.Counted.{Asks as CountedAsks, comes_to as counted_comes_to, if_paid as counted_if_paid, if_room as counted_if_room, has_room as counted_has_room, effect_step as counted_effect_step, wrapper_call as counted_wrapper_call, costly_step as counted_costly_step, instruction_step as counted_instruction_step, post_line as counted_post_line, wrapper_line as counted_wrapper_line, start_step as counted_start_step, frame_step as counted_frame_step}
use Rattle.lx_images.specs.Wrappers.{called_lines}
use Rattle.lx_images.specs.Image.{ImageFrame, ImageThread, ImageStep, Asks, comes_to, if_paid, if_room, has_room, effect_step, wrapper_call, costly_step, instruction_step, action_line, wrapper_line, start_step, frame_step, image_step}
use Rattle.lx_images.specs.WrapperLines.{Wording, from_post, from_pre, IsWrapperOf, WrapsWell}
use Rattle.lx_simulation.proofs.Worded.{Worded, Ran, Wrapped, counted, lined, line_thread, Waiting, StandsOnTop, Placed, Alike, StepsAlike}
use Rattle.lx_simulation.proofs.WordedReplies.{counting, reading, made, same_room, leaves, finishes, replied, enter_replied, pre_replied, post_replied, is_more, is_left}

-- an outcome is due
comes : (c : Code) (calls : List ScriptCall) (ended : List Ending) (fuel : ℕ) (due : Option Outcome) (fs : List CountedFrame) (gs : List ImageFrame) (shadow : List Principal) (o : Outcome) →
    StepsAlike c (counted_comes_to o (counting calls ended fuel due fs shadow)) (comes_to o (reading calls ended fuel due gs shadow))
comes c calls ended fuel due fs gs shadow o = (refl, finishes c calls ended fuel (Some o) [] [] o tt)

-- a step that costs a unit
paid : (c : Code) (calls : List ScriptCall) (ended : List Ending) (fuel : ℕ) (due : Option Outcome) (fs : List CountedFrame) (gs : List ImageFrame) (shadow : List Principal) (go : CountedThread → CountedStep) (goes : ImageThread → ImageStep) →
    ((n : ℕ) → StepsAlike c (go (counting calls ended n due fs shadow)) (goes (reading calls ended n due gs shadow))) →
    StepsAlike c (counted_if_paid (counting calls ended fuel due fs shadow) go) (if_paid (reading calls ended fuel due gs shadow) goes)
paid c calls ended zero due fs gs shadow go goes h = comes c calls ended zero due fs gs shadow Budget
paid c calls ended (suc n) due fs gs shadow go goes h = h n

roomed : (c : Code) (calls : List ScriptCall) (ended : List Ending) (fuel : ℕ) (due : Option Outcome) (fs : List CountedFrame) (gs : List ImageFrame) (shadow : List Principal) (b d : Bool) (i : CountedStep) (s : ImageStep) → d ≡ b → StepsAlike c i s →
    StepsAlike c (counted_if_room b (counting calls ended fuel due fs shadow) i) (if_room d (reading calls ended fuel due gs shadow) s)
roomed c calls ended fuel due fs gs shadow true true i s e h = h
roomed c calls ended fuel due fs gs shadow false false i s e h = comes c calls ended fuel due fs gs shadow (Trapped TooDeep)
roomed c calls ended fuel due fs gs shadow true false i s e h = cc
roomed c calls ended fuel due fs gs shadow false true i s e h = cc

-- what an instruction does
effects : (c : Code) → WrapsWell c → (calls : List ScriptCall) (ended : List Ending) (fuel : ℕ) (fs : List CountedFrame) (gs : List ImageFrame) (shadow : List Principal) (m : Marks) (a : Activation) (ws : List Worded) (e : Effect) → Waiting ws →
    StepsAlike c (counted_effect_step c (counting calls ended fuel None fs shadow) m a (map counted ws) e) (effect_step c (reading calls ended fuel None gs shadow) m a (map (lined c) ws) e)
effects c h calls ended fuel fs gs shadow m a ws (Moves b) wait = made c calls ended fuel None (Ran b ∷ ws) shadow wait
effects c h calls ended fuel fs gs shadow m a ws (Wants x) wait = (refl, replied c h calls ended fuel None (Ran a ∷ ws) shadow wait tt (asker (text_of c.program a) m shadow x) x)
effects c h calls ended fuel fs gs shadow m a ws (Enters x) wait =
    roomed c calls ended fuel None fs gs shadow (counted_has_room (map counted (Ran a ∷ ws))) (has_room (map (lined c) (Ran a ∷ ws))) _ _ (same_room c (Ran a ∷ ws))
    (refl, replied c h calls ended fuel None (Ran a ∷ ws) shadow wait tt (asker (text_of c.program a) m shadow x) x)
effects c h calls ended fuel fs gs shadow m a ws (Calls n args) wait =
    roomed c calls ended fuel None fs gs shadow (counted_has_room (map counted (Ran a ∷ ws))) (has_room (map (lined c) (Ran a ∷ ws))) _ _ (same_room c (Ran a ∷ ws))
    (made c calls ended fuel None (Ran (start_of n (image_routine c n) args a.high) ∷ Ran a ∷ ws) shadow wait)
effects c h calls ended fuel fs gs shadow m a ws (Traps trap) wait = comes c calls ended fuel None fs gs shadow (Trapped trap)

-- the call of a wrapper
calls_wrapper : (c : Code) (calls : List ScriptCall) (ended : List Ending) (fuel : ℕ) (fs : List CountedFrame) (gs : List ImageFrame) (shadow : List Principal) (a : Activation) (ws : List Worded) (n : ℕ) (args : List Word) (lines : List Op) → IsWrapperOf c n lines → Waiting ws →
    StepsAlike c (counted_wrapper_call (counting calls ended fuel None fs shadow) a (map counted ws) n args) (wrapper_call (reading calls ended fuel None gs shadow) a (map (lined c) ws) n args lines)
calls_wrapper c calls ended fuel fs gs shadow a ws n args lines (w, e) wait =
    subst (λ (l : List Op). StepsAlike c (counted_wrapper_call (counting calls ended fuel None fs shadow) a (map counted ws) n args) (wrapper_call (reading calls ended fuel None gs shadow) a (map (lined c) ws) n args l)) (sym e)
    (roomed c calls ended fuel None fs gs shadow (counted_has_room (map counted (Ran a ∷ ws))) (has_room (map (lined c) (Ran a ∷ ws))) _ _ (same_room c (Ran a ∷ ws))
    (refl, enter_replied c calls ended fuel n args w None (Ran a ∷ ws) shadow wait (top shadow)))

costs : (c : Code) → WrapsWell c → (calls : List ScriptCall) (ended : List Ending) (fuel : ℕ) (fs : List CountedFrame) (gs : List ImageFrame) (shadow : List Principal) (m : Marks) (a : Activation) (ws : List Worded) (o : Op) (f : Option ℕ) → wrapped_import c (text_of c.program a) o ≡ f → Waiting ws →
    StepsAlike c (counted_costly_step c m a (map counted ws) o f (counting calls ended fuel None fs shadow)) (costly_step c m a (map (lined c) ws) o f (reading calls ended fuel None gs shadow))
costs c h calls ended fuel fs gs shadow m a ws o None e wait = effects c h calls ended fuel fs gs shadow m a ws (effect c.program a o) wait
costs c h calls ended fuel fs gs shadow m a ws o (Some n) e wait =
    calls_wrapper c calls ended fuel fs gs shadow a ws n (wrapper_args c a o) (called_lines c (text_of c.program a) o) (h.called a.function o n e) wait

abbrev CodeAlike : Code → List ScriptCall → List Ending → ℕ → List CountedFrame → List ImageFrame → List Principal → List Worded → List Op → Type 0
CodeAlike c calls ended fuel fs gs shadow ws os =
    (m : Marks) (a : Activation) → StepsAlike c (counted_instruction_step c (counting calls ended fuel None fs shadow) (map counted ws) os m a) (instruction_step c (reading calls ended fuel None gs shadow) (map (lined c) ws) os m a)

ones : (c : Code) → WrapsWell c → (calls : List ScriptCall) (ended : List Ending) (fuel : ℕ) (fs : List CountedFrame) (gs : List ImageFrame) (shadow : List Principal) (ws : List Worded) (o : Op) (os : List Op) → Waiting ws →
    CodeAlike c calls ended fuel fs gs shadow ws os → CodeAlike c calls ended fuel fs gs shadow ws (o ∷ os)
ones c h calls ended fuel fs gs shadow ws (op.Guard at size narrow) os wait ih m a = ih (record m { guarded = Some (bits c.program a at, bits c.program a size) }) (activation_behind None a)
ones c h calls ended fuel fs gs shadow ws (op.Check target) os wait ih m a = ih (record m { checked = Some (bits c.program a target) }) (activation_behind None a)
ones c h calls ended fuel fs gs shadow ws o os wait ih m a =
    paid c calls ended fuel None fs gs shadow (counted_costly_step c m a (map counted ws) o (wrapped_import c (text_of c.program a) o)) (costly_step c m a (map (lined c) ws) o (wrapped_import c (text_of c.program a) o))
    (λ n. costs c h calls ended n fs gs shadow m a ws o (wrapped_import c (text_of c.program a) o) refl wait)

codes_alike : (c : Code) → WrapsWell c → (calls : List ScriptCall) (ended : List Ending) (fuel : ℕ) (fs : List CountedFrame) (gs : List ImageFrame) (shadow : List Principal) (ws : List Worded) (os : List Op) → Waiting ws → CodeAlike c calls ended fuel fs gs shadow ws os
codes_alike c h calls ended fuel fs gs shadow ws [] wait m a =
    paid c calls ended fuel None fs gs shadow (counted_comes_to (Trapped Unreachable)) (comes_to (Trapped Unreachable)) (λ n. comes c calls ended n None fs gs shadow (Trapped Unreachable))
codes_alike c h calls ended fuel fs gs shadow ws (o ∷ os) wait m a = ones c h calls ended fuel fs gs shadow ws o os wait (codes_alike c h calls ended fuel fs gs shadow ws os wait) m a

-- the lines of a wrapper

-- an action before the body
pre_line : (c : Code) (calls : List ScriptCall) (ended : List Ending) (fuel : ℕ) (n : ℕ) (args : List Word) (k : ℕ) (w : Wording) (x : Option Word) (ws : List Worded) (shadow : List Principal) (as' : List Action) (b : Bool) → drop k (annotation_or_none c.program n).pre ≡ as' → has_action c.program n false k ≡ b → has_action c.program n false k ≡ true → Waiting ws →
    StepsAlike c (counted_wrapper_line c (counting calls ended fuel None (map counted (Wrapped n args (AtPre k) w x ∷ ws)) shadow) n args (AtPre k) (map counted ws))
    (wrapper_line c (reading calls ended fuel None (map (lined c) (Wrapped n args (AtPre k) w x ∷ ws)) shadow) n args x (map (lined c) ws) (from_pre w (annotation_or_none c.program n) k as'))
pre_line c calls ended fuel n args k w x ws shadow [] b e eb has wait = false_true (sym (is_left (annotation_or_none c.program n).pre k ∙ ap is_more e) ∙ has)
pre_line c calls ended fuel n args k w x ws shadow (a ∷ as') b e eb has wait =
    subst (λ (d : Bool). StepsAlike c (counted_wrapper_line c (counting calls ended fuel None (map counted (Wrapped n args (AtPre k) w x ∷ ws)) shadow) n args (AtPre k) (map counted ws))
    (action_line d (reading calls ended fuel None (map (lined c) (Wrapped n args (AtPre k) w x ∷ ws)) shadow) n false k args None (below_top shadow) (top shadow))) (sym has)
    (paid c calls ended fuel None (map counted (Wrapped n args (AtPre k) w x ∷ ws)) (map (lined c) (Wrapped n args (AtPre k) w x ∷ ws)) shadow
    (λ v. CountedAsks v (request (below_top shadow) (what.Perform n false k (record { args = args; ret = None }) (below_top shadow) (top shadow))))
    (λ u. Asks u (request (below_top shadow) (what.Perform n false k (record { args = args; ret = None }) (below_top shadow) (top shadow))))
    (λ fuel'. (refl, pre_replied c calls ended fuel' n args k w x ws shadow wait has (request (below_top shadow) (what.Perform n false k (record { args = args; ret = None }) (below_top shadow) (top shadow))) n false k (record { args = args; ret = None }) (below_top shadow) (top shadow) refl)))

-- an action behind the body, or the leaving
post_line : (c : Code) (calls : List ScriptCall) (ended : List Ending) (fuel : ℕ) (n : ℕ) (args : List Word) (k : ℕ) (y : Option Word) (w : Wording) (x : Option Word) (ws : List Worded) (shadow : List Principal) (as' : List Action) (b : Bool) → drop k (annotation_or_none c.program n).post ≡ as' → has_action c.program n true k ≡ b → Waiting ws →
    StepsAlike c (counted_post_line b (counting calls ended fuel None (map counted (Wrapped n args (AtPost k y) w x ∷ ws)) shadow) n args k y (map counted ws))
    (wrapper_line c (reading calls ended fuel None (map (lined c) (Wrapped n args (AtPost k y) w x ∷ ws)) shadow) n args y (map (lined c) ws) (from_post w k as'))
post_line c calls ended fuel n args k y w x ws shadow [] false e eb wait =
    leaves c calls ended fuel ws (map counted (Wrapped n args (AtPost k y) w x ∷ ws)) (map (lined c) (Wrapped n args (AtPost k y) w x ∷ ws)) (tail shadow) None y wait
post_line c calls ended fuel n args k y w x ws shadow [] true e eb wait = false_true (sym (is_left (annotation_or_none c.program n).post k ∙ ap is_more e) ∙ eb)
post_line c calls ended fuel n args k y w x ws shadow (a ∷ as') false e eb wait = true_false (sym (is_left (annotation_or_none c.program n).post k ∙ ap is_more e) ∙ eb)
post_line c calls ended fuel n args k y w x ws shadow (a ∷ as') true e eb wait =
    subst (λ (d : Bool). StepsAlike c (counted_post_line true (counting calls ended fuel None (map counted (Wrapped n args (AtPost k y) w x ∷ ws)) shadow) n args k y (map counted ws))
    (action_line d (reading calls ended fuel None (map (lined c) (Wrapped n args (AtPost k y) w x ∷ ws)) shadow) n true k args y (top shadow) (below_top shadow))) (sym eb)
    (paid c calls ended fuel None (map counted (Wrapped n args (AtPost k y) w x ∷ ws)) (map (lined c) (Wrapped n args (AtPost k y) w x ∷ ws)) shadow
    (λ v. CountedAsks v (request (top shadow) (what.Perform n true k (record { args = args; ret = y }) (top shadow) (below_top shadow))))
    (λ u. Asks u (request (top shadow) (what.Perform n true k (record { args = args; ret = y }) (top shadow) (below_top shadow))))
    (λ fuel'. (refl, post_replied c calls ended fuel' n args k y w x ws shadow wait eb (request (top shadow) (what.Perform n true k (record { args = args; ret = y }) (top shadow) (below_top shadow))) n true k (record { args = args; ret = y }) (top shadow) (below_top shadow) refl)))

wraps : (c : Code) (calls : List ScriptCall) (ended : List Ending) (fuel : ℕ) (n : ℕ) (args : List Word) (place : Place) (w : Wording) (x : Option Word) (ws : List Worded) (shadow : List Principal) → StandsOnTop c n place → Waiting ws →
    StepsAlike c (counted_frame_step c (counting calls ended fuel None (map counted (Wrapped n args place w x ∷ ws)) shadow) (map counted (Wrapped n args place w x ∷ ws)))
    (frame_step c (reading calls ended fuel None (map (lined c) (Wrapped n args place w x ∷ ws)) shadow) (map (lined c) (Wrapped n args place w x ∷ ws)))
wraps c calls ended fuel n args AtEnter w x ws shadow on wait = comes c calls ended fuel None (map counted (Wrapped n args AtEnter w x ∷ ws)) (map (lined c) (Wrapped n args AtEnter w x ∷ ws)) shadow (Trapped Unreachable)
wraps c calls ended fuel n args (AtPre k) w x ws shadow on wait = pre_line c calls ended fuel n args k w x ws shadow (drop k (annotation_or_none c.program n).pre) (has_action c.program n false k) refl refl on wait
wraps c calls ended fuel n args (AtPost k y) w x ws shadow on wait = post_line c calls ended fuel n args k y w x ws shadow (drop k (annotation_or_none c.program n).post) (has_action c.program n true k) refl refl wait
wraps c calls ended fuel n args AtCall w x ws shadow on wait = absurd on
wraps c calls ended fuel n args InBody w x ws shadow on wait = absurd on
wraps c calls ended fuel n args (AtLeave y) w x ws shadow on wait = absurd on
wraps c calls ended fuel n args (AtRet y) w x ws shadow on wait = absurd on

-- the start of a call
starts : (c : Code) → WrapsWell c → (all calls : List ScriptCall) (ended : List Ending) (fuel : ℕ) (shadow : List Principal) →
    StepsAlike c (counted_start_step calls (counting all ended fuel None [] shadow)) (start_step calls (reading all ended fuel None [] shadow))
starts c h all [] ended fuel shadow = comes c all ended fuel None [] [] shadow Budget
starts c h all (call ∷ calls) ended fuel shadow =
    paid c all ended fuel None [] [] shadow (λ v. CountedAsks v (request Kernel (what.Enter (Script call.function) call.args))) (λ u. Asks u (request Kernel (what.Enter (Script call.function) call.args)))
    (λ n. (refl, replied c h all ended n None [] shadow tt tt Kernel (what.Enter (Script call.function) call.args)))

step_both : (c : Code) → WrapsWell c → (calls : List ScriptCall) (ended : List Ending) (fuel : ℕ) (due : Option Outcome) (ws : List Worded) (shadow : List Principal) → Placed c ws →
    StepsAlike c (counted_step c (counting calls ended fuel due (map counted ws) shadow)) (image_step c (reading calls ended fuel due (map (lined c) ws) shadow))
step_both c h calls ended fuel (Some o) ws shadow p = (refl, finishes c calls ended fuel (Some o) ws shadow o p)
step_both c h calls ended fuel None [] shadow p = starts c h calls calls ended fuel shadow
step_both c h calls ended fuel None (Ran a ∷ ws) shadow p = codes_alike c h calls ended fuel (map counted (Ran a ∷ ws)) (map (lined c) (Ran a ∷ ws)) shadow ws a.code p no_marks a
step_both c h calls ended fuel None (Wrapped n args place w x ∷ ws) shadow p = wraps c calls ended fuel n args place w x ws shadow p.0 p.1

-- a step of threads that are one
pub steps_alike : (c : Code) → WrapsWell c → (v : CountedThread) (u : ImageThread) → Alike c v u → StepsAlike c (counted_step c v) (image_step c u)
steps_alike c h v u a =
    subst (λ (y : ImageThread). StepsAlike c (counted_step c v) (image_step c y)) (sym a.reads)
    (subst (λ (y : CountedThread). StepsAlike c (counted_step c y) (image_step c (line_thread c a.both))) (sym a.counts)
    (step_both c h a.both.calls a.both.ended a.both.fuel a.both.due a.both.frames a.both.shadow a.placed))
