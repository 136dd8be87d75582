-- Both machines take each reply in alike.
use Rattle.std.proofs.Common.{◌≡◌, ℕ, zero, suc, Bool, true, false, List, [], ◌∷◌, ◌++◌, length, map, drop, Option, Some, None, refl, sym, subst, ◌∙◌, ap, arith}
use Rattle.std.specs.Prelude.{nat_lt}
use Rattle.lx_words.specs.Word.{Word, word}
use Rattle.lx_words.specs.declared.word.Width.TheVariants.{W64}
use Rattle.lx_words.proofs.Tests.{true_false, none_below, some_below}
use Rattle.lx_caps.specs.declared.Principal.{Principal}
use Rattle.lx_annot.specs.Action.{Action}
use Rattle.lx_ir.specs.declared.instr.Op.{Op}
use Rattle.lx_model.specs.declared.program.ScriptCall.{ScriptCall}
use Rattle.lx_model.specs.declared.request.Outcome.{Outcome}
use Rattle.lx_model.specs.declared.request.Outcome.TheVariants.{Returned, Trapped}
use Rattle.lx_model.specs.declared.request.Trap.TheVariants.{Signature}
use Rattle.lx_model.specs.declared.request.Way.{Way}
use Rattle.lx_model.specs.declared.request.Way.TheVariants.{Script, Direct, Indirect, Slot}
use Rattle.lx_model.specs.declared.request.What.{What}
use Rattle.lx_model.specs.declared.request.What.TheVariants as what
use Rattle.lx_model.specs.declared.request.Request.{Request}
use Rattle.lx_model.specs.declared.request.Reply.{Reply}
use Rattle.lx_model.specs.declared.request.Reply.TheVariants.{Value, Done, Entered, Ended}
use Rattle.lx_model.specs.Program.{annotation_or_none}
use Rattle.lx_model.specs.Thread.{Ending, start_of, behind_head, activation_behind, first_fuel}
use Rattle.lx_model.specs.Effect.{returned_value}
use Rattle.lx_model.specs.Next.{request, finish, frame_limit, has_action, way_address, with_alloca, other_calls, ending}
use Rattle.lx_simulation.proofs.Counted.{Code, AtEnter, AtPre, AtCall, InBody, AtPost, AtLeave, AtRet, ImageFrame as CountedFrame, ImageThread as CountedThread, image_routine, shadow_with, before_body, at_pre}
use Rattle.lx_simulation.proofs.Counted.{Wraps as CountedWraps, stack_top as counted_stack_top, running as counted_running, has_room as counted_has_room, after_leaving as counted_after_leaving, past_instruction as counted_past, entered_frames as counted_entered, after_entry as counted_after_entry, after_reply as counted_after_reply, image_absorb as counted_absorb}
use Rattle.lx_images.specs.Wrappers.{in_lines}
use Rattle.lx_images.specs.Image.{ImageFrame, Runs, Wraps, ImageThread, running, stack_top, has_room, after_leaving, past_instruction, at_lines, entered_frames, fits_site, after_entry, after_reply, image_absorb}
use Rattle.lx_images.specs.WrapperLines.{Wording, from_post, from_pre, IsWrapperOf, WrapsWell}
use Rattle.lx_simulation.proofs.Worded.{Worded, Ran, Wrapped, counted, lined, Waiting, Placed, Alike, AbsorbAlike}

-- threads from their parts

abbrev pub counting : List ScriptCall → List Ending → ℕ → Option Outcome → List CountedFrame → List Principal → CountedThread
counting calls ended fuel due frames shadow = record { calls = calls; ended = ended; fuel = fuel; due = due; frames = frames; shadow = shadow }

abbrev pub reading : List ScriptCall → List Ending → ℕ → Option Outcome → List ImageFrame → List Principal → ImageThread
reading calls ended fuel due frames shadow = record { calls = calls; ended = ended; fuel = fuel; due = due; frames = frames; shadow = shadow }

pub made : (c : Code) (calls : List ScriptCall) (ended : List Ending) (fuel : ℕ) (due : Option Outcome) (ws : List Worded) (shadow : List Principal) → Placed c ws →
    Alike c (counting calls ended fuel due (map counted ws) shadow) (reading calls ended fuel due (map (lined c) ws) shadow)
made c calls ended fuel due ws shadow placed =
    record { both = record { calls = calls; ended = ended; fuel = fuel; due = due; frames = ws; shadow = shadow }; placed = placed; counts = refl; reads = refl }

-- frames that are one
pub record FramesAlike (c : Code) (fs : List CountedFrame) (gs : List ImageFrame) : Type 0 where
  pub frames : List Worded
  pub placed : Placed c frames
  pub counts : fs ≡ map counted frames
  pub reads : gs ≡ map (lined c) frames

pub framed : (c : Code) (calls : List ScriptCall) (ended : List Ending) (fuel : ℕ) (due : Option Outcome) (fs : List CountedFrame) (gs : List ImageFrame) (shadow : List Principal) → FramesAlike c fs gs →
    Alike c (counting calls ended fuel due fs shadow) (reading calls ended fuel due gs shadow)
framed c calls ended fuel due fs gs shadow f =
    record {
      both = record { calls = calls; ended = ended; fuel = fuel; due = due; frames = f.frames; shadow = shadow };
      placed = f.placed;
      counts = ap (λ (is : List CountedFrame). counting calls ended fuel due is shadow) f.counts;
      reads = ap (λ (is : List ImageFrame). reading calls ended fuel due is shadow) f.reads;
    }

-- both count the same

pub same_top : (c : Code) (t : ℕ) (ws : List Worded) → stack_top t (map (lined c) ws) ≡ counted_stack_top t (map counted ws)
same_top c t [] = refl
same_top c t (Ran a ∷ ws) = refl
same_top c t (Wrapped n args place w x ∷ ws) = same_top c t ws

same_running : (c : Code) (ws : List Worded) → running (map (lined c) ws) ≡ counted_running (map counted ws)
same_running c [] = refl
same_running c (Ran a ∷ ws) = ap suc (same_running c ws)
same_running c (Wrapped n args place w x ∷ ws) = same_running c ws

pub same_room : (c : Code) (ws : List Worded) → has_room (map (lined c) ws) ≡ counted_has_room (map counted ws)
same_room c ws = ap (λ (n : ℕ). nat_lt n frame_limit) (same_running c ws)

-- a list from a place on

abbrev pub is_more : List Action → Bool
is_more [] = false
is_more (a ∷ as') = true

less_suc : (k n : ℕ) → nat_lt (suc k) (suc n) ≡ nat_lt k n
less_suc k n = grind arith

-- what is left of the actions, by whether there is one of this number
pub is_left : (xs : List Action) (k : ℕ) → nat_lt k (length xs) ≡ is_more (drop k xs)
is_left [] zero = none_below 0
is_left [] (suc k) = none_below (suc k)
is_left (x ∷ xs) zero = some_below (length xs)
is_left (x ∷ xs) (suc k) = less_suc k (length xs) ∙ is_left xs k

abbrev pub Steps : List Action → ℕ → List Action → Type 0
Steps xs k [] = Unit {0}
Steps xs k (a ∷ as') = drop (suc k) xs ≡ as'

pub goes : (xs : List Action) (k : ℕ) → Steps xs k (drop k xs)
goes [] zero = tt
goes [] (suc k) = tt
goes (x ∷ xs) zero = refl
goes (x ∷ xs) (suc k) = goes xs k

-- where the next action is none

-- a wrapper that has come to an action before its body, or to its call
pub coming : (c : Code) (t n k : ℕ) (args : List Word) (w : Wording) (x : Option Word) (ws : List Worded) (as' : List Action) → drop k (annotation_or_none c.program n).pre ≡ as' → Waiting ws →
    FramesAlike c (at_pre c t k n args (map counted ws)) (at_lines c t n args x (map (lined c) ws) (from_pre w (annotation_or_none c.program n) k as'))
coming c t n k args w x ws [] e wait =
    record {
      frames = Ran (start_of n (image_routine c n) args (counted_stack_top t (map counted ws))) ∷ Wrapped n args InBody w x ∷ ws;
      placed = wait;
      counts = ap (λ (b : Bool). before_body c t b k n args (map counted ws)) (is_left (annotation_or_none c.program n).pre k ∙ ap is_more e);
      reads = ap (λ (s : ℕ). Runs (start_of n (image_routine c n) args s) ∷ map (lined c) (Wrapped n args InBody w x ∷ ws)) (same_top c t ws);
    }
coming c t n k args w x ws (a ∷ as') e wait =
    let has : has_action c.program n false k ≡ true = is_left (annotation_or_none c.program n).pre k ∙ ap is_more e in
    record {
      frames = Wrapped n args (AtPre k) w x ∷ ws;
      placed = (has, wait);
      counts = ap (λ (b : Bool). before_body c t b k n args (map counted ws)) has;
      reads = ap (λ (l : List Action). Wraps n args (from_pre w (annotation_or_none c.program n) k l) x ∷ map (lined c) ws) (sym e);
    }

-- one behind an action before its body
pub behind_pre : (c : Code) (t n k : ℕ) (args : List Word) (w : Wording) (x : Option Word) (ws : List Worded) (as' : List Action) → drop k (annotation_or_none c.program n).pre ≡ as' → Steps (annotation_or_none c.program n).pre k as' → has_action c.program n false k ≡ true → Waiting ws →
    FramesAlike c (at_pre c t (suc k) n args (map counted ws)) (at_lines c t n args x (map (lined c) ws) (behind_head (from_pre w (annotation_or_none c.program n) k as')))
behind_pre c t n k args w x ws [] e s has wait = true_false (sym has ∙ (is_left (annotation_or_none c.program n).pre k ∙ ap is_more e))
behind_pre c t n k args w x ws (a ∷ as') e s has wait = coming c t n (suc k) args w x ws as' s wait

-- one behind its body stands before each line
pub stands_post : (c : Code) (t n k : ℕ) (args : List Word) (w : Wording) (x : Option Word) (gs : List ImageFrame) (as' : List Action) → at_lines c t n args x gs (from_post w k as') ≡ Wraps n args (from_post w k as') x ∷ gs
stands_post c t n k args w x gs [] = refl
stands_post c t n k args w x gs (a ∷ as') = refl

pub behind_post : (c : Code) (t n k : ℕ) (args : List Word) (w : Wording) (y old : Option Word) (ws : List Worded) (as' : List Action) → drop k (annotation_or_none c.program n).post ≡ as' → Steps (annotation_or_none c.program n).post k as' → has_action c.program n true k ≡ true → Waiting ws →
    FramesAlike c (CountedWraps n args (AtPost (suc k) y) ∷ map counted ws) (at_lines c t n args y (map (lined c) ws) (behind_head (from_post w k as')))
behind_post c t n k args w y old ws [] e s has wait = true_false (sym has ∙ (is_left (annotation_or_none c.program n).post k ∙ ap is_more e))
behind_post c t n k args w y old ws (a ∷ as') e s has wait =
    record {
      frames = Wrapped n args (AtPost (suc k) y) w old ∷ ws;
      placed = (tt, wait);
      counts = refl;
      reads = stands_post c t n (suc k) args w y (map (lined c) ws) as' ∙ ap (λ (l : List Action). Wraps n args (from_post w (suc k) l) y ∷ map (lined c) ws) (sym s);
    }

-- replies

-- the end of a call
pub ends : (c : Code) (calls : List ScriptCall) (ended : List Ending) (fuel : ℕ) (due : Option Outcome) (fs : List CountedFrame) (gs : List ImageFrame) (shadow : List Principal) (t : ℕ) (r : Request) (o : Outcome) →
    Alike c (counted_absorb c t (counting calls ended fuel due fs shadow) r (Ended o)) (image_absorb c t (reading calls ended fuel due gs shadow) r (Ended o))
ends c calls ended fuel due fs gs shadow t r o = made c (other_calls calls) (ended ++ ending o calls) (first_fuel (other_calls calls)) None [] [] tt

-- the function on top goes past its instruction
pub passes : (c : Code) (calls : List ScriptCall) (ended : List Ending) (fuel : ℕ) (due : Option Outcome) (ws : List Worded) (shadow : List Principal) (x : Option Word) → Placed c ws →
    Alike c (counted_past x (counting calls ended fuel due (map counted ws) shadow)) (past_instruction x (reading calls ended fuel due (map (lined c) ws) shadow))
passes c calls ended fuel due [] shadow x placed = made c calls ended fuel due [] shadow placed
passes c calls ended fuel due (Ran a ∷ ws) shadow x placed = made c calls ended fuel due (Ran (activation_behind x a) ∷ ws) shadow placed
passes c calls ended fuel due (Wrapped n args place w y ∷ ws) shadow x placed = made c calls ended fuel due (Wrapped n args place w y ∷ ws) shadow placed

-- a frame is left
pub leaves : (c : Code) (calls : List ScriptCall) (ended : List Ending) (fuel : ℕ) (ws : List Worded) (fs : List CountedFrame) (gs : List ImageFrame) (shadow : List Principal) (due : Option Outcome) (x : Option Word) → Waiting ws →
    Alike c (counted_after_leaving x (map counted ws) (counting calls ended fuel due fs shadow)) (after_leaving x (map (lined c) ws) (reading calls ended fuel due gs shadow))
leaves c calls ended fuel [] fs gs shadow due x wait = made c calls ended fuel (Some (Returned x)) [] [] tt
leaves c calls ended fuel (Ran a ∷ ws) fs gs shadow due x wait = made c calls ended fuel due (Ran (activation_behind x a) ∷ ws) shadow wait
leaves c calls ended fuel (Wrapped n args InBody w y ∷ ws) fs gs shadow due x wait = made c calls ended fuel due (Wrapped n args (AtPost 0 x) w y ∷ ws) shadow (tt, wait)
leaves c calls ended fuel (Wrapped n args AtEnter w y ∷ ws) fs gs shadow due x wait = absurd wait
leaves c calls ended fuel (Wrapped n args (AtPre k) w y ∷ ws) fs gs shadow due x wait = absurd wait
leaves c calls ended fuel (Wrapped n args AtCall w y ∷ ws) fs gs shadow due x wait = absurd wait
leaves c calls ended fuel (Wrapped n args (AtPost k z) w y ∷ ws) fs gs shadow due x wait = absurd wait
leaves c calls ended fuel (Wrapped n args (AtLeave z) w y ∷ ws) fs gs shadow due x wait = absurd wait
leaves c calls ended fuel (Wrapped n args (AtRet z) w y ∷ ws) fs gs shadow due x wait = absurd wait

-- all is over but the end
pub finishes : (c : Code) (calls : List ScriptCall) (ended : List Ending) (fuel : ℕ) (due : Option Outcome) (ws : List Worded) (shadow : List Principal) (o : Outcome) → Placed c ws →
    AbsorbAlike c (counting calls ended fuel due (map counted ws) shadow) (reading calls ended fuel due (map (lined c) ws) shadow) (finish o)
finishes c calls ended fuel due ws shadow o placed t (Ended e) = ends c calls ended fuel due (map counted ws) (map (lined c) ws) shadow t (finish o) e
finishes c calls ended fuel due ws shadow o placed t (Value x) = passes c calls ended fuel due ws shadow (Some x) placed
finishes c calls ended fuel due ws shadow o placed t Done = passes c calls ended fuel due ws shadow None placed
finishes c calls ended fuel due ws shadow o placed t (Entered n q crosses) = passes c calls ended fuel due ws shadow None placed

-- a function is entered on frames that wait
enters_lines : (c : Code) (t n : ℕ) (args : List Word) (ws : List Worded) (lines : List Op) → IsWrapperOf c n lines → Waiting ws →
    FramesAlike c (at_pre c t 0 n args (map counted ws)) (at_lines c t n args None (map (lined c) ws) (behind_head lines))
enters_lines c t n args ws lines (w, e) wait =
    subst (λ (l : List Op). FramesAlike c (at_pre c t 0 n args (map counted ws)) (at_lines c t n args None (map (lined c) ws) (behind_head l))) (sym e)
    (coming c t n 0 args w None ws (annotation_or_none c.program n).pre refl wait)

entered_both : (c : Code) → WrapsWell c → (t : ℕ) (crosses : Bool) (n : ℕ) (args : List Word) (ws : List Worded) → Waiting ws →
    FramesAlike c (counted_entered c t crosses n args (map counted ws)) (entered_frames c t crosses n args (map (lined c) ws))
entered_both c h t true n args ws wait = enters_lines c t n args ws (in_lines c n) (h.entered n) wait
entered_both c h t false n args ws wait =
    record {
      frames = Ran (start_of n (image_routine c n) args (counted_stack_top t (map counted ws))) ∷ ws;
      placed = wait;
      counts = refl;
      reads = ap (λ (s : ℕ). Runs (start_of n (image_routine c n) args s) ∷ map (lined c) ws) (same_top c t ws);
    }

pub enters : (c : Code) → WrapsWell c → (calls : List ScriptCall) (ended : List Ending) (fuel : ℕ) (due : Option Outcome) (ws : List Worded) (shadow : List Principal) (t : ℕ) (b : Bool) (way : Way) (args : List Word) (n : ℕ) (q : Principal) (crosses : Bool) → Waiting ws →
    Alike c (counted_after_entry c t b way args n q crosses (counting calls ended fuel due (map counted ws) shadow)) (after_entry c t b way args n q crosses (reading calls ended fuel due (map (lined c) ws) shadow))
enters c h calls ended fuel due ws shadow t true way args n q crosses wait =
    framed c calls ended fuel due (counted_entered c t crosses n args (map counted ws)) (entered_frames c t crosses n args (map (lined c) ws)) (shadow_with crosses q shadow) (entered_both c h t crosses n args ws wait)
enters c h calls ended fuel due ws shadow t false way args n q crosses wait = made c calls ended fuel (Some (Trapped (Signature (way_address way)))) [] [] tt

-- nothing but functions on top
abbrev pub NoWrapper : List Worded → Type 0
NoWrapper [] = Unit {0}
NoWrapper (Ran a ∷ ws) = Unit {0}
NoWrapper (Wrapped n args place w x ∷ ws) = ⊥

waits : (c : Code) (ws : List Worded) → Placed c ws → NoWrapper ws → Waiting ws
waits c [] p f = tt
waits c (Ran a ∷ ws) p f = p
waits c (Wrapped n args place w x ∷ ws) p f = absurd f

entry_replied : (c : Code) → WrapsWell c → (calls : List ScriptCall) (ended : List Ending) (fuel : ℕ) (due : Option Outcome) (ws : List Worded) (shadow : List Principal) (t : ℕ) (way : Way) (args : List Word) (n : ℕ) (q : Principal) (crosses : Bool) → Placed c ws → NoWrapper ws →
    Alike c (counted_after_reply c t (counting calls ended fuel due (map counted ws) shadow) (what.Enter way args) (Entered n q crosses)) (after_reply c t (reading calls ended fuel due (map (lined c) ws) shadow) (what.Enter way args) (Entered n q crosses))
entry_replied c h calls ended fuel due [] shadow t (Direct f) args n q crosses p free = made c calls ended fuel due [] (q ∷ shadow) tt
entry_replied c h calls ended fuel due (Ran a ∷ ws) shadow t (Direct f) args n q crosses p free = made c calls ended fuel due (Ran a ∷ ws) (q ∷ shadow) p
entry_replied c h calls ended fuel due [] shadow t (Script f) args n q crosses p free = enters c h calls ended fuel due [] shadow t true (Script f) args n q crosses tt
entry_replied c h calls ended fuel due (Ran a ∷ ws) shadow t (Script f) args n q crosses p free = enters c h calls ended fuel due (Ran a ∷ ws) shadow t true (Script f) args n q crosses p
entry_replied c h calls ended fuel due [] shadow t (Slot s ty) args n q crosses p free = enters c h calls ended fuel due [] shadow t true (Slot s ty) args n q crosses tt
entry_replied c h calls ended fuel due (Ran a ∷ ws) shadow t (Slot s ty) args n q crosses p free = enters c h calls ended fuel due (Ran a ∷ ws) shadow t true (Slot s ty) args n q crosses p
entry_replied c h calls ended fuel due [] shadow t (Indirect b) args n q crosses p free = enters c h calls ended fuel due [] shadow t true (Indirect b) args n q crosses tt
entry_replied c h calls ended fuel due (Ran a ∷ ws) shadow t (Indirect b) args n q crosses p free =
    enters c h calls ended fuel due (Ran a ∷ ws) shadow t (fits_site c (Indirect b) (map (lined c) (Ran a ∷ ws)) n) (Indirect b) args n q crosses p
entry_replied c h calls ended fuel due (Wrapped m as' place w x ∷ ws) shadow t way args n q crosses p free = absurd free

returns_both : (c : Code) (calls : List ScriptCall) (ended : List Ending) (fuel : ℕ) (due : Option Outcome) (ws : List Worded) (shadow : List Principal) (t low high : ℕ) (reply : Reply) → Placed c ws → NoWrapper ws →
    Alike c (counted_after_reply c t (counting calls ended fuel due (map counted ws) shadow) (what.Return low high) reply) (after_reply c t (reading calls ended fuel due (map (lined c) ws) shadow) (what.Return low high) reply)
returns_both c calls ended fuel due [] shadow t low high reply p free = made c calls ended fuel due [] shadow tt
returns_both c calls ended fuel due (Ran a ∷ ws) shadow t low high reply p free =
    leaves c calls ended fuel ws (map counted (Ran a ∷ ws)) (map (lined c) (Ran a ∷ ws)) shadow due (returned_value c.program a) p
returns_both c calls ended fuel due (Wrapped n args place w x ∷ ws) shadow t low high reply p free = absurd free

performs_both : (c : Code) (calls : List ScriptCall) (ended : List Ending) (fuel : ℕ) (due : Option Outcome) (ws : List Worded) (shadow : List Principal) (t : ℕ) (x : What) (reply : Reply) → Placed c ws → NoWrapper ws →
    (n : ℕ) (post : Bool) (k : ℕ) (env : _) (source dest : Principal) →
    Alike c (counted_after_reply c t (counting calls ended fuel due (map counted ws) shadow) (what.Perform n post k env source dest) reply) (after_reply c t (reading calls ended fuel due (map (lined c) ws) shadow) (what.Perform n post k env source dest) reply)
performs_both c calls ended fuel due [] shadow t x reply p free n post k env source dest = made c calls ended fuel due [] shadow tt
performs_both c calls ended fuel due (Ran a ∷ ws) shadow t x reply p free n post k env source dest = made c calls ended fuel due (Ran a ∷ ws) shadow p
performs_both c calls ended fuel due (Wrapped m args place w y ∷ ws) shadow t x reply p free n post k env source dest = absurd free

stacks_both : (c : Code) (calls : List ScriptCall) (ended : List Ending) (fuel : ℕ) (due : Option Outcome) (ws : List Worded) (shadow : List Principal) (t at size : ℕ) (reply : Reply) → Placed c ws → NoWrapper ws →
    Alike c (counted_after_reply c t (counting calls ended fuel due (map counted ws) shadow) (what.Alloca at size) reply) (after_reply c t (reading calls ended fuel due (map (lined c) ws) shadow) (what.Alloca at size) reply)
stacks_both c calls ended fuel due [] shadow t at size reply p free = made c calls ended fuel due [] shadow tt
stacks_both c calls ended fuel due (Ran a ∷ ws) shadow t at size reply p free = made c calls ended fuel due (Ran (activation_behind (Some (word W64 at)) (with_alloca at size a)) ∷ ws) shadow p
stacks_both c calls ended fuel due (Wrapped n args place w x ∷ ws) shadow t at size reply p free = absurd free

-- a request of a function, or of no frame
pub replied : (c : Code) → WrapsWell c → (calls : List ScriptCall) (ended : List Ending) (fuel : ℕ) (due : Option Outcome) (ws : List Worded) (shadow : List Principal) → Placed c ws → NoWrapper ws → (who : Principal) (x : What) →
    AbsorbAlike c (counting calls ended fuel due (map counted ws) shadow) (reading calls ended fuel due (map (lined c) ws) shadow) (request who x)
replied c h calls ended fuel due ws shadow p free who x t (Ended o) = ends c calls ended fuel due (map counted ws) (map (lined c) ws) shadow t (request who x) o
replied c h calls ended fuel due ws shadow p free who (what.Alloca at size) t (Value y) = stacks_both c calls ended fuel due ws shadow t at size (Value y) p free
replied c h calls ended fuel due ws shadow p free who (what.Alloca at size) t Done = stacks_both c calls ended fuel due ws shadow t at size Done p free
replied c h calls ended fuel due ws shadow p free who (what.Alloca at size) t (Entered n q crosses) = stacks_both c calls ended fuel due ws shadow t at size (Entered n q crosses) p free
replied c h calls ended fuel due ws shadow p free who (what.Perform m post k env source dest) t (Value y) = performs_both c calls ended fuel due ws shadow t (what.Return 0 0) (Value y) p free m post k env source dest
replied c h calls ended fuel due ws shadow p free who (what.Perform m post k env source dest) t Done = performs_both c calls ended fuel due ws shadow t (what.Return 0 0) Done p free m post k env source dest
replied c h calls ended fuel due ws shadow p free who (what.Perform m post k env source dest) t (Entered n q crosses) = performs_both c calls ended fuel due ws shadow t (what.Return 0 0) (Entered n q crosses) p free m post k env source dest
replied c h calls ended fuel due ws shadow p free who (what.Return low high) t (Value y) = returns_both c calls ended fuel due ws shadow t low high (Value y) p free
replied c h calls ended fuel due ws shadow p free who (what.Return low high) t Done = returns_both c calls ended fuel due ws shadow t low high Done p free
replied c h calls ended fuel due ws shadow p free who (what.Return low high) t (Entered n q crosses) = returns_both c calls ended fuel due ws shadow t low high (Entered n q crosses) p free
replied c h calls ended fuel due ws shadow p free who (what.Enter way args) t (Entered n q crosses) = entry_replied c h calls ended fuel due ws shadow t way args n q crosses p free
replied c h calls ended fuel due ws shadow p free who (what.Enter (Direct f) args) t (Value y) = passes c calls ended fuel due ws shadow (Some y) p
replied c h calls ended fuel due ws shadow p free who (what.Enter (Script f) args) t (Value y) = passes c calls ended fuel due ws shadow (Some y) p
replied c h calls ended fuel due ws shadow p free who (what.Enter (Indirect f) args) t (Value y) = passes c calls ended fuel due ws shadow (Some y) p
replied c h calls ended fuel due ws shadow p free who (what.Enter (Slot f ty) args) t (Value y) = passes c calls ended fuel due ws shadow (Some y) p
replied c h calls ended fuel due ws shadow p free who (what.Enter (Direct f) args) t Done = passes c calls ended fuel due ws shadow None p
replied c h calls ended fuel due ws shadow p free who (what.Enter (Script f) args) t Done = passes c calls ended fuel due ws shadow None p
replied c h calls ended fuel due ws shadow p free who (what.Enter (Indirect f) args) t Done = passes c calls ended fuel due ws shadow None p
replied c h calls ended fuel due ws shadow p free who (what.Enter (Slot f ty) args) t Done = passes c calls ended fuel due ws shadow None p
replied c h calls ended fuel due ws shadow p free who x t (Value y) = passes c calls ended fuel due ws shadow (Some y) p
replied c h calls ended fuel due ws shadow p free who x t Done = passes c calls ended fuel due ws shadow None p
replied c h calls ended fuel due ws shadow p free who x t (Entered n q crosses) = passes c calls ended fuel due ws shadow None p

-- a request of a wrapper

pub enter_replied : (c : Code) (calls : List ScriptCall) (ended : List Ending) (fuel : ℕ) (n : ℕ) (args : List Word) (w : Wording) (x : Option Word) (ws : List Worded) (shadow : List Principal) → Waiting ws → (who : Principal) →
    AbsorbAlike c (counting calls ended fuel None (map counted (Wrapped n args AtEnter w x ∷ ws)) shadow) (reading calls ended fuel None (map (lined c) (Wrapped n args AtEnter w x ∷ ws)) shadow) (request who (what.Enter (Direct n) args))
enter_replied c calls ended fuel n args w x ws shadow wait who t (Ended o) =
    ends c calls ended fuel None (map counted (Wrapped n args AtEnter w x ∷ ws)) (map (lined c) (Wrapped n args AtEnter w x ∷ ws)) shadow t (request who (what.Enter (Direct n) args)) o
enter_replied c calls ended fuel n args w x ws shadow wait who t (Value y) = made c calls ended fuel None (Wrapped n args AtEnter w x ∷ ws) shadow (tt, wait)
enter_replied c calls ended fuel n args w x ws shadow wait who t Done = made c calls ended fuel None (Wrapped n args AtEnter w x ∷ ws) shadow (tt, wait)
enter_replied c calls ended fuel n args w x ws shadow wait who t (Entered m q crosses) =
    framed c calls ended fuel None (at_pre c t 0 n args (map counted ws)) (at_lines c t n args x (map (lined c) ws) (from_pre w (annotation_or_none c.program n) 0 (annotation_or_none c.program n).pre)) (q ∷ shadow)
    (coming c t n 0 args w x ws (annotation_or_none c.program n).pre refl wait)

pub pre_replied : (c : Code) (calls : List ScriptCall) (ended : List Ending) (fuel : ℕ) (n : ℕ) (args : List Word) (k : ℕ) (w : Wording) (x : Option Word) (ws : List Worded) (shadow : List Principal) → Waiting ws → has_action c.program n false k ≡ true → (r : Request) (m : ℕ) (post : Bool) (i : ℕ) (env : _) (source dest : Principal) → r.what ≡ what.Perform m post i env source dest →
    AbsorbAlike c (counting calls ended fuel None (map counted (Wrapped n args (AtPre k) w x ∷ ws)) shadow) (reading calls ended fuel None (map (lined c) (Wrapped n args (AtPre k) w x ∷ ws)) shadow) (request r.who (what.Perform m post i env source dest))
pre_replied c calls ended fuel n args k w x ws shadow wait has r m post i env source dest e t (Ended o) =
    ends c calls ended fuel None (map counted (Wrapped n args (AtPre k) w x ∷ ws)) (map (lined c) (Wrapped n args (AtPre k) w x ∷ ws)) shadow t (request r.who (what.Perform m post i env source dest)) o
pre_replied c calls ended fuel n args k w x ws shadow wait has r m post i env source dest e t reply =
    framed c calls ended fuel None (at_pre c t (suc k) n args (map counted ws)) (at_lines c t n args x (map (lined c) ws) (behind_head (from_pre w (annotation_or_none c.program n) k (drop k (annotation_or_none c.program n).pre)))) shadow
    (behind_pre c t n k args w x ws (drop k (annotation_or_none c.program n).pre) refl (goes (annotation_or_none c.program n).pre k) has wait)

pub post_replied : (c : Code) (calls : List ScriptCall) (ended : List Ending) (fuel : ℕ) (n : ℕ) (args : List Word) (k : ℕ) (y : Option Word) (w : Wording) (x : Option Word) (ws : List Worded) (shadow : List Principal) → Waiting ws → has_action c.program n true k ≡ true → (r : Request) (m : ℕ) (post : Bool) (i : ℕ) (env : _) (source dest : Principal) → r.what ≡ what.Perform m post i env source dest →
    AbsorbAlike c (counting calls ended fuel None (map counted (Wrapped n args (AtPost k y) w x ∷ ws)) shadow) (reading calls ended fuel None (map (lined c) (Wrapped n args (AtPost k y) w x ∷ ws)) shadow) (request r.who (what.Perform m post i env source dest))
post_replied c calls ended fuel n args k y w x ws shadow wait has r m post i env source dest e t (Ended o) =
    ends c calls ended fuel None (map counted (Wrapped n args (AtPost k y) w x ∷ ws)) (map (lined c) (Wrapped n args (AtPost k y) w x ∷ ws)) shadow t (request r.who (what.Perform m post i env source dest)) o
post_replied c calls ended fuel n args k y w x ws shadow wait has r m post i env source dest e t reply =
    framed c calls ended fuel None (CountedWraps n args (AtPost (suc k) y) ∷ map counted ws) (at_lines c t n args y (map (lined c) ws) (behind_head (from_post w k (drop k (annotation_or_none c.program n).post)))) shadow
    (behind_post c t n k args w y x ws (drop k (annotation_or_none c.program n).post) refl (goes (annotation_or_none c.program n).post k) has wait)
