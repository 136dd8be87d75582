-- A reply leads both runs to the same place.
use Rattle.std.proofs.Common.{◌≡◌, ℕ, suc, Bool, true, false, List, [], ◌∷◌, length, Option, Some, None, refl, sym, subst, ◌∙◌, ap}
use Rattle.std.specs.Prelude.{is_some, cond}
use Rattle.lx_words.specs.declared.word.Width.TheVariants.{W64}
use Rattle.lx_words.specs.Word.{Word, word}
use Rattle.lx_caps.specs.declared.Principal.{Principal}
use Rattle.lx_model.specs.declared.program.Program.{Program}
use Rattle.lx_model.specs.declared.program.ScriptCall.{ScriptCall}
use Rattle.lx_model.specs.declared.request.Outcome.{Outcome}
use Rattle.lx_model.specs.declared.request.Outcome.TheVariants.{Trapped}
use Rattle.lx_model.specs.declared.request.Reply.{Reply}
use Rattle.lx_model.specs.declared.request.Reply.TheVariants.{Value, Entered, Ended}
use Rattle.lx_model.specs.declared.request.Trap.TheVariants.{Signature}
use Rattle.lx_model.specs.declared.request.Way.{Way}
use Rattle.lx_model.specs.declared.request.Way.TheVariants.{Script, Direct, Indirect, Slot}
use Rattle.lx_model.specs.declared.request.What.{What}
use Rattle.lx_model.specs.declared.request.What.TheVariants as what
use Rattle.lx_model.specs.Program.{function_of}
use Rattle.lx_model.specs.Thread.{Stage, Pre, Body, Post, Crossing, Frame, Ending, with_register, head_destination, top_of_stack}
use Rattle.lx_model.specs.Effect.{returned_value}
use Rattle.lx_model.specs.Next.{request, with_alloca, with_stack_bytes, thread_behind, after_ret, after_ret_of, after_entry, entered_frame, crossing_if, first_stage, way_address, after_action, crossing_on, next_stage, fits_site, has_action, other_calls, absorb}
use Rattle.lx_linked.specs.Filled.{Fill, refill, param_count}
use Rattle.lx_linked.proofs.AssignedEffects.{returned_same}
use Rattle.lx_linked.proofs.Signatures.{Linked, Takes}
use Rattle.lx_linked.proofs.Calling.{needs, IsReturn, returns_result}
use Rattle.lx_linked.proofs.Entering.{EntryFits, RepliesWell, top_code, entry_takes}
use Rattle.lx_linked.proofs.Frames.{frame_with, with_all, thread_of, StageGives, CrossingGives, FramesStood, CallsFit, AskedWell, ComesSame, kept, emptied, pushed, begun, stands_behind, stands_with_bytes, stands_without_bytes}
use Rattle.lx_linked.proofs.Stepping.{leaves_same}

-- a value, or none, for the top frame
behind_same : (fill : Fill) (p : Program) (t : ℕ) (calls : List ScriptCall) (ended : List Ending) (fuel : ℕ) (due : Option Outcome) (fs : List Frame) (qs : List (List Word)) (v : Option Word) → CallsFit p calls → FramesStood p fs qs → (needs (top_code fs) ≡ true → is_some v ≡ true) →
    ComesSame fill p t (thread_of calls ended fuel due (with_all qs fs)) (thread_behind v (thread_of calls ended fuel due fs)) (thread_behind v (thread_of calls ended fuel due (with_all qs fs)))
behind_same fill p t calls ended fuel due [] [] v fit st gives = ([], emptied fill p t (thread_of calls ended fuel due []) calls ended fuel due, (tt, fit))
behind_same fill p t calls ended fuel due [] (q ∷ qs) v fit st gives = absurd st
behind_same fill p t calls ended fuel due (f ∷ fs) [] v fit st gives = absurd st
behind_same fill p t calls ended fuel due (f ∷ fs) (q ∷ qs) v fit st gives = (
  with_register (head_destination f.run.code) v q ∷ qs,
  kept fill p t (thread_of calls ended fuel due (frame_with q f ∷ with_all qs fs)) (thread_behind v (thread_of calls ended fuel due (frame_with q f ∷ with_all qs fs))) refl,
  ((stands_behind p f.run q v gives st.0, st.1, st.2), fit),
)

-- bytes on the stack
alloca_same : (fill : Fill) (p : Program) (t : ℕ) (calls : List ScriptCall) (ended : List Ending) (fuel : ℕ) (due : Option Outcome) (fs : List Frame) (qs : List (List Word)) (at size : ℕ) → CallsFit p calls → FramesStood p fs qs →
    ComesSame fill p t (thread_of calls ended fuel due (with_all qs fs)) (thread_behind (Some (word W64 at)) (with_stack_bytes at size (thread_of calls ended fuel due fs))) (thread_behind (Some (word W64 at)) (with_stack_bytes at size (thread_of calls ended fuel due (with_all qs fs))))
alloca_same fill p t calls ended fuel due [] [] at size fit st = ([], emptied fill p t (thread_of calls ended fuel due []) calls ended fuel due, (tt, fit))
alloca_same fill p t calls ended fuel due [] (q ∷ qs) at size fit st = absurd st
alloca_same fill p t calls ended fuel due (f ∷ fs) [] at size fit st = absurd st
alloca_same fill p t calls ended fuel due (f ∷ fs) (q ∷ qs) at size fit st = (
  with_register (head_destination f.run.code) (Some (word W64 at)) q ∷ qs,
  kept fill p t (thread_of calls ended fuel due (frame_with q f ∷ with_all qs fs)) (thread_behind (Some (word W64 at)) (with_stack_bytes at size (thread_of calls ended fuel due (frame_with q f ∷ with_all qs fs)))) refl,
  ((stands_behind p (with_alloca at size f.run) q (Some (word W64 at)) (λ h. refl) (stands_with_bytes p f.run q at size st.0), st.1, st.2), fit),
)

-- a function that is entered

first_gives : (b : Bool) → StageGives (first_stage b)
first_gives true = tt
first_gives false = tt

entry_gives : (p : Program) (b : Bool) (n : ℕ) (who : Principal) (args : List Word) (first : Bool) → CrossingGives (crossing_if b (record { function = n; source = who; args = args; stage = first_stage first }))
entry_gives p true n who args first = first_gives first
entry_gives p false n who args first = tt

entered_with : (fill : Fill) (p : Program) (t : ℕ) (calls : List ScriptCall) (ended : List Ending) (fuel : ℕ) (due : Option Outcome) (fs gs : List Frame) (qs : List (List Word)) (way : Way) (who r : Principal) (n : ℕ) (args : List Word) (crosses : Bool) → with_all qs fs ≡ gs → top_of_stack t gs ≡ top_of_stack t fs → CallsFit p calls → FramesStood p fs qs →
    (b : Bool) → (b ≡ true → Takes p (needs (top_code fs)) (length args) n) →
    ComesSame fill p t (thread_of calls ended fuel due gs) (after_entry b way (entered_frame p t who args fs n r crosses) (thread_of calls ended fuel due fs)) (after_entry b way (entered_frame p t who args fs n r crosses) (thread_of calls ended fuel due gs))
entered_with fill p t calls ended fuel due fs gs qs way who r n args crosses eg top fit st false takes = ([], emptied fill p t (thread_of calls ended fuel due gs) calls ended fuel (Some (Trapped (Signature (way_address way)))), (tt, fit))
entered_with fill p t calls ended fuel due fs gs qs way who r n args crosses eg top fit st true takes =
    let e : Frame = entered_frame p t who args fs n r crosses in
    let rs : List Word = refill (param_count (function_of p n)) (fill t (thread_of calls ended fuel due gs)) e.run.registers in (
      rs ∷ qs,
      pushed fill p t (thread_of calls ended fuel due gs) calls ended fuel due e gs refl ∙ ap (λ (hs : List Frame). thread_of calls ended fuel due (frame_with rs e ∷ hs)) (sym eg),
      ((begun p (needs (top_code fs)) n args (top_of_stack t fs) (fill t (thread_of calls ended fuel due gs)) (takes refl), (λ h. ((λ g ef. (takes refl g ef).1 h), entry_gives p crosses n who args (has_action p n false 0))), st), fit),
    )

entry_same : (fill : Fill) (p : Program) (t : ℕ) (calls : List ScriptCall) (ended : List Ending) (fuel : ℕ) (due : Option Outcome) (fs : List Frame) (qs : List (List Word)) (way : Way) (who r : Principal) (n : ℕ) (args : List Word) (crosses : Bool) → CallsFit p calls → FramesStood p fs qs → EntryFits p (top_code fs) way args n →
    ComesSame fill p t (thread_of calls ended fuel due (with_all qs fs)) (after_entry (fits_site p way fs n) way (entered_frame p t who args fs n r crosses) (thread_of calls ended fuel due fs))
    (after_entry (fits_site p way (with_all qs fs) n) way (entered_frame p t who args (with_all qs fs) n r crosses) (thread_of calls ended fuel due (with_all qs fs)))
entry_same fill p t calls ended fuel due [] [] way who r n args crosses fit st takes =
    entered_with fill p t calls ended fuel due [] [] [] way who r n args crosses refl refl fit st (fits_site p way [] n) (λ e. entry_takes p way args [] n e takes)
entry_same fill p t calls ended fuel due [] (q ∷ qs) way who r n args crosses fit st takes = absurd st
entry_same fill p t calls ended fuel due (f ∷ fs) [] way who r n args crosses fit st takes = absurd st
entry_same fill p t calls ended fuel due (f ∷ fs) (q ∷ qs) way who r n args crosses fit st takes =
    subst (λ (b : Bool). ComesSame fill p t (thread_of calls ended fuel due (frame_with q f ∷ with_all qs fs)) (after_entry (fits_site p way (f ∷ fs) n) way (entered_frame p t who args (f ∷ fs) n r crosses) (thread_of calls ended fuel due (f ∷ fs)))
    (after_entry b way (entered_frame p t who args (frame_with q f ∷ with_all qs fs) n r crosses) (thread_of calls ended fuel due (frame_with q f ∷ with_all qs fs)))) (site_same way)
    (entered_with fill p t calls ended fuel due (f ∷ fs) (frame_with q f ∷ with_all qs fs) (q ∷ qs) way who r n args crosses refl refl fit st (fits_site p way (f ∷ fs) n) (λ e. entry_takes p way args (f ∷ fs) n e takes))
  where
    site_same : (w : Way) → fits_site p w (f ∷ fs) n ≡ fits_site p w (frame_with q f ∷ with_all qs fs) n
    site_same (Script m) = refl
    site_same (Direct m) = refl
    site_same (Indirect a) = refl
    site_same (Slot at ty) = refl

-- an action of a crossing

stage_if : (b : Bool) (x y : Stage) → StageGives x → StageGives y → StageGives (cond b x y)
stage_if true x y gx gy = gx
stage_if false x y gx gy = gy

next_gives : (p : Program) (n : ℕ) (s : Stage) → StageGives s → StageGives (next_stage p n s)
next_gives p n (Pre k) g = stage_if (has_action p n false (suc k)) (Pre (suc k)) Body tt tt
next_gives p n Body g = tt
next_gives p n (Post k v) g = g

acted_gives : (p : Program) (x : Option Crossing) → CrossingGives x → CrossingGives (crossing_on p x)
acted_gives p None g = tt
acted_gives p (Some c) g = next_gives p c.function c.stage g

action_same : (fill : Fill) (p : Program) (t : ℕ) (calls : List ScriptCall) (ended : List Ending) (fuel : ℕ) (due : Option Outcome) (fs : List Frame) (qs : List (List Word)) → CallsFit p calls → FramesStood p fs qs →
    ComesSame fill p t (thread_of calls ended fuel due (with_all qs fs)) (after_action p (thread_of calls ended fuel due fs)) (after_action p (thread_of calls ended fuel due (with_all qs fs)))
action_same fill p t calls ended fuel due [] [] fit st = ([], emptied fill p t (thread_of calls ended fuel due []) calls ended fuel due, (tt, fit))
action_same fill p t calls ended fuel due [] (q ∷ qs) fit st = absurd st
action_same fill p t calls ended fuel due (f ∷ fs) [] fit st = absurd st
action_same fill p t calls ended fuel due (f ∷ fs) (q ∷ qs) fit st = (
  q ∷ qs,
  kept fill p t (thread_of calls ended fuel due (frame_with q f ∷ with_all qs fs)) (after_action p (thread_of calls ended fuel due (frame_with q f ∷ with_all qs fs))) refl,
  ((st.0, (λ h. ((st.1 h).0, acted_gives p f.crossing (st.1 h).1)), st.2), fit),
)

-- a function that returns

ret_with : (fill : Fill) (p : Program) (t : ℕ) (calls : List ScriptCall) (ended : List Ending) (fuel : ℕ) (due : Option Outcome) (f : Frame) (fs : List Frame) (q : List Word) (qs : List (List Word)) (x : Option Crossing) (v : Option Word) → CallsFit p calls → FramesStood p (f ∷ fs) (q ∷ qs) → (needs (top_code fs) ≡ true → is_some v ≡ true) →
    ComesSame fill p t (thread_of calls ended fuel due (frame_with q f ∷ with_all qs fs)) (after_ret_of x f fs v (thread_of calls ended fuel due (f ∷ fs))) (after_ret_of x (frame_with q f) (with_all qs fs) v (thread_of calls ended fuel due (frame_with q f ∷ with_all qs fs)))
ret_with fill p t calls ended fuel due f fs q qs None v fit st gives =
    leaves_same fill p t (thread_of calls ended fuel due (frame_with q f ∷ with_all qs fs)) calls ended fuel due (f ∷ fs) (frame_with q f ∷ with_all qs fs) fs qs v refl fit st.2 gives
ret_with fill p t calls ended fuel due f fs q qs (Some c) v fit st gives = (
  q ∷ qs,
  kept fill p t (thread_of calls ended fuel due (frame_with q f ∷ with_all qs fs)) (after_ret_of (Some c) (frame_with q f) (with_all qs fs) v (thread_of calls ended fuel due (frame_with q f ∷ with_all qs fs))) refl,
  ((stands_without_bytes p f.run q st.0, (λ h. ((st.1 h).0, gives h)), st.2), fit),
)

return_same : (fill : Fill) (p : Program) → Linked p → (t : ℕ) (calls : List ScriptCall) (ended : List Ending) (fuel : ℕ) (due : Option Outcome) (fs : List Frame) (qs : List (List Word)) → CallsFit p calls → FramesStood p fs qs → IsReturn (top_code fs) →
    ComesSame fill p t (thread_of calls ended fuel due (with_all qs fs)) (after_ret p fs (thread_of calls ended fuel due fs)) (after_ret p (with_all qs fs) (thread_of calls ended fuel due (with_all qs fs)))
return_same fill p l t calls ended fuel due [] [] fit st ret = absurd ret
return_same fill p l t calls ended fuel due [] (q ∷ qs) fit st ret = absurd st
return_same fill p l t calls ended fuel due (f ∷ fs) [] fit st ret = absurd st
return_same fill p l t calls ended fuel due (f ∷ fs) (q ∷ qs) fit st ret =
    subst (λ (v : Option Word). ComesSame fill p t (thread_of calls ended fuel due (frame_with q f ∷ with_all qs fs)) (after_ret_of f.crossing f fs (returned_value p f.run) (thread_of calls ended fuel due (f ∷ fs)))
    (after_ret_of f.crossing (frame_with q f) (with_all qs fs) v (thread_of calls ended fuel due (frame_with q f ∷ with_all qs fs)))) (sym (returned_same p l.verified f.run q st.0))
    (ret_with fill p t calls ended fuel due f fs q qs f.crossing (returned_value p f.run) fit st (λ h. returns_result p l f.run q ret st.0 (st.1 h).0))

-- any reply

ended_fit : (p : Program) (calls : List ScriptCall) → CallsFit p calls → CallsFit p (other_calls calls)
ended_fit p [] fit = tt
ended_fit p (c ∷ cs) fit = fit.1

not_needed : (b : Bool) (v : Option Word) → b ≡ false → b ≡ true → is_some v ≡ true
not_needed true v e h = absurd (true_false e)
  where
    true_false : true ≡ false → ⊥
    true_false e = cc
not_needed false v e h = absurd (false_true h)
  where
    false_true : false ≡ true → ⊥
    false_true e = cc

pub absorbed_same : (fill : Fill) (p : Program) → Linked p → (t : ℕ) (calls : List ScriptCall) (ended : List Ending) (fuel : ℕ) (due : Option Outcome) (fs : List Frame) (qs : List (List Word)) (who : Principal) (w : What) (reply : Reply) → CallsFit p calls → FramesStood p fs qs → AskedWell p fs w → RepliesWell p (top_code fs) w reply →
    ComesSame fill p t (thread_of calls ended fuel due (with_all qs fs)) (absorb p t (thread_of calls ended fuel due fs) (request who w) reply) (absorb p t (thread_of calls ended fuel due (with_all qs fs)) (request who w) reply)
absorbed_same fill p l t calls ended fuel due fs qs who w (Ended o) fit st asked r = ([], emptied fill p t (thread_of calls ended fuel due (with_all qs fs)) _ _ _ None, (tt, ended_fit p calls fit))
absorbed_same fill p l t calls ended fuel due fs qs who (what.Alloca at size) reply fit st asked r = alloca_same fill p t calls ended fuel due fs qs at size fit st
absorbed_same fill p l t calls ended fuel due fs qs who (what.Enter way args) (Entered n q x) fit st asked r = entry_same fill p t calls ended fuel due fs qs way who q n args x fit st r
absorbed_same fill p l t calls ended fuel due fs qs who (what.Enter way args) reply fit st asked r = absurd r
absorbed_same fill p l t calls ended fuel due fs qs who (what.Perform n post k env source dest) reply fit st asked r = action_same fill p t calls ended fuel due fs qs fit st
absorbed_same fill p l t calls ended fuel due fs qs who (what.Return low high) reply fit st asked r = return_same fill p l t calls ended fuel due fs qs fit st asked
absorbed_same fill p l t calls ended fuel due fs qs who (what.Finish o) reply fit st asked r = absurd r
absorbed_same fill p l t calls ended fuel due fs qs who w (Value v) fit st asked r = behind_same fill p t calls ended fuel due fs qs (Some v) fit st (λ h. refl)
absorbed_same fill p l t calls ended fuel due fs qs who w reply fit st asked r = behind_same fill p t calls ended fuel due fs qs None fit st (not_needed (needs (top_code fs)) None r)
