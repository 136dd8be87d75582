-- A thread without its principals takes replies in alike.
use Rattle.std.proofs.Common.{◌≡◌, ℕ, Bool, true, false, List, [], ◌∷◌, map, Option, Some, None, option_map, refl, ap, ◌∙◌}
use Rattle.lx_words.specs.Word.{Word}
use Rattle.lx_caps.specs.declared.Principal.{Principal}
use Rattle.lx_model.specs.declared.program.Program.{Program}
use Rattle.lx_model.specs.declared.request.Way.{Way}
use Rattle.lx_model.specs.declared.request.Way.TheVariants.{Script, Direct, Indirect, Slot}
use Rattle.lx_model.specs.declared.request.What.{What}
use Rattle.lx_model.specs.declared.request.What.TheVariants as what
use Rattle.lx_model.specs.declared.request.Request.{Request}
use Rattle.lx_model.specs.declared.request.Reply.{Reply}
use Rattle.lx_model.specs.declared.request.Reply.TheVariants.{Value, Done, Entered, Ended}
use Rattle.lx_model.specs.Thread.{Crossing, Frame, Thread, top_of_stack}
use Rattle.lx_model.specs.Next.{absorb, after_reply, on_top, thread_behind, with_stack_bytes, entered_frame, fits_site, after_entry, crossing_on, after_action, after_ret, after_ret_of}
use Rattle.lx_model.specs.Plain.{forget_principal, forget_crossing, forget_frame, forget_thread}
use Rattle.lx_model.proofs.Forgetting.{forget_what, forget_request, leaving_alike}

abbrev pub forget_reply : Reply → Reply
forget_reply (Entered n q c) = Entered n (forget_principal q) c
forget_reply r = r

on_top_alike : (change : Frame → Frame) (fs : List Frame) → ((f : Frame) → change (forget_frame f) ≡ forget_frame (change f)) → on_top change (map forget_frame fs) ≡ map forget_frame (on_top change fs)
on_top_alike change [] h = refl
on_top_alike change (f ∷ fs) h = ap (λ g. g ∷ map forget_frame fs) (h f)

behind_alike : (v : Option Word) (thread : Thread) → thread_behind v (forget_thread thread) ≡ forget_thread (thread_behind v thread)
behind_alike v thread = ap (λ fs. record thread { frames = fs }) (on_top_alike _ thread.frames (λ f. refl))

bytes_alike : (at size : ℕ) (thread : Thread) → with_stack_bytes at size (forget_thread thread) ≡ forget_thread (with_stack_bytes at size thread)
bytes_alike at size thread = ap (λ fs. record thread { frames = fs }) (on_top_alike _ thread.frames (λ f. refl))

crossing_alike : (p : Program) (c : Option Crossing) → crossing_on p (option_map forget_crossing c) ≡ option_map forget_crossing (crossing_on p c)
crossing_alike p None = refl
crossing_alike p (Some c) = refl

action_alike : (p : Program) (thread : Thread) → after_action p (forget_thread thread) ≡ forget_thread (after_action p thread)
action_alike p thread =
    ap (λ fs. record thread { frames = fs }) (on_top_alike _ thread.frames (λ f. ap (λ c. record { run = f.run; principal = forget_principal f.principal; crossing = c }) (crossing_alike p f.crossing)))

ret_of_alike : (c : Option Crossing) (f : Frame) (fs : List Frame) (v : Option Word) (thread : Thread) →
    after_ret_of (option_map forget_crossing c) (forget_frame f) (map forget_frame fs) v (forget_thread thread) ≡ forget_thread (after_ret_of c f fs v thread)
ret_of_alike None f fs v thread = leaving_alike v fs thread
ret_of_alike (Some c) f fs v thread = refl

ret_alike : (p : Program) (fs : List Frame) (thread : Thread) → after_ret p (map forget_frame fs) (forget_thread thread) ≡ forget_thread (after_ret p fs thread)
ret_alike p [] thread = refl
ret_alike p (f ∷ fs) thread = ret_of_alike f.crossing f fs _ thread

site_alike : (p : Program) (way : Way) (fs : List Frame) (n : ℕ) → fits_site p way (map forget_frame fs) n ≡ fits_site p way fs n
site_alike p (Script k) fs n = refl
site_alike p (Direct k) fs n = refl
site_alike p (Indirect a) [] n = refl
site_alike p (Indirect a) (f ∷ fs) n = refl
site_alike p (Slot slot ty) fs n = refl

stack_alike : (t : ℕ) (fs : List Frame) → top_of_stack t (map forget_frame fs) ≡ top_of_stack t fs
stack_alike t [] = refl
stack_alike t (f ∷ fs) = refl

entered_if : (crosses : Bool) (p : Program) (t : ℕ) (who : Principal) (args : List Word) (fs : List Frame) (n : ℕ) (q : Principal) →
    entered_frame p t (forget_principal who) args fs n (forget_principal q) crosses ≡ forget_frame (entered_frame p t who args fs n q crosses)
entered_if true p t who args fs n q = refl
entered_if false p t who args fs n q = refl

-- the frame depends on those below by the top of the stack alone
entered_top : (p : Program) (t : ℕ) (who : Principal) (args : List Word) (fs : List Frame) (n : ℕ) (q : Principal) (crosses : Bool) →
    entered_frame p t who args (map forget_frame fs) n q crosses ≡ entered_frame p t who args fs n q crosses
entered_top p t who args [] n q crosses = refl
entered_top p t who args (f ∷ fs) n q crosses = refl

entry_alike : (fits : Bool) (way : Way) (f : Frame) (thread : Thread) → after_entry fits way (forget_frame f) (forget_thread thread) ≡ forget_thread (after_entry fits way f thread)
entry_alike true way f thread = refl
entry_alike false way f thread = refl

enter_alike : (p : Program) (t : ℕ) (thread : Thread) (who : Principal) (way : Way) (args : List Word) (n : ℕ) (q : Principal) (crosses : Bool) →
    after_reply p t (forget_thread thread) (forget_principal who) (what.Enter way args) (Entered n (forget_principal q) crosses)
    ≡ forget_thread (after_reply p t thread who (what.Enter way args) (Entered n q crosses))
enter_alike p t thread who way args n q crosses =
    ap (λ b. after_entry b way (entered_frame p t (forget_principal who) args (map forget_frame thread.frames) n (forget_principal q) crosses) (forget_thread thread)) (site_alike p way thread.frames n)
    ∙ (ap (λ f. after_entry (fits_site p way thread.frames n) way f (forget_thread thread))
    (entered_top p t (forget_principal who) args thread.frames n (forget_principal q) crosses ∙ entered_if crosses p t who args thread.frames n q)
    ∙ entry_alike (fits_site p way thread.frames n) way (entered_frame p t who args thread.frames n q crosses) thread)

alloca_alike : (at size : ℕ) (v : Option Word) (thread : Thread) → thread_behind v (with_stack_bytes at size (forget_thread thread)) ≡ forget_thread (thread_behind v (with_stack_bytes at size thread))
alloca_alike at size v thread = ap (thread_behind v) (bytes_alike at size thread) ∙ behind_alike v (with_stack_bytes at size thread)

reply_alike : (p : Program) (t : ℕ) (thread : Thread) (who : Principal) (w : What) (reply : Reply) →
    absorb p t (forget_thread thread) (record { who = forget_principal who; what = forget_what w }) (forget_reply reply) ≡ forget_thread (absorb p t thread (record { who = who; what = w }) reply)
reply_alike p t thread who w (Ended o) = refl
reply_alike p t thread who (what.Alloca at size) (Value v) = alloca_alike at size _ thread
reply_alike p t thread who (what.Alloca at size) Done = alloca_alike at size _ thread
reply_alike p t thread who (what.Alloca at size) (Entered n q c) = alloca_alike at size _ thread
reply_alike p t thread who (what.Enter way args) (Value v) = behind_alike _ thread
reply_alike p t thread who (what.Enter way args) Done = behind_alike _ thread
reply_alike p t thread who (what.Enter way args) (Entered n q c) = enter_alike p t thread who way args n q c
reply_alike p t thread who (what.Perform n post k env source dest) (Value v) = action_alike p thread
reply_alike p t thread who (what.Perform n post k env source dest) Done = action_alike p thread
reply_alike p t thread who (what.Perform n post k env source dest) (Entered m q c) = action_alike p thread
reply_alike p t thread who (what.Return low high) (Value v) = ret_alike p thread.frames thread
reply_alike p t thread who (what.Return low high) Done = ret_alike p thread.frames thread
reply_alike p t thread who (what.Return low high) (Entered n q c) = ret_alike p thread.frames thread
reply_alike p t thread who (what.Load at width) (Value v) = behind_alike _ thread
reply_alike p t thread who (what.Load at width) Done = behind_alike _ thread
reply_alike p t thread who (what.Load at width) (Entered n q c) = behind_alike _ thread
reply_alike p t thread who (what.Store at x) (Value v) = behind_alike _ thread
reply_alike p t thread who (what.Store at x) Done = behind_alike _ thread
reply_alike p t thread who (what.Store at x) (Entered n q c) = behind_alike _ thread
reply_alike p t thread who (what.Copy to from len) (Value v) = behind_alike _ thread
reply_alike p t thread who (what.Copy to from len) Done = behind_alike _ thread
reply_alike p t thread who (what.Copy to from len) (Entered n q c) = behind_alike _ thread
reply_alike p t thread who (what.Fill to byte len) (Value v) = behind_alike _ thread
reply_alike p t thread who (what.Fill to byte len) Done = behind_alike _ thread
reply_alike p t thread who (what.Fill to byte len) (Entered n q c) = behind_alike _ thread
reply_alike p t thread who (what.Native k args) (Value v) = behind_alike _ thread
reply_alike p t thread who (what.Native k args) Done = behind_alike _ thread
reply_alike p t thread who (what.Native k args) (Entered n q c) = behind_alike _ thread
reply_alike p t thread who (what.Finish o) (Value v) = behind_alike _ thread
reply_alike p t thread who (what.Finish o) Done = behind_alike _ thread
reply_alike p t thread who (what.Finish o) (Entered n q c) = behind_alike _ thread

pub absorb_alike : (p : Program) (t : ℕ) (thread : Thread) (r : Request) (reply : Reply) →
    absorb p t (forget_thread thread) (forget_request r) (forget_reply reply) ≡ forget_thread (absorb p t thread r reply)
absorb_alike p t thread r reply = reply_alike p t thread r.who r.what reply
