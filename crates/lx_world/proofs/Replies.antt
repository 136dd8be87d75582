-- Behind a reply the functions of a thread of images keep to its stack.
use Rattle.std.proofs.Common.{◌≡◌, ℕ, ◌+◌, ◌≤◌, Bool, true, false, Option, Some, None, List, [], ◌∷◌, refl}
use Rattle.std.specs.Prelude.{nat_le}
use Rattle.lx_words.specs.declared.word.Width.TheVariants.{W64}
use Rattle.lx_words.specs.Word.{Word, word}
use Rattle.lx_caps.specs.Regions.{stack_end}
use Rattle.lx_caps.specs.declared.Principal.{Principal}
use Rattle.lx_model.specs.declared.request.Outcome.{Outcome}
use Rattle.lx_model.specs.declared.request.Outcome.TheVariants.{Trapped}
use Rattle.lx_model.specs.declared.request.Reply.{Reply}
use Rattle.lx_model.specs.declared.request.Reply.TheVariants.{Value, Done, Entered, Ended}
use Rattle.lx_model.specs.declared.request.Request.{Request}
use Rattle.lx_model.specs.declared.request.Trap.TheVariants.{StackFull}
use Rattle.lx_model.specs.declared.request.Way.{Way}
use Rattle.lx_model.specs.declared.request.Way.TheVariants.{Script, Direct, Indirect, Slot}
use Rattle.lx_model.specs.declared.request.What.{What}
use Rattle.lx_model.specs.declared.request.What.TheVariants as what
use Rattle.lx_ir.specs.declared.instr.Op.{Op}
use Rattle.lx_ir.specs.declared.instr.Op.TheVariants as op
use Rattle.lx_model.specs.Thread.{activation_behind, behind_head}
use Rattle.lx_model.specs.Effect.{returned_value}
use Rattle.lx_model.specs.Next.{request, with_alloca}
use Rattle.lx_model.specs.State.{State}
use Rattle.lx_model.specs.Decide.{decide, decide_what}
use Rattle.lx_model.specs.Serve.{grant_what, serve, serve_by}
use Rattle.lx_run_laws.specs.Servable.{is_on_stack}
use Rattle.lx_run_laws.proofs.Steps.{top_on}
use Rattle.lx_images.specs.Image.{Code, ImageFrame, Runs, Wraps, ImageThread, after_entry, after_ret, at_lines, behind_line, entered_frames, fits_site, image_absorb, image_next, on_running, stack_top}
use Rattle.lx_images.specs.Wrappers.{in_lines}
use Rattle.lx_world.specs.OnImageStack.{AreOnImageStack}
use Rattle.lx_world.specs.ImageRequestLaws.{ImageRequestLaws}
use Rattle.lx_world.proofs.Asked.{IsAskedOn, left_on, next_on, next_servable}
use Rattle.lx_model.proofs.Passing.{passed}
use Rattle.lx_run_laws.proofs.Replies.{lodged, empty_on}

behind_on : (t : ℕ) (x : Option Word) (fs : List ImageFrame) → AreOnImageStack t fs → AreOnImageStack t (on_running (activation_behind x) fs)
behind_on t x [] all = tt
behind_on t x (Runs a ∷ fs) all = all
behind_on t x (Wraps n args lines y ∷ fs) all = all

-- bytes of the stack

lodged_on : (t : ℕ) (x : Option Word) (at size : ℕ) (fs : List ImageFrame) → AreOnImageStack t fs → stack_top t fs ≤ at → nat_le (at + size) (stack_end t) ≡ true
    → AreOnImageStack t (on_running (λ a. activation_behind x (with_alloca at size a)) fs)
lodged_on t x at size [] all above room = tt
lodged_on t x at size (Runs a ∷ fs) all above room = (lodged t a.low a.high at size all.0 above room, all.1)
lodged_on t x at size (Wraps n args lines y ∷ fs) all above room = all

-- a function that is entered, and a wrapper

stack_top_on : (t : ℕ) (fs : List ImageFrame) → AreOnImageStack t fs → is_on_stack t (stack_top t fs) (stack_top t fs) ≡ true
stack_top_on t [] all = empty_on t
stack_top_on t (Runs a ∷ fs) all = top_on t a.low a.high all.0
stack_top_on t (Wraps n args lines x ∷ fs) all = stack_top_on t fs all.1

-- at its call a wrapper goes into its body
lines_on : (c : Code) (t n : ℕ) (args : List Word) (x : Option Word) (fs : List ImageFrame) (lines : List Op) → AreOnImageStack t fs → AreOnImageStack t (at_lines c t n args x fs lines)
lines_on c t n args x fs (op.Call to ret callee as' ∷ lines) all = (stack_top_on t fs all, (tt, all))
lines_on c t n args x fs lines all = (tt, all)

opened_on : (c : Code) (t : ℕ) (crosses : Bool) (n : ℕ) (args : List Word) (fs : List ImageFrame) → AreOnImageStack t fs → AreOnImageStack t (entered_frames c t crosses n args fs)
opened_on c t true n args fs all = lines_on c t n args None fs (behind_head (in_lines c n)) all
opened_on c t false n args fs all = (stack_top_on t fs all, all)

entry_on : (c : Code) (t : ℕ) (fits : Bool) (way : Way) (args : List Word) (n : ℕ) (q : Principal) (crosses : Bool) (v : ImageThread) → AreOnImageStack t v.frames
    → AreOnImageStack t (after_entry c t fits way args n q crosses v).frames
entry_on c t true way args n q crosses v all = opened_on c t crosses n args v.frames all
entry_on c t false way args n q crosses v all = tt

-- the wrapper on top is behind the line that it asked by
behind_line_on : (c : Code) (t : ℕ) (fs : List ImageFrame) → AreOnImageStack t fs → AreOnImageStack t (behind_line c t fs)
behind_line_on c t [] all = tt
behind_line_on c t (Runs a ∷ fs) all = all
behind_line_on c t (Wraps n args lines x ∷ fs) all = lines_on c t n args x fs (behind_head lines) all.1

entered_on : (c : Code) (t : ℕ) (v : ImageThread) (who : Principal) (way : Way) (args : List Word) (answer : Reply) → AreOnImageStack t v.frames
    → AreOnImageStack t (image_absorb c t v (request who (what.Enter way args)) answer).frames
entered_on c t v who (Script f) args (Value x) all = behind_on t (Some x) v.frames all
entered_on c t v who (Direct f) args (Value x) all = behind_on t (Some x) v.frames all
entered_on c t v who (Indirect b) args (Value x) all = behind_on t (Some x) v.frames all
entered_on c t v who (Slot slot ty) args (Value x) all = behind_on t (Some x) v.frames all
entered_on c t v who (Script f) args Done all = behind_on t None v.frames all
entered_on c t v who (Direct f) args Done all = behind_on t None v.frames all
entered_on c t v who (Indirect b) args Done all = behind_on t None v.frames all
entered_on c t v who (Slot slot ty) args Done all = behind_on t None v.frames all
entered_on c t v who (Script f) args (Entered n q crosses) all = entry_on c t (fits_site c (Script f) v.frames n) (Script f) args n q crosses v all
entered_on c t v who (Direct f) args (Entered n q crosses) all = behind_line_on c t v.frames all
entered_on c t v who (Indirect b) args (Entered n q crosses) all = entry_on c t (fits_site c (Indirect b) v.frames n) (Indirect b) args n q crosses v all
entered_on c t v who (Slot slot ty) args (Entered n q crosses) all = entry_on c t (fits_site c (Slot slot ty) v.frames n) (Slot slot ty) args n q crosses v all
entered_on c t v who way args (Ended o) all = tt

native_on : (c : Code) (t : ℕ) (v : ImageThread) (who : Principal) (k : ℕ) (args : List Word) (answer : Reply) → AreOnImageStack t v.frames
    → AreOnImageStack t (image_absorb c t v (request who (what.Native k args)) answer).frames
native_on c t v who k args (Value x) all = behind_on t (Some x) v.frames all
native_on c t v who k args Done all = behind_on t None v.frames all
native_on c t v who k args (Entered n q crosses) all = behind_on t None v.frames all
native_on c t v who k args (Ended o) all = tt

-- a return

returned_on : (c : Code) (t : ℕ) (frames : List ImageFrame) (v : ImageThread) → AreOnImageStack t frames → AreOnImageStack t v.frames → AreOnImageStack t (after_ret c frames v).frames
returned_on c t [] v h all = all
returned_on c t (Runs a ∷ fs) v h all = left_on t (returned_value c.program a) fs v h.1
returned_on c t (Wraps n args lines x ∷ fs) v h all = all

-- what is served

granted_on : (c : Code) (s : State) (t : ℕ) (v : ImageThread) (who : Principal) (w : What) → IsAskedOn c t v.frames (request who w) → decide_what c.program s t who w ≡ None
    → AreOnImageStack t (image_absorb c t v (request who w) (grant_what c.program s t who w).reply).frames
granted_on c s t v who (what.Load at width) h is = behind_on t _ v.frames h.frames_on
granted_on c s t v who (what.Store at x) h is = behind_on t None v.frames h.frames_on
granted_on c s t v who (what.Copy to from len) h is = behind_on t None v.frames h.frames_on
granted_on c s t v who (what.Fill to byte len) h is = behind_on t None v.frames h.frames_on
granted_on c s t v who (what.Alloca at size) h is =
    lodged_on t (Some (word W64 at)) at size v.frames h.frames_on h.above (passed (nat_le (at + size) (stack_end t)) (Trapped StackFull) is)
granted_on c s t v who (what.Enter way args) h is = entered_on c t v who way args _ h.frames_on
granted_on c s t v who (what.Perform n post k env source dest) h is = behind_line_on c t v.frames h.frames_on
granted_on c s t v who (what.Return low high) h is = returned_on c t v.frames v h.frames_on h.frames_on
granted_on c s t v who (what.Native k args) h is = native_on c t v who k args _ h.frames_on
granted_on c s t v who (what.Finish o) h is = tt

served_on : (c : Code) (s : State) (t : ℕ) (v : ImageThread) (r : Request) (d : Option Outcome) → decide c.program s t r ≡ d → IsAskedOn c t v.frames r
    → AreOnImageStack t (image_absorb c t v r (serve_by d c.program s t r).reply).frames
served_on c s t v r (Some o) is h = tt
served_on c s t v r None is h = granted_on c s t v r.who r.what h is

absorbed_on : (c : Code) (s : State) (t : ℕ) (v : ImageThread) → AreOnImageStack t v.frames
    → AreOnImageStack t (image_absorb c t (image_next c v).thread (image_next c v).request (serve c.program s t (image_next c v).request).reply).frames
absorbed_on c s t v all = served_on c s t (image_next c v).thread (image_next c v).request (decide c.program s t (image_next c v).request) refl (next_on c t v all)

pub image_request_laws : ImageRequestLaws
image_request_laws = record { asks = next_servable; stays = absorbed_on }
