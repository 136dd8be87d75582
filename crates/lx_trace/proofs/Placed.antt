-- What an instruction asks for is asked at a place.
use Rattle.std.proofs.Common.{◌≡◌, refl, ap, ℕ, zero, suc, Bool, true, false, List, [], ◌∷◌, Option, Some, None}
use Rattle.std.specs.Prelude.{option_map}
use Rattle.lx_words.specs.Word.{Word}
use Rattle.lx_caps.specs.declared.Principal.TheVariants.{Kernel}
use Rattle.lx_model.specs.declared.program.Program.{Program}
use Rattle.lx_model.specs.declared.program.ScriptCall.{ScriptCall}
use Rattle.lx_model.specs.declared.request.Outcome.{Outcome}
use Rattle.lx_model.specs.declared.request.Outcome.TheVariants.{Budget}
use Rattle.lx_model.specs.declared.request.Request.{Request}
use Rattle.lx_model.specs.declared.request.Way.TheVariants.{Script}
use Rattle.lx_model.specs.declared.request.What.TheVariants as what
use Rattle.lx_model.specs.Next.{Step, Asks, comes_to, due_or, finish, frame_step, has_action, next, post_action, post_step, pre_action, request, stage_step, start_step, undue_step}
use Rattle.lx_model.specs.Thread.{Activation, Body, Crossing, Frame, Post, Pre, Stage, Thread}
use Rattle.lx_code_lines.specs.PlaceLaws.{PlaceLaws}
use Rattle.lx_code_lines.specs.Place.{Place, acting, acting_at, acting_in, asker, asks_at, place_of}
use Rattle.lx_trace.specs.TraceLaws.{is_of_code}

-- what else is asked is no instruction's

other : {x y : Thread} (q r : Request) → is_of_code q.what ≡ false → is_of_code r.what ≡ true → ◌≡◌ {A = Step} (Asks x q) (Asks y r) → ⊥
other q r no_code code e =
    let same : q ≡ r = cc in
    let tests : is_of_code q.what ≡ is_of_code r.what = ap (λ (z : Request). is_of_code z.what) same in
    absurd cc

paid_by : (fuel : ℕ) (thread w : Thread) (r : Request) (go : Thread → Step) → is_of_code r.what ≡ true → ((poorer : Thread) → go poorer ≡ Asks w r → ⊥)
    → elim fuel [ zero ↦ comes_to Budget thread | suc n ↦ go (record thread { fuel = n }) ] ≡ Asks w r → ⊥
paid_by zero thread w r go code never e = other (finish Budget) r refl code e
paid_by (suc n) thread w r go code never e = never (record thread { fuel = n }) e

starts : (calls : List ScriptCall) (thread w : Thread) (r : Request) → is_of_code r.what ≡ true → start_step calls thread ≡ Asks w r → ⊥
starts [] thread w r code e = other (finish Budget) r refl code e
starts (c ∷ cs) thread w r code e =
    let entry = request Kernel (what.Enter (Script c.function) c.args) in
    paid_by thread.fuel thread w r (λ poorer. Asks poorer entry) code (λ poorer is. other entry r refl code is) e

posts : (b : Bool) (f : Frame) (fs : List Frame) (x : Crossing) (k : ℕ) (v : Option Word) (thread w : Thread) (r : Request) → is_of_code r.what ≡ true → post_step b f fs x k v thread ≡ Asks w r → ⊥
posts true f fs x k v thread w r code e = paid_by thread.fuel thread w r (λ poorer. Asks poorer (post_action f x k v)) code (λ poorer is. other (post_action f x k v) r refl code is) e
posts false f fs x k v thread w r code e = absurd cc

-- so some function acts

stage_acts : (p : Program) (t : ℕ) (f : Frame) (fs : List Frame) (x : Crossing) (s : Stage) (thread w : Thread) (r : Request) → is_of_code r.what ≡ true → stage_step p t f fs x s thread ≡ Asks w r → (a : Activation) × (acting_at s f fs ≡ Some a)
stage_acts p t f fs x (Pre k) thread w r code e =
    absurd (paid_by thread.fuel thread w r (λ poorer. Asks poorer (pre_action f x k)) code (λ poorer is. other (pre_action f x k) r refl code is) e)
stage_acts p t f fs x Body thread w r code e = (f.run, refl)
stage_acts p t f fs x (Post k v) thread w r code e = absurd (posts (has_action p x.function true k) f fs x k v thread w r code e)

frame_acts : (p : Program) (t : ℕ) (f : Frame) (fs : List Frame) (x : Option Crossing) (thread w : Thread) (r : Request) → is_of_code r.what ≡ true → frame_step p t f fs x thread ≡ Asks w r → (a : Activation) × (acting_in x f fs ≡ Some a)
frame_acts p t f fs None thread w r code e = (f.run, refl)
frame_acts p t f fs (Some x) thread w r code e = stage_acts p t f fs x x.stage thread w r code e

acts : (p : Program) (t : ℕ) (fs : List Frame) (due : Option Outcome) (thread w : Thread) (r : Request) → is_of_code r.what ≡ true → due_or due thread (undue_step p t fs thread) ≡ Asks w r → (a : Activation) × (acting fs ≡ Some a)
acts p t fs (Some o) thread w r code e = absurd (other (finish o) r refl code e)
acts p t [] None thread w r code e = absurd (starts thread.calls thread w r code e)
acts p t (f ∷ fs) None thread w r code e = frame_acts p t f fs f.crossing thread w r code e

pub has_place : PlaceLaws → (p : Program) (t : ℕ) (thread : Thread) → is_of_code (next p t thread).request.what ≡ true → (x : Place) × (asks_at p t thread ≡ Some x)
has_place laws p t thread code =
    let by = asker p t thread in
    let at = acts p t by.frames by.due by (next p t thread).thread (next p t thread).request code (laws.asks p t thread) in
    (place_of at.0, ap (option_map place_of) at.1)
