-- The frames of a thread behind a reply.
use Rattle.std.proofs.Common.{◌≡◌, ℕ, Bool, true, false, Option, Some, None, List, [], ◌∷◌, refl}
use Rattle.std.specs.Prelude.{⊤}
use Rattle.lx_words.specs.Word.{Word}
use Rattle.lx_caps.specs.declared.Principal.{Principal}
use Rattle.lx_model.specs.declared.program.Program.{Program}
use Rattle.lx_model.specs.declared.request.Reply.{Reply}
use Rattle.lx_model.specs.declared.request.Reply.TheVariants.{Value, Done, Entered, Ended}
use Rattle.lx_model.specs.declared.request.Request.{Request}
use Rattle.lx_model.specs.declared.request.Way.{Way}
use Rattle.lx_model.specs.declared.request.What.{What}
use Rattle.lx_model.specs.declared.request.What.TheVariants as what
use Rattle.lx_model.specs.Effect.{returned_value}
use Rattle.lx_model.specs.Enter.{text_of_principal}
use Rattle.lx_model.specs.Next.{absorb, after_entry, after_ret, after_ret_of, crossing_if, crossing_on, entered_frame, fits_site, on_top, with_alloca, with_run}
use Rattle.lx_model.specs.Program.{home_or_kernel}
use Rattle.lx_model.specs.Thread.{Crossing, Frame, Thread, activation_behind}
use Rattle.lx_surface.proofs.Effects.{CanCall}
use Rattle.lx_surface.proofs.Frames.{AllWellCalled, IsCalled, IsWellCalled, left}

-- a function is entered as a principal of its text, and one that crosses was called by somebody who can call it
abbrev pub EntersWell : Program → Principal → Reply → Type 0
EntersWell p who (Entered n q crosses) = (text_of_principal q ≡ home_or_kernel p n) × (crosses ≡ true → CanCall p who n)
EntersWell p who _ = ⊤

behind : (p : Program) (v : Option Word) (fs : List Frame) → AllWellCalled p fs → AllWellCalled p (on_top (λ f. with_run f (activation_behind v f.run)) fs)
behind p v [] all = tt
behind p v (f ∷ fs) all = (record { text = all.0.text; called = all.0.called }, all.1)

-- bytes of the stack
lodged : (p : Program) (at size : ℕ) (fs : List Frame) → AllWellCalled p fs → AllWellCalled p (on_top (λ f. with_run f (with_alloca at size f.run)) fs)
lodged p at size [] all = tt
lodged p at size (f ∷ fs) all = (record { text = all.0.text; called = all.0.called }, all.1)

-- an action
crossed_on : (p : Program) (n : ℕ) (c : Option Crossing) → IsCalled p n c → IsCalled p n (crossing_on p c)
crossed_on p n None is = tt
crossed_on p n (Some c) is = is

acted : (p : Program) (fs : List Frame) → AllWellCalled p fs → AllWellCalled p (on_top (λ f. record f { crossing = crossing_on p f.crossing }) fs)
acted p [] all = tt
acted p (f ∷ fs) all = (record { text = all.0.text; called = crossed_on p f.run.function f.crossing all.0.called }, all.1)

-- a function that is entered
called_if : (p : Program) (n : ℕ) (b : Bool) (c : Crossing) → c.function ≡ n → (b ≡ true → CanCall p c.source n) → IsCalled p n (crossing_if b c)
called_if p n true c is can = (is, can refl)
called_if p n false c is can = tt

entry : (p : Program) (b : Bool) (way : Way) (f : Frame) (x : Thread) → IsWellCalled p f → AllWellCalled p x.frames → AllWellCalled p (after_entry b way f x).frames
entry p true way f x here all = (here, all)
entry p false way f x here all = tt

entered : (p : Program) (t : ℕ) (x : Thread) (who : Principal) (way : Way) (args : List Word) (n : ℕ) (q : Principal) (crosses : Bool) → EntersWell p who (Entered n q crosses) → AllWellCalled p x.frames
    → AllWellCalled p (absorb p t x (record { who = who; what = what.Enter way args }) (Entered n q crosses)).frames
entered p t x who way args n q crosses well all =
    entry p (fits_site p way x.frames n) way (entered_frame p t who args x.frames n q crosses) x (record { text = well.0; called = called_if p n crosses _ refl well.1 }) all

-- a return
ret_of : (p : Program) (c : Option Crossing) (f : Frame) (fs : List Frame) (v : Option Word) (x : Thread) → IsCalled p f.run.function c → IsWellCalled p f → AllWellCalled p fs
    → AllWellCalled p (after_ret_of c f fs v x).frames
ret_of p None f fs v x is here rest = left p v fs x rest
ret_of p (Some c) f fs v x is here rest = (record { text = here.text; called = is }, rest)

returned : (p : Program) (frames : List Frame) (x : Thread) → AllWellCalled p frames → AllWellCalled p x.frames → AllWellCalled p (after_ret p frames x).frames
returned p [] x here all = all
returned p (f ∷ fs) x here all = ret_of p f.crossing f fs (returned_value p f.run) x here.0.called here.0 here.1

-- what ends no call

value_taken : (p : Program) (t : ℕ) (x : Thread) (r : Request) (v : Word) → AllWellCalled p x.frames → AllWellCalled p (absorb p t x r (Value v)).frames
value_taken p t x r v all = by r.what where
  by : (w : What) → AllWellCalled p (absorb p t x (record { who = r.who; what = w }) (Value v)).frames
  by (what.Load at width) = behind p (Some v) x.frames all
  by (what.Store at w) = behind p (Some v) x.frames all
  by (what.Copy to from len) = behind p (Some v) x.frames all
  by (what.Fill to byte len) = behind p (Some v) x.frames all
  by (what.Alloca at size) = behind p _ _ (lodged p at size x.frames all)
  by (what.Enter way args) = behind p (Some v) x.frames all
  by (what.Perform n post k env source dest) = acted p x.frames all
  by (what.Return low high) = returned p x.frames x all all
  by (what.Native k args) = behind p (Some v) x.frames all
  by (what.Finish o) = behind p (Some v) x.frames all

done_taken : (p : Program) (t : ℕ) (x : Thread) (r : Request) → AllWellCalled p x.frames → AllWellCalled p (absorb p t x r Done).frames
done_taken p t x r all = by r.what where
  by : (w : What) → AllWellCalled p (absorb p t x (record { who = r.who; what = w }) Done).frames
  by (what.Load at width) = behind p None x.frames all
  by (what.Store at w) = behind p None x.frames all
  by (what.Copy to from len) = behind p None x.frames all
  by (what.Fill to byte len) = behind p None x.frames all
  by (what.Alloca at size) = behind p _ _ (lodged p at size x.frames all)
  by (what.Enter way args) = behind p None x.frames all
  by (what.Perform n post k env source dest) = acted p x.frames all
  by (what.Return low high) = returned p x.frames x all all
  by (what.Native k args) = behind p None x.frames all
  by (what.Finish o) = behind p None x.frames all

entry_taken : (p : Program) (t : ℕ) (x : Thread) (r : Request) (n : ℕ) (q : Principal) (crosses : Bool) → EntersWell p r.who (Entered n q crosses) → AllWellCalled p x.frames
    → AllWellCalled p (absorb p t x r (Entered n q crosses)).frames
entry_taken p t x r n q crosses well all = by r.what where
  by : (w : What) → AllWellCalled p (absorb p t x (record { who = r.who; what = w }) (Entered n q crosses)).frames
  by (what.Load at width) = behind p None x.frames all
  by (what.Store at w) = behind p None x.frames all
  by (what.Copy to from len) = behind p None x.frames all
  by (what.Fill to byte len) = behind p None x.frames all
  by (what.Alloca at size) = behind p _ _ (lodged p at size x.frames all)
  by (what.Enter way args) = entered p t x r.who way args n q crosses well all
  by (what.Perform m post k env source dest) = acted p x.frames all
  by (what.Return low high) = returned p x.frames x all all
  by (what.Native k args) = behind p None x.frames all
  by (what.Finish o) = behind p None x.frames all

-- a thread's frames behind a reply
pub absorbed : (p : Program) (t : ℕ) (x : Thread) (r : Request) (reply : Reply) → EntersWell p r.who reply → AllWellCalled p x.frames → AllWellCalled p (absorb p t x r reply).frames
absorbed p t x r (Value v) well all = value_taken p t x r v all
absorbed p t x r Done well all = done_taken p t x r all
absorbed p t x r (Entered n q crosses) well all = entry_taken p t x r n q crosses well all
absorbed p t x r (Ended o) well all = tt
