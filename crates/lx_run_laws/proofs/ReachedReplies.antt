-- The frames of a thread behind a reply.
use Rattle.std.proofs.Common.{◌≡◌, ℕ, Bool, true, false, Option, Some, None, List, [], ◌∷◌}
use Rattle.std.specs.Prelude.{⊤}
use Rattle.lx_words.specs.Word.{Word}
use Rattle.lx_caps.specs.declared.Principal.{Principal}
use Rattle.lx_model.specs.declared.program.Program.{Program}
use Rattle.lx_model.specs.declared.request.Reply.{Reply}
use Rattle.lx_model.specs.declared.request.Reply.TheVariants.{Value, Done, Entered, Ended}
use Rattle.lx_model.specs.declared.request.Request.{Request}
use Rattle.lx_model.specs.declared.request.Way.{Way}
use Rattle.lx_model.specs.declared.request.What.{What}
use Rattle.lx_model.specs.declared.request.What.TheVariants as what
use Rattle.lx_model.specs.Effect.{returned_value}
use Rattle.lx_model.specs.Enter.{text_of_principal}
use Rattle.lx_model.specs.Next.{absorb, after_entry, after_ret, after_ret_of, crossing_if, crossing_on, entered_frame, fits_site, on_top, with_alloca, with_run}
use Rattle.lx_model.specs.Program.{home_or_kernel}
use Rattle.lx_model.specs.Thread.{Crossing, Frame, Thread, activation_behind}
use Rattle.lx_run_laws.specs.Texts.{top_principal, IsCalledBy}
use Rattle.lx_run_laws.proofs.Frames.{AllFit, Fits, IsAskedFrom, left_fits}

-- the principal of a function that is entered is one of its text for which this holds
abbrev pub ReplyFits : (Principal → Type 0) → Program → Reply → Type 0
ReplyFits P p (Entered n q crosses) = P q × (text_of_principal q ≡ home_or_kernel p n)
ReplyFits P p _ = ⊤

behind_fits : (P : Principal → Type 0) (p : Program) (v : Option Word) (fs : List Frame) → AllFit P p fs → AllFit P p (on_top (λ f. with_run f (activation_behind v f.run)) fs)
behind_fits P p v [] all = tt
behind_fits P p v (f ∷ fs) all = (record { known = all.0.known; runs = record { text = all.0.runs.text; source = all.0.runs.source } }, all.1)

-- bytes of the stack
lodged_fits : (P : Principal → Type 0) (p : Program) (at size : ℕ) (fs : List Frame) → AllFit P p fs → AllFit P p (on_top (λ f. with_run f (with_alloca at size f.run)) fs)
lodged_fits P p at size [] all = tt
lodged_fits P p at size (f ∷ fs) all = (record { known = all.0.known; runs = record { text = all.0.runs.text; source = all.0.runs.source } }, all.1)

-- an action
same_source : (p : Program) (q : Principal) (c : Option Crossing) → IsCalledBy q c → IsCalledBy q (crossing_on p c)
same_source p q None is = tt
same_source p q (Some c) is = is

acted_fits : (P : Principal → Type 0) (p : Program) (fs : List Frame) → AllFit P p fs → AllFit P p (on_top (λ f. record f { crossing = crossing_on p f.crossing }) fs)
acted_fits P p [] all = tt
acted_fits P p (f ∷ fs) all = (
  record {
    known = all.0.known;
    runs = record { text = all.0.runs.text; source = same_source p (top_principal fs) f.crossing all.0.runs.source };
  },
  all.1,
)

-- a function that is entered
called_by : (q : Principal) (b : Bool) (c : Crossing) → c.source ≡ q → IsCalledBy q (crossing_if b c)
called_by q true c is = is
called_by q false c is = tt

entry_fits : (P : Principal → Type 0) (p : Program) (b : Bool) (way : Way) (f : Frame) (x : Thread) → Fits P p f x.frames → AllFit P p x.frames → AllFit P p (after_entry b way f x).frames
entry_fits P p true way f x fit all = (fit, all)
entry_fits P p false way f x fit all = tt

entered_fits : (P : Principal → Type 0) (p : Program) (t : ℕ) (x : Thread) (who : Principal) (way : Way) (args : List Word) (n : ℕ) (q : Principal) (crosses : Bool) → who ≡ top_principal x.frames
    → P q × (text_of_principal q ≡ home_or_kernel p n) → AllFit P p x.frames → AllFit P p (absorb p t x (record { who = who; what = what.Enter way args }) (Entered n q crosses)).frames
entered_fits P p t x who way args n q crosses is fits all =
    entry_fits P p (fits_site p way x.frames n) way (entered_frame p t who args x.frames n q crosses) x
    (record { known = fits.0; runs = record { text = fits.1; source = called_by (top_principal x.frames) crosses _ is } }) all

-- a return
ret_fits : (P : Principal → Type 0) (p : Program) (c : Option Crossing) (f : Frame) (fs : List Frame) (v : Option Word) (x : Thread) → IsCalledBy (top_principal fs) c → Fits P p f fs → AllFit P p fs
    → AllFit P p (after_ret_of c f fs v x).frames
ret_fits P p None f fs v x from fit rest = left_fits P p v fs x rest
ret_fits P p (Some c) f fs v x from fit rest = (record { known = fit.known; runs = record { text = fit.runs.text; source = from } }, rest)

returned_fits : (P : Principal → Type 0) (p : Program) (frames : List Frame) (x : Thread) → AllFit P p frames → AllFit P p x.frames → AllFit P p (after_ret p frames x).frames
returned_fits P p [] x fit all = all
returned_fits P p (f ∷ fs) x fit all = ret_fits P p f.crossing f fs (returned_value p f.run) x fit.0.runs.source fit.0 fit.1

-- what ends no call

value_fits : (P : Principal → Type 0) (p : Program) (t : ℕ) (x : Thread) (r : Request) (v : Word) → AllFit P p x.frames → AllFit P p (absorb p t x r (Value v)).frames
value_fits P p t x r v all = by r.what where
  by : (w : What) → AllFit P p (absorb p t x (record { who = r.who; what = w }) (Value v)).frames
  by (what.Load at width) = behind_fits P p (Some v) x.frames all
  by (what.Store at w) = behind_fits P p (Some v) x.frames all
  by (what.Copy to from len) = behind_fits P p (Some v) x.frames all
  by (what.Fill to byte len) = behind_fits P p (Some v) x.frames all
  by (what.Alloca at size) = behind_fits P p _ _ (lodged_fits P p at size x.frames all)
  by (what.Enter way args) = behind_fits P p (Some v) x.frames all
  by (what.Perform n post k env source dest) = acted_fits P p x.frames all
  by (what.Return low high) = returned_fits P p x.frames x all all
  by (what.Native k args) = behind_fits P p (Some v) x.frames all
  by (what.Finish o) = behind_fits P p (Some v) x.frames all

done_fits : (P : Principal → Type 0) (p : Program) (t : ℕ) (x : Thread) (r : Request) → AllFit P p x.frames → AllFit P p (absorb p t x r Done).frames
done_fits P p t x r all = by r.what where
  by : (w : What) → AllFit P p (absorb p t x (record { who = r.who; what = w }) Done).frames
  by (what.Load at width) = behind_fits P p None x.frames all
  by (what.Store at w) = behind_fits P p None x.frames all
  by (what.Copy to from len) = behind_fits P p None x.frames all
  by (what.Fill to byte len) = behind_fits P p None x.frames all
  by (what.Alloca at size) = behind_fits P p _ _ (lodged_fits P p at size x.frames all)
  by (what.Enter way args) = behind_fits P p None x.frames all
  by (what.Perform n post k env source dest) = acted_fits P p x.frames all
  by (what.Return low high) = returned_fits P p x.frames x all all
  by (what.Native k args) = behind_fits P p None x.frames all
  by (what.Finish o) = behind_fits P p None x.frames all

into_fits : (P : Principal → Type 0) (p : Program) (t : ℕ) (x : Thread) (r : Request) (n : ℕ) (q : Principal) (crosses : Bool) → IsAskedFrom P p x.frames r
    → P q × (text_of_principal q ≡ home_or_kernel p n) → AllFit P p (absorb p t x r (Entered n q crosses)).frames
into_fits P p t x r n q crosses h fits = by r.what h where
  by : (w : What) → IsAskedFrom P p x.frames (record { who = r.who; what = w }) → AllFit P p (absorb p t x (record { who = r.who; what = w }) (Entered n q crosses)).frames
  by (what.Load at width) h = behind_fits P p None x.frames h.fit
  by (what.Store at w) h = behind_fits P p None x.frames h.fit
  by (what.Copy to from len) h = behind_fits P p None x.frames h.fit
  by (what.Fill to byte len) h = behind_fits P p None x.frames h.fit
  by (what.Alloca at size) h = behind_fits P p _ _ (lodged_fits P p at size x.frames h.fit)
  by (what.Enter way args) h = entered_fits P p t x r.who way args n q crosses h.who fits h.fit
  by (what.Perform m post k env source dest) h = acted_fits P p x.frames h.fit
  by (what.Return low high) h = returned_fits P p x.frames x h.fit h.fit
  by (what.Native k args) h = behind_fits P p None x.frames h.fit
  by (what.Finish o) h = behind_fits P p None x.frames h.fit

-- a thread has such frames behind a reply that fits
pub absorbed_fits : (P : Principal → Type 0) (p : Program) (t : ℕ) (x : Thread) (r : Request) (reply : Reply) → IsAskedFrom P p x.frames r → ReplyFits P p reply → AllFit P p (absorb p t x r reply).frames
absorbed_fits P p t x r (Value v) h fits = value_fits P p t x r v h.fit
absorbed_fits P p t x r Done h fits = done_fits P p t x r h.fit
absorbed_fits P p t x r (Entered n q crosses) h fits = into_fits P p t x r n q crosses h fits
absorbed_fits P p t x r (Ended o) h fits = tt
