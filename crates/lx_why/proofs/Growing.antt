-- Acts are never taken back.
use Rattle.std.proofs.Common.{◌∙◌, refl, sym, ap, ℕ, zero, suc, Bool, true, false, Option, Some, None, Ok, Err, List, [], ◌∷◌, ◌++◌, append_assoc}
use Rattle.std.specs.Prelude.{slice_get}
use Rattle.lx_words.specs.Word.{Word}
use Rattle.lx_caps.specs.declared.Principal.{Principal}
use Rattle.lx_caps.specs.declared.Principal.TheVariants.{Kernel, Shared, Global, Inst}
use Rattle.lx_caps.specs.declared.Cap.{Cap}
use Rattle.lx_caps.specs.declared.Act.{Act}
use Rattle.lx_caps.specs.declared.Act.TheVariants.{Strip, Loan, Shut}
use Rattle.lx_caps.specs.History.{History, with_grant, with_lend}
use Rattle.lx_annot.specs.declared.expr.Env.{Env}
use Rattle.lx_annot.specs.Action.{Action}
use Rattle.lx_annot.specs.Value.{Found}
use Rattle.lx_model.specs.declared.program.Program.{Program}
use Rattle.lx_model.specs.declared.request.Outcome.{Outcome}
use Rattle.lx_model.specs.declared.request.Request.{Request}
use Rattle.lx_model.specs.declared.request.Way.{Way}
use Rattle.lx_model.specs.declared.request.What.{What}
use Rattle.lx_model.specs.declared.request.What.TheVariants as what
use Rattle.lx_model.specs.Program.{NativeCall, Alloc, Free, ZeroBytes, TryLock, NoteValue, AliasPrincipal, native_call}
use Rattle.lx_model.specs.Decide.{decide, result_or_none}
use Rattle.lx_model.specs.Enter.{Running, entered_function, runs_as}
use Rattle.lx_model.specs.Next.{actions_of, next}
use Rattle.lx_model.specs.Serve.{serve_by, grant_what, history_or, entering, entering_as, after_native, after_alloc, after_try_lock}
use Rattle.lx_model.specs.State.{State}
use Rattle.lx_model.specs.Thread.{Thread, has_work}
use Rattle.lx_model.specs.World.{World, event, event_if, event_of}
use Rattle.lx_why.specs.WhyLaws.{Grows}
use Rattle.lx_model.proofs.ActKeeps.{Keeps, Any, action_keeps}

-- a history and itself, with an act more, and one behind the other
pub same : (h : History) → Grows h h
same h = ([], refl)

pub one_more : (a : Act) (old new : History) → Grows old new → Grows old (a ∷ new)
one_more a old new (more, is) = (a ∷ more, ap (λ z. a ∷ z) is)

pub onward : (a b c : History) → Grows a b → Grows b c → Grows a c
onward a b c (first, is) (second, next) = (second ++ first, next ∙ ap (λ z. second ++ z) is ∙ sym (append_assoc second first a))

-- actions

granted : (dest : Principal) (c : Cap) (h : History) → Grows h (with_grant dest c h)
granted Kernel c h = same h
granted (Shared m) c h = one_more _ h h (same h)
granted (Global m) c h = one_more _ h h (same h)
granted (Inst m k) c h = one_more _ h h (same h)

lent_one : (t : ℕ) (dest : Principal) (c : Cap) (h : History) → Grows h (with_lend t dest c h)
lent_one t Kernel c h = same h
lent_one t (Shared m) c h = one_more _ h h (same h)
lent_one t (Global m) c h = one_more _ h h (same h)
lent_one t (Inst m k) c h = one_more _ h h (same h)

-- requests

performed : (p : Program) (s : State) (t : ℕ) (a : Option Action) (env : Env) (source dest : Principal) → Grows s.history (history_or (result_or_none p s t a env source dest) s.history)
performed p s t a env source dest = action_keeps (Grows s.history) p s t a env source dest keeps (same s.history) where
  keeps : Keeps (Grows s.history) t source dest s.history Any
  keeps = record {
    grant = λ transfers c h passes named grown. onward s.history h (with_grant dest c h) grown (granted dest c h);
    strip = λ c h passes grown. one_more (Strip c) s.history h grown;
    loan = λ h grown. one_more (Loan t) s.history h grown;
    lend = λ c h passes named grown. onward s.history h (with_lend t dest c h) grown (lent_one t dest c h);
    shut = λ k h grown. one_more (Shut t k) s.history h grown;
  }

entered_as : (p : Program) (s : State) (caller : Principal) (way : Way) (n : ℕ) (found : Found Running) → Grows s.history (entering_as p s caller way n found).state.history
entered_as p s caller way n (Err at) = same s.history
entered_as p s caller way n (Ok r) = same s.history

enters : (p : Program) (s : State) (caller : Principal) (way : Way) (args : List Word) (n : Option ℕ) → Grows s.history (entering p s caller way args n).state.history
enters p s caller way args None = same s.history
enters p s caller way args (Some n) = entered_as p s caller way n (runs_as p s caller way n args)

allocated : (s : State) (size at : ℕ) → Grows s.history (after_alloc s size at).state.history
allocated s size zero = same s.history
allocated s size (suc n) = same s.history

tried : (s : State) (at n : ℕ) → Grows s.history (after_try_lock s at n).state.history
tried s at zero = same s.history
tried s at (suc n) = same s.history

natives : (s : State) (t : ℕ) (caller : Principal) (n : NativeCall) (args : List Word) → Grows s.history (after_native s t caller n args).state.history
natives s t caller Alloc args = allocated s _ _
natives s t caller Free args = same s.history
natives s t caller ZeroBytes args = one_more _ s.history s.history (same s.history)
natives s t caller TryLock args = tried s _ _
natives s t caller NoteValue args = same s.history
natives s t caller AliasPrincipal args = same s.history

grants : (p : Program) (s : State) (t : ℕ) (caller : Principal) (w : What) → Grows s.history (grant_what p s t caller w).state.history
grants p s t caller (what.Load at width) = same s.history
grants p s t caller (what.Store at v) = same s.history
grants p s t caller (what.Copy to from len) = same s.history
grants p s t caller (what.Fill to byte len) = same s.history
grants p s t caller (what.Alloca at size) = onward s.history _ _ (one_more _ s.history s.history (same s.history)) (granted caller _ _)
grants p s t caller (what.Enter way args) = enters p s caller way args (entered_function p s way)
grants p s t caller (what.Perform n post k env source dest) =
    performed p s t (slice_get (actions_of p n post) k) env source dest
grants p s t caller (what.Return low high) = one_more _ s.history s.history (same s.history)
grants p s t caller (what.Native k args) = natives s t caller (native_call k) args
grants p s t caller (what.Finish o) = one_more _ s.history _ (one_more _ s.history s.history (same s.history))

served : (p : Program) (s : State) (t : ℕ) (r : Request) (d : Option Outcome) → Grows s.history (serve_by d p s t r).state.history
served p s t r None = grants p s t r.who r.what
served p s t r (Some o) = one_more _ s.history _ (one_more _ s.history s.history (same s.history))

happens : (p : Program) (t : ℕ) (w : World) (thread : Thread) (b : Bool) → Grows w.state.history (event_if b p t w thread).state.history
happens p t w thread true = served p w.state t (next p t thread).request (decide p w.state t (next p t thread).request)
happens p t w thread false = same w.state.history

happens_to : (p : Program) (t : ℕ) (w : World) (thread : Option Thread) → Grows w.state.history (event_of thread p t w).state.history
happens_to p t w None = same w.state.history
happens_to p t w (Some thread) = happens p t w thread (has_work thread)

pub event_grows : (p : Program) (t : ℕ) (w : World) → Grows w.state.history (event p t w).state.history
event_grows p t w = happens_to p t w (slice_get w.threads t)
