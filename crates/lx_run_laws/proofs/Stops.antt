-- What an event does that ends a call.
use Rattle.std.proofs.Common.{◌≡◌, ℕ, true, Some, List, [], ◌∷◌, ◌++◌, slice_get, slice_set, refl, sym, ap, subst, ◌∙◌}
use Rattle.lx_model.specs.declared.program.Program.{Program}
use Rattle.lx_model.specs.declared.program.ScriptCall.{ScriptCall}
use Rattle.lx_model.specs.declared.request.Outcome.{Outcome}
use Rattle.lx_model.specs.declared.request.Reply.TheVariants.{Ended}
use Rattle.lx_model.specs.declared.request.Request.{Request}
use Rattle.lx_model.specs.Authority.{AuthorityLaws}
use Rattle.lx_model.specs.Next.{absorb, after_end, ending, next, other_calls}
use Rattle.lx_model.specs.Serve.{serve}
use Rattle.lx_model.specs.State.{State}
use Rattle.lx_model.specs.Thread.{Thread, has_call, has_work}
use Rattle.lx_model.specs.World.{World, event, event_if, event_of, after_request}
use Rattle.lx_run_laws.specs.Stopped.{event_request, HasEnded, IsStop, StopsCleanly}
use Rattle.lx_run_laws.proofs.Calls.{next_has}
use Rattle.lx_run_laws.proofs.Journal.{noted}
use Rattle.lx_model.proofs.Threads.{set_here}

-- the event of a thread that has work
pub worked : (p : Program) (t : ℕ) (w : World) (x : Thread) → slice_get w.threads t ≡ Some x → has_work x ≡ true → event p t w ≡ after_request p t w (next p t x)
worked p t w x at work = ap (λ o. event_of o p t w) at ∙ ap (λ b. event_if b p t w x) work

ended_by : (o : Outcome) (calls : List ScriptCall) (x y : Thread) → has_call calls ≡ true → x.calls ≡ calls → y.calls ≡ calls → y.ended ≡ x.ended → HasEnded o x (after_end o y)
ended_by o [] x y some a b same = absurd (cc)
ended_by o (call ∷ calls) x y some a b same = record {
  call = call;
  was_first = a ∙ ap (λ left. call ∷ other_calls left) (sym b);
  told = ap (λ over. over ++ ending o y.calls) same ∙ ap (λ left. x.ended ++ ending o left) b;
  fuel = refl;
  due = refl;
  frames = refl;
}

stopped_by : (laws : AuthorityLaws) (p : Program) (s : State) (t : ℕ) (r : Request) (o : Outcome) → (serve p s t r).reply ≡ Ended o → IsStop t r o s (serve p s t r).state
stopped_by laws p s t r o is = record { same = laws.stopped p s t r o is; history = laws.stripped p s t r o is; journal = noted p s t r ∙ ap (λ reply. s.journal ++ record { thread = t; request = r; reply = reply } ∷ []) is }

pub stops_cleanly : (laws : AuthorityLaws) (p : Program) (t : ℕ) (w : World) → StopsCleanly p t w
stops_cleanly laws p t w x o at work is =
    let y = absorb p t (next p t x).thread (event_request p t x) (Ended o) in
    let step = worked p t w x at work in
    let same = next_has p t x in
    let taken : slice_get (event p t w).threads t ≡ Some y =
    ap (λ v. slice_get v.threads t) step ∙ ap (λ reply. slice_get (slice_set w.threads t (absorb p t (next p t x).thread (event_request p t x) reply)) t) is
    ∙ set_here w.threads t x y at in
    record {
      thread = (y, taken, ended_by o x.calls x (next p t x).thread work refl same.0 same.1);
      others = λ u other. laws.others p t u w other;
      state = subst (λ s. IsStop t (event_request p t x) o w.state s) (sym (ap (λ v. v.state) step)) (stopped_by laws p w.state t (event_request p t x) o is);
    }
