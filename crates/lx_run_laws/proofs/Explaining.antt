-- Each reply is explained, and so each event of a run.
use Rattle.std.proofs.Common.{◌≡◌, ℕ, true, false, Option, Some, List, [], ◌∷◌, refl, sym, ap, subst, ◌∙◌}
use Rattle.std.specs.List.{list_all}
use Rattle.std.proofs.lemmas.Option.{same_Some}
use Rattle.lx_model.specs.declared.program.Program.{Program}
use Rattle.lx_model.specs.declared.request.Outcome.{Outcome}
use Rattle.lx_model.specs.declared.request.Outcome.TheVariants.{Refused}
use Rattle.lx_model.specs.declared.request.Refusal.{Refusal}
use Rattle.lx_model.specs.declared.request.Reply.{Reply}
use Rattle.lx_model.specs.declared.request.Reply.TheVariants.{Value, Done, Entered, Ended}
use Rattle.lx_model.specs.declared.request.Request.{Request}
use Rattle.lx_model.specs.declared.request.What.{What}
use Rattle.lx_model.specs.Decide.{decide}
use Rattle.lx_model.specs.Next.{next, request}
use Rattle.lx_model.specs.Serve.{serve}
use Rattle.lx_model.specs.State.{State}
use Rattle.lx_model.specs.World.{World, event}
use Rattle.lx_run_laws.specs.Authorised.{is_end}
use Rattle.lx_certificates.specs.declared.Need.{Need}
use Rattle.lx_certificates.specs.Needs.{is_met}
use Rattle.lx_run_laws.specs.Needs.{needs_of, is_for_need, refuses_need, IsUnmet}
use Rattle.lx_run_laws.specs.Explained.{IsExplained, AreExplained}
use Rattle.lx_run_laws.proofs.Causing.{is_decided}
use Rattle.lx_run_laws.proofs.Refusing.{has_cause}
use Rattle.lx_run_laws.proofs.Replying.{is_decision, is_reply}
use Rattle.lx_run_laws.proofs.Decisions.{same_refusal}
use Rattle.lx_run_laws.proofs.Meeting.{request_need}
use Rattle.lx_run_laws.proofs.Needing.{Needing, AllMet, LastUnmet, not_false}
use Rattle.lx_run_laws.proofs.Entering.{is_entry}

-- needs

goes_on : (reply : Reply) → is_end reply ≡ false → refuses_need reply ≡ false
goes_on (Value v) goes = refl
goes_on Done goes = refl
goes_on (Entered n q c) goes = refl
goes_on (Ended o) goes = absurd (cc)

met_by : (s : State) (w : What) (d : Option Outcome) (ns : List Need) → ((x : Refusal) → is_for_need x ≡ true → d ≡ Some (Refused x) → ⊥) → Needing s w d ns
    → list_all (is_met s.history) ns ≡ true
met_by s w d ns none (AllMet all quiet) = all
met_by s w d ns none (LastUnmet x for is unmet) = absurd (none x for is)

met_still : (p : Program) (s : State) (t : ℕ) (r : Request) → refuses_need (serve p s t r).reply ≡ false → list_all (is_met s.history) (needs_of p s r) ≡ true
met_still p s t r none =
    met_by s r.what (decide p s t r) (needs_of p s r)
    (λ x for is. not_false (is_for_need x) for (sym (ap refuses_need (is_reply p s t r (Refused x) is)) ∙ none))
    (request_need p s t r.who r.what)

unmet_named : (s : State) (w : What) (d : Option Outcome) (ns : List Need) (x : Refusal) → is_for_need x ≡ true → d ≡ Some (Refused x) → Needing s w d ns → IsUnmet s w ns x
unmet_named s w d ns x for is (AllMet all quiet) = not_false (is_for_need x) for (quiet x is)
unmet_named s w d ns x for is (LastUnmet y other found unmet) = subst (IsUnmet s w ns) (same_refusal y x (same_Some _ _ (sym found ∙ is))) unmet

pub is_explained : (p : Program) (s : State) (t : ℕ) (r : Request) → IsExplained p s t r
is_explained p s t r = record {
  entered = λ way args n q c is served.
      is_entry p s t r.who way args n q c (subst (λ (w : What). (serve p s t (request r.who w)).reply ≡ Entered n q c) is served);
  met = λ goes. met_still p s t r (goes_on (serve p s t r).reply goes);
  met_still = met_still p s t r;
  unmet = λ x goes for is. unmet_named s r.what (decide p s t r) (needs_of p s r) x for (is_decision p s t r (Refused x) goes is) (request_need p s t r.who r.what);
  has_cause = λ x goes is. has_cause p s t r.who r.what x (is_decision p s t r (Refused x) goes is);
  is_refused = λ x cause. is_reply p s t r (Refused x) (is_decided p s t r x cause);
}

pub run_explained : (p : Program) (schedule : List ℕ) (w : World) → AreExplained p schedule w
run_explained p [] w = tt
run_explained p (t ∷ ts) w = ((λ x at work. is_explained p w.state t (next p t x).request), run_explained p ts (event p t w))
