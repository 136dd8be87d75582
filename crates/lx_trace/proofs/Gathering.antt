-- A run whose events are gathered, entry by entry of its schedule.
use Rattle.std.proofs.Common.{◌≡◌, ◌∙◌, sym, ap, subst, ℕ, ◌+◌, ◌<◌, ◌≤◌, true, List, [], ◌∷◌, ◌++◌, append_assoc, length, take, get_or, Option, Some}
use Rattle.std.specs.Option.{option_to_list}
use Rattle.std.proofs.lemmas.List.{take_all, take_more}
use mathlib.Core.List.{append-nil}
use Rattle.lx_caps.specs.History.{History}
use Rattle.lx_model.specs.declared.program.Program.{Program}
use Rattle.lx_model.specs.declared.program.ScriptCall.{ScriptCall}
use Rattle.lx_model.specs.World.{World, can_act, event, opening, run}
use Rattle.lx_runs.proofs.Walked.{IsBrokenBehind, none_done, one_done}
use Rattle.lx_trace_text.specs.declared.Traced.{Traced}
use Rattle.lx_trace.specs.Run.{IsOfRun, StandsForTrace}
use Rattle.lx_trace.specs.Trace.{behind, trace, traced_at}
use Rattle.lx_trace.specs.declared.run.TraceRun.{TraceRun}

-- the events of one entry more
trace_more : (p : Program) (s : List ℕ) (t : ℕ) (w : World) → trace p (s ++ t ∷ []) w ≡ trace p s w ++ option_to_list (traced_at p t (run p s w))
trace_more p [] t w = append-nil (option_to_list (traced_at p t w))
trace_more p (u ∷ s) t w =
    ap (λ (es : List Traced). option_to_list (traced_at p u w) ++ es) (trace_more p s t (event p u w))
    ∙ sym (append_assoc (option_to_list (traced_at p u w)) (trace p s (event p u w)) (option_to_list (traced_at p t (run p s (event p u w)))))

-- the first entries of a schedule are done and their events gathered, and the others are left
pub record HasGathered {C : Type 0} (stands : C → History → Type 0) (p : Program) (script : List (List ScriptCall)) (s : List ℕ) (n : ℕ) (r : TraceRun C) (events : List Traced) : Type 0 where
  pub stands_for : StandsForTrace stands p script (take n s) r
  pub gathered : events ≡ trace p (take n s) (opening p script)
  pub broken : IsBrokenBehind p script s n

-- none is done
pub none_gathered : {C : Type 0} (stands : C → History → Type 0) (p : Program) (script : List (List ScriptCall)) (s : List ℕ) (r : TraceRun C) (events : List Traced) → events ≡ [] → StandsForTrace stands p script [] r → HasGathered stands p script s 0 r events
none_gathered stands p script s r events empty st = record { stands_for = st; gathered = empty; broken = none_done p script s }

-- an entry that is done has its event
pub one_gathered : {C : Type 0} (stands : C → History → Type 0) (p : Program) (script : List (List ScriptCall)) (s : List ℕ) (n : ℕ) (old new : TraceRun C) (events more : List Traced) (e : Traced) → n < length s
    → HasGathered stands p script s n old events → can_act (behind p script (take n s)) (get_or s n 0) ≡ true → StandsForTrace stands p script (take n s ++ get_or s n 0 ∷ []) new
    → traced_at p (get_or s n 0) (behind p script (take n s)) ≡ Some e → more ≡ events ++ e ∷ [] → HasGathered stands p script s (n + 1) new more
one_gathered stands p script s n old new events more e below has works st is pushed =
    let t = get_or s n 0 in
    let taken = take_more s n 0 below in
    record {
      stands_for = subst (λ (ts : List ℕ). StandsForTrace stands p script ts new) (sym taken) st;
      gathered =
          pushed
          ∙ ap (λ (es : List Traced). es ++ e ∷ []) has.gathered
          ∙ ap (λ (o : Option Traced). trace p (take n s) (opening p script) ++ option_to_list o) (sym is)
          ∙ sym (trace_more p (take n s) t (opening p script))
          ∙ ap (λ (ts : List ℕ). trace p ts (opening p script)) (sym taken);
      broken = one_done p script s n below has.broken works;
    }

-- behind the last entry all are
pub all_gathered : {C : Type 0} (stands : C → History → Type 0) (p : Program) (script : List (List ScriptCall)) (s : List ℕ) (n : ℕ) (r : TraceRun C) (events : List Traced) → length s ≤ n
    → HasGathered stands p script s n r events → IsOfRun stands p script s r × (events ≡ trace p s (opening p script))
all_gathered stands p script s n r events past has =
    let all = take_all n s past in
    (subst (λ (ts : List ℕ). IsOfRun stands p script ts r) all has.stands_for.of_run, has.gathered ∙ ap (λ (ts : List ℕ). trace p ts (opening p script)) all)
