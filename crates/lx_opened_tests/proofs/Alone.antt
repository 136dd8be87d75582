-- A history of one seat alone.
use Rattle.std.proofs.Common.{◌≡◌, ◌≢◌, ◌∙◌, refl, sym, ap, ℕ, ◌+◌, arith, List, [], ◌∷◌, length, length-append, map}
use Rattle.std.specs.Prelude.{if◌then◌else◌}
use Rattle.std.proofs.lemmas.List.{length-map}
use mathlib.Core.Logic.{dite}
use native.Mathlib.Decide.{ℕ_discrete}
use Rattle.lx_caplock.specs.declared.knowledge.Entry.{Entry}
use Rattle.lx_caplock.specs.History.{entries_of}
use Rattle.lx_caplock.specs.Serving.{state_after}
use Rattle.lx_model.specs.declared.program.Program.{Program}
use Rattle.lx_model.specs.State.{State}
use Rattle.lx_threads.proofs.Journals.{schedule_after}
use Rattle.lx_threads.proofs.Runs.{calls_here, calls_else}

-- where no other number has an entry, the entries of the one are the whole history
pub all_its_own : (n : ℕ) (history : List Entry) → ((k : ℕ) → k ≢ n → entries_of k history ≡ []) → entries_of n history ≡ history
all_its_own n [] none = refl
all_its_own n (e ∷ es) none =
    dite (ℕ_discrete n e.seat)
    (λ (is : n ≡ e.seat). calls_here n e es is ∙ ap (λ l. e ∷ l) (all_its_own n es (λ k not. sym (calls_else k e es (λ same. not (same ∙ sym is))) ∙ none k not)))
    (λ not. let l = ap length (sym (calls_here e.seat e es refl) ∙ none e.seat (λ same. not (sym same))) in absurd (omega arith))

-- the journal is longer by the history
pub longer : (p : Program) (s : State) (history : List Entry) → length (state_after p s history).journal ≡ length s.journal + length history
longer p s history = omega (
  arith,
  length-map (state_after p s history).journal (λ e. e.thread),
  ap length (schedule_after p s history),
  length-append (map (λ e. e.thread) s.journal) (map (λ (e : Entry). e.thread) history),
  length-map s.journal (λ e. e.thread),
  length-map history (λ (e : Entry). e.thread),
)
