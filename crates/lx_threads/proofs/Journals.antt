-- The journal has one entry more for each request that is served.
use Rattle.std.proofs.Common.{◌≡◌, ◌∙◌, refl, ap, ℕ, List, [], ◌∷◌, ◌++◌, map}
use Rattle.lx_model.specs.declared.program.Program.{Program}
use Rattle.lx_model.specs.State.{State}
use Rattle.lx_caplock.specs.declared.knowledge.Entry.{Entry}
use Rattle.lx_caplock.specs.Serving.{served_by, state_after}
use Rattle.lx_threads.specs.Monitor.{threads_of}
use Rattle.lx_model.proofs.Threads.{threads_push}
use Rattle.lx_run_laws.proofs.Journal.{noted}

journal_one : (p : Program) (s : State) (e : Entry) → map (λ x. x.thread) (served_by p s e).state.journal ≡ map (λ x. x.thread) s.journal ++ e.thread ∷ []
journal_one p s e =
    ap (map (λ x. x.thread)) (noted p s e.thread e.request) ∙ threads_push s.journal (record { thread = e.thread; request = e.request; reply = (served_by p s e).reply })

in_order : (xs ys : List ℕ) (t : ℕ) → (xs ++ t ∷ []) ++ ys ≡ xs ++ t ∷ ys
in_order [] ys t = refl
in_order (x ∷ xs) ys t = ap (λ l. x ∷ l) (in_order xs ys t)

nothing_more : (xs : List ℕ) → xs ≡ xs ++ []
nothing_more [] = refl
nothing_more (x ∷ xs) = ap (λ l. x ∷ l) (nothing_more xs)

-- the schedule goes on by the threads of the history
pub schedule_after : (p : Program) (s : State) (history : List Entry) → map (λ e. e.thread) (state_after p s history).journal ≡ map (λ e. e.thread) s.journal ++ threads_of history
schedule_after p s [] = nothing_more (map (λ e. e.thread) s.journal)
schedule_after p s (e ∷ es) =
    schedule_after p (served_by p s e).state es
    ∙ ap (λ l. l ++ threads_of es) (journal_one p s e)
    ∙ in_order (map (λ x. x.thread) s.journal) (threads_of es) e.thread
