-- What is tried is what is served.
use Rattle.std.proofs.Common.{◌≡◌, ◌∙◌, sym, ap, subst, ℕ, Option, Err, [], ◌∷◌, ◌++◌, map}
use Rattle.lx_caps.specs.History.{History}
use Rattle.lx_model.specs.declared.program.Program.{Program}
use Rattle.lx_model.specs.declared.request.Outcome.{Outcome}
use Rattle.lx_model.specs.declared.request.Reply.{Reply}
use Rattle.lx_model.specs.declared.request.Reply.TheVariants as reply
use Rattle.lx_model.specs.declared.request.Request.{Request}
use Rattle.lx_model.specs.State.{State}
use Rattle.lx_model.specs.Decide.{decide}
use Rattle.lx_model.specs.Serve.{after_stop, serve, serve_by}
use Rattle.lx_serve.specs.Stands.{Keeps, Gives, Tries, StandsForState, Serves, program_of}
use Rattle.lx_serve.specs.declared.halt.Halt.{Halt}
use Rattle.lx_serve.specs.declared.halt.Halt.TheVariants as halt
use Rattle.lx_serve.specs.declared.monitor.Monitor.{Monitor}
use Rattle.lx_serve.specs.declared.shared.SharedPart.{SharedPart}
use Rattle.lx_model.proofs.Threads.{threads_push}
use Rattle.lx_model.proofs.ServedJournal.{served_journal}

-- a request that comes to an outcome ends its call
pub stopped : {C : Type 0} (stands : C → History → Type 0) (p : Program) (before after : Monitor C) (s : State) (t : ℕ) (r : Request) (o : Outcome) (answer : Reply) (e : Halt) → e ≡ halt.Ended o
    → Tries stands p before s t r.who r.what (Err e) → (Keeps stands p before s → Keeps stands p after (after_stop t s)) → answer ≡ reply.Ended o
    → Gives stands p after answer (serve_by (decide p s t r) p s t r)
stopped stands p before after s t r o answer e is tries ends told =
    let tried = subst (λ (h : Halt). Tries stands p before s t r.who r.what (Err h)) is tries in
    subst (λ (d : Option Outcome). Gives stands p after answer (serve_by d p s t r)) (sym tried.0) (record { reply = told; state = ends tried.1 })

-- the journal has its entry
pub entered : {C : Type 0} (stands : C → History → Type 0) (p : Program) (s : State) (t : ℕ) (r : Request) (old new : SharedPart C) (answer : Reply)
    → StandsForState stands p old s → program_of new ≡ program_of old → new.journal.items ≡ old.journal.items ++ t ∷ []
    → Gives stands p new.monitor answer (serve_by (decide p s t r) p s t r)
    → Serves stands p new answer (serve p s t r)
entered stands p s t r old new answer st same pushed gives =
    let k = gives.state in
    let x = serve_by (decide p s t r) p s t r in
    record {
      reply = gives.reply;
      state = record {
        program = same ∙ st.program;
        keeps = record { memory = k.memory; blocks = k.blocks; names = k.names; history = k.history; notes = k.notes; sources = k.sources; texts = k.texts };
        journal =
            pushed
            ∙ ap (λ l. l ++ t ∷ []) (st.journal ∙ ap (map (λ e. e.thread)) (sym (served_journal p s t r (decide p s t r))))
            ∙ sym (threads_push x.state.journal (record { thread = t; request = r; reply = x.reply }));
      };
    }
