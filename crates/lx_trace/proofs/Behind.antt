-- What images ask in a run is what the program asks, in the same call and at the same line.
use Rattle.std.proofs.Common.{◌≡◌, ◌∙◌, refl, sym, ap, ℕ, zero, suc, true, false, Option, Some, None, List, [], ◌∷◌, length}
use Rattle.std.specs.Prelude.{option_and_then, option_map, slice_get}
use Rattle.std.proofs.lemmas.Bool.{true_from_ne_false}
use Rattle.lx_words.proofs.Options.{none_some, some_same}
use Rattle.lx_model.specs.declared.program.ScriptCall.{ScriptCall}
use Rattle.lx_model.specs.declared.request.Reply.{Reply}
use Rattle.lx_model.specs.declared.request.Request.{Request}
use Rattle.lx_model.specs.Next.{next}
use Rattle.lx_model.specs.Serve.{serve}
use Rattle.lx_model.specs.Thread.{Thread, has_call}
use Rattle.lx_model.specs.World.{World, can_act, works}
use Rattle.lx_images.specs.Asker.{image_asks_at}
use Rattle.lx_images.specs.Guarded.{Accepted}
use Rattle.lx_images.specs.Image.{Code, ImageThread, image_next}
use Rattle.lx_images.specs.ImageWorld.{ImageWorld, image_opening, image_run}
use Rattle.lx_images.specs.Shown.{shown}
use Rattle.lx_images.specs.Stands.{StandsFor, ThreadStands, ThreadsStand}
use Rattle.lx_simulation.specs.Simulation.{AllGuarded, SimulationLaws}
use Rattle.lx_simulation.proofs.Journals.{served-same}
use Rattle.lx_code_lines.specs.PlaceLaws.{PlaceLaws}
use Rattle.lx_code_lines.specs.Place.{asks_at, image_place}
use Rattle.lx_trace_text.specs.declared.Site.{Site}
use Rattle.lx_world.specs.InCall.{call_at, call_of}
use Rattle.lx_world.specs.Wants.{image_asks}
use Rattle.lx_trace.specs.Asked.{answered, asked_by, asked_if}
use Rattle.lx_trace.specs.Trace.{behind, first_function, site_of, traced, traced_at}
use Rattle.lx_trace.specs.declared.run.Asked.{Asked}

-- of both lists of threads there is one with this number, which stands for the other, or of neither
data Beside (c : Code) (k : ℕ) (ws : List Thread) (vs : List ImageThread) : Type 0 where
  Neither : slice_get ws k ≡ None → slice_get vs k ≡ None → Beside c k ws vs
  Both : (thread : Thread) (x : ImageThread) → slice_get ws k ≡ Some thread → slice_get vs k ≡ Some x → ThreadStands c thread x → Beside c k ws vs

beside : (c : Code) (k : ℕ) (ws : List Thread) (vs : List ImageThread) → ThreadsStand c ws vs → Beside c k ws vs
beside c k [] vs all = Neither refl (ap (λ (us : List ImageThread). slice_get us k) all)
beside c k (w ∷ ws) [] all = absurd all
beside c zero (w ∷ ws) (v ∷ vs) all = Both w v refl refl all.0
beside c (suc k) (w ∷ ws) (v ∷ vs) all = elim (beside c k ws vs all.1) [
  | Neither a b ↦ Neither a b
  | Both thread x a b stands ↦ Both thread x a b stands
]

-- the first call that is left

-- what images ask in it
abbrev asked_in : Option Site → ℕ → List ScriptCall → Request → Option Asked
asked_in x n calls r = asked_if x (option_map (λ (call : ScriptCall). (n, call.function)) (slice_get calls 0)) (Some r)

in_call : (x : Option Site) (n : ℕ) (calls : List ScriptCall) (r : Request) (a : Asked) → asked_in x n calls r ≡ Some a → ◌≡◌ {A = Asked} (record { call = n; function = first_function calls; site = x; request = r }) a
in_call x n [] r a is = none_some is
in_call x n (c ∷ cs) r a is = some_same is

left_call : (x : Option Site) (n : ℕ) (calls : List ScriptCall) (r : Request) → has_call calls ≡ true → asked_in x n calls r ≡ None → ⊥
left_call x n [] r has is = absurd cc
left_call x n (c ∷ cs) r has is = none_some (sym is)

module _ (sim : SimulationLaws) (c : Code) (acc : Accepted c) (all : AllGuarded c) (script : List (List ScriptCall)) (s : List ℕ) where
  abbrev monitor : World
  monitor = behind c.program script s

  abbrev imaged : ImageWorld
  imaged = image_run c s (image_opening c script)

  standing : StandsFor c monitor imaged
  standing = sim.guarded_runs c acc all script s

  there : (t : ℕ) → Beside c t monitor.threads imaged.threads
  there t = beside c t monitor.threads imaged.threads standing.threads

  -- what an image thread asks, if there is one
  abbrev asked_of_images : ℕ → Option Site → Option ImageThread → Option Asked
  asked_of_images t x o = asked_if x (option_and_then call_of o) (option_map (λ v. (image_next c v).request) o)

  asked_both : (places : PlaceLaws) (t : ℕ) (x : Option Site) (a : Asked) → Beside c t monitor.threads imaged.threads
      → ((v : ImageThread) → slice_get imaged.threads t ≡ Some v → x ≡ site_of c.program (option_map image_place (image_asks_at c v)))
      → asked_if x (call_at imaged t) (image_asks c t imaged) ≡ Some a → option_map (asked_by c.program t) (slice_get monitor.threads t) ≡ Some a
  asked_both places t x a (Neither none empty) at is = none_some (sym (ap (asked_of_images t x) empty) ∙ is)
  asked_both places t x a (Both thread v got is_there stands) at is =
      let site : x ≡ site_of c.program (asks_at c.program t thread) = at v is_there ∙ ap (site_of c.program) (places.in_runs c acc all script s t thread v got is_there) in
      let request : (image_next c v).request ≡ (next c.program t thread).request = sim.asked_in_runs c acc all script s t thread v got is_there in
      let same : asked_by c.program t thread ≡ record { call = length v.ended; function = first_function v.calls; site = x; request = (image_next c v).request }
      = λ j. record { call = length (sym stands.ended j); function = first_function (sym stands.calls j); site = sym site j; request = sym request j } in
      ap (option_map (asked_by c.program t)) got ∙ ap Some (same ∙ in_call x (length v.ended) v.calls (image_next c v).request a (sym (ap (asked_of_images t x) is_there) ∙ is))

  -- what is asked
  pub asked_is : (places : PlaceLaws) (t : ℕ) (x : Option Site) (a : Asked) → ((v : ImageThread) → slice_get imaged.threads t ≡ Some v → x ≡ site_of c.program (option_map image_place (image_asks_at c v)))
      → asked_if x (call_at imaged t) (image_asks c t imaged) ≡ Some a → option_map (asked_by c.program t) (slice_get monitor.threads t) ≡ Some a
  asked_is places t x a at is = asked_both places t x a (there t) at is

  asked_by_both : (t : ℕ) (x : Option Site) → Beside c t monitor.threads imaged.threads → can_act monitor t ≡ true → asked_if x (call_at imaged t) (image_asks c t imaged) ≡ None → ⊥
  asked_by_both t x (Neither none empty) acts is = let idle = ap works none in absurd cc
  asked_by_both t x (Both thread v got is_there stands) acts is =
      left_call x (length v.ended) v.calls (image_next c v).request (ap has_call stands.calls ∙ (sym (ap works got) ∙ acts)) (sym (ap (asked_of_images t x) is_there) ∙ is)

  -- a thread that the images let act asks
  pub asks_something : (t : ℕ) (x : Option Site) → (can_act (shown imaged) t ≡ false → ⊥) → asked_if x (call_at imaged t) (image_asks c t imaged) ≡ None → ⊥
  asks_something t x busy is = asked_by_both t x (there t) (true_from_ne_false (can_act monitor t) (λ idle. busy (sim.showing.acts c monitor imaged standing t ∙ idle))) is

  answered_both : (t : ℕ) (a : Asked) (reply : Reply) → Beside c t monitor.threads imaged.threads → option_map (asked_by c.program t) (slice_get monitor.threads t) ≡ Some a
      → ((v : ImageThread) → slice_get imaged.threads t ≡ Some v → reply ≡ (serve c.program imaged.state t (image_next c v).request).reply) → traced_at c.program t monitor ≡ Some (answered t a reply)
  answered_both t a reply (Neither none empty) is gives = none_some (sym (ap (option_map (asked_by c.program t)) none) ∙ is)
  answered_both t a reply (Both thread v got is_there stands) is gives =
      let same : asked_by c.program t thread ≡ a = some_same (sym (ap (option_map (asked_by c.program t)) got) ∙ is) in
      let asks = sim.asked_in_runs c acc all script s t thread v got is_there in
      let replied : reply ≡ (serve c.program monitor.state t (next c.program t thread).request).reply
      = gives v is_there ∙ ap (λ (r : Request). (serve c.program imaged.state t r).reply) asks ∙ (served-same c.program monitor.state imaged.state t (next c.program t thread).request standing.state).1 in
      ap (option_map (traced c.program t monitor)) got
      ∙ ap Some (λ j. record { thread = t; call = (same j).call; function = (same j).function; site = (same j).site; request = (same j).request; reply = sym replied j })

  -- and what is replied to it
  pub answered_is : (t : ℕ) (a : Asked) (reply : Reply) → option_map (asked_by c.program t) (slice_get monitor.threads t) ≡ Some a
      → ((v : ImageThread) → slice_get imaged.threads t ≡ Some v → reply ≡ (serve c.program imaged.state t (image_next c v).request).reply) → traced_at c.program t monitor ≡ Some (answered t a reply)
  answered_is t a reply is gives = answered_both t a reply (there t) is gives
