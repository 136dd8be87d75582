-- What stands for the monitor's run behind one event more, and what is asked there.
use Rattle.std.proofs.Common.{◌≡◌, ◌∙◌, refl, sym, ap, ap₂, subst, ℕ, zero, suc, ◌≤◌, Bool, not, ◌&&◌, ◌||◌, if◌then◌else◌, Option, Some, None, List, [], ◌∷◌, ◌++◌, length, reverse, take, arith}
use Rattle.std.specs.Prelude.{filter, option_map, slice_get}
use Rattle.std.proofs.lemmas.List.{length-append, reverse-append, reverse-reverse, take_all, take-append-le}
use Rattle.lx_caps.specs.declared.Principal.{Principal}
use Rattle.lx_caps.specs.declared.Act.{Act}
use Rattle.lx_caps.specs.declared.Act.TheVariants.{Grant, Strip, Zero, Loan, Lend, Shut, ShutAll}
use Rattle.lx_caps.specs.History.{History, without_zeros}
use Rattle.lx_caps.specs.Memory.{Memory}
use Rattle.lx_caps.specs.Names.{Namings}
use Rattle.lx_certificates.specs.declared.Cert.{Cert}
use Rattle.lx_certificates.specs.declared.Need.{Need}
use Rattle.lx_certificates.specs.Needs.{AreCertsOf, is_met, up_to_unmet}
use Rattle.lx_certificates.specs.Told.{ToldLaws, told}
use Rattle.lx_model.specs.declared.program.Program.{Program}
use Rattle.lx_model.specs.declared.program.ScriptCall.{ScriptCall}
use Rattle.lx_model.specs.declared.request.Request.{Request}
use Rattle.lx_model.specs.declared.request.Way.TheVariants.{Script, Direct, Indirect, Slot}
use Rattle.lx_model.specs.declared.request.What.{What}
use Rattle.lx_model.specs.declared.request.What.TheVariants as what
use Rattle.lx_model.specs.Authority.{is_module}
use Rattle.lx_model.specs.Next.{next}
use Rattle.lx_model.specs.State.{State}
use Rattle.lx_model.specs.Thread.{Thread}
use Rattle.lx_model.specs.World.{World, event, opening, run}
use Rattle.lx_images.specs.Image.{Code, ImageThread, image_next}
use Rattle.lx_images.specs.ImageWorld.{image_opening, image_run}
use Rattle.lx_images.specs.Guarded.{Accepted}
use Rattle.lx_images.specs.Stands.{SameState, ThreadsStand}
use Rattle.lx_simulation.specs.Simulation.{AllGuarded, SimulationLaws}
use Rattle.lx_world.specs.Wants.{image_asks}
use Rattle.lx_run_laws.specs.Needs.{all_needs, needs_of}
use Rattle.lx_act_index.specs.Standing.{StandsForActs}
use Rattle.lx_why.specs.Certified.{CertifiesNext, acts_so_far, asks_next, needs_if}
use Rattle.lx_why.specs.Noted.{HasNoted}
use Rattle.lx_why.specs.Run.{acts_of}
use Rattle.lx_why.specs.declared.noted.Noted.{Noted}
use Rattle.lx_why.proofs.Growing.{event_grows}

-- one event more

-- acts

without_append : (more h : History) → without_zeros (more ++ h) ≡ without_zeros more ++ without_zeros h
without_append [] h = refl
without_append (Grant q c ∷ more) h = ap (λ (l : History). Grant q c ∷ l) (without_append more h)
without_append (Strip c ∷ more) h = ap (λ (l : History). Strip c ∷ l) (without_append more h)
without_append (Zero at size ∷ more) h = without_append more h
without_append (Loan t ∷ more) h = ap (λ (l : History). Loan t ∷ l) (without_append more h)
without_append (Lend t q c ∷ more) h = ap (λ (l : History). Lend t q c ∷ l) (without_append more h)
without_append (Shut t n ∷ more) h = ap (λ (l : History). Shut t n ∷ l) (without_append more h)
without_append (ShutAll t ∷ more) h = ap (λ (l : History). ShutAll t ∷ l) (without_append more h)

-- the acts behind an event are those before it, and more
more_acts : (p : Program) (t : ℕ) (w : World) → (more : List Act) × (acts_of (event p t w) ≡ acts_of w ++ more)
more_acts p t w =
    let g = event_grows p t w in
    (reverse (without_zeros g.0), ap (λ (h : History). reverse (without_zeros h)) g.1 ∙ ap reverse (without_append g.0 w.state.history) ∙ reverse-append (without_zeros g.0) (without_zeros w.state.history))

-- so what was noted stays noted
pub still_noted : (p : Program) (t : ℕ) (w : World) (n : Noted) → n.seen ≤ length (acts_of w) → HasNoted n (acts_of w) → HasNoted n (acts_of (event p t w))
still_noted p t w n within has =
    let m = more_acts p t w in
    subst (λ (l : List Act). StandsForActs n.index (told (reverse l))) (sym (ap (take n.seen) m.1 ∙ take-append-le n.seen (acts_of w) m.0 within)) has

pub still_within : (p : Program) (t : ℕ) (w : World) (n : ℕ) → n ≤ length (acts_of w) → n ≤ length (acts_of (event p t w))
still_within p t w n within =
    let m = more_acts p t w in
    let e = ap length m.1 in
    let l = length-append (acts_of w) m.0 in
    omega (arith, e, l, within)

-- and all of them noted are the acts so far
pub all_noted : ToldLaws → (w : World) (n : Noted) → length (acts_of w) ≤ n.seen → HasNoted n (acts_of w) → StandsForActs n.index (acts_so_far w)
all_noted laws w n all has =
    subst (StandsForActs n.index)
    (ap (λ (l : List Act). told (reverse l)) (take_all n.seen (acts_of w) all) ∙ ap told (reverse-reverse (without_zeros w.state.history)) ∙ laws.zeros_aside w.state.history)
    has

-- what is asked

-- of both lists of threads there is one with this number, or of neither
data Beside (c : Code) (k : ℕ) (ws : List Thread) (vs : List ImageThread) : Type 0 where
  Neither : slice_get ws k ≡ None → slice_get vs k ≡ None → Beside c k ws vs
  Both : (thread : Thread) (v : ImageThread) → slice_get ws k ≡ Some thread → slice_get vs k ≡ Some v → Beside c k ws vs

beside : (c : Code) (k : ℕ) (ws : List Thread) (vs : List ImageThread) → ThreadsStand c ws vs → Beside c k ws vs
beside c k [] vs all = Neither refl (ap (λ (us : List ImageThread). slice_get us k) all)
beside c k (w ∷ ws) [] all = absurd all
beside c zero (w ∷ ws) (v ∷ vs) all = Both w v refl refl
beside c (suc k) (w ∷ ws) (v ∷ vs) all = elim (beside c k ws vs all.1) [
  | Neither a b ↦ Neither a b
  | Both thread u a b ↦ Both thread u a b
]

asked_both : SimulationLaws → (c : Code) → Accepted c → AllGuarded c → (script : List (List ScriptCall)) (s : List ℕ) (t : ℕ)
    → Beside c t (run c.program s (opening c.program script)).threads (image_run c s (image_opening c script)).threads
    → image_asks c t (image_run c s (image_opening c script)) ≡ asks_next c.program t (run c.program s (opening c.program script))
asked_both laws c acc all script s t (Neither a b) = ap (option_map (λ x. (image_next c x).request)) b ∙ sym (ap (option_map (λ x. (next c.program t x).request)) a)
asked_both laws c acc all script s t (Both thread v a b) =
    ap (option_map (λ x. (image_next c x).request)) b ∙ ap Some (laws.asked_in_runs c acc all script s t thread v a b) ∙ sym (ap (option_map (λ x. (next c.program t x).request)) a)

-- an image thread asks what the monitor's thread asks
pub asked_same : SimulationLaws → (c : Code) → Accepted c → AllGuarded c → (script : List (List ScriptCall)) (s : List ℕ) (t : ℕ)
    → image_asks c t (image_run c s (image_opening c script)) ≡ asks_next c.program t (run c.program s (opening c.program script))
asked_same laws c acc all script s t =
    asked_both laws c acc all script s t (beside c t _ _ (laws.guarded_runs c acc all script s).threads)

-- what a request needs hangs on memory, the names and the history alone

abbrev packed : Memory → Namings → History → State
packed memory names history = record { memory = memory; blocks = []; names = names; history = history; notes = []; journal = [] }

abbrev packs : State → State
packs s = packed s.memory s.names s.history

bare : (p : Program) (s : State) (who : Principal) (w : What) → all_needs p s who w ≡ all_needs p (packs s) who w
bare p s who (what.Load at width) = refl
bare p s who (what.Store at v) = refl
bare p s who (what.Copy to from zero) = refl
bare p s who (what.Copy to from (suc len)) = refl
bare p s who (what.Fill to byte zero) = refl
bare p s who (what.Fill to byte (suc len)) = refl
bare p s who (what.Alloca at size) = refl
bare p s who (what.Enter (Script n) args) = refl
bare p s who (what.Enter (Direct n) args) = refl
bare p s who (what.Enter (Indirect a) args) = refl
bare p s who (what.Enter (Slot slot ty) args) = refl
bare p s who (what.Perform n post k env source dest) = refl
bare p s who (what.Return low high) = refl
bare p s who (what.Native k args) = refl
bare p s who (what.Finish o) = refl

needs_bare : (p : Program) (s : State) (r : Request) → needs_of p s r ≡ needs_of p (packs s) r
needs_bare p s r = ap (λ ns. up_to_unmet s.history (filter (λ n. is_module n.who) ns)) (bare p s r.who r.what)

pub needs_same : (p : Program) (s v : State) (r : Request) → SameState s v → needs_of p v r ≡ needs_of p s r
needs_same p s v r is =
    needs_bare p v r
    ∙ ap (λ (m : Memory). needs_of p (packed m v.names v.history) r) is.memory
    ∙ ap (λ (n : Namings). needs_of p (packed s.memory n v.history) r) is.names
    ∙ ap (λ (h : History). needs_of p (packed s.memory s.names h) r) is.history
    ∙ sym (needs_bare p s r)

-- what a run that certifies knows

-- nothing was noted, whatever the acts are
pub none_noted : (acts : List Act) (n : Noted) → n.seen ≡ 0 → HasNoted n [] → HasNoted n acts
none_noted acts n none has = subst (λ (l : List Act). StandsForActs n.index (told (reverse l))) (ap (λ (k : ℕ). take k []) none ∙ sym (ap (λ (k : ℕ). take k acts) none)) has

-- what is not told changes no need that is met
met_told : ToldLaws → (h : History) (n : Need) → is_met (told h) n ≡ is_met h n
met_told laws h n = ap₂ (λ (a b : Bool). a && (not n.kept || b)) (laws.holders h n.who n.cap) (laws.keepers h n.who n.cap)

pub unmet_told : ToldLaws → (h : History) (ns : List Need) → up_to_unmet (told h) ns ≡ up_to_unmet h ns
unmet_told laws h [] = refl
unmet_told laws h (n ∷ ns) = ap₂ (λ (b : Bool) (rest : List Need). n ∷ (if b then rest else [])) (met_told laws h n) (unmet_told laws h ns)

-- the certificates of what an image thread asks are those of what the monitor's thread asks
pub certs_are : (p : Program) (w : World) (t : ℕ) (v : State) (r : Request) (certs : List Cert) → SameState w.state v → asks_next p t w ≡ Some r → AreCertsOf (told v.history) (needs_of p v r) certs → CertifiesNext p t w certs
certs_are p w t v r certs same asks are =
    subst (λ (o : Option Request). AreCertsOf (told w.state.history) (needs_if p w.state o) certs) (sym asks)
    (subst (λ (ns : List Need). AreCertsOf (told w.state.history) ns certs) (needs_same p w.state v r same)
    (subst (λ (h : History). AreCertsOf (told h) (needs_of p v r) certs) same.history are))
