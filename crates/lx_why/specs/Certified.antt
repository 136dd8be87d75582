-- The certificates of a run: one for each need of each event, by the acts before the event.
use Rattle.std.specs.Prelude.{◌≡◌, ℕ, suc, Option, Some, None, List, [], ◌++◌, ◌∷◌, map, option_map, slice_get}
use Rattle.lx_caps.specs.History.{History}
use Rattle.lx_certificates.specs.declared.Cert.{Cert}
use Rattle.lx_certificates.specs.declared.Need.{Need}
use Rattle.lx_certificates.specs.Needs.{AreCertsOf}
use Rattle.lx_certificates.specs.Told.{told}
use Rattle.lx_model.specs.declared.program.Program.{Program}
use Rattle.lx_model.specs.declared.request.Request.{Request}
use Rattle.lx_model.specs.Next.{next}
use Rattle.lx_model.specs.State.{State}
use Rattle.lx_model.specs.World.{World, event}
use Rattle.lx_run_laws.specs.Needs.{needs_of}
use Rattle.lx_why_text.specs.declared.Certified.{Certified}

-- the acts so far, the newest first: the grants, lends and strips that have an atom, and the loans
abbrev pub acts_so_far : World → History
acts_so_far w = told w.state.history

-- what the thread with this number asks next, if there is such a thread
abbrev pub asks_next : Program → ℕ → World → Option Request
asks_next p t w = option_map (λ thread. (next p t thread).request) (slice_get w.threads t)

-- what is asked needs this
abbrev pub needs_if : Program → State → Option Request → List Need
needs_if p s None = []
needs_if p s (Some r) = needs_of p s r

-- what the next event of the thread with this number needs
abbrev pub next_needs : Program → ℕ → World → List Need
next_needs p t w = needs_if p w.state (asks_next p t w)

-- the certificates are those of what the next event of the thread needs, by the acts so far
abbrev pub CertifiesNext : Program → ℕ → World → List Cert → Type 0
CertifiesNext p t w certs = AreCertsOf (acts_so_far w) (next_needs p t w) certs

-- a certificate of the event with this number
abbrev pub certified : ℕ → ℕ → Cert → Certified
certified n t c = record { event = n; thread = t; cert = c }

-- the certificates of the events of a schedule, the first of which has this number: in the order of events, and there are no others
abbrev pub AreCertified : Program → ℕ → List ℕ → World → List Certified → Type 0
AreCertified p n [] w certs = certs ≡ []
AreCertified p n (t ∷ ts) w certs =
    (here : List Cert) × (later : List Certified) × CertifiesNext p t w here × (certs ≡ map (certified n t) here ++ later) × AreCertified p (suc n) ts (event p t w) later
