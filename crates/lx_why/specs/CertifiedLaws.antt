-- What the certificates of a run say.
use Rattle.std.specs.Prelude.{◌≡◌, ℕ, true, false, IsTrue, Some, List, [], ◌∷◌, ◌++◌, slice_get, take}
use Rattle.std.specs.List.{list_all}
use Rattle.lx_certificates.specs.declared.Cert.{Cert}
use Rattle.lx_certificates.specs.Certificates.{is_cert}
use Rattle.lx_certificates.specs.Needs.{is_allow}
use Rattle.lx_model.specs.declared.program.Program.{Program}
use Rattle.lx_model.specs.declared.request.Outcome.TheVariants.{Refused}
use Rattle.lx_model.specs.declared.request.Refusal.{Refusal}
use Rattle.lx_model.specs.declared.request.Reply.{Reply}
use Rattle.lx_model.specs.declared.request.Reply.TheVariants.{Ended}
use Rattle.lx_model.specs.Next.{next}
use Rattle.lx_model.specs.Serve.{serve}
use Rattle.lx_model.specs.Thread.{Thread}
use Rattle.lx_model.specs.World.{World, run}
use Rattle.lx_run_laws.specs.Causes.{is_finish}
use Rattle.lx_run_laws.specs.Needs.{is_for_need, refuses_need}
use Rattle.lx_why_text.specs.declared.Certified.{Certified}
use Rattle.lx_why.specs.Certified.{AreCertified, CertifiesNext, acts_so_far}

-- the certificate is of an event of the schedule, by its number and its thread, and true of the acts before that event
pub record IsTrueOf (p : Program) (schedule : List ℕ) (w : World) (c : Certified) : Type 0 where
  pub thread : slice_get schedule c.event ≡ Some c.thread
  pub holds : IsTrue (is_cert (acts_so_far (run p (take c.event schedule) w)) c.cert)

-- what the next request of a thread is replied
abbrev pub next_reply : Program → ℕ → World → Thread → Reply
next_reply p t w thread = (serve p w.state t (next p t thread).request).reply

-- all allow but the last
pub record IsDenied (certs : List Cert) : Type 0 where
  pub before : List Cert
  pub last : Cert
  pub place : certs ≡ before ++ last ∷ []
  pub allowed : list_all is_allow before ≡ true
  pub denied : is_allow last ≡ false

pub record CertifiedLaws : Type 0 where
  -- each certificate of a schedule's events is one of them, and true of the acts before it
  pub holds : (p : Program) (schedule : List ℕ) (w : World) (certs : List Certified) → AreCertified p 0 schedule w certs → (k : ℕ) (c : Certified) → slice_get certs k ≡ Some c → IsTrueOf p schedule w c
  -- the certificates of an event that is refused for a need allow but for the last
  pub refused : (p : Program) (t : ℕ) (w : World) (thread : Thread) (certs : List Cert) (x : Refusal) → slice_get w.threads t ≡ Some thread → CertifiesNext p t w certs
      → is_finish (next p t thread).request.what ≡ false → is_for_need x ≡ true → next_reply p t w thread ≡ Ended (Refused x) → IsDenied certs
  -- and those of any other event allow
  pub performed : (p : Program) (t : ℕ) (w : World) (thread : Thread) (certs : List Cert) → slice_get w.threads t ≡ Some thread → CertifiesNext p t w certs → refuses_need (next_reply p t w thread) ≡ false → list_all is_allow certs ≡ true
