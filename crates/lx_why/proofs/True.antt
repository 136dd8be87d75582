-- Certificates are true of the acts before their events.
use Rattle.std.proofs.Common.{◌≡◌, ◌∙◌, refl, sym, ap, subst, ℕ, zero, suc, ◌+◌, Option, Some, None, List, [], ◌∷◌, ◌++◌, map, take, IsTrue, arith}
use Rattle.std.specs.Prelude.{slice_get}
use Rattle.std.proofs.lemmas.Option.{same_Some}
use Rattle.lx_caps.specs.History.{History}
use Rattle.lx_certificates.specs.declared.Cert.{Cert}
use Rattle.lx_certificates.specs.declared.Need.{Need}
use Rattle.lx_certificates.specs.Certificates.{is_cert}
use Rattle.lx_certificates.specs.Needs.{AreCertsOf}
use Rattle.lx_model.specs.declared.program.Program.{Program}
use Rattle.lx_model.specs.World.{World, event, run}
use Rattle.lx_why_text.specs.declared.Certified.{Certified}
use Rattle.lx_why.specs.Certified.{AreCertified, acts_so_far, certified, next_needs}
use Rattle.lx_why.specs.CertifiedLaws.{IsTrueOf}

none_some : {A B : Type 0} (x : A) → ◌≡◌ {A = Option A} None (Some x) → B
none_some x e = absurd cc

-- a certificate of needs is true
cert_true : (h : History) (ns : List Need) (cs : List Cert) (i : ℕ) (c : Cert) → AreCertsOf h ns cs → slice_get cs i ≡ Some c → IsTrue (is_cert h c)
cert_true h [] [] i c are e = none_some c e
cert_true h [] (d ∷ cs) i c are e = absurd are
cert_true h (n ∷ ns) [] i c are e = none_some c e
cert_true h (n ∷ ns) (d ∷ cs) zero c are e = subst (λ (x : Cert). IsTrue (is_cert h x)) (same_Some d c e) are.0.1
cert_true h (n ∷ ns) (d ∷ cs) (suc i) c are e = cert_true h ns cs i c are.1 e

-- one of an event's certificates, or one behind them
data Stands (n t : ℕ) (here : List Cert) (later : List Certified) (c : Certified) : Type 0 where
  Here : (i : ℕ) (x : Cert) → slice_get here i ≡ Some x → certified n t x ≡ c → Stands n t here later c
  Later : (i : ℕ) → slice_get later i ≡ Some c → Stands n t here later c

stands : (n t : ℕ) (here : List Cert) (later : List Certified) (k : ℕ) (c : Certified) → slice_get (map (certified n t) here ++ later) k ≡ Some c → Stands n t here later c
stands n t [] later k c e = Later k e
stands n t (x ∷ here) later zero c e = Here 0 x refl (same_Some (certified n t x) c e)
stands n t (x ∷ here) later (suc k) c e = elim (stands n t here later k c e) [
  | Here i y at is ↦ Here (suc i) y at is
  | Later i at ↦ Later i at
]

-- of an event whose number is so many behind the first one's
record IsFound (p : Program) (n : ℕ) (s : List ℕ) (w : World) (c : Certified) : Type 0 where
  pub event : ℕ
  pub number : c.event ≡ n + event
  pub thread : slice_get s event ≡ Some c.thread
  pub holds : IsTrue (is_cert (acts_so_far (run p (take event s) w)) c.cert)

-- of this event, or of one behind it
found_in : (p : Program) (n t : ℕ) (ts : List ℕ) (w : World) (here : List Cert) (later : List Certified) (c : Certified) → AreCertsOf (acts_so_far w) (next_needs p t w) here
    → ((i : ℕ) → slice_get later i ≡ Some c → IsFound p (suc n) ts (event p t w) c) → Stands n t here later c → IsFound p n (t ∷ ts) w c
found_in p n t ts w here later c are behind (Here i x at is) =
    subst (IsFound p n (t ∷ ts) w) is (record { event = 0; number = omega arith; thread = refl; holds = cert_true (acts_so_far w) (next_needs p t w) here i x are at })
found_in p n t ts w here later c are behind (Later i at) =
    let f = behind i at in
    let number = f.number in
    record { event = suc f.event; number = omega (arith, number); thread = f.thread; holds = f.holds }

found : (p : Program) (n : ℕ) (s : List ℕ) (w : World) (certs : List Certified) → AreCertified p n s w certs → (k : ℕ) (c : Certified) → slice_get certs k ≡ Some c → IsFound p n s w c
found p n [] w certs are k c e = none_some c (ap (λ (l : List Certified). slice_get l k) (sym are) ∙ e)
found p n (t ∷ ts) w certs (here, later, are, is, rest) k c e =
    found_in p n t ts w here later c are (λ i at. found p (suc n) ts (event p t w) later rest i c at)
    (stands n t here later k c (ap (λ (l : List Certified). slice_get l k) (sym is) ∙ e))

pub each_true : (p : Program) (s : List ℕ) (w : World) (certs : List Certified) → AreCertified p 0 s w certs → (k : ℕ) (c : Certified) → slice_get certs k ≡ Some c → IsTrueOf p s w c
each_true p s w certs are k c e =
    let f = found p 0 s w certs are k c e in
    let number = f.number in
    let same : f.event ≡ c.event = omega (arith, number) in
    record {
      thread = subst (λ (j : ℕ). slice_get s j ≡ Some c.thread) same f.thread;
      holds = subst (λ (j : ℕ). IsTrue (is_cert (acts_so_far (run p (take j s) w)) c.cert)) same f.holds;
    }
