-- A run that is certified, entry by entry of its schedule.
use Rattle.std.proofs.Common.{◌≡◌, sym, subst, ℕ, ◌+◌, ◌<◌, ◌≤◌, true, List, [], ◌∷◌, ◌++◌, length, map, take, get_or, arith}
use Rattle.std.proofs.lemmas.List.{length-take-le, take_all, take_more}
use Rattle.lx_caps.specs.History.{History}
use Rattle.lx_certificates.specs.declared.Cert.{Cert}
use Rattle.lx_model.specs.declared.program.Program.{Program}
use Rattle.lx_model.specs.declared.program.ScriptCall.{ScriptCall}
use Rattle.lx_model.specs.World.{can_act, opening}
use Rattle.lx_why_text.specs.declared.Certified.{Certified}
use Rattle.lx_why.specs.Certified.{AreCertified, CertifiesNext, certified}
use Rattle.lx_why.specs.Run.{StandsForWhy}
use Rattle.lx_why.specs.Why.{behind}
use Rattle.lx_why.specs.declared.logged.Logged.{Logged}
use Rattle.lx_why.specs.declared.run.WhyRun.{WhyRun}
use Rattle.lx_why.proofs.Certifying.{certified_more}
use Rattle.lx_runs.proofs.Walked.{IsBrokenBehind, none_done, one_done}

-- the first entries of a schedule are done and certified, and the others are left
pub record HasCertified {C : Type 0} (stands : Logged C → History → Type 0) (p : Program) (script : List (List ScriptCall)) (s : List ℕ) (n : ℕ) (r : WhyRun C) (certs : List Certified) : Type 0 where
  pub stands_for : StandsForWhy stands p script (take n s) r
  pub certified : AreCertified p 0 (take n s) (opening p script) certs
  pub broken : IsBrokenBehind p script s n

-- none is done
pub none_certified : {C : Type 0} (stands : Logged C → History → Type 0) (p : Program) (script : List (List ScriptCall)) (s : List ℕ) (r : WhyRun C) (certs : List Certified) → certs ≡ [] → StandsForWhy stands p script [] r → HasCertified stands p script s 0 r certs
none_certified stands p script s r certs empty st = record { stands_for = st; certified = empty; broken = none_done p script s }

-- an entry that is done is certified
pub one_certified : {C : Type 0} (stands : Logged C → History → Type 0) (p : Program) (script : List (List ScriptCall)) (s : List ℕ) (n : ℕ) (old new : WhyRun C) (certs more : List Certified) (cs : List Cert) → n < length s
    → HasCertified stands p script s n old certs → can_act (behind p script (take n s)) (get_or s n 0) ≡ true → StandsForWhy stands p script (take n s ++ get_or s n 0 ∷ []) new
    → CertifiesNext p (get_or s n 0) (behind p script (take n s)) cs → more ≡ certs ++ map (certified n (get_or s n 0)) cs → HasCertified stands p script s (n + 1) new more
one_certified stands p script s n old new certs more cs below has works st next is =
    let t = get_or s n 0 in
    let taken = sym (take_more s n 0 below) in
    let long = length-take-le n s (omega (arith, below)) in
    record {
      stands_for = subst (λ (ts : List ℕ). StandsForWhy stands p script ts new) taken st;
      certified =
          subst (AreCertified p 0 (take (n + 1) s) (opening p script)) (sym is)
          (subst (λ (ts : List ℕ). AreCertified p 0 ts (opening p script) (certs ++ map (certified n t) cs)) taken
          (certified_more p 0 (take n s) (opening p script) certs n t cs (omega (arith, long)) has.certified next));
      broken = one_done p script s n below has.broken works;
    }

-- behind the last entry all are
pub all_certified : {C : Type 0} (stands : Logged C → History → Type 0) (p : Program) (script : List (List ScriptCall)) (s : List ℕ) (n : ℕ) (r : WhyRun C) (certs : List Certified) → length s ≤ n
    → HasCertified stands p script s n r certs → StandsForWhy stands p script s r × AreCertified p 0 s (opening p script) certs
all_certified stands p script s n r certs past has =
    let all = take_all n s past in
    (subst (λ (ts : List ℕ). StandsForWhy stands p script ts r) all has.stands_for, subst (λ (ts : List ℕ). AreCertified p 0 ts (opening p script) certs) all has.certified)
