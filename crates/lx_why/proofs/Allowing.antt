-- Certificates allow what is performed, and the last of an event that is refused for a need does not.
use Rattle.std.proofs.Common.{◌≡◌, ◌∙◌, refl, ap, ap₂, subst, ℕ, Bool, true, false, not, ◌&&◌, ◌||◌, Option, Some, List, [], ◌∷◌, ◌++◌, option_map}
use Rattle.std.specs.Prelude.{slice_get}
use Rattle.std.specs.List.{list_all}
use Rattle.lx_caps.specs.History.{History, holds, keeps_all}
use Rattle.lx_caps.specs.declared.Principal.{Principal}
use Rattle.lx_caps.specs.declared.Cap.{Cap}
use Rattle.lx_certificates.specs.declared.Cert.{Cert}
use Rattle.lx_certificates.specs.declared.Need.{Need}
use Rattle.lx_certificates.specs.Needs.{AreCertsOf, IsCertOf, NeedLaws, is_allow, is_met}
use Rattle.lx_certificates.specs.Told.{ToldLaws, told}
use Rattle.lx_model.specs.declared.program.Program.{Program}
use Rattle.lx_model.specs.declared.request.Outcome.TheVariants.{Refused}
use Rattle.lx_model.specs.declared.request.Refusal.{Refusal}
use Rattle.lx_model.specs.declared.request.Refusal.TheVariants as refusal
use Rattle.lx_model.specs.declared.request.Reply.TheVariants.{Ended}
use Rattle.lx_model.specs.declared.request.What.{What}
use Rattle.lx_model.specs.Next.{next}
use Rattle.lx_model.specs.State.{State}
use Rattle.lx_model.specs.Thread.{Thread}
use Rattle.lx_model.specs.World.{World}
use Rattle.lx_run_laws.specs.Causes.{is_finish}
use Rattle.lx_run_laws.specs.RefusalLaws.{RefusalLaws}
use Rattle.lx_run_laws.specs.Needs.{IsNamed, IsNeed, is_for_need, needs_of, refuses_need}
use Rattle.lx_why.specs.Certified.{CertifiesNext, needs_if}
use Rattle.lx_why.specs.CertifiedLaws.{IsDenied, next_reply}
use Rattle.lx_caps.proofs.Tests.{not_second}

-- a certificate by the acts that are told allows where the need is met by all
allows_met : NeedLaws → ToldLaws → (h : History) (n : Need) (c : Cert) → IsCertOf (told h) n c → is_allow c ≡ is_met h n
allows_met needs acts h n c is = needs.met (told h) n c is ∙ ap₂ (λ (a b : Bool). a && (not n.kept || b)) (acts.holders h n.who n.cap) (acts.keepers h n.who n.cap)

all_allow : NeedLaws → ToldLaws → (h : History) (ns : List Need) (cs : List Cert) → AreCertsOf (told h) ns cs → list_all is_allow cs ≡ list_all (is_met h) ns
all_allow needs acts h [] [] are = refl
all_allow needs acts h [] (c ∷ cs) are = absurd are
all_allow needs acts h (n ∷ ns) [] are = absurd are
all_allow needs acts h (n ∷ ns) (c ∷ cs) are = ap₂ (λ (a b : Bool). a && b) (allows_met needs acts h n c are.0) (all_allow needs acts h ns cs are.1)

-- what the thread asks next has these certificates
asked : (p : Program) (t : ℕ) (w : World) (thread : Thread) (certs : List Cert) → slice_get w.threads t ≡ Some thread → CertifiesNext p t w certs → AreCertsOf (told w.state.history) (needs_of p w.state (next p t thread).request) certs
asked p t w thread certs there are =
    subst (λ (o : Option Thread). AreCertsOf (told w.state.history) (needs_if p w.state (option_map (λ x. (next p t x).request) o)) certs) there are

pub all_performed : NeedLaws → ToldLaws → RefusalLaws → (p : Program) (t : ℕ) (w : World) (thread : Thread) (certs : List Cert) → slice_get w.threads t ≡ Some thread → CertifiesNext p t w certs
    → refuses_need (next_reply p t w thread) ≡ false → list_all is_allow certs ≡ true
all_performed needs acts laws p t w thread certs there are not_refused =
    let r = (next p t thread).request in
    all_allow needs acts w.state.history (needs_of p w.state r) certs (asked p t w thread certs there are) ∙ (laws.replies p w.state t r).met_still not_refused

-- the need that a refusal names is not met

lacks_held : (h : History) (n : Need) (who : Principal) (c : Cap) → IsNeed n who c → holds h who c ≡ false → is_met h n ≡ false
lacks_held h n who c is none = ap₂ (λ (q : Principal) (d : Cap). holds h q d && (not n.kept || keeps_all h q d)) is.0 is.1 ∙ ap (λ (b : Bool). b && (not n.kept || keeps_all h who c)) none

lacks_kept : (h : History) (n : Need) (who : Principal) (c : Cap) → IsNeed n who c → n.kept ≡ true → keeps_all h who c ≡ false → is_met h n ≡ false
lacks_kept h n who c is kept none = ap₂ (λ (q : Principal) (d : Cap). holds h q d && (not n.kept || keeps_all h q d)) is.0 is.1 ∙ not_second (holds h who c) n.kept (keeps_all h who c) kept none

unmet : (s : State) (w : What) (n : Need) (x : Refusal) → IsNamed s w n x → is_met s.history n ≡ false
unmet s w n (refusal.Write who at size) is = lacks_held s.history n who _ is.0 is.1
unmet s w n (refusal.Call who at) is = lacks_held s.history n who _ is.0 is.1
unmet s w n (refusal.Ref who ty at) is = lacks_held s.history n who _ is.0 is.1
unmet s w n (refusal.Writer who at slot) is = lacks_held s.history n who _ is.0 is.1
unmet s w n (refusal.Borrowed who c) is = lacks_kept s.history n who c is.0 is.1 is.3
unmet s w n (refusal.NotAnnotated who at) is = absurd is
unmet s w n (refusal.OtherAnnotation who at ty k) is = absurd is
unmet s w n (refusal.OnStack who at size) is = absurd is
unmet s w n (refusal.Outside who at size) is = absurd is
unmet s w n (refusal.Alias who known further) is = absurd is

-- the certificates of needs of which the last is apart
record IsSplit (h : History) (ns : List Need) (n : Need) (certs : List Cert) : Type 0 where
  pub before : List Cert
  pub last : Cert
  pub place : certs ≡ before ++ last ∷ []
  pub are : AreCertsOf h ns before
  pub is : IsCertOf h n last

split : (h : History) (ns : List Need) (n : Need) (certs : List Cert) → AreCertsOf h (ns ++ n ∷ []) certs → IsSplit h ns n certs
split h [] n [] are = absurd are
split h [] n (c ∷ []) are = record { before = []; last = c; place = refl; are = tt; is = are.0 }
split h [] n (c ∷ d ∷ cs) are = absurd are.1
split h (m ∷ ns) n [] are = absurd are
split h (m ∷ ns) n (c ∷ cs) are =
    let rest = split h ns n cs are.1 in
    record { before = c ∷ rest.before; last = rest.last; place = ap (λ (l : List Cert). c ∷ l) rest.place; are = (are.0, rest.are); is = rest.is }

pub last_denied : NeedLaws → ToldLaws → RefusalLaws → (p : Program) (t : ℕ) (w : World) (thread : Thread) (certs : List Cert) (x : Refusal) → slice_get w.threads t ≡ Some thread → CertifiesNext p t w certs
    → is_finish (next p t thread).request.what ≡ false → is_for_need x ≡ true → next_reply p t w thread ≡ Ended (Refused x) → IsDenied certs
last_denied needs acts laws p t w thread certs x there are no_finish for refused =
    let r = (next p t thread).request in
    let h = w.state.history in
    let u = (laws.replies p w.state t r).unmet x no_finish for refused in
    let s = split (told h) u.before u.last certs (subst (λ (ns : List Need). AreCertsOf (told h) ns certs) u.place (asked p t w thread certs there are)) in
    record {
      before = s.before;
      last = s.last;
      place = s.place;
      allowed = all_allow needs acts h u.before s.before s.are ∙ u.met;
      denied = allows_met needs acts h u.last s.last s.is ∙ unmet w.state r.what u.last x u.named;
    }
