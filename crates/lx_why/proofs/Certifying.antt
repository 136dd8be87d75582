-- The certificates of events are determined, and acts keep their numbers.
use Rattle.std.proofs.Common.{◌≡◌, ◌∙◌, refl, sym, ap, ap₂, ℕ, suc, ◌+◌, List, [], ◌∷◌, ◌++◌, length, map, append-nil, append_assoc, arith}
use Rattle.std.proofs.lemmas.List.Elements.{filter-append}
use Rattle.lx_caps.specs.History.{History}
use Rattle.lx_certificates.specs.declared.Cert.{Cert}
use Rattle.lx_certificates.specs.Needs.{NeedLaws}
use Rattle.lx_certificates.specs.Told.{is_told, told}
use Rattle.lx_model.specs.declared.program.Program.{Program}
use Rattle.lx_model.specs.World.{World, event, opening, run}
use Rattle.lx_annot.specs.Canonical.{Text}
use Rattle.lx_model.specs.declared.program.ScriptCall.{ScriptCall}
use Rattle.lx_why_text.specs.declared.Certified.{Certified}
use Rattle.lx_why.specs.Certified.{AreCertified, CertifiesNext, acts_so_far, certified, next_needs}
use Rattle.lx_why.specs.WhyLaws.{Grows}
use Rattle.lx_why.specs.Why.{IsWhy, behind, certified_text}
use Rattle.lx_why.proofs.Growing.{event_grows}

pub one_list : NeedLaws → (p : Program) (n : ℕ) (schedule : List ℕ) (w : World) (xs ys : List Certified) → AreCertified p n schedule w xs → AreCertified p n schedule w ys → xs ≡ ys
one_list laws p n [] w xs ys a b = a ∙ sym b
one_list laws p n (t ∷ ts) w xs ys (here, later, are, is, rest) (here', later', are', is', rest') =
    is
    ∙ ap₂ (λ (cs : List Cert) (more : List Certified). map (certified n t) cs ++ more) (laws.one_list (acts_so_far w) (next_needs p t w) here here' are are')
    (one_list laws p (suc n) ts (event p t w) later later' rest rest')
    ∙ sym is'

told_grows : (old new : History) → Grows old new → Grows (told old) (told new)
told_grows old new (more, is) = (told more, ap told is ∙ filter-append is_told more old)

pub numbers_stay : (p : Program) (t : ℕ) (w : World) → Grows (acts_so_far w) (acts_so_far (event p t w))
numbers_stay p t w = told_grows w.state.history (event p t w).state.history (event_grows p t w)

-- the certificates of one event more, whose number is the count of those before it
pub certified_more : (p : Program) (n : ℕ) (s : List ℕ) (w : World) (certs : List Certified) (k t : ℕ) (cs : List Cert) → k ≡ n + length s → AreCertified p n s w certs → CertifiesNext p t (run p s w) cs
    → AreCertified p n (s ++ t ∷ []) w (certs ++ map (certified k t) cs)
certified_more p n [] w certs k t cs number are next =
    let first : k ≡ n = omega (arith, number) in
    (cs, [], next, ap (λ (more : List Certified). more ++ map (certified k t) cs) are ∙ ap (λ (m : ℕ). map (certified m t) cs) first ∙ sym (append-nil (map (certified n t) cs)), refl)
certified_more p n (u ∷ s) w certs k t cs number (here, later, are, is, rest) next = (
  here,
  later ++ map (certified k t) cs,
  are,
  ap (λ (more : List Certified). more ++ map (certified k t) cs) is ∙ append_assoc (map (certified n u) here) later (map (certified k t) cs),
  certified_more p (suc n) s (event p u w) later k t cs (omega (arith, number)) rest next,
)

pub one_text : NeedLaws → (p : Program) (script : List (List ScriptCall)) (schedule : List ℕ) (a b : Text) → IsWhy p script schedule a → IsWhy p script schedule b → a ≡ b
one_text laws p script schedule a b x y =
    x.written ∙ ap (certified_text p (behind p script schedule)) (one_list laws p 0 schedule (opening p script) x.certs y.certs x.certified y.certified) ∙ sym y.written
