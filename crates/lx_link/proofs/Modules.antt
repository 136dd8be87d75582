-- Lemmas on modules that are named one after another, and on what is linked of them.
use Rattle.std.proofs.Common.{◌≡◌, zero, suc, ◌<◌, ◌≤◌, None, List, [], ◌∷◌, ◌++◌, length, get_or, refl, ap, sym, subst, ◌∙◌, arith}
use Rattle.std.specs.Prelude.{All}
use Rattle.std.proofs.lemmas.List.Elements.{All-append}
use Rattle.lx_ir.specs.declared.module.Module.{Module}
use Rattle.lx_ir.specs.Lawful.{IsPlain}
use Rattle.lx_ir.specs.Verified.{IsVerified}
use Rattle.lx_model.specs.declared.program.ProgramModule.{ProgramModule}
use Rattle.lx_script.specs.declared.case.CaseModule.{CaseModule}
use Rattle.lx_script.specs.Case.{Case, IsWithinLimits}
use Rattle.lx_annot.specs.declared.interface.Interface.{Interface}
use Rattle.lx_annot.specs.Lawful.{IsLawfulInterface}
use Rattle.lx_link_texts.specs.declared.sources.Sources.{Sources}
use Rattle.lx_link_texts.specs.Placing.{HasLimits}
use Rattle.lx_link_texts.specs.Laws.{IsSound, VerifiedHaveLimits}
use Rattle.lx_link.specs.declared.linked.LinkedParts.{LinkedParts}
use Rattle.lx_link.specs.Answers.{AreVerified, link_fault, linked_of, named, named_modules, sources_of}
use Rattle.lx_link.specs.Laws.{AreWellLinked, CallsFit, IsLinked}

none_named : (ns : List CaseModule) → named_modules ns [] ≡ []
none_named [] = refl
none_named (n ∷ ns) = refl

-- one module more; names that are left over name nothing
last_named : (ns : List CaseModule) (ms : List Module) (n : CaseModule) (m : Module) → length ms < length ns → n ≡ get_or ns (length ms) n → named_modules ns (ms ++ m ∷ []) ≡ named_modules ns ms ++ named n m ∷ []
last_named [] ms n m h e = absurd (omega (arith, h))
last_named (x ∷ xs) [] n m h e = λ j. named (sym e j) m ∷ none_named xs j
last_named (x ∷ xs) (y ∷ ys) n m h e = ap (λ l. named x y ∷ l) (last_named xs ys n m (omega (arith, h)) e)

pub named_more : (ns : List CaseModule) (ms : List Module) (n : CaseModule) (m : Module) (old new : List ProgramModule) → length ms < length ns → n ≡ get_or ns (length ms) n
    → old ≡ named_modules ns ms → new ≡ old ++ named n m ∷ [] → new ≡ named_modules ns (ms ++ m ∷ [])
named_more ns ms n m old new h e p q = q ∙ ap (λ l. l ++ named n m ∷ []) p ∙ sym (last_named ns ms n m h e)

-- as many are named as there are
pub many_named : (ns : List CaseModule) (ms : List Module) (list : List ProgramModule) → length ms ≤ length ns → list ≡ named_modules ns ms → length list ≡ length ms
many_named ns ms list h e = ap length e ∙ many ns ms h
  where
    many : (ns : List CaseModule) (ms : List Module) → length ms ≤ length ns → length (named_modules ns ms) ≡ length ms
    many [] [] h = refl
    many [] (m ∷ ms) h = absurd (omega (arith, h))
    many (n ∷ ns) [] h = refl
    many (n ∷ ns) (m ∷ ms) h = ap (λ k. suc k) (many ns ms (omega (arith, h)))

-- nothing is named yet
pub unnamed : (ns : List CaseModule) (list : List ProgramModule) → list ≡ [] → (list ≡ named_modules ns []) × AreVerified list
unnamed ns list e = (e ∙ sym (none_named ns), subst AreVerified (sym e) (λ k d h. absurd (omega (arith, h))))

one : (m : Module) → IsVerified m → (n : CaseModule) → AreVerified (named n m ∷ [])
one m v n zero d h = v
one m v n (suc k) d h = absurd (omega (arith, h))

pub verified_more : (old new : List ProgramModule) (n : CaseModule) (m : Module) → AreVerified old → IsVerified m → new ≡ old ++ named n m ∷ [] → AreVerified new
verified_more old new n m a v q =
    let P : ProgramModule → Type 0 = λ x. IsVerified x.«module» in
    subst AreVerified (sym q) (All-append P old (named n m ∷ []) a (one m v n))

-- What is linked of them.

few : (ns : List CaseModule) (ms : List Module) → length (named_modules ns ms) ≤ length ns
few [] ms = omega arith
few (n ∷ ns) [] = omega arith
few (n ∷ ns) (m ∷ ms) = let less = few ns ms in omega (arith, less)

pub within_limits : VerifiedHaveLimits → (kernel : Module) (i : Interface) (c : Case) (ms : List Module) (s : Sources) → IsVerified s.kernel → AreVerified s.modules → s ≡ sources_of kernel i (named_modules c.modules ms) → IsWithinLimits c.modules c.threads → HasLimits s
within_limits law kernel i c ms s k v e w =
    let less : length s.modules ≤ length c.modules = subst (λ (t : Sources). length t.modules ≤ length c.modules) (sym e) (few c.modules ms) in
    law s k v (omega (arith, less, w.modules_within))

sound : (ns : List CaseModule) (ms : List Module) → All IsPlain ms → AreVerified (named_modules ns ms) → All IsSound (named_modules ns ms)
sound [] ms p v k d h = absurd (omega (arith, h))
sound (n ∷ ns) [] p v k d h = absurd (omega (arith, h))
sound (n ∷ ns) (m ∷ ms) p v zero d h = (v zero d h, p zero m (omega arith))
sound (n ∷ ns) (m ∷ ms) p v (suc k) d h = sound ns ms (λ j x g. p (suc j) x (omega (arith, g))) (λ j x g. v (suc j) x (omega (arith, g))) k d (omega (arith, h))

pub is_linked : AreWellLinked → CallsFit → (kernel : Module) (i : Interface) (c : Case) (ms : List Module) (s : Sources) (parts : LinkedParts) → IsVerified s.kernel × AreVerified s.modules → IsPlain kernel → IsLawfulInterface i → All IsPlain ms
    → s ≡ sources_of kernel i (named_modules c.modules ms) → link_fault s c ≡ None → parts ≡ linked_of s c → IsLinked parts
is_linked linked fit kernel i c ms s parts v p lawful plain e none is =
    let texts : Sources = sources_of kernel i (named_modules c.modules ms) in
    let verified : IsVerified kernel × AreVerified (named_modules c.modules ms) = subst (λ (t : Sources). IsVerified t.kernel × AreVerified t.modules) e v in
    let free : link_fault texts c ≡ None = subst (λ (t : Sources). link_fault t c ≡ None) e none in
    subst IsLinked (sym (subst (λ (t : Sources). parts ≡ linked_of t c) e is))
    (record {
      program = linked texts c (record { kernel = verified.0; kernel_plain = p; interface = lawful; modules = sound c.modules ms plain verified.1 }) free;
      calls = fit texts c free;
    })
