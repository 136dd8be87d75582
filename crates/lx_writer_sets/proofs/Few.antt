-- Things that differ, each of which passes and is among others, are no more than those that pass.
use Rattle.std.proofs.Common.{◌≡◌, suc, ◌≤◌, Bool, true, false, ◌||◌, cond, List, [], ◌∷◌, length, refl, sym, ap, ◌∙◌, subst, arith}
use Rattle.std.proofs.lemmas.Bool.{or_right, or_left, or_parts}
use Rattle.lx_words.proofs.Tests.{or_other}
use Rattle.lx_caps.specs.declared.Principal.{Principal}
use Rattle.lx_caps.specs.History.{same_principal}
use Rattle.lx_writer_sets.specs.Work.{is_among, and_one, count_of}
use Rattle.lx_caps.proofs.Principals.{same_principal_itself, same_principal_is}

-- one more
pub added : (q p : Principal) (others : List Principal) → is_among q others ≡ true → is_among q (and_one p others) ≡ true
added q p others h = elim (is_among p others) as (λ t. is_among q (cond t others (p ∷ others)) ≡ true) [ true ↦ h | false ↦ or_right (same_principal q p) (is_among q others) h ]

pub added_self : (p : Principal) (others : List Principal) → is_among p (and_one p others) ≡ true
added_self p others =
    (elim (is_among p others) as (λ t. is_among p others ≡ t → is_among p (cond t others (p ∷ others)) ≡ true) [
      | true ↦ λ e. e
      | false ↦ λ e. or_left (same_principal p p) (is_among p others) (same_principal_itself p)
    ]) refl

-- these but for one
drop_one : Principal → List Principal → List Principal
drop_one q [] = []
drop_one q (r ∷ rs) = cond (same_principal q r) (drop_one q rs) (r ∷ drop_one q rs)

count_drop_le : (p : Principal → Bool) (q : Principal) (rs : List Principal) → count_of p (drop_one q rs) ≤ count_of p rs
unfolding drop_one
count_drop_le p q [] = omega arith
count_drop_le p q (r ∷ rs) =
    let rest = count_drop_le p q rs in
    elim (same_principal q r) as (λ t. count_of p (cond t (drop_one q rs) (r ∷ drop_one q rs)) ≤ cond (p r) (suc (count_of p rs)) (count_of p rs)) [
      | true ↦ elim (p r) as (λ t. count_of p (drop_one q rs) ≤ cond t (suc (count_of p rs)) (count_of p rs)) [ true ↦ omega (arith, rest) | false ↦ rest ]
      | false ↦ elim (p r) as (λ t. cond t (suc (count_of p (drop_one q rs))) (count_of p (drop_one q rs)) ≤ cond t (suc (count_of p rs)) (count_of p rs)) [ true ↦ omega (arith, rest) | false ↦ rest ]
    ]

count_drop : (p : Principal → Bool) (q : Principal) (rs : List Principal) → is_among q rs ≡ true → p q ≡ true → suc (count_of p (drop_one q rs)) ≤ count_of p rs
unfolding drop_one
count_drop p q [] h pass = absurd (cc)
count_drop p q (r ∷ rs) h pass =
    (elim (same_principal q r) as (λ t. same_principal q r ≡ t → suc (count_of p (cond t (drop_one q rs) (r ∷ drop_one q rs))) ≤ cond (p r) (suc (count_of p rs)) (count_of p rs)) [
      | true ↦ λ e.
          let here : p r ≡ true = ap p (sym (same_principal_is q r e)) ∙ pass in
          let rest = count_drop_le p q rs in
          subst (λ t. suc (count_of p (drop_one q rs)) ≤ cond t (suc (count_of p rs)) (count_of p rs)) (sym here) (omega (arith, rest))
      | false ↦ λ e.
          let rest = count_drop p q rs (or_other (same_principal q r) (is_among q rs) h e) pass in
          elim (p r) as (λ t. suc (cond t (suc (count_of p (drop_one q rs))) (count_of p (drop_one q rs))) ≤ cond t (suc (count_of p rs)) (count_of p rs)) [ true ↦ omega (arith, rest) | false ↦ rest ]
    ]) refl

among_drop : (q r : Principal) (rs : List Principal) → is_among r rs ≡ true → same_principal q r ≡ false → is_among r (drop_one q rs) ≡ true
unfolding drop_one
among_drop q r [] h ne = absurd (cc)
among_drop q r (s ∷ rs) h ne =
    (elim (same_principal r s) as (λ t. same_principal r s ≡ t → (t || is_among r rs) ≡ true → is_among r (cond (same_principal q s) (drop_one q rs) (s ∷ drop_one q rs)) ≡ true) [
      | true ↦ λ e f.
          let other : same_principal q s ≡ false = ap (same_principal q) (sym (same_principal_is r s e)) ∙ ne in
          ap (λ t. is_among r (cond t (drop_one q rs) (s ∷ drop_one q rs))) other ∙ or_left (same_principal r s) (is_among r (drop_one q rs)) e
      | false ↦ λ e f.
          let rest = among_drop q r rs f ne in
          elim (same_principal q s) as (λ t. is_among r (cond t (drop_one q rs) (s ∷ drop_one q rs)) ≡ true) [ true ↦ rest | false ↦ or_right (same_principal r s) (is_among r (drop_one q rs)) rest ]
    ]) refl h

-- each passes and is among these, and no two are the same
unfoldable pub ArePassing : (Principal → Bool) → List Principal → List Principal → Type 0
ArePassing p rs [] = Unit {0}
ArePassing p rs (e ∷ es) = (p e ≡ true) × (is_among e rs ≡ true) × (is_among e es ≡ false) × ArePassing p rs es

passing_drop : (p : Principal → Bool) (q : Principal) (rs es : List Principal) → is_among q es ≡ false → ArePassing p rs es → ArePassing p (drop_one q rs) es
unfolding ArePassing
passing_drop p q rs [] out all = tt
passing_drop p q rs (e ∷ es) out all =
    let ne = or_parts (same_principal q e) (is_among q es) out in
    (all.0, among_drop q e rs all.1 ne.0, all.2, passing_drop p q rs es ne.1 all.3)

pub few : (p : Principal → Bool) (rs es : List Principal) → ArePassing p rs es → length es ≤ count_of p rs
unfolding ArePassing
few p rs [] all = omega arith
few p rs (e ∷ es) all =
    let rest = few p (drop_one e rs) es (passing_drop p e rs es all.2 all.3) in
    let less = count_drop p e rs all.1 all.0 in
    omega (arith, rest, less)
