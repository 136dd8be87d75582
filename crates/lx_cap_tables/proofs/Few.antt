-- Things that differ, each of which passes and is among others, are no more than those that pass.
use Rattle.std.proofs.Common.{◌≡◌, suc, ◌≤◌, Bool, true, false, ◌||◌, cond, List, [], ◌∷◌, length, refl, sym, ap, ◌∙◌, subst, arith}
use Rattle.std.proofs.lemmas.Bool.{or_right, or_left, or_parts}
use Rattle.lx_words.proofs.Tests.{or_other}
use Rattle.lx_cap_tables.specs.Work.{is_among, and_one, count_of}

module _ {P : Type 0} (same : P → P → Bool) (same_is : (p q : P) → same p q ≡ true → p ≡ q) (same_self : (p : P) → same p p ≡ true) where
  -- one more
  pub added : (q p : P) (others : List P) → is_among same q others ≡ true → is_among same q (and_one same p others) ≡ true
  added q p others h = elim (is_among same p others) as (λ t. is_among same q (cond t others (p ∷ others)) ≡ true) [ true ↦ h | false ↦ or_right (same q p) (is_among same q others) h ]

  pub added_self : (p : P) (others : List P) → is_among same p (and_one same p others) ≡ true
  added_self p others =
      (elim (is_among same p others) as (λ t. is_among same p others ≡ t → is_among same p (cond t others (p ∷ others)) ≡ true) [
        | true ↦ λ e. e
        | false ↦ λ e. or_left (same p p) (is_among same p others) (same_self p)
      ]) refl

  -- these but for one
  drop_one : P → List P → List P
  drop_one q [] = []
  drop_one q (r ∷ rs) = cond (same q r) (drop_one q rs) (r ∷ drop_one q rs)

  count_drop_le : (p : P → Bool) (q : P) (rs : List P) → count_of p (drop_one q rs) ≤ count_of p rs
  unfolding drop_one
  count_drop_le p q [] = omega arith
  count_drop_le p q (r ∷ rs) =
      let rest = count_drop_le p q rs in
      elim (same q r) as (λ t. count_of p (cond t (drop_one q rs) (r ∷ drop_one q rs)) ≤ cond (p r) (suc (count_of p rs)) (count_of p rs)) [
        | true ↦ elim (p r) as (λ t. count_of p (drop_one q rs) ≤ cond t (suc (count_of p rs)) (count_of p rs)) [ true ↦ omega (arith, rest) | false ↦ rest ]
        | false ↦ elim (p r) as (λ t. cond t (suc (count_of p (drop_one q rs))) (count_of p (drop_one q rs)) ≤ cond t (suc (count_of p rs)) (count_of p rs)) [ true ↦ omega (arith, rest) | false ↦ rest ]
      ]

  count_drop : (p : P → Bool) (q : P) (rs : List P) → is_among same q rs ≡ true → p q ≡ true → suc (count_of p (drop_one q rs)) ≤ count_of p rs
  unfolding drop_one
  count_drop p q [] h pass = absurd (cc)
  count_drop p q (r ∷ rs) h pass =
      (elim (same q r) as (λ t. same q r ≡ t → suc (count_of p (cond t (drop_one q rs) (r ∷ drop_one q rs))) ≤ cond (p r) (suc (count_of p rs)) (count_of p rs)) [
        | true ↦ λ e.
            let here : p r ≡ true = ap p (sym (same_is q r e)) ∙ pass in
            let rest = count_drop_le p q rs in
            subst (λ t. suc (count_of p (drop_one q rs)) ≤ cond t (suc (count_of p rs)) (count_of p rs)) (sym here) (omega (arith, rest))
        | false ↦ λ e.
            let rest = count_drop p q rs (or_other (same q r) (is_among same q rs) h e) pass in
            elim (p r) as (λ t. suc (cond t (suc (count_of p (drop_one q rs))) (count_of p (drop_one q rs))) ≤ cond t (suc (count_of p rs)) (count_of p rs)) [ true ↦ omega (arith, rest) | false ↦ rest ]
      ]) refl

  among_drop : (q r : P) (rs : List P) → is_among same r rs ≡ true → same q r ≡ false → is_among same r (drop_one q rs) ≡ true
  unfolding drop_one
  among_drop q r [] h ne = absurd (cc)
  among_drop q r (s ∷ rs) h ne =
      (elim (same r s) as (λ t. same r s ≡ t → (t || is_among same r rs) ≡ true → is_among same r (cond (same q s) (drop_one q rs) (s ∷ drop_one q rs)) ≡ true) [
        | true ↦ λ e f.
            let other : same q s ≡ false = ap (same q) (sym (same_is r s e)) ∙ ne in
            ap (λ t. is_among same r (cond t (drop_one q rs) (s ∷ drop_one q rs))) other ∙ or_left (same r s) (is_among same r (drop_one q rs)) e
        | false ↦ λ e f.
            let rest = among_drop q r rs f ne in
            elim (same q s) as (λ t. is_among same r (cond t (drop_one q rs) (s ∷ drop_one q rs)) ≡ true) [ true ↦ rest | false ↦ or_right (same r s) (is_among same r (drop_one q rs)) rest ]
      ]) refl h

  -- each passes and is among these, and no two are the same
  unfoldable pub ArePassing : (P → Bool) → List P → List P → Type 0
  ArePassing p rs [] = Unit {0}
  ArePassing p rs (e ∷ es) = (p e ≡ true) × (is_among same e rs ≡ true) × (is_among same e es ≡ false) × ArePassing p rs es

  passing_drop : (p : P → Bool) (q : P) (rs es : List P) → is_among same q es ≡ false → ArePassing p rs es → ArePassing p (drop_one q rs) es
  unfolding ArePassing
  passing_drop p q rs [] out all = tt
  passing_drop p q rs (e ∷ es) out all =
      let ne = or_parts (same q e) (is_among same q es) out in
      (all.0, among_drop q e rs all.1 ne.0, all.2, passing_drop p q rs es ne.1 all.3)

  pub few : (p : P → Bool) (rs es : List P) → ArePassing p rs es → length es ≤ count_of p rs
  unfolding ArePassing
  few p rs [] all = omega arith
  few p rs (e ∷ es) all =
      let rest = few p (drop_one e rs) es (passing_drop p e rs es all.2 all.3) in
      let less = count_drop p e rs all.1 all.0 in
      omega (arith, rest, less)
