-- How a walk goes on.
use Rattle.std.proofs.Common.{◌≡◌, ℕ, true, false, ◌||◌, List, [], ◌∷◌, ◌++◌, Option, Some, None, refl, sym, ap, ◌∙◌, subst, append_assoc}
use Rattle.std.specs.Prelude.{nat_eq}
use Rattle.std.proofs.lemmas.Bool.{or_right}
use Rattle.lx_words.proofs.Tests.{eq_self, eq_from_ne}
use Rattle.lx_cap_nodes.specs.Names.{has, first_of, Apart}
use Rattle.lx_cap_nodes.specs.Words.{names}
use Rattle.lx_writer_sets.specs.Walks.{from, HasCome}

module _ {T : Type 0} where
  has_split : (xs ys : List (ℕ × T)) (e : ℕ × T) → has e.0 (names (xs ++ e ∷ ys)) ≡ true
  has_split [] ys e = ap (λ b. b || has e.0 (names ys)) (eq_self e.0)
  has_split (x ∷ xs) ys e = or_right (nat_eq e.0 x.0) (has e.0 (names (xs ++ e ∷ ys))) (has_split xs ys e)

  -- from the first node of what is behind a front on
  pub from_split : (xs ys : List (ℕ × T)) → Apart (names (xs ++ ys)) → from (first_of (names ys)) (xs ++ ys) ≡ ys
  from_split xs [] apart = refl
  from_split [] (y ∷ ys) apart = rw (eq_self y.0) refl
  from_split (x ∷ xs) (y ∷ ys) apart =
      let ne = eq_from_ne y.0 x.0 (λ same. absurd (let out = subst (λ k. has k (names (xs ++ y ∷ ys)) ≡ false) (sym same) apart.0 in let «in» = has_split xs ys y in cc)) in
      rw ne (from_split xs (y ∷ ys) apart.1)

  pub has_begun : (es : List (ℕ × T)) → Apart (names es) → HasCome es (first_of (names es))
  has_begun es apart = let is = from_split [] es apart in record { front = []; joined = is; here = ap (λ r. first_of (names r)) (sym is) }

  -- the node and what is behind it
  pub here_is : (es : List (ℕ × T)) (n : ℕ) → HasCome es (Some n) → (v : T) × (ys : List (ℕ × T)) × (from (Some n) es ≡ (n, v) ∷ ys)
  here_is es n come = by (from (Some n) es) refl
    where
      by : (r : List (ℕ × T)) → from (Some n) es ≡ r → (v : T) × (ys : List (ℕ × T)) × (from (Some n) es ≡ (n, v) ∷ ys)
      by [] is = absurd (let no : Some n ≡ None = come.here ∙ ap (λ r. first_of (names r)) is in cc)
      by (e ∷ ys) is =
          let same : Some n ≡ Some e.0 = come.here ∙ ap (λ r. first_of (names r)) is in
          let at : e.0 ≡ n = cc in
          (e.1, ys, is ∙ ap (λ k. (k, e.1) ∷ ys) at)

  pub goes_on : (es : List (ℕ × T)) (n : ℕ) (v : T) (ys : List (ℕ × T)) → Apart (names es) → (come : HasCome es (Some n)) → from (Some n) es ≡ (n, v) ∷ ys
      → (from (first_of (names ys)) es ≡ ys) × HasCome es (first_of (names ys))
  goes_on es n v ys apart come is =
      let whole : (come.front ++ (n, v) ∷ []) ++ ys ≡ es = append_assoc come.front ((n, v) ∷ []) ys ∙ (ap (λ r. come.front ++ r) (sym is) ∙ come.joined) in
      let rest : from (first_of (names ys)) es ≡ ys =
      subst (λ r. from (first_of (names ys)) r ≡ ys) whole (from_split (come.front ++ (n, v) ∷ []) ys (subst (λ r. Apart (names r)) (sym whole) apart)) in
      (rest, record { front = come.front ++ (n, v) ∷ []; joined = ap (λ r. (come.front ++ (n, v) ∷ []) ++ r) rest ∙ whole; here = ap (λ r. first_of (names r)) (sym rest) })

  -- where the list is split
  pub split_at : (es : List (ℕ × T)) (n : ℕ) (v : T) (ys : List (ℕ × T)) → (come : HasCome es (Some n)) → from (Some n) es ≡ (n, v) ∷ ys → es ≡ come.front ++ (n, v) ∷ ys
  split_at es n v ys come is = sym come.joined ∙ ap (λ r. come.front ++ r) is

  pub begins : (es : List (ℕ × T)) (start : Option ℕ) → Apart (names es) → start ≡ first_of (names es) → (from start es ≡ es) × HasCome es start
  begins es start apart is = (ap (λ o. from o es) is ∙ from_split [] es apart, subst (HasCome es) (sym is) (has_begun es apart))

  -- a walk stands before what is left once the front was changed
  pub comes_to : (xs ys es : List (ℕ × T)) (node : Option ℕ) → es ≡ xs ++ ys → Apart (names es) → node ≡ first_of (names ys) → (from node es ≡ ys) × HasCome es node
  comes_to xs ys es node whole apart is =
      let rest : from node es ≡ ys = ap (λ o. from o es) is ∙ subst (λ r. from (first_of (names ys)) r ≡ ys) (sym whole) (from_split xs ys (subst (λ r. Apart (names r)) whole apart)) in
      (rest, record { front = xs; joined = ap (λ r. xs ++ r) rest ∙ sym whole; here = is ∙ ap (λ r. first_of (names r)) (sym rest) })
