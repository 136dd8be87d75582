-- What is known of names where more is declared.
use Rattle.std.specs.Prelude.{◌≡◌, true, List, ◌++◌}
use Rattle.lx_annot_terms.specs.Lists.{Known}

-- the second list is the first, and what stands behind it
abbrev pub Begins : {A : Type 0} → List A → List A → Type 0
Begins {A} xs ys = (more : List A) × (ys ≡ xs ++ more)

-- What may be used in the first place may be used in the second.
pub record Grows (a b : Known) : Type 0 where
  pub reftypes : Begins a.reftypes b.reftypes
  pub iterators : Begins a.iterators b.iterators
  pub lends : a.lends ≡ true → b.lends ≡ true
