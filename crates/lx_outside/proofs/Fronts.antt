-- The first bytes of a reader whose bytes are known.
use Rattle.std.proofs.Common.{◌≡◌, ◌∙◌, ap, subst, ℕ, List, [], ◌++◌, take, Option, Some, None, option_map, IfSome}

-- what is taken of known bytes, behind none, are the first of them
front_of : (known : Option (List ℕ)) (most : ℕ) (old new : List ℕ) → old ≡ [] → IfSome (option_map (take most) known) (λ more. new ≡ old ++ more)
    → IfSome known (λ all. new ≡ take most all)
front_of None most old new none is = is
front_of (Some all) most old new none is = is ∙ ap (λ before. before ++ take most all) none

-- the same of a reader and a limit that are these
pub front : {F : Type 0} (known : F → Option (List ℕ)) (reader file : F) → reader ≡ file → (limit most : ℕ) → limit ≡ most → (old new : List ℕ) → old ≡ []
    → IfSome (option_map (take limit) (known reader)) (λ more. new ≡ old ++ more) → IfSome (known file) (λ all. new ≡ take most all)
front known reader file same limit most is old new none taken =
    subst (λ n. IfSome (known file) (λ all. new ≡ take n all)) is
    (subst (λ f. IfSome (known f) (λ all. new ≡ take limit all)) same (front_of (known reader) limit old new none taken))
