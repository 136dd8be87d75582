-- A loop that appends a list for each element and its place.
use Rattle.std.proofs.Common.{◌≡◌, ℕ, ◌+◌, ◌<◌, ◌≤◌, List, [], ◌∷◌, ◌++◌, length, get_or, take, sym, ap, ◌∙◌, arith, zero-add}
use Rattle.std.specs.List.{enumerate_from, flat_map}
use Rattle.std.proofs.lemmas.List.{take_more, take_all, flat_map_more}
use Rattle.std.proofs.lemmas.List.FromFn.{length-enumerate_from, get_or-enumerate_from}

module _ {X Y : Type 0} (f : ℕ × X → List Y) (xs : List X) where
  abbrev numbered : List (ℕ × X)
  numbered = enumerate_from 0 xs

  taken : (k : ℕ) (x : X) → k < length xs → take (k + 1) numbered ≡ take k numbered ++ (k, get_or xs k x) ∷ []
  taken k x h =
      let n = length-enumerate_from 0 xs in
      take_more numbered k (0, x) (omega arith)
      ∙ ap (λ e. take k numbered ++ e ∷ []) (get_or-enumerate_from 0 xs k (0, x) h ∙ ap (λ i. (i, get_or xs k x)) (zero-add k))

  pub numbered_more : (k : ℕ) (x : X) (before now new : List Y) → k < length xs → now ≡ before ++ flat_map f (take k numbered) → new ≡ now ++ f (k, get_or xs k x)
      → new ≡ before ++ flat_map f (take (k + 1) numbered)
  numbered_more k x before now new h p q =
      q
      ∙ ap (λ t. t ++ f (k, get_or xs k x)) p
      ∙ flat_map_more f before (take k numbered) (k, get_or xs k x)
      ∙ ap (λ t. before ++ flat_map f t) (sym (taken k x h))

  pub numbered_all : (k : ℕ) (before now : List Y) → length xs ≤ k → now ≡ before ++ flat_map f (take k numbered) → now ≡ before ++ flat_map f numbered
  numbered_all k before now h p =
      let n = length-enumerate_from 0 xs in p ∙ ap (λ t. before ++ flat_map f t) (take_all k numbered (omega arith))

  -- the same where the loop goes over a list that is this one
  pub numbered_more_at : (ys : List X) (k : ℕ) (x : X) (before now new : List Y) → ys ≡ xs → k < length ys → x ≡ get_or ys k x → now ≡ before ++ flat_map f (take k numbered) → new ≡ now ++ f (k, x)
      → new ≡ before ++ flat_map f (take (k + 1) numbered)
  numbered_more_at ys k x before now new e h is p q =
      let n = ap length e in
      numbered_more k x before now new (omega arith) p (q ∙ ap (λ y. now ++ f (k, y)) (is ∙ ap (λ zs. get_or zs k x) e))
