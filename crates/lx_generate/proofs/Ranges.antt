-- One number more of a range.
use Rattle.std.proofs.Common.{◌≡◌, sym, ap, ◌∙◌, ℕ, zero, suc, ◌+◌, List, [], ◌∷◌, ◌++◌, flat_map, append_assoc, arith}
use Rattle.std.specs.List.{range_with_len}
use Rattle.std.proofs.lemmas.Grind.{flat_map-append}
use Rattle.std.proofs.lemmas.List.{append-nil}

range_more : (a n k : ℕ) → k ≡ a + n → range_with_len a (suc n) ≡ range_with_len a n ++ k ∷ []
range_more a zero k is = let same : a ≡ k = omega (arith, is) in ap (λ i. i ∷ []) same
range_more a (suc n) k is = ap (λ (ks : List ℕ). a ∷ ks) (range_more (a + 1) n k (omega (arith, is)))

lines_more : (f : ℕ → List ℕ) (n : ℕ) → flat_map f (range_with_len 0 (n + 1)) ≡ flat_map f (range_with_len 0 n) ++ f n
lines_more f n =
    let next : n + 1 ≡ suc n = omega arith in
    rw next (ap (flat_map f) (range_more 0 n n (omega arith)) ∙ (flat_map-append f (range_with_len 0 n) (n ∷ []) ∙ ap (λ (line : List ℕ). flat_map f (range_with_len 0 n) ++ line) (append-nil (f n))))

-- what a loop has added behind a head, and what it adds next
pub added_more : (f : ℕ → List ℕ) (n : ℕ) (old head now new : List ℕ) → now ≡ old ++ (head ++ flat_map f (range_with_len 0 n)) → new ≡ now ++ f n
    → new ≡ old ++ (head ++ flat_map f (range_with_len 0 (n + 1)))
added_more f n old head now new before added =
    let here = flat_map f (range_with_len 0 n) in
    added ∙ (ap (λ (x : List ℕ). x ++ f n) before ∙ (append_assoc old (head ++ here) (f n) ∙ ap (λ (x : List ℕ). old ++ x) (append_assoc head here (f n) ∙ ap (λ (x : List ℕ). head ++ x) (sym (lines_more f n)))))
