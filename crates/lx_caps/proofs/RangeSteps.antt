-- One more range, and one more byte of a range.
use Rattle.std.proofs.Common.{◌≡◌, ℕ, suc, ◌+◌, ◌-◌, ◌^◌, ◌<◌, ◌≤◌, Bool, true, false, List, [], ◌∷◌, ◌++◌, Some, inl, inr, sym, ap, ◌∙◌, subst, append_assoc, arith}
use Rattle.std.proofs.lemmas.Bool.{true≢false, cases_lt}
use Rattle.lx_caps.specs.declared.Cap.{Cap}
use Rattle.lx_caps.specs.declared.Cap.TheVariants as cap
use Rattle.lx_caps.specs.NextByte.{IsFirstFrom}
use Rattle.lx_caps.specs.Ranges.{IsRanges}

-- with the ranges that are left the list is whole
abbrev pub Ranged : (ℕ → Bool) → ℕ → List Cap → Type 0
Ranged p from done = (rest : List Cap) → IsRanges p from rest → IsRanges p 0 (done ++ rest)

-- all bytes up to here are owned
pub record Reaches (p : ℕ → Bool) (at last : ℕ) : Type 0 where
  pub order : at ≤ last
  pub small : last < 2 ^ 64
  pub owned : (m : ℕ) → at ≤ m → m < suc last → p m ≡ true

module _ (p : ℕ → Bool) where
  pub falls : (from n last : ℕ) → IsFirstFrom p from (Some n) → n ≤ last → last < 2 ^ 64 → 2 ^ 64 - suc last < 2 ^ 64 - from
  falls from n last first le lt = omega (arith, first.0, le, lt)

  pub starts : (at : ℕ) → at < 2 ^ 64 → p at ≡ true → Reaches p at at
  starts at lt o = record { order = omega arith; small = lt; owned = λ m am ms. (let e : m ≡ at = omega (arith, am, ms) in ap p e ∙ o) }

  pub none_ranged : (done : List Cap) → done ≡ [] → Ranged p 0 done
  none_ranged done e rest l = subst (λ ds. IsRanges p 0 (ds ++ rest)) (sym e) l

  -- an owned byte is not the last one
  below_last : (last : ℕ) → p (2 ^ 64 - 1) ≡ false → last < 2 ^ 64 → p last ≡ true → last < 2 ^ 64 - 1
  below_last last free lt o =
      elim (cases_lt last (2 ^ 64 - 1)) [ inl below ↦ below | inr le ↦ (let e : last ≡ 2 ^ 64 - 1 = omega (arith, le, lt) in absurd (true≢false (sym o ∙ ap p e ∙ free))) ]

  pub one_ranged : (from at last size : ℕ) (done new : List Cap) → p (2 ^ 64 - 1) ≡ false → Ranged p from done → IsFirstFrom p from (Some at) → at ≤ last → last < 2 ^ 64 →
      ((m : ℕ) → at ≤ m → m < suc last → p m ≡ true) → p (suc last) ≡ false →
      (last < 2 ^ 64 - 1 → size ≡ last - at + 1) → new ≡ done ++ cap.Write at size ∷ [] → Ranged p (suc last) new
  one_ranged from at last size done new free f x le lt all end fits e rest l =
      let s : size ≡ last - at + 1 = fits (below_last last free lt (all last le (omega arith))) in
      let k : at + size ≡ suc last = omega (arith, s, le) in
      subst (λ ds. IsRanges p 0 ds) (sym (ap (λ ds. ds ++ rest) e ∙ append_assoc done (cap.Write at size ∷ []) rest))
      (f (cap.Write at size ∷ rest)
      (x.0, x.1, omega (arith, s), (λ m am ms. all m am (omega (arith, ms, k))), ap p k ∙ end, subst (λ y. IsRanges p y rest) (sym k) l))

  pub one_reached : (at last next : ℕ) → Reaches p at last → next ≡ suc last → next < 2 ^ 64 → IsFirstFrom p (suc last) (Some next) → Reaches p at next
  one_reached at last next f e lt first =
      record {
        order = omega (arith, e, f.order);
        small = lt;
        owned = λ m am ms. elim (cases_lt m (suc last)) [ inl lt ↦ f.owned m am lt | inr le ↦ (let j : m ≡ next = omega (arith, le, ms, e) in ap p j ∙ first.2) ];
      }
