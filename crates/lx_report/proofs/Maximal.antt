-- The runs of a schedule are maximal, and written out they are the schedule.
use Rattle.std.proofs.Common.{◌≡◌, ℕ, suc, ◌<◌, ◌≤◌, ◌^◌, true, false, Bool, nat_eq, cond, All, List, [], ◌∷◌, ◌++◌, length, ap, sym, ◌∙◌, refl, arith, eqb-true}
use Rattle.std.proofs.lemmas.List.Elements.{All-head, All-tail}
use Rattle.std.specs.List.{flat_map}
use Rattle.lx_report.specs.Runs.{Run, run, joined, runs}
use Rattle.lx_report.specs.Laws.{events_of, AreMaximal}
use Rattle.lx_caps.proofs.Tests.{ne_from_test}

-- a fact about a choice, where it holds of both
by_cases : (P : List Run → Type 0) (b : Bool) (x y : List Run) → (b ≡ true → P x) → (b ≡ false → P y) → P (cond b x y)
by_cases P true x y p q = p refl
by_cases P false x y p q = q refl

joined_out : (t : ℕ) (rs : List Run) → flat_map events_of (joined t rs) ≡ t ∷ flat_map events_of rs
joined_out t [] = refl
joined_out t (r ∷ rs) =
    by_cases (λ x. flat_map events_of x ≡ t ∷ flat_map events_of (r ∷ rs)) (nat_eq t r.thread) _ _
    (λ e. ap (λ u. t ∷ (events_of (run u r.count) ++ flat_map events_of rs)) (eqb-true t r.thread e)) (λ e. refl)

pub written_out : (s : List ℕ) → flat_map events_of (runs s) ≡ s
written_out [] = refl
written_out (t ∷ ts) = joined_out t (runs ts) ∙ ap (λ s. t ∷ s) (written_out ts)

longer : (t n : ℕ) (r : Run) (rs : List Run) → t ≡ r.thread → AreMaximal (r ∷ rs) → AreMaximal (run t (suc n) ∷ rs)
longer t n r [] e h = omega arith
longer t n r (q ∷ qs) e h = (omega arith, λ f. h.1 (sym e ∙ f), h.2)

maximal_joined : (t : ℕ) (rs : List Run) → AreMaximal rs → AreMaximal (joined t rs)
maximal_joined t [] h = omega arith
maximal_joined t (r ∷ rs) h =
    by_cases AreMaximal (nat_eq t r.thread) _ _ (λ e. longer t r.count r rs (eqb-true t r.thread e) h) (λ e. (omega arith, ne_from_test t r.thread e, h))

pub maximal : (s : List ℕ) → AreMaximal (runs s)
maximal [] = tt
maximal (t ∷ ts) = maximal_joined t (runs ts) (maximal ts)

-- thread numbers of 32 bits, and counts up to a bound
abbrev pub Fit : ℕ → List Run → Type 0
Fit n [] = Unit {0}
Fit n (r ∷ rs) = (r.thread < 2 ^ 32) × (r.count ≤ n) × Fit n rs

fit_more : (n : ℕ) (rs : List Run) → Fit n rs → Fit (suc n) rs
fit_more n [] h = tt
fit_more n (r ∷ rs) h = (h.0, omega (arith, h.1), fit_more n rs h.2)

fit_joined : (t n : ℕ) (rs : List Run) → t < 2 ^ 32 → Fit n rs → Fit (suc n) (joined t rs)
fit_joined t n [] lt h = (lt, omega arith, tt)
fit_joined t n (r ∷ rs) lt h =
    by_cases (Fit (suc n)) (nat_eq t r.thread) _ _ (λ e. (lt, omega (arith, h.1), fit_more n rs h.2))
    (λ e. (lt, omega arith, fit_more n (r ∷ rs) h))

pub fit : (s : List ℕ) → All (λ t. t < 2 ^ 32) s → Fit (length s) (runs s)
fit [] h = tt
fit (t ∷ ts) h =
    fit_joined t (length ts) (runs ts) (All-head (λ u. u < 2 ^ 32) t ts h) (fit ts (All-tail (λ u. u < 2 ^ 32) t ts h))
