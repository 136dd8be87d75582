-- How many calls and how much fuel threads have.
use Rattle.std.proofs.Common.{◌≡◌, ◌∙◌, ℕ, zero, suc, ◌+◌, ◌*◌, ◌<◌, ◌≤◌, Bool, true, false, cond, List, [], ◌∷◌, ◌++◌, length, refl, arith}
use Rattle.std.specs.Prelude.{◌==◌, ◌%◌, filter}
use Rattle.std.specs.List.{AllByRecursion, range_with_len}
use Rattle.std.proofs.lemmas.Nat.{mod_below}
use Rattle.std.proofs.lemmas.List.FromFn.{length-range_with_len}
use Rattle.std.proofs.lemmas.List.Sums.{sum_by-append, sum_by-cons}
use Rattle.lx_script.specs.declared.case.CaseCall.{CaseCall}
use Rattle.lx_script.specs.Case.{call_count, fuel_sum, thread_fuel}
use Rattle.lx_generated_laws.specs.Cases.{call_of, calls_from, numbers_in}

pub count_last : (done : List (List CaseCall)) (last : List CaseCall) → call_count (done ++ last ∷ []) ≡ call_count done + length last
count_last done last = sum_by-append length done (last ∷ []) ∙ omega (arith, sum_by-cons length last [])

pub fuel_last : (done : List (List CaseCall)) (last : List CaseCall) → fuel_sum (done ++ last ∷ []) ≡ fuel_sum done + thread_fuel last
fuel_last done last = sum_by-append thread_fuel done (last ∷ []) ∙ omega (arith, sum_by-cons thread_fuel last [])

pub fuel_more : (last : List CaseCall) (c : CaseCall) → thread_fuel (last ++ c ∷ []) ≡ thread_fuel last + c.fuel
fuel_more last c = sum_by-append (λ (d : CaseCall). d.fuel) last (c ∷ []) ∙ omega (arith, sum_by-cons (λ (d : CaseCall). d.fuel) c [])

pub count_from : (n row : ℕ) (js : List ℕ) → length (calls_from n row js) ≡ length js
count_from n row [] = refl
count_from n row (j ∷ js) = omega (arith, count_from n (row + 1) js)

pub fuel_from : (n row : ℕ) (js : List ℕ) → thread_fuel (calls_from n row js) ≡ 100 * length js
fuel_from n row [] = refl
fuel_from n row (j ∷ js) = sum_by-cons (λ (d : CaseCall). d.fuel) (call_of n row j) (calls_from n (row + 1) js) ∙ omega (arith, fuel_from n (row + 1) js)

-- Each number is that of a call in one of the four threads.

abbrev kept : ℕ → List ℕ → ℕ
kept thread js = length (filter (λ j. j % 4 == thread) js)

-- how long a list is with one more that passes a test, or does not
one_more : (b : Bool) (j : ℕ) (js : List ℕ) → length (cond b (j ∷ js) js) ≡ cond b 1 0 + length js
one_more true j js = omega arith
one_more false j js = omega arith

one_of_four : (r : ℕ) → r < 4 → cond (r == 0) 1 0 + (cond (r == 1) 1 0 + (cond (r == 2) 1 0 + cond (r == 3) 1 0)) ≡ 1
one_of_four zero h = refl
one_of_four (suc zero) h = refl
one_of_four (suc (suc zero)) h = refl
one_of_four (suc (suc (suc zero))) h = refl
one_of_four (suc (suc (suc (suc r)))) h = absurd (omega (arith, h))

all_kept : (js : List ℕ) → kept 0 js + (kept 1 js + (kept 2 js + kept 3 js)) ≡ length js
all_kept [] = refl
all_kept (j ∷ js) =
    omega (
      arith,
      all_kept js,
      one_of_four (j % 4) (mod_below j 4 (omega arith)),
      one_more (j % 4 == 0) j (filter (λ k. k % 4 == 0) js),
      one_more (j % 4 == 1) j (filter (λ k. k % 4 == 1) js),
      one_more (j % 4 == 2) j (filter (λ k. k % 4 == 2) js),
      one_more (j % 4 == 3) j (filter (λ k. k % 4 == 3) js),
    )

pub all_numbers : (n : ℕ) → length (numbers_in n 0) + (length (numbers_in n 1) + (length (numbers_in n 2) + length (numbers_in n 3))) ≡ n
all_numbers n = all_kept (range_with_len 0 n) ∙ length-range_with_len 0 n

-- Numbers of calls are small.

abbrev pub AreBelow : ℕ → List ℕ → Type 0
AreBelow n js = AllByRecursion (λ j. j < n) js

range_below : (a n k : ℕ) → a + n ≤ k → AreBelow k (range_with_len a n)
range_below a zero k h = tt
range_below a (suc n) k h = (omega (arith, h), range_below (a + 1) n k (omega (arith, h)))

filter_below : (p : ℕ → Bool) (k : ℕ) (js : List ℕ) → AreBelow k js → AreBelow k (filter p js)
filter_below p k [] h = tt
filter_below p k (j ∷ js) h = by (p j) (filter_below p k js h.1)
  where
    by : (b : Bool) → AreBelow k (filter p js) → AreBelow k (cond b (j ∷ filter p js) (filter p js))
    by true rest = (h.0, rest)
    by false rest = rest

pub numbers_below : (n thread : ℕ) → AreBelow n (numbers_in n thread)
numbers_below n thread = filter_below (λ j. j % 4 == thread) n (range_with_len 0 n) (range_below 0 n n (omega arith))
