-- The counts of calls and fuel with a call more.
use Rattle.std.proofs.Common.{◌≡◌, ℕ, ◌+◌, ◌<◌, ◌≤◌, List, [], ◌∷◌, length, Bool, true, false, cond, Result, Ok, Err, refl, ap, arith}
use Rattle.std.specs.Prelude.{nat_lt}
use Rattle.std.proofs.lemmas.List.{length-append}
use Rattle.std.proofs.lemmas.List.Sums.{sum_by-append, sum_by-cons}
use Rattle.std.proofs.lemmas.Bool.{ltb-false}
use Rattle.lx_script.specs.declared.case.CaseCall.{CaseCall}
use Rattle.lx_script.specs.declared.case.CaseModule.{CaseModule}
use Rattle.lx_script.specs.declared.fault.Fault.{Fault}
use Rattle.lx_script.specs.Case.{most_fuel, most_calls, call_count, fuel_sum, thread_fuel}
use Rattle.lx_script.specs.Lines.{Statement}
use Rattle.lx_script.specs.Reading.{◌>>=◌, IsCounted, word_at, end_at, symbol_at, arguments_at, fuel_at, spent_at, call_in, with_call}

-- what was read, where reading goes on
pub bind_ok : {A B : Type 0} (r : Result A Fault) (f : A → Result B Fault) (y : B) → (r >>= f) ≡ Ok y → (x : A) × (r ≡ Ok x) × (f x ≡ Ok y)
bind_ok (Ok x) f y e = (x, refl, e)
bind_ok (Err x) f y e = cc

-- what stands behind a test that is passed
pub guard_ok : {A : Type 0} (b : Bool) (d : Fault) (r : Result A Fault) (y : A) → cond b (Err d) r ≡ Ok y → (b ≡ false) × (r ≡ Ok y)
guard_ok true d r y e = cc
guard_ok false d r y e = (refl, e)

-- what reading gives is one thing
pub same_ok : {A : Type 0} (x y : A) (r : Result A Fault) → r ≡ Ok x → r ≡ Ok y → x ≡ y
same_ok x y r e f = cc

pub spent_fits : (row spent : ℕ) (s : Statement) (r : ℕ × Statement) → spent_at row spent s ≡ Ok r → spent + r.0 ≤ most_fuel
unfolding spent_at
spent_fits row spent s r e =
    let w = bind_ok (word_at s) _ r e in
    let f = bind_ok (fuel_at row w.0.0) _ r w.2 in
    let g = guard_ok (nat_lt most_fuel (spent + f.0)) _ (Ok (f.0, w.0.1)) r f.2 in
    let same : f.0 ≡ r.0 = ap (λ (p : ℕ × Statement). p.0) (same_ok _ r _ refl g.1) in
    omega (arith, ltb-false most_fuel (spent + f.0) g.0, same)

pub call_fits : (names : List (List ℕ)) (spent : ℕ) (s : Statement) (call : CaseCall) → call_in names spent s ≡ Ok call → spent + call.fuel ≤ most_fuel
unfolding call_in
call_fits names spent s call e =
    let w = bind_ok (word_at s) _ call e in
    let t = bind_ok (symbol_at names s.row w.0.0 w.0.0) _ call w.2 in
    let a = bind_ok (arguments_at names w.0.1) _ call t.2 in
    let f = bind_ok (spent_at s.row spent a.0.1) _ call a.2 in
    let z = bind_ok (end_at f.0.1) _ call f.2 in
    let same : f.0.0 ≡ call.fuel = ap (λ (c : CaseCall). c.fuel) (same_ok _ call _ refl z.2) in
    omega (arith, spent_fits s.row spent a.0.1 f.0 f.1, same)

-- one call more
length_same : (call : CaseCall) (ts : List (List CaseCall)) → length (with_call call ts) ≡ length ts
length_same call [] = refl
length_same call (t ∷ []) = refl
length_same call (t ∷ u ∷ ts) = omega (arith, length_same call (u ∷ ts))

calls_more : (call : CaseCall) (ts : List (List CaseCall)) → 0 < length ts → call_count (with_call call ts) ≡ call_count ts + 1
calls_more call [] some = absurd (omega arith)
calls_more call (t ∷ []) some = omega (arith, length-append t (call ∷ []))
calls_more call (t ∷ u ∷ ts) some = omega (arith, calls_more call (u ∷ ts) (omega arith), sum_by-cons length t (u ∷ ts), sum_by-cons length t (with_call call (u ∷ ts)))

fuel_more : (call : CaseCall) (ts : List (List CaseCall)) → 0 < length ts → fuel_sum (with_call call ts) ≡ fuel_sum ts + call.fuel
fuel_more call [] some = absurd (omega arith)
fuel_more call (t ∷ []) some = omega (arith, sum_by-append (λ (c : CaseCall). c.fuel) t (call ∷ []))
fuel_more call (t ∷ u ∷ ts) some = omega (arith, fuel_more call (u ∷ ts) (omega arith), sum_by-cons thread_fuel t (u ∷ ts), sum_by-cons thread_fuel t (with_call call (u ∷ ts)))

pub counted : (modules : List CaseModule) (threads new : List (List CaseCall)) (calls fuel : ℕ) (call : CaseCall) → IsCounted modules threads calls fuel → 0 < length threads → calls < most_calls → fuel + call.fuel ≤ most_fuel → new ≡ with_call call threads → IsCounted modules new (calls + 1) (fuel + call.fuel)
counted modules threads new calls fuel call h some room fits e = rw e (record {
  calls_are = omega (arith, h.calls_are, calls_more call threads some);
  fuel_is = omega (arith, h.fuel_is, fuel_more call threads some);
  within = record {
    modules_within = h.within.modules_within;
    threads_within = omega (arith, h.within.threads_within, length_same call threads);
    calls_within = omega (arith, h.calls_are, room, calls_more call threads some);
    fuel_within = omega (arith, h.fuel_is, fits, fuel_more call threads some);
  };
})
