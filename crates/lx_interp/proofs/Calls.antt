-- The calls that are left, and the events that they may have.
use Rattle.std.proofs.Common.{◌≡◌, ℕ, zero, suc, ◌+◌, ◌<◌, ◌≤◌, true, false, not, leb, Option, None, List, [], ◌∷◌, length, drop, IsTrue, refl, ap, ◌∙◌, arith}
use Rattle.std.specs.Prelude.{slice_get}
use Rattle.std.proofs.lemmas.Bool.Decides.{nat_tests}
use Rattle.lx_model.specs.declared.program.ScriptCall.{ScriptCall}
use Rattle.lx_model.specs.declared.request.Outcome.{Outcome}
use Rattle.lx_model.specs.declared.request.What.{What}
use Rattle.lx_model.specs.declared.request.What.TheVariants as what
use Rattle.lx_model.specs.Thread.{first_fuel, has_call}
use Rattle.lx_model.specs.Next.{other_calls}
use Rattle.lx_images.specs.Image.{Code, ImageThread, after_end}
use Rattle.lx_interp.specs.declared.runner.Runner.{Runner}
use Rattle.lx_interp.specs.Runner.{StandsFor, calls_left, events_left, events_of, paid, paid_for, thread_of, unpaid_events}

-- no call is left where as many have ended
none_before : (n : ℕ) → leb (suc n) 0 ≡ false
none_before n = grind (arith, nat_tests)

before_more : (m n : ℕ) → leb (suc m) (suc n) ≡ leb m n
before_more m n = grind (arith, nat_tests)

none_of_none : (n : ℕ) → leb 0 n ≡ true
none_of_none n = grind (arith, nat_tests)

pub none_left : (n : ℕ) (calls : List ScriptCall) → leb (length calls) n ≡ not (has_call (drop n calls))
none_left zero [] = none_of_none 0
none_left zero (c ∷ cs) = none_before (length cs)
none_left (suc n) [] = none_of_none (suc n)
none_left (suc n) (c ∷ cs) = before_more (length cs) n ∙ none_left n cs

-- the first one that is left, among all
pub first_left : (n : ℕ) (calls : List ScriptCall) → slice_get calls n ≡ slice_get (drop n calls) 0
first_left zero [] = refl
first_left zero (c ∷ cs) = refl
first_left (suc n) [] = refl
first_left (suc n) (c ∷ cs) = first_left n cs

pub call_of : (c : Code) (t : ℕ) (r : Runner) (v : ImageThread) (found : Option ScriptCall) → found ≡ slice_get r.calls (length r.endings.items) → StandsFor c t r v → found ≡ slice_get v.calls 0
call_of c t r v found e h = e ∙ first_left (length r.endings.items) r.calls ∙ ap (λ (xs : List ScriptCall). slice_get xs 0) h.calls

-- a call is left within the list
pub some_left : (n : ℕ) (calls : List ScriptCall) → IsTrue (has_call (drop n calls)) → n < length calls
some_left zero [] h = absurd (cc)
some_left zero (c ∷ cs) h = omega arith
some_left (suc n) [] h = absurd (cc)
some_left (suc n) (c ∷ cs) h = omega (arith, some_left n cs h)

-- the end of a call leaves fewer events
first_events : (calls : List ScriptCall) → first_fuel calls + unpaid_events calls ≡ events_of calls
first_events [] = refl
first_events (c ∷ cs) = refl

fewer : (calls : List ScriptCall) (k : ℕ) → IsTrue (has_call calls) → first_fuel (other_calls calls) + unpaid_events (other_calls calls) < k + unpaid_events calls
fewer [] k h = absurd (cc)
fewer (c ∷ cs) k h = omega (arith, first_events cs)

pub ended_spends : (c : Code) (old new : Runner) (o : Outcome) → IsTrue (has_call (calls_left old)) → thread_of c new ≡ after_end o (thread_of c old) → new.request ≡ None →
    events_left new < events_left old
ended_spends c old new o work state idle =
    let fuel : new.fuel ≡ first_fuel (other_calls (calls_left old)) = ap (λ x. x.fuel) state in
    let left : unpaid_events (calls_left new) ≡ unpaid_events (other_calls (calls_left old)) = ap (λ x. unpaid_events x.calls) state in
    let free : paid new.request ≡ 0 = ap paid idle in
    omega (arith, fewer (calls_left old) (old.fuel + paid old.request) work, fuel, left, free)

pub paid_at_most : (w : What) → paid_for w ≤ 1
paid_at_most (what.Load at width) = omega arith
paid_at_most (what.Store at v) = omega arith
paid_at_most (what.Copy to at len) = omega arith
paid_at_most (what.Fill to byte len) = omega arith
paid_at_most (what.Alloca at size) = omega arith
paid_at_most (what.Enter way args) = omega arith
paid_at_most (what.Perform n post k env source dest) = omega arith
paid_at_most (what.Return low high) = omega arith
paid_at_most (what.Native k args) = omega arith
paid_at_most (what.Finish o) = omega arith
