use Rattle.std.proofs.Common.{◌≡◌, refl, arith, ℕ, suc, ◌+◌, List, [], ◌∷◌, length}
use Rattle.std.specs.List.{sum_by}
use Rattle.std.proofs.lemmas.List.Sums.{sum_by-cons}
use Rattle.lx_caplock.specs.Serving.{state_after}
use Rattle.lx_model.specs.Opening.{opening_state}
use Rattle.lx_threads.specs.Working.{AllStand}
use Rattle.lx_opened_tests.specs.declared.lock.Caller.{Caller}
use Rattle.lx_opened_tests.specs.Callers.{Calls}
use Rattle.lx_opened_tests.specs.Programs.{empty}
use Rattle.lx_opened_tests.proofs.Alone.{longer}
use Rattle.lx_opened_tests.proofs.Callers.{calls_in, as_many}
use Rattle.lx_opened_tests.proofs.lock.run_all.Goals as goal

-- callers stand for threads that ask as often as they do

abbrev calls_of : List Caller → List Calls
calls_of [] = []
calls_of (c ∷ cs) = record { left = c.left; request = c.request } ∷ calls_of cs

abbrev AreCalls : {K : Type 0} → K → ℕ → Caller → Calls → Type 0
AreCalls code t caller x = (x.left ≡ caller.left) × (x.request ≡ caller.request)

all_stand : {K : Type 0} (code : K) (t : ℕ) (cs : List Caller) → AllStand AreCalls code t cs (calls_of cs)
all_stand code t [] = tt
all_stand code t (c ∷ cs) = ((refl, refl), all_stand code (suc t) cs)

-- threads will yet ask as often as what stands for them
as_often : {K : Type 0} (code : K) (t : ℕ) (cs : List Caller) (xs : List Calls) → AllStand AreCalls code t cs xs → sum_by (λ c. c.left) cs ≡ calls_in xs
as_often code t [] [] all = refl
as_often code t [] (x ∷ xs) all = absurd all
as_often code t (c ∷ cs) [] all = absurd all
as_often code t (c ∷ cs) (x ∷ xs) all =
    let a = sum_by-cons (λ (q : Caller). q.left) c cs in
    let b = sum_by-cons (λ (q : Calls). q.left) x xs in
    let rest = as_often code (suc t) cs xs all.1 in
    omega (arith, a, b, rest, all.0.0)

pub run_workers-requires-clause-may : goal.run_workers-requires-clause-may
run_workers-requires-clause-may g c κs within = record {
  same = refl;
  state = (opening_state empty, refl);
  threads = (calls_of c.args.callers.items, all_stand (tt {0}) 0 c.args.callers.items);
  served = λ p t r fits. tt;
}

pub returns : goal.returns
returns g c =
    let run = c.in_ok-done.ensures in
    let s = opening_state empty in
    let xs = calls_of c.args.callers.items in
    let stand = all_stand (tt {0}) 0 c.args.callers.items in
    let came = run.comes s xs refl stand in
    let ys = came.0 in
    let served : length (state_after empty s run.history).journal ≡ c.in_ok-done.done.0.served = came.1.state in
    let more : length (state_after empty s run.history).journal ≡ 0 + length run.history = longer empty s run.history in
    let events = as_many empty s xs ys run.history came.1.events in
    let old = as_often (tt {0}) 0 c.args.callers.items xs stand in
    let new = as_often (tt {0}) 0 c.in_ok-done.done.1.items ys came.1.threads in
    omega (arith, served, more, events, old, new)
