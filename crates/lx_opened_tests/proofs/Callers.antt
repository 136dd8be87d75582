-- Each event of threads that call so many times more is a call less.
use Rattle.std.proofs.Common.{◌≡◌, refl, ap, ℕ, zero, suc, ◌+◌, ◌-◌, ◌==◌, arith, Some, List, [], ◌∷◌, length, IsTrue, not}
use Rattle.std.specs.Prelude.{slice_get, slice_set}
use Rattle.std.specs.List.{sum_by}
use Rattle.std.proofs.lemmas.List.Sums.{sum_by-cons}
use Rattle.lx_caplock.specs.declared.knowledge.Entry.{Entry}
use Rattle.lx_caplock.specs.Serving.{served_by}
use Rattle.lx_model.specs.declared.program.Program.{Program}
use Rattle.lx_model.specs.State.{State}
use Rattle.lx_opened_tests.specs.Callers.{Calls, calling}
use Rattle.lx_threads.specs.Machines.{IsEvent, AreEvents}

abbrev pub calls_in : List Calls → ℕ
calls_in xs = sum_by (λ x. x.left) xs

one_less : (xs : List Calls) (k : ℕ) (x y : Calls) → slice_get xs k ≡ Some x → x.left ≡ y.left + 1 → calls_in xs ≡ calls_in (slice_set xs k y) + 1
one_less [] k x y there less = absurd (cc)
one_less (z ∷ zs) zero x y there less =
    let same : z ≡ x = cc in
    let a = sum_by-cons (λ (q : Calls). q.left) z zs in
    let b = sum_by-cons (λ (q : Calls). q.left) y zs in
    let e = ap (λ (q : Calls). q.left) same in
    omega (arith, a, b, e, less)
one_less (z ∷ zs) (suc k) x y there less =
    let a = sum_by-cons (λ (q : Calls). q.left) z zs in
    let b = sum_by-cons (λ (q : Calls). q.left) z (slice_set zs k y) in
    let rest = one_less zs k x y there less in
    omega (arith, a, b, rest)

more_than_none : (n : ℕ) → IsTrue (not (n == 0)) → n ≡ (n - 1) + 1
more_than_none zero works = absurd (cc)
more_than_none (suc n) works = omega arith

event_less : (p : Program) (s : State) (xs : List Calls) (e : Entry) (x : Calls) (many left : ℕ) → IsEvent calling p s xs e x → calls_in (slice_set xs e.thread (record { left = x.left - 1; request = x.request })) ≡ many + left
    → calls_in xs ≡ suc many + left
event_less p s xs e x many left event rest =
    let a = one_less xs e.thread x (record { left = x.left - 1; request = x.request }) event.there (more_than_none x.left event.next.work) in
    omega (arith, a, rest)

none_less : (xs ys : List Calls) → xs ≡ ys → calls_in xs ≡ 0 + calls_in ys
none_less xs ys is = let a = ap calls_in is in omega (arith, a)

-- as many events as there are calls less
pub as_many : (p : Program) (s : State) (xs ys : List Calls) (es : List Entry) → AreEvents calling p s xs es ys → calls_in xs ≡ length es + calls_in ys
as_many p s xs ys [] all = none_less xs ys all
as_many p s xs ys (e ∷ es) all =
    event_less p s xs e all.0 (length es) (calls_in ys) all.1
    (as_many p (served_by p s e).state (slice_set xs e.thread (record { left = all.0.left - 1; request = all.0.request })) ys es all.2)
