-- How many events a world may still have, as runners are opened and have events.
use Rattle.std.proofs.Common.{◌≡◌, ℕ, ◌+◌, ◌*◌, ◌<◌, ◌≤◌, List, [], ◌∷◌, ◌++◌, length, ap, ◌∙◌, zero, suc, arith}
use Rattle.std.specs.Prelude.{slice_set, slice_index_or}
use Rattle.std.specs.List.{sum_by}
use Rattle.std.proofs.lemmas.List.Sums.{sum_by-cons, sum_by_push}
use Rattle.lx_model.specs.declared.program.ScriptCall.{ScriptCall}
use Rattle.lx_interp.specs.declared.runner.Runner.{Runner}
use Rattle.lx_interp.specs.Runner.{calls_left, events_left, events_of}
use Rattle.lx_world.specs.Worlds.{script_calls, script_events}

-- a further runner, opened for its calls
pub events_more : (rs new : List Runner) (ys : List (List ScriptCall)) (r : Runner) (c : List ScriptCall) → new ≡ rs ++ r ∷ [] → events_left r ≡ events_of c
    → sum_by events_left rs ≡ script_events ys → sum_by events_left new ≡ script_events (ys ++ c ∷ [])
events_more rs new ys r c is fresh h =
    let a = ap (sum_by events_left) is ∙ sum_by_push events_left rs r in
    let b = sum_by_push events_of ys c in
    omega (arith, a, b, fresh, h)

-- likewise its calls
pub calls_more : (rs new : List Runner) (ys : List (List ScriptCall)) (r : Runner) (c : List ScriptCall) → new ≡ rs ++ r ∷ [] → calls_left r ≡ c
    → sum_by (λ q. length (calls_left q)) rs ≡ script_calls ys → sum_by (λ q. length (calls_left q)) new ≡ script_calls (ys ++ c ∷ [])
calls_more rs new ys r c is fresh h =
    let a = ap (sum_by (λ q. length (calls_left q))) is ∙ sum_by_push (λ q. length (calls_left q)) rs r in
    let b = sum_by_push length ys c in
    let e = ap length fresh in
    omega (arith, a, b, e, h)

-- one term of a sum is another
term_set : {X : Type 0} (f : X → ℕ) (xs : List X) (k : ℕ) (x y : X) → k < length xs → x ≡ slice_index_or xs k x → sum_by f (slice_set xs k y) + f x ≡ sum_by f xs + f y
term_set f [] k x y there is = absurd (omega arith)
term_set f (z ∷ zs) zero x y there is =
    let a = sum_by-cons f y zs in
    let b = sum_by-cons f z zs in
    let e = ap f is in
    omega (arith, a, b, e)
term_set f (z ∷ zs) (suc k) x y there is =
    let a = sum_by-cons f z (slice_set zs k y) in
    let b = sum_by-cons f z zs in
    let rest = term_set f zs k x y (omega arith) is in
    omega (arith, a, b, rest)

-- room for the events of all is room for those that are left, where an event takes one
pub room_behind : (rs new : List Runner) (k : ℕ) (r after : Runner) (before now : ℕ) → new ≡ slice_set rs k after → r ≡ slice_index_or rs k r → k < length rs
    → events_left after < events_left r → before ≤ now + 1 → sum_by events_left rs ≤ before → sum_by events_left new ≤ now
room_behind rs new k r after before now set is there fewer takes room =
    let a = term_set events_left rs k r after there is in
    let b = ap (sum_by events_left) set in
    omega (arith, a, b)

-- and where no event came
pub room_still : (rs new : List Runner) (k : ℕ) (r after : Runner) (before now : ℕ) → new ≡ slice_set rs k after → r ≡ slice_index_or rs k r → k < length rs
    → events_left after ≤ events_left r → before ≤ now → sum_by events_left rs ≤ before → sum_by events_left new ≤ now
room_still rs new k r after before now set is there fewer stays room =
    let a = term_set events_left rs k r after there is in
    let b = ap (sum_by events_left) set in
    omega (arith, a, b)

-- room for the ends of all calls is room for the ends of those that are left, where the end of a call takes two
pub ends_behind : (rs new : List Runner) (k : ℕ) (r after : Runner) (before now : ℕ) → new ≡ slice_set rs k after → r ≡ slice_index_or rs k r → k < length rs
    → 2 * length (calls_left after) + before ≤ 2 * length (calls_left r) + now → 2 * sum_by (λ q. length (calls_left q)) rs ≤ before → 2 * sum_by (λ q. length (calls_left q)) new ≤ now
ends_behind rs new k r after before now set is there takes room =
    let a = term_set (λ q. length (calls_left q)) rs k r after there is in
    let b = ap (sum_by (λ q. length (calls_left q))) set in
    omega (arith, a, b, takes, room)
