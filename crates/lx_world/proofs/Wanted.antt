-- Where there is room, what serves no request but those that take memory wants any.
use Rattle.std.proofs.Common.{◌≡◌, ℕ, zero, suc, ◌*◌, ◌<◌, ◌≤◌, true, IsTrue, Option, Some, List, [], ◌∷◌, length, refl, sym, ap, ◌∙◌, arith}
use Rattle.std.specs.Prelude.{option_map, slice_set, slice_index_or}
use Rattle.std.specs.List.{sum_by}
use Rattle.std.proofs.lemmas.List.Sums.{sum_by-cons}
use Rattle.lx_model.specs.declared.program.ScriptCall.{ScriptCall}
use Rattle.lx_model.specs.declared.request.Request.{Request}
use Rattle.lx_model.specs.Thread.{has_call}
use Rattle.lx_interp.specs.declared.runner.Runner.{Runner}
use Rattle.lx_images.specs.Image.{Code, ImageThread, image_next}
use Rattle.lx_images.specs.ImageWorld.{ImageWorld}
use Rattle.lx_interp.specs.Runner.{calls_left, events_left, request_of, unpaid_events, IsAsking}
use Rattle.lx_world.specs.Wants.{asked_at, image_asks, may_want}
use Rattle.lx_world.specs.Worlds.{AllStand, StandsFor}
use Rattle.lx_world.proofs.Threads.{standing}
use Rattle.lx_world.proofs.Turns.{has_work_of}

-- one term of a sum
term_within : {X : Type 0} (f : X → ℕ) (xs : List X) (k : ℕ) (x : X) → k < length xs → x ≡ slice_index_or xs k x → f x ≤ sum_by f xs
term_within f [] k x there is = absurd (omega arith)
term_within f (z ∷ zs) zero x there is =
    let a = sum_by-cons f z zs in
    let e = ap f is in
    omega (arith, a, e)
term_within f (z ∷ zs) (suc k) x there is =
    let a = sum_by-cons f z zs in
    let rest = term_within f zs k x (omega arith) is in
    omega (arith, a, rest)

a_call : (cs : List ScriptCall) → IsTrue (has_call cs) → 1 ≤ length cs
a_call [] h = absurd (cc)
a_call (c ∷ cs) h = omega arith

an_end : (cs : List ScriptCall) → IsTrue (has_call cs) → 1 ≤ unpaid_events cs
an_end [] h = absurd (cc)
an_end (c ∷ cs) h = omega arith

-- room for all events is room for one of a thread that has a call left
pub event_room : (rs : List Runner) (k : ℕ) (r : Runner) (room : ℕ) → r ≡ slice_index_or rs k r → k < length rs → IsTrue (has_call (calls_left r)) → sum_by events_left rs ≤ room → 0 < room
event_room rs k r room is there work enough =
    let a = term_within events_left rs k r there is in
    let b = an_end (calls_left r) work in
    omega (arith, a, b, enough)

-- and room for the ends of all calls is room for that of its first
pub end_room : (rs : List Runner) (k : ℕ) (r : Runner) (room : ℕ) → r ≡ slice_index_or rs k r → k < length rs → IsTrue (has_call (calls_left r))
    → 2 * sum_by (λ q. length (calls_left q)) rs ≤ room → 2 ≤ room
end_room rs k r room is there work enough =
    let a = term_within (λ q. length (calls_left q)) rs k r there is in
    let b = a_call (calls_left r) work in
    omega (arith, a, b, enough)

-- what the thread of a runner asks that was put in its place
pub asked_after : (rs : List Runner) (k : ℕ) (after : Runner) → k < length rs → asked_at (slice_set rs k after) k ≡ request_of after
asked_after [] k after there = absurd (omega arith)
asked_after (y ∷ ys) zero after there = refl
asked_after (y ∷ ys) (suc k) after there = asked_after ys k after (omega arith)

-- a request that takes memory may want it
pub wants_asked : (asked : Option Request) (q : Request) → asked ≡ Some q → may_want (Some q) ≡ true → may_want asked ≡ true
wants_asked asked q is h = ap may_want is ∙ h

-- a runner that asks what its thread asks next, put in its place
pub asks_next : (c : Code) (t : ℕ) (w : ImageWorld) (rs new : List Runner) (r after : Runner) → AllStand c 0 rs w.threads → r ≡ slice_index_or rs t r → t < length rs → new ≡ slice_set rs t after
    → IsTrue (has_call (calls_left r)) → ((x : ImageThread) → StandsFor c t r x → IsTrue (has_call x.calls) → IsAsking c t after (image_next c x))
    → asked_at new t ≡ image_asks c t w
asks_next c t w rs new r after all is there set work asks =
    let at = standing c 0 t t rs w.threads r all (omega arith) there is in
    ap (λ ys. asked_at ys t) set ∙ asked_after rs t after there ∙ (asks at.0 at.2 (has_work_of c t r at.0 at.2 work)).request ∙ sym (ap (option_map (λ x. (image_next c x).request)) at.1)
