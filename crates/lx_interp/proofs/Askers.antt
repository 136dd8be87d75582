-- Where the next request of a thread is asked.
use Rattle.std.proofs.Common.{◌≡◌, ℕ, zero, suc, ◌+◌, ◌-◌, ◌*◌, ◌<◌, ◌≤◌, true, false, IsTrue, Option, Some, None, length, refl, sym, ap, ◌∙◌, subst, arith}
use Rattle.std.specs.Prelude.{is_some, option_map}
use Rattle.lx_model.specs.declared.request.Request.{Request}
use Rattle.lx_model.specs.Thread.{has_call}
use Rattle.lx_images.specs.Asker.{acting, code_place, image_asker, image_asker_within, image_asks_at}
use Rattle.lx_images.specs.Image.{Code, ImageStep, ImageThread, Goes, Asks, Marks, image_step}
use Rattle.lx_interp.specs.declared.runner.Runner.{Runner}
use Rattle.lx_interp.specs.declared.standing.Standing.{Standing}
use Rattle.lx_interp.specs.Places.{AsksFrom, stand_in}
use Rattle.lx_interp.specs.Runner.{HasTaken, IsAt, calls_left, marked_step, taken, thread_of}
use Rattle.lx_interp.proofs.Falling.{Falls, step_falls, steps_left}

-- who asks, where this is the next step of a thread
abbrev pub asker_behind : ℕ → Code → ImageThread → ImageStep → ImageThread
asker_behind n c v (Goes w) = image_asker_within n c w
asker_behind n c v (Asks w q) = v

behind_step : (n : ℕ) (c : Code) (v : ImageThread) (s : ImageStep) → asker_behind n c v s ≡ elim s [ Goes w ↦ image_asker_within n c w | Asks w q ↦ v ]
behind_step n c v (Goes w) = refl
behind_step n c v (Asks w q) = refl

stable_step : (c : Code) (v : ImageThread) (m k : ℕ) (s : ImageStep) → Falls k s → k ≤ m →
    ((w : ImageThread) → steps_left w < m → image_asker_within (suc m) c w ≡ image_asker_within m c w) → asker_behind (suc m) c v s ≡ asker_behind m c v s
stable_step c v m k (Goes w) h le ih = ih w (omega (arith, h, le))
stable_step c v m k (Asks w r) h le ih = refl

-- with a further step the same one asks
asker_stays : (n : ℕ) (c : Code) (v : ImageThread) → steps_left v < n → image_asker_within (suc n) c v ≡ image_asker_within n c v
asker_stays zero c v h = absurd (omega (arith, h))
asker_stays (suc m) c v h =
    sym (behind_step (suc m) c v (image_step c v))
    ∙ stable_step c v m (steps_left v) (image_step c v) (step_falls c None v) (omega (arith, h)) (λ w lt. asker_stays m c w lt)
    ∙ behind_step m c v (image_step c v)

further : (c : Code) (v : ImageThread) (k n : ℕ) → steps_left v < n → image_asker_within (k + n) c v ≡ image_asker_within n c v
further c v zero n h =
    let e : 0 + n ≡ n = omega arith in
    ap (λ m. image_asker_within m c v) e
further c v (suc k) n h =
    let e : suc k + n ≡ suc (k + n) = omega arith in
    ap (λ m. image_asker_within m c v) e ∙ asker_stays (k + n) c v (omega (arith, h)) ∙ further c v k n h

enough : (c : Code) (v : ImageThread) (n : ℕ) → steps_left v < n → image_asker_within n c v ≡ image_asker c v
enough c v n h =
    let k : ℕ = n - (steps_left v + 1) in
    let e : n ≡ k + (steps_left v + 1) = omega (arith, h) in
    ap (λ m. image_asker_within m c v) e ∙ further c v k (steps_left v + 1) (omega arith)

by_step : (c : Code) (v : ImageThread) → asker_behind (steps_left v) c v (image_step c v) ≡ image_asker c v
by_step c v =
    let e : suc (steps_left v) ≡ 2 * v.fuel + length v.frames + 1 = omega arith in
    behind_step (steps_left v) c v (image_step c v) ∙ ap (λ n. image_asker_within n c v) e

-- a step on, the same one asks
goes_same : (c : Code) (v w : ImageThread) → image_step c v ≡ Goes w → image_asker c w ≡ image_asker c v
goes_same c v w e =
    sym (enough c w (steps_left v) (subst (Falls (steps_left v)) e (step_falls c None v)))
    ∙ ap (asker_behind (steps_left v) c v) (sym e)
    ∙ by_step c v

-- the one at whose step something is asked
asks_here : (c : Code) (v w : ImageThread) (q : Request) → image_step c v ≡ Asks w q → v ≡ image_asker c v
asks_here c v w q e = ap (asker_behind (steps_left v) c v) (sym e) ∙ by_step c v

stepped : (c : Code) (first : ImageThread) (r new : Runner) (q : Option Request) (at : Option Standing) → image_asker c (thread_of c r) ≡ image_asker c first → image_step c (thread_of c r) ≡ taken (thread_of c new) q → new.marks ≡ None →
    option_map (stand_in c) at ≡ option_map code_place (acting (thread_of c r).frames) → AsksFrom c first new q at
stepped c first r new None at same e marks place = (marks, goes_same c (thread_of c r) (thread_of c new) e ∙ same)
stepped c first r new (Some q) at same e marks place =
    place ∙ ap (λ (x : ImageThread). option_map code_place (acting x.frames)) (asks_here c (thread_of c r) (thread_of c new) q e ∙ same)

-- a step taken: the thread still is to ask where it was to ask, or it has asked where it stood
pub asks_on : (c : Code) (first : ImageThread) (r new : Runner) (before at : Option Standing) → r.request ≡ None → AsksFrom c first r r.request before →
    option_map (stand_in c) at ≡ option_map code_place (acting (thread_of c r).frames) → HasTaken c r new (marked_step c r.marks (thread_of c r)) → AsksFrom c first new new.request at
asks_on c first r new before at idle from place h =
    let under = subst (λ (q : Option Request). AsksFrom c first r q before) idle from in
    stepped c first r new new.request at under.1 (ap (λ (m : Option Marks). marked_step c m (thread_of c r)) (sym under.0) ∙ h.is) h.marks place

-- at first nothing is asked
pub asks_first : (c : Code) (r : Runner) (at : Option Standing) → r.request ≡ None → r.marks ≡ None → AsksFrom c (thread_of c r) r r.request at
asks_first c r at idle marks = subst (λ (q : Option Request). AsksFrom c (thread_of c r) r q at) (sym idle) (marks, refl)

-- and at last it was asked here
pub asked_from : (c : Code) (v : ImageThread) (r : Runner) (q : Option Request) (at : Option Standing) → is_some q ≡ true → AsksFrom c v r q at → option_map (stand_in c) at ≡ image_asks_at c v
asked_from c v r None at e h = absurd (cc)
asked_from c v r (Some q) at e h = h

-- a runner that is exactly at a thread with work has asked nothing, and has work
pub asked_not : (c : Code) (t : ℕ) (r : Runner) (v : ImageThread) → IsAt c t r v → is_some r.request ≡ true → ⊥
asked_not c t r v h e =
    let x : false ≡ true = sym (ap is_some h.idle) ∙ e in
    cc

pub works_not : (c : Code) (t : ℕ) (r : Runner) (v : ImageThread) → IsAt c t r v → IsTrue (has_call v.calls) → has_call (calls_left r) ≡ false → ⊥
works_not c t r v h work e =
    let x : true ≡ false = sym work ∙ ap (λ (y : ImageThread). has_call y.calls) (sym h.state) ∙ e in
    cc
