-- Steps up to the next request.
use Rattle.std.proofs.Common.{◌≡◌, ℕ, zero, suc, ◌+◌, ◌-◌, ◌*◌, ◌<◌, true, false, Option, Some, None, length, refl, sym, ap, ◌∙◌, subst, arith}
use Rattle.std.specs.Prelude.{is_some}
use Rattle.lx_model.specs.declared.request.Request.{Request}
use Rattle.lx_model.specs.Thread.{has_call}
use Rattle.lx_images.specs.Image.{Code, ImageStep, ImageThread, Goes, Asks, Marks, image_next, image_next_within, image_step}
use Rattle.lx_interp.specs.declared.runner.Runner.{Runner}
use Rattle.lx_frames.specs.Stack.{IsReadyIf}
use Rattle.lx_interp.specs.Runner.{GoesOn, HasCallIf, HasStayed, HasTaken, StandsFor, StepsAlike, asking_behind, asking_or, calls_left, marked_step, steps_before, taken, thread_of}
use Rattle.lx_interp.proofs.Falling.{Falls, next_stays, step_falls, steps_left}
use Rattle.lx_interp.proofs.Takings.{retaken}

-- more steps than are left change nothing
further : (c : Code) (v : ImageThread) (k n : ℕ) → steps_left v < n → image_next_within (k + n) c v ≡ image_next_within n c v
further c v zero n h =
    let e : 0 + n ≡ n = omega arith in
    ap (λ m. image_next_within m c v) e
further c v (suc k) n h =
    let e : suc k + n ≡ suc (k + n) = omega arith in
    ap (λ m. image_next_within m c v) e ∙ next_stays (k + n) c v (omega (arith, h)) ∙ further c v k n h

enough : (c : Code) (v : ImageThread) (n : ℕ) → steps_left v < n → image_next_within n c v ≡ image_next c v
enough c v n h =
    let k : ℕ = n - (steps_left v + 1) in
    let e : n ≡ k + (steps_left v + 1) = omega (arith, h) in
    ap (λ m. image_next_within m c v) e ∙ further c v k (steps_left v + 1) (omega arith)

behind_step : (c : Code) (v : ImageThread) (s : ImageStep) →
    asking_behind c v s ≡ elim s [ Goes w ↦ image_next_within (steps_left v) c w | Asks w q ↦ record { thread = w; request = q } ]
behind_step c v (Goes w) = refl
behind_step c v (Asks w q) = refl

-- without marks the thread asks what it asks next
pub next_is : (c : Code) (v : ImageThread) → asking_behind c v (image_step c v) ≡ image_next c v
next_is c v =
    let e : suc (steps_left v) ≡ 2 * v.fuel + length v.frames + 1 = omega arith in
    behind_step c v (image_step c v) ∙ ap (λ n. image_next_within n c v) e

-- a step taken goes on to the same request
stepped : (c : Code) (m : Option Marks) (v w : ImageThread) (q : Option Request) → marked_step c m v ≡ taken w q → asking_or c None w q ≡ asking_or c m v None
stepped c m v w None e =
    next_is c w
    ∙ sym (enough c w (steps_left v) (subst (Falls (steps_left v)) e (step_falls c m v)))
    ∙ ap (asking_behind c v) (sym e)
stepped c m v w (Some q) e = ap (asking_behind c v) (sym e)

pub taken_on : (c : Code) (old new : Runner) → old.request ≡ None → HasTaken c old new (marked_step c old.marks (thread_of c old)) → GoesOn c old new
taken_on c old new idle h =
    record {
      number = h.number;
      calls = h.calls;
      ended = h.ended;
      asks =
          ap (λ (m : Option Marks). asking_or c m (thread_of c new) new.request) h.marks
          ∙ stepped c old.marks (thread_of c old) (thread_of c new) new.request h.is
          ∙ ap (asking_or c old.marks (thread_of c old)) (sym idle);
      ready = h.ready;
    }

pub goes_further : (c : Code) (first old new : Runner) → GoesOn c first old → GoesOn c old new → GoesOn c first new
goes_further c first old new a b =
    record {
      number = b.number ∙ a.number;
      calls = b.calls ∙ a.calls;
      ended = b.ended ∙ a.ended;
      asks = b.asks ∙ a.asks;
      ready = b.ready;
    }

-- a step behind the marks is the step before them
pub behind_marks : (c : Code) (old same mid new : Runner) → same ≡ old → GoesOn c same mid → StepsAlike c same mid → HasTaken c mid new (marked_step c mid.marks (thread_of c mid)) →
    HasTaken c old new (marked_step c old.marks (thread_of c old))
behind_marks c old same mid new e on alike h =
    subst (λ (r : Runner). HasTaken c r new (marked_step c r.marks (thread_of c r))) e (retaken c same mid new _ _ on.number on.calls on.ended (sym alike.step) h)

stayed : (c : Code) (mid new : Runner) → mid.request ≡ None → HasStayed c mid new → GoesOn c mid new
stayed c mid new idle h =
    record {
      number = h.number;
      calls = h.calls;
      ended = h.ended;
      asks =
          ap (asking_or c new.marks (thread_of c new)) h.idle
          ∙ ap (λ (m : Option Marks). asking_or c m (thread_of c new) None) h.marks
          ∙ ap (λ (v : ImageThread). asking_or c mid.marks v None) h.state
          ∙ ap (asking_or c mid.marks (thread_of c mid)) (sym idle);
      ready = subst (IsReadyIf c new.stack) (sym h.idle) tt;
    }

-- and where the step wants memory, the runner goes on behind the marks
pub stays_behind : (c : Code) (old same mid new : Runner) → same ≡ old → GoesOn c same mid → mid.request ≡ None → HasStayed c mid new → GoesOn c old new
stays_behind c old same mid new e on idle h =
    subst (λ (r : Runner). GoesOn c r new) e (goes_further c same mid new on (stayed c mid new idle h))

-- fewer steps are left
falls_if : (c : Code) (v : ImageThread) (m : Option Marks) (new : Runner) (q : Option Request) → marked_step c m v ≡ taken (thread_of c new) q → steps_before c new q < suc (steps_left v)
falls_if c v m new None e = omega (arith, subst (Falls (steps_left v)) e (step_falls c m v))
falls_if c v m new (Some q) e = omega arith

pub fewer_steps : (c : Code) (old new : Runner) → HasTaken c old new (marked_step c old.marks (thread_of c old)) → steps_before c new new.request < steps_before c old None
fewer_steps c old new h = falls_if c (thread_of c old) old.marks new new.request h.is

-- the runner behind its steps

nothing_if : (r : Runner) (q : Option Request) → HasCallIf r q → has_call (calls_left r) ≡ false → q ≡ None
nothing_if r None h e = refl
nothing_if r (Some q) h e =
    let x : true ≡ false = sym h ∙ e in
    absurd (cc)

pub asks_nothing : (c : Code) (t : ℕ) (r : Runner) (v : ImageThread) → StandsFor c t r v → has_call v.calls ≡ false → r.request ≡ None
asks_nothing c t r v h e = nothing_if r r.request h.works (ap has_call h.calls ∙ e)

pub none_is : (q : Option Request) → is_some q ≡ false → q ≡ None
none_is None e = refl
none_is (Some q) e = absurd (cc)
