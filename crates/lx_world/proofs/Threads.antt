-- The runners of a world and the threads that they stand for, one by one.
use Rattle.std.proofs.Common.{◌≡◌, ℕ, zero, suc, ◌+◌, ◌<◌, Bool, true, false, not, Some, List, [], ◌∷◌, ◌++◌, map, length, IsTrue, refl, sym, ap, subst, ◌∙◌, arith}
use Rattle.std.specs.Prelude.{slice_get, slice_set, slice_index_or, ◌&&◌, ◌||◌}
use Rattle.std.specs.List.{list_all, list_any}
use Rattle.std.proofs.lemmas.List.{map-append}
use Rattle.std.proofs.lemmas.Bool.{not-false}
use Rattle.std.proofs.lemmas.Option.{same_Some}
use Rattle.lx_caps.proofs.Tests.{not_on, not_off}
use Rattle.lx_caps.specs.History.{History}
use Rattle.lx_model.specs.declared.request.Reply.{Reply}
use Rattle.lx_model.specs.State.{State}
use Rattle.lx_model.specs.Thread.{has_call, has_work}
use Rattle.lx_images.specs.Image.{Code, ImageThread, image_next, image_absorb}
use Rattle.lx_images.specs.ImageWorld.{ImageWorld, image_event, image_event_of, image_event_if, image_after_request, fresh_image_thread}
use Rattle.lx_images.specs.Shown.{shown, shown_thread}
use Rattle.lx_model.specs.Serve.{serve}
use Rattle.lx_model.specs.World.{works, can_act}
use Rattle.lx_interp.specs.declared.runner.Runner.{Runner}
use Rattle.lx_model.specs.declared.program.ScriptCall.{ScriptCall}
use Rattle.lx_interp.specs.Runner.{StandsFor as Runs, calls_left}
use Rattle.lx_world.specs.declared.world.World.{World}
use Rattle.lx_serve.specs.Stands.{StandsForState}
use Rattle.lx_world.specs.Worlds.{StandsFor, AllStand, StandsForWorld, HasTurned, HasStayed, is_idle, is_idle_at}
use Rattle.lx_world.proofs.Turns.{has_work_of}

-- the thread that a runner stands for
pub standing : (c : Code) (i k t : ℕ) (rs : List Runner) (xs : List ImageThread) (r : Runner) → AllStand c i rs xs → i + k ≡ t → k < length rs → r ≡ slice_index_or rs k r
    → (x : ImageThread) × (slice_get xs k ≡ Some x) × StandsFor c t r x
standing c i k t [] xs r all e there is = absurd (omega arith)
standing c i k t (y ∷ ys) [] r all e there is = absurd all
standing c i zero t (y ∷ ys) (x ∷ xs) r all e there is =
    let at : i ≡ t = omega arith in
    (x, refl, subst (λ (n : ℕ). StandsFor c n r x) at (subst (λ (z : Runner). StandsFor c i z x) (sym is) all.0))
standing c i (suc k) t (y ∷ ys) (x ∷ xs) r all e there is = standing c (suc i) k t ys xs r all.1 (omega arith) (omega arith) is

-- another runner and another thread in their places
pub replaced : (c : Code) (i k t : ℕ) (rs : List Runner) (xs : List ImageThread) (r : Runner) (x : ImageThread) → AllStand c i rs xs → i + k ≡ t → StandsFor c t r x
    → AllStand c i (slice_set rs k r) (slice_set xs k x)
replaced c i k t [] [] r x all e st = tt
replaced c i k t [] (y ∷ ys) r x all e st = absurd all
replaced c i k t (y ∷ ys) [] r x all e st = absurd all
replaced c i zero t (y ∷ ys) (z ∷ zs) r x all e st =
    let at : t ≡ i = omega arith in
    (subst (λ (n : ℕ). StandsFor c n r x) at st, all.1)
replaced c i (suc k) t (y ∷ ys) (z ∷ zs) r x all e st = (all.0, replaced c (suc i) k t ys zs r x all.1 (omega arith) st)

-- a thread in its own place
put_back : (xs : List ImageThread) (k : ℕ) (x : ImageThread) → slice_get xs k ≡ Some x → slice_set xs k x ≡ xs
put_back [] k x e = refl
put_back (y ∷ ys) zero x e = ap (λ z. z ∷ ys) (sym (same_Some y x e))
put_back (y ∷ ys) (suc k) x e = ap (λ zs. y ∷ zs) (put_back ys k x e)

-- a runner that is not idle has a call left
pub busy : (rs : List Runner) (k : ℕ) (r : Runner) → is_idle_at rs k ≡ false → r ≡ slice_index_or rs k r → IsTrue (has_call (calls_left r))
busy [] k r e is = absurd (cc)
busy (y ∷ ys) zero r e is = ap (λ (z : Runner). has_call (calls_left z)) is ∙ not-false (has_call (calls_left y)) e
busy (y ∷ ys) (suc k) r e is = busy ys k r e is

-- the runner is idle where the thread has no work
pub idle : (c : Code) (i k : ℕ) (rs : List Runner) (xs : List ImageThread) → AllStand c i rs xs → is_idle_at rs k ≡ not (works (slice_get (map shown_thread xs) k))
idle c i k [] [] all = refl
idle c i k [] (x ∷ xs) all = absurd all
idle c i k (y ∷ ys) [] all = absurd all
idle c i zero (y ∷ ys) (x ∷ xs) all = ap (λ cs. not (has_call cs)) all.0.runs.calls
idle c i (suc k) (y ∷ ys) (x ∷ xs) all = idle c (suc i) k ys xs all.1

-- an event of a thread that has work
pub event_of_worker : (c : Code) (t : ℕ) (w : ImageWorld) (x : ImageThread) → slice_get w.threads t ≡ Some x → IsTrue (has_call x.calls) → image_event c t w ≡ image_after_request c t w (image_next c x)
event_of_worker c t w x e work = ap (λ o. image_event_of o c t w) e ∙ ap (λ b. image_event_if b c t w x) work

turned_at : {C : Type 0} (stands : C → History → Type 0) (old new : World C) (w : ImageWorld) (t : ℕ) (r after : Runner) (answer : Reply)
    → new.code ≡ old.code → new.runners.list.items ≡ slice_set old.runners.list.items t after → r ≡ slice_index_or old.runners.list.items t r
    → t < length old.runners.list.items → IsTrue (has_call (calls_left r))
    → ((s : State) (x : ImageThread) → StandsForState stands old.code.program old.shared s → StandsFor old.code t r x → HasTurned stands old.code t new.shared after answer s x)
    → StandsForState stands old.code.program old.shared w.state → AllStand old.code 0 old.runners.list.items w.threads
    → StandsForWorld stands old.code new (image_event old.code t w)
turned_at stands old new w t r after answer code runners is there work turns shared threads =
    let at = standing old.code 0 t t old.runners.list.items w.threads r threads (omega arith) there is in
    let x = at.0 in
    let turned = turns w.state x shared at.2 in
    subst (λ (m : ImageWorld). StandsForWorld stands old.code new m) (sym (event_of_worker old.code t w x at.1 (has_work_of old.code t r x at.2 work)))
    (record {
      code = code;
      shared = turned.shared;
      threads = subst (λ (rs : List Runner). AllStand old.code 0 rs (slice_set w.threads t (image_absorb old.code t (image_next old.code x).thread (image_next old.code x).request (serve old.code.program w.state t (image_next old.code x).request).reply))) (sym runners)
          (replaced old.code 0 t t old.runners.list.items w.threads after _ threads (omega arith) turned.runner);
    })

stayed_at : {C : Type 0} (stands : C → History → Type 0) (old new : World C) (w : ImageWorld) (t : ℕ) (r after : Runner)
    → new.code ≡ old.code → new.runners.list.items ≡ slice_set old.runners.list.items t after → r ≡ slice_index_or old.runners.list.items t r
    → t < length old.runners.list.items
    → ((s : State) (x : ImageThread) → StandsForState stands old.code.program old.shared s → StandsFor old.code t r x → HasStayed stands old.code t new.shared after s x)
    → StandsForState stands old.code.program old.shared w.state → AllStand old.code 0 old.runners.list.items w.threads
    → StandsForWorld stands old.code new w
stayed_at stands old new w t r after code runners is there stays shared threads =
    let at = standing old.code 0 t t old.runners.list.items w.threads r threads (omega arith) there is in
    let x = at.0 in
    let stayed = stays w.state x shared at.2 in
    record {
      code = code;
      shared = stayed.shared;
      threads =
          subst (λ (rs : List Runner). AllStand old.code 0 rs w.threads) (sym runners)
          (subst (AllStand old.code 0 (slice_set old.runners.list.items t after)) (put_back w.threads t x at.1)
          (replaced old.code 0 t t old.runners.list.items w.threads after x threads (omega arith) stayed.runner));
    }

-- an event of the world
pub event_stands : {C : Type 0} (stands : C → History → Type 0) (old new : World C) (c : Code) (w : ImageWorld) (t : ℕ) (r after : Runner) (answer : Reply)
    → new.code ≡ old.code → new.runners.list.items ≡ slice_set old.runners.list.items t after → r ≡ slice_index_or old.runners.list.items t r
    → t < length old.runners.list.items → IsTrue (has_call (calls_left r))
    → ((s : State) (x : ImageThread) → StandsForState stands old.code.program old.shared s → StandsFor old.code t r x → HasTurned stands old.code t new.shared after answer s x)
    → StandsForWorld stands c old w → StandsForWorld stands c new (image_event c t w)
event_stands stands old new c w t r after answer code runners is there work turns st =
    subst (λ (q : Code). StandsForWorld stands q new (image_event q t w)) st.code
    (turned_at stands old new w t r after answer code runners is there work turns
    (subst (λ (q : Code). StandsForState stands q.program old.shared w.state) (sym st.code) st.shared)
    (subst (λ (q : Code). AllStand q 0 old.runners.list.items w.threads) (sym st.code) st.threads))

-- an event that did not come
pub fault_stands : {C : Type 0} (stands : C → History → Type 0) (old new : World C) (c : Code) (w : ImageWorld) (t : ℕ) (r after : Runner)
    → new.code ≡ old.code → new.runners.list.items ≡ slice_set old.runners.list.items t after → r ≡ slice_index_or old.runners.list.items t r
    → t < length old.runners.list.items
    → ((s : State) (x : ImageThread) → StandsForState stands old.code.program old.shared s → StandsFor old.code t r x → HasStayed stands old.code t new.shared after s x)
    → StandsForWorld stands c old w → StandsForWorld stands c new w
fault_stands stands old new c w t r after code runners is there stays st =
    subst (λ (q : Code). StandsForWorld stands q new w) st.code
    (stayed_at stands old new w t r after code runners is there stays
    (subst (λ (q : Code). StandsForState stands q.program old.shared w.state) (sym st.code) st.shared)
    (subst (λ (q : Code). AllStand q 0 old.runners.list.items w.threads) (sym st.code) st.threads))

-- the runner is idle exactly where the thread cannot act
idle_is : {C : Type 0} (stands : C → History → Type 0) (old : World C) (c : Code) (w : ImageWorld) (t : ℕ)
    → StandsForWorld stands c old w → is_idle_at old.runners.list.items t ≡ not (can_act (shown w) t)
idle_is stands old c w t st = idle c 0 t old.runners.list.items w.threads st.threads

-- the thread of an idle runner cannot act
pub cannot_act : {C : Type 0} (stands : C → History → Type 0) (old : World C) (c : Code) (w : ImageWorld) (t : ℕ) (b : Bool)
    → b ≡ is_idle_at old.runners.list.items t → b ≡ true → StandsForWorld stands c old w → can_act (shown w) t ≡ false
cannot_act stands old c w t b idle on st = not_on b _ (idle ∙ idle_is stands old c w t st) on

-- and that of another one can
pub acts : {C : Type 0} (stands : C → History → Type 0) (old : World C) (c : Code) (w : ImageWorld) (t : ℕ) (b : Bool)
    → b ≡ is_idle_at old.runners.list.items t → b ≡ false → StandsForWorld stands c old w → can_act (shown w) t ≡ false → ⊥
acts stands old c w t b idle off st stopped = not_off b _ (idle ∙ idle_is stands old c w t st) off stopped

idle_more : (x y : Bool) (z : Bool) → z ≡ not y → (not x && z) ≡ not (x || y)
idle_more true y z e = refl
idle_more false y z e = e

-- all runners are idle where no thread has work
pub all_idle : (c : Code) (i : ℕ) (rs : List Runner) (xs : List ImageThread) → AllStand c i rs xs → list_all is_idle rs ≡ not (list_any has_work (map shown_thread xs))
all_idle c i [] [] all = refl
all_idle c i [] (x ∷ xs) all = absurd all
all_idle c i (y ∷ ys) [] all = absurd all
all_idle c i (y ∷ ys) (x ∷ xs) all =
    ap (λ cs. not (has_call cs) && list_all is_idle ys) all.0.runs.calls
    ∙ idle_more (has_call x.calls) (list_any has_work (map shown_thread xs)) (list_all is_idle ys) (all_idle c (suc i) ys xs all.1)

-- a further runner and its thread
pub stand_push : (c : Code) (i : ℕ) (rs : List Runner) (xs : List ImageThread) (r : Runner) (x : ImageThread) → AllStand c i rs xs → StandsFor c (i + length rs) r x
    → AllStand c i (rs ++ r ∷ []) (xs ++ x ∷ [])
stand_push c i [] [] r x all st =
    let at : i + 0 ≡ i = omega arith in
    (subst (λ (n : ℕ). StandsFor c n r x) at st, tt)
stand_push c i [] (y ∷ ys) r x all st = absurd all
stand_push c i (y ∷ ys) [] r x all st = absurd all
stand_push c i (y ∷ ys) (z ∷ zs) r x all st =
    let at : i + suc (length ys) ≡ suc i + length ys = omega arith in
    (all.0, stand_push c (suc i) ys zs r x all.1 (subst (λ (n : ℕ). StandsFor c n r x) at st))

-- a further runner, opened for its calls
pub open_more : (c : Code) (rs new : List Runner) (ys : List (List ScriptCall)) (r : Runner) (calls : List ScriptCall) (t : ℕ) → t ≡ length rs → new ≡ rs ++ r ∷ []
    → AllStand c 0 rs (map fresh_image_thread ys) → Runs c t r (fresh_image_thread calls) → AllStand c 0 new (map fresh_image_thread (ys ++ calls ∷ []))
open_more c rs new ys r calls t number is stand fresh =
    let at : t ≡ 0 + length rs = omega arith in
    subst (λ (zs : List Runner). AllStand c 0 zs (map fresh_image_thread (ys ++ calls ∷ []))) (sym is)
    (subst (AllStand c 0 (rs ++ r ∷ [])) (sym (map-append fresh_image_thread ys (calls ∷ [])))
    (stand_push c 0 rs (map fresh_image_thread ys) r (fresh_image_thread calls) stand (subst (λ (n : ℕ). StandsFor c n r (fresh_image_thread calls)) at (record { runs = fresh; stack = tt }))))

-- what holds of each state and each thread that the part and a runner stand for
pub at_thread : {C : Type 0} (stands : C → History → Type 0) (old : World C) (c : Code) (w : ImageWorld) (t : ℕ) (r : Runner) (Holds : Type 0) → r ≡ slice_index_or old.runners.list.items t r
    → t < length old.runners.list.items → ((s : State) (x : ImageThread) → StandsForState stands old.code.program old.shared s → StandsFor old.code t r x → Holds)
    → StandsForWorld stands c old w → Holds
at_thread stands old c w t r Holds is there holds st =
    let threads = subst (λ (q : Code). AllStand q 0 old.runners.list.items w.threads) (sym st.code) st.threads in
    let at = standing old.code 0 t t old.runners.list.items w.threads r threads (omega arith) there is in
    holds w.state at.0 (subst (λ (q : Code). StandsForState stands q.program old.shared w.state) (sym st.code) st.shared) at.2
