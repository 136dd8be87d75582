-- Runners that are exactly at their threads.
use Rattle.std.proofs.Common.{◌≡◌, ℕ, zero, suc, ◌<◌, Bool, true, false, Option, Some, List, [], ◌∷◌, ◌++◌, map, length, IsTrue, inl, inr, refl, sym, ap, subst, ◌∙◌, arith}
use Rattle.std.specs.Prelude.{nat_eq, option_map, slice_get, slice_set, slice_index_or, ◌⊎◌}
use Rattle.std.proofs.lemmas.List.{map-append}
use Rattle.std.proofs.lemmas.Option.{same_Some, slice_get_read, slice_get_within}
use Rattle.lx_words.proofs.Tests.{true_eq, apart}
use Rattle.lx_caps.specs.History.{History}
use Rattle.lx_model.specs.declared.program.ScriptCall.{ScriptCall}
use Rattle.lx_model.specs.declared.request.Reply.{Reply}
use Rattle.lx_model.specs.Serve.{serve}
use Rattle.lx_model.specs.State.{State}
use Rattle.lx_model.specs.Thread.{has_call}
use Rattle.lx_images.specs.Asker.{image_asks_at}
use Rattle.lx_images.specs.Image.{Code, ImageThread, image_next, image_absorb}
use Rattle.lx_images.specs.ImageWorld.{ImageWorld, fresh_image_thread, image_event}
use Rattle.lx_interp.specs.declared.runner.Runner.{Runner}
use Rattle.lx_interp.specs.declared.standing.Standing.{Standing}
use Rattle.lx_interp.specs.Places.{stand_in}
use Rattle.lx_interp.specs.Runner.{IsAt, calls_left}
use Rattle.lx_serve.specs.Stands.{StandsForState}
use Rattle.lx_world.specs.declared.world.World.{World}
use Rattle.lx_world.specs.Exact.{AreAt, AreAtBut, IsExact, IsExactBut}
use Rattle.lx_world.specs.Worlds.{AllStand, HasTurned, StandsFor, StandsForWorld}
use Rattle.lx_world.proofs.Threads.{event_of_worker, standing}
use Rattle.lx_world.proofs.Turns.{has_work_of}

-- what stands at a place of a list that was set at one, or has one more
set_at : {A : Type 0} (xs : List A) (k : ℕ) (y z : A) → slice_get (slice_set xs k y) k ≡ Some z → y ≡ z
set_at [] k y z e = absurd (cc)
set_at (x ∷ xs) zero y z e = same_Some y z e
set_at (x ∷ xs) (suc k) y z e = set_at xs k y z e

set_other : {A : Type 0} (xs : List A) (t k : ℕ) (y : A) → (k ≡ t → ⊥) → slice_get (slice_set xs t y) k ≡ slice_get xs k
set_other [] t k y other = refl
set_other (x ∷ xs) zero zero y other = absurd (other refl)
set_other (x ∷ xs) zero (suc k) y other = refl
set_other (x ∷ xs) (suc t) zero y other = refl
set_other (x ∷ xs) (suc t) (suc k) y other = set_other xs t k y (λ e. other (ap suc e))

get_push : {A : Type 0} (xs : List A) (k : ℕ) (y z : A) → slice_get (xs ++ y ∷ []) k ≡ Some z → (slice_get xs k ≡ Some z) ⊎ ((k ≡ length xs) × (y ≡ z))
get_push [] zero y z e = inr (refl, same_Some y z e)
get_push [] (suc k) y z e = absurd (cc)
get_push (x ∷ xs) zero y z e = inl e
get_push (x ∷ xs) (suc k) y z e = elim (get_push xs k y z e) [ inl a ↦ inl a | inr b ↦ inr (ap suc b.0, b.1) ]

-- where all are exact, all but one are
pub but_for : {C : Type 0} (t : ℕ) (c : Code) (w : World C) (v : ImageWorld) → IsExact c w v → IsExactBut t c w v
but_for t c w v h = record { code = h.code; threads = record { others = λ k r x other e f. h.threads.each k r x e f } }

-- a further runner, opened for its calls

pushed_at : (c : Code) (rs : List Runner) (xs : List ImageThread) (r : Runner) (x : ImageThread) → AreAt c rs xs → length rs ≡ length xs → IsAt c (length rs) r x
    → (k : ℕ) (q : Runner) (y : ImageThread) → (slice_get rs k ≡ Some q) ⊎ ((k ≡ length rs) × (r ≡ q)) → (slice_get xs k ≡ Some y) ⊎ ((k ≡ length xs) × (x ≡ y)) → IsAt c k q y
pushed_at c rs xs r x h same st k q y (inl a) (inl b) = h.each k q y a b
pushed_at c rs xs r x h same st k q y (inl a) (inr b) = absurd (omega (arith, slice_get_within rs k q a, same, b.0))
pushed_at c rs xs r x h same st k q y (inr a) (inl b) = absurd (omega (arith, slice_get_within xs k y b, same, a.0))
pushed_at c rs xs r x h same st k q y (inr a) (inr b) =
    subst (λ (n : ℕ). IsAt c n q y) (sym a.0) (subst (λ (p : Runner). IsAt c (length rs) p y) a.1 (subst (λ (z : ImageThread). IsAt c (length rs) r z) b.1 st))

as_many : (c : Code) (i : ℕ) (rs : List Runner) (xs : List ImageThread) → AllStand c i rs xs → length rs ≡ length xs
as_many c i [] [] all = refl
as_many c i [] (x ∷ xs) all = absurd all
as_many c i (y ∷ ys) [] all = absurd all
as_many c i (y ∷ ys) (x ∷ xs) all = ap suc (as_many c (suc i) ys xs all.1)

pub exact_more : (c : Code) (rs new : List Runner) (ys : List (List ScriptCall)) (r : Runner) (calls : List ScriptCall) (t : ℕ) → t ≡ length rs → new ≡ rs ++ r ∷ []
    → AllStand c 0 rs (map fresh_image_thread ys) → AreAt c rs (map fresh_image_thread ys) → IsAt c t r (fresh_image_thread calls) → AreAt c new (map fresh_image_thread (ys ++ calls ∷ []))
exact_more c rs new ys r calls t number is stand exact fresh =
    let xs = map fresh_image_thread ys in
    let st = subst (λ (n : ℕ). IsAt c n r (fresh_image_thread calls)) number fresh in
    subst (λ (zs : List Runner). AreAt c zs (map fresh_image_thread (ys ++ calls ∷ []))) (sym is)
    (subst (AreAt c (rs ++ r ∷ [])) (sym (map-append fresh_image_thread ys (calls ∷ [])))
    (record { each = λ k q y e f. pushed_at c rs xs r (fresh_image_thread calls) exact (as_many c 0 rs xs stand) st k q y (get_push rs k r q e) (get_push xs k (fresh_image_thread calls) y f) }))

-- behind an event

replaced_at : (c : Code) (t : ℕ) (rs : List Runner) (xs : List ImageThread) (after : Runner) (z : ImageThread) → AreAtBut t c rs xs → IsAt c t after z
    → (k : ℕ) (r : Runner) (x : ImageThread) (b : Bool) → nat_eq k t ≡ b → slice_get (slice_set rs t after) k ≡ Some r → slice_get (slice_set xs t z) k ≡ Some x → IsAt c k r x
replaced_at c t rs xs after z h st k r x false is e f =
    h.others k r x is (sym (set_other rs t k after (apart k t is)) ∙ e) (sym (set_other xs t k z (apart k t is)) ∙ f)
replaced_at c t rs xs after z h st k r x true is e f =
    let same = true_eq k t is in
    let a = set_at rs t after r (ap (slice_get (slice_set rs t after)) (sym same) ∙ e) in
    let b = set_at xs t z x (ap (slice_get (slice_set xs t z)) (sym same) ∙ f) in
    subst (λ (n : ℕ). IsAt c n r x) (sym same) (subst (λ (p : Runner). IsAt c t p x) a (subst (λ (y : ImageThread). IsAt c t after y) b st))

turned_exactly : {C : Type 0} (stands : C → History → Type 0) (old new : World C) (w : ImageWorld) (t : ℕ) (r after : Runner) (answer : Reply)
    → new.code ≡ old.code → new.runners.list.items ≡ slice_set old.runners.list.items t after → r ≡ slice_index_or old.runners.list.items t r
    → t < length old.runners.list.items → IsTrue (has_call (calls_left r))
    → ((s : State) (x : ImageThread) → StandsForState stands old.code.program old.shared s → StandsFor old.code t r x → HasTurned stands old.code t new.shared after answer s x)
    → StandsForState stands old.code.program old.shared w.state → AllStand old.code 0 old.runners.list.items w.threads → AreAtBut t old.code old.runners.list.items w.threads
    → IsExact old.code new (image_event old.code t w)
turned_exactly stands old new w t r after answer code runners is there work turns shared threads exact =
    let at = standing old.code 0 t t old.runners.list.items w.threads r threads (omega arith) there is in
    let x = at.0 in
    let z = image_absorb old.code t (image_next old.code x).thread (image_next old.code x).request (serve old.code.program w.state t (image_next old.code x).request).reply in
    let turned = turns w.state x shared at.2 in
    subst (λ (m : ImageWorld). IsExact old.code new m) (sym (event_of_worker old.code t w x at.1 (has_work_of old.code t r x at.2 work)))
    (record {
      code = code;
      threads = subst (λ (rs : List Runner). AreAt old.code rs (slice_set w.threads t z)) (sym runners)
          (record { each = λ k q y e f. replaced_at old.code t old.runners.list.items w.threads after z exact turned.exact k q y (nat_eq k t) refl e f });
    })

pub event_exact : {C : Type 0} (stands : C → History → Type 0) (old new : World C) (c : Code) (w : ImageWorld) (t : ℕ) (r after : Runner) (answer : Reply)
    → new.code ≡ old.code → new.runners.list.items ≡ slice_set old.runners.list.items t after → r ≡ slice_index_or old.runners.list.items t r
    → t < length old.runners.list.items → IsTrue (has_call (calls_left r))
    → ((s : State) (x : ImageThread) → StandsForState stands old.code.program old.shared s → StandsFor old.code t r x → HasTurned stands old.code t new.shared after answer s x)
    → StandsForWorld stands c old w → IsExactBut t c old w → IsExact c new (image_event c t w)
event_exact stands old new c w t r after answer code runners is there work turns st exact =
    subst (λ (q : Code). IsExact q new (image_event q t w)) st.code
    (turned_exactly stands old new w t r after answer code runners is there work turns
    (subst (λ (q : Code). StandsForState stands q.program old.shared w.state) (sym st.code) st.shared)
    (subst (λ (q : Code). AllStand q 0 old.runners.list.items w.threads) (sym st.code) st.threads)
    (subst (λ (q : Code). AreAtBut t q old.runners.list.items w.threads) (sym st.code) exact.threads))

-- the reply that the thread took in

reply_at : {C : Type 0} (stands : C → History → Type 0) (old : World C) (w : ImageWorld) (t : ℕ) (r : Runner) (answer : Reply) (x : ImageThread)
    → r ≡ slice_index_or old.runners.list.items t r → t < length old.runners.list.items
    → ((s : State) (y : ImageThread) → StandsForState stands old.code.program old.shared s → StandsFor old.code t r y → answer ≡ (serve old.code.program s t (image_next old.code y).request).reply)
    → StandsForState stands old.code.program old.shared w.state → AllStand old.code 0 old.runners.list.items w.threads → slice_get w.threads t ≡ Some x
    → answer ≡ (serve old.code.program w.state t (image_next old.code x).request).reply
reply_at stands old w t r answer x is there replies shared threads found =
    let at = standing old.code 0 t t old.runners.list.items w.threads r threads (omega arith) there is in
    subst (λ (y : ImageThread). answer ≡ (serve old.code.program w.state t (image_next old.code y).request).reply) (same_Some at.0 x (sym at.1 ∙ found)) (replies w.state at.0 shared at.2)

pub reply_told : {C : Type 0} (stands : C → History → Type 0) (old : World C) (c : Code) (w : ImageWorld) (t : ℕ) (r : Runner) (answer : Reply) (x : ImageThread)
    → r ≡ slice_index_or old.runners.list.items t r → t < length old.runners.list.items
    → ((s : State) (y : ImageThread) → StandsForState stands old.code.program old.shared s → StandsFor old.code t r y → answer ≡ (serve old.code.program s t (image_next old.code y).request).reply)
    → StandsForWorld stands c old w → slice_get w.threads t ≡ Some x → answer ≡ (serve c.program w.state t (image_next c x).request).reply
reply_told stands old c w t r answer x is there replies st found =
    subst (λ (q : Code). answer ≡ (serve q.program w.state t (image_next q x).request).reply) st.code
    (reply_at stands old w t r answer x is there replies
    (subst (λ (q : Code). StandsForState stands q.program old.shared w.state) (sym st.code) st.shared)
    (subst (λ (q : Code). AllStand q 0 old.runners.list.items w.threads) (sym st.code) st.threads) found)

-- register steps of a thread

pub exact_others : {C : Type 0} (old new : World C) (c : Code) (w : ImageWorld) (t : ℕ) (after : Runner) → new.code ≡ old.code → new.runners.list.items ≡ slice_set old.runners.list.items t after
    → IsExactBut t c old w → IsExactBut t c new w
exact_others old new c w t after code runners h =
    record {
      code = code ∙ h.code;
      threads = subst (λ (rs : List Runner). AreAtBut t c rs w.threads) (sym runners)
          (record { others = λ k r x other e f. h.threads.others k r x other (sym (set_other old.runners.list.items t k after (apart k t other)) ∙ e) f });
    }

pub place_told : {C : Type 0} (old : World C) (c : Code) (w : ImageWorld) (t : ℕ) (r : Runner) (at : Option Standing) (x : ImageThread) → r ≡ slice_index_or old.runners.list.items t r
    → t < length old.runners.list.items → IsTrue (has_call (calls_left r))
    → ((y : ImageThread) → IsAt old.code t r y → IsTrue (has_call y.calls) → option_map (stand_in old.code) at ≡ image_asks_at old.code y)
    → IsExact c old w → slice_get w.threads t ≡ Some x → option_map (stand_in c) at ≡ image_asks_at c x
place_told old c w t r at x is there work from exact found =
    let st = exact.threads.each t r x (slice_get_read old.runners.list.items (length old.runners.list.items) t r refl there is) found in
    subst (λ (q : Code). (y : ImageThread) → IsAt q t r y → IsTrue (has_call y.calls) → option_map (stand_in q) at ≡ image_asks_at q y) exact.code from x st
    (ap (λ (y : ImageThread). has_call y.calls) (sym st.state) ∙ work)
