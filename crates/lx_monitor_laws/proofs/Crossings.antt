-- A crossing does its function's annotation.
use Rattle.std.proofs.Common.{◌≡◌, ℕ, zero, suc, ◌+◌, ◌-◌, ◌*◌, ◌<◌, ◌≤◌, Bool, true, false, Option, Some, None, List, [], ◌∷◌, length, refl, sym, ap, subst, arith, ◌∙◌}
use Rattle.std.specs.Prelude.{if◌then◌else◌}
use Rattle.lx_words.specs.Word.{Word}
use Rattle.lx_words.proofs.Tests.{less_true, not_below}
use Rattle.lx_caps.specs.declared.Principal.{Principal}
use Rattle.lx_model.specs.declared.program.Program.{Program}
use Rattle.lx_model.specs.declared.request.Outcome.{Outcome}
use Rattle.lx_model.specs.declared.request.Reply.TheVariants.{Done}
use Rattle.lx_model.specs.declared.request.Request.{Request}
use Rattle.lx_model.specs.declared.request.Way.{Way}
use Rattle.lx_model.specs.Effect.{returned_value}
use Rattle.lx_model.specs.Next.{Step, Goes, Asks, Asking, absorb, after_entry, after_leaving, after_ret, after_ret_of, entered_frame, first_stage, fits_site, has_action, next, next_stage, next_within, post_action, post_step, pre_action, step}
use Rattle.lx_model.specs.Thread.{Stage, Pre, Body, Post, Crossing, Frame, Thread}
use Rattle.lx_monitor_laws.specs.CrossingLaws.{CrossingLaws, DoesBefore, DoesBehind, action_before, action_behind, behind_done, body_frame, count_before, count_behind, entered, request_behind, returned}

-- a thread whose next step asks
next_is : (p : Program) (t : ℕ) (x y : Thread) (r : Request) → step p t x ≡ Asks y r → next p t x ≡ record { thread = y; request = r }
next_is p t x y r e =
    let more : 2 * x.fuel + length x.frames + 1 ≡ suc (2 * x.fuel + length x.frames) = omega arith in
    ap (λ (n : ℕ). next_within n p t x) more
    ∙ ap (λ (s : Step). elim s [ Goes further ↦ next_within (2 * x.fuel + length x.frames) p t further | Asks further q ↦ record { thread = further; request = q } ]) e

-- a thread with a crossing on top, at a stage
abbrev at_stage : Thread → Frame → List Frame → Crossing → Stage → ℕ → Thread
at_stage x f fs c stage fuel =
    record { calls = x.calls; ended = x.ended; fuel = fuel; due = None; frames = record f { crossing = Some (record c { stage = stage }) } ∷ fs }

-- natural numbers are native: a sum shows no successor
moved : (fuel m : ℕ) → fuel + suc m ≡ suc (fuel + m)
moved fuel m = omega arith

module _ (p : Program) (t : ℕ) (x : Thread) (f : Frame) (fs : List Frame) (c : Crossing) where
  -- before the body

  asks_before : (k fuel : ℕ) → next p t (at_stage x f fs c (Pre k) (suc fuel)) ≡ record { thread = at_stage x f fs c (Pre k) fuel; request = pre_action f c k }
  asks_before k fuel = next_is p t (at_stage x f fs c (Pre k) (suc fuel)) (at_stage x f fs c (Pre k) fuel) (pre_action f c k) refl

  one_before : (k fuel : ℕ) → absorb p t (next p t (at_stage x f fs c (Pre k) (suc fuel))).thread (next p t (at_stage x f fs c (Pre k) (suc fuel))).request Done
      ≡ at_stage x f fs c (next_stage p c.function (Pre k)) fuel
  one_before k fuel = ap (λ (a : Asking). absorb p t a.thread a.request Done) (asks_before k fuel)

  further : (k : ℕ) → suc k < count_before p c.function → next_stage p c.function (Pre k) ≡ Pre (suc k)
  further k h = ap (λ (b : Bool). if b then Pre (suc k) else Body) (less_true (suc k) (count_before p c.function) h)

  last : (k : ℕ) → count_before p c.function ≤ suc k → next_stage p c.function (Pre k) ≡ Body
  last k h = ap (λ (b : Bool). if b then Pre (suc k) else Body) (not_below (suc k) (count_before p c.function) h)

  goes_before : (k fuel : ℕ) → suc k < count_before p c.function
      → absorb p t (next p t (at_stage x f fs c (Pre k) (suc fuel))).thread (next p t (at_stage x f fs c (Pre k) (suc fuel))).request Done
      ≡ at_stage x f fs c (Pre (suc k)) fuel
  goes_before k fuel h = one_before k fuel ∙ ap (λ (s : Stage). at_stage x f fs c s fuel) (further k h)

  asked_before : (j k fuel : ℕ) → k + j < count_before p c.function
      → request_behind j p t (at_stage x f fs c (Pre k) (fuel + suc j)) ≡ pre_action f c (k + j)
  asked_before zero k fuel h =
      ap (λ (z : ℕ). request_behind 0 p t (at_stage x f fs c (Pre k) z)) (omega arith)
      ∙ ap (λ (a : Asking). a.request) (asks_before k fuel)
      ∙ ap (pre_action f c) (omega arith)
  asked_before (suc j) k fuel h =
      ap (λ (z : ℕ). request_behind (suc j) p t (at_stage x f fs c (Pre k) z)) (moved fuel (suc j))
      ∙ ap (λ (y : Thread). request_behind j p t y) (goes_before k (fuel + suc j) (omega (arith, h)))
      ∙ asked_before j (suc k) fuel (omega (arith, h))
      ∙ ap (pre_action f c) (omega arith)

  body_behind : (m k fuel : ℕ) → k + suc m ≡ count_before p c.function
      → behind_done (suc m) p t (at_stage x f fs c (Pre k) (fuel + suc m)) ≡ at_stage x f fs c Body fuel
  body_behind zero k fuel h =
      ap (λ (z : ℕ). behind_done 1 p t (at_stage x f fs c (Pre k) z)) (omega arith)
      ∙ one_before k fuel ∙ ap (λ (s : Stage). at_stage x f fs c s fuel) (last k (omega (arith, h)))
  body_behind (suc m) k fuel h =
      ap (λ (z : ℕ). behind_done (suc (suc m)) p t (at_stage x f fs c (Pre k) z)) (moved fuel (suc m))
      ∙ ap (λ (y : Thread). behind_done (suc m) p t y) (goes_before k (fuel + suc m) (omega (arith, h)))
      ∙ body_behind m (suc k) fuel (omega (arith, h))

  -- behind the body

  asks_behind : (v : Option Word) (k fuel : ℕ) → k < count_behind p c.function
      → next p t (at_stage x f fs c (Post k v) (suc fuel)) ≡ record { thread = at_stage x f fs c (Post k v) fuel; request = post_action f c k v }
  asks_behind v k fuel h =
      next_is p t (at_stage x f fs c (Post k v) (suc fuel)) (at_stage x f fs c (Post k v) fuel) (post_action f c k v)
      (ap (λ (b : Bool). post_step b (record f { crossing = Some (record c { stage = Post k v }) }) fs (record c { stage = Post k v }) k v (at_stage x f fs c (Post k v) (suc fuel)))
      (less_true k (count_behind p c.function) h))

  one_behind : (v : Option Word) (k fuel : ℕ) → k < count_behind p c.function
      → absorb p t (next p t (at_stage x f fs c (Post k v) (suc fuel))).thread (next p t (at_stage x f fs c (Post k v) (suc fuel))).request Done
      ≡ at_stage x f fs c (Post (suc k) v) fuel
  one_behind v k fuel h = ap (λ (a : Asking). absorb p t a.thread a.request Done) (asks_behind v k fuel h)

  asked_behind : (j : ℕ) (v : Option Word) (k fuel : ℕ) → k + j < count_behind p c.function
      → request_behind j p t (at_stage x f fs c (Post k v) (fuel + suc j)) ≡ post_action f c (k + j) v
  asked_behind zero v k fuel h =
      ap (λ (z : ℕ). request_behind 0 p t (at_stage x f fs c (Post k v) z)) (omega arith)
      ∙ ap (λ (a : Asking). a.request) (asks_behind v k fuel (omega (arith, h)))
      ∙ ap (λ (i : ℕ). post_action f c i v) (omega arith)
  asked_behind (suc j) v k fuel h =
      ap (λ (z : ℕ). request_behind (suc j) p t (at_stage x f fs c (Post k v) z)) (moved fuel (suc j))
      ∙ ap (λ (y : Thread). request_behind j p t y) (one_behind v k (fuel + suc j) (omega (arith, h)))
      ∙ asked_behind j v (suc k) fuel (omega (arith, h))
      ∙ ap (λ (i : ℕ). post_action f c i v) (omega arith)

  all_behind : (m : ℕ) (v : Option Word) (k fuel : ℕ) → k + m ≡ count_behind p c.function
      → behind_done m p t (at_stage x f fs c (Post k v) (fuel + m)) ≡ at_stage x f fs c (Post (count_behind p c.function) v) fuel
  all_behind zero v k fuel h =
      ap (λ (z : ℕ). at_stage x f fs c (Post k v) z) (omega arith) ∙ ap (λ (i : ℕ). at_stage x f fs c (Post i v) fuel) (omega (arith, h))
  all_behind (suc m) v k fuel h =
      ap (λ (z : ℕ). behind_done (suc m) p t (at_stage x f fs c (Post k v) z)) (moved fuel m)
      ∙ ap (λ (y : Thread). behind_done m p t y) (one_behind v k (fuel + m) (omega (arith, h)))
      ∙ all_behind m v (suc k) fuel (omega (arith, h))

  leaves_at : (v : Option Word) (k fuel : ℕ) → count_behind p c.function ≤ k
      → step p t (at_stage x f fs c (Post k v) fuel) ≡ Goes (after_leaving v fs (at_stage x f fs c (Post k v) fuel))
  leaves_at v k fuel h =
      ap (λ (b : Bool). post_step b (record f { crossing = Some (record c { stage = Post k v }) }) fs (record c { stage = Post k v }) k v (at_stage x f fs c (Post k v) fuel))
      (not_below k (count_behind p c.function) h)

-- the call is entered

-- the thread that was entered stands before the first action, or in its body
entered_at : (p : Program) (t : ℕ) (x : Thread) (caller : Principal) (way : Way) (args : List Word) (n : ℕ) (callee : Principal) (stage : Stage)
    → x.due ≡ None → fits_site p way x.frames n ≡ true → first_stage (has_action p n false 0) ≡ stage
    → entered p t x caller way args n callee
    ≡ at_stage x (body_frame p t caller callee n args x.frames) x.frames (record { function = n; source = caller; args = args; stage = Body }) stage x.fuel
entered_at p t x caller way args n callee stage due fits first =
    ap (λ (b : Bool). after_entry b way (entered_frame p t caller args x.frames n callee true) x) fits
    ∙ ap (λ (d : Option Outcome). record x { due = d; frames = entered_frame p t caller args x.frames n callee true ∷ x.frames }) due
    ∙ ap (λ (s : Stage). at_stage x (body_frame p t caller callee n args x.frames) x.frames (record { function = n; source = caller; args = args; stage = Body }) s x.fuel) first

-- without an action before it, the body is entered at once
first_is : (p : Program) (n m : ℕ) → count_before p n ≡ suc m → first_stage (has_action p n false 0) ≡ Pre 0
first_is p n m e = ap first_stage (less_true 0 (count_before p n) (omega (arith, e)))

none_first : (p : Program) (n : ℕ) → count_before p n ≡ 0 → first_stage (has_action p n false 0) ≡ Body
none_first p n e = ap first_stage (not_below 0 (count_before p n) (omega (arith, e)))

does_before : (m : ℕ) (p : Program) (t : ℕ) (x : Thread) (caller : Principal) (way : Way) (args : List Word) (n : ℕ) (callee : Principal) (fuel : ℕ)
    → count_before p n ≡ m → x.due ≡ None → fits_site p way x.frames n ≡ true → x.fuel ≡ fuel + m → DoesBefore p t x caller way args n callee fuel
does_before zero p t x caller way args n callee fuel count due fits paid = record {
  asks = λ k h. absurd (omega (arith, h, count));
  goes_on = ap (λ (j : ℕ). behind_done j p t (entered p t x caller way args n callee)) count
      ∙ entered_at p t x caller way args n callee Body due fits (none_first p n count)
      ∙ ap (λ (d : Option Outcome). record x { due = d; frames = body_frame p t caller callee n args x.frames ∷ x.frames }) (sym due)
      ∙ ap (λ (j : ℕ). record x { fuel = j; frames = body_frame p t caller callee n args x.frames ∷ x.frames }) (omega (arith, paid));
}
does_before (suc m) p t x caller way args n callee fuel count due fits paid =
    let f = body_frame p t caller callee n args x.frames in
    let c : Crossing = record { function = n; source = caller; args = args; stage = Body } in
    let at = entered_at p t x caller way args n callee (Pre 0) due fits (first_is p n m count) in
    record {
      asks = λ k h.
          let enough : x.fuel ≡ (fuel + (m - k)) + suc k = omega (arith, h, count, paid) in
          ap (λ (y : Thread). request_behind k p t y) (at ∙ ap (λ (j : ℕ). at_stage x f x.frames c (Pre 0) j) enough)
          ∙ asked_before p t x f x.frames c k 0 (fuel + (m - k)) (omega (arith, h))
          ∙ ap (action_before caller callee n args) (omega arith);
      goes_on = ap (λ (j : ℕ). behind_done j p t (entered p t x caller way args n callee)) count
          ∙ ap (λ (y : Thread). behind_done (suc m) p t y) (at ∙ ap (λ (j : ℕ). at_stage x f x.frames c (Pre 0) j) paid)
          ∙ body_behind p t x f x.frames c m 0 fuel (omega (arith, count))
          ∙ ap (λ (d : Option Outcome). record x { fuel = fuel; due = d; frames = f ∷ x.frames }) (sym due);
    }

-- the body returns

abbrev without : Frame → Frame
without f = record f { run = record f.run { allocas = [] } }

returned_at : (p : Program) (t : ℕ) (x : Thread) (f : Frame) (fs : List Frame) (c : Crossing) (low high : ℕ) → x.due ≡ None → x.frames ≡ f ∷ fs → f.crossing ≡ Some c
    → returned p t x f.principal low high ≡ at_stage x (without f) fs c (Post 0 (returned_value p f.run)) x.fuel
returned_at p t x f fs c low high due top crosses =
    ap (λ (frames : List Frame). after_ret p frames x) top
    ∙ ap (λ (o : Option Crossing). after_ret_of o f fs (returned_value p f.run) x) crosses
    ∙ ap (λ (d : Option Outcome). record x { due = d; frames = record (without f) { crossing = Some (record c { stage = Post 0 (returned_value p f.run) }) } ∷ fs }) due

does_behind : (p : Program) (t : ℕ) (x : Thread) (f : Frame) (fs : List Frame) (c : Crossing) (low high fuel : ℕ)
    → x.due ≡ None → x.frames ≡ f ∷ fs → f.crossing ≡ Some c → x.fuel ≡ fuel + count_behind p c.function → DoesBehind p t x f fs c low high fuel
does_behind p t x f fs c low high fuel due top crosses paid =
    let v = returned_value p f.run in
    let m = count_behind p c.function in
    let at = returned_at p t x f fs c low high due top crosses in
    let all = all_behind p t x (without f) fs c m v 0 fuel (omega arith) in
    let whole = ap (λ (y : Thread). behind_done m p t y) (at ∙ ap (λ (j : ℕ). at_stage x (without f) fs c (Post 0 v) j) paid) ∙ all in
    record {
      asks = λ k h.
          let enough : x.fuel ≡ (fuel + (m - suc k)) + suc k = omega (arith, h, paid) in
          ap (λ (y : Thread). request_behind k p t y) (at ∙ ap (λ (j : ℕ). at_stage x (without f) fs c (Post 0 v) j) enough)
          ∙ asked_behind p t x (without f) fs c k v 0 (fuel + (m - suc k)) (omega (arith, h))
          ∙ ap (action_behind c.source f.principal c.function c.args v) (omega arith);
      leaves = λ y is. subst (λ (z : Thread). (z.fuel ≡ fuel) × (step p t z ≡ Goes (after_leaving v fs z))) (sym (is ∙ whole))
          (refl, leaves_at p t x (without f) fs c v m fuel (omega arith));
    }

pub crossing : CrossingLaws
crossing = record {
  before = λ p t x caller way args n callee fuel due fits paid. does_before (count_before p n) p t x caller way args n callee fuel refl due fits paid;
  behind = does_behind;
}
