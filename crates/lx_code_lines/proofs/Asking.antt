-- An image thread asks at the place at which the thread asks that it stands for.
use Rattle.std.proofs.Common.{◌≡◌, ℕ, zero, suc, ◌+◌, ◌*◌, ◌-◌, ◌<◌, ◌≤◌, false, cond, not, List, [], ◌∷◌, length, Option, Some, None, refl, sym, ◌∙◌, ap, arith}
use Rattle.std.specs.Prelude.{option_map}
use Rattle.lx_words.proofs.Lists.{map_length}
use Rattle.lx_ir.specs.declared.module.Module.{Module}
use Rattle.lx_ir.specs.declared.instr.Op.{Op}
use Rattle.lx_ir.specs.declared.instr.Op.TheVariants as op
use Rattle.lx_image_texts.specs.Marks.{is_mark, without_marks}
use Rattle.lx_model.specs.Laws.{ModelLaws}
use Rattle.lx_model.specs.Program.{Home}
use Rattle.lx_model.specs.Thread.{Activation, Stage, Pre, Body, Post, Crossing, Frame, Thread}
use Rattle.lx_model.specs.Effect.{text_of}
use Rattle.lx_model.specs.Next.{Step, Goes, Asks, step, steps_left}
use Rattle.lx_images.specs.Asker.{code_place, image_asker_within, image_asker}
use Rattle.lx_images.specs.Asker.{acting as image_acting, first_run as image_first_run}
use Rattle.lx_images.specs.Code.{Code}
use Rattle.lx_images.specs.Guarded.{Accepted, bare_of, guarded_run, guarded_op, guarded_ops, text_module, waiting_run, waiting_ops}
use Rattle.lx_images.specs.Image.{ImageFrame, ImageThread, ImageStep, image_step}
use Rattle.lx_images.specs.Image.{Goes as ImageGoes, Asks as ImageAsks}
use Rattle.lx_images.specs.ImageCode.{Bare, text_op}
use Rattle.lx_images.specs.Stands.{StandUnder, WaitAs, CrossesAs, StandsAs, FramesStand, ThreadStands, Well, StepsAgree}
use Rattle.lx_simulation.specs.Simulation.{SimulationLaws}
use Rattle.lx_code_lines.specs.Place.{Place, place_of, first_run, acting_at, acting_in, acting, asker_within, asker, image_place}
use Rattle.lx_code_lines.specs.PlaceLaws.{AsksThere}

-- marks are not counted

unmarked : (text : Option Module) (o : Op) → is_mark (text_op text o) ≡ false
unmarked text (op.Guard at size narrow) = refl
unmarked text (op.Check target) = refl
unmarked text (op.Call to ret x args) = refl
unmarked text o = refl

module _ (laws : SimulationLaws) (c : Code) where
  guarded_left : (h : Home) (bare : Bare) (os : List Op) → length (without_marks (guarded_ops c h bare os)) ≡ length os
  guarded_left h bare os = ap length (laws.erases (text_module c h) bare os) ∙ map_length (text_op (text_module c h)) os

  waiting_left : (h : Home) (bare : Bare) (os : List Op) → length (without_marks (waiting_ops c h bare os)) ≡ length os
  waiting_left h bare [] = refl
  waiting_left h bare (o ∷ os) =
      ap (λ b. length (cond (not b) (guarded_op c h o ∷ without_marks (guarded_ops c h bare os)) (without_marks (guarded_ops c h bare os)))) (unmarked (text_module c h) o)
      ∙ ap suc (guarded_left h bare os)

  running_place : (h : Home) (a : Activation) → image_place (code_place (guarded_run c h a)) ≡ place_of a
  running_place h a = λ j. record { function = a.function; label = a.label; left = guarded_left h (bare_of c a.function a.label) a.code j }

  waiting_place : (h : Home) (a : Activation) → image_place (code_place (waiting_run c h a)) ≡ place_of a
  waiting_place h a = λ j. record { function = a.function; label = a.label; left = waiting_left h (bare_of c a.function a.label) a.code j }

  -- frames that stand for frames act for the same place

  abbrev placed : Option Activation → Option Place
  placed o = option_map image_place (option_map code_place o)

  first_same : (fs : List Frame) (is : List ImageFrame) → WaitAs c fs is → placed (image_first_run is) ≡ option_map place_of (first_run fs)
  first_same [] is w = ap (λ js. placed (image_first_run js)) w
  first_same (f ∷ fs) is w = ap (λ js. placed (image_first_run js)) w.1.2 ∙ ap Some (waiting_place (text_of c.program f.run) f.run)

  crossing_same : (f : Frame) (x : Crossing) (s : Stage) (fs : List Frame) (is below : List ImageFrame) → CrossesAs c f x s is below → WaitAs c fs below →
      placed (image_acting is) ≡ option_map place_of (acting_at s f fs)
  crossing_same f x (Pre k) fs is below st w =
      ap (λ js. placed (image_acting js)) (st.3 ∙ ap (λ i. i ∷ below) st.1.1.1) ∙ first_same fs below w
  crossing_same f x Body fs is below st w = ap (λ js. placed (image_acting js)) st.2 ∙ ap Some (running_place (text_of c.program f.run) f.run)
  crossing_same f x (Post k v) fs is below st w =
      ap (λ js. placed (image_acting js)) (st.2 ∙ ap (λ i. i ∷ below) st.1.1) ∙ first_same fs below w

  top_same : (f : Frame) (x : Option Crossing) (fs : List Frame) (is below : List ImageFrame) → StandsAs c f x is below → WaitAs c fs below →
      placed (image_acting is) ≡ option_map place_of (acting_in x f fs)
  top_same f None fs is below st w = ap (λ js. placed (image_acting js)) st ∙ ap Some (running_place (text_of c.program f.run) f.run)
  top_same f (Some x) fs is below st w = crossing_same f x x.stage fs is below st w

  acting_same : (fs : List Frame) (is : List ImageFrame) → FramesStand c fs is → placed (image_acting is) ≡ option_map place_of (acting fs)
  acting_same [] is st = ap (λ js. placed (image_acting js)) st
  acting_same (f ∷ fs) is st = top_same f f.crossing fs is st.0 st.1 st.2

  -- the threads that ask stand for each other

  abbrev asker_of : ℕ → ℕ → Thread → Step → Thread
  asker_of n t thread s = elim s [ Goes further ↦ asker_within n c.program t further | Asks further r ↦ thread ]

  abbrev image_asker_of : ℕ → ImageThread → ImageStep → ImageThread
  image_asker_of n v i = elim i [ ImageGoes u ↦ image_asker_within n c u | ImageAsks u q ↦ v ]

  asker_by : (t n : ℕ) (thread : Thread) (v : ImageThread) (s : Step) (i : ImageStep) → StepsAgree c t s i → ThreadStands c thread v →
      ((w : Thread) (u : ImageThread) → Well c.program t w → ThreadStands c w u → ThreadStands c (asker_within n c.program t w) (image_asker_within n c u)) →
      ThreadStands c (asker_of n t thread s) (image_asker_of n v i)
  asker_by t n thread v (Goes w) (ImageGoes u) h st ih = ih w u h.0 h.1
  asker_by t n thread v (Asks w r) (ImageAsks u q) h st ih = st
  asker_by t n thread v (Goes w) (ImageAsks u q) h st ih = absurd h
  asker_by t n thread v (Asks w r) (ImageGoes u) h st ih = absurd h

  askers_stand : Accepted c → (t n : ℕ) (thread : Thread) (v : ImageThread) → Well c.program t thread → ThreadStands c thread v → ThreadStands c (asker_within n c.program t thread) (image_asker_within n c v)
  askers_stand acc t zero thread v well st = st
  askers_stand acc t (suc n) thread v well st =
      asker_by t n thread v (step c.program t thread) (image_step c v) (laws.steps c acc t thread v well st) st (askers_stand acc t n)

  -- images have as many frames, or more

  longer_under : (x : Option Crossing) (is below : List ImageFrame) → StandUnder c x is below → length below ≤ length is
  longer_under None is below st = let e : length is ≡ length below = ap length st in omega (arith, e)
  longer_under (Some x) is below st = let e : length is ≡ suc (length below) = ap length st.2 in omega (arith, e)

  longer_waiting : (fs : List Frame) (is : List ImageFrame) → WaitAs c fs is → length fs ≤ length is
  longer_waiting [] is w = omega arith
  longer_waiting (f ∷ fs) is w =
      let e : length is ≡ suc (length w.1.0) = ap length w.1.2 in
      let under : length w.0 ≤ length w.1.0 = longer_under f.crossing w.1.0 w.0 w.1.1 in
      let rest : length fs ≤ length w.0 = longer_waiting fs w.0 w.2 in
      omega (arith, e, under, rest)

  longer_crossing : (f : Frame) (x : Crossing) (s : Stage) (is below : List ImageFrame) → CrossesAs c f x s is below → length below < length is
  longer_crossing f x (Pre k) is below st = let e : length is ≡ suc (length below) = ap length st.3 in omega (arith, e)
  longer_crossing f x Body is below st = let e : length is ≡ suc (suc (length below)) = ap length st.2 in omega (arith, e)
  longer_crossing f x (Post k v) is below st = let e : length is ≡ suc (length below) = ap length st.2 in omega (arith, e)

  longer_top : (f : Frame) (x : Option Crossing) (is below : List ImageFrame) → StandsAs c f x is below → length below < length is
  longer_top f None is below st = let e : length is ≡ suc (length below) = ap length st in omega (arith, e)
  longer_top f (Some x) is below st = longer_crossing f x x.stage is below st

  longer : (fs : List Frame) (is : List ImageFrame) → FramesStand c fs is → length fs ≤ length is
  longer [] is st = omega arith
  longer (f ∷ fs) is st =
      let top : length st.0 < length is = longer_top f f.crossing is st.0 st.1 in
      let rest : length fs ≤ length st.0 = longer_waiting fs st.0 st.2 in
      omega (arith, top, rest)

  -- with more steps the same thread asks

  stable_by : ModelLaws → (t m : ℕ) (thread : Thread) (s : Step) → step c.program t thread ≡ s → steps_left thread < suc m →
      ((w : Thread) → steps_left w < m → asker_within (suc m) c.program t w ≡ asker_within m c.program t w) →
      asker_of (suc m) t thread s ≡ asker_of m t thread s
  stable_by model t m thread (Goes w) e h ih = let l : steps_left w < steps_left thread = model.falls c.program t thread w e in ih w (omega (arith, l, h))
  stable_by model t m thread (Asks w r) e h ih = refl

  stable : ModelLaws → (t n : ℕ) (thread : Thread) → steps_left thread < n → asker_within (suc n) c.program t thread ≡ asker_within n c.program t thread
  stable model t zero thread h = absurd (omega (arith, h))
  stable model t (suc m) thread h = stable_by model t m thread (step c.program t thread) refl h (stable model t m)

  more_within : ModelLaws → (t d n : ℕ) (thread : Thread) → steps_left thread < n → asker_within (d + n) c.program t thread ≡ asker_within n c.program t thread
  more_within model t zero n thread h = let e : zero + n ≡ n = omega arith in ap (λ (k : ℕ). asker_within k c.program t thread) e
  more_within model t (suc d) n thread h =
      let e : suc d + n ≡ suc (d + n) = omega arith in
      let l : steps_left thread < d + n = omega (arith, h) in
      ap (λ (k : ℕ). asker_within k c.program t thread) e ∙ stable model t (d + n) thread l ∙ more_within model t d n thread h

  same_bound : (fuel m n : ℕ) → m ≤ n → (n - m) + (2 * fuel + m + 1) ≡ 2 * fuel + n + 1
  same_bound fuel m n h = omega (arith, h)

  asker_far : ModelLaws → (t : ℕ) (thread : Thread) (v : ImageThread) → ThreadStands c thread v → asker_within (2 * v.fuel + length v.frames + 1) c.program t thread ≡ asker c.program t thread
  asker_far model t thread v st =
      let l : steps_left thread < 2 * thread.fuel + length thread.frames + 1 = omega arith in
      ap (λ (fuel : ℕ). asker_within (2 * fuel + length v.frames + 1) c.program t thread) st.fuel
      ∙ (ap (λ (k : ℕ). asker_within k c.program t thread) (sym (same_bound thread.fuel (length thread.frames) (length v.frames) (longer thread.frames v.frames st.frames)))
      ∙ more_within model t (length v.frames - length thread.frames) (2 * thread.fuel + length thread.frames + 1) thread l)

  pub asks_there : ModelLaws → Accepted c → (t : ℕ) (thread : Thread) (v : ImageThread) → Well c.program t thread → ThreadStands c thread v → AsksThere c t thread v
  asks_there model acc t thread v well st =
      acting_same (asker_within (2 * v.fuel + length v.frames + 1) c.program t thread).frames (image_asker c v).frames (askers_stand acc t (2 * v.fuel + length v.frames + 1) thread v well st).frames
      ∙ ap (λ (x : Thread). option_map place_of (acting x.frames)) (asker_far model t thread v st)
