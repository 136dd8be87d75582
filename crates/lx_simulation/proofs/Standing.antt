-- A thread of images stands for a thread of the monitor exactly where it is alike to the thread of the machine that counts.
use Rattle.std.proofs.Common.{◌≡◌, ℕ, false, List, [], ◌∷◌, map, Option, Some, None, refl, sym, subst, ◌∙◌, ap}
use Rattle.lx_words.specs.Word.{Word}
use Rattle.lx_model.specs.Program.{annotation_or_none}
use Rattle.lx_model.specs.Thread.{Stage, Pre, Body, Post, Activation, Crossing, Frame, Thread}
use Rattle.lx_model.specs.Effect.{text_of}
use Rattle.lx_model.specs.Next.{has_action}
use Rattle.lx_images.specs.Guarded.{guarded_run, waiting_run}
use Rattle.lx_images.specs.Image.{Code, ImageFrame, Runs, Wraps, ImageThread}
use Rattle.lx_images.specs.WrapperLines.{Wording}
use Rattle.lx_images.specs.Stands.{left_before, left_in_body, left_behind, StandUnder, WaitAs, CrossesAs, StandsAs, FramesStand, shadow_of, ThreadStands, ThreadsStand}
use Rattle.lx_simulation.proofs.Counted.{Place, AtEnter, AtPre, AtCall, InBody, AtPost, AtLeave, AtRet, ImageFrame as CountedFrame, ImageThread as CountedThread}
use Rattle.lx_simulation.proofs.Counted.{Runs as CountedRuns, Wraps as CountedWraps}
use Rattle.lx_simulation.proofs.CountedStands.{under, waiting_frames, crossing_frames, top_frame, image_frames, image_of}
use Rattle.lx_simulation.proofs.Worded.{Worded, Ran, Wrapped, counted, lined, Waiting, StandsOnTop, Placed, Alike, AllAlike}
use Rattle.lx_simulation.proofs.WordedReplies.{counting, FramesAlike}

-- what a list of frames of the machine that counts is

runs_same : {a b : Activation} {is js : List CountedFrame} → ◌≡◌ {A = List CountedFrame} (CountedRuns a ∷ is) (CountedRuns b ∷ js) → (a ≡ b) × (is ≡ js)
runs_same e = (cc, cc)

wraps_same : {n m : ℕ} {xs ys : List Word} {p q : Place} {is js : List CountedFrame} → ◌≡◌ {A = List CountedFrame} (CountedWraps n xs p ∷ is) (CountedWraps m ys q ∷ js) → (n ≡ m) × (xs ≡ ys) × (p ≡ q) × (is ≡ js)
wraps_same e = (cc, cc, cc, cc)

not_runs : {A : Type 0} {a : Activation} {m : ℕ} {ys : List Word} {q : Place} {is js : List CountedFrame} → ◌≡◌ {A = List CountedFrame} (CountedRuns a ∷ is) (CountedWraps m ys q ∷ js) → A
not_runs e = cc

not_wraps : {A : Type 0} {a : Activation} {m : ℕ} {ys : List Word} {q : Place} {is js : List CountedFrame} → ◌≡◌ {A = List CountedFrame} (CountedWraps m ys q ∷ js) (CountedRuns a ∷ is) → A
not_wraps e = cc

not_empty : {A : Type 0} {f : CountedFrame} {is : List CountedFrame} → ◌≡◌ {A = List CountedFrame} (f ∷ is) [] → A
not_empty e = cc

not_more : {A : Type 0} {f : CountedFrame} {is : List CountedFrame} → ◌≡◌ {A = List CountedFrame} [] (f ∷ is) → A
not_more e = cc

-- frames that are alike stand for the thread's

-- the wrapper of a crossing in its body, and the frames below it
record Under (c : Code) (x : Option Crossing) (is : List CountedFrame) (gs : List ImageFrame) : Type 0 where
  below : List Worded
  stands : StandUnder c x gs (map (lined c) below)
  counts : is ≡ map counted below
  waiting : Waiting below

in_body : (c : Code) (x : Crossing) (is : List CountedFrame) (n : ℕ) (args : List Word) (place : Place) (w : Wording) (y : Option Word) (ws : List Worded) →
    (x.function ≡ n) × (x.args ≡ args) × (InBody ≡ place) × (is ≡ map counted ws) → Waiting (Wrapped n args place w y ∷ ws) → Under c (Some x) is (map (lined c) (Wrapped n args place w y ∷ ws))
in_body c x is n args InBody w y ws e wait =
    record {
      below = ws;
      stands = (lined c (Wrapped n args InBody w y), (y, (w, λ j. Wraps (sym e.0 j) (sym e.1 j) (left_in_body w (annotation_or_none c.program (sym e.0 j))) y)), refl);
      counts = e.3;
      waiting = wait;
    }
in_body c x is n args AtEnter w y ws e wait = absurd wait
in_body c x is n args (AtPre k) w y ws e wait = absurd wait
in_body c x is n args AtCall w y ws e wait = absurd wait
in_body c x is n args (AtPost k z) w y ws e wait = absurd wait
in_body c x is n args (AtLeave z) w y ws e wait = absurd wait
in_body c x is n args (AtRet z) w y ws e wait = absurd wait

stand_under : (c : Code) (x : Option Crossing) (is : List CountedFrame) (ws : List Worded) → under x is ≡ map counted ws → Waiting ws → Under c x is (map (lined c) ws)
stand_under c None is ws e wait = record { below = ws; stands = refl; counts = e; waiting = wait }
stand_under c (Some x) is [] e wait = not_empty e
stand_under c (Some x) is (Ran a ∷ ws) e wait = not_wraps e
stand_under c (Some x) is (Wrapped n args place w y ∷ ws) e wait = in_body c x is n args place w y ws (wraps_same e) wait

wait_stand : (c : Code) (fs : List Frame) (ws : List Worded) → waiting_frames c fs ≡ map counted ws → Waiting ws → WaitAs c fs (map (lined c) ws)
wait_stand c [] [] e wait = refl
wait_stand c [] (w ∷ ws) e wait = not_more e
wait_stand c (f ∷ fs) [] e wait = not_empty e
wait_stand c (f ∷ fs) (Wrapped n args place w y ∷ ws) e wait = not_runs e
wait_stand c (f ∷ fs) (Ran a ∷ ws) e wait =
    let same = runs_same e in
    let u = stand_under c f.crossing (waiting_frames c fs) ws same.1 wait in
    (map (lined c) u.below, (map (lined c) ws, u.stands, λ j. Runs (sym same.0 j) ∷ map (lined c) ws), wait_stand c fs u.below u.counts u.waiting)

-- the top frame
abbrev TopStands : Code → List Frame → (List ImageFrame → List ImageFrame → Type 0) → List ImageFrame → Type 0
TopStands c fs P is = (below : List ImageFrame) × P is below × WaitAs c fs below

at_pre_stands : (c : Code) (f : Frame) (x : Crossing) (k : ℕ) (fs : List Frame) (n : ℕ) (args : List Word) (place : Place) (w : Wording) (y : Option Word) (ws : List Worded) →
    (x.function ≡ n) × (x.args ≡ args) × (AtPre k ≡ place) × (waiting_frames c fs ≡ map counted ws) → StandsOnTop c n place → Waiting ws →
    TopStands c fs (CrossesAs c f x (Pre k)) (map (lined c) (Wrapped n args place w y ∷ ws))
at_pre_stands c f x k fs n args (AtPre i) w y ws e on wait =
    let same : k ≡ i = cc in (
      map (lined c) ws,
      (lined c (Wrapped n args (AtPre i) w y), (y, (w, λ j. Wraps (sym e.0 j) (sym e.1 j) (left_before (sym same j) w (annotation_or_none c.program (sym e.0 j))) y)), (λ j. has_action c.program (e.0 j) false (same j)) ∙ on, refl),
      wait_stand c fs ws e.3 wait,
    )
at_pre_stands c f x k fs n args AtEnter w y ws e on wait = cc
at_pre_stands c f x k fs n args AtCall w y ws e on wait = cc
at_pre_stands c f x k fs n args InBody w y ws e on wait = cc
at_pre_stands c f x k fs n args (AtPost i z) w y ws e on wait = cc
at_pre_stands c f x k fs n args (AtLeave z) w y ws e on wait = cc
at_pre_stands c f x k fs n args (AtRet z) w y ws e on wait = cc

at_post_stands : (c : Code) (f : Frame) (x : Crossing) (k : ℕ) (v : Option Word) (fs : List Frame) (n : ℕ) (args : List Word) (place : Place) (w : Wording) (y : Option Word) (ws : List Worded) →
    (x.function ≡ n) × (x.args ≡ args) × (AtPost k v ≡ place) × (waiting_frames c fs ≡ map counted ws) → Waiting ws →
    TopStands c fs (CrossesAs c f x (Post k v)) (map (lined c) (Wrapped n args place w y ∷ ws))
at_post_stands c f x k v fs n args (AtPost i z) w y ws e wait =
    let same : k ≡ i = cc in
    let value : v ≡ z = cc in (
      map (lined c) ws,
      (lined c (Wrapped n args (AtPost i z) w y), (w, λ j. Wraps (sym e.0 j) (sym e.1 j) (left_behind (sym same j) w (annotation_or_none c.program (sym e.0 j))) (sym value j)), refl),
      wait_stand c fs ws e.3 wait,
    )
at_post_stands c f x k v fs n args AtEnter w y ws e wait = cc
at_post_stands c f x k v fs n args AtCall w y ws e wait = cc
at_post_stands c f x k v fs n args InBody w y ws e wait = cc
at_post_stands c f x k v fs n args (AtPre i) w y ws e wait = cc
at_post_stands c f x k v fs n args (AtLeave z) w y ws e wait = cc
at_post_stands c f x k v fs n args (AtRet z) w y ws e wait = cc

crossing_stands : (c : Code) (f : Frame) (x : Crossing) (s : Stage) (fs : List Frame) (ws : List Worded) → crossing_frames c f x s (waiting_frames c fs) ≡ map counted ws → Placed c ws → TopStands c fs (CrossesAs c f x s) (map (lined c) ws)
crossing_stands c f x (Pre k) fs [] e p = not_empty e
crossing_stands c f x (Pre k) fs (Ran a ∷ ws) e p = not_wraps e
crossing_stands c f x (Pre k) fs (Wrapped n args place w y ∷ ws) e p = at_pre_stands c f x k fs n args place w y ws (wraps_same e) p.0 p.1
crossing_stands c f x (Post k v) fs [] e p = not_empty e
crossing_stands c f x (Post k v) fs (Ran a ∷ ws) e p = not_wraps e
crossing_stands c f x (Post k v) fs (Wrapped n args place w y ∷ ws) e p = at_post_stands c f x k v fs n args place w y ws (wraps_same e) p.1
crossing_stands c f x Body fs [] e p = not_empty e
crossing_stands c f x Body fs (Wrapped n args place w y ∷ ws) e p = not_runs e
crossing_stands c f x Body fs (Ran a ∷ ws) e p =
    let same = runs_same e in
    let u = stand_under c (Some x) (waiting_frames c fs) ws same.1 p in
    (map (lined c) u.below, (u.stands.0, u.stands.1, λ j. Runs (sym same.0 j) ∷ u.stands.2 j), wait_stand c fs u.below u.counts u.waiting)

top_stands : (c : Code) (f : Frame) (x : Option Crossing) (fs : List Frame) (ws : List Worded) → top_frame c f x (waiting_frames c fs) ≡ map counted ws → Placed c ws → TopStands c fs (StandsAs c f x) (map (lined c) ws)
top_stands c f (Some x) fs ws e p = crossing_stands c f x x.stage fs ws e p
top_stands c f None fs [] e p = not_empty e
top_stands c f None fs (Wrapped n args place w y ∷ ws) e p = not_runs e
top_stands c f None fs (Ran a ∷ ws) e p =
    let same = runs_same e in
    (map (lined c) ws, (λ j. Runs (sym same.0 j) ∷ map (lined c) ws), wait_stand c fs ws same.1 p)

frames_stand : (c : Code) (fs : List Frame) (ws : List Worded) → image_frames c fs ≡ map counted ws → Placed c ws → FramesStand c fs (map (lined c) ws)
frames_stand c [] [] e p = refl
frames_stand c [] (w ∷ ws) e p = not_more e
frames_stand c (f ∷ fs) ws e p = top_stands c f f.crossing fs ws e p

-- an image thread that is alike to the counting one of a thread stands for it
pub stands_of : (c : Code) (thread : Thread) (v : ImageThread) → Alike c (image_of c thread) v → ThreadStands c thread v
stands_of c thread v a =
    record {
      calls = ap (λ (y : ImageThread). y.calls) a.reads ∙ sym (ap (λ (y : CountedThread). y.calls) a.counts);
      ended = ap (λ (y : ImageThread). y.ended) a.reads ∙ sym (ap (λ (y : CountedThread). y.ended) a.counts);
      fuel = ap (λ (y : ImageThread). y.fuel) a.reads ∙ sym (ap (λ (y : CountedThread). y.fuel) a.counts);
      due = ap (λ (y : ImageThread). y.due) a.reads ∙ sym (ap (λ (y : CountedThread). y.due) a.counts);
      frames = subst (FramesStand c thread.frames) (sym (ap (λ (y : ImageThread). y.frames) a.reads)) (frames_stand c thread.frames a.both.frames (ap (λ (y : CountedThread). y.frames) a.counts) a.placed);
      shadow = ap (λ (y : ImageThread). y.shadow) a.reads ∙ sym (ap (λ (y : CountedThread). y.shadow) a.counts);
    }

-- and one that stands for it is alike

-- frames of both machines that wait for these frames
record Waits (c : Code) (is : List CountedFrame) (gs : List ImageFrame) : Type 0 where
  frames : List Worded
  waiting : Waiting frames
  counts : is ≡ map counted frames
  reads : gs ≡ map (lined c) frames

waits_under : (c : Code) (x : Option Crossing) (is : List CountedFrame) (gs below : List ImageFrame) → StandUnder c x gs below → Waits c is below → Waits c (under x is) gs
waits_under c None is gs below e w = record { frames = w.frames; waiting = w.waiting; counts = w.counts; reads = e ∙ w.reads }
waits_under c (Some x) is gs below (i, (value, (wording, same)), e) w =
    record {
      frames = Wrapped x.function x.args InBody wording value ∷ w.frames;
      waiting = w.waiting;
      counts = ap (λ (js : List CountedFrame). CountedWraps x.function x.args InBody ∷ js) w.counts;
      reads = e ∙ (λ j. same j ∷ w.reads j);
    }

all_wait : (c : Code) (fs : List Frame) (is : List ImageFrame) → WaitAs c fs is → Waits c (waiting_frames c fs) is
all_wait c [] is e = record { frames = []; waiting = tt; counts = refl; reads = e }
all_wait c (f ∷ fs) is (below, (gs, stands, e), rest) =
    let u = waits_under c f.crossing (waiting_frames c fs) gs below stands (all_wait c fs below rest) in
    record {
      frames = Ran (waiting_run c (text_of c.program f.run) f.run) ∷ u.frames;
      waiting = u.waiting;
      counts = ap (λ (js : List CountedFrame). CountedRuns (waiting_run c (text_of c.program f.run) f.run) ∷ js) u.counts;
      reads = e ∙ ap (λ (js : List ImageFrame). Runs (waiting_run c (text_of c.program f.run) f.run) ∷ js) u.reads;
    }

crossing_alike : (c : Code) (f : Frame) (x : Crossing) (s : Stage) (js : List CountedFrame) (is below : List ImageFrame) → CrossesAs c f x s is below → Waits c js below → FramesAlike c (crossing_frames c f x s js) is
crossing_alike c f x (Pre k) js is below (i, (value, (wording, same)), has, e) w =
    record {
      frames = Wrapped x.function x.args (AtPre k) wording value ∷ w.frames;
      placed = (has, w.waiting);
      counts = ap (λ (ks : List CountedFrame). CountedWraps x.function x.args (AtPre k) ∷ ks) w.counts;
      reads = e ∙ (λ j. same j ∷ w.reads j);
    }
crossing_alike c f x (Post k v) js is below (i, (wording, same), e) w =
    record {
      frames = Wrapped x.function x.args (AtPost k v) wording v ∷ w.frames;
      placed = (tt, w.waiting);
      counts = ap (λ (ks : List CountedFrame). CountedWraps x.function x.args (AtPost k v) ∷ ks) w.counts;
      reads = e ∙ (λ j. same j ∷ w.reads j);
    }
crossing_alike c f x Body js is below (i, (value, (wording, same)), e) w =
    record {
      frames = Ran (guarded_run c (text_of c.program f.run) f.run) ∷ Wrapped x.function x.args InBody wording value ∷ w.frames;
      placed = w.waiting;
      counts = ap (λ (ks : List CountedFrame). CountedRuns (guarded_run c (text_of c.program f.run) f.run) ∷ CountedWraps x.function x.args InBody ∷ ks) w.counts;
      reads = e ∙ (λ j. Runs (guarded_run c (text_of c.program f.run) f.run) ∷ same j ∷ w.reads j);
    }

top_alike : (c : Code) (f : Frame) (x : Option Crossing) (js : List CountedFrame) (is below : List ImageFrame) → StandsAs c f x is below → Waits c js below → FramesAlike c (top_frame c f x js) is
top_alike c f (Some x) js is below h w = crossing_alike c f x x.stage js is below h w
top_alike c f None js is below e w =
    record {
      frames = Ran (guarded_run c (text_of c.program f.run) f.run) ∷ w.frames;
      placed = w.waiting;
      counts = ap (λ (ks : List CountedFrame). CountedRuns (guarded_run c (text_of c.program f.run) f.run) ∷ ks) w.counts;
      reads = e ∙ ap (λ (ks : List ImageFrame). Runs (guarded_run c (text_of c.program f.run) f.run) ∷ ks) w.reads;
    }

frames_alike : (c : Code) (fs : List Frame) (is : List ImageFrame) → FramesStand c fs is → FramesAlike c (image_frames c fs) is
frames_alike c [] is e = record { frames = []; placed = tt; counts = refl; reads = e }
frames_alike c (f ∷ fs) is (below, top, rest) = top_alike c f f.crossing (waiting_frames c fs) is below top (all_wait c fs below rest)

pub alike_of : (c : Code) (thread : Thread) (v : ImageThread) → ThreadStands c thread v → Alike c (image_of c thread) v
alike_of c thread v s =
    let f = frames_alike c thread.frames v.frames s.frames in
    record {
      both = record { calls = thread.calls; ended = thread.ended; fuel = thread.fuel; due = thread.due; frames = f.frames; shadow = shadow_of thread.frames };
      placed = f.placed;
      counts = ap (λ (is : List CountedFrame). counting thread.calls thread.ended thread.fuel thread.due is (shadow_of thread.frames)) f.counts;
      reads = λ j. record { calls = s.calls j; ended = s.ended j; fuel = s.fuel j; due = s.due j; frames = f.reads j; shadow = s.shadow j };
    }

-- so it is of the threads of a world

pub all_alike : (c : Code) (threads : List Thread) (vs : List ImageThread) → ThreadsStand c threads vs → AllAlike c (map (image_of c) threads) vs
all_alike c [] [] e = tt
all_alike c [] (v ∷ vs) e = cc
all_alike c (x ∷ threads) [] s = absurd s
all_alike c (x ∷ threads) (v ∷ vs) s = (alike_of c x v s.0, all_alike c threads vs s.1)

pub all_stand : (c : Code) (threads : List Thread) (vs : List ImageThread) → AllAlike c (map (image_of c) threads) vs → ThreadsStand c threads vs
all_stand c [] [] a = refl
all_stand c [] (v ∷ vs) a = absurd a
all_stand c (x ∷ threads) [] a = absurd a
all_stand c (x ∷ threads) (v ∷ vs) a = (stands_of c x v a.0, all_stand c threads vs a.1)
