-- The thread of the machine that counts that stands for a thread of the monitor.
use Rattle.std.specs.Prelude.{◌≡◌, ℕ, Option, Some, None, List, [], ◌∷◌, map}
use Rattle.lx_model.specs.declared.request.Request.{Request}
use Rattle.lx_model.specs.declared.request.Reply.{Reply}
use Rattle.lx_model.specs.Thread.{Stage, Pre, Body, Post, Crossing, Frame, Thread}
use Rattle.lx_model.specs.Effect.{text_of}
use Rattle.lx_model.specs.Next.{Step, Goes, Asks, Asking, absorb}
use Rattle.lx_model.specs.World.{World}
use Rattle.lx_simulation.proofs.Counted.{Code, AtPre, InBody, AtPost, ImageFrame, Runs, Wraps, ImageThread, ImageStep, ImageAsking, image_absorb}
use Rattle.lx_simulation.proofs.Counted.{Goes as ImageGoes, Asks as ImageAsks}
use Rattle.lx_simulation.proofs.CountedWorld.{ImageWorld}
use Rattle.lx_images.specs.Guarded.{guarded_run, waiting_run}
pub use Rattle.lx_images.specs.Stands.{with_shadow, shadow_of, Seen, seen, SameState, RunsAs, Called, Placed, StageIsBody, InBodyOf, AtStage, AtItsStage, WaitWell, FramesWell, Well, AnswersEnter, Answers, AskedBy, SparedAsk, AskAlike, Each, WorldWell, StoreHeld, StoresHeld}

-- a crossing's wrapper stands below its function's frame
abbrev pub under : Option Crossing → List ImageFrame → List ImageFrame
under None is = is
under (Some x) is = Wraps x.function x.args InBody ∷ is

-- a frame below the top one: its function stands at a call, and a crossing is in its body
abbrev pub waiting_frame : Code → Frame → List ImageFrame → List ImageFrame
waiting_frame c f is = Runs (waiting_run c (text_of c.program f.run) f.run) ∷ under f.crossing is

-- the frames below the top one
abbrev pub waiting_frames : Code → List Frame → List ImageFrame
waiting_frames c [] = []
waiting_frames c (f ∷ fs) = waiting_frame c f (waiting_frames c fs)

-- a crossing is its wrapper's frame, with the function's frame above it exactly while its body runs
abbrev pub crossing_frames : Code → Frame → Crossing → Stage → List ImageFrame → List ImageFrame
crossing_frames c f x (Pre k) is = Wraps x.function x.args (AtPre k) ∷ is
crossing_frames c f x Body is = Runs (guarded_run c (text_of c.program f.run) f.run) ∷ Wraps x.function x.args InBody ∷ is
crossing_frames c f x (Post k v) is = Wraps x.function x.args (AtPost k v) ∷ is

-- the frame on top, which may be a crossing
abbrev pub top_frame : Code → Frame → Option Crossing → List ImageFrame → List ImageFrame
top_frame c f None is = Runs (guarded_run c (text_of c.program f.run) f.run) ∷ is
top_frame c f (Some x) is = crossing_frames c f x x.stage is

-- the image's frames of these frames
abbrev pub image_frames : Code → List Frame → List ImageFrame
image_frames c [] = []
image_frames c (f ∷ fs) = top_frame c f f.crossing (waiting_frames c fs)

-- the image thread that stands for a thread
abbrev pub image_of : Code → Thread → ImageThread
image_of c thread =
    record {
      calls = thread.calls;
      ended = thread.ended;
      fuel = thread.fuel;
      due = thread.due;
      frames = image_frames c thread.frames;
      shadow = shadow_of thread.frames;
    }

-- the image world stands for the world: the same is shared, and each image thread stands for its thread
pub record StandsFor (c : Code) (w : World) (v : ImageWorld) : Type 0 where
  pub state : SameState w.state v.state
  pub threads : v.threads ≡ map (image_of c) w.threads

-- both ask for the same, and take each answer in alike
abbrev pub AbsorbAlike : Code → ℕ → Thread → ImageThread → Request → Type 0
AbsorbAlike c t thread v r =
    (reply : Reply) → Answers c.program r.who r.what reply → Well c.program t (absorb c.program t thread r reply) × (image_absorb c t v r reply ≡ image_of c (absorb c.program t thread r reply))

-- both ask alike, as they may, and take each answer in alike
abbrev pub AsksAlike : Code → ℕ → Thread → Request → ImageThread → Request → Type 0
AsksAlike c t thread r v s = AskAlike c thread r s × AskedBy c.program r.who r.what × AbsorbAlike c t thread v r

-- both take a register step to threads that stand for each other, or ask alike
abbrev pub StepsAgree : Code → ℕ → Step → ImageStep → Type 0
StepsAgree c t (Goes thread) (ImageGoes v) = Well c.program t thread × (v ≡ image_of c thread)
StepsAgree c t (Asks thread r) (ImageAsks v s) = AsksAlike c t thread r v s
StepsAgree c t _ _ = ⊥

-- both come to requests that are alike
abbrev pub AskingAlike : Code → ℕ → Asking → ImageAsking → Type 0
AskingAlike c t a b = AsksAlike c t a.thread a.request b.thread b.request
