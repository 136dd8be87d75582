-- Which image threads stand for a thread of the monitor, and what holds of the monitor's threads.
use Rattle.std.specs.Prelude.{◌≡◌, ℕ, suc, Bool, true, false, Option, Some, None, List, [], ◌∷◌, drop, map, slice_get, ⊤, ◌⊎◌}
use Rattle.lx_caps.specs.declared.Principal.{Principal}
use Rattle.lx_caps.specs.declared.Principal.TheVariants.{Kernel}
use Rattle.lx_model.specs.declared.program.Program.{Program}
use Rattle.lx_model.specs.declared.request.Way.{Way}
use Rattle.lx_model.specs.declared.request.Way.TheVariants.{Script, Direct, Slot}
use Rattle.lx_model.specs.declared.request.What.{What}
use Rattle.lx_model.specs.declared.request.What.TheVariants as what
use Rattle.lx_model.specs.declared.request.Request.{Request}
use Rattle.lx_model.specs.declared.request.Entry.{Entry}
use Rattle.lx_model.specs.State.{State}
use Rattle.lx_model.specs.declared.request.Reply.{Reply}
use Rattle.lx_model.specs.declared.request.Reply.TheVariants.{Value, Done, Entered, Ended}
use Rattle.lx_model.specs.Program.{Home, home_or_kernel, annotation_or_none}
use Rattle.lx_model.specs.Thread.{Stage, Pre, Body, Post, Crossing, Frame, Thread, activation, top_of_stack}
use Rattle.lx_model.specs.Effect.{text_of, bits}
use Rattle.lx_model.specs.Next.{Step, Goes, Asks, Asking, absorb, next, request, has_action}
use Rattle.lx_model.specs.World.{World}
use Rattle.lx_images.specs.Image.{Code, ImageFrame, Runs, Wraps, ImageThread, ImageStep, ImageAsking, top, image_absorb}
use Rattle.lx_images.specs.Image.{Goes as ImageGoes, Asks as ImageAsks}
use Rattle.lx_images.specs.ImageWorld.{ImageWorld}
use Rattle.lx_images.specs.WrapperLines.{Wording, from_pre, from_post}
use Rattle.lx_words.specs.Word.{Word, word}
use Rattle.lx_words.specs.Width.{byte_count}
use Rattle.lx_caps.specs.declared.Cap.TheVariants.{Write}
use Rattle.lx_caps.specs.Regions.{mapped}
use Rattle.lx_caps.specs.History.{History, holds}
use Rattle.lx_annot.specs.declared.action.Annotation.{Annotation}
use Rattle.lx_ir.specs.declared.types.Scalar.{Scalar}
use Rattle.lx_ir.specs.declared.module.Value.{Value as Operand}
use Rattle.lx_ir.specs.declared.instr.Op.{Op}
use Rattle.lx_ir.specs.declared.instr.Op.TheVariants as op
use Rattle.lx_ir.specs.Layout.{width_of}
use Rattle.lx_images.specs.ImageCode.{stores_in}
use Rattle.lx_images.specs.Guarded.{bare_of, guarded_run, waiting_run}

-- The wrapper of a crossing is a frame that stands at a line of the function's wrapper.

-- the frame of a crossing's wrapper, with these lines left of it, which the wording and the annotation give, and what its call gave, if it has returned
abbrev pub IsWrapperFrame : Code → Crossing → (Wording → Annotation → List Op) → Option Word → ImageFrame → Type 0
IsWrapperFrame c x left value f = (w : Wording) × (f ≡ Wraps x.function x.args (left w (annotation_or_none c.program x.function)) value)

-- the same, where its call has not returned
abbrev pub IsCallerFrame : Code → Crossing → (Wording → Annotation → List Op) → ImageFrame → Type 0
IsCallerFrame c x left f = (value : Option Word) × IsWrapperFrame c x left value f

-- before its action with this number, behind its call, and before its action with this number behind the body
abbrev pub left_before : ℕ → Wording → Annotation → List Op
left_before k w a = from_pre w a k (drop k a.pre)

abbrev pub left_in_body : Wording → Annotation → List Op
left_in_body w a = from_post w 0 a.post

abbrev pub left_behind : ℕ → Wording → Annotation → List Op
left_behind k w a = from_post w k (drop k a.post)

-- below a function's frame stands its wrapper, behind its call, where the frame is a crossing's, and nothing else
abbrev pub StandUnder : Code → Option Crossing → List ImageFrame → List ImageFrame → Type 0
StandUnder c None is below = is ≡ below
StandUnder c (Some x) is below = (i : ImageFrame) × IsCallerFrame c x left_in_body i × (is ≡ i ∷ below)

-- a frame below the top one: its function stands at a call, and a crossing is in its body
abbrev pub WaitsAs : Code → Frame → List ImageFrame → List ImageFrame → Type 0
WaitsAs c f is below =
    (under : List ImageFrame) × StandUnder c f.crossing under below × (is ≡ Runs (waiting_run c (text_of c.program f.run) f.run) ∷ under)

-- the frames below the top one
abbrev pub WaitAs : Code → List Frame → List ImageFrame → Type 0
WaitAs c [] is = is ≡ []
WaitAs c (f ∷ fs) is = (below : List ImageFrame) × WaitsAs c f is below × WaitAs c fs below

-- a crossing on top is its wrapper's frame, before an action that there is or behind the body, with the function's frame above it
-- exactly while its body runs
abbrev pub CrossesAs : Code → Frame → Crossing → Stage → List ImageFrame → List ImageFrame → Type 0
CrossesAs c f x (Pre k) is below =
    (i : ImageFrame) × IsCallerFrame c x (left_before k) i × (has_action c.program x.function false k ≡ true) × (is ≡ i ∷ below)
CrossesAs c f x Body is below =
    (i : ImageFrame) × IsCallerFrame c x left_in_body i × (is ≡ Runs (guarded_run c (text_of c.program f.run) f.run) ∷ i ∷ below)
CrossesAs c f x (Post k v) is below = (i : ImageFrame) × IsWrapperFrame c x (left_behind k) v i × (is ≡ i ∷ below)

-- the frame on top, which may be a crossing
abbrev pub StandsAs : Code → Frame → Option Crossing → List ImageFrame → List ImageFrame → Type 0
StandsAs c f None is below = is ≡ Runs (guarded_run c (text_of c.program f.run) f.run) ∷ below
StandsAs c f (Some x) is below = CrossesAs c f x x.stage is below

-- the image's frames stand for these frames, one by one
abbrev pub FramesStand : Code → List Frame → List ImageFrame → Type 0
FramesStand c [] is = is ≡ []
FramesStand c (f ∷ fs) is = (below : List ImageFrame) × StandsAs c f f.crossing is below × WaitAs c fs below

-- the crossings' principals
abbrev pub with_shadow : Option Crossing → Principal → List Principal → List Principal
with_shadow None q shadow = shadow
with_shadow (Some x) q shadow = q ∷ shadow

-- the crossings' principals, the innermost first
abbrev pub shadow_of : List Frame → List Principal
shadow_of [] = []
shadow_of (f ∷ fs) = with_shadow f.crossing f.principal (shadow_of fs)

-- the image thread stands for the thread: it shows the same, its frames stand for the thread's, and its principals are the crossings'
pub record ThreadStands (c : Code) (thread : Thread) (v : ImageThread) : Type 0 where
  pub calls : v.calls ≡ thread.calls
  pub ended : v.ended ≡ thread.ended
  pub fuel : v.fuel ≡ thread.fuel
  pub due : v.due ≡ thread.due
  pub frames : FramesStand c thread.frames v.frames
  pub shadow : v.shadow ≡ shadow_of thread.frames

-- so does each of these of its own, and there are no others
abbrev pub ThreadsStand : Code → List Thread → List ImageThread → Type 0
ThreadsStand c [] vs = vs ≡ []
ThreadsStand c (thread ∷ threads) [] = ⊥
ThreadsStand c (thread ∷ threads) (v ∷ vs) = ThreadStands c thread v × ThreadsStand c threads vs

-- an entry of the journal, but for whom it was asked
pub record Seen : Type 0 where
  pub thread : ℕ
  pub what : What
  pub reply : Reply

-- what an entry shows but that
abbrev pub seen : Entry → Seen
seen e = record { thread = e.thread; what = e.request.what; reply = e.reply }

-- two states that differ at most in for whom their journals' requests were made
pub record SameState (s v : State) : Type 0 where
  pub memory : v.memory ≡ s.memory
  pub blocks : v.blocks ≡ s.blocks
  pub names : v.names ≡ s.names
  pub history : v.history ≡ s.history
  pub notes : v.notes ≡ s.notes
  pub journal : map seen v.journal ≡ map seen s.journal

-- the image world stands for the world: the same is shared, and each image thread stands for its thread
pub record StandsFor (c : Code) (w : World) (v : ImageWorld) : Type 0 where
  pub state : SameState w.state v.state
  pub threads : ThreadsStand c w.threads v.threads

-- what holds of frames

-- the kernel's text runs as the kernel
abbrev pub RunsAs : Home → Principal → Type 0
RunsAs None q = q ≡ Kernel
RunsAs (Some m) q = ⊤

-- who runs, and who called: the crossing below is that of the frame below
abbrev pub Called : Option Crossing → Principal → List Frame → Type 0
Called None q fs = q ≡ top (shadow_of fs)
Called (Some x) q fs = x.source ≡ top (shadow_of fs)

-- a frame runs as its text may, and was called by the principal below it
abbrev pub Placed : Program → Frame → List Frame → Type 0
Placed p f fs = RunsAs (text_of p f.run) f.principal × Called f.crossing f.principal fs

-- the stage is the body
abbrev pub StageIsBody : Stage → Type 0
StageIsBody Body = ⊤
StageIsBody (Pre k) = ⊥
StageIsBody (Post k v) = ⊥

-- the frame is no crossing, or is in its body
abbrev pub InBodyOf : Option Crossing → Type 0
InBodyOf None = ⊤
InBodyOf (Some x) = StageIsBody x.stage

-- before its body a crossing's function stands at its start
abbrev pub AtStage : Program → ℕ → Frame → Crossing → List Frame → Stage → Type 0
AtStage p t f x fs (Pre k) = f.run ≡ activation p x.function x.args (top_of_stack t fs)
AtStage p t f x fs _ = ⊤

-- so it is of a frame, which may be no crossing
abbrev pub AtItsStage : Program → ℕ → Frame → List Frame → Option Crossing → Type 0
AtItsStage p t f fs None = ⊤
AtItsStage p t f fs (Some x) = AtStage p t f x fs x.stage

-- frames below the top one: each is placed, and in its body
abbrev pub WaitWell : Program → List Frame → Type 0
WaitWell p [] = ⊤
WaitWell p (f ∷ fs) = Placed p f fs × InBodyOf f.crossing × WaitWell p fs

-- all frames: each is placed, those below the top one are in their bodies, and the top one is at its stage
abbrev pub FramesWell : Program → ℕ → List Frame → Type 0
FramesWell p t [] = ⊤
FramesWell p t (f ∷ fs) = Placed p f fs × AtItsStage p t f fs f.crossing × WaitWell p fs

-- so it is of a thread
abbrev pub Well : Program → ℕ → Thread → Type 0
Well p t thread = FramesWell p t thread.frames

-- what may be answered

-- a function that is entered runs as the kernel where its text is the kernel's, and as the caller where the call does not cross
abbrev pub AnswersEnter : Program → Principal → Way → ℕ → Principal → Bool → Type 0
AnswersEnter p who (Direct f) n q crosses = (n ≡ f) × (crosses ≡ true) × RunsAs (home_or_kernel p n) q
AnswersEnter p who way n q true = RunsAs (home_or_kernel p n) q
AnswersEnter p who way n q false = RunsAs (home_or_kernel p n) q × (q ≡ who)

-- a reply that may be given to a request: the end of a call is answered by an end, and a direct call by an entry or an end
abbrev pub Answers : Program → Principal → What → Reply → Type 0
Answers p who (what.Finish o) (Ended e) = ⊤
Answers p who (what.Finish o) _ = ⊥
Answers p who (what.Enter way args) (Entered n q crosses) = AnswersEnter p who way n q crosses
Answers p who (what.Enter (Direct f) args) (Value x) = ⊥
Answers p who (what.Enter (Direct f) args) Done = ⊥
Answers p who w r = ⊤

-- both ask for the same, and take each answer in alike
abbrev pub AbsorbAlike : Code → ℕ → Thread → ImageThread → Request → Type 0
AbsorbAlike c t thread v r =
    (reply : Reply) → Answers c.program r.who r.what reply → Well c.program t (absorb c.program t thread r reply) × ThreadStands c (absorb c.program t thread r reply) (image_absorb c t v r reply)

-- the scripts and slots are the kernel's, and a direct call that crosses is one of the kernel's functions
abbrev pub AskedBy : Program → Principal → What → Type 0
AskedBy p who (what.Enter (Script n) args) = who ≡ Kernel
AskedBy p who (what.Enter (Slot slot ty) args) = who ≡ Kernel
AskedBy p who (what.Enter (Direct n) args) = home_or_kernel p n ≡ None
AskedBy p who w = ⊤

-- the request of a store of the top frame that lacks its guard: the image machine asks for the kernel what the monitor
-- asks for the frame's principal
pub record SparedAsk (c : Code) (thread : Thread) (r s : Request) : Type 0 where
  pub frame : Frame
  pub below : List Frame
  pub frames : thread.frames ≡ frame ∷ below
  pub live : InBodyOf frame.crossing
  pub «module» : ℕ
  pub text : text_of c.program frame.run ≡ Some «module»
  pub ty : Scalar
  pub stored : Operand
  pub at : Operand
  pub behind : List Op
  pub code : frame.run.code ≡ op.Store ty stored at ∷ behind
  pub bare : bare_of c frame.run.function frame.run.label (stores_in behind) ≡ true
  pub asked : r ≡ request frame.principal (what.Store (bits c.program frame.run at) (word (width_of ty) (bits c.program frame.run stored)))
  pub by_kernel : s ≡ request Kernel r.what

-- both ask for the same, for the same principal but at a spared store
abbrev pub AskAlike : Code → Thread → Request → Request → Type 0
AskAlike c thread r s = (s ≡ r) ⊎ SparedAsk c thread r s

-- both ask alike, as they may, and take each answer in alike
abbrev pub AsksAlike : Code → ℕ → Thread → Request → ImageThread → Request → Type 0
AsksAlike c t thread r v s = AskAlike c thread r s × AskedBy c.program r.who r.what × AbsorbAlike c t thread v r

-- both take a register step to threads that stand for each other, or ask alike
abbrev pub StepsAgree : Code → ℕ → Step → ImageStep → Type 0
StepsAgree c t (Goes thread) (ImageGoes v) = Well c.program t thread × ThreadStands c thread v
StepsAgree c t (Asks thread r) (ImageAsks v s) = AsksAlike c t thread r v s
StepsAgree c t _ _ = ⊥

-- both come to requests that are alike
abbrev pub AskingAlike : Code → ℕ → Asking → ImageAsking → Type 0
AskingAlike c t a b = AsksAlike c t a.thread a.request b.thread b.request

-- each thread, with its number
abbrev pub Each : (ℕ → Thread → Type 0) → List Thread → Type 0
Each P [] = ⊤
Each P (x ∷ xs) = P 0 x × Each (λ k. P (suc k)) xs

-- so it is of each thread of a world
abbrev pub WorldWell : Program → World → Type 0
WorldWell p w = Each (Well p) w.threads

-- where the top frame stands at a store that lacks its guard, its principal holds the bytes, which lie in memory
abbrev pub StoreHeld : Code → History → Thread → Type 0
StoreHeld c h thread =
    (frame : Frame) (below : List Frame) (m : ℕ) (ty : Scalar) (stored at : Operand) (behind : List Op) → thread.frames ≡ frame ∷ below → InBodyOf frame.crossing
    → text_of c.program frame.run ≡ Some m → frame.run.code ≡ op.Store ty stored at ∷ behind
    → bare_of c frame.run.function frame.run.label (stores_in behind) ≡ true
    → (holds h frame.principal (Write (bits c.program frame.run at) (byte_count (width_of ty))) ≡ true)
    × (mapped (bits c.program frame.run at) (byte_count (width_of ty)) ≡ true)

-- so it is at the next request of each thread
abbrev pub StoresHeld : Code → World → Type 0
StoresHeld c w = (t : ℕ) (thread : Thread) → slice_get w.threads t ≡ Some thread → StoreHeld c w.state.history (next c.program t thread).thread
