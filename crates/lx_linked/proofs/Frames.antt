-- Frames of both runs, one by one.
use Rattle.std.proofs.Common.{◌≡◌, ℕ, suc, Bool, true, false, List, [], ◌∷◌, ◌++◌, length, replicate, Option, Some, None, refl, sym, subst, ap, arith}
use Rattle.std.specs.Prelude.{is_some, nat_lt}
use Rattle.std.proofs.lemmas.Bool.Decides.{nat_tests}
use Rattle.lx_words.specs.Word.{Word}
use Rattle.lx_words.proofs.Tests.{true_false, none_below}
use Rattle.lx_ir.specs.declared.module.Function.{Function}
use Rattle.lx_ir.specs.declared.instr.Op.{Op}
use Rattle.lx_model.specs.declared.program.Program.{Program}
use Rattle.lx_model.specs.declared.program.ScriptCall.{ScriptCall}
use Rattle.lx_model.specs.declared.request.Outcome.{Outcome}
use Rattle.lx_model.specs.declared.request.What.{What}
use Rattle.lx_model.specs.Program.{function_of}
use Rattle.lx_model.specs.Thread.{Activation, Stage, Post, Crossing, Frame, Ending, Thread, activation, routine_or_none, start_of, with_register, head_destination, activation_behind, zero_word}
use Rattle.lx_model.specs.Next.{with_alloca, without_allocas, with_run}
use Rattle.lx_linked.specs.Filled.{Fill, refill, param_count, filled_frame, filled_if, filled}
use Rattle.lx_linked.proofs.Standing.{holding, Answered, started, refill_length}
use Rattle.lx_linked.proofs.AssignedEffects.{StandsBy, StandsIn, stands_past}
use Rattle.lx_linked.proofs.Signatures.{Takes}
use Rattle.lx_linked.proofs.Calling.{needs, AskFits, HasResult}
use Rattle.lx_linked.proofs.Entering.{top_code}
use Rattle.lx_model.proofs.Activations.{behind_none}

-- the frame with other registers
abbrev pub frame_with : List Word → Frame → Frame
frame_with rs f = with_run f (holding rs f.run)

abbrev pub with_all : List (List Word) → List Frame → List Frame
with_all [] fs = []
with_all (q ∷ qs) [] = []
with_all (q ∷ qs) (f ∷ fs) = frame_with q f ∷ with_all qs fs

abbrev pub thread_of : List ScriptCall → List Ending → ℕ → Option Outcome → List Frame → Thread
thread_of calls ended fuel due frames = record { calls = calls; ended = ended; fuel = fuel; due = due; frames = frames }

abbrev pub thread_with : List (List Word) → Thread → Thread
thread_with qs thread = record thread { frames = with_all qs thread.frames }

-- a frame whose caller waits for a result gives one

abbrev pub StageGives : Stage → Type 0
StageGives (Post k v) = is_some v ≡ true
StageGives s = Unit {0}

abbrev pub CrossingGives : Option Crossing → Type 0
CrossingGives None = Unit {0}
CrossingGives (Some c) = StageGives c.stage

abbrev pub Owes : Program → Frame → List Frame → Type 0
Owes p f fs = needs (top_code fs) ≡ true → HasResult p f.run.function × CrossingGives f.crossing

abbrev pub FramesStood : Program → List Frame → List (List Word) → Type 0
FramesStood p [] [] = Unit {0}
FramesStood p (f ∷ fs) (q ∷ qs) = StandsIn p f.run q × Owes p f fs × FramesStood p fs qs
FramesStood p _ _ = ⊥

abbrev pub CallsFit : Program → List ScriptCall → Type 0
CallsFit p [] = Unit {0}
CallsFit p (c ∷ cs) = Takes p false (length c.args) c.function × CallsFit p cs

abbrev pub ThreadStood : Program → Thread → List (List Word) → Type 0
ThreadStood p thread qs = FramesStood p thread.frames qs × CallsFit p thread.calls

abbrev pub AskedWell : Program → List Frame → What → Type 0
AskedWell p fs w = AskFits p (top_code fs) w

-- the filled thread is the other one with other registers
abbrev pub ComesSame : Fill → Program → ℕ → Thread → Thread → Thread → Type 0
ComesSame fill p t before x y = (rs : List (List Word)) × (filled fill p t before y ≡ thread_with rs x) × ThreadStood p x rs

pub as_many : (p : Program) (fs : List Frame) (qs : List (List Word)) → FramesStood p fs qs → length (with_all qs fs) ≡ length fs
as_many p [] [] st = refl
as_many p [] (q ∷ qs) st = absurd st
as_many p (f ∷ fs) [] st = absurd st
as_many p (f ∷ fs) (q ∷ qs) st = ap suc (as_many p fs qs st.2)

-- frames that are no more

not_more : (m n : ℕ) → m ≡ n → nat_lt m n ≡ false
not_more m n e = grind (arith, nat_tests, e)

not_less : (m n : ℕ) → m ≡ suc n → nat_lt m n ≡ false
not_less m n e = grind (arith, nat_tests, e)

one_more : (m n : ℕ) → suc m ≡ n → nat_lt m n ≡ true
one_more m n e = grind (arith, nat_tests, e)

kept_if : (fill : Fill) (p : Program) (t : ℕ) (before y : Thread) → nat_lt (length before.frames) (length y.frames) ≡ false → filled fill p t before y ≡ y
kept_if fill p t before y e = ap (λ (b : Bool). filled_if b p (fill t before) y) e

pub kept : (fill : Fill) (p : Program) (t : ℕ) (before y : Thread) → length before.frames ≡ length y.frames → filled fill p t before y ≡ y
kept fill p t before y e = kept_if fill p t before y (not_more (length before.frames) (length y.frames) e)

pub left : (fill : Fill) (p : Program) (t : ℕ) (before y : Thread) → length before.frames ≡ suc (length y.frames) → filled fill p t before y ≡ y
left fill p t before y e = kept_if fill p t before y (not_less (length before.frames) (length y.frames) e)

pub emptied : (fill : Fill) (p : Program) (t : ℕ) (before : Thread) (calls : List ScriptCall) (ended : List Ending) (fuel : ℕ) (due : Option Outcome) → filled fill p t before (thread_of calls ended fuel due []) ≡ thread_of calls ended fuel due []
emptied fill p t before calls ended fuel due = kept_if fill p t before (thread_of calls ended fuel due []) (none_below (length before.frames))

pub pushed : (fill : Fill) (p : Program) (t : ℕ) (before : Thread) (calls : List ScriptCall) (ended : List Ending) (fuel : ℕ) (due : Option Outcome) (f : Frame) (fs : List Frame) → length before.frames ≡ length fs →
    filled fill p t before (thread_of calls ended fuel due (f ∷ fs)) ≡ thread_of calls ended fuel due (filled_frame p (fill t before) f ∷ fs)
pushed fill p t before calls ended fuel due f fs e =
    ap (λ (b : Bool). filled_if b p (fill t before) (thread_of calls ended fuel due (f ∷ fs))) (one_more (length before.frames) (length (f ∷ fs)) (ap suc e))

-- a function that begins

begun_by : (p : Program) (n : ℕ) (args : List Word) (low : ℕ) (fresh : ℕ → Word) (o : Option Function) → ((g : Function) → o ≡ Some g → length args ≡ length g.params) →
    StandsBy o (start_of n (routine_or_none o) args low) (refill (param_count o) fresh (start_of n (routine_or_none o) args low).registers)
begun_by p n args low fresh None count = (refl, refill_length 0 fresh (args ++ replicate 0 zero_word))
begun_by p n args low fresh (Some g) count = started g n args low fresh (count g refl)

pub begun : (p : Program) (need : Bool) (n : ℕ) (args : List Word) (low : ℕ) (fresh : ℕ → Word) → Takes p need (length args) n → StandsIn p (activation p n args low) (refill (param_count (function_of p n)) fresh (activation p n args low).registers)
begun p need n args low fresh takes = begun_by p n args low fresh (function_of p n) (λ g e. (takes g e).0)

-- a function that goes on

answered_by : (to : Option ℕ) (v : Option Word) → (is_some to ≡ true → is_some v ≡ true) → Answered to v
answered_by None v h = tt
answered_by (Some k) None h = true_false (sym (h refl))
answered_by (Some k) (Some w) h = tt

goes_behind : (p : Program) (a : Activation) (qs : List Word) (v : Option Word) (code : List Op) → a.code ≡ code → (needs code ≡ true → is_some v ≡ true) → StandsIn p a qs → StandsIn p (activation_behind v a) (with_register (head_destination a.code) v qs)
goes_behind p a qs v [] ec h st =
    subst (λ (os : List Op). StandsIn p (activation_behind v a) (with_register (head_destination os) v qs)) (sym ec) (subst (λ (b : Activation). StandsIn p b qs) (behind_none a v ec) st)
goes_behind p a qs v (o ∷ os) ec h st = stands_past p a qs o os v ec (answered_by _ v h) st

pub stands_behind : (p : Program) (a : Activation) (qs : List Word) (v : Option Word) → (needs a.code ≡ true → is_some v ≡ true) → StandsIn p a qs → StandsIn p (activation_behind v a) (with_register (head_destination a.code) v qs)
stands_behind p a qs v h st = goes_behind p a qs v a.code refl h st

-- bytes on the stack change nothing of this

alloca_by : (f : Option Function) (a : Activation) (qs : List Word) (at size : ℕ) → StandsBy f a qs → StandsBy f (with_alloca at size a) qs
alloca_by None a qs at size st = st
alloca_by (Some g) a qs at size st =
    record { blocks = st.blocks; block = st.block; place = st.place; label = st.label; code = st.code; walk = st.walk; comes = st.comes; many = st.many; long = st.long; same = st.same }

pub stands_with_bytes : (p : Program) (a : Activation) (qs : List Word) (at size : ℕ) → StandsIn p a qs → StandsIn p (with_alloca at size a) qs
stands_with_bytes p a qs at size st = alloca_by (function_of p a.function) a qs at size st

bare_by : (f : Option Function) (a : Activation) (qs : List Word) → StandsBy f a qs → StandsBy f (without_allocas a) qs
bare_by None a qs st = st
bare_by (Some g) a qs st =
    record { blocks = st.blocks; block = st.block; place = st.place; label = st.label; code = st.code; walk = st.walk; comes = st.comes; many = st.many; long = st.long; same = st.same }

pub stands_without_bytes : (p : Program) (a : Activation) (qs : List Word) → StandsIn p a qs → StandsIn p (without_allocas a) qs
stands_without_bytes p a qs st = bare_by (function_of p a.function) a qs st
