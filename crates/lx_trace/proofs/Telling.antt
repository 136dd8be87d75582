-- What an answer tells of what the files come to.
use Rattle.std.proofs.Common.{◌≡◌, ◌∙◌, sym, ap, subst, refl, ℕ, false, is_some, List, [], ◌∷◌, ◌++◌, Option, Some, None, Result, Ok, Err}
use Rattle.lx_outside.specs.declared.file_text.FileText.{FileText}
use Rattle.lx_input.specs.Files.InputStop.{InputStop}
use Rattle.lx_input.specs.Files.InputStop.TheVariants as stops
use Rattle.lx_input.specs.Files.Turns.{HasNoted}
use Rattle.lx_input.specs.declared.input.Input.{Input}
use Rattle.lx_input.specs.Files.Laws.{IsOne}
use Rattle.lx_model.specs.declared.account.Account.{Account}
use Rattle.lx_model.specs.World.{opening}
use Rattle.lx_runs.specs.Reports.{IsAccountOfRun, IsAsked, broken_at}
use Rattle.lx_runs.proofs.Journal.{schedule_ran}
use Rattle.lx_runs.specs.declared.told.Told.{Told}
use Rattle.lx_runs.specs.declared.told.Told.TheVariants as runs
use Rattle.lx_cli.specs.Command.{Command, CommandTurn, Replay}
use Rattle.lx_cli.specs.Rows.{answer_text, status_of}
use Rattle.lx_cli.specs.Told.{answer_of}
use Rattle.lx_cli.specs.declared.answer.Answer.{Answer}
use Rattle.lx_cli.specs.declared.answer.Answer.TheVariants as answer
use Rattle.lx_cli.proofs.Replays.{whole_unbroken}
use Rattle.lx_trace.specs.Tells.{TellsTrace}
use Rattle.lx_trace.specs.Traced.{IsGiven, IsReplayed, IsTold, TellsTraceOf, TellsTraced, TellsUnder, answer_of_stop, usage_line}

-- no schedule is asked for where there is none
free : (o : Option (List ℕ)) (s : List ℕ) → is_some o ≡ false → IsAsked o s
free None s none = tt
free (Some x) s none = absurd cc

-- what is told of a trace under a schedule is told of the input, which asks for that schedule or for none
told_trace : (i : Input) (schedule : Option (List ℕ)) (t : Told) → ((s : List ℕ) → schedule ≡ Some s → IsAsked i.besides.schedule s)
    → TellsTrace i.program i.script schedule t → TellsTraceOf i (answer_of t)
told_trace i schedule (runs.Broken entry) fits (s, is, at) = (s, fits s is, at)
told_trace i schedule (runs.Report text returned) fits (s, is, traced) = (s, fits s is, traced)

pub told_replay : (i : Input) (a : Answer) → TellsUnder i.besides.schedule i a → TellsTraceOf i a
told_replay i a (t, same, is) =
    subst (TellsTraceOf i) (sym same) (told_trace i i.besides.schedule t (λ s some. subst (λ (o : Option (List ℕ)). IsAsked o s) (sym some) refl) is)

pub told_run : (i : Input) (schedule : List ℕ) (a : Answer) → is_some i.besides.schedule ≡ false → TellsUnder (Some schedule) i a → TellsTraceOf i a
told_run i schedule a none (t, same, is) = subst (TellsTraceOf i) (sym same) (told_trace i (Some schedule) t (λ s some. free i.besides.schedule s none) is)

-- a trace names no file that was not read
pub names_none : (schedule : Option (List ℕ)) (i : Input) (file : List ℕ) → TellsUnder schedule i (answer.Unread file) → ⊥
names_none schedule i file (runs.Broken entry, same, is) = absurd cc
names_none schedule i file (runs.Report text returned, same, is) = absurd cc

-- where the schedule is not whole, it is the one that is replayed, or that is given

pub replayed_broken : (case schedule : List ℕ) (turn : Result Input InputStop → Type 0) (i : Input) (a : Answer) → turn (Ok i) → TellsUnder i.besides.schedule i a → IsReplayed (Replay case schedule) turn a
replayed_broken case schedule turn i a comes (t, same, is) = subst (IsReplayed (Replay case schedule) turn) (sym same) (on t is) where
  on : (t : Told) → TellsTrace i.program i.script i.besides.schedule t → IsReplayed (Replay case schedule) turn (answer_of t)
  on (runs.Broken entry) is = (i, comes, is)
  on (runs.Report text returned) is = tt

pub given_broken : (schedule : List ℕ) (turn : Result Input InputStop → Type 0) (i : Input) (a : Answer) → turn (Ok i) → TellsUnder (Some schedule) i a → IsGiven schedule turn a
given_broken schedule turn i a comes (t, same, is) = subst (IsGiven schedule turn) (sym same) (on t is) where
  on : (t : Told) → TellsTrace i.program i.script (Some schedule) t → IsGiven schedule turn (answer_of t)
  on (runs.Broken entry) (s, some, at) =
      let e : s ≡ schedule = cc in
      (i, comes, subst (λ (x : List ℕ). broken_at i.program x (opening i.program i.script) ≡ Some entry) e at)
  on (runs.Report text returned) is = tt

-- what ended an input says nothing of a schedule

pub replayed_stop : (c : Command) (turn : Result Input InputStop → Type 0) (stop : InputStop) (a : Answer) → answer_of_stop stop ≡ Some a → IsReplayed c turn a
replayed_stop c turn (stops.Fault f) a is = let same : answer.Fault f ≡ a = cc in subst (IsReplayed c turn) same tt
replayed_stop c turn (stops.Unread file) a is = let same : answer.Unread file ≡ a = cc in subst (IsReplayed c turn) same tt
replayed_stop c turn stops.Memory a is = absurd cc

pub given_stop : (s : List ℕ) (turn : Result Input InputStop → Type 0) (stop : InputStop) (a : Answer) → answer_of_stop stop ≡ Some a → IsGiven s turn a
given_stop s turn (stops.Fault f) a is = let same : answer.Fault f ≡ a = cc in subst (IsGiven s turn) same tt
given_stop s turn (stops.Unread file) a is = let same : answer.Unread file ≡ a = cc in subst (IsGiven s turn) same tt
given_stop s turn stops.Memory a is = absurd cc

-- the schedule that arose in a run is whole for the one input that the files come to
pub arose_whole : (c : Command) (turn : Result Input InputStop → Type 0) → IsOne turn → (i : Input) → turn (Ok i) → (x : Account) → IsAccountOfRun i.program i.script x
    → (s : List ℕ) → s ≡ x.schedule → (a : Answer) → IsGiven s turn a → IsReplayed c turn a
arose_whole c turn one i comes x (ran, whole, is) s same (answer.Broken entry) (j, comes_j, at) =
    let results : ◌≡◌ {A = Result Input InputStop} (Ok j) (Ok i) = one (Ok j) (Ok i) comes_j comes tt tt in
    let inputs : j ≡ i = cc in
    let schedules : s ≡ ran = same ∙ ap (λ (y : Account). y.schedule) is ∙ schedule_ran i.program ran (opening i.program i.script) refl whole in
    let here : broken_at i.program s (opening i.program i.script) ≡ Some entry = subst (λ (k : Input). broken_at k.program s (opening k.program k.script) ≡ Some entry) inputs at in
    let there : broken_at i.program ran (opening i.program i.script) ≡ Some entry = subst (λ (y : List ℕ). broken_at i.program y (opening i.program i.script) ≡ Some entry) schedules here in
    let none = whole_unbroken i.program ran (opening i.program i.script) whole in
    absurd cc
arose_whole c turn one i comes x is s same (answer.Fault f) given = tt
arose_whole c turn one i comes x is s same (answer.Unread file) given = tt
arose_whole c turn one i comes x is s same (answer.Report text returned) given = tt
arose_whole c turn one i comes x is s same (answer.Text text) given = tt
arose_whole c turn one i comes x is s same answer.Accepted given = tt
arose_whole c turn one i comes x is s same (answer.Refused f) given = tt

-- an answer to an input is one to files that come to it
pub told_input : (turn : Result Input InputStop → Type 0) (i : Input) (a : Answer) → turn (Ok i) → TellsTraceOf i a → TellsTraced turn a
told_input turn i (answer.Fault f) comes is = absurd is
told_input turn i (answer.Unread file) comes is = absurd is
told_input turn i (answer.Broken entry) comes is = (i, comes, is)
told_input turn i (answer.Report text returned) comes is = (i, comes, is)
told_input turn i (answer.Text text) comes is = (i, comes, is)
told_input turn i answer.Accepted comes is = (i, comes, is)
told_input turn i (answer.Refused f) comes is = (i, comes, is)

-- and to one that ended
pub told_stop : (turn : Result Input InputStop → Type 0) (stop : InputStop) (a : Answer) → turn (Err stop) → answer_of_stop stop ≡ Some a → TellsTraced turn a
told_stop turn (stops.Fault f) a comes is = let same : answer.Fault f ≡ a = cc in subst (TellsTraced turn) same comes
told_stop turn (stops.Unread file) a comes is = let same : answer.Unread file ≡ a = cc in subst (TellsTraced turn) same comes
told_stop turn stops.Memory a comes is = absurd cc

-- a file that was not read is the shelf's newest fault
pub noted_stop : (before now : List (List ℕ)) (stop : InputStop) (file : List ℕ) → HasNoted {A = Input} before now (Err stop)
    → answer_of_stop stop ≡ Some (answer.Unread file) → now ≡ before ++ file ∷ []
noted_stop before now (stops.Fault f) file noted is = absurd cc
noted_stop before now (stops.Unread other) file noted is = let same : other ≡ file = cc in subst (λ (x : List ℕ). now ≡ before ++ x ∷ []) same noted
noted_stop before now stops.Memory file noted is = absurd cc

-- the text of an answer is told, where the words ask for what is answered
pub is_told : (turn : Option Command → Result Input InputStop → Type 0) (asked : Option Command) (c : Command) (a : Answer) → Some c ≡ asked → TellsTraced (turn (Some c)) a
    → (status : ℕ) (text : List ℕ) → status ≡ status_of a → text ≡ answer_text a → IsTold asked (turn asked) status text
is_told turn asked c a is tells status text same_status same_text =
    subst (λ (o : Option Command). IsTold o (turn o) status text) is (a, tells, same_status, same_text)

-- and that of the usage, where they ask for nothing
pub none_told : (turn : Result Input InputStop → Type 0) (asked : Option Command) → None ≡ asked → (status : ℕ) → status ≡ 2 → IsTold asked turn status usage_line
none_told turn asked none status is = subst (λ (o : Option Command). IsTold o turn status usage_line) none (is, refl)

-- then the files come to nothing
pub none_asked : (files : List FileText) (asked : Option Command) (r : Result Input InputStop) → None ≡ asked → CommandTurn files asked r → ⊥
none_asked files asked r none is = subst (λ (o : Option Command). CommandTurn files o r) (sym none) is
