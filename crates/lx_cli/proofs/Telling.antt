-- What an answer tells of the files' input.
use Rattle.std.proofs.Common.{◌≡◌, refl, sym, ap, subst, inl, inr, ℕ, false, is_some, List, [], ◌∷◌, ◌++◌, Option, Some, None, Result, IfOk, Ok, Err}
use Rattle.lx_input.specs.Files.InputStop.{InputStop}
use Rattle.lx_input.specs.Files.InputStop.TheVariants as stops
use Rattle.lx_input.specs.Files.Turns.{HasNoted}
use Rattle.lx_outside.specs.declared.file_text.FileText.{FileText}
use Rattle.lx_input.specs.Files.Asked.{Asked, AreThere}
use Rattle.lx_input.specs.Inputs.{InputTurn}
use Rattle.lx_input.specs.declared.input.Input.{Input}
use Rattle.lx_generated_laws.specs.Inputs.{generated_files}
use Rattle.lx_cli.specs.Command.{Command, Run, Replay, Instrument, Check, Generate, Surface, Why, CommandTurn, MayCome, UntoldBy, UntoldTurn, asked_of, case_of, count_asked}
use Rattle.lx_cli.specs.declared.answer.Answer.{Answer}
use Rattle.lx_cli.specs.declared.answer.Answer.TheVariants as answer
use Rattle.lx_runs.specs.Reports.{TellsRun}
use Rattle.lx_runs.specs.declared.told.Told.{Told}
use Rattle.lx_runs.specs.declared.told.Told.TheVariants as runs
use Rattle.lx_runs.specs.declared.why.Why.{Why as Certified}
use Rattle.lx_runs.specs.declared.why.Why.TheVariants as certified
use Rattle.lx_runs.specs.Whys.{TellsWhy}
use Rattle.lx_cli.specs.Told.{TellsInput, TellsOf, answer_of, answer_of_why}

-- the answer to an input that was read: a run has no schedule that could be broken

scheduled : (o : Option (List ℕ)) (s : List ℕ) → is_some o ≡ false → o ≡ Some s → ⊥
scheduled None s none is = absurd cc
scheduled (Some x) s none is = absurd cc

told_run : (case : List ℕ) (turn : Result Input InputStop → Type 0) (i : Input) (t : Told) → is_some i.besides.schedule ≡ false → turn (Ok i)
    → TellsRun i.program i.script i.besides.schedule t → TellsInput (Some (Run case)) turn (answer_of t)
told_run case turn i (runs.Broken entry) none comes is = absurd (scheduled i.besides.schedule is.0 none is.1)
told_run case turn i (runs.Report text returned) none comes is = (i, comes, record { report = is.0; asked = is.1 })

told_replay : (case schedule : List ℕ) (turn : Result Input InputStop → Type 0) (i : Input) (t : Told) → turn (Ok i)
    → TellsRun i.program i.script i.besides.schedule t → TellsInput (Some (Replay case schedule)) turn (answer_of t)
told_replay case schedule turn i (runs.Broken entry) comes is = (i, comes, is)
told_replay case schedule turn i (runs.Report text returned) comes is = (i, comes, record { report = is.0; asked = is.1 })

told_why : (case schedule : List ℕ) (turn : Result Input InputStop → Type 0) (i : Input) (w : Certified) → turn (Ok i)
    → TellsWhy i.program i.script i.besides.schedule w → TellsInput (Some (Why case schedule)) turn (answer_of_why w)
told_why case schedule turn i (certified.Broken entry) comes is = (i, comes, is)
told_why case schedule turn i (certified.Text text) comes is = (i, comes, is)

pub told_input : (c : Command) (turn : Result Input InputStop → Type 0) (i : Input) (a : Answer) → AreThere (asked_of c) i.besides → turn (Ok i) → TellsOf c i a → TellsInput (Some c) turn a
told_input (Run case) turn i a there comes (t, same, is) = subst (TellsInput (Some (Run case)) turn) (sym same) (told_run case turn i t there.schedule comes is)
told_input (Replay case schedule) turn i a there comes (t, same, is) = subst (TellsInput (Some (Replay case schedule)) turn) (sym same) (told_replay case schedule turn i t comes is)
told_input (Instrument case part) turn i a there comes (text, same, is) = subst (TellsInput (Some (Instrument case part)) turn) (sym same) (i, comes, is)
told_input (Check case part image) turn i a there comes (inl (same, is)) = subst (TellsInput (Some (Check case part image)) turn) (sym same) (i, comes, (is, refl))
told_input (Check case part image) turn i a there comes (inr (line, same, is)) = subst (TellsInput (Some (Check case part image)) turn) (sym same) (i, comes, is)
told_input (Generate count) turn i a there comes (text, same, is) = subst (TellsInput (Some (Generate count)) turn) (sym same) (i, comes, is)
told_input (Surface case) turn i a there comes (text, same, is) = subst (TellsInput (Some (Surface case)) turn) (sym same) (i, comes, is)
told_input (Why case schedule) turn i a there comes (w, same, is) = subst (TellsInput (Some (Why case schedule)) turn) (sym same) (told_why case schedule turn i w comes is)

-- an answer to an input names no file that was not read

no_unread : (t : Told) (file : List ℕ) → answer.Unread file ≡ answer_of t → ⊥
no_unread (runs.Broken entry) file same = cc
no_unread (runs.Report text returned) file same = cc

no_unread_why : (w : Certified) (file : List ℕ) → answer.Unread file ≡ answer_of_why w → ⊥
no_unread_why (certified.Broken entry) file same = cc
no_unread_why (certified.Text text) file same = cc

pub names_none : (c : Command) (i : Input) (file : List ℕ) → TellsOf c i (answer.Unread file) → ⊥
names_none (Run case) i file (t, same, is) = no_unread t file same
names_none (Replay case schedule) i file (t, same, is) = no_unread t file same
names_none (Instrument case part) i file (text, same, is) = absurd cc
names_none (Check case part image) i file (inl (same, is)) = absurd cc
names_none (Check case part image) i file (inr (line, same, is)) = absurd cc
names_none (Generate count) i file (text, same, is) = absurd cc
names_none (Surface case) i file (text, same, is) = absurd cc
names_none (Why case schedule) i file (w, same, is) = no_unread_why w file same

-- and to one that ended
pub told_stop : (c : Option Command) (turn : Result Input InputStop → Type 0) (stop : InputStop) (a : Answer) → turn (Err stop)
    → TellsInput None (λ (came : Result Input InputStop). came ≡ Err stop) a → TellsInput c turn a
told_stop c turn stop (answer.Fault f) comes is = subst turn (sym is) comes
told_stop c turn stop (answer.Unread file) comes is = subst turn (sym is) comes
told_stop c turn stop (answer.Broken entry) comes is = let no = is.1 in absurd cc
told_stop c turn stop (answer.Report text returned) comes is = let no = is.1 in absurd cc
told_stop c turn stop (answer.Text text) comes is = let no = is.1 in absurd cc
told_stop c turn stop answer.Accepted comes is = let no = is.1 in absurd cc
told_stop c turn stop (answer.Refused f) comes is = let no = is.1 in absurd cc

-- the names of a command are those of its words
pub moved_turn : (files : List FileText) (case other : List ℕ) (a b : Asked) (r : Result Input InputStop) → case ≡ other → a ≡ b → InputTurn files case a r → InputTurn files other b r
moved_turn files case other a b r e f turn = subst (λ (q : Asked). InputTurn files other q r) f (subst (λ (q : List ℕ). InputTurn files q a r) e turn)

-- what holds of the value of a result

pub if_ok_at : {A E : Type 0} (P : A → Type 0) (r : Result A E) (a : A) → IfOk r P → r ≡ Ok a → P a
if_ok_at {A} {E} P (Ok b) a is same = let e : b ≡ a = cc in subst P e is
if_ok_at {A} {E} P (Err e) a is same = absurd cc

-- a file that was not read is the shelf's newest fault

-- the file of an answer, where it names one that was not read
abbrev NamesNewest : List (List ℕ) → List (List ℕ) → Answer → Type 0
NamesNewest before now (answer.Fault f) = Unit {0}
NamesNewest before now (answer.Unread file) = now ≡ before ++ file ∷ []
NamesNewest before now (answer.Broken entry) = Unit {0}
NamesNewest before now (answer.Report text returned) = Unit {0}
NamesNewest before now (answer.Text text) = Unit {0}
NamesNewest before now answer.Accepted = Unit {0}
NamesNewest before now (answer.Refused f) = Unit {0}

pub noted_stop : (before now : List (List ℕ)) (stop : InputStop) (a : Answer) (file : List ℕ) → HasNoted {A = Input} before now (Err stop)
    → TellsInput None (λ (came : Result Input InputStop). came ≡ Err stop) a → a ≡ answer.Unread file → now ≡ before ++ file ∷ []
noted_stop before now stop (answer.Fault f) file noted is same = absurd cc
noted_stop before now stop (answer.Unread other) file noted is same =
    let named : HasNoted {A = Input} before now (Err (stops.Unread other)) = subst (λ (came : Result Input InputStop). HasNoted before now came) (sym is) noted in
    subst (λ (b : Answer). NamesNewest before now b) same named
noted_stop before now stop (answer.Broken entry) file noted is same = absurd cc
noted_stop before now stop (answer.Report text returned) file noted is same = absurd cc
noted_stop before now stop (answer.Text text) file noted is same = absurd cc
noted_stop before now stop answer.Accepted file noted is same = absurd cc
noted_stop before now stop (answer.Refused f) file noted is same = absurd cc

-- the files of a command: its own where it generates a case, and else those of the shelf

pub generated_is : (c : Command) (count : ℕ) → count_asked c ≡ Some count → c ≡ Generate count
generated_is (Run case) count is = absurd cc
generated_is (Replay case schedule) count is = absurd cc
generated_is (Instrument case part) count is = absurd cc
generated_is (Check case part image) count is = absurd cc
generated_is (Generate n) count is = let same : n ≡ count = cc in ap Generate same
generated_is (Surface case) count is = absurd cc
generated_is (Why case schedule) count is = absurd cc

pub generated_turn : (files : List FileText) (c : Command) (count : ℕ) (a : Answer) → count_asked c ≡ Some count → TellsInput (Some c) (InputTurn (generated_files count) (case_of c) (asked_of c)) a
    → TellsInput (Some c) (CommandTurn files (Some c)) a
generated_turn files c count a is tells = moved c (generated_is c count is) tells where
  moved : (d : Command) → d ≡ Generate count → TellsInput (Some d) (InputTurn (generated_files count) (case_of d) (asked_of d)) a → TellsInput (Some d) (CommandTurn files (Some d)) a
  moved d same = subst (λ (e : Command). TellsInput (Some e) (InputTurn (generated_files count) (case_of e) (asked_of e)) a → TellsInput (Some e) (CommandTurn files (Some e)) a) (sym same) (λ t. t)

pub shelf_turn : (files : List FileText) (c : Command) (a : Answer) → count_asked c ≡ None → TellsInput (Some c) (InputTurn files (case_of c) (asked_of c)) a → TellsInput (Some c) (CommandTurn files (Some c)) a
shelf_turn files (Run case) a is tells = tells
shelf_turn files (Replay case schedule) a is tells = tells
shelf_turn files (Instrument case part) a is tells = tells
shelf_turn files (Check case part image) a is tells = tells
shelf_turn files (Generate count) a is tells = absurd cc
shelf_turn files (Surface case) a is tells = tells
shelf_turn files (Why case schedule) a is tells = tells

pub not_generated : (c : Command) (count : ℕ) → count_asked c ≡ None → c ≡ Generate count → ⊥
not_generated c count none is = let some : count_asked c ≡ Some count = ap count_asked is in absurd cc

-- the same, where the shelf does not tell its files

pub untold_own : (c : Command) (count : ℕ) (before now : List (List ℕ)) (a : Answer) → count_asked c ≡ Some count → TellsInput (Some c) (InputTurn (generated_files count) (case_of c) (asked_of c)) a
    → TellsInput (Some c) (UntoldTurn (Some c) before now) a
untold_own c count before now a is tells = subst (λ (o : Option ℕ). TellsInput (Some c) (UntoldBy o c before now) a) (sym is) tells

pub untold_shelf : (c : Command) (before now : List (List ℕ)) (a : Answer) → count_asked c ≡ None → TellsInput (Some c) (MayCome (asked_of c) before now) a → TellsInput (Some c) (UntoldTurn (Some c) before now) a
untold_shelf c before now a is tells = subst (λ (o : Option ℕ). TellsInput (Some c) (UntoldBy o c before now) a) (sym is) tells
