-- When each status comes.
use Rattle.std.proofs.Common.{◌≡◌, ◌≢◌, ◌∙◌, sym, ap, subst, refl, ◌⊎◌, inl, inr, ℕ, ◌≤◌, Bool, true, false, List, [], ◌∷◌, ◌++◌, Option, Some, None, Result, Ok, Err, if◌then◌else◌, arith}
use Rattle.lx_model.specs.World.{opening, is_whole}
use Rattle.lx_outside.specs.declared.file_text.FileText.{FileText}
use Rattle.lx_outside.specs.Files.{file_at}
use Rattle.lx_input.specs.Files.FaultLine.{FaultLine}
use Rattle.lx_input.specs.Files.InputStop.{InputStop}
use Rattle.lx_input.specs.Files.InputStop.TheVariants as stops
use Rattle.lx_input.specs.Files.Laws.{IsOne, EndsAt}
use Rattle.lx_input.specs.declared.input.Input.{Input}
use Rattle.lx_input.specs.Laws.{OneInput, MissingFilesEnd}
use Rattle.lx_input.specs.Files.ImageFile.{ImageFile}
use Rattle.lx_runs.specs.Reports.{IsAsked}
use Rattle.lx_cli.specs.Answer.{IsBroken, IsReportOf, IsWhyOf, IsAccepted, IsRefusedBy, HasProgram, MadeBy, BrokenBy, RefusedBy, EndedBy, HasEnded, accepted_line, unread_line}
use Rattle.lx_cli.specs.Command.{Command, Run, Replay, Instrument, Check, Generate, Surface, Why, CommandTurn, ComesTo, IsRun, IsGenerated, asked_of, case_of, command_of, files_by, files_of}
use Rattle.lx_cli.specs.declared.answer.Answer.{Answer}
use Rattle.lx_cli.specs.declared.answer.Answer.TheVariants as answer
use Rattle.lx_cli.specs.Rows.{NoNewFault, answer_text, status_of}
use Rattle.lx_cli.specs.Told.{TellsInput}
use Rattle.lx_cli.proofs.Answered.{Comes, broken_of, fault_met, fault_of, five_or, missing_met, no_fault_in, refused_of, same_input}
use Rattle.lx_cli.proofs.Replays.{whole_unbroken}

-- no command comes to nothing
pub none_comes : (words : List (List ℕ)) (files : List FileText) (r : Result Input InputStop) → command_of words ≡ None → ComesTo words files r → ⊥
none_comes words files r none is = subst (λ (o : Option Command). CommandTurn files o r) none is

-- a run is not broken
pub run_is_whole : (words : List (List ℕ)) (files : List FileText) → IsRun words → (i : Input) × (entry : ℕ) × ComesTo words files (Ok i) × BrokenBy (command_of words) i entry → ⊥
run_is_whole words files (case, command) (i, entry, is, at) = subst (λ (o : Option Command). BrokenBy o i entry) command at

-- a report is of a whole schedule
report_is_whole : (i : Input) (returned : Bool) (text : List ℕ) (entry : ℕ) → IsReportOf i returned text → IsBroken i entry → ⊥
report_is_whole i returned text entry r (asked, some, at) =
    let same : IsAsked (Some asked) r.report.schedule = subst (λ (o : Option (List ℕ)). IsAsked o r.report.schedule) some r.asked in
    let whole : is_whole i.program asked (opening i.program i.script) ≡ true = rw (← same) r.report.whole in
    let unbroken = whole_unbroken i.program asked (opening i.program i.script) whole in
    absurd cc

-- so are certificates
why_is_whole : (i : Input) (text : List ℕ) (entry : ℕ) → IsWhyOf i text → IsBroken i entry → ⊥
why_is_whole i text entry (asked, some, why) (other, there, at) =
    let same : other ≡ asked = cc (some, there) in
    let whole : is_whole i.program other (opening i.program i.script) ≡ true = rw same why.whole in
    let unbroken = whole_unbroken i.program other (opening i.program i.script) whole in
    absurd cc

-- what a command makes of its input keeps the other ends from it

made_not_broken : (o : Option Command) (i : Input) (well : Bool) (text : List ℕ) (entry : ℕ) → MadeBy o i well text → BrokenBy o i entry → ⊥
made_not_broken None i well text entry made broken = broken
made_not_broken (Some (Run case)) i well text entry made broken = broken
made_not_broken (Some (Replay case schedule)) i well text entry made broken = report_is_whole i well text entry made broken
made_not_broken (Some (Instrument case part)) i well text entry made broken = broken
made_not_broken (Some (Check case part image)) i well text entry made broken = broken
made_not_broken (Some (Generate count)) i well text entry made broken = broken
made_not_broken (Some (Surface case)) i well text entry made broken = broken
made_not_broken (Some (Why case schedule)) i true text entry made broken = why_is_whole i text entry made broken
made_not_broken (Some (Why case schedule)) i false text entry made broken = made

refused_not_broken : (o : Option Command) (i : Input) (line : FaultLine) (entry : ℕ) → RefusedBy o i line → BrokenBy o i entry → ⊥
refused_not_broken None i line entry refused broken = broken
refused_not_broken (Some (Run case)) i line entry refused broken = broken
refused_not_broken (Some (Replay case schedule)) i line entry refused broken = refused
refused_not_broken (Some (Instrument case part)) i line entry refused broken = broken
refused_not_broken (Some (Check case part image)) i line entry refused broken = broken
refused_not_broken (Some (Generate count)) i line entry refused broken = broken
refused_not_broken (Some (Surface case)) i line entry refused broken = broken
refused_not_broken (Some (Why case schedule)) i line entry refused broken = refused

accepted_not_refused : (i : Input) (line : FaultLine) → IsAccepted i → IsRefusedBy i line → ⊥
accepted_not_refused i line (x, there, has, none) (y, f, same, lacks, some, is) =
    let x_is : x ≡ y = cc (there, same) in
    lacks (subst (λ (z : ImageFile). HasProgram i.program.interface z.text) x_is has)

made_not_refused : (o : Option Command) (i : Input) (well : Bool) (text : List ℕ) (line : FaultLine) → MadeBy o i well text → RefusedBy o i line → ⊥
made_not_refused None i well text line made refused = refused
made_not_refused (Some (Run case)) i well text line made refused = refused
made_not_refused (Some (Replay case schedule)) i well text line made refused = refused
made_not_refused (Some (Instrument case part)) i well text line made refused = refused
made_not_refused (Some (Check case part image)) i true text line made refused = accepted_not_refused i line made.0 refused
made_not_refused (Some (Check case part image)) i false text line made refused = made
made_not_refused (Some (Generate count)) i well text line made refused = refused
made_not_refused (Some (Surface case)) i well text line made refused = refused
made_not_refused (Some (Why case schedule)) i well text line made refused = refused

-- how a command ends

ended : (i : Input) (returned : Bool) (text : List ℕ) (result : ℕ) → IsReportOf i returned text → result ≡ (if returned then 0 else 1) → HasEnded i result
ended i returned text result made is = record {
  schedule = made.report.schedule;
  asked = made.asked;
  whole = made.report.whole;
  is_status = is ∙ sym (ap (λ b. if b then 0 else 1) made.report.status);
}

ended_well : (o : Option Command) (i : Input) (text : List ℕ) (result : ℕ) → MadeBy o i true text → result ≡ 0 → EndedBy o i result
ended_well None i text result made is = made
ended_well (Some (Run case)) i text result made is = ended i true text result made is
ended_well (Some (Replay case schedule)) i text result made is = inl (ended i true text result made is)
ended_well (Some (Instrument case part)) i text result made is = is
ended_well (Some (Check case part image)) i text result made is = inl (is, made.0)
ended_well (Some (Generate count)) i text result made is = is
ended_well (Some (Surface case)) i text result made is = is
ended_well (Some (Why case schedule)) i text result (asked, some, why) is = inl (is, (asked, some, why.whole))

ended_else : (o : Option Command) (i : Input) (text : List ℕ) (result : ℕ) → MadeBy o i false text → result ≡ 1 → EndedBy o i result
ended_else None i text result made is = made
ended_else (Some (Run case)) i text result made is = ended i false text result made is
ended_else (Some (Replay case schedule)) i text result made is = inl (ended i false text result made is)
ended_else (Some (Instrument case part)) i text result made is = absurd made
ended_else (Some (Check case part image)) i text result made is = absurd made
ended_else (Some (Generate count)) i text result made is = absurd made
ended_else (Some (Surface case)) i text result made is = absurd made
ended_else (Some (Why case schedule)) i text result made is = absurd made

ended_broken : (o : Option Command) (i : Input) (entry : ℕ) (result : ℕ) → BrokenBy o i entry → result ≡ 7 → EndedBy o i result
ended_broken None i entry result broken is = broken
ended_broken (Some (Run case)) i entry result broken is = absurd broken
ended_broken (Some (Replay case schedule)) i entry result broken is = inr (is, entry, broken)
ended_broken (Some (Instrument case part)) i entry result broken is = absurd broken
ended_broken (Some (Check case part image)) i entry result broken is = absurd broken
ended_broken (Some (Generate count)) i entry result broken is = absurd broken
ended_broken (Some (Surface case)) i entry result broken is = absurd broken
ended_broken (Some (Why case schedule)) i entry result broken is = inr (is, entry, broken)

ended_refused : (o : Option Command) (i : Input) (line : FaultLine) (result : ℕ) → RefusedBy o i line → result ≡ 8 → EndedBy o i result
ended_refused None i line result refused is = refused
ended_refused (Some (Run case)) i line result refused is = absurd refused
ended_refused (Some (Replay case schedule)) i line result refused is = absurd refused
ended_refused (Some (Instrument case part)) i line result refused is = absurd refused
ended_refused (Some (Check case part image)) i line result refused is = inr (is, line, refused)
ended_refused (Some (Generate count)) i line result refused is = absurd refused
ended_refused (Some (Surface case)) i line result refused is = absurd refused
ended_refused (Some (Why case schedule)) i line result refused is = absurd refused

module _ (input_laws : OneInput) (missing_end : MissingFilesEnd) (words : List (List ℕ)) (files : List FileText) where
  one : IsOne (ComesTo words files)
  one = by_command (command_of words) where
    by_command : (o : Option Command) → IsOne (λ r. CommandTurn files o r)
    by_command None = λ a b is_a is_b settled_a settled_b. absurd is_a
    by_command (Some c) = input_laws (files_of files c) (case_of c) (asked_of c)

  ends : EndsAt (files_by files (command_of words)) (ComesTo words files)
  ends = by_command (command_of words) where
    by_command : (o : Option Command) → EndsAt (files_by files o) (λ r. CommandTurn files o r)
    by_command None = λ file a is missing is_a settled. is
    by_command (Some c) = missing_end (files_of files c) (case_of c) (asked_of c)

  -- the answer is told of what the files come to
  module _ (a : Answer) (is : TellsInput (command_of words) (ComesTo words files) a) (result : ℕ) (status : result ≢ 5 → result ≡ status_of a) where
    abbrev Told : Answer → Type 0
    Told b = TellsInput (command_of words) (ComesTo words files) b

    comes : (b : Answer) → Told b → Comes (ComesTo words files) b
    comes (answer.Fault f) told = told
    comes (answer.Unread file) told = told
    comes (answer.Broken entry) told = (told.0, told.1)
    comes (answer.Report text returned) told = (told.0, told.1)
    comes (answer.Text text) told = (told.0, told.1)
    comes answer.Accepted told = (told.0, told.1)
    comes (answer.Refused f) told = (told.0, told.1)

    pub fault_comes : (f : FaultLine) → ComesTo words files (Err (stops.Fault f)) → (result ≡ 3) ⊎ (result ≡ 4) ⊎ (result ≡ 5) ⊎ (result ≡ 6)
    fault_comes = fault_met (ComesTo words files) one a (comes a is) result status

    pub missing_comes : (file : List ℕ) → ComesTo words files (Err (stops.Unread file)) → file_at (files_by files (command_of words)) file ≡ None → (result ≡ 4) ⊎ (result ≡ 5) ⊎ (result ≡ 6)
    missing_comes = missing_met (ComesTo words files) one a (comes a is) result status (files_by files (command_of words)) ends

    pub broken_comes : (i : Input) (entry : ℕ) → ComesTo words files (Ok i) → BrokenBy (command_of words) i entry → (result ≡ 7) ⊎ (result ≡ 4) ⊎ (result ≡ 5) ⊎ (result ≡ 6)
    broken_comes i entry comes at = elim (five_or result (status_of a) status) [
      | inl five ↦ inr (inr (inl five))
      | inr same ↦ on a is same
    ] where
      there : (j : Input) → ComesTo words files (Ok j) → BrokenBy (command_of words) j entry
      there j is_j = subst (λ (k : Input). BrokenBy (command_of words) k entry) (same_input (ComesTo words files) one i j comes is_j) at

      on : (b : Answer) → Told b → result ≡ status_of b → (result ≡ 7) ⊎ (result ≡ 4) ⊎ (result ≡ 5) ⊎ (result ≡ 6)
      on (answer.Fault g) is same = no_fault_in (ComesTo words files) one i g comes is
      on (answer.Unread file) is same = inr (inl same)
      on (answer.Broken other) is same = inl same
      on (answer.Report text well) is same = absurd (made_not_broken (command_of words) is.0 well text entry is.2 (there is.0 is.1))
      on (answer.Text text) is same = absurd (made_not_broken (command_of words) is.0 true text entry is.2 (there is.0 is.1))
      on answer.Accepted is same = absurd (made_not_broken (command_of words) is.0 true accepted_line entry is.2 (there is.0 is.1))
      on (answer.Refused g) is same = absurd (refused_not_broken (command_of words) is.0 g entry is.2 (there is.0 is.1))

    pub refused_comes : (i : Input) (line : FaultLine) → ComesTo words files (Ok i) → RefusedBy (command_of words) i line → (result ≡ 8) ⊎ (result ≡ 4) ⊎ (result ≡ 5) ⊎ (result ≡ 6)
    refused_comes i line comes at = elim (five_or result (status_of a) status) [
      | inl five ↦ inr (inr (inl five))
      | inr same ↦ on a is same
    ] where
      there : (j : Input) → ComesTo words files (Ok j) → RefusedBy (command_of words) j line
      there j is_j = subst (λ (k : Input). RefusedBy (command_of words) k line) (same_input (ComesTo words files) one i j comes is_j) at

      on : (b : Answer) → Told b → result ≡ status_of b → (result ≡ 8) ⊎ (result ≡ 4) ⊎ (result ≡ 5) ⊎ (result ≡ 6)
      on (answer.Fault g) is same = no_fault_in (ComesTo words files) one i g comes is
      on (answer.Unread file) is same = inr (inl same)
      on (answer.Broken entry) is same = absurd (refused_not_broken (command_of words) is.0 line entry (there is.0 is.1) is.2)
      on (answer.Report text well) is same = absurd (made_not_refused (command_of words) is.0 well text line is.2 (there is.0 is.1))
      on (answer.Text text) is same = absurd (made_not_refused (command_of words) is.0 true text line is.2 (there is.0 is.1))
      on answer.Accepted is same = absurd (made_not_refused (command_of words) is.0 true accepted_line line is.2 (there is.0 is.1))
      on (answer.Refused g) is same = inl same

    pub all_comes : (before now : List (List ℕ)) (i : Input) → ((file : List ℕ) → a ≡ answer.Unread file → now ≡ before ++ file ∷ [])
        → ComesTo words files (Ok i) → NoNewFault before now words files → result ≢ 5 → EndedBy (command_of words) i result ⊎ (result ≡ 6)
    all_comes before now i grew comes no_fault not_5 = on a is grew (status not_5) where
      here : (j : Input) → ComesTo words files (Ok j) → EndedBy (command_of words) j result → EndedBy (command_of words) i result ⊎ (result ≡ 6)
      here j is_j ended = inl (subst (λ (k : Input). EndedBy (command_of words) k result) (same_input (ComesTo words files) one j i is_j comes) ended)

      on : (b : Answer) → Told b → ((file : List ℕ) → b ≡ answer.Unread file → now ≡ before ++ file ∷ []) → result ≡ status_of b → EndedBy (command_of words) i result ⊎ (result ≡ 6)
      on (answer.Fault g) is grew same = no_fault_in (ComesTo words files) one i g comes is
      on (answer.Unread file) is grew same = absurd (no_fault (file ∷ []) file (grew file refl) (0, omega arith, refl) is)
      on (answer.Broken entry) is grew same = here is.0 is.1 (ended_broken (command_of words) is.0 entry result is.2 same)
      on (answer.Report text true) is grew same = here is.0 is.1 (ended_well (command_of words) is.0 text result is.2 same)
      on (answer.Report text false) is grew same = here is.0 is.1 (ended_else (command_of words) is.0 text result is.2 same)
      on (answer.Text text) is grew same = here is.0 is.1 (ended_well (command_of words) is.0 text result is.2 same)
      on answer.Accepted is grew same = here is.0 is.1 (ended_well (command_of words) is.0 accepted_line result is.2 same)
      on (answer.Refused g) is grew same = here is.0 is.1 (ended_refused (command_of words) is.0 g result is.2 same)

-- what each status tells
module _ (words : List (List ℕ)) (files : List FileText) where
  abbrev Tells : Answer → Type 0
  Tells a = TellsInput (command_of words) (ComesTo words files) a

  pub fault_told : (a : Answer) → Tells a → status_of a ≡ 3 → (f : FaultLine) × ComesTo words files (Err (stops.Fault f))
  fault_told a is status = let fault = fault_of a status in (fault.0, subst Tells fault.1 is)

  pub broken_told : (a : Answer) → Tells a → status_of a ≡ 7 → (i : Input) × (entry : ℕ) × ComesTo words files (Ok i) × BrokenBy (command_of words) i entry
  broken_told a is status =
      let broken = broken_of a status in
      let told = subst Tells broken.1 is in
      (told.0, broken.0, told.1, told.2)

  pub refused_told : (a : Answer) → Tells a → status_of a ≡ 8 → (i : Input) × (line : FaultLine) × ComesTo words files (Ok i) × RefusedBy (command_of words) i line
  refused_told a is status =
      let refused = refused_of a status in
      let told = subst Tells refused.1 is in
      (told.0, refused.0, told.1, told.2)

  pub unread_told : (a : Answer) (file : List ℕ) → a ≡ answer.Unread file → Tells a → ComesTo words files (Err (stops.Unread file))
  unread_told a file is told = subst Tells is told

-- what is written about a file that was not read is the line about it
pub unread_written : (a : Answer) (file text told : List ℕ) (now : Option (List ℕ)) → a ≡ answer.Unread file → text ≡ answer_text a → now ≡ Some (told ++ text) → now ≡ Some (told ++ unread_line file)
unread_written a file text told now is same gained =
    let line : text ≡ unread_line file = same ∙ ap answer_text is in
    rw line at gained

-- no status is above 8
pub few_statuses : (a : Answer) (result : ℕ) → (result ≢ 5 → result ≡ status_of a) → result ≤ 8
few_statuses a result status = elim (five_or result (status_of a) status) [
  | inl five ↦ omega (arith, five)
  | inr same ↦ on a same
] where
  on : (b : Answer) → result ≡ status_of b → result ≤ 8
  on (answer.Fault f) same = omega (arith, same)
  on (answer.Unread file) same = omega (arith, same)
  on (answer.Broken entry) same = omega (arith, same)
  on (answer.Report text true) same = omega (arith, same)
  on (answer.Report text false) same = omega (arith, same)
  on (answer.Text text) same = omega (arith, same)
  on answer.Accepted same = omega (arith, same)
  on (answer.Refused f) same = omega (arith, same)

-- an answer has no status 2
pub no_two : (a : Answer) → status_of a ≡ 2 → ⊥
no_two (answer.Fault f) status = cc
no_two (answer.Unread file) status = cc
no_two (answer.Broken entry) status = cc
no_two (answer.Report text true) status = cc
no_two (answer.Report text false) status = cc
no_two (answer.Text text) status = cc
no_two answer.Accepted status = cc
no_two (answer.Refused f) status = cc

-- words that are no command generate nothing
pub no_command : (words : List (List ℕ)) → command_of words ≡ None → IsGenerated words → ⊥
no_command words none (count, is) = let no : None ≡ Some (Generate count) = sym none ∙ is in absurd cc

-- what is said is one command
pub said_is : {c d : Command} → Some c ≡ Some d → c ≡ d
said_is is = cc
