-- When each status comes.
use Rattle.std.proofs.Common.{◌≡◌, ◌≢◌, ◌∙◌, sym, ap, subst, refl, ◌⊎◌, inl, inr, ℕ, ◌≤◌, Bool, true, false, List, [], ◌∷◌, ◌++◌, Option, Some, None, Result, Ok, Err, if◌then◌else◌, arith}
use Rattle.lx_model.specs.World.{opening, is_whole}
use Rattle.lx_outside.specs.declared.file_text.FileText.{FileText}
use Rattle.lx_outside.specs.Files.{file_at}
use Rattle.lx_input.specs.Files.FaultLine.{FaultLine}
use Rattle.lx_input.specs.Files.InputStop.{InputStop}
use Rattle.lx_input.specs.Files.InputStop.TheVariants as stops
use Rattle.lx_input.specs.Files.Laws.{IsOne, EndsAt}
use Rattle.lx_input.specs.Laws.{MissingFilesEnd, OneInput}
use Rattle.lx_input.specs.declared.input.Input.{Input}
use Rattle.lx_runs.specs.Reports.{IsAsked}
use Rattle.lx_cli.specs.Answer.{BrokenBy, EndedBy, HasEnded, IsBroken}
use Rattle.lx_cli.specs.Command.{CommandTurn, Replay, Run, asked_of}
use Rattle.lx_cli.specs.Rows.{status_of}
use Rattle.lx_cli.specs.declared.answer.Answer.{Answer}
use Rattle.lx_cli.specs.declared.answer.Answer.TheVariants as answer
use Rattle.lx_cli.proofs.Answered.{Comes, broken_of, fault_met, fault_of, five_or, missing_met, no_fault_in, same_input}
use Rattle.lx_cli.proofs.Replays.{whole_unbroken}
use Rattle.lx_trace.specs.Traced.{IsReplayed, NoNewFault, TellsTraceOf, TellsTraced, run_of}

-- a trace is of a whole schedule
trace_is_whole : (i : Input) (text : List ℕ) (returned : Bool) (entry : ℕ) → TellsTraceOf i (answer.Report text returned) → IsBroken i entry → ⊥
trace_is_whole i text returned entry (asked, is, traced) (other, there, at) =
    let same : IsAsked (Some other) asked = subst (λ (o : Option (List ℕ)). IsAsked o asked) there is in
    let whole : is_whole i.program other (opening i.program i.script) ≡ true = rw (← same) traced.whole in
    let unbroken = whole_unbroken i.program other (opening i.program i.script) whole in
    absurd cc

-- the status says whether every call returned
ended : (i : Input) (text : List ℕ) (returned : Bool) (result : ℕ) → TellsTraceOf i (answer.Report text returned) → result ≡ (if returned then 0 else 1) → HasEnded i result
ended i text returned result (asked, fits, traced) is = record {
  schedule = asked;
  asked = fits;
  whole = traced.whole;
  is_status = is ∙ sym (ap (λ b. if b then 0 else 1) traced.status);
}

-- what each status tells, whatever the files come to
module _ (turn : Result Input InputStop → Type 0) where
  pub fault_told : (a : Answer) → TellsTraced turn a → status_of a ≡ 3 → (f : FaultLine) × turn (Err (stops.Fault f))
  fault_told a is status = let fault = fault_of a status in (fault.0, subst (TellsTraced turn) fault.1 is)

  pub broken_told : (case : List ℕ) (schedule : Option (List ℕ)) (a : Answer) → IsReplayed (run_of case schedule) turn a → status_of a ≡ 7 → (i : Input) × (entry : ℕ) × turn (Ok i) × IsBroken i entry
  broken_told case schedule a is status =
      let broken = broken_of a status in
      let told = subst (IsReplayed (run_of case schedule) turn) broken.1 is in
      (told.0, broken.0, told.1, replayed schedule told.0 broken.0 told.2)
    where
      replayed : (o : Option (List ℕ)) (i : Input) (entry : ℕ) → BrokenBy (Some (run_of case o)) i entry → IsBroken i entry
      replayed None i entry is = absurd is
      replayed (Some s) i entry is = is

  -- the schedule of a run is whole
  pub whole_told : (case : List ℕ) (a : Answer) → IsReplayed (Run case) turn a → status_of a ≡ 7 → ⊥
  whole_told case a is status = (subst (IsReplayed (Run case) turn) (broken_of a status).1 is).2

  pub unread_told : (a : Answer) (file : List ℕ) → a ≡ answer.Unread file → TellsTraced turn a → turn (Err (stops.Unread file))
  unread_told a file is told = subst (TellsTraced turn) is told

  -- no status is above 7
  pub few_statuses : (a : Answer) → TellsTraced turn a → (result : ℕ) → (result ≢ 5 → result ≡ status_of a) → result ≤ 7
  few_statuses a is result status = elim (five_or result (status_of a) status) [
    | inl five ↦ omega (arith, five)
    | inr same ↦ on a is same
  ] where
    on : (b : Answer) → TellsTraced turn b → result ≡ status_of b → result ≤ 7
    on (answer.Fault f) is same = omega (arith, same)
    on (answer.Unread file) is same = omega (arith, same)
    on (answer.Broken entry) is same = omega (arith, same)
    on (answer.Report text true) is same = omega (arith, same)
    on (answer.Report text false) is same = omega (arith, same)
    on (answer.Text text) is same = omega (arith, same)
    on answer.Accepted is same = omega (arith, same)
    on (answer.Refused f) is same = absurd is.2

-- what the files of a run or a replay come to is settled

pub one_turn : OneInput → (files : List FileText) (case : List ℕ) (schedule : Option (List ℕ)) → IsOne (λ r. CommandTurn files (Some (run_of case schedule)) r)
one_turn one files case None = one files case (asked_of (Run case))
one_turn one files case (Some schedule) = one files case (asked_of (Replay case schedule))

pub turn_ends : MissingFilesEnd → (files : List FileText) (case : List ℕ) (schedule : Option (List ℕ)) → EndsAt files (λ r. CommandTurn files (Some (run_of case schedule)) r)
turn_ends ends files case None = ends files case (asked_of (Run case))
turn_ends ends files case (Some schedule) = ends files case (asked_of (Replay case schedule))

-- of what the files come to, which is settled
module _ (files : List FileText) (turn : Result Input InputStop → Type 0) (one : IsOne turn) (ends : EndsAt files turn) where
  -- how a run ends, or a replay

  ended_well : (case : List ℕ) (schedule : Option (List ℕ)) (i : Input) (result : ℕ) → HasEnded i result → EndedBy (Some (run_of case schedule)) i result
  ended_well case None i result is = is
  ended_well case (Some schedule) i result is = inl is

  ended_broken : (case : List ℕ) (schedule : Option (List ℕ)) (i : Input) (entry result : ℕ) → BrokenBy (Some (run_of case schedule)) i entry → result ≡ 7 → EndedBy (Some (run_of case schedule)) i result
  ended_broken case None i entry result is status = absurd is
  ended_broken case (Some schedule) i entry result is status = inr (status, entry, is)

  module _ (a : Answer) (is : TellsTraced turn a) (result : ℕ) (status : result ≢ 5 → result ≡ status_of a) where
    comes : (b : Answer) → TellsTraced turn b → Comes turn b
    comes (answer.Fault f) told = told
    comes (answer.Unread file) told = told
    comes (answer.Broken entry) told = (told.0, told.1)
    comes (answer.Report text returned) told = (told.0, told.1)
    comes (answer.Text text) told = (told.0, told.1)
    comes answer.Accepted told = (told.0, told.1)
    comes (answer.Refused f) told = (told.0, told.1)

    pub fault_comes : (f : FaultLine) → turn (Err (stops.Fault f)) → (result ≡ 3) ⊎ (result ≡ 4) ⊎ (result ≡ 5) ⊎ (result ≡ 6)
    fault_comes = fault_met turn one a (comes a is) result status

    pub missing_comes : (file : List ℕ) → turn (Err (stops.Unread file)) → file_at files file ≡ None → (result ≡ 4) ⊎ (result ≡ 5) ⊎ (result ≡ 6)
    missing_comes = missing_met turn one a (comes a is) result status files ends

    pub broken_comes : (i : Input) (entry : ℕ) → turn (Ok i) → IsBroken i entry → (result ≡ 7) ⊎ (result ≡ 4) ⊎ (result ≡ 5) ⊎ (result ≡ 6)
    broken_comes i entry comes at = elim (five_or result (status_of a) status) [
      | inl five ↦ inr (inr (inl five))
      | inr same ↦ on a is same
    ] where
      on : (b : Answer) → TellsTraced turn b → result ≡ status_of b → (result ≡ 7) ⊎ (result ≡ 4) ⊎ (result ≡ 5) ⊎ (result ≡ 6)
      on (answer.Fault g) is same = no_fault_in turn one i g comes is
      on (answer.Unread file) is same = inr (inl same)
      on (answer.Broken other) is same = inl same
      on (answer.Report text returned) is same =
          absurd (trace_is_whole is.0 text returned entry is.2 (subst (λ (j : Input). IsBroken j entry) (same_input turn one i is.0 comes is.1) at))
      on (answer.Text text) is same = absurd is.2
      on answer.Accepted is same = absurd is.2
      on (answer.Refused g) is same = absurd is.2

    pub all_comes : (case : List ℕ) (schedule : Option (List ℕ)) (before now : List (List ℕ)) (i : Input) → IsReplayed (run_of case schedule) turn a
        → ((file : List ℕ) → a ≡ answer.Unread file → now ≡ before ++ file ∷ [])
        → turn (Ok i) → NoNewFault before now turn → result ≢ 5 → EndedBy (Some (run_of case schedule)) i result ⊎ (result ≡ 6)
    all_comes case schedule before now i replayed grew comes no_fault not_5 = on a is replayed grew (status not_5) where
      Ends : Input → Type 0
      Ends j = EndedBy (Some (run_of case schedule)) j result

      here : (j : Input) → turn (Ok j) → Ends j → Ends i ⊎ (result ≡ 6)
      here j is_j ends = inl (subst Ends (same_input turn one j i is_j comes) ends)

      on : (b : Answer) → TellsTraced turn b → IsReplayed (run_of case schedule) turn b → ((file : List ℕ) → b ≡ answer.Unread file → now ≡ before ++ file ∷ []) → result ≡ status_of b → Ends i ⊎ (result ≡ 6)
      on (answer.Fault g) is replayed grew same = no_fault_in turn one i g comes is
      on (answer.Unread file) is replayed grew same = absurd (no_fault (file ∷ []) file (grew file refl) (0, omega arith, refl) is)
      on (answer.Broken entry) is replayed grew same = here replayed.0 replayed.1 (ended_broken case schedule replayed.0 entry result replayed.2 same)
      on (answer.Report text true) is replayed grew same = here is.0 is.1 (ended_well case schedule is.0 result (ended is.0 text true result is.2 same))
      on (answer.Report text false) is replayed grew same = here is.0 is.1 (ended_well case schedule is.0 result (ended is.0 text false result is.2 same))
      on (answer.Text text) is replayed grew same = absurd is.2
      on answer.Accepted is replayed grew same = absurd is.2
      on (answer.Refused g) is replayed grew same = absurd is.2
