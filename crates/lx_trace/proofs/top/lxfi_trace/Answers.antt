use Rattle.std.proofs.Common.{◌≡◌, ◌∙◌, ◌≢◌, ◌⊎◌, ℕ, ◌≤◌, Option, Some, None, Result, option_copied, sym, subst, arith, refl, inl, inr, Ok, Err}
use Rattle.lx_input.specs.Files.FaultLine.{FaultLine}
use Rattle.lx_input.specs.Files.InputStop.{InputStop}
use Rattle.lx_input.specs.Files.InputStop.TheVariants as stops
use Rattle.lx_input.specs.declared.input.Input.{Input}
use Rattle.lx_cli.specs.Answer.{EndedBy, IsBroken}
use Rattle.lx_cli.specs.Command.{Command, CommandTurn, Run, UntoldTurn, texts}
use Rattle.lx_cli.specs.Rows.{status_of}
use Rattle.lx_cli.proofs.Answered.{five_or, status_is, unread_of}
use Rattle.lx_cli.proofs.Statuses.{no_two, unread_written}
use Rattle.lx_trace.specs.Traced.{IsReplayed, NoNewFault, asked_trace, traced_by, usage_line}
use Rattle.lx_trace.proofs.Statuses.{all_comes, broken_comes, broken_told, fault_comes, fault_told, few_statuses, missing_comes, one_turn, turn_ends, unread_told, whole_told}
use Rattle.lx_trace.proofs.Telling.{is_told, none_asked, none_told}
use Rattle.lx_trace.proofs.top.lxfi_trace.Goals as goal

-- no case

pub returns-in_default-clause-wrote : goal.returns-in_default-clause-wrote
returns-in_default-clause-wrote g c = λ not_5 not_6 files told files_told sink_told. record {
  text = usage_line;
  is_told = none_told (CommandTurn files (asked_trace (texts c.args.words.now))) (asked_trace (texts c.args.words.now)) c.in_default.ensures c.write_text.result (c.write_text.ensures.status not_5);
  gained = rw c.as_bytes.ensures.value at (c.write_text.ensures.all not_5 told sink_told);
}

pub returns-in_default-clause-short : goal.returns-in_default-clause-short
returns-in_default-clause-short g c = λ is_5 files told files_told sink_told. record {
  status = 2;
  text = usage_line;
  is_told = none_told (CommandTurn files (asked_trace (texts c.args.words.now))) (asked_trace (texts c.args.words.now)) c.in_default.ensures 2 refl;
  part = rw c.as_bytes.ensures.value at (c.write_text.ensures.prefix is_5 told sink_told);
}

pub returns-in_default-clause-wrote_untold : goal.returns-in_default-clause-wrote_untold
returns-in_default-clause-wrote_untold g c = λ not_5 not_6 told sink_told. record {
  text = usage_line;
  is_told =
      none_told (UntoldTurn (asked_trace (texts c.args.words.now)) (g.S.Shelf.faults c.args.shelf.now) (g.S.Shelf.faults c.args.shelf.now))
      (asked_trace (texts c.args.words.now)) c.in_default.ensures c.write_text.result (c.write_text.ensures.status not_5);
  gained = rw c.as_bytes.ensures.value at (c.write_text.ensures.all not_5 told sink_told);
}

pub returns-in_default-clause-short_untold : goal.returns-in_default-clause-short_untold
returns-in_default-clause-short_untold g c = λ is_5 told sink_told. record {
  status = 2;
  text = usage_line;
  is_told =
      none_told (UntoldTurn (asked_trace (texts c.args.words.now)) (g.S.Shelf.faults c.args.shelf.now) (g.S.Shelf.faults c.args.shelf.now))
      (asked_trace (texts c.args.words.now)) c.in_default.ensures 2 refl;
  part = rw c.as_bytes.ensures.value at (c.write_text.ensures.prefix is_5 told sink_told);
}

pub returns-in_default-clause-usage_only : goal.returns-in_default-clause-usage_only
returns-in_default-clause-usage_only g c = λ is_2.
    (sym c.in_default.ensures, λ told sink_told. rw c.as_bytes.ensures.value at (c.write_text.ensures.all (λ e. omega (arith, is_2, e)) told sink_told))

pub returns-in_default-clause-statuses : goal.returns-in_default-clause-statuses
returns-in_default-clause-statuses g c = at_most c.write_text.result c.write_text.ensures.status where
  at_most : (r : ℕ) → (r ≢ 5 → r ≡ 2) → r ≤ 7
  at_most r is = elim (five_or r 2 is) [
    | inl five ↦ omega (arith, five)
    | inr two ↦ omega (arith, two)
  ]

pub returns-in_default-clause-fault : goal.returns-in_default-clause-fault
returns-in_default-clause-fault g c = λ files f files_told is. absurd (none_asked files (asked_trace (texts c.args.words.now)) (Err (stops.Fault f)) c.in_default.ensures is)

pub returns-in_default-clause-missing : goal.returns-in_default-clause-missing
returns-in_default-clause-missing g c = λ files file files_told is gone.
    absurd (none_asked files (asked_trace (texts c.args.words.now)) (Err (stops.Unread file)) c.in_default.ensures is)

pub returns-in_default-clause-broken : goal.returns-in_default-clause-broken
returns-in_default-clause-broken g c = λ files i entry files_told is at.
    absurd (none_asked files (asked_trace (texts c.args.words.now)) (Ok i) c.in_default.ensures is)

pub returns-in_default-clause-complete : goal.returns-in_default-clause-complete
returns-in_default-clause-complete g c = λ files i files_told is no_fault no_rise.
    absurd (none_asked files (asked_trace (texts c.args.words.now)) (Ok i) c.in_default.ensures is)

-- an answer

pub returns-clause-wrote : goal.returns-clause-wrote
returns-clause-wrote g c = λ not_5 not_6 files told files_told sink_told. record {
  text = c.as_slice.result.now;
  is_told =
      is_told (λ (o : Option Command) (r : Result Input InputStop). CommandTurn files o r) (asked_trace (texts c.args.words.now)) (traced_by c.in-Some.named) c.in-Ok.answer c.in-Some.ensures
      (c.in-Ok.ensures.answer files files_told) c.write_text-2.result c.as_slice.result.now (c.write_text-2.ensures.status not_5 ∙ c.status_of-status.ensures) (c.as_slice.ensures ∙ c.in-Ok-answer_text.ensures);
  gained = c.write_text-2.ensures.all not_5 told sink_told;
}

pub returns-clause-short : goal.returns-clause-short
returns-clause-short g c = λ is_5 files told files_told sink_told. record {
  status = status_of c.in-Ok.answer;
  text = c.as_slice.result.now;
  is_told =
      is_told (λ (o : Option Command) (r : Result Input InputStop). CommandTurn files o r) (asked_trace (texts c.args.words.now)) (traced_by c.in-Some.named) c.in-Ok.answer c.in-Some.ensures
      (c.in-Ok.ensures.answer files files_told) (status_of c.in-Ok.answer) c.as_slice.result.now refl (c.as_slice.ensures ∙ c.in-Ok-answer_text.ensures);
  part = c.write_text-2.ensures.prefix is_5 told sink_told;
}

pub returns-clause-wrote_untold : goal.returns-clause-wrote_untold
returns-clause-wrote_untold g c = λ not_5 not_6 told sink_told. record {
  text = c.as_slice.result.now;
  is_told =
      is_told (λ (o : Option Command) (r : Result Input InputStop). UntoldTurn o (g.S.Shelf.faults c.args.shelf.now) (g.S.Shelf.faults c.answer_to.new.shelf) r)
      (asked_trace (texts c.args.words.now)) (traced_by c.in-Some.named) c.in-Ok.answer c.in-Some.ensures
      c.in-Ok.ensures.untold c.write_text-2.result c.as_slice.result.now (c.write_text-2.ensures.status not_5 ∙ c.status_of-status.ensures) (c.as_slice.ensures ∙ c.in-Ok-answer_text.ensures);
  gained = c.write_text-2.ensures.all not_5 told sink_told;
}

pub returns-clause-short_untold : goal.returns-clause-short_untold
returns-clause-short_untold g c = λ is_5 told sink_told. record {
  status = status_of c.in-Ok.answer;
  text = c.as_slice.result.now;
  is_told =
      is_told (λ (o : Option Command) (r : Result Input InputStop). UntoldTurn o (g.S.Shelf.faults c.args.shelf.now) (g.S.Shelf.faults c.answer_to.new.shelf) r)
      (asked_trace (texts c.args.words.now)) (traced_by c.in-Some.named) c.in-Ok.answer c.in-Some.ensures
      c.in-Ok.ensures.untold (status_of c.in-Ok.answer) c.as_slice.result.now refl (c.as_slice.ensures ∙ c.in-Ok-answer_text.ensures);
  part = c.write_text-2.ensures.prefix is_5 told sink_told;
}

pub returns-clause-statuses : goal.returns-clause-statuses
returns-clause-statuses g c =
    few_statuses (UntoldTurn (Some (traced_by c.in-Some.named)) (g.S.Shelf.faults c.args.shelf.now) (g.S.Shelf.faults c.answer_to.new.shelf)) c.in-Ok.answer c.in-Ok.ensures.untold
    c.write_text-2.result (λ not_5. c.write_text-2.ensures.status not_5 ∙ c.status_of-status.ensures)

pub returns-clause-usage_only : goal.returns-clause-usage_only
returns-clause-usage_only g c = λ is_2. absurd (no_two c.in-Ok.answer
    (status_is c.write_text-2.result 2 (status_of c.in-Ok.answer) (λ not_5. c.write_text-2.ensures.status not_5 ∙ c.status_of-status.ensures) is_2 (λ e. cc)))

pub returns-in_default-clause-run_whole : goal.returns-in_default-clause-run_whole
returns-in_default-clause-run_whole g c = λ case asked files files_told is_7. let none : ◌≡◌ {A = Option Command} None (Some (Run case)) = c.in_default.ensures ∙ asked in absurd cc

pub returns-clause-fault : goal.returns-clause-fault
returns-clause-fault g c = λ files f files_told is.
    fault_comes files (CommandTurn files (Some (traced_by c.in-Some.named)))
    (one_turn c.input_laws.ensures.one files c.in-Some.named.case.now (option_copied c.in-Some.named.schedule))
    (turn_ends c.input_laws.ensures.missing files c.in-Some.named.case.now (option_copied c.in-Some.named.schedule))
    c.in-Ok.answer (c.in-Ok.ensures.answer files files_told)
    c.write_text-2.result (λ not_5. c.write_text-2.ensures.status not_5 ∙ c.status_of-status.ensures) f
    (subst (λ (o : Option Command). CommandTurn files o (Err (stops.Fault f))) (sym c.in-Some.ensures) is)

pub returns-clause-fault_only : goal.returns-clause-fault_only
returns-clause-fault_only g c = λ is_3 files files_told.
    subst (λ (o : Option Command). (f : FaultLine) × CommandTurn files o (Err (stops.Fault f))) c.in-Some.ensures
    (fault_told (CommandTurn files (Some (traced_by c.in-Some.named))) c.in-Ok.answer (c.in-Ok.ensures.answer files files_told)
    (status_is c.write_text-2.result 3 (status_of c.in-Ok.answer) (λ not_5. c.write_text-2.ensures.status not_5 ∙ c.status_of-status.ensures) is_3 (λ e. cc)))

pub returns-clause-missing : goal.returns-clause-missing
returns-clause-missing g c = λ files file files_told is gone.
    missing_comes files (CommandTurn files (Some (traced_by c.in-Some.named)))
    (one_turn c.input_laws.ensures.one files c.in-Some.named.case.now (option_copied c.in-Some.named.schedule))
    (turn_ends c.input_laws.ensures.missing files c.in-Some.named.case.now (option_copied c.in-Some.named.schedule))
    c.in-Ok.answer (c.in-Ok.ensures.answer files files_told)
    c.write_text-2.result (λ not_5. c.write_text-2.ensures.status not_5 ∙ c.status_of-status.ensures) file
    (subst (λ (o : Option Command). CommandTurn files o (Err (stops.Unread file))) (sym c.in-Some.ensures) is) gone

pub returns-clause-unread_only : goal.returns-clause-unread_only
returns-clause-unread_only g c = λ is_4.
    let unread = unread_of c.in-Ok.answer
    (status_is c.write_text-2.result 4 (status_of c.in-Ok.answer) (λ not_5. c.write_text-2.ensures.status not_5 ∙ c.status_of-status.ensures) is_4 (λ e. cc)) in
    let is = unread.1 in (
      unread.0,
      c.in-Ok.ensures.unread unread.0 (cc),
      λ files files_told.
          subst (λ (o : Option Command). CommandTurn files o (Err (stops.Unread unread.0))) c.in-Some.ensures
          (unread_told (CommandTurn files (Some (traced_by c.in-Some.named))) c.in-Ok.answer unread.0 is (c.in-Ok.ensures.answer files files_told)),
      λ told sink_told.
          unread_written c.in-Ok.answer unread.0 c.as_slice.result.now told (g.K.Sink.bytes c.write_text-2.new.sink) is
          (c.as_slice.ensures ∙ c.in-Ok-answer_text.ensures) (c.write_text-2.ensures.all (λ e. omega (arith, is_4, e)) told sink_told),
    )

pub returns-clause-broken : goal.returns-clause-broken
returns-clause-broken g c = λ files i entry files_told is at.
    broken_comes files (CommandTurn files (Some (traced_by c.in-Some.named)))
    (one_turn c.input_laws.ensures.one files c.in-Some.named.case.now (option_copied c.in-Some.named.schedule))
    (turn_ends c.input_laws.ensures.missing files c.in-Some.named.case.now (option_copied c.in-Some.named.schedule))
    c.in-Ok.answer (c.in-Ok.ensures.answer files files_told)
    c.write_text-2.result (λ not_5. c.write_text-2.ensures.status not_5 ∙ c.status_of-status.ensures) i entry
    (subst (λ (o : Option Command). CommandTurn files o (Ok i)) (sym c.in-Some.ensures) is) at

pub returns-clause-broken_only : goal.returns-clause-broken_only
returns-clause-broken_only g c = λ is_7 files files_told.
    subst (λ (o : Option Command). (i : Input) × (entry : ℕ) × CommandTurn files o (Ok i) × IsBroken i entry) c.in-Some.ensures
    (broken_told (CommandTurn files (Some (traced_by c.in-Some.named))) c.in-Some.named.case.now (option_copied c.in-Some.named.schedule)
    c.in-Ok.answer (c.in-Ok.ensures.replayed files files_told)
    (status_is c.write_text-2.result 7 (status_of c.in-Ok.answer) (λ not_5. c.write_text-2.ensures.status not_5 ∙ c.status_of-status.ensures) is_7 (λ e. cc)))

pub returns-clause-run_whole : goal.returns-clause-run_whole
returns-clause-run_whole g c = λ case asked files files_told is_7.
    let same : traced_by c.in-Some.named ≡ Run case = cc (c.in-Some.ensures, asked) in
    whole_told (CommandTurn files (Some (traced_by c.in-Some.named))) case c.in-Ok.answer
    (subst (λ (d : Command). IsReplayed d (CommandTurn files (Some (traced_by c.in-Some.named))) c.in-Ok.answer) same (c.in-Ok.ensures.replayed files files_told))
    (status_is c.write_text-2.result 7 (status_of c.in-Ok.answer) (λ not_5. c.write_text-2.ensures.status not_5 ∙ c.status_of-status.ensures) is_7 (λ e. cc))

pub returns-clause-complete : goal.returns-clause-complete
returns-clause-complete g c = λ files i files_told is no_fault no_rise.
    subst (λ (o : Option Command). EndedBy o i c.write_text-2.result ⊎ (c.write_text-2.result ≡ 6)) c.in-Some.ensures
    (all_comes files (CommandTurn files (Some (traced_by c.in-Some.named)))
    (one_turn c.input_laws.ensures.one files c.in-Some.named.case.now (option_copied c.in-Some.named.schedule))
    (turn_ends c.input_laws.ensures.missing files c.in-Some.named.case.now (option_copied c.in-Some.named.schedule))
    c.in-Ok.answer (c.in-Ok.ensures.answer files files_told)
    c.write_text-2.result (λ not_5. c.write_text-2.ensures.status not_5 ∙ c.status_of-status.ensures)
    c.in-Some.named.case.now (option_copied c.in-Some.named.schedule)
    (g.S.Shelf.faults c.args.shelf.now) (g.S.Shelf.faults c.answer_to.new.shelf) i (c.in-Ok.ensures.replayed files files_told) (λ file is. c.in-Ok.ensures.unread file (cc))
    (subst (λ (o : Option Command). CommandTurn files o (Ok i)) (sym c.in-Some.ensures) is)
    (subst (λ (o : Option Command). NoNewFault (g.S.Shelf.faults c.args.shelf.now) (g.S.Shelf.faults c.answer_to.new.shelf) (CommandTurn files o)) (sym c.in-Some.ensures) no_fault)
    (λ is_5. no_rise (c.write_text-2.ensures.failed is_5)))
