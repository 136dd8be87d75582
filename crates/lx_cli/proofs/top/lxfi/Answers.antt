use Rattle.std.proofs.Common.{◌≡◌, ◌∙◌, ◌≢◌, ◌⊎◌, inl, inr, ℕ, ◌≤◌, sym, arith, Ok, Err}
use Rattle.lx_input.specs.Files.InputStop.TheVariants as stops
use Rattle.lx_cli.specs.Command.{ComesTo, UntoldTurn, command_of, texts}
use Rattle.lx_cli.specs.Rows.{status_of}
use Rattle.lx_cli.proofs.Answered.{five_or, status_is, unread_of}
use Rattle.lx_cli.proofs.Generated.{ends_well, few_calls}
use Rattle.lx_cli.proofs.Written.{by_words, untold_by_words, usage_wrote, usage_short, answer_wrote, answer_short, answer_headline}
use Rattle.lx_cli.proofs.Statuses.{none_comes, fault_comes, missing_comes, broken_comes, all_comes, refused_comes, fault_told, broken_told, refused_told, run_is_whole, unread_told, few_statuses, unread_written, no_two, no_command, said_is}
use Rattle.lx_cli.proofs.top.lxfi.Goals as goal

-- no command

pub returns-in_default-clause-wrote : goal.returns-in_default-clause-wrote
returns-in_default-clause-wrote g c = λ not_5 not_6 files told files_told sink_told.
    usage_wrote (texts c.args.words.now) (ComesTo (texts c.args.words.now) files) (g.S.Shelf.faults c.args.shelf.now) told (g.K.Sink.bytes c.write_text.new.sink) (sym c.in_default.ensures)
    c.write_text.result (c.write_text.ensures.status not_5) (rw c.as_bytes.ensures.value at (c.write_text.ensures.all not_5 told sink_told))

pub returns-in_default-clause-short : goal.returns-in_default-clause-short
returns-in_default-clause-short g c = λ is_5 files told files_told sink_told.
    usage_short (texts c.args.words.now) (ComesTo (texts c.args.words.now) files) (g.S.Shelf.faults c.args.shelf.now) told (g.K.Sink.bytes c.write_text.new.sink) (sym c.in_default.ensures)
    (rw c.as_bytes.ensures.value at (c.write_text.ensures.prefix is_5 told sink_told))

pub returns-in_default-clause-wrote_untold : goal.returns-in_default-clause-wrote_untold
returns-in_default-clause-wrote_untold g c = λ not_5 not_6 told sink_told.
    usage_wrote (texts c.args.words.now) (UntoldTurn (command_of (texts c.args.words.now)) (g.S.Shelf.faults c.args.shelf.now) (g.S.Shelf.faults c.args.shelf.now)) (g.S.Shelf.faults c.args.shelf.now) told (g.K.Sink.bytes c.write_text.new.sink) (sym c.in_default.ensures)
    c.write_text.result (c.write_text.ensures.status not_5) (rw c.as_bytes.ensures.value at (c.write_text.ensures.all not_5 told sink_told))

pub returns-in_default-clause-short_untold : goal.returns-in_default-clause-short_untold
returns-in_default-clause-short_untold g c = λ is_5 told sink_told.
    usage_short (texts c.args.words.now) (UntoldTurn (command_of (texts c.args.words.now)) (g.S.Shelf.faults c.args.shelf.now) (g.S.Shelf.faults c.args.shelf.now)) (g.S.Shelf.faults c.args.shelf.now) told (g.K.Sink.bytes c.write_text.new.sink) (sym c.in_default.ensures)
    (rw c.as_bytes.ensures.value at (c.write_text.ensures.prefix is_5 told sink_told))

pub returns-in_default-clause-usage_only : goal.returns-in_default-clause-usage_only
returns-in_default-clause-usage_only g c = λ is_2.
    (sym c.in_default.ensures, λ told sink_told. rw c.as_bytes.ensures.value at (c.write_text.ensures.all (λ e. omega (arith, is_2, e)) told sink_told))

pub returns-in_default-clause-statuses : goal.returns-in_default-clause-statuses
returns-in_default-clause-statuses g c = at_most c.write_text.result c.write_text.ensures.status where
  at_most : (r : ℕ) → (r ≢ 5 → r ≡ 2) → r ≤ 8
  at_most r is = elim (five_or r 2 is) [
    | inl five ↦ omega (arith, five)
    | inr two ↦ omega (arith, two)
  ]

pub returns-in_default-clause-fault : goal.returns-in_default-clause-fault
returns-in_default-clause-fault g c = λ files f files_told is. absurd (none_comes (texts c.args.words.now) files (Err (stops.Fault f)) (sym c.in_default.ensures) is)

pub returns-in_default-clause-missing : goal.returns-in_default-clause-missing
returns-in_default-clause-missing g c = λ files file files_told is gone.
    absurd (none_comes (texts c.args.words.now) files (Err (stops.Unread file)) (sym c.in_default.ensures) is)

pub returns-in_default-clause-generated : goal.returns-in_default-clause-generated
returns-in_default-clause-generated g c = λ is. absurd (no_command (texts c.args.words.now) (sym c.in_default.ensures) is)

pub returns-in_default-clause-summed : goal.returns-in_default-clause-summed
returns-in_default-clause-summed g c = λ is. absurd (no_command (texts c.args.words.now) (sym c.in_default.ensures) is)

pub returns-in_default-clause-broken : goal.returns-in_default-clause-broken
returns-in_default-clause-broken g c = λ files i entry files_told is at. absurd (none_comes (texts c.args.words.now) files (Ok i) (sym c.in_default.ensures) is)

pub returns-in_default-clause-refused : goal.returns-in_default-clause-refused
returns-in_default-clause-refused g c = λ files i line files_told is at. absurd (none_comes (texts c.args.words.now) files (Ok i) (sym c.in_default.ensures) is)

pub returns-in_default-clause-complete : goal.returns-in_default-clause-complete
returns-in_default-clause-complete g c = λ files i files_told is no_fault no_rise.
    absurd (none_comes (texts c.args.words.now) files (Ok i) (sym c.in_default.ensures) is)

-- a command

not_five : (r : ℕ) → (r ≡ 0) ⊎ (r ≡ 1) → r ≡ 5 → ⊥
not_five r (inl is) five = omega (arith, is, five)
not_five r (inr is) five = omega (arith, is, five)

pub returns-clause-headline : goal.returns-clause-headline
returns-clause-headline g c = λ which files told files_told sink_told.
    answer_headline (texts c.args.words.now) files told (g.K.Sink.bytes c.write_text-2.new.sink)
    c.in-Ok.answer (by_words (texts c.args.words.now) files _ c.in-Ok.answer (sym c.in-Some.ensures) (c.in-Ok.ensures.answer files files_told))
    c.write_text-2.result c.as_slice.result.now which (c.write_text-2.ensures.status (not_five c.write_text-2.result which) ∙ c.status_of-status.ensures) (c.as_slice.ensures ∙ c.in-Ok-answer_text.ensures)
    (c.write_text-2.ensures.all (not_five c.write_text-2.result which) told sink_told)

pub returns-clause-wrote : goal.returns-clause-wrote
returns-clause-wrote g c = λ not_5 not_6 files told files_told sink_told.
    answer_wrote (texts c.args.words.now) (ComesTo (texts c.args.words.now) files) (g.S.Shelf.faults c.args.shelf.now) told (g.K.Sink.bytes c.write_text-2.new.sink) (g.S.Shelf.faults c.answer_of.new.shelf)
    c.in-Ok.answer (by_words (texts c.args.words.now) files _ c.in-Ok.answer (sym c.in-Some.ensures) (c.in-Ok.ensures.answer files files_told))
    (λ file is. c.in-Ok.ensures.unread file (cc))
    c.write_text-2.result c.as_slice.result.now (c.write_text-2.ensures.status not_5 ∙ c.status_of-status.ensures) (c.as_slice.ensures ∙ c.in-Ok-answer_text.ensures)
    (c.write_text-2.ensures.all not_5 told sink_told)

pub returns-clause-short : goal.returns-clause-short
returns-clause-short g c = λ is_5 files told files_told sink_told.
    answer_short (texts c.args.words.now) (ComesTo (texts c.args.words.now) files) (g.S.Shelf.faults c.args.shelf.now) told (g.K.Sink.bytes c.write_text-2.new.sink) (g.S.Shelf.faults c.answer_of.new.shelf)
    c.in-Ok.answer (by_words (texts c.args.words.now) files _ c.in-Ok.answer (sym c.in-Some.ensures) (c.in-Ok.ensures.answer files files_told))
    (λ file is. c.in-Ok.ensures.unread file (cc))
    c.as_slice.result.now (c.as_slice.ensures ∙ c.in-Ok-answer_text.ensures) (c.write_text-2.ensures.prefix is_5 told sink_told)

pub returns-clause-wrote_untold : goal.returns-clause-wrote_untold
returns-clause-wrote_untold g c = λ not_5 not_6 told sink_told.
    answer_wrote (texts c.args.words.now) (UntoldTurn (command_of (texts c.args.words.now)) (g.S.Shelf.faults c.args.shelf.now) (g.S.Shelf.faults c.answer_of.new.shelf)) (g.S.Shelf.faults c.args.shelf.now) told (g.K.Sink.bytes c.write_text-2.new.sink) (g.S.Shelf.faults c.answer_of.new.shelf)
    c.in-Ok.answer (untold_by_words (texts c.args.words.now) (g.S.Shelf.faults c.args.shelf.now) (g.S.Shelf.faults c.answer_of.new.shelf) _ c.in-Ok.answer (sym c.in-Some.ensures) c.in-Ok.ensures.untold)
    (λ file is. c.in-Ok.ensures.unread file (cc))
    c.write_text-2.result c.as_slice.result.now (c.write_text-2.ensures.status not_5 ∙ c.status_of-status.ensures) (c.as_slice.ensures ∙ c.in-Ok-answer_text.ensures)
    (c.write_text-2.ensures.all not_5 told sink_told)

pub returns-clause-short_untold : goal.returns-clause-short_untold
returns-clause-short_untold g c = λ is_5 told sink_told.
    answer_short (texts c.args.words.now) (UntoldTurn (command_of (texts c.args.words.now)) (g.S.Shelf.faults c.args.shelf.now) (g.S.Shelf.faults c.answer_of.new.shelf)) (g.S.Shelf.faults c.args.shelf.now) told (g.K.Sink.bytes c.write_text-2.new.sink) (g.S.Shelf.faults c.answer_of.new.shelf)
    c.in-Ok.answer (untold_by_words (texts c.args.words.now) (g.S.Shelf.faults c.args.shelf.now) (g.S.Shelf.faults c.answer_of.new.shelf) _ c.in-Ok.answer (sym c.in-Some.ensures) c.in-Ok.ensures.untold)
    (λ file is. c.in-Ok.ensures.unread file (cc))
    c.as_slice.result.now (c.as_slice.ensures ∙ c.in-Ok-answer_text.ensures) (c.write_text-2.ensures.prefix is_5 told sink_told)

pub returns-clause-statuses : goal.returns-clause-statuses
returns-clause-statuses g c = few_statuses c.in-Ok.answer c.write_text-2.result (λ not_5. c.write_text-2.ensures.status not_5 ∙ c.status_of-status.ensures)

pub returns-clause-usage_only : goal.returns-clause-usage_only
returns-clause-usage_only g c = λ is_2. absurd (no_two c.in-Ok.answer
    (status_is c.write_text-2.result 2 (status_of c.in-Ok.answer) (λ not_5. c.write_text-2.ensures.status not_5 ∙ c.status_of-status.ensures) is_2 (λ e. cc)))

pub returns-clause-fault : goal.returns-clause-fault
returns-clause-fault g c = λ files f files_told is.
    fault_comes c.input_laws.ensures.one c.input_laws.ensures.missing (texts c.args.words.now) files c.in-Ok.answer
    (by_words (texts c.args.words.now) files _ c.in-Ok.answer (sym c.in-Some.ensures) (c.in-Ok.ensures.answer files files_told))
    c.write_text-2.result (λ not_5. c.write_text-2.ensures.status not_5 ∙ c.status_of-status.ensures) f is

pub returns-clause-fault_only : goal.returns-clause-fault_only
returns-clause-fault_only g c = λ is_3 files files_told.
    fault_told (texts c.args.words.now) files c.in-Ok.answer
    (by_words (texts c.args.words.now) files _ c.in-Ok.answer (sym c.in-Some.ensures) (c.in-Ok.ensures.answer files files_told))
    (status_is c.write_text-2.result 3 (status_of c.in-Ok.answer) (λ not_5. c.write_text-2.ensures.status not_5 ∙ c.status_of-status.ensures) is_3 (λ e. cc))

pub returns-clause-missing : goal.returns-clause-missing
returns-clause-missing g c = λ files file files_told is gone.
    missing_comes c.input_laws.ensures.one c.input_laws.ensures.missing (texts c.args.words.now) files c.in-Ok.answer
    (by_words (texts c.args.words.now) files _ c.in-Ok.answer (sym c.in-Some.ensures) (c.in-Ok.ensures.answer files files_told))
    c.write_text-2.result (λ not_5. c.write_text-2.ensures.status not_5 ∙ c.status_of-status.ensures) file is gone

pub returns-clause-generated : goal.returns-clause-generated
returns-clause-generated g c = λ is. c.in-Ok.ensures.generated is.0 (said_is (c.in-Some.ensures ∙ is.1))

pub returns-clause-summed : goal.returns-clause-summed
returns-clause-summed g c = λ is.
    ends_well c.write_text-2.result (status_of c.in-Ok.answer) (λ not_5. c.write_text-2.ensures.status not_5 ∙ c.status_of-status.ensures)
    (c.in-Ok.ensures.summed is.0 (said_is (c.in-Some.ensures ∙ is.1)) (few_calls (texts c.args.words.now) is.0 is.1))

pub returns-clause-unread_only : goal.returns-clause-unread_only
returns-clause-unread_only g c = λ is_4.
    let unread = unread_of c.in-Ok.answer
    (status_is c.write_text-2.result 4 (status_of c.in-Ok.answer) (λ not_5. c.write_text-2.ensures.status not_5 ∙ c.status_of-status.ensures) is_4 (λ e. cc)) in
    let is = unread.1 in (
      unread.0,
      c.in-Ok.ensures.unread unread.0 (cc),
      λ files files_told.
          unread_told (texts c.args.words.now) files c.in-Ok.answer unread.0 is
          (by_words (texts c.args.words.now) files _ c.in-Ok.answer (sym c.in-Some.ensures) (c.in-Ok.ensures.answer files files_told)),
      λ told sink_told.
          unread_written c.in-Ok.answer unread.0 c.as_slice.result.now told (g.K.Sink.bytes c.write_text-2.new.sink) is
          (c.as_slice.ensures ∙ c.in-Ok-answer_text.ensures) (c.write_text-2.ensures.all (λ e. omega (arith, is_4, e)) told sink_told),
    )

pub returns-clause-broken : goal.returns-clause-broken
returns-clause-broken g c = λ files i entry files_told is at.
    broken_comes c.input_laws.ensures.one c.input_laws.ensures.missing (texts c.args.words.now) files c.in-Ok.answer
    (by_words (texts c.args.words.now) files _ c.in-Ok.answer (sym c.in-Some.ensures) (c.in-Ok.ensures.answer files files_told))
    c.write_text-2.result (λ not_5. c.write_text-2.ensures.status not_5 ∙ c.status_of-status.ensures) i entry is at

pub returns-clause-broken_only : goal.returns-clause-broken_only
returns-clause-broken_only g c = λ is_7 files files_told.
    broken_told (texts c.args.words.now) files c.in-Ok.answer
    (by_words (texts c.args.words.now) files _ c.in-Ok.answer (sym c.in-Some.ensures) (c.in-Ok.ensures.answer files files_told))
    (status_is c.write_text-2.result 7 (status_of c.in-Ok.answer) (λ not_5. c.write_text-2.ensures.status not_5 ∙ c.status_of-status.ensures) is_7 (λ e. cc))

pub returns-clause-run_whole : goal.returns-clause-run_whole
returns-clause-run_whole g c = λ is_run files files_told is_7.
    run_is_whole (texts c.args.words.now) files is_run (broken_told (texts c.args.words.now) files c.in-Ok.answer
    (by_words (texts c.args.words.now) files _ c.in-Ok.answer (sym c.in-Some.ensures) (c.in-Ok.ensures.answer files files_told))
    (status_is c.write_text-2.result 7 (status_of c.in-Ok.answer) (λ not_5. c.write_text-2.ensures.status not_5 ∙ c.status_of-status.ensures) is_7 (λ e. cc)))

pub returns-clause-refused : goal.returns-clause-refused
returns-clause-refused g c = λ files i line files_told is at.
    refused_comes c.input_laws.ensures.one c.input_laws.ensures.missing (texts c.args.words.now) files c.in-Ok.answer
    (by_words (texts c.args.words.now) files _ c.in-Ok.answer (sym c.in-Some.ensures) (c.in-Ok.ensures.answer files files_told))
    c.write_text-2.result (λ not_5. c.write_text-2.ensures.status not_5 ∙ c.status_of-status.ensures) i line is at

pub returns-clause-refused_only : goal.returns-clause-refused_only
returns-clause-refused_only g c = λ is_8 files files_told.
    refused_told (texts c.args.words.now) files c.in-Ok.answer
    (by_words (texts c.args.words.now) files _ c.in-Ok.answer (sym c.in-Some.ensures) (c.in-Ok.ensures.answer files files_told))
    (status_is c.write_text-2.result 8 (status_of c.in-Ok.answer) (λ not_5. c.write_text-2.ensures.status not_5 ∙ c.status_of-status.ensures) is_8 (λ e. cc))

pub returns-clause-complete : goal.returns-clause-complete
returns-clause-complete g c = λ files i files_told is no_fault no_rise.
    all_comes c.input_laws.ensures.one c.input_laws.ensures.missing (texts c.args.words.now) files c.in-Ok.answer
    (by_words (texts c.args.words.now) files _ c.in-Ok.answer (sym c.in-Some.ensures) (c.in-Ok.ensures.answer files files_told))
    c.write_text-2.result (λ not_5. c.write_text-2.ensures.status not_5 ∙ c.status_of-status.ensures)
    (g.S.Shelf.faults c.args.shelf.now) (g.S.Shelf.faults c.answer_of.new.shelf) i (λ file is. c.in-Ok.ensures.unread file (cc))
    is no_fault (λ is_5. no_rise (c.write_text-2.ensures.failed is_5))
