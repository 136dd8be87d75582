use Rattle.std.proofs.Common.{sym}
use Rattle.std.proofs.lemmas.Result.{err_from_is_err_and}
use Rattle.lx_script.proofs.Reached.{one_more, refused, stopped, head_and_rest}
use Rattle.lx_script.proofs.schedule.entries_in.Goals as goal

pub returns-in_err-add_word-clause-fault : goal.returns-in_err-add_word-clause-fault
returns-in_err-add_word-clause-fault c =
    let p = err_from_is_err_and c.from_residual.result c.from_residual.ensures.1 in
    rw (p.1, p.2) (refused c.args.text.now c.loop-word.words.rest.now c.next_word.new.self.rest.now c.loop-word.entries c.in-Some.word.now c.loop-word.words.line c.next_word.new.self.line c.loop-word.first c.in_err-add_word.field-0.0
    c.loop-word.invariant.so_far c.in-Some.ensures.step c.in_err-add_word.ensures.fault)

pub loop-word-preserved : goal.loop-word-preserved
loop-word-preserved c = record {
  so_far = one_more c.args.text.now c.loop-word.words.rest.now c.next_word.new.self.rest.now c.loop-word.entries c.add_word.new.entries c.in-Some.word.now c.loop-word.words.line c.next_word.new.self.line c.loop-word.first
      c.loop-word.invariant.so_far c.in-Some.ensures.step c.in_ok-add_word.ensures.ok;
  room = c.next_word.ensures.room;
}

pub returns-clause-fault : goal.returns-clause-fault
returns-clause-fault c =
    stopped c.args.text.now c.loop-word.words.rest.now c.next_word.new.self.rest.now c.loop-word.entries c.loop-word.words.line c.next_word.new.self.line c.loop-word.first _ _ _
    c.loop-word.invariant.so_far c.in_default.ensures.step (head_and_rest c.next_word.new.self.rest.now (sym c.if-is_empty.ensures)) c.met_byte.ensures
