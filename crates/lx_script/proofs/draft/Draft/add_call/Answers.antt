use Rattle.std.proofs.Common.{length, arith, sym}
use Rattle.std.proofs.lemmas.Bool.{eqb-false}
use Rattle.lx_script.specs.Reading.{names_of}
use Rattle.lx_script.proofs.Counts.{call_fits, counted}
use Rattle.lx_script.proofs.draft.Draft.add_call.Goals as goal

pub overflow_add-self-2 : goal.overflow_add-self-2
overflow_add-self-2 c = omega (arith, call_fits (names_of c.self.inside.modules) c.self.inside.fuel _ c.in_ok-call.call c.in_ok-call.ensures)

pub invariant_of-self-2 : goal.invariant_of-self-2
invariant_of-self-2 c =
    counted c.self.inside.modules c.self.inside.threads c.push_call.new.threads c.self.inside.calls c.self.inside.fuel c.in_ok-call.call c.self.invariant (omega (arith, eqb-false (length c.self.inside.threads) 0 (sym c.if-is_empty.ensures))) (omega (arith, c.if-self-ge-MOST_CALLS.false)) (call_fits (names_of c.self.inside.modules) c.self.inside.fuel _ c.in_ok-call.call c.in_ok-call.ensures) c.in_ok-push_call.ensures.ok
