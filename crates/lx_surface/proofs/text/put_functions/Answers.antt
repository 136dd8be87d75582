use Rattle.std.proofs.Common.{arith}
use Rattle.lx_surface.specs.Text.{function_line}
use Rattle.lx_surface.proofs.Numbered.{numbered_more, numbered_all}
use Rattle.lx_surface.proofs.text.put_functions.Goals as goal

pub loop-place-preserved : goal.loop-place-preserved
loop-place-preserved c =
    numbered_more (function_line c.args.scope.program.now c.args.scope.bound.now c.args.scope.home c.args.scope.name.now) c.args.functions.now c.loop-place.place _ _ _ _ (omega arith) c.loop-place.invariant c.in_ok-put_entry.ensures

pub returns : goal.returns
returns c = numbered_all (function_line c.args.scope.program.now c.args.scope.bound.now c.args.scope.home c.args.scope.name.now) c.args.functions.now c.loop-place.place _ _ (omega arith) c.loop-place.invariant
