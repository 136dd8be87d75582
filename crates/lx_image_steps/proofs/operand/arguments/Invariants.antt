use Rattle.std.proofs.Common.{◌≡◌, map, take}
use Rattle.lx_model.specs.Effect.{operand}
use Rattle.lx_image_steps.specs.Standing.{run_of}
use Rattle.lx_image_steps.proofs.operand.arguments.Given as goal

abbrev pub invariant-loop-arg : goal.invariant-loop-arg
invariant-loop-arg l = l.words.items ≡ map (λ x. operand l.code.program (run_of l.code l.run) x.value) (take l.arg-index l.args)
