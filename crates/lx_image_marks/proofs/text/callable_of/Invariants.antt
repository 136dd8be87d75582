use Rattle.std.proofs.Common.{◌≡◌, Some, map, take}
use Rattle.lx_image_texts.specs.ImageFaults.{may_call_function}
use Rattle.lx_image_marks.proofs.text.callable_of.Given as goal

abbrev pub invariant-loop-f : goal.invariant-loop-f
invariant-loop-f l = l.callable.items ≡ map (λ f. may_call_function l.imports (Some f)) (take l.f-index l.imports.functions)
