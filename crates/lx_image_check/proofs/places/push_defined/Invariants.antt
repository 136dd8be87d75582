use Rattle.std.proofs.Common.{◌≡◌, ◌++◌, drop}
use Rattle.lx_image_texts.specs.ImageFaults.{defined_names}
use Rattle.lx_image_check.proofs.places.push_defined.Given as goal

abbrev pub invariant-loop-f : goal.invariant-loop-f
invariant-loop-f l = l.names ++ defined_names (drop l.f-index l.functions) ≡ l.initial.names ++ defined_names l.functions
