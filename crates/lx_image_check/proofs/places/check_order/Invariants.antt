use Rattle.std.proofs.Common.{◌≡◌, drop}
use Rattle.std.specs.Prelude.{filter}
use Rattle.lx_ir.specs.Lookup.{is_defined}
use Rattle.lx_image_texts.specs.ImageFaults.{misplaced}
use Rattle.lx_image_check.proofs.places.check_order.Given as goal

abbrev pub invariant-loop-f : goal.invariant-loop-f
invariant-loop-f l = misplaced l.expected (filter is_defined l.functions) ≡ misplaced l.rest (filter is_defined (drop l.f-index l.functions))
