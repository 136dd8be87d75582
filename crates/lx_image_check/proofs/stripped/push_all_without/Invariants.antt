use Rattle.std.proofs.Common.{◌≡◌, ◌++◌, drop, map}
use Rattle.lx_image_texts.specs.ImageFaults.{without_body}
use Rattle.lx_image_check.proofs.stripped.push_all_without.Given as goal

abbrev pub invariant-loop-f : goal.invariant-loop-f
invariant-loop-f l = l.list ++ map without_body (drop l.f-index l.functions) ≡ l.initial.list ++ map without_body l.functions
