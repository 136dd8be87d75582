use Rattle.std.proofs.Common.{◌≡◌, ◌++◌, drop, map}
use Rattle.lx_image_texts.specs.Spared.{is_spared}
use Rattle.lx_instrument.specs.Made.{function_by}
use Rattle.lx_instrument.proofs.image.push_spared_functions.Given as goal

abbrev pub invariant-loop-f : goal.invariant-loop-f
invariant-loop-f l =
    l.list.items ++ map (λ f. function_by l.numbers (is_spared l.m f) f) (drop l.f-index l.functions) ≡ l.initial.list.items ++ map (λ f. function_by l.numbers (is_spared l.m f) f) l.functions
