use Rattle.std.proofs.Common.{◌≡◌, ◌++◌, take}
use Rattle.std.specs.List.{flat_map}
use Rattle.lx_trace_text.specs.Text.{further_text}
use Rattle.lx_trace_text.proofs.pieces.put_furthers.Given as goal

abbrev pub invariant-loop-word : goal.invariant-loop-word
invariant-loop-word l = l.out.items ≡ l.fn.out.items ++ flat_map further_text (take l.word-index l.words)
