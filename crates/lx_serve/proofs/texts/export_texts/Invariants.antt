use Rattle.std.proofs.Common.{◌≡◌, take, map}
use Rattle.lx_serve.specs.Texts.{export_text}
use Rattle.lx_serve.proofs.texts.export_texts.Given as goal

abbrev pub invariant-loop-export : goal.invariant-loop-export
invariant-loop-export l = l.texts ≡ map (export_text l.i) (take l.export-index l.exports)
