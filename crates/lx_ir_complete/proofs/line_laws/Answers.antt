use Rattle.std.proofs.Common.{refl}
use Rattle.std.specs.Prelude.{flat_map}
use Rattle.lx_words.specs.declared.token.TokenRule.TheVariants.{Ir}
use Rattle.lx_ir_complete.specs.Lines.{line_of}
use Rattle.lx_ir_complete.proofs.ReadLines.{lines_seen}
use Rattle.lx_ir_complete.proofs.line_laws.Goals as goal

pub returns : goal.returns
returns c lines each ir reads = lines_seen (flat_map line_of lines) lines each ir (c.one_way.ensures Ir (flat_map line_of lines)) refl reads
