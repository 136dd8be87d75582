use Rattle.std.proofs.Common.{◌≡◌, [], drop, length}
use Rattle.lx_ir_tables.specs.Numbering.{numbering}
use Rattle.lx_ir_read.specs.Again.{no_draft, all_again}
use Rattle.lx_ir_read.proofs.again.all_again.Given as goal

abbrev pub invariant-loop-f : goal.invariant-loop-f
invariant-loop-f l = record { registers : l.registers ≡ numbering (length l.context.names) []; draft : all_again l.context l.form l.ir.places l.ir.toks l.draft (drop l.f-index l.found) ≡ all_again l.context l.form l.ir.places l.ir.toks no_draft l.found }
