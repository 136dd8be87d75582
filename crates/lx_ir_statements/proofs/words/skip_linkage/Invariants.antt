use Rattle.std.proofs.Common.{◌≡◌, ◌≤◌, length}
use Rattle.lx_ir_constants.specs.Constants.{skipped}
use Rattle.lx_ir_statements.specs.Words.{is_linkage_word}
use Rattle.lx_ir_statements.proofs.words.skip_linkage.Given as goal

abbrev pub invariant-loop-reader : goal.invariant-loop-reader
invariant-loop-reader l = record { passed : skipped is_linkage_word l.reader ≡ skipped is_linkage_word l.fn.reader; shrinks : length l.reader ≤ length l.fn.reader }

abbrev pub decreases-loop-reader : goal.decreases-loop-reader
decreases-loop-reader l = length l.reader
