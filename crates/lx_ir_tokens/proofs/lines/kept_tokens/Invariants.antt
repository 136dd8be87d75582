use Rattle.std.proofs.Common.{◌≡◌, ◌++◌, length, false, All}
use Rattle.lx_words.specs.Cuts.{IsWithin}
use Rattle.lx_ir_tokens.proofs.KeptLines.{kept_from}
use Rattle.lx_ir_tokens.proofs.lines.kept_tokens.Given as goal

abbrev pub invariant-loop-token : goal.invariant-loop-token
invariant-loop-token l = record {
  so_far : l.kept ++ kept_from l.text l.silent l.line l.rest ≡ kept_from l.text false 0 l.fn.tokens;
  within : All (IsWithin l.text) l.rest;
}

abbrev pub decreases-loop-token : goal.decreases-loop-token
decreases-loop-token l = length l.rest
