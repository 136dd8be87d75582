use Rattle.std.proofs.Common.{◌≡◌, ◌≤◌, length, take}
use Rattle.std.specs.List.{AllZip}
use Rattle.lx_ir_tokens.specs.Reading.{names_of, IsTokOf}
use Rattle.lx_ir_tokens.proofs.read.all_seen.Given as goal

abbrev pub invariant-loop-place : goal.invariant-loop-place
invariant-loop-place l = record {
  table : l.names ≡ names_of l.text (take l.place-index l.places);
  seen : AllZip (IsTokOf l.text l.names) (take l.place-index l.places) l.toks;
  few : length l.names ≤ l.place-index;
}
