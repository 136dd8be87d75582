use Rattle.std.proofs.Common.{◌≡◌, ◌≤◌, take, count_by}
use Rattle.std.specs.List.{enumerate_from}
use Rattle.lx_annotation_tables.specs.Images.{is_wrapped}
use Rattle.lx_annotation_tables.proofs.images.count_wrappers.Given as goal

abbrev pub invariant-loop-number : goal.invariant-loop-number
invariant-loop-number l = record {
  value : l.count ≡ count_by (is_wrapped l.annotated) (take l.number (enumerate_from 0 l.functions));
  small : l.count ≤ l.number;
}
