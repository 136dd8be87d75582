use Rattle.std.proofs.Common.{◌≡◌, take, count_by}
use Rattle.std.specs.List.{flat_map}
use Rattle.lx_ir.specs.Lookup.{instrs_of}
use Rattle.lx_annotation_tables.specs.Images.{is_behind}
use Rattle.lx_annotation_tables.proofs.images.count_functions.Given as goal

abbrev pub invariant-loop-function : goal.invariant-loop-function
invariant-loop-function l = l.total ≡ count_by (is_behind l.what) (flat_map instrs_of (take l.function-index l.functions))
