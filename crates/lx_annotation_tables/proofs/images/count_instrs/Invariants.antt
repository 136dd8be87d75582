use Rattle.std.proofs.Common.{◌≡◌, ◌≤◌, take, count_by, ℕ}
use Rattle.lx_annotation_tables.specs.Images.{is_behind}
use Rattle.lx_annotation_tables.proofs.images.count_instrs.Given as goal

-- how many of so many first instructions ask for it
pub record Counted (total count index : ℕ) : Type 0 where
  pub value : count ≡ total
  pub small : count ≤ index

abbrev pub invariant-loop-instr : goal.invariant-loop-instr
invariant-loop-instr l = Counted (count_by (is_behind l.what) (take l.instr-index l.instrs)) l.count l.instr-index
