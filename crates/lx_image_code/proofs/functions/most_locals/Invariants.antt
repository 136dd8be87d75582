use Rattle.std.proofs.Common.{ℕ, ◌<◌, ◌≤◌}
use Rattle.lx_images.specs.Image.{image_routine}
use Rattle.lx_image_code.specs.Code.{code_of}
use Rattle.lx_image_code.specs.Tables.{HasLocals}
use Rattle.lx_image_code.proofs.functions.most_locals.Given as goal

abbrev pub invariant-loop-entry : goal.invariant-loop-entry
invariant-loop-entry l = record {
  enough : (k : ℕ) → k < l.entry-index → (image_routine (code_of l.program l.images) k).locals ≤ l.most;
  least : (other : ℕ) → HasLocals (code_of l.program l.images) other → l.most ≤ other;
}
