-- Inputs with the code of their programs over images that may be any.
use Rattle.std.specs.Prelude.{◌≡◌, ◌≤◌, List, length, map}
use Rattle.lx_annotation_tables.specs.Entries.{all_annotated}
use Rattle.lx_images.specs.Image.{Code}
use Rattle.lx_link_texts.specs.WellFormed.{IsWellFormed}
use Rattle.lx_model.specs.Account.{image_count}
use Rattle.lx_model.specs.declared.account.ImageCount.{ImageCount}
use Rattle.lx_model.specs.declared.program.Program.{Program}
use Rattle.lx_model.specs.declared.program.ScriptCall.{ScriptCall}
use Rattle.lx_slot_types.specs.Gets.{below}
use Rattle.lx_slot_types.specs.declared.Marked.{Marked}

-- the code is that of this well-formed program; of its modules it is known which functions get slot types and what their images have
-- beyond them, and the script has at most sixteen threads
pub record IsCoded (code : Code) (p : Program) (script : List (List ScriptCall)) (annotated : List (List Marked)) (counts : List ImageCount) : Type 0 where
  pub same : p ≡ code.program
  pub formed : IsWellFormed code.program
  pub known : annotated ≡ all_annotated code.program
  pub few : length script ≤ 16
  pub counted : counts ≡ map (image_count code.program) (below (length code.program.modules))
