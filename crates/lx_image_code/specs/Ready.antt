-- Code that may run.
use Rattle.lx_images.specs.Image.{Code}
use Rattle.lx_image_code.specs.Reach.{AreWithinReach}
use Rattle.lx_image_code.specs.Tables.{HasTables}
use Rattle.lx_image_code.specs.declared.tables.Tables.{Tables}

-- the images are within reach, and the tables are those of the code
pub record IsReady (c : Code) (t : Tables) : Type 0 where
  pub images : AreWithinReach c.program c.images
  pub tables : HasTables c t
