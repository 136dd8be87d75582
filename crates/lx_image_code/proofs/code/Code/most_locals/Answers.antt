use Rattle.std.proofs.Common.{ℕ, ◌≤◌, subst}
use Rattle.lx_images.specs.Image.{Code}
use Rattle.lx_image_code.specs.Tables.{HasLocals}
use Rattle.lx_image_code.proofs.code.Code.most_locals.Goals as goal

pub returns-clause-least : goal.returns-clause-least
returns-clause-least c =
    subst (λ (code : Code). (other : ℕ) → HasLocals code other → c.self.inside.tables.most_locals ≤ other) c.self.view_is c.self.invariant.tables.locals.least
