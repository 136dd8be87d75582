-- Parts of functions, as they are copied.
use Rattle.std.specs.Prelude.{Bool, true, false, Option, None, List}
use Rattle.lx_ir.specs.declared.module.Block.{Block}

abbrev pub body_unless : Bool → Option (List Block) → Option (List Block)
body_unless true body = None
body_unless false body = body
