-- Replies that end a call.
use Rattle.std.specs.Prelude.{Bool, true, false}
use Rattle.lx_model.specs.declared.request.Reply.{Reply}
use Rattle.lx_model.specs.declared.request.Reply.TheVariants.{Ended}

-- the reply ends the call
abbrev pub is_ended : Reply → Bool
is_ended (Ended o) = true
is_ended _ = false
