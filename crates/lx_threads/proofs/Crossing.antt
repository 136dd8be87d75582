-- The code of threads may be shared by them.
use denote.Param.Send.{IsSync, sendable}
use Rattle.std.proofs.Crossing.{crosses}
use Rattle.lx_image_code.proofs.Crossing.{code_field}
use Rattle.lx_threads.specs.contracts.runner.ThreadCode as ThreadCode

pub text_field : IsSync (ThreadCode.the_field).row
text_field = search (code_field, crosses, sendable) depth 60 fits 20000

pub text_sync : IsSync ThreadCode.the_row
text_sync = search (text_field, sendable) depth 60 fits 20000
