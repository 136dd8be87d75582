use Rattle.std.proofs.Common.{arith}
use Rattle.lx_outside.proofs.Fronts.{front}
use Rattle.lx_outside.proofs.real.read_front.Goals as goal

pub returns : goal.returns
returns g c =
    front g.F.Read.remaining c.take-front.result.inner c.args.file c.take-front.ensures.inner c.take-front.result.limit 1048577 (omega arith)
    c.new-bytes.result.items c.read_to_end.new.buf.items c.new-bytes.ensures.items c.in_ok-read_to_end.ensures.bytes
