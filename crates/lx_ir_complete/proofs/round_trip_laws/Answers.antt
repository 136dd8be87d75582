use Rattle.lx_ir_complete.proofs.RoundTrip.{read_back}
use Rattle.lx_ir_complete.proofs.round_trip_laws.Goals as goal

pub returns : goal.returns
returns c form m lawful kept plain = read_back form (c.printed_laws.ensures form) m lawful kept plain
