use Rattle.std.proofs.Common.{◌≡◌, ◌++◌, take}
use Rattle.std.specs.List.{flat_map}
use Rattle.lx_why_text.specs.Text.{certified_line}
use Rattle.lx_why_text.proofs.certs.put_certs.Given as goal

abbrev pub invariant-loop-certified : goal.invariant-loop-certified
invariant-loop-certified l =
    l.out.items ≡ l.fn.out.items ++ flat_map (certified_line l.teller.program.now l.teller.names) (take l.certified-index l.certs)
