-- The acts so far.
use Rattle.std.proofs.Common.{◌≡◌, take}
use Rattle.lx_store_tests.proofs.certificates.acts_of.Given as goal

abbrev pub invariant-loop-act : goal.invariant-loop-act
invariant-loop-act l = l.list.items ≡ take l.act-index l.acts
