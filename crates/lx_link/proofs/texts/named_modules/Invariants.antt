use Rattle.std.proofs.Common.{◌≡◌}
use Rattle.lx_link.specs.Answers.{AreVerified, named_modules}
use Rattle.lx_link.proofs.texts.named_modules.Given as goal

abbrev pub invariant-loop-verified : goal.invariant-loop-verified
invariant-loop-verified l = (l.list ≡ named_modules l.names l.yielded) × AreVerified l.list
