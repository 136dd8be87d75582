use Rattle.lx_opened_tests.proofs.Accepting.{one_more}
use Rattle.lx_opened_tests.proofs.images.push_checked.Goals as goal

pub returns : goal.returns
returns c = one_more c.args.i.now c.args.images.now.items c.push.new.self.items c.in_ok-checked.field-0 c.requires c.in_ok-checked.ensures c.in_ok-push.ensures.items
