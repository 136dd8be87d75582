use Rattle.lx_act_index.proofs.TableLemmas.{range_noted}
use Rattle.lx_act_index.proofs.table.say_range.Goals as goal

pub returns-clause-bytes : goal.returns-clause-bytes
returns-clause-bytes c =
    range_noted c.args.threads.now c.args.saying c.args.range c.args.table.now.lines.items c.put_lines.new.lines.items c.in_ok-fresh.fresh.items c.in_ok-fresh.ensures c.put_lines.ensures
