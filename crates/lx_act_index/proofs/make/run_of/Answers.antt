use Rattle.std.proofs.Common.{◌≡◌, ◌+◌, List, subst}
use Rattle.lx_caps.specs.Loans.{none_end}
use Rattle.lx_caps.specs.History.{reaches}
use Rattle.lx_cap_lists.specs.Tables.{bit_of}
use Rattle.lx_act_index.specs.declared.threads.Thread.{Thread}
use Rattle.lx_act_index.specs.Lines.{line_giver}
use Rattle.lx_act_index.specs.Table.{line_of}
use Rattle.lx_act_index.specs.Threads.{is_open}
use Rattle.lx_act_index.proofs.RunLemmas.{run_given}
use Rattle.lx_act_index.proofs.make.run_of.Goals as goal

pub returns-clause-alike : goal.returns-clause-alike
returns-clause-alike c = λ h stands k lt x is.
    let i = c.args.index.now in
    let run = c.run_in.result in
    run_given h i.table i.threads.items c.args.gifts c.args.who c.args.atom x k run.giver stands.shows is
    (subst (λ (ts : List Thread). line_giver c.args.gifts (reaches c.args.who) (is_open none_end ts) (bit_of c.args.atom + k) (line_of i.table c.args.atom) ≡ run.giver) c.as_slice.ensures.value (c.run_in.ensures.alike k lt))
