use Rattle.std.proofs.Common.{◌∙◌, sym, ap, subst}
use Rattle.lx_caps.specs.declared.Atom.{Atom}
use Rattle.lx_caps.specs.declared.Cap.{Cap}
use Rattle.lx_caps.specs.History.{has}
use Rattle.lx_caps.specs.Placed.{is_placed}
use Rattle.lx_cap_lists.specs.Tables.{bit_of}
use Rattle.lx_act_index.specs.Table.{IsNoted, line_of}
use Rattle.lx_act_index.proofs.TableLemmas.{write_noted}
use Rattle.lx_act_index.proofs.table.say.Goals as goal

pub returns-in_ok-say_range-in-Write-clause-ok : goal.returns-in_ok-say_range-in-Write-clause-ok
returns-in_ok-say_range-in-Write-clause-ok c =
    let old = c.args.table.now in
    let new = c.say_range.new.table in
    let done = c.in_ok-say_range-in-Write.ensures in
    subst (λ (k : Cap). (x : Atom) → IsNoted c.args.threads.now c.args.saying (has k x) (bit_of x) (line_of old x) (line_of new x)) (sym c.in-Write.is)
    (write_noted c.args.threads.now c.args.saying old new c.in-Write.at c.in-Write.size (sym (ap is_placed c.in-Write.is) ∙ c.requires.placed) done.atoms done.bytes done.others)
