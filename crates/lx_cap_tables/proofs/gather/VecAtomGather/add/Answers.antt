use Rattle.std.proofs.Common.{◌||◌, sym, ap, ◌∙◌}
use Rattle.lx_caps.specs.Once.{is_atom}
use Rattle.lx_caps.specs.Order.{stands_in}
use Rattle.lx_cap_tables.proofs.AloneLemmas.{gives_alone}
use Rattle.lx_cap_tables.proofs.gather.VecAtomGather.add.Goals as goal

pub returns : goal.returns
returns c = λ x. c.in_ok-put_found.ensures x ∙ ap (λ t. stands_in x c.args.self.now.items || t) (ap (λ o. is_atom o x) c.alone_by.ensures ∙ sym (gives_alone c.args.who c.args.entry x))
