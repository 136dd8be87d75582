use Rattle.std.proofs.Common.{◌∙◌}
use Rattle.lx_principals.proofs.Tables.{goes_last}
use Rattle.lx_principals.proofs.principals.put_name.Goals as goal

pub returns-clause-ok : goal.returns-clause-ok
returns-clause-ok c =
    c.in_ok-insert.ensures.entries ∙ goes_last c.args.names.now.entries c.args.name c.args.instance c.requires
