use Rattle.std.proofs.Common.{◌∙◌, ap, map}
use Rattle.lx_ir_tokens.proofs.Numbered.{inserted}
use Rattle.lx_ir_tokens.proofs.names.NameTable.add.Goals as goal

pub returns-clause-ok : goal.returns-clause-ok
returns-clause-ok c =
    ap (map (λ name. name.items)) c.in_ok-insert.ensures.keys ∙ inserted (λ name. name.items) c.self.inside.names.keys c.in_ok-bytes.bytes c.args.self.now c.args.name.now c.self.view_is c.in_ok-bytes.ensures.items c.requires.absent
