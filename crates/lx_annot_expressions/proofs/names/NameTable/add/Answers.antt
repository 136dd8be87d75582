use Rattle.std.proofs.Common.{◌∙◌, ap, map, refl}
use Rattle.lx_annot_expressions.proofs.Numbered.{inserted}
use Rattle.lx_annot_expressions.proofs.names.NameTable.add.Goals as goal

pub returns-clause-ok : goal.returns-clause-ok
returns-clause-ok c =
    ap (map (λ name. name.now)) c.in_ok-insert.ensures.keys ∙ inserted (λ name. name.now) c.self.inside.names.keys c.args.name c.args.self.now c.args.name.now c.self.view_is refl c.requires.absent
