use Rattle.std.proofs.Common.{◌∙◌, ap, cond, ◌∷◌, ◌++◌, []}
use Rattle.lx_cap_lists.specs.Tables.{same_key}
use Rattle.lx_cap_lists.proofs.KeyLemmas.{absent}
use Rattle.lx_cap_lists.proofs.keys.add.Goals as goal

pub returns-clause-keys : goal.returns-clause-keys
returns-clause-keys c =
    c.in-Ok.ensures.keys ∙ ap (λ b. cond b c.args.keys.now.keys (c.args.keys.now.keys ++ c.args.key ∷ [])) (absent (same_key c.args.key) 0 c.args.keys.now.keys c.requires.new)
