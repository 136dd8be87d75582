use Rattle.std.proofs.Common.{◌∙◌, ap, sym, cond, Some}
use Rattle.lx_model.specs.Program.{is_entry}
use Rattle.lx_name_tables.specs.Keys.{at_key}
use Rattle.lx_name_tables.proofs.Same.{key_of_entry}
use Rattle.lx_name_tables.proofs.keys.put_number.Goals as goal

pub returns-in_ok-insert-in-Of : goal.returns-in_ok-insert-in-Of
returns-in_ok-insert-in-Of c = λ home f.
    c.in_ok-insert-in-Of.ensures.updates.0 (home, f)
    ∙ ap (λ b. cond b (Some c.args.number) (at_key c.args.numbers.now.entries home f))
    (key_of_entry c.in-Of.module home c.in-Of.function f ∙ ap (is_entry home f) (sym c.in-Of.is))
