use Rattle.std.proofs.Common.{◌∙◌, subst}
use Rattle.std.specs.Prelude.{IfSome}
use Rattle.lx_name_tables.specs.Keys.{HasNumbers}
use Rattle.lx_name_tables.proofs.keys.number_of.Goals as goal

pub returns-in-Some : goal.returns-in-Some
returns-in-Some c =
    let table = subst (λ o. IfSome o (λ numbers. HasNumbers c.args.functions.now numbers.entries)) c.in-Some.is c.requires.table in
    c.copied.ensures ∙ (c.get.ensures.value ∙ table c.args.home c.args.function)
