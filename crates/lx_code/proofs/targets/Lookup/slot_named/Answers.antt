use Rattle.std.proofs.Common.{◌∙◌, ap, sym, ◌++◌}
use Rattle.std.specs.Prelude.{bytes_eq, codes}
use Rattle.lx_words.proofs.Lists.{none_passes, same_place}
use Rattle.lx_model.specs.declared.program.Program.{Program}
use Rattle.lx_model.specs.Program.{slot_named}
use Rattle.lx_code.specs.Places.{is_named}
use Rattle.lx_code.proofs.targets.Lookup.slot_named.Goals as goal

pub returns-in-Some : goal.returns-in-Some
returns-in-Some c =
    let slots = c.self.inside.program.now.interface.slots in
    c.copied.ensures
    ∙ c.get.ensures.value
    ∙ c.self.invariant.slot_names c.in-Some.rest.now
    ∙ same_place (is_named c.in-Some.rest.now) (λ s. bytes_eq (codes "k.slot." ++ s.name) c.args.name.now) slots (λ s. sym (c.in-Some.ensures s.name))
    ∙ ap (λ (p : Program). slot_named p c.args.name.now) c.self.view_is

pub returns-in-None : goal.returns-in-None
returns-in-None c =
    let slots = c.self.inside.program.now.interface.slots in
    sym (none_passes (λ s. bytes_eq (codes "k.slot." ++ s.name) c.args.name.now) slots (λ s. c.in-None.ensures s.name))
    ∙ ap (λ (p : Program). slot_named p c.args.name.now) c.self.view_is
