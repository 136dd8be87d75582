use Rattle.std.proofs.Common.{◌∙◌, sym, ◌++◌}
use Rattle.std.specs.Prelude.{bytes_eq, codes}
use Rattle.lx_name_tables.specs.Places.{is_slot}
use Rattle.lx_name_tables.proofs.Firsts.{none_found, same_found}
use Rattle.lx_name_tables.proofs.interfaces.InterfaceNames.slot_called.Goals as goal

pub returns-in-Some : goal.returns-in-Some
returns-in-Some c =
    c.slot_named.ensures
    ∙ same_found (is_slot c.in-Some.rest.now) (λ s. bytes_eq (codes "k.slot." ++ s.name) c.args.name.now) c.args.self.now.slots (λ s. sym (c.in-Some.ensures s.name))

pub returns-in-None : goal.returns-in-None
returns-in-None c = sym (none_found (λ s. bytes_eq (codes "k.slot." ++ s.name) c.args.name.now) c.args.self.now.slots (λ s. c.in-None.ensures s.name))
