use Rattle.std.proofs.Common.{◌∙◌, ap, sym}
use Rattle.std.specs.Prelude.{slice_get}
use Rattle.lx_annot.specs.declared.interface.Interface.{Interface}
use Rattle.lx_name_tables.specs.Places.{is_slot}
use Rattle.lx_name_tables.proofs.Firsts.{found_at}
use Rattle.lx_name_tables.proofs.interfaces.InterfaceNames.slot_named.Goals as goal

pub returns-in-Some : goal.returns-in-Some
returns-in-Some c =
    found_at (is_slot c.args.name.now) c.args.self.now.slots c.in-Some.place _ (sym c.in-Some.ensures)
    (c.slot_in.ensures ∙ ap (λ (i : Interface). slice_get i.slots c.in-Some.place) c.self.view_is)
