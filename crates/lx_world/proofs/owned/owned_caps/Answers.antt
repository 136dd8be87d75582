use Rattle.std.proofs.Common.{◌++◌, sym, ap, ◌∙◌, append_assoc}
use Rattle.std.specs.List.{flat_map}
use Rattle.lx_slot_types.specs.Gets.{below}
use Rattle.lx_model.specs.Owned.{owned_calls, owned_ranges, owned_refs}
use Rattle.lx_world.specs.Atoms.{caps_of}
use Rattle.lx_world.proofs.Atoms.{caps_are}
use Rattle.lx_world.proofs.owned.owned_caps.Goals as goal

pub returns : goal.returns
returns g c = λ h stands.
    c.in_ok-put_atoms.ensures
    ∙ ((λ j. c.in_ok-owned.ensures h stands j ++ (ap (flat_map (caps_of c.args.types)) c.deref.ensures.value ∙ caps_are h c.args.who c.in_ok-atoms.atoms.items (c.in_ok-atoms.ensures h stands) c.args.types) j)
    ∙ sym (append_assoc (owned_ranges h c.args.who) (owned_calls h c.args.who) (flat_map (owned_refs h c.args.who) (below c.args.types))))
