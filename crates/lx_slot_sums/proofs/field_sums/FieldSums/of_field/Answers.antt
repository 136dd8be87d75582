use Rattle.std.proofs.Common.{◌∙◌, ap, ◌∷◌, []}
use Rattle.lx_slot_sums.specs.Known.{known}
use Rattle.lx_slot_sums.specs.Sums.{Typing, sum_of}
use Rattle.lx_slot_sums.proofs.Kept.{field_numbered, field_unnumbered}
use Rattle.lx_slot_sums.proofs.field_sums.FieldSums.of_field.Goals as goal

pub returns-in-Some : goal.returns-in-Some
returns-in-Some c =
    field_numbered c.self.inside.interface.now c.self.inside.module.now c.field.inside.struct_number c.field.inside.index c.self.inside.names c.self.invariant.names_are c.args.field c.field.view_is c.self.inside.typed.entries c.in-Some.name c.sum_at.result
    c.self.invariant.typed_are (c.in-Some.ensures ∙ ap (λ ns. known ns c.field.inside.struct_number) c.as_slice.ensures) c.sum_at.ensures
    ∙ ap (λ (t : Typing). sum_of t.interface t.text (c.args.field ∷ [])) c.self.view_is

pub returns-in-None : goal.returns-in-None
returns-in-None c =
    c.no_sum.ensures
    ∙ field_unnumbered c.self.inside.interface.now c.self.inside.module.now c.field.inside.struct_number c.field.inside.index c.self.inside.names c.self.invariant.names_are c.args.field c.field.view_is
    (c.in-None.ensures ∙ ap (λ ns. known ns c.field.inside.struct_number) c.as_slice.ensures)
    ∙ ap (λ (t : Typing). sum_of t.interface t.text (c.args.field ∷ [])) c.self.view_is
