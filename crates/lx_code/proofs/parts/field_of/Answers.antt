use Rattle.std.proofs.Common.{◌≡◌, ap, ◌∙◌, arith}
use Rattle.std.specs.Prelude.{slice_get, Some, None}
use Rattle.lx_ir.specs.Layout.{fields_of, unnamed}
use Rattle.lx_code.proofs.TypeParts.{found_field, lost_field, no_field, sized_field}
use Rattle.lx_code.proofs.parts.field_of.Goals as goal

pub unreachable-requires : goal.unreachable-requires
unreachable-requires c =
    let fields = c.fields_of-fields.ensures ∙ ap fields_of c.unnamed.ensures in
    lost_field c.args.text.now.types c.args.ty.now c.args.number c.in-Some.offset c.in-Some.ensures
    (c.in-None-field_at.ensures ∙ ap (λ xs. slice_get xs c.args.number) fields)

pub returns-in-Some-field_at-clause-part : goal.returns-in-Some-field_at-clause-part
returns-in-Some-field_at-clause-part c =
    let fields = c.fields_of-fields.ensures ∙ ap fields_of c.unnamed.ensures in
    found_field c.args.text.now.types c.args.ty.now c.args.number c.in-Some.offset c.in-Some-field_at.field.now c.in-Some.ensures
    (c.in-Some-field_at.ensures ∙ ap (λ xs. slice_get xs c.args.number) fields)

pub returns-in-Some-field_at-clause-sized : goal.returns-in-Some-field_at-clause-sized
returns-in-Some-field_at-clause-sized c =
    let fields = c.fields_of-fields.ensures ∙ ap fields_of c.unnamed.ensures in
    sized_field c.args.text.now.types c.args.ty.now c.args.number c.in-Some-field_at.field.now c.requires
    (c.in-Some-field_at.ensures ∙ ap (λ xs. slice_get xs c.args.number) fields)

pub returns-in-None-clause-part : goal.returns-in-None-clause-part
returns-in-None-clause-part c = no_field c.args.text.now.types c.args.ty.now c.args.number c.requires c.in-None.ensures
