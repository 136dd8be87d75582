use Rattle.std.proofs.Common.{◌≡◌, ◌∙◌, ◌+◌, ◌-◌, ◌≤◌, IsTrue, Some, option_map, false, true, refl, sym, ap, subst, take, arith, slice_get}
use Rattle.std.proofs.lemmas.List.{take_all}
use Rattle.lx_words.proofs.Lists.{list_all_item}
use Rattle.lx_ir.specs.declared.module.Module.{Module}
use Rattle.lx_ir.specs.declared.types.NamedType.{NamedType}
use Rattle.lx_ir.specs.IrType.{Array}
use Rattle.lx_ir.specs.Layout.{is_lawful_type, is_type_within, layout, size_of}
use Rattle.lx_ir.specs.TypeNodes.{types_of_list, type_of_node}
use Rattle.lx_ir.proofs.Layouts.{group}
use Rattle.lx_slot_types.specs.Sites.{array_fields_at, entry_fields, fields_at, names_of, start_of, struct_fields_at}
use Rattle.lx_slot_sums.specs.declared.making.Form.{Form}
use Rattle.lx_slot_sums.specs.declared.spread.Spread.TheVariants as spreading
use Rattle.lx_slot_sums.specs.Known.{named_fields}
use Rattle.lx_slot_sums.specs.Rows.{Edges, edges, no_edges}
use Rattle.lx_slot_sums.specs.Spreads.{IsRow, IsSpread, Puts, Says, laid, with_field}
use Rattle.lx_slot_sums.proofs.Answering.{has_answer, keeps_both, keeps_same, known_made, made_is, made_more, named_made, none_made}
use Rattle.lx_slot_sums.proofs.Depths.{entry_group, entry_is, group_fields, lawful, named_entry}
use Rattle.lx_slot_sums.proofs.FieldLists.{end_fits, next_fields, start_behind, start_fits, taken_step}
use Rattle.lx_slot_sums.proofs.Lawful.{no_struct}
use Rattle.lx_slot_sums.proofs.Laying.{next_row, put_row, row_is, row_kept, row_none, row_says}
use Rattle.lx_slot_sums.proofs.making.+making.Goals as goal

pub spread_array-size_of-size-requires : goal.spread_array-size_of-size-requires
spread_array-size_of-size-requires t c =
    subst (λ (m : Module). IsTrue (is_lawful_type m.types c.args.element.now)) (sym c.module.ensures) (lawful c.args.sums.now.text.types c.args.depth c.args.element.now c.requires.few c.requires.within)

pub spread_array-array_spread-requires : goal.spread_array-array_spread-requires
spread_array-array_spread-requires t c =
    has_answer c.args.sums.now c.spread_of.new.spreads.all.items c.in_ok-inside.inside (fields_at c.args.sums.now.text.types (named_fields c.args.sums.now.text) c.args.element.now) c.in_ok-inside.ensures.made

pub spread_array-returns : goal.spread_array-returns
spread_array-returns t c =
    let types = c.args.sums.now.text.types in
    let f = fields_at types (named_fields c.args.sums.now.text) c.args.element.now in
    let z : c.size_of-size.result ≡ size_of types c.args.element.now = c.size_of-size.ensures ∙ ap (λ (m : Module). size_of m.types c.args.element.now) c.module.ensures in
    let s = c.in_ok-spread.ensures f c.in_ok-inside.ensures.made in
    made_more c.args.sums.now c.args.spreads.now.all.items c.spread_of.new.spreads.all.items c.put_spread.new.spreads.all.items c.spread_of.new.spreads.named.items c.put_spread.new.spreads.named.items c.in_ok-spread.spread c.in_ok-number.number (array_fields_at f c.args.count (size_of types c.args.element.now))
    c.in_ok-inside.ensures.kept c.in_ok-inside.ensures.right
    (subst (λ n. Says c.args.sums.now c.spread_of.new.spreads.all.items c.in_ok-spread.spread (array_fields_at f c.args.count n)) z s)
    c.in_ok-number.ensures

pub spread_entry-spread_struct-requires : goal.spread_entry-spread_struct-requires
spread_entry-spread_struct-requires t c =
    let p : c.named-form.result.packed ≡ false = ap (λ (f : Form). f.packed) c.named-form.ensures in
    let e : group c.named-form.result.packed (types_of_list c.in-Struct.fields.items) ≡ c.args.t.now = ap (λ b. group b (types_of_list c.in-Struct.fields.items)) p ∙ sym (ap type_of_node c.in-Struct.is) ∙ c.t.view_is in
    (omega (arith, c.decreases), (entry_group c.args.sums.now.text.types c.args.depth c.named-form.result.packed c.in-Struct.fields.items c.deref.result.now c.args.t.now e c.deref.ensures.value c.requires.within, (c.requires.few, c.requires.known)))

pub spread_entry-spread_struct-requires-in-Packed : goal.spread_entry-spread_struct-requires-in-Packed
spread_entry-spread_struct-requires-in-Packed t c =
    let p : c.named-form-in-Packed.result.packed ≡ true = ap (λ (f : Form). f.packed) c.named-form-in-Packed.ensures in
    let e : group c.named-form-in-Packed.result.packed (types_of_list c.in-Packed.fields.items) ≡ c.args.t.now = ap (λ b. group b (types_of_list c.in-Packed.fields.items)) p ∙ sym (ap type_of_node c.in-Packed.is) ∙ c.t.view_is in
    (omega (arith, c.decreases), (entry_group c.args.sums.now.text.types c.args.depth c.named-form-in-Packed.result.packed c.in-Packed.fields.items c.deref-in-Packed.result.now c.args.t.now e c.deref-in-Packed.ensures.value c.requires.within, (c.requires.few, c.requires.known)))

pub spread_named-spread_entry-requires : goal.spread_named-spread_entry-requires
spread_named-spread_entry-requires t c =
    let p = subst (λ (m : Module). Some c.in-Some-named_type.t.now ≡ option_map (λ (e : NamedType). e.ty) (slice_get m.types c.args.number)) c.module.ensures c.in-Some-named_type.ensures in
    let n = named_entry c.args.sums.now.text.types c.args.depth c.args.number c.in-Some-named_type.t.now c.requires.few p c.requires.within in
    (omega (arith, c.decreases, n.nests), (n.entry, (omega (arith, c.requires.few), c.requires.known)))

pub spread_named-returns-in-Some : goal.spread_named-returns-in-Some
spread_named-returns-in-Some t c =
    known_made c.args.sums.now c.args.spreads.now.all.items c.args.spreads.now.named.items c.deref.result.now c.args.number c.in-Some.spread c.deref.ensures.value c.in-Some.ensures c.requires.known

pub spread_named-returns-in_ok-spread-in-Some-named_type : goal.spread_named-returns-in_ok-spread-in-Some-named_type
spread_named-returns-in_ok-spread-in-Some-named_type t c =
    let types = c.args.sums.now.text.types in
    let p = subst (λ (m : Module). Some c.in-Some-named_type.t.now ≡ option_map (λ (e : NamedType). e.ty) (slice_get m.types c.args.number)) c.module.ensures c.in-Some-named_type.ensures in
    let n = named_entry types c.args.depth c.args.number c.in-Some-named_type.t.now c.requires.few p c.requires.within in
    named_made c.args.sums.now c.args.spreads.now.all.items c.spread_entry.new.spreads.all.items c.spread_entry.new.spreads.named.items c.keep.new.numbers.items c.args.number c.in_ok-spread-in-Some-named_type.spread (entry_fields types (named_fields c.args.sums.now.text) c.args.number c.in-Some-named_type.t.now)
    c.in_ok-spread-in-Some-named_type.ensures
    (λ o. entry_is types (c.args.depth - 1) c.args.number c.in-Some-named_type.t.now o (omega (arith, c.requires.few)) n.entry.parts p)
    c.keep.ensures

pub spread_of-spread_struct-requires : goal.spread_of-spread_struct-requires
spread_of-spread_struct-requires t c =
    let p : c.unnamed.result.packed ≡ false = ap (λ (f : Form). f.packed) c.unnamed.ensures in
    let e : group c.unnamed.result.packed (types_of_list c.in-Struct.fields.items) ≡ c.args.t.now = ap (λ b. group b (types_of_list c.in-Struct.fields.items)) p ∙ sym (ap type_of_node c.in-Struct.is) ∙ c.t.view_is in
    let g = group_fields c.args.sums.now.text.types c.args.depth c.unnamed.result.packed c.in-Struct.fields.items c.deref-in-Struct.result.now c.args.t.now e c.deref-in-Struct.ensures.value c.requires.within in
    (omega (arith, c.decreases, g.nests), (g.fields, (omega (arith, c.requires.few), c.requires.known)))

pub spread_of-spread_struct-requires-in-Packed : goal.spread_of-spread_struct-requires-in-Packed
spread_of-spread_struct-requires-in-Packed t c =
    let p : c.unnamed-in-Packed.result.packed ≡ true = ap (λ (f : Form). f.packed) c.unnamed-in-Packed.ensures in
    let e : group c.unnamed-in-Packed.result.packed (types_of_list c.in-Packed.fields.items) ≡ c.args.t.now = ap (λ b. group b (types_of_list c.in-Packed.fields.items)) p ∙ sym (ap type_of_node c.in-Packed.is) ∙ c.t.view_is in
    let g = group_fields c.args.sums.now.text.types c.args.depth c.unnamed-in-Packed.result.packed c.in-Packed.fields.items c.deref-in-Packed.result.now c.args.t.now e c.deref-in-Packed.ensures.value c.requires.within in
    (omega (arith, c.decreases, g.nests), (g.fields, (omega (arith, c.requires.few), c.requires.known)))

pub spread_struct-start_of-start-requires-clause-lawful : goal.spread_struct-start_of-start-requires-clause-lawful
spread_struct-start_of-start-requires-clause-lawful t c =
    let types = c.args.sums.now.text.types in
    let x = c.index-fields-k.result in
    subst (λ (m : Module). IsTrue (is_lawful_type m.types x)) (sym c.module-m.ensures)
    (lawful types c.args.depth x c.requires.few (list_all_item (is_type_within types c.args.depth) c.args.fields.now c.loop-k.k x c.loop-k-test.true c.index-fields-k.is c.requires.within.each))

pub spread_struct-start_of-start-requires-clause-fits : goal.spread_struct-start_of-start-requires-clause-fits
spread_struct-start_of-start-requires-clause-fits t c =
    subst (λ (m : Module). start_of m.types c.args.form.packed c.index-fields-k.result (layout c.loop-k.taken 1) ≤ 4294967296) (sym c.module-m.ensures)
    (start_fits c.args.sums.now.text.types c.args.form.packed c.args.fields.now c.loop-k.k c.index-fields-k.result c.loop-k.taken c.loop-k-test.true c.index-fields-k.is c.loop-k.invariant.size c.requires.within.size)

pub spread_struct-size_of-size-requires : goal.spread_struct-size_of-size-requires
spread_struct-size_of-size-requires t c =
    let types = c.args.sums.now.text.types in
    let x = c.index-fields-k.result in
    subst (λ (m : Module). IsTrue (is_lawful_type m.types x)) (sym c.module-m.ensures)
    (lawful types c.args.depth x c.requires.few (list_all_item (is_type_within types c.args.depth) c.args.fields.now c.loop-k.k x c.loop-k-test.true c.index-fields-k.is c.requires.within.each))

pub spread_struct-overflow_add-end : goal.spread_struct-overflow_add-end
spread_struct-overflow_add-end t c =
    let types = c.args.sums.now.text.types in
    let x = c.index-fields-k.result in
    let b : c.start_of-start.result ≡ start_of types c.args.form.packed x (layout c.loop-k.taken 1) = c.start_of-start.ensures ∙ ap (λ (m : Module). start_of m.types c.args.form.packed x (layout c.loop-k.taken 1)) c.module-m.ensures in
    let z : c.size_of-size.result ≡ size_of types x = c.size_of-size.ensures ∙ ap (λ (m : Module). size_of m.types x) c.module-m.ensures in
    let n = taken_step types c.args.form.packed c.args.fields.now c.loop-k.k x c.loop-k.taken c.start_of-start.result c.size_of-size.result c.loop-k-test.true c.index-fields-k.is c.loop-k.invariant.size b z in
    omega (arith, end_fits types c.args.form.packed c.args.fields.now c.loop-k.k (c.start_of-start.result + c.size_of-size.result) n c.requires.within.size)

pub spread_struct-put_field-requires-clause-answers : goal.spread_struct-put_field-requires-clause-answers
spread_struct-put_field-requires-clause-answers t c =
    let x = c.index-fields-k.result in
    let f = fields_at c.args.sums.now.text.types (named_fields c.args.sums.now.text) x in
    has_answer c.args.sums.now c.deref.result.now c.in_ok-inside.inside f (subst (λ xs. IsSpread c.args.sums.now xs c.in_ok-inside.inside f) (sym c.deref.ensures.value) c.in_ok-inside.ensures.made)

pub spread_of-returns-in-Scalar : goal.spread_of-returns-in-Scalar
spread_of-returns-in-Scalar t c =
    let types = c.args.sums.now.text.types in
    none_made c.args.sums.now c.args.spreads.now.all.items c.args.spreads.now.named.items (fields_at types (named_fields c.args.sums.now.text) c.args.t.now)
    (λ o. sym (ap (λ u. fields_at types (named_fields c.args.sums.now.text) u o) (sym (ap type_of_node c.in-Scalar.is) ∙ c.t.view_is)))
    c.requires.known

pub spread_of-returns-in_ok-number-in-Array : goal.spread_of-returns-in_ok-number-in-Array
spread_of-returns-in_ok-number-in-Array t c =
    let types = c.args.sums.now.text.types in
    let f = fields_at types (named_fields c.args.sums.now.text) in
    let e : Array c.in-Array.count c.in-Array.element.value ≡ c.args.t.now = sym (ap type_of_node c.in-Array.is) ∙ c.t.view_is in
    made_is _ _ _ _ _ _ _ ((λ j. array_fields_at (f (c.deref.ensures j)) c.in-Array.count (size_of types (c.deref.ensures j))) ∙ ap f e) c.in_ok-number-in-Array.ensures

pub spread_struct-loop-k-init : goal.spread_struct-loop-k-init
spread_struct-loop-k-init t c =
    let z : c.new-row.result.last.offset ≡ 0 = ap (λ (r : Edges). r.last.offset) c.new-row.ensures in
    record {
      size = refl;
      reach = omega (arith, z);
      kept = keeps_same c.args.spreads.now.all.items;
      right = c.requires.known;
      row = row_is c.args.sums.now c.args.spreads.now.all.items _ no_edges _ c.new-row.ensures (row_none c.args.sums.now c.args.spreads.now.all.items);
    }

pub spread_struct-loop-k-preserved : goal.spread_struct-loop-k-preserved
spread_struct-loop-k-preserved t c =
    let w = c.args.sums.now in
    let types = w.text.types in
    let x = c.index-fields-k.result in
    let xs = c.spread_of.new.spreads.all.items in
    let b : c.start_of-start.result ≡ start_of types c.args.form.packed x (layout c.loop-k.taken 1) = c.start_of-start.ensures ∙ ap (λ (m : Module). start_of m.types c.args.form.packed x (layout c.loop-k.taken 1)) c.module-m.ensures in
    let z : c.size_of-size.result ≡ size_of types x = c.size_of-size.ensures ∙ ap (λ (m : Module). size_of m.types x) c.module-m.ensures in
    let f = struct_fields_at types (named_fields w.text) c.args.form.name c.args.form.packed (types_of_list (take c.loop-k.k c.args.fields.now)) 0 (layout 0 1) in
    let g = struct_fields_at types (named_fields w.text) c.args.form.name c.args.form.packed (types_of_list (take (c.loop-k.k + 1) c.args.fields.now)) 0 (layout 0 1) in
    let inner = fields_at types (named_fields w.text) x in
    let ns = names_of c.args.form.name c.loop-k.k in
    let r = edges c.loop-k.row.done.items c.loop-k.row.last in
    let q = edges c.put_field.new.row.done.items c.put_field.new.row.last in
    let start = c.start_of-start.result in
    let size = c.size_of-size.result in
    let p : Puts w xs r q c.name_sum-named.result (laid start (start + size) c.in_ok-inside.inside) = subst (λ ys. Puts w ys r q c.name_sum-named.result (laid start (start + size) c.in_ok-inside.inside)) c.deref.ensures.value c.in_ok-put_field.ensures in
    let l : c.loop-k.taken ≤ start = start_behind types c.args.form.packed x c.loop-k.taken start b in
    let put = put_row w xs r q c.name_sum-named.result (laid start (start + size) c.in_ok-inside.inside) f inner ns p
    (row_kept w c.loop-k.spreads.all.items xs r f c.in_ok-inside.ensures.kept c.loop-k.invariant.row) c.in_ok-inside.ensures.made c.name_sum-named.ensures (omega (arith, c.loop-k.invariant.reach, l)) in
    record {
      size = taken_step types c.args.form.packed c.args.fields.now c.loop-k.k x c.loop-k.taken start size c.loop-k-test.true c.index-fields-k.is c.loop-k.invariant.size b z;
      reach = put.reach;
      kept = keeps_both c.args.spreads.now.all.items c.loop-k.spreads.all.items xs c.loop-k.invariant.kept c.in_ok-inside.ensures.kept;
      right = c.in_ok-inside.ensures.right;
      row =
          next_row w xs q f g ns inner start size (start + size) refl
          (λ o. ap (λ n. with_field f ns inner start n o) z ∙ next_fields types (named_fields w.text) c.args.form.name c.args.form.packed c.args.fields.now c.loop-k.k x o c.loop-k.taken start c.loop-k-test.true c.index-fields-k.is c.loop-k.invariant.size b)
          put.row;
    }

pub spread_struct-returns : goal.spread_struct-returns
spread_struct-returns t c =
    let w = c.args.sums.now in
    let types = w.text.types in
    let xs = c.loop-k.spreads.all.items in
    let r = edges c.loop-k.row.done.items c.loop-k.row.last in
    let f = struct_fields_at types (named_fields w.text) c.args.form.name c.args.form.packed (types_of_list c.args.fields.now) 0 (layout 0 1) in
    let row : IsRow w xs r f = subst (λ fs. IsRow w xs r (struct_fields_at types (named_fields w.text) c.args.form.name c.args.form.packed (types_of_list fs) 0 (layout 0 1))) (take_all c.loop-k.k c.args.fields.now c.loop-k-test.false) c.loop-k.invariant.row in
    let says = row_says w xs r c.in_ok-edges.edges.items f c.in_ok-edges.ensures row in
    made_more w c.args.spreads.now.all.items xs c.put_spread.new.spreads.all.items c.loop-k.spreads.named.items c.put_spread.new.spreads.named.items (spreading.Row c.in_ok-edges.edges) c.in_ok-number.number f
    c.loop-k.invariant.kept c.loop-k.invariant.right (record { ordered = says.rising; right = says.right }) c.in_ok-number.ensures

pub spread_entry-returns-in_default : goal.spread_entry-returns-in_default
spread_entry-returns-in_default t c =
    let types = c.args.sums.now.text.types in
    none_made c.args.sums.now c.args.spreads.now.all.items c.args.spreads.now.named.items (entry_fields types (named_fields c.args.sums.now.text) c.args.number c.args.t.now)
    (no_struct types (named_fields c.args.sums.now.text) c.args.number c.t.inside.node c.args.t.now c.in_default.not-Struct c.in_default.not-Packed c.t.view_is)
    c.requires.known
