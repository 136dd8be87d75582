use Rattle.std.proofs.Common.{◌∙◌, ap, sym, cond, Bool, ◌&&◌, List, ℕ, Some}
use Rattle.std.specs.Prelude.{bytes_eq}
use Rattle.std.proofs.lemmas.Map.Text.{hash_map_updates_str}
use Rattle.lx_image_marks.specs.Named.{at_name}
use Rattle.lx_image_marks.proofs.imports.put_import.Goals as goal

pub returns-in_ok-insert : goal.returns-in_ok-insert
returns-in_ok-insert c = λ name.
    let old = at_name c.args.places.now.entries name in
    hash_map_updates_str c.as_slice.result.now c.args.places.now c.insert.new.self (Some c.args.place) c.in_ok-insert.ensures.updates name
    ∙ ap (λ (bytes : List ℕ). cond (bytes_eq bytes name) (Some c.args.place) old) c.as_slice.ensures
    ∙ ap (λ (b : Bool). cond (b && bytes_eq c.args.f.now.name name) (Some c.args.place) old) (sym c.if-has_out_wrapper.true ∙ c.has_out_wrapper.ensures)

pub returns-else-has_out_wrapper : goal.returns-else-has_out_wrapper
returns-else-has_out_wrapper c = λ name.
    let old = at_name c.args.places.now.entries name in
    ap (λ (b : Bool). cond (b && bytes_eq c.args.f.now.name name) (Some c.args.place) old) (sym c.if-has_out_wrapper.false ∙ c.has_out_wrapper.ensures)
