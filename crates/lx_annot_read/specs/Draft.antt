-- The tables of names and of typed fields, tied to what was declared.
use Rattle.std.specs.Prelude.{◌≡◌}
use Rattle.lx_annot_read.specs.declared.draft.Draft.{Draft}
use Rattle.lx_annot_read.specs.Interfaces.{iterator_names, slot_names, export_names}
use Rattle.lx_annot_read.specs.Typed.{field_places}

-- Each table has the names of its kind, in their order, and the set of typed fields has exactly the fields.
pub record IsTabled (d : Draft) : Type 0 where
  pub reftypes_are : d.reftypes ≡ d.interface.reftypes
  pub iterators_are : d.iterators ≡ iterator_names d.interface
  pub slots_are : d.slots ≡ slot_names d.interface
  pub exports_are : d.exports ≡ export_names d.interface
  pub fields_are : d.typed ≡ field_places d.interface
