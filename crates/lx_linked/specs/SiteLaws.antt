-- What the lists mean that propagation is defined by.
use Rattle.std.specs.Prelude.{◌≡◌, ℕ, ◌<◌, true, IsTrue, Some, None, List, length}
use Rattle.lx_ir.specs.declared.types.NamedType.{NamedType}
use Rattle.lx_ir.specs.declared.module.Module.{Module}
use Rattle.lx_ir.specs.IrType.{IrType}
use Rattle.lx_ir.specs.Layout.{is_lawful_type}
use Rattle.lx_ir.specs.Lawful.{IsLawful}
use Rattle.lx_annot.specs.declared.interface.Interface.{Interface}
use Rattle.lx_slot_types.specs.Sites.{FieldName, fields_at, global_fields_at, named_fields_at, site, sites_of}
use Rattle.lx_slot_types.specs.Gets.{gets, slot_of}
use Rattle.lx_linked.specs.Members.{In, Exactly}
use Rattle.lx_linked.specs.Paths.{BeginsAt, HasLawfulGlobals, LeadsTo}
use Rattle.lx_linked.specs.Stands.{StandsIn}
use Rattle.lx_linked.specs.Typed.{GetsType, IsFirstType}

pub record SiteLaws : Type 0 where
  -- what the laws ask of a module is so of lawful ones
  pub lawful : (m : Module) → IsLawful m → HasLawfulGlobals m
  -- the fields at an offset of a type are those that paths lead to
  pub paths : (types : List NamedType) (t : IrType) → IsTrue (is_lawful_type types t) → (o : ℕ) (name : FieldName)
      → Exactly (In name (fields_at types (named_fields_at types (length types)) t o)) (LeadsTo types name t o)
  -- so are those at an offset of a global
  pub fields : (m : Module) → HasLawfulGlobals m → (g o : ℕ) (name : FieldName) → Exactly (In name (global_fields_at m g o)) (BeginsAt m g o name)
  -- a site is listed exactly where the function stands in the field
  pub sites : (m : Module) → HasLawfulGlobals m → (name : FieldName) (f : ℕ) → Exactly (In (site name f) (sites_of m)) (StandsIn m name f)
  -- a function gets the slot types of the fields where it stands, and no others
  pub got : (i : Interface) (m : Module) → HasLawfulGlobals m → (f s : ℕ) → Exactly (gets i m f s ≡ true) (GetsType i m f s)
  -- the first one is the least by number
  pub first : (i : Interface) (m : Module) → HasLawfulGlobals m → (f s : ℕ) → Exactly (slot_of i m f ≡ Some s) (IsFirstType i m f s)
  -- and there is none where it gets none of the interface
  pub none : (i : Interface) (m : Module) → HasLawfulGlobals m → (f : ℕ) → Exactly (slot_of i m f ≡ None) ((s : ℕ) → s < length i.slots → GetsType i m f s → ⊥)
