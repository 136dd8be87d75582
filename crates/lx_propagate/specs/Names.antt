-- The fields in which functions stand, and those that registers point to.
use Rattle.std.specs.Prelude.{ℕ, Some, List, [], map, flat_map, nat_eq}
use Rattle.std.specs.List.{filter}
use Rattle.lx_ir.specs.declared.types.NamedType.{NamedType}
use Rattle.lx_ir.specs.declared.instr.Instr.{Instr}
use Rattle.lx_ir.specs.declared.instr.Op.{Op}
use Rattle.lx_ir.specs.declared.instr.Op.TheVariants.{GetElementPtr}
use Rattle.lx_slot_types.specs.Sites.{FieldName, Site, behind_first, index_number, last_field, sites_at}

-- the fields of the sites that are those of a number
abbrev pub names_for : ℕ → List Site → List FieldName
names_for f sites = map (λ s. s.at) (filter (λ s. nat_eq s.function f) sites)

-- the field that an instruction names, as a site of the register that it gives
abbrev pub element_sites : List NamedType → Op → List Site
element_sites types (GetElementPtr to ty base indices) = sites_at (last_field types ty (behind_first (map index_number indices))) (Some to)
element_sites types _ = []

abbrev pub register_sites : List NamedType → List Instr → List Site
register_sites types instrs = flat_map (λ i. element_sites types i.op) instrs
