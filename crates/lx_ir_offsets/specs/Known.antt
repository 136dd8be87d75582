-- The types that have names, as far as they are known.
use Rattle.std.specs.Prelude.{List}
use Rattle.lx_ir.specs.declared.types.NamedType.{NamedType}
use Rattle.lx_ir.specs.Fitting.{Layouts, fitting_layouts}
use Rattle.lx_ir_offsets.specs.declared.known.KnownTypes.{KnownTypes}
use Rattle.lx_ir_offsets.specs.declared.known.KnownTypes.TheVariants as known

-- the types by their numbers
abbrev pub named_in : KnownTypes → List NamedType
named_in (known.Listed named layouts) = named.now
named_in (known.Laid types) = types.now

-- their layouts
abbrev pub layouts_in : KnownTypes → Layouts
layouts_in (known.Listed named layouts) = layouts.now
layouts_in (known.Laid types) = fitting_layouts types.now
