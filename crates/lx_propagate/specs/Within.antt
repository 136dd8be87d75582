-- Types within the limits: the fields of a struct, and the types of a module.
pub use Rattle.lx_slot_sums.specs.Within.{AreWithin, HasLawfulTypes}
