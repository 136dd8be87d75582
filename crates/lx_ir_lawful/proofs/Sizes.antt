-- What the laws above take of the types of a module that is read, handed on.
pub use Rattle.lx_ir_lawful.specs.SizeLaws.{is_such_struct}
pub use Rattle.lx_ir_lawful.proofs.SizedTypes.{left_there, all_types, Good, all_good, modules_have_lawful_types}
pub use Rattle.lx_ir_lawful.proofs.SizedBlocks.{body_all}
