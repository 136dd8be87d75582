-- What names stand for, by a module.
use Rattle.std.specs.Prelude.{◌≡◌, ℕ, true, IsTrue, Some}
use Rattle.lx_ir.specs.declared.module.Symbol.{Symbol}
use Rattle.lx_ir.specs.declared.module.Module.{Module}
use Rattle.lx_ir.specs.Lawful.{is_lawful_symbol}
use Rattle.lx_ir_offsets.specs.Shapes.{named_shapes}
use Rattle.lx_ir_lawful.specs.LimitLaws.{are_written_inside}
use Rattle.lx_ir_terms.specs.Context.{Context, entry}

-- A context in which names stand for things of the module alone, within the limits on its types.
pub record Tells (m : Module) (context : Context) : Type 0 where
  pub limits : context.limits ≡ Some (named_shapes m.types)
  pub types : IsTrue (are_written_inside m.types)
  pub complete : context.complete ≡ true
  pub symbols : (name : ℕ) (s : Symbol) → entry context.symbols name ≡ Some s → IsTrue (is_lawful_symbol m s)
