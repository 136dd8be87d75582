-- A context that asks no limits of types.
use Rattle.std.specs.Prelude.{None}
use Rattle.lx_ir_terms.specs.Context.{Context}

-- the same names, and no limits on types
abbrev pub unlimited : Context → Context
unlimited c = record {
  types = c.types;
  symbols = c.symbols;
  registers = c.registers;
  named = c.named;
  layouts = c.layouts;
  limits = None;
  names = c.names;
  complete = c.complete;
}
