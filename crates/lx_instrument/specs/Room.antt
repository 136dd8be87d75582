-- Whether the functions of an image are few enough for their numbers.
use Rattle.std.specs.Prelude.{Bool, ◌&&◌, List, length, nat_lt}
use Rattle.std.specs.List.{list_all}
use Rattle.lx_ir.specs.declared.module.Function.{Function}
use Rattle.lx_ir.specs.Operands.{register_count}

-- a `u32` numbers the registers of a function
abbrev pub has_few_registers : Function → Bool
has_few_registers f = nat_lt (register_count f) 4294967295

-- a `u32` numbers the functions of an image and the registers of each
abbrev pub has_room : List Function → Bool
has_room functions = nat_lt (length functions) 4294967295 && list_all has_few_registers functions
