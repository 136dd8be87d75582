-- Which stores may lack their guard, by a table of the bytes that may be written through registers.
use Rattle.std.specs.Prelude.{◌≡◌, ℕ, Bool, false, List, nat_le, nat_eq, unwrap_or}
use Rattle.std.specs.Map.{lookup}
use Rattle.lx_ir.specs.declared.module.Value.{Value}
use Rattle.lx_ir.specs.declared.module.Value.TheVariants as value
use Rattle.lx_ir.specs.declared.module.Function.{Function}
use Rattle.lx_ir.specs.declared.module.Module.{Module}
use Rattle.lx_ir.specs.declared.instr.Op.{Op}
use Rattle.lx_ir.specs.declared.instr.Op.TheVariants as op
use Rattle.lx_ir.specs.Layout.{scalar_size}
use Rattle.lx_image_texts.specs.Spared.{is_spared}

-- how many bytes may be written through a register without a guard
abbrev pub room_at : List (ℕ × ℕ) → ℕ → ℕ
room_at rooms r = unwrap_or (lookup (nat_eq r) rooms) 0

abbrev pub has_room : List (ℕ × ℕ) → ℕ → Value → Bool
has_room rooms size (value.Register r) = nat_le size (room_at rooms r)
has_room rooms size (value.Constant c) = false

-- a store may lack its guard by the table
abbrev pub spared_by : List (ℕ × ℕ) → Op → Bool
spared_by rooms (op.Store ty v at) = has_room rooms (scalar_size ty) at
spared_by rooms o = false

-- the table spares just the stores of the function that may lack their guard
abbrev pub AreRoomsOf : Module → Function → List (ℕ × ℕ) → Type 0
AreRoomsOf m f rooms = (o : Op) → spared_by rooms o ≡ is_spared m f o
