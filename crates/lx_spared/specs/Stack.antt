-- How many bytes a function may write through each of its registers without a guard.
use Rattle.std.specs.Prelude.{ℕ, cond, max, List, [], ◌∷◌, nat_eq}
use Rattle.std.specs.List.{list_all}
use Rattle.lx_ir.specs.declared.types.NamedType.{NamedType}
use Rattle.lx_ir.specs.declared.instr.Instr.{Instr}
use Rattle.lx_ir.specs.declared.instr.Op.{Op}
use Rattle.lx_ir.specs.declared.instr.Op.TheVariants as op
use Rattle.lx_ir.specs.Layout.{size_of}
use Rattle.lx_image_texts.specs.Spared.{uses_as_address}

-- how many bytes of the stack an instruction gives the register
abbrev pub allocated : List NamedType → ℕ → Op → ℕ
allocated types r (op.Alloca to ty) = cond (nat_eq to r) (size_of types ty) 0
allocated types r o = 0

-- the most that some of these instructions gives it, or what it had
abbrev pub widest : List NamedType → ℕ → ℕ → List Instr → ℕ
widest types r room [] = room
widest types r room (i ∷ is) = widest types r (max room (allocated types r i.op)) is

-- its room, unless some of these instructions lets its address go
abbrev pub kept_room : ℕ → List Instr → ℕ → ℕ
kept_room r is room = cond (list_all (λ i. uses_as_address r i.op) is) room 0
