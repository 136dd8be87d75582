-- How much room capabilities take, and which lie in memory.
use Rattle.std.specs.Prelude.{ℕ, ◌+◌, Bool, List, [], ◌∷◌}
use Rattle.std.specs.List.{list_all}
use Rattle.lx_caps.specs.declared.Cap.{Cap}
use Rattle.lx_caps.specs.declared.Principal.{Principal}
use Rattle.lx_caps.specs.declared.Principal.TheVariants.{Kernel}
use Rattle.lx_caps.specs.Cells.{cells}
use Rattle.lx_caps.specs.Placed.{is_placed}

-- how much of a store's room the capabilities take at most
abbrev pub cells_of : List Cap → ℕ
cells_of [] = 0
cells_of (c ∷ cs) = cells c + cells_of cs

-- how much of the room is taken where so much is given to a principal: the kernel holds its part without a record
abbrev pub recorded_cells : Principal → ℕ → ℕ
recorded_cells Kernel n = 0
recorded_cells _ n = n

-- each range of bytes lies in memory or is empty
abbrev pub are_placed : List Cap → Bool
are_placed caps = list_all is_placed caps
