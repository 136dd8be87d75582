-- What memory a space shows.
use Rattle.std.specs.Prelude.{◌≡◌, ℕ, ◌*◌, List, [], ◌∷◌, take, drop, Result, Ok, Err}
use Rattle.lx_caps.specs.Regions.{region_size, globals_start, heap_start, stacks_start, first_unmapped}
use Rattle.lx_caps.specs.Memory.{Memory, Put}
use Rattle.lx_annot.specs.Value.{Found}
use Rattle.lx_memory.specs.Shows.{Shows}
use Rattle.lx_memory.specs.declared.range.Unmapped.{Unmapped}

-- a space with these bytes shows the memory
unfoldable pub IsShownBy : List ℕ → Memory → Type 0
IsShownBy space m = Shows space m

-- the bytes of the three regions as three writes
abbrev pub memory_of : List ℕ → Memory
memory_of space =
    Put globals_start (take region_size space)
    ∷ Put heap_start (take region_size (drop region_size space))
    ∷ Put stacks_start (take region_size (drop (2 * region_size) space))
    ∷ []

-- the answer is what was found, or the first byte that is not mapped of those that were looked at
abbrev pub IsNamed : {T : Type 0} → Result T Unmapped → Found T → Type 0
IsNamed (Ok x) found = found ≡ Ok x
IsNamed (Err fault) found = (at : ℕ) × (found ≡ Err at) × (fault.at ≡ first_unmapped at)
