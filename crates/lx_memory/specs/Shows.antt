-- What a space shows.
use Rattle.std.specs.Prelude.{◌≡◌, ℕ, List, slice_index, IsTrue}
use Rattle.lx_caps.specs.Regions.{mapped}
use Rattle.lx_caps.specs.Memory.{Memory, byte_at}
use Rattle.lx_memory.specs.Ranges.{place_of}

-- a space with these bytes shows the memory: it keeps the byte of each mapped address
abbrev pub Shows : List ℕ → Memory → Type 0
Shows space m = (a : ℕ) → IsTrue (mapped a 1) → slice_index space (place_of a) ≡ byte_at m a
