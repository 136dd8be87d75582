-- The live blocks as a heap keeps them.
use Rattle.std.specs.Prelude.{List}
use Rattle.lx_caps.specs.Heap.{Blocks}
use Rattle.lx_caps.specs.declared.Block.{Block}
use Rattle.lx_memory.specs.Heaps.{KeepsBlocks}

-- a heap with these blocks keeps those that are live
unfoldable pub AreKept : List Block → Blocks → Type 0
AreKept kept blocks = KeepsBlocks kept blocks
