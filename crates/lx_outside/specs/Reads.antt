-- What a shelf has to give.
use Rattle.std.specs.Prelude.{ℕ, List, Option, None, if◌then◌else◌}
use Rattle.lx_outside.specs.declared.mem_shelf.MemShelf.{MemShelf}
use Rattle.lx_outside.specs.Counts.{is_to_fail}
use Rattle.lx_outside.specs.Files.{file_at}

-- the bytes that a file may have
abbrev pub most_bytes : ℕ
most_bytes = 1048576

-- the bytes that the next read of a shelf in memory has to give for a name; nothing where it is to fail
abbrev pub bytes_to_give : MemShelf → List ℕ → Option (List ℕ)
bytes_to_give shelf name = if is_to_fail shelf.fails shelf.calls then None else file_at shelf.files name
