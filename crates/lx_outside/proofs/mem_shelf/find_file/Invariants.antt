use Rattle.std.proofs.Common.{◌≡◌, drop}
use Rattle.lx_outside.specs.Files.{file_at}
use Rattle.lx_outside.proofs.mem_shelf.find_file.Given as goal

abbrev pub invariant-loop-file : goal.invariant-loop-file
invariant-loop-file l = file_at l.files l.name ≡ file_at (drop l.file-index l.files) l.name
