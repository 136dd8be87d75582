-- Files by name.
use Rattle.std.specs.Prelude.{ℕ, Bool, true, ◌&&◌, List, [], ◌∷◌, Option, Some, None, is_none, if◌then◌else◌}
use Rattle.std.specs.Str.{bytes_eq}
use Rattle.lx_outside.specs.declared.file_text.FileText.{FileText}

-- the bytes that stand under a name: those of the first file of that name
abbrev pub file_at : List FileText → List ℕ → Option (List ℕ)
file_at [] name = None
file_at (file ∷ files) name = if bytes_eq file.name name then Some file.bytes else file_at files name

-- each name stands once
abbrev pub names_differ : List FileText → Bool
names_differ [] = true
names_differ (file ∷ files) = is_none (file_at files file.name) && names_differ files
