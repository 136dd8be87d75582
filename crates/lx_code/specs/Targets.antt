-- What called names name in code.
use Rattle.std.specs.Prelude.{◌≡◌, ℕ, Option, Some, None, List, [], slice_get, unwrap_or}
use Rattle.lx_model.specs.declared.program.Program.{Program}
use Rattle.lx_model.specs.Program.{Home, Target, ToNative, ToSlot, ToImport, ToOwn, Nowhere, target}
use Rattle.lx_code.specs.declared.targets.Target.{Target as Named}
use Rattle.lx_code.specs.declared.targets.Target.TheVariants as named

-- what a target is in the program
abbrev pub target_of : Named → Target
target_of (named.Native k) = ToNative k
target_of (named.Slot s) = ToSlot s
target_of (named.Import n) = ToImport n
target_of (named.Own n) = ToOwn n
target_of named.Nowhere = Nowhere

abbrev pub target_or_nowhere : Option Named → Target
target_or_nowhere None = Nowhere
target_or_nowhere (Some t) = target_of t

-- what a function names by a text's table; what the table lacks names nothing
abbrev pub target_at : List Named → ℕ → Target
target_at table f = target_or_nowhere (slice_get table f)

-- a text's table, of those of the kernel and of the modules
abbrev pub table_of : List Named → List (List Named) → Home → List Named
table_of kernel modules None = kernel
table_of kernel modules (Some m) = unwrap_or (slice_get modules m) []

-- the table tells what each function of the text names there
abbrev pub HasTable : Program → Home → List Named → Type 0
HasTable p home table = (f : ℕ) → target_at table f ≡ target p home f

-- the tables tell so of each text
abbrev pub HasTables : Program → List Named → List (List Named) → Type 0
HasTables p kernel modules = (home : Home) → HasTable p home (table_of kernel modules home)
