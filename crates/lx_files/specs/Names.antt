-- Names of files that can be asked for.
use Rattle.std.specs.Prelude.{List, [], ◌∷◌}
use Rattle.std.specs.Str.{IsAscii}
use Rattle.lx_script.specs.declared.case.Origin.{Origin}
use Rattle.lx_script.specs.declared.case.Origin.TheVariants as origins
use Rattle.lx_script.specs.declared.case.CaseModule.{CaseModule}
use Rattle.lx_script.specs.Case.{Case}

-- the file of an origin has a name that is text
abbrev pub IsNamed : Origin → Type 0
IsNamed origins.None = Unit {0}
IsNamed origins.Builtin = Unit {0}
IsNamed (origins.File name) = IsAscii name

abbrev pub AreNamed : List CaseModule → Type 0
AreNamed [] = Unit {0}
AreNamed (m ∷ ms) = IsAscii m.file × AreNamed ms

-- each file of a case has a name that is text
pub record NamesAreText (c : Case) : Type 0 where
  pub kernel_named : IsNamed c.kernel
  pub interface_named : IsNamed c.interface
  pub modules_named : AreNamed c.modules
