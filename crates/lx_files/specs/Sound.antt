-- What the readers of texts give.
use Rattle.std.specs.Prelude.{◌≡◌, ◌<◌, ℕ, List, Option, Some, None, All, length}
use Rattle.lx_ir.specs.declared.module.Module.{Module}
use Rattle.lx_ir.specs.Lawful.{IsLawful, IsPlain}
use Rattle.lx_script.specs.Case.{Case}
use Rattle.lx_annot.specs.Lawful.{IsLawfulInterface}
use Rattle.lx_files.specs.declared.sources.ImageFile.{ImageFile}
use Rattle.lx_files.specs.declared.sources.Sources.{Sources}

-- a module that is lawful, and in which nothing stands that images alone have
pub record IsSoundModule (m : Module) : Type 0 where
  pub lawful : IsLawful m
  pub plain : IsPlain m

-- an image is lawful, where there is one
abbrev pub IsSoundImage : Option ImageFile → Type 0
IsSoundImage None = Unit {0}
IsSoundImage (Some x) = IsLawful x.text

-- the number is that of one of the modules, where there is one
abbrev pub IsOneOf : List Module → Option ℕ → Type 0
IsOneOf ms None = Unit {0}
IsOneOf ms (Some k) = k < length ms

abbrev pub IsOneOfCase : Case → Option ℕ → Type 0
IsOneOfCase c None = Unit {0}
IsOneOfCase c (Some k) = k < length c.modules

-- The kernel and each module are such modules, as many as the case names, and the interface is lawful.
pub record AreSound (s : Sources) : Type 0 where
  pub kernel : IsSoundModule s.kernel
  pub interface : IsLawfulInterface s.interface
  pub modules : All IsSoundModule s.modules
  pub as_many : length s.modules ≡ length s.case.modules
  pub number : IsOneOf s.modules s.besides.number
  pub image : IsSoundImage s.besides.image
