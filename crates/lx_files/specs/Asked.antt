-- What a command asks for besides its case.
use Rattle.std.specs.Prelude.{◌≡◌, ℕ, List, Option, None, is_some, option_copied}
use Rattle.lx_files.specs.declared.sources.Asked.{Asked as Words}
use Rattle.lx_files.specs.declared.sources.Besides.{Besides}

-- a module of the case by its name there, a schedule and an image by the names of their files
pub record Asked : Type 0 where
  pub «module» : Option (List ℕ)
  pub schedule : Option (List ℕ)
  pub image : Option (List ℕ)

abbrev pub nothing : Asked
nothing = record { «module» = None; schedule = None; image = None }

-- what words ask for
abbrev pub asked_by : Words → Asked
asked_by w = record { «module» = option_copied w.«module»; schedule = option_copied w.schedule; image = option_copied w.image }

-- what is asked for is there, and nothing else is
pub record AreThere (asked : Asked) (b : Besides) : Type 0 where
  pub number : is_some b.number ≡ is_some asked.«module»
  pub schedule : is_some b.schedule ≡ is_some asked.schedule
  pub image : is_some b.image ≡ is_some asked.image
