-- What prototypes say can be said again.
use Rattle.std.specs.Prelude.{ℕ, ◌<◌, ◌^◌, List, length}
use Rattle.lx_annot.specs.declared.interface.Interface.{Interface}
use Rattle.lx_annot_laws.specs.Declarations.{ArePrototypes}
use Rattle.lx_annot_laws.specs.Sayable.{IsSayable}

-- Each interface that a text is has a text that says it; the text of prototypes is one that the reader takes, so that each field has a
-- number.
abbrev pub PrototypesAreSayable : Type 0
PrototypesAreSayable = (text : List ℕ) (i : Interface) → length text < 2 ^ 32 → ArePrototypes text i → IsSayable i
