-- What is read of a text can be said again.
use Rattle.std.specs.Prelude.{ℕ, List}
use Rattle.lx_annot.specs.declared.interface.Interface.{Interface}
use Rattle.lx_annot_laws.specs.Statements.{IsInterface}
use Rattle.lx_annot_laws.specs.Sayable.{IsSayable}

-- Each interface that a text is has a text.
abbrev pub InterfacesAreSayable : Type 0
InterfacesAreSayable = (text : List ℕ) (i : Interface) → IsInterface text i → IsSayable i
