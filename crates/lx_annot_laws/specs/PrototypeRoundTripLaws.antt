-- What is printed of what prototypes say is read again.
use Rattle.std.specs.Prelude.{ℕ, ◌<◌, ◌^◌, List, length}
use Rattle.lx_annot.specs.declared.interface.Interface.{Interface}
use Rattle.lx_annot_laws.specs.RoundTripLaws.{PrintedAreRead}
use Rattle.lx_cproto.specs.Texts.{SaysPrototypes}

-- a text of prototypes that the reader takes, which says this interface
abbrev pub SaysInReach : List ℕ → Interface → Type 0
SaysInReach text i = (length text < 2 ^ 32) × SaysPrototypes text i

-- What is printed of an interface that prototypes say is read again, where its statements are short enough.
abbrev pub PrintedPrototypesAreRead : Type 0
PrintedPrototypesAreRead = PrintedAreRead SaysInReach
