-- Reading and the grammar agree.
use Rattle.std.specs.Prelude.{◌≡◌, ℕ, ◌<◌, ◌^◌, List, length}
use Rattle.lx_annot.specs.declared.interface.Interface.{Interface}
use Rattle.lx_annot.specs.Lawful.{IsLawfulInterface}
use Rattle.lx_annot_read.specs.declared.fault.InterfaceFault.{InterfaceFault}
use Rattle.lx_cproto.specs.Texts.{SaysPrototypes, FirstPrototypeFault}
use Rattle.lx_annot_laws.specs.Declarations.{ArePrototypes}

-- A text that is an interface is read as it, and what is read of a text is an interface that it is.
abbrev pub PrototypesAreRead : Type 0
PrototypesAreRead = (text : List ℕ) (i : Interface) → ArePrototypes text i → SaysPrototypes text i

abbrev pub PrototypesAreFound : Type 0
PrototypesAreFound = (text : List ℕ) (i : Interface) → SaysPrototypes text i → ArePrototypes text i

-- a text is at most one interface
abbrev pub OneInterface : Type 0
OneInterface = (text : List ℕ) (i j : Interface) → ArePrototypes text i → ArePrototypes text j → i ≡ j

-- a text has at most one first fault
abbrev pub OneFault : Type 0
OneFault = (text : List ℕ) (e f : InterfaceFault) → FirstPrototypeFault text e → FirstPrototypeFault text f → e ≡ f

-- and no text that is an interface has a fault
abbrev pub NotBoth : Type 0
NotBoth = (text : List ℕ) (i : Interface) (f : InterfaceFault) → ArePrototypes text i → FirstPrototypeFault text f → ⊥

-- What is read of a text is a lawful interface; the text is one that the reader takes.
abbrev pub ReadIsLawful : Type 0
ReadIsLawful = (text : List ℕ) (i : Interface) → length text < 2 ^ 32 → SaysPrototypes text i → IsLawfulInterface i
