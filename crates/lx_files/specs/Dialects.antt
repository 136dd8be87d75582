-- Interfaces in either dialect: as statements, or as annotated prototypes.
use Rattle.std.specs.Prelude.{◌≡◌, ℕ, List, Bool, true, false, Option}
use Rattle.lx_annot.specs.declared.interface.Interface.{Interface}
use Rattle.lx_annot_read.specs.declared.fault.InterfaceFault.{InterfaceFault}
use Rattle.lx_cproto.specs.Texts.{is_cproto}
use Rattle.lx_annot_laws.specs.Statements.{IsInterface}
use Rattle.lx_annot_laws.specs.Declarations.{ArePrototypes}
use Rattle.lx_annot_laws.specs.FaultOfText.{IsFirstInterfaceFault, IsFirstPrototypeFault}
use Rattle.lx_files.specs.declared.line.FaultKind.{FaultKind}
use Rattle.lx_files.specs.declared.line.FaultKind.TheVariants as kinds
use Rattle.lx_files.specs.declared.line.FaultLine.{FaultLine}
use Rattle.lx_files.specs.Faults.{interface_line}

-- what a text is by the grammar, and its first fault, where it is of prototypes or is not

abbrev pub IsBy : Bool → List ℕ → Interface → Type 0
IsBy true text i = ArePrototypes text i
IsBy false text i = IsInterface text i

abbrev pub FirstBy : Bool → List ℕ → InterfaceFault → Type 0
FirstBy true text fault = IsFirstPrototypeFault text fault
FirstBy false text fault = IsFirstInterfaceFault text fault

abbrev pub kind_by : Bool → FaultKind
kind_by true = kinds.Cproto
kind_by false = kinds.Interface

-- the text of a file is this interface by the grammar of the dialect that its first line tells
abbrev pub IsEither : List ℕ → Interface → Type 0
IsEither text i = IsBy (is_cproto text) text i

-- a fault, and the dialect in which it is one
pub record DialectFault : Type 0 where
  pub prototypes : Bool
  pub fault : InterfaceFault

abbrev pub FirstEither : List ℕ → DialectFault → Type 0
FirstEither text f = (f.prototypes ≡ is_cproto text) × FirstBy f.prototypes text f.fault

abbrev pub either_line : List ℕ → DialectFault → Option FaultLine
either_line file f = interface_line (kind_by f.prototypes) file f.fault
