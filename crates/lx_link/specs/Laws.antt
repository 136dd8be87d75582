-- What is linked without a fault.
use Rattle.std.specs.Prelude.{◌≡◌, None}
use Rattle.lx_script.specs.Case.{Case}
use Rattle.lx_link_texts.specs.declared.sources.Sources.{Sources}
use Rattle.lx_link_texts.specs.Laws.{AreSound}
use Rattle.lx_link_texts.specs.WellFormed.{IsWellFormed, FitsCalls}
use Rattle.lx_link.specs.declared.linked.LinkedParts.{LinkedParts}
use Rattle.lx_link.specs.Answers.{link_fault, linked_of}

-- a well-formed program, and calls of its functions with arguments of their parameters' number and widths
pub record IsLinked (x : LinkedParts) : Type 0 where
  pub program : IsWellFormed x.program
  pub calls : FitsCalls x.program x.calls

-- sound texts without a fault are linked to a well-formed program
abbrev pub AreWellLinked : Type 0
AreWellLinked = (s : Sources) (c : Case) → AreSound s → link_fault s c ≡ None → IsWellFormed (linked_of s c).program

-- and each call names a defined function, and has arguments of its parameters' number and widths
abbrev pub CallsFit : Type 0
CallsFit = (s : Sources) (c : Case) → link_fault s c ≡ None → FitsCalls (linked_of s c).program (linked_of s c).calls
