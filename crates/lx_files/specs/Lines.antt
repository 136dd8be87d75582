-- Faults as they are printed.
use Rattle.std.specs.Prelude.{ℕ, List, ◌++◌, codes}
use Rattle.lx_words.specs.Text.{decimal_text}
use Rattle.lx_files.specs.declared.line.FaultKind.{FaultKind}
use Rattle.lx_files.specs.declared.line.FaultKind.TheVariants as kinds
use Rattle.lx_files.specs.declared.line.FaultLine.{FaultLine}

abbrev pub kind_text : FaultKind → List ℕ
kind_text kinds.Case = codes "case"
kind_text kinds.Ir = codes "ir"
kind_text kinds.Interface = codes "interface"
kind_text kinds.Cproto = codes "cproto"
kind_text kinds.Verify = codes "verify"
kind_text kinds.Propagate = codes "propagate"
kind_text kinds.Link = codes "link"
kind_text kinds.Schedule = codes "schedule"
kind_text kinds.Image = codes "image"
kind_text kinds.Limit = codes "limit"

unfoldable pub number_text : ℕ → List ℕ
number_text n = decimal_text n

-- `FILE:LINE: `
abbrev pub place_text : List ℕ → ℕ → List ℕ
place_text file line = file ++ codes ":" ++ number_text line ++ codes ": "

-- `KIND N `
abbrev pub rule_text : FaultKind → ℕ → List ℕ
rule_text kind number = kind_text kind ++ codes " " ++ number_text number ++ codes " "

-- `FILE:LINE: KIND N WHAT`
abbrev pub fault_text : FaultLine → List ℕ
fault_text f = place_text f.file f.line ++ rule_text f.kind f.number ++ f.what ++ codes "\n"
