-- The files of a generated case, and that they are an input.
use Rattle.std.specs.Prelude.{ℕ, ◌≤◌, List, [], ◌∷◌, codes, Ok}
use Rattle.lx_outside.specs.declared.file_text.FileText.{FileText}
use Rattle.lx_generate.specs.Generated.{case_text, module_text}
use Rattle.lx_script.specs.Case.{most_calls}
use Rattle.lx_input.specs.Files.Asked.{nothing}
use Rattle.lx_input.specs.declared.input.Input.{Input}
use Rattle.lx_input.specs.Inputs.{InputTurn}

abbrev pub generated_name : List ℕ
generated_name = codes "generated.case"

-- the case of n calls, and its module
abbrev pub generated_files : ℕ → List FileText
generated_files n = record { name = generated_name; bytes = case_text n } ∷ record { name = codes "gen.ll"; bytes = module_text } ∷ []

-- For any number of calls that a case may have, these files come to an input: nothing is met in them that is a fault, and all links.
abbrev pub GeneratedFilesAreInputs : Type 0
GeneratedFilesAreInputs = (n : ℕ) → n ≤ most_calls → (i : Input) × InputTurn (generated_files n) generated_name nothing (Ok i)
