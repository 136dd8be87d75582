-- The lines of a program's text, by the places of the code of its images.
use Rattle.std.specs.Prelude.{◌≡◌, ℕ, Bool, true, false, not, ◌&&◌, Option, Some, None, List, [], length, map, slice_get, option_and_then, option_map}
use Rattle.lx_ir.specs.declared.module.Block.{Block}
use Rattle.lx_ir.specs.declared.instr.Instr.{Instr}
use Rattle.lx_ir.specs.declared.instr.Op.{Op}
use Rattle.lx_image_texts.specs.Marks.{is_mark, without_marks}
use Rattle.lx_model.specs.Effect.{is_phi}
use Rattle.lx_images.specs.Code.{Code}
use Rattle.lx_image_steps.specs.Standing.{rest_from}
use Rattle.lx_interp.specs.declared.standing.Standing.{Standing}
use Rattle.lx_interp.specs.Places.{stand_in}
use Rattle.lx_code_lines.specs.Place.{image_place, line_of, with_left}
use Rattle.lx_code_lines.specs.declared.block_lines.BlockLines.{BlockLines}
use Rattle.lx_code_lines.specs.declared.lines.Lines.{Lines}

-- an instruction of an image that is counted: no mark, and where a jump led to the block no phi
abbrev pub is_counted : Bool → Op → Bool
is_counted arrived o = not (is_mark o) && not (arrived && is_phi o)

-- the line of the instruction with which so many of these are left
abbrev pub line_left : List Instr → ℕ → Option ℕ
line_left text left = option_map (λ i. i.line) (with_left left text)

-- the instructions of a block; none, where there is no block
abbrev pub instrs_or_none : Option Block → List Instr
instrs_or_none None = []
instrs_or_none (Some b) = b.instrs

-- how many instructions of a text are left from a place on of its image's block
abbrev pub left_from : Bool → List Instr → ℕ → ℕ
left_from arrived instrs place = length (without_marks (rest_from arrived place (map (λ i. i.op) instrs)))

-- what a list of lines has at a place; none, past the last one
abbrev pub line_in_list : List (Option ℕ) → ℕ → Option ℕ
line_in_list lines place = option_and_then (λ line. line) (slice_get lines place)

-- these are the lines that the places of an image's block have, whose block of the text has these instructions
abbrev pub HasPlaceLines : Bool → List Instr → List Instr → List (Option ℕ) → Type 0
HasPlaceLines arrived instrs text lines = (place : ℕ) → line_in_list lines place ≡ line_left text (left_from arrived instrs place)

-- what the tables have: at a place of a block, of a function's blocks, and where a function stands

abbrev pub list_in : BlockLines → Bool → List (Option ℕ)
list_in b true = b.arrived
list_in b false = b.entered

abbrev pub line_in : BlockLines → Bool → ℕ → Option ℕ
line_in b arrived place = line_in_list (list_in b arrived) place

abbrev pub line_among : List BlockLines → ℕ → Bool → ℕ → Option ℕ
line_among blocks block arrived place = option_and_then (λ b. line_in b arrived place) (slice_get blocks block)

abbrev pub line_at : Lines → Standing → Option ℕ
line_at l s = option_and_then (λ blocks. line_among blocks s.block s.arrived s.place) (slice_get l.functions s.function)

-- the table is that of a block with these instructions, whose block of the text has those
abbrev pub HasBlockLines : List Instr → List Instr → BlockLines → Type 0
HasBlockLines instrs text b = (arrived : Bool) → HasPlaceLines arrived instrs text (list_in b arrived)

-- the line of the program's text where a function of the code stands
abbrev pub standing_line : Code → Standing → Option ℕ
standing_line c s = line_of c.program (image_place (stand_in c s))

-- the tables are those of the blocks of the function with this number
abbrev pub AreFunctionLines : Code → ℕ → List BlockLines → Type 0
AreFunctionLines c n blocks =
    (block : ℕ) (arrived : Bool) (place : ℕ) → line_among blocks block arrived place ≡ standing_line c (record { function = n; block = block; place = place; arrived = arrived })

-- the tables are those of the code: they have the line of the program's text wherever a function stands
abbrev pub AreLinesOf : Code → Lines → Type 0
AreLinesOf c l = (s : Standing) → line_at l s ≡ standing_line c s
