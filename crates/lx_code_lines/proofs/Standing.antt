-- The line where a function stands, by the blocks of its image and of its text.
use Rattle.std.proofs.Common.{◌≡◌, ◌∙◌, refl, sym, ap, ℕ, zero, suc, ◌≤◌, ◌-◌, Bool, true, false, Option, Some, None, List, [], length, map, arith}
use Rattle.std.specs.Prelude.{nat_le, slice_get, option_and_then, option_map}
use Rattle.std.proofs.lemmas.Option.{slice_get-map, slice_get_past}
use Rattle.lx_words.proofs.Lists.{none_past}
use Rattle.lx_ir.specs.declared.instr.Instr.{Instr}
use Rattle.lx_ir.specs.declared.module.Block.{Block}
use Rattle.lx_ir.specs.declared.module.Function.{Function}
use Rattle.lx_ir.specs.Lookup.{block_named, blocks_of}
use Rattle.lx_image_texts.specs.Marks.{without_marks}
use Rattle.lx_model.specs.declared.program.ProgramFunction.{ProgramFunction}
use Rattle.lx_model.specs.Program.{function_of, function_of_entry}
use Rattle.lx_model.specs.Thread.{CodeBlock, code_block_of}
use Rattle.lx_images.specs.Code.{Code, image_routine}
use Rattle.lx_image_code.specs.Jumps.{blocks_or_none}
use Rattle.lx_image_code.proofs.Filled.{Each}
use Rattle.lx_image_steps.specs.Standing.{block_at, block_or_none, rest_from}
use Rattle.lx_interp.specs.declared.standing.Standing.{Standing}
use Rattle.lx_interp.specs.Places.{stand_in}
use Rattle.lx_code_lines.specs.Place.{image_place, instr_at, line_of, with_left}
use Rattle.lx_code_lines.specs.declared.block_lines.BlockLines.{BlockLines}
use Rattle.lx_code_lines.specs.declared.lines.Lines.{Lines}
use Rattle.lx_code_lines.specs.Lines.{instrs_or_none, line_among, line_in, line_left, standing_line, AreFunctionLines, AreLinesOf, HasBlockLines}
use Rattle.lx_code_lines.proofs.Counting.{no_line, none_if}

-- the line of a place in a text

none_without : (left : ℕ) → line_left [] left ≡ None
none_without left =
    ap (λ (o : Option Instr). option_map (λ i. i.line) o) (none_if (nat_le left 0) (slice_get [] (0 - left)) (slice_get_past [] (0 - left) (omega arith)))

in_block : (left : ℕ) (b : Option Block) → option_map (λ i. i.line) (option_and_then (λ b. with_left left b.instrs) b) ≡ line_left (instrs_or_none b) left
in_block left None = sym (none_without left)
in_block left (Some b) = refl

in_function : (label : List ℕ) (left : ℕ) (f : Option Function) →
    option_map (λ i. i.line) (option_and_then (λ f. option_and_then (λ b. with_left left b.instrs) (block_named (blocks_of f) label)) f) ≡ line_left (instrs_or_none (block_named (blocks_or_none f) label)) left
in_function label left None = sym (none_without left)
in_function label left (Some f) = in_block left (block_named (blocks_of f) label)

-- the line of a place in a block of the code

abbrev line_in_code : Code → ℕ → Bool → ℕ → CodeBlock → Option ℕ
line_in_code c n arrived place b = line_of c.program (record { function = n; label = b.label; left = length (without_marks (rest_from arrived place b.code)) })

block_found : (c : Code) (n k : ℕ) (bs : List Block) → map code_block_of bs ≡ (image_routine c n).blocks → block_at (image_routine c n).blocks k ≡ block_or_none (option_map code_block_of (slice_get bs k))
block_found c n k bs e = ap (λ l. block_or_none (slice_get l k)) (sym e) ∙ ap block_or_none (slice_get-map code_block_of bs k)

pub stands_in_block : (c : Code) (n k : ℕ) (bs : List Block) (b : Block) → map code_block_of bs ≡ (image_routine c n).blocks → slice_get bs k ≡ Some b → (text : List Block) → text ≡ blocks_or_none (function_of c.program n)
    → (lines : BlockLines) → HasBlockLines b.instrs (instrs_or_none (block_named text b.name)) lines → (arrived : Bool) (place : ℕ) → line_in lines arrived place ≡ standing_line c (record { function = n; block = k; place = place; arrived = arrived })
stands_in_block c n k bs b e at text is lines has arrived place =
    has arrived place
    ∙ ap (λ (t : List Block). line_left (instrs_or_none (block_named t b.name)) (length (without_marks (rest_from arrived place (map (λ i. i.op) b.instrs))))) is
    ∙ sym (in_function b.name (length (without_marks (rest_from arrived place (map (λ i. i.op) b.instrs)))) (function_of c.program n))
    ∙ sym (ap (line_in_code c n arrived place) (block_found c n k bs e ∙ ap (λ o. block_or_none (option_map code_block_of o)) at))

no_rest : (arrived : Bool) (place : ℕ) → length (without_marks (rest_from arrived place [])) ≡ 0
no_rest true zero = refl
no_rest true (suc k) = refl
no_rest false zero = refl
no_rest false (suc k) = refl

no_block : (c : Code) (n k : ℕ) (bs : List Block) → map code_block_of bs ≡ (image_routine c n).blocks → slice_get bs k ≡ None → (arrived : Bool) (place : ℕ) → standing_line c (record { function = n; block = k; place = place; arrived = arrived }) ≡ None
no_block c n k bs e at arrived place =
    ap (line_in_code c n arrived place) (block_found c n k bs e ∙ ap (λ o. block_or_none (option_map code_block_of o)) at)
    ∙ ap (λ (left : ℕ). line_of c.program (record { function = n; label = []; left = left })) (no_rest arrived place)
    ∙ in_function [] 0 (function_of c.program n)
    ∙ no_line (instrs_or_none (block_named (blocks_or_none (function_of c.program n)) []))

-- the tables that a loop over blocks has filled

abbrev pub IsBlockOf : Code → ℕ → ℕ → BlockLines → Type 0
IsBlockOf c n k lines = (arrived : Bool) (place : ℕ) → line_in lines arrived place ≡ standing_line c (record { function = n; block = k; place = place; arrived = arrived })

blocks_by : (c : Code) (n : ℕ) (bs : List Block) → map code_block_of bs ≡ (image_routine c n).blocks → (tables : List BlockLines) → length tables ≡ length bs → Each (IsBlockOf c n) tables
    → (k : ℕ) (arrived : Bool) (place : ℕ) (found : Option BlockLines) → slice_get tables k ≡ found → option_and_then (λ b. line_in b arrived place) found ≡ standing_line c (record { function = n; block = k; place = place; arrived = arrived })
blocks_by c n bs e tables count each k arrived place (Some b) at = each k b at arrived place
blocks_by c n bs e tables count each k arrived place None at =
    let past : length tables ≤ k = none_past tables k at in
    let none : slice_get bs k ≡ None = slice_get_past bs k (omega (arith, past, count)) in
    sym (no_block c n k bs e none arrived place)

pub blocks_filled : (c : Code) (n : ℕ) (bs : List Block) → map code_block_of bs ≡ (image_routine c n).blocks → (tables : List BlockLines) → length tables ≡ length bs → Each (IsBlockOf c n) tables → AreFunctionLines c n tables
blocks_filled c n bs e tables count each k arrived place = blocks_by c n bs e tables count each k arrived place (slice_get tables k) refl

-- and those that the loop over functions has

no_function : (c : Code) (s : Standing) → slice_get c.program.functions s.function ≡ None → standing_line c s ≡ None
no_function c s e =
    ap (λ (entry : Option ProgramFunction). option_map (λ i. i.line) (option_and_then (λ f. instr_at f (image_place (stand_in c s))) (function_of_entry c.program entry))) e

functions_by : (c : Code) (tables : List (List BlockLines)) → length tables ≡ length c.program.functions → Each (AreFunctionLines c) tables
    → (s : Standing) (found : Option (List BlockLines)) → slice_get tables s.function ≡ found → option_and_then (λ blocks. line_among blocks s.block s.arrived s.place) found ≡ standing_line c s
functions_by c tables count each s (Some blocks) at = each s.function blocks at s.block s.arrived s.place
functions_by c tables count each s None at =
    let past : length tables ≤ s.function = none_past tables s.function at in
    sym (no_function c s (slice_get_past c.program.functions s.function (omega (arith, past, count))))

pub functions_filled : (c : Code) (l : Lines) → length l.functions ≡ length c.program.functions → Each (AreFunctionLines c) l.functions → AreLinesOf c l
functions_filled c l count each s = functions_by c l.functions count each s (slice_get l.functions s.function) refl
