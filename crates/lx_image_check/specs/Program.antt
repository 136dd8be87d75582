-- The code of an image's program, line by line.
use Rattle.std.specs.Prelude.{List, [], ◌∷◌, map}
use Rattle.lx_ir.specs.declared.module.Module.{Module}
use Rattle.lx_ir.specs.declared.instr.Instr.{Instr}
use Rattle.lx_ir.specs.declared.instr.Op.{Op}
use Rattle.lx_image_texts.specs.WrapperText.{unlined}
use Rattle.lx_image_texts.specs.Erased.{erased_code}

-- what an instruction of the image is in the program
abbrev pub program_lines : Module → Op → List Instr
program_lines x o = map unlined (erased_code x (o ∷ []))

-- the same of instructions
abbrev pub lines_of : Module → List Instr → List Instr
lines_of x is = map unlined (erased_code x (map (λ i. i.op) is))
