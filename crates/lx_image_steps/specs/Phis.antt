-- What the phis of a block give.
use Rattle.std.specs.Prelude.{List, [], ◌∷◌, slice_set}
use Rattle.lx_words.specs.Word.{Word}
use Rattle.lx_ir.specs.declared.instr.Op.{Op}
use Rattle.lx_ir.specs.declared.instr.Op.TheVariants as op
use Rattle.lx_model.specs.declared.program.Program.{Program}
use Rattle.lx_model.specs.Thread.{Activation}
use Rattle.lx_model.specs.Effect.{edge_value}
use Rattle.lx_image_steps.specs.declared.steps.PhiWord.{PhiWord}

-- the register of a phi, with its value on the edge from the block that runs; nothing, where the instruction is no phi
abbrev pub phi_words : Program → Activation → Op → List PhiWord
phi_words p before (op.Phi to ty edges) = record { register = to; word = edge_value p before edges } ∷ []
phi_words p before _ = []

-- the registers after each of these is given, one after the other
abbrev pub with_words : List PhiWord → List Word → List Word
with_words [] registers = registers
with_words (w ∷ ws) registers = with_words ws (slice_set registers w.register w.word)
