-- Instructions that give a value of their operands alone.
use Rattle.std.specs.Prelude.{◌≡◌, Some, List, ◌∷◌}
use Rattle.lx_words.specs.Word.{Word}
use Rattle.lx_ir.specs.declared.instr.Op.{Op}
use Rattle.lx_model.specs.Thread.{Activation, activation_behind}
use Rattle.lx_images.specs.Image.{Code, ImageFrame, ImageThread, Goes, Runs, if_paid, instruction_step, no_marks, with_frames}
use Rattle.lx_image_steps.specs.Standing.{head_of}

-- the step of a running function asks nothing: for a unit of fuel the function comes to stand so
abbrev pub GoesTo : Code → Activation → Activation → Type 0
GoesTo c a b = (v : ImageThread) → (fs : List ImageFrame) → instruction_step c v fs a.code no_marks a ≡ if_paid v (λ w. Goes (with_frames (Runs b ∷ fs) w))

-- an instruction gives a word: where it stands next, the function goes past it with that word
abbrev pub GivesWord : Code → Activation → Op → Word → Type 0
GivesWord c a o w = head_of a.code ≡ Some o → GoesTo c a (activation_behind (Some w) a)
