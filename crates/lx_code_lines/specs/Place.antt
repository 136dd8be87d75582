-- Where in a program's text a thread asks, and which line that is.
use Rattle.std.specs.Prelude.{ℕ, zero, suc, ◌+◌, ◌*◌, ◌-◌, Option, Some, None, List, [], ◌∷◌, length, nat_le, slice_get, option_map, option_and_then, if◌then◌else◌}
use Rattle.lx_ir.specs.declared.module.Function.{Function}
use Rattle.lx_ir.specs.declared.instr.Instr.{Instr}
use Rattle.lx_ir.specs.Lookup.{blocks_of, block_named}
use Rattle.lx_image_texts.specs.Marks.{without_marks}
use Rattle.lx_model.specs.declared.program.Program.{Program}
use Rattle.lx_model.specs.Program.{function_of}
use Rattle.lx_model.specs.Thread.{Activation, Stage, Pre, Body, Post, Crossing, Frame, Thread}
use Rattle.lx_model.specs.Next.{Goes, Asks, step}
use Rattle.lx_images.specs.Asker.{CodePlace}

-- a place in a program's text: a function's number, the label of a block, and how many of its instructions are left, the one that is meant
-- first
pub record Place : Type 0 where
  pub function : ℕ
  pub label : List ℕ
  pub left : ℕ

-- where a running function stands
abbrev pub place_of : Activation → Place
place_of a = record { function = a.function; label = a.label; left = length a.code }

-- the function that runs in the first frame, if there is a frame
abbrev pub first_run : List Frame → Option Activation
first_run [] = None
first_run (f ∷ fs) = Some f.run

-- a crossing acts for its own function while its body runs, and before and behind it for the one below, which called it
abbrev pub acting_at : Stage → Frame → List Frame → Option Activation
acting_at Body f fs = Some f.run
acting_at (Pre k) f fs = first_run fs
acting_at (Post k v) f fs = first_run fs

-- a frame that is no crossing acts for its own function
abbrev pub acting_in : Option Crossing → Frame → List Frame → Option Activation
acting_in None f fs = Some f.run
acting_in (Some x) f fs = acting_at x.stage f fs

-- the function for which these frames act; none without a frame
abbrev pub acting : List Frame → Option Activation
acting [] = None
acting (f ∷ fs) = acting_in f.crossing f fs

-- the thread at whose step something is asked, within so many steps
abbrev pub asker_within : ℕ → Program → ℕ → Thread → Thread
asker_within zero p t thread = thread
asker_within (suc n) p t thread = elim (step p t thread) [ Goes further ↦ asker_within n p t further | Asks further r ↦ thread ]

-- the thread at whose step its next request is asked, before that step
abbrev pub asker : Program → ℕ → Thread → Thread
asker p t thread = asker_within (2 * thread.fuel + length thread.frames + 1) p t thread

-- where its next request is asked; none, where no function runs: the script's calls, and the end of a call that has returned
abbrev pub asks_at : Program → ℕ → Thread → Option Place
asks_at p t thread = option_map place_of (acting (asker p t thread).frames)

-- the place of a program's text at which a place of its images stands: marks are not counted
abbrev pub image_place : CodePlace → Place
image_place x = record { function = x.function; label = x.label; left = length (without_marks x.code) }

-- the instruction from which on so many of these are left
abbrev pub with_left : ℕ → List Instr → Option Instr
with_left left is = if nat_le left (length is) then slice_get is (length is - left) else None

-- the instruction of a function that a place means
abbrev pub instr_at : Function → Place → Option Instr
instr_at f x = option_and_then (λ b. with_left x.left b.instrs) (block_named (blocks_of f) x.label)

-- its line in the text of the program's function
abbrev pub line_of : Program → Place → Option ℕ
line_of p x = option_map (λ i. i.line) (option_and_then (λ f. instr_at f x) (function_of p x.function))
