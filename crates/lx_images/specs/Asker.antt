-- Where in its code a thread of images asks.
use Rattle.std.specs.Prelude.{ℕ, zero, suc, ◌+◌, ◌*◌, Option, Some, None, List, [], ◌∷◌, length, option_map}
use Rattle.lx_ir.specs.declared.instr.Op.{Op}
use Rattle.lx_model.specs.Thread.{Activation}
use Rattle.lx_images.specs.Image.{Code, ImageFrame, Runs, Wraps, ImageThread, Goes, Asks, image_step}

-- a place in the code of a function: its number, the label of a block, and the instructions that are left of it
pub record CodePlace : Type 0 where
  pub function : ℕ
  pub label : List ℕ
  pub code : List Op

-- where a running function stands
abbrev pub code_place : Activation → CodePlace
code_place a = record { function = a.function; label = a.label; code = a.code }

-- the function that runs in a frame; none, in a wrapper
abbrev pub run_in : ImageFrame → Option Activation
run_in (Runs a) = Some a
run_in (Wraps n args lines x) = None

-- the function that runs in the first frame, if there is a frame and it runs one
abbrev pub first_run : List ImageFrame → Option Activation
first_run [] = None
first_run (f ∷ fs) = run_in f

-- the function for which these frames act: the one on top, or the one that called the wrapper there
abbrev pub acting : List ImageFrame → Option Activation
acting (Wraps n args lines x ∷ fs) = first_run fs
acting fs = first_run fs

-- the thread at whose step something is asked, within so many steps
abbrev pub image_asker_within : ℕ → Code → ImageThread → ImageThread
image_asker_within zero c v = v
image_asker_within (suc n) c v = elim (image_step c v) [ Goes w ↦ image_asker_within n c w | Asks w q ↦ v ]

-- the thread at whose step its next request is asked, before that step
abbrev pub image_asker : Code → ImageThread → ImageThread
image_asker c v = image_asker_within (2 * v.fuel + length v.frames + 1) c v

-- where in the code its next request is asked; none, where the script or the end of a call asks
abbrev pub image_asks_at : Code → ImageThread → Option CodePlace
image_asks_at c v = option_map code_place (acting (image_asker c v).frames)
