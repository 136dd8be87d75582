-- The function for which frames act.
use Rattle.std.proofs.Common.{◌≡◌, Option, Some, None, List, [], ◌∷◌, map, refl, ap, ◌∙◌}
use Rattle.std.specs.Prelude.{option_map}
use Rattle.lx_images.specs.Asker.{acting, first_run}
use Rattle.lx_images.specs.Image.{Code}
use Rattle.lx_image_steps.specs.Standing.{run_of}
use Rattle.lx_image_steps.specs.declared.activation.Activation.{Activation as Running}
use Rattle.lx_frames.specs.declared.frame.Frame.{Frame as KeptFrame}
use Rattle.lx_frames.specs.declared.frame.Frame.TheVariants as kept
use Rattle.lx_frames.specs.Frames.{Stack, frame_of, frames_of, newest, running_on, runs}

newest_run : (c : Code) (fs : List KeptFrame) → option_map (run_of c) (running_on (newest fs)) ≡ first_run (map (frame_of c) fs)
newest_run c [] = refl
newest_run c (kept.Runs run ∷ fs) = refl
newest_run c (kept.Wraps n args wrapper at x ∷ fs) = refl

-- the one that runs on top
pub acts_on_top : (c : Code) (f : KeptFrame) (below : Stack) (run : Running) → Some run ≡ runs f → Some (run_of c run) ≡ acting (frames_of c (Some f) below)
acts_on_top c (kept.Runs a) below run e = ap (option_map (run_of c)) e
acts_on_top c (kept.Wraps n args wrapper at x) below run e = absurd (cc)

-- below a wrapper, the one in the newest frame
pub acts_below : (c : Code) (f : KeptFrame) (below : Stack) (found : Option Running) → None ≡ runs f → found ≡ running_on (newest below.frames) → option_map (run_of c) found ≡ acting (frames_of c (Some f) below)
acts_below c (kept.Runs a) below found e is = absurd (cc)
acts_below c (kept.Wraps n args wrapper at x) below found e is = ap (option_map (run_of c)) is ∙ newest_run c below.frames
