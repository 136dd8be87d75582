-- The step of the thread that asks is the next request.
use Rattle.std.proofs.Common.{◌≡◌, ℕ, zero, suc, ◌+◌, ◌*◌, ◌<◌, length, refl, arith}
use Rattle.lx_model.specs.declared.program.Program.{Program}
use Rattle.lx_model.specs.Laws.{ModelLaws}
use Rattle.lx_model.specs.Thread.{Thread}
use Rattle.lx_model.specs.Next.{Step, Goes, Asks, Asking, step, steps_left, next_within, next}
use Rattle.lx_images.specs.Asker.{image_asker_within, image_asker}
use Rattle.lx_images.specs.Code.{Code}
use Rattle.lx_images.specs.Image.{ImageThread, ImageStep, ImageAsking, image_step, image_next_within, image_next}
use Rattle.lx_images.specs.Image.{Goes as ImageGoes, Asks as ImageAsks}
use Rattle.lx_simulation.proofs.ImageAsking.{Falls, step_falls}
use Rattle.lx_simulation.proofs.ImageAsking.{steps_left as image_steps_left}
use Rattle.lx_code_lines.specs.Place.{asker_within, asker}

-- the monitor's threads

abbrev asking_step : Asking → Step
asking_step a = Asks a.thread a.request

asks_by : ModelLaws → (p : Program) (t n : ℕ) (thread : Thread) (s : Step) → step p t thread ≡ s → steps_left thread < suc n →
    ((w : Thread) → steps_left w < n → step p t (asker_within n p t w) ≡ asking_step (next_within n p t w)) →
    step p t (elim s [ Goes further ↦ asker_within n p t further | Asks further r ↦ thread ]) ≡ asking_step (elim s [ Goes further ↦ next_within n p t further | Asks further r ↦ record { thread = further; request = r } ])
asks_by model p t n thread (Goes w) e h ih = let l : steps_left w < steps_left thread = model.falls p t thread w e in ih w (omega (arith, l, h))
asks_by model p t n thread (Asks w r) e h ih = e

asks_within : ModelLaws → (p : Program) (t n : ℕ) (thread : Thread) → steps_left thread < n → step p t (asker_within n p t thread) ≡ asking_step (next_within n p t thread)
asks_within model p t zero thread h = absurd (omega (arith, h))
asks_within model p t (suc n) thread h = asks_by model p t n thread (step p t thread) refl h (asks_within model p t n)

pub step_asks : ModelLaws → (p : Program) (t : ℕ) (thread : Thread) → step p t (asker p t thread) ≡ Asks (next p t thread).thread (next p t thread).request
step_asks model p t thread = asks_within model p t (2 * thread.fuel + length thread.frames + 1) thread (omega arith)

-- threads of images

abbrev image_asking_step : ImageAsking → ImageStep
image_asking_step a = ImageAsks a.thread a.request

image_asks_by : (c : Code) (n : ℕ) (v : ImageThread) (i : ImageStep) → image_step c v ≡ i → Falls (image_steps_left v) i → image_steps_left v < suc n →
    ((u : ImageThread) → image_steps_left u < n → image_step c (image_asker_within n c u) ≡ image_asking_step (image_next_within n c u)) →
    image_step c (elim i [ ImageGoes u ↦ image_asker_within n c u | ImageAsks u q ↦ v ]) ≡ image_asking_step (elim i [ ImageGoes u ↦ image_next_within n c u | ImageAsks u q ↦ record { thread = u; request = q } ])
image_asks_by c n v (ImageGoes u) e l h ih = ih u (omega (arith, l, h))
image_asks_by c n v (ImageAsks u q) e l h ih = e

image_asks_within : (c : Code) (n : ℕ) (v : ImageThread) → image_steps_left v < n → image_step c (image_asker_within n c v) ≡ image_asking_step (image_next_within n c v)
image_asks_within c zero v h = absurd (omega (arith, h))
image_asks_within c (suc n) v h = image_asks_by c n v (image_step c v) refl (step_falls c v) h (image_asks_within c n)

pub image_step_asks : (c : Code) (v : ImageThread) → image_step c (image_asker c v) ≡ ImageAsks (image_next c v).thread (image_next c v).request
image_step_asks c v = image_asks_within c (2 * v.fuel + length v.frames + 1) v (omega arith)
