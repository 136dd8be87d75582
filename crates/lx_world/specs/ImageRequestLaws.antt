-- What threads of images ask may be served.
use Rattle.std.specs.Prelude.{◌≡◌, ℕ, ◌<◌, true}
use Rattle.lx_model.specs.Serve.{serve}
use Rattle.lx_model.specs.State.{State}
use Rattle.lx_run_laws.specs.Servable.{is_servable}
use Rattle.lx_images.specs.Image.{Code, ImageThread, image_next, image_absorb}
use Rattle.lx_world.specs.OnImageStack.{AreOnImageStack}

pub record ImageRequestLaws : Type 0 where
  -- what a thread asks whose functions keep to its stack may be served, whatever the images are; a thread without frames is such
  pub asks : (c : Code) (t : ℕ) (v : ImageThread) → t < 16 → AreOnImageStack t v.frames → is_servable c.program t (image_next c v).request ≡ true
  -- behind the reply that it is served, its functions keep to its stack
  pub stays : (c : Code) (s : State) (t : ℕ) (v : ImageThread) → AreOnImageStack t v.frames →
      AreOnImageStack t (image_absorb c t (image_next c v).thread (image_next c v).request (serve c.program s t (image_next c v).request).reply).frames
