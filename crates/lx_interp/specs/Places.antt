-- Where in the code of images a runner stands, and where it asks.
use Rattle.std.specs.Prelude.{◌≡◌, Option, Some, None, option_map}
use Rattle.lx_model.specs.declared.request.Request.{Request}
use Rattle.lx_images.specs.Asker.{CodePlace, image_asker, image_asks_at}
use Rattle.lx_images.specs.Image.{Code, ImageThread, image_routine}
use Rattle.lx_image_steps.specs.Standing.{block_at, rest_from}
use Rattle.lx_interp.specs.declared.runner.Runner.{Runner}
use Rattle.lx_interp.specs.declared.standing.Standing.{Standing}
use Rattle.lx_interp.specs.Runner.{thread_of}

-- the place in the code at which a function stands
abbrev pub stand_in : Code → Standing → CodePlace
stand_in c s =
    record {
      function = s.function;
      label = (block_at (image_routine c s.function).blocks s.block).label;
      code = rest_from s.arrived s.place (block_at (image_routine c s.function).blocks s.block).code;
    }

-- steps of this thread are under way: no marks are taken, and its next request is still to be asked where it was; or it was asked here
abbrev pub AsksFrom : Code → ImageThread → Runner → Option Request → Option Standing → Type 0
AsksFrom c v r None at = (r.marks ≡ None) × (image_asker c (thread_of c r) ≡ image_asker c v)
AsksFrom c v r (Some q) at = option_map (stand_in c) at ≡ image_asks_at c v
