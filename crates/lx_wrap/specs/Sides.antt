-- The sides of wrappers, as definitions name them.
use Rattle.lx_image_texts.specs.WrapperText.{Side as Meaning, In, Out}
use Rattle.lx_wrap.specs.declared.names.Side.{Side}
use Rattle.lx_wrap.specs.declared.names.Side.TheVariants as side

-- what a side means
abbrev pub meant : Side → Meaning
meant side.In = In
meant side.Out = Out
