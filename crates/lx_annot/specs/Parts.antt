-- Parts of a text, put behind one another.
use Rattle.std.specs.Prelude.{List, [], ◌∷◌, ◌++◌, codes}
use Rattle.lx_annot.specs.Canonical.{Text}

-- a text with a further part, and a space between where there is text before it
abbrev pub with_part : Text → Text → Text
with_part [] t = t
with_part (b ∷ bs) t = (b ∷ bs) ++ codes " " ++ t

abbrev pub joined : Text → List Text → Text
joined text [] = text
joined text (t ∷ ts) = joined (with_part text t) ts
