-- The first line of an interface text.
use Rattle.std.specs.Prelude.{Bool, true, false, List, Ok, if◌then◌else◌, codes}
use Rattle.lx_annot_expressions.specs.Tokens.{Tok}
use Rattle.lx_annot_expressions.specs.Reading.{Read, ◌>>=◌, refused, behind, has, next_at}
use Rattle.lx_annot_read.specs.declared.head.Version.{Version}
use Rattle.lx_annot_read.specs.declared.head.Version.TheVariants as versions

-- whether texts of a version may lend
abbrev pub may_lend : Version → Bool
may_lend versions.One = false
may_lend versions.Two = true

-- the number of a version
abbrev pub version_at : List Tok → Read Version
version_at ts =
    if has (codes "1") ts then Ok (versions.One, behind ts)
    else if has (codes "2") ts then Ok (versions.Two, behind ts)
    else refused ts

-- `interface 1` or `interface 2`
unfoldable pub head_at : List Tok → Read Version
head_at ts = do
  w ← next_at (codes "interface") ts
  version_at w.1
