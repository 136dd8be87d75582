-- How many actions an annotation has.
use Rattle.std.specs.Prelude.{ℕ, Option, length, unwrap_or}
use Rattle.lx_annot.specs.declared.action.Annotation.{Annotation}
use Rattle.lx_model.specs.Program.{no_annotation}

-- before the body
abbrev pub pre_count : Option Annotation → ℕ
pre_count a = length (unwrap_or a no_annotation).pre

-- behind it
abbrev pub post_count : Option Annotation → ℕ
post_count a = length (unwrap_or a no_annotation).post
