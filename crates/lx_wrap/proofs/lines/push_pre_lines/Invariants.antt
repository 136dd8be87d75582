use Rattle.std.proofs.Common.{◌≡◌, ◌++◌, drop, map}
use Rattle.lx_image_texts.specs.WrapperText.{pre_lines, unlined}
use Rattle.lx_wrap.proofs.lines.push_pre_lines.Given as goal

abbrev pub invariant-loop-place : goal.invariant-loop-place
invariant-loop-place l = l.code ++ map unlined (pre_lines l.f l.place (drop l.place l.actions)) ≡ l.initial.code ++ map unlined (pre_lines l.f 0 l.actions)
