use Rattle.std.proofs.Common.{◌≡◌, ◌++◌, drop, map}
use Rattle.std.specs.Prelude.{filter}
use Rattle.lx_image_texts.specs.Erased.{is_of_program}
use Rattle.lx_image_texts.specs.Programs.{program_function}
use Rattle.lx_image_check.proofs.erased.push_functions.Given as goal

abbrev pub invariant-loop-f : goal.invariant-loop-f
invariant-loop-f l =
    l.list ++ map (program_function l.imports) (filter is_of_program (drop l.f-index l.functions)) ≡ l.initial.list ++ map (program_function l.imports) (filter is_of_program l.functions)
