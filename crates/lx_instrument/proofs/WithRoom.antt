-- The functions of an image with room are few enough for their numbers.
use Rattle.std.proofs.Common.{◌≡◌, ◌+◌, Bool, true, ◌&&◌, List, length, take, drop, ap, sym, ◌∙◌, arith, length-append}
use Rattle.std.specs.Prelude.{nat_lt}
use Rattle.std.specs.List.{list_all}
use Rattle.std.proofs.lemmas.List.{length-map}
use Rattle.std.proofs.lemmas.List.Folds.{list_all-append, list_all-map}
use Rattle.std.proofs.lemmas.Bool.{and_parts}
use Rattle.std.proofs.lemmas.Bool.Decides.{nat_tests}
use Rattle.lx_words.proofs.Lists.{split_at}
use Rattle.lx_ir.specs.declared.module.Function.{Function}
use Rattle.lx_ir.specs.declared.module.Module.{Module}
use Rattle.lx_annot.specs.declared.interface.Interface.{Interface}
use Rattle.lx_image_texts.specs.Guards.{FunctionText, function_text}
use Rattle.lx_image_texts.specs.Instrumented.{Leaves, image_function_text, GuardsBut}
use Rattle.lx_image_texts.specs.WrapperText.{wrappers_of}
use Rattle.lx_image_texts.specs.ProgramLaws.{HasRoom}
use Rattle.lx_instrument.specs.Room.{has_few_registers, has_room}

abbrev few_in : FunctionText → Bool
few_in t = nat_lt (length t.params + length t.locals) 4294967295

module _ (leaves : Leaves) (i : Interface) (m x : Module) (g : GuardsBut leaves i m x) where
  abbrev own : List Function
  own = take (length m.functions) x.functions

  abbrev behind : List Function
  behind = drop (length m.functions) x.functions

  -- the functions of the image are as many as the module's and the wrappers
  as_many : length x.functions ≡ length m.functions + length (wrappers_of i m)
  as_many =
      let first : length own ≡ length m.functions =
      sym (length-map own function_text) ∙ ap length g.functions ∙ length-map m.functions (image_function_text leaves m) in
      let second : length behind ≡ length (wrappers_of i m) =
      sym (length-map behind function_text) ∙ ap length g.wrappers ∙ length-map (wrappers_of i m) function_text in
      sym (ap length (split_at (length m.functions) x.functions)) ∙ length-append own behind ∙ (λ j. first j + second j)

  few_registers : list_all has_few_registers x.functions ≡ true → list_all has_few_registers (wrappers_of i m) ≡ true
  few_registers all =
      let both : (list_all has_few_registers own && list_all has_few_registers behind) ≡ true =
      sym (list_all-append has_few_registers own behind) ∙ ap (list_all has_few_registers) (split_at (length m.functions) x.functions) ∙ all in
      sym (list_all-map few_in function_text (wrappers_of i m)) ∙ sym (ap (list_all few_in) g.wrappers) ∙ list_all-map few_in function_text behind
      ∙ (and_parts (list_all has_few_registers own) (list_all has_few_registers behind) both).1

  pub room : has_room x.functions ≡ true → HasRoom i m
  room passes =
      let both = and_parts (nat_lt (length x.functions) 4294967295) (list_all has_few_registers x.functions) passes in
      record { few_functions = grind (arith, nat_tests, as_many, both.0); few_registers = few_registers both.1 }
