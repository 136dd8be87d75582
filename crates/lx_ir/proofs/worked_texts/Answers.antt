use Rattle.std.proofs.Common.{refl, arith}
use Rattle.lx_ir.specs.Text.{name_text}
use Rattle.lx_ir.proofs.worked_texts.Goals as goal

pub returns : goal.returns
unfolding name_text
returns c =
    record {
      one_text = refl;
      forms_text = refl;
      one_lawful =
          record {
            types_once = refl;
            symbols_once = refl;
            types = refl;
            globals = refl;
            functions = refl;
            imports_first = refl;
            few_types = omega arith;
            few_globals = omega arith;
            few_functions = omega arith;
          };
      one_plain = record { lines = refl; names = refl };
      forms_lawful =
          record {
            types_once = refl;
            symbols_once = refl;
            types = refl;
            globals = refl;
            functions = refl;
            imports_first = refl;
            few_types = omega arith;
            few_globals = omega arith;
            few_functions = omega arith;
          };
    }
