-- The worked rows compute.
use Rattle.std.proofs.Common.{refl, arith}
use Rattle.lx_ir.specs.Lawful.{IsLawful}
use Rattle.lx_propagate.specs.Rows.{WorkedSlots, in_both, stored_by_register}

pub both_lawful : IsLawful in_both
both_lawful = record { types_once = refl; symbols_once = refl; types = refl; globals = refl; functions = refl; imports_first = refl; few_types = omega arith; few_globals = omega arith; few_functions = omega arith }

pub register_lawful : IsLawful stored_by_register
register_lawful = record { types_once = refl; symbols_once = refl; types = refl; globals = refl; functions = refl; imports_first = refl; few_types = omega arith; few_globals = omega arith; few_functions = omega arith }

pub worked : WorkedSlots
worked =
    record {
      both_differ = refl;
      both_agree = refl;
      first_of_both = refl;
      one_alone = refl;
      second = refl;
      at_offset = refl;
      by_register = refl;
      in_both_lawful = both_lawful;
      stored_by_register_lawful = register_lawful;
    }
