-- The worked rows.
use Rattle.std.proofs.Common.{◌≤◌, [], refl, inl, inr, arith}
use Rattle.lx_ir.specs.Lawful.{IsLawful}
use Rattle.lx_ir_verify.specs.Rows.{unassigned_module, assigned_module, WorkedFaults}

one_at_most_none : 1 ≤ 0 → ⊥
one_at_most_none h = omega arith

pub unassigned_is_lawful : IsLawful unassigned_module
unassigned_is_lawful = record { types_once = refl; symbols_once = refl; types = refl; globals = refl; functions = refl; imports_first = refl; few_types = omega arith; few_globals = omega arith; few_functions = omega arith }

pub assigned_is_lawful : IsLawful assigned_module
assigned_is_lawful = record { types_once = refl; symbols_once = refl; types = refl; globals = refl; functions = refl; imports_first = refl; few_types = omega arith; few_globals = omega arith; few_functions = omega arith }

pub worked : WorkedFaults
worked = record {
  unassigned_lawful = unassigned_is_lawful;
  unassigned = inl (inl (record { no_parameter = omega arith; walk = []; comes = refl; not_before = refl; not_here = refl }, refl), refl);
  assigned_lawful = assigned_is_lawful;
  assigned = inr (inr (λ u. one_at_most_none u.no_parameter, refl), refl);
}
