-- Where all functions are defined, imports come first.
use Rattle.std.proofs.Common.{◌≡◌, Bool, true, false, not, ◌||◌, List, [], ◌∷◌, refl}
use Rattle.std.specs.List.{list_all}
use Rattle.std.proofs.lemmas.Bool.{and_parts, and_from}
use Rattle.lx_ir.specs.declared.module.Function.{Function}
use Rattle.lx_ir.specs.Lookup.{is_defined}
use Rattle.lx_ir.specs.Lawful.{imports_first}

pub defined_first : (fs : List Function) → list_all is_defined fs ≡ true → imports_first fs ≡ true
defined_first [] h = refl
defined_first (f ∷ fs) h =
    let both = and_parts (is_defined f) (list_all is_defined fs) h in
    and_from (not (is_defined f) || list_all is_defined fs) (imports_first fs) (or_right (not (is_defined f)) (list_all is_defined fs) both.1) (defined_first fs both.1)
  where
    or_right : (a b : Bool) → b ≡ true → (a || b) ≡ true
    or_right true b e = refl
    or_right false b e = e
