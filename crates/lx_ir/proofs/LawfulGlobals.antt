-- The types of lawful globals are lawful.
use Rattle.std.proofs.Common.{◌≡◌, true, ◌&&◌, List, [], ◌∷◌, refl}
use Rattle.std.specs.Prelude.{nat_le}
use Rattle.std.proofs.lemmas.Bool.{and_parts}
use Rattle.lx_ir.specs.declared.module.GlobalVar.{GlobalVar}
use Rattle.lx_ir.specs.declared.module.Module.{Module}
use Rattle.lx_ir.specs.Layout.{is_lawful_type}
use Rattle.lx_ir.specs.Lawful.{is_lawful_global, is_lawful_init, nesting_of_init, is_name}
use Rattle.std.specs.List.{list_all}

pub global_type_lawful : (m : Module) (g : GlobalVar) → is_lawful_global m g ≡ true → is_lawful_type m.types g.ty ≡ true
global_type_lawful m g a =
    let b = and_parts (is_name g.name && is_lawful_type m.types g.ty && is_lawful_init m g.ty g.init) (nat_le (nesting_of_init g.init) 64) a in
    let c = and_parts (is_name g.name && is_lawful_type m.types g.ty) (is_lawful_init m g.ty g.init) b.0 in
    (and_parts (is_name g.name) (is_lawful_type m.types g.ty) c.0).1

pub global_types_lawful : (m : Module) (gs : List GlobalVar) → list_all (is_lawful_global m) gs ≡ true → list_all (λ (g : GlobalVar). is_lawful_type m.types g.ty) gs ≡ true
global_types_lawful m [] h = refl
global_types_lawful m (g ∷ gs) h =
    let a = and_parts (is_lawful_global m g) (list_all (is_lawful_global m) gs) h in
    (λ j. global_type_lawful m g a.0 j && global_types_lawful m gs a.1 j)
