-- The fields at an offset of a global are those that paths lead to.
use Rattle.std.proofs.Common.{◌≡◌, refl, sym, subst, ℕ, true, ◌&&◌, IsTrue, Option, Some, None, List, [], ◌∷◌, length, arith, slice_get}
use Rattle.std.specs.List.{list_all}
use Rattle.std.proofs.lemmas.Bool.{and_parts, and_from}
use Rattle.lx_words.proofs.Lists.{all_at}
use Rattle.lx_ir.specs.declared.types.NamedType.{NamedType}
use Rattle.lx_ir.specs.declared.module.GlobalVar.{GlobalVar}
use Rattle.lx_ir.specs.declared.module.Module.{Module}
use Rattle.lx_ir.specs.IrType.{IrType}
use Rattle.lx_ir.specs.Layout.{is_lawful_type}
use Rattle.lx_ir.specs.Lawful.{IsLawful, is_lawful_global}
use Rattle.lx_ir.proofs.LawfulGlobals.{global_type_lawful}
use Rattle.lx_slot_types.specs.Sites.{FieldName, fields_at, fields_of_global, global_fields_at, named_fields_at}
use Rattle.lx_linked.specs.Members.{In, Exactly}
use Rattle.lx_linked.specs.Paths.{BeginsAt, HasLawfulGlobals, LeadsTo}
use Rattle.lx_slot_sums.proofs.Names.{deep_enough}
use Rattle.lx_linked.proofs.Paths.{led}
use Rattle.lx_linked.proofs.Listed.{listed}

-- of a lawful module the types of the globals are within the limits

all_lawful : (m : Module) (gs : List GlobalVar) → list_all (is_lawful_global m) gs ≡ true → list_all (λ (g : GlobalVar). is_lawful_type m.types g.ty) gs ≡ true
all_lawful m [] h = refl
all_lawful m (g ∷ gs) h =
    let a = and_parts (is_lawful_global m g) (list_all (is_lawful_global m) gs) h in
    and_from (is_lawful_type m.types g.ty) (list_all (λ (x : GlobalVar). is_lawful_type m.types x.ty) gs) (global_type_lawful m g a.0) (all_lawful m gs a.1)

pub lawful_globals : (m : Module) → IsLawful m → HasLawfulGlobals m
lawful_globals m h = all_lawful m m.globals h.globals

-- the fields of a lawful type
pub type_fields : (types : List NamedType) (t : IrType) → IsTrue (is_lawful_type types t) → (o : ℕ) (name : FieldName) → Exactly (In name (fields_at types (named_fields_at types (length types)) t o)) (LeadsTo types name t o)
type_fields types t h o name =
    (led types name (length types) t o, λ l. subst (λ xs. In name xs) (deep_enough types t o h) (listed types name 64 64 t o h (omega arith) (omega arith) l))

-- and of a global

begins_by : (m : Module) (n o : ℕ) (name : FieldName) (g : Option GlobalVar) → slice_get m.globals n ≡ g → In name (fields_of_global m g o) → BeginsAt m n o name
begins_by m n o name None e h = absurd h
begins_by m n o name (Some g) e h = record { global = g; is = e; leads = led m.types name (length m.types) g.ty o h }

pub begins : (m : Module) (n o : ℕ) (name : FieldName) → In name (global_fields_at m n o) → BeginsAt m n o name
begins m n o name h = begins_by m n o name (slice_get m.globals n) refl h

pub is_listed : (m : Module) → HasLawfulGlobals m → (n o : ℕ) (name : FieldName) → BeginsAt m n o name → In name (global_fields_at m n o)
is_listed m h n o name b =
    let k : is_lawful_type m.types b.global.ty ≡ true = all_at (λ (g : GlobalVar). is_lawful_type m.types g.ty) m.globals n b.global h b.is in
    subst (λ g. In name (fields_of_global m g o)) (sym b.is) ((type_fields m.types b.global.ty k o name).1 b.leads)

pub global_fields : (m : Module) → HasLawfulGlobals m → (n o : ℕ) (name : FieldName) → Exactly (In name (global_fields_at m n o)) (BeginsAt m n o name)
global_fields m h n o name = (begins m n o name, is_listed m h n o name)
