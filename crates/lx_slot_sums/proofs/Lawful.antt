-- Named types and globals within the limits.
use Rattle.std.proofs.Common.{◌≡◌, ◌∙◌, refl, sym, ap, subst, ℕ, ◌<◌, true, Option, Some, None, List, [], length, get_or, IsTrue, option_map, slice_get}
use Rattle.lx_ir.specs.declared.types.NamedType.{NamedType}
use Rattle.lx_ir.specs.declared.module.GlobalVar.{GlobalVar}
use Rattle.lx_ir.specs.declared.module.Module.{Module}
use Rattle.lx_ir.specs.declared.types.TypeNode.{TypeNode}
use Rattle.lx_ir.specs.declared.types.TypeNode.TheVariants as node
use Rattle.lx_ir.specs.TypeNodes.{type_of_node}
use Rattle.std.proofs.lemmas.Option.{slice_get_read}
use Rattle.lx_words.proofs.Lists.{all_at}
use Rattle.lx_ir.specs.IrType.{IrType}
use Rattle.lx_ir.specs.Layout.{is_lawful_type}
use Rattle.lx_slot_types.specs.Sites.{FieldName, entry_fields, fields_at, fields_of_global, global_fields_at, named_fields_at}
use Rattle.lx_slot_sums.specs.Within.{HasLawfulTypes}
use Rattle.lx_slot_sums.proofs.Names.{deep_enough}

-- globals

global_found : (m : Module) (k : ℕ) (t : IrType) (g : Option GlobalVar) → HasLawfulTypes m → Some t ≡ option_map (λ (x : GlobalVar). x.ty) g → slice_get m.globals k ≡ g → IsTrue (is_lawful_type m.types t)
global_found m k t None h p s = absurd (cc)
global_found m k t (Some g) h p s =
    let a : is_lawful_type m.types g.ty ≡ true = all_at (λ (x : GlobalVar). is_lawful_type m.types x.ty) m.globals k g h.globals s in
    let q : g.ty ≡ t = cc in
    subst (λ u. IsTrue (is_lawful_type m.types u)) q a

pub global_lawful : (m : Module) (k : ℕ) (t : IrType) → HasLawfulTypes m → Some t ≡ option_map (λ (x : GlobalVar). x.ty) (slice_get m.globals k) → IsTrue (is_lawful_type m.types t)
global_lawful m k t h p = global_found m k t (slice_get m.globals k) h p refl

pub global_some : (m : Module) (n o : ℕ) (t : IrType) → Some t ≡ option_map (λ (x : GlobalVar). x.ty) (slice_get m.globals n) → fields_at m.types (named_fields_at m.types (length m.types)) t o ≡ global_fields_at m n o
global_some m n o t h = by (slice_get m.globals n) h
  where
    by : (g : Option GlobalVar) → Some t ≡ option_map (λ (x : GlobalVar). x.ty) g → fields_at m.types (named_fields_at m.types (length m.types)) t o ≡ fields_of_global m g o
    by None h = absurd (cc)
    by (Some g) h = let e : t ≡ g.ty = cc in ap (λ u. fields_at m.types (named_fields_at m.types (length m.types)) u o) e

-- a global whose type's fields are known has them
pub global_made : (m : Module) (items : List GlobalVar) (k : ℕ) (g : GlobalVar) → HasLawfulTypes m → items ≡ m.globals → k < length items → g ≡ get_or items k g → (o : ℕ) → fields_at m.types (named_fields_at m.types 64) g.ty o ≡ global_fields_at m k o
global_made m items k g h e l is o =
    let s : slice_get m.globals k ≡ Some g = ap (λ xs. slice_get xs k) (sym e) ∙ slice_get_read items (length items) k g refl l is in
    let p : Some g.ty ≡ option_map (λ (x : GlobalVar). x.ty) (slice_get m.globals k) = sym (ap (option_map (λ (x : GlobalVar). x.ty)) s) in
    deep_enough m.types g.ty o (global_lawful m k g.ty h p) ∙ global_some m k o g.ty p

-- what a scalar, an array or a name is has no fields
pub no_struct : (types : List NamedType) (named : ℕ → ℕ → List FieldName) (k : ℕ) (n : TypeNode) (t : IrType) → ((x : _) → n ≡ node.Struct x → ⊥) → ((x : _) → n ≡ node.Packed x → ⊥) → type_of_node n ≡ t → (o : ℕ) → entry_fields types named k t o ≡ []
no_struct types named k n t p q e o = ap (λ u. entry_fields types named k u o) (sym e) ∙ by n p q
  where
    by : (n : TypeNode) → ((x : _) → n ≡ node.Struct x → ⊥) → ((x : _) → n ≡ node.Packed x → ⊥) → entry_fields types named k (type_of_node n) o ≡ []
    by (node.Scalar s) p q = refl
    by (node.Array c b) p q = refl
    by (node.Struct x) p q = absurd (p x refl)
    by (node.Packed x) p q = absurd (q x refl)
    by (node.Named j) p q = refl
