-- The fields of sites, part by part.
use Rattle.std.proofs.Common.{◌≡◌, ℕ, Bool, true, false, ◌&&◌, ◌||◌, Some, List, [], ◌∷◌, ◌++◌, map, if◌then◌else◌, nat_eq, refl, ap, ◌∙◌}
use Rattle.std.specs.Prelude.{flat_map}
use Rattle.std.specs.List.{filter, list_any}
use Rattle.std.proofs.lemmas.List.{map-append}
use Rattle.std.proofs.lemmas.List.Elements.{filter-append}
use Rattle.lx_ir.specs.declared.types.NamedType.{NamedType}
use Rattle.lx_ir.specs.declared.instr.Instr.{Instr}
use Rattle.lx_ir.specs.declared.instr.Op.{Op}
use Rattle.lx_ir.specs.declared.instr.Op.TheVariants as op
use Rattle.lx_slot_types.specs.Sites.{FieldName, Site, behind_first, element_fields, index_number, last_field, site, sites_at}
use Rattle.lx_propagate.specs.Names.{element_sites, names_for, register_sites}

abbrev field_of : Site → FieldName
field_of s = s.at

pub names_append : (f : ℕ) (xs ys : List Site) → names_for f (xs ++ ys) ≡ names_for f xs ++ names_for f ys
names_append f xs ys =
    ap (map field_of) (filter-append (λ (s : Site). nat_eq s.function f) xs ys)
    ∙ map-append field_of (filter (λ (s : Site). nat_eq s.function f) xs) (filter (λ (s : Site). nat_eq s.function f) ys)

-- some site of a number passes exactly where a field of its sites does
pub any_names : (p : FieldName → Bool) (f : ℕ) (sites : List Site) → list_any (λ s. nat_eq s.function f && p s.at) sites ≡ list_any p (names_for f sites)
any_names p f [] = refl
any_names p f (s ∷ sites) = by (nat_eq s.function f) (any_names p f sites)
  where
    by : (b : Bool) → list_any (λ s. nat_eq s.function f && p s.at) sites ≡ list_any p (names_for f sites) → ((b && p s.at) || list_any (λ s. nat_eq s.function f && p s.at) sites) ≡ list_any p (map field_of (if b then s ∷ filter (λ (t : Site). nat_eq t.function f) sites else filter (λ (t : Site). nat_eq t.function f) sites))
    by true rest = ap (λ b. p s.at || b) rest
    by false rest = rest

abbrev none_of : List FieldName
none_of = []

no_names : (b : Bool) → none_of ≡ (if b then none_of else none_of)
no_names true = refl
no_names false = refl

-- one number's sites at fields
pub names_at : (f g : ℕ) (names : List FieldName) → names_for f (sites_at names (Some g)) ≡ (if nat_eq g f then names else [])
names_at f g [] = no_names (nat_eq g f)
names_at f g (name ∷ names) = by (nat_eq g f) (names_at f g names)
  where
    by : (b : Bool) → names_for f (sites_at names (Some g)) ≡ (if b then names else []) → map field_of (if b then site name g ∷ filter (λ (s : Site). nat_eq s.function f) (sites_at names (Some g)) else filter (λ (s : Site). nat_eq s.function f) (sites_at names (Some g))) ≡ (if b then name ∷ names else [])
    by true e = ap (λ xs. name ∷ xs) e
    by false e = e

pub names_flat : {A : Type 0} (f : ℕ) (g : A → List Site) (xs : List A) → names_for f (flat_map g xs) ≡ flat_map (λ x. names_for f (g x)) xs
names_flat f g [] = refl
names_flat f g (x ∷ xs) = names_append f (g x) (flat_map g xs) ∙ ap (λ rest. names_for f (g x) ++ rest) (names_flat f g xs)

-- those of a register are the fields that are stored to through it
element_names : (types : List NamedType) (r : ℕ) (o : Op) → names_for r (element_sites types o) ≡ element_fields types r o
element_names types r (op.GetElementPtr to ty base indices) = names_at r to (last_field types ty (behind_first (map index_number indices)))
element_names types r (op.Binary to o ty a b) = refl
element_names types r (op.Compare to pred ty a b) = refl
element_names types r (op.Convert to how from a into) = refl
element_names types r (op.Unary to o ty a) = refl
element_names types r (op.Select to condition ty a b) = refl
element_names types r (op.Phi to ty edges) = refl
element_names types r (op.Alloca to ty) = refl
element_names types r (op.Load to ty at) = refl
element_names types r (op.Store ty v at) = refl
element_names types r (op.Call to ret callee args) = refl
element_names types r (op.CopyBlock moves dest source len) = refl
element_names types r (op.FillBlock dest byte len) = refl
element_names types r (op.Ret v) = refl
element_names types r (op.Jump label) = refl
element_names types r (op.Branch condition taken otherwise) = refl
element_names types r (op.Switch ty v otherwise cases) = refl
element_names types r op.Unreachable = refl
element_names types r (op.Guard at size narrow) = refl
element_names types r (op.Check target) = refl
element_names types r (op.Enter f) = refl
element_names types r (op.Pre f k) = refl
element_names types r (op.Post f k) = refl
element_names types r (op.Leave f) = refl

pub register_names : (types : List NamedType) (r : ℕ) (is : List Instr) → names_for r (register_sites types is) ≡ flat_map (λ i. element_fields types r i.op) is
register_names types r is =
    names_flat r (λ (i : Instr). element_sites types i.op) is ∙ (λ j. flat_map (λ (i : Instr). element_names types r i.op j) is)
