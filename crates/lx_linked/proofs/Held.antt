-- The sites in an initialiser are those where it holds functions.
use Rattle.std.proofs.Common.{◌≡◌, ◌∙◌, refl, sym, ap, subst, ℕ, zero, suc, ◌+◌, Some, List, [], ◌∷◌, ◌++◌, inl, inr, arith, slice_get}
use Rattle.std.specs.Prelude.{◌⊎◌}
use Rattle.lx_ir.specs.declared.module.Symbol.TheVariants as symbol
use Rattle.lx_ir.specs.declared.module.Pointer.TheVariants as pointer
use Rattle.lx_ir.specs.declared.module.Constant.{Constant}
use Rattle.lx_ir.specs.declared.module.Constant.TheVariants as constant
use Rattle.lx_ir.specs.declared.module.Value.{Value}
use Rattle.lx_ir.specs.declared.module.Value.TheVariants as value
use Rattle.lx_ir.specs.declared.module.Brackets.{Brackets}
use Rattle.lx_ir.specs.IrType.{IrType, One, Array, Struct, Packed, Named}
use Rattle.lx_ir.specs.Init.{Init, Plain, Empty, Bytes, Group, Inits, no_more, more}
use Rattle.lx_slot_types.specs.Sites.{FieldName, field_if_named, field_name, function_in, function_init, function_value, init_sites, items_sites, Site, site, sites_at}
use Rattle.lx_linked.specs.Members.{In}
use Rattle.lx_linked.specs.Stands.{HoldsFunction, as_item, in_item, function_constant, function_operand, items_of}
use Rattle.lx_linked.proofs.Members.{at_field, in_either, in_left, in_right, site_in}

-- what is a function

pub is_function : (c : Constant) (f : ℕ) → function_in c ≡ Some f → c ≡ function_constant f
is_function (constant.Number w) f e = absurd (cc)
is_function (constant.Truth b) f e = absurd (cc)
is_function (constant.Blank b w) f e = absurd (cc)
is_function (constant.Cast p w) f e = absurd (cc)
is_function (constant.Pointer pointer.Null) f e = absurd (cc)
is_function (constant.Pointer (pointer.Blank b)) f e = absurd (cc)
is_function (constant.Pointer (pointer.Number n)) f e = absurd (cc)
is_function (constant.Pointer (pointer.Symbol (symbol.Global g) o)) f e = absurd (cc)
is_function (constant.Pointer (pointer.Symbol (symbol.Function g) zero)) f e = let q : g ≡ f = cc in ap function_constant q
is_function (constant.Pointer (pointer.Symbol (symbol.Function g) (suc o))) f e = absurd (cc)

pub is_operand : (v : Value) (f : ℕ) → function_value v ≡ Some f → v ≡ function_operand f
is_operand (value.Register r) f e = absurd (cc)
is_operand (value.Constant c) f e = ap value.Constant (is_function c f e)

is_item : (i : Init) (f : ℕ) → function_init i ≡ Some f → i ≡ Plain (function_constant f)
is_item (Plain c) f e = ap Plain (is_function c f e)
is_item (Empty b) f e = absurd (cc)
is_item (Bytes bs) f e = absurd (cc)
is_item (Group b ts is) f e = absurd (cc)

pub record OfStruct (t : IrType) (name : FieldName) (k : ℕ) : Type 0 where
  pub number : ℕ
  pub named : t ≡ Named number
  pub field : name ≡ field_name number k

pub of_struct : (t : IrType) (name : FieldName) (k : ℕ) → In name (field_if_named t k) → OfStruct t name k
of_struct (One s) name k h = absurd h
of_struct (Array n t) name k h = absurd h
of_struct (Struct ts) name k h = absurd h
of_struct (Packed ts) name k h = absurd h
of_struct (Named n) name k (inl e) = record { number = n; named = refl; field = e }
of_struct (Named n) name k (inr e) = absurd e

-- a listed site is held

pub data Holds (name : FieldName) (f : ℕ) (t : IrType) (k : ℕ) (u : IrType) (i : Init) : Type 0 where
  itself : OfStruct t name k → function_init i ≡ Some f → Holds name f t k u i
  inner : HoldsFunction name f u i → Holds name f t k u i

pub record Item (name : FieldName) (f : ℕ) (t : IrType) (k : ℕ) (ts : List IrType) (is : Inits) : Type 0 where
  pub place : ℕ
  pub ty : IrType
  pub init : Init
  pub type_is : slice_get ts place ≡ Some ty
  pub init_is : slice_get (items_of is) place ≡ Some init
  pub holds : Holds name f t (k + place) ty init

item_here : (name : FieldName) (f : ℕ) (t : IrType) (k : ℕ) (u : IrType) (ts : List IrType) (i : Init) (is : Inits) → Holds name f t k u i → Item name f t k (u ∷ ts) (more i is)
item_here name f t k u ts i is h = let z : k ≡ k + 0 = omega arith in record { place = 0; ty = u; init = i; type_is = refl; init_is = refl; holds = subst (λ n. Holds name f t n u i) z h }

item_next : (name : FieldName) (f : ℕ) (t : IrType) (k : ℕ) (u : IrType) (ts : List IrType) (i : Init) (is : Inits) → Item name f t (suc k) ts is → Item name f t k (u ∷ ts) (more i is)
item_next name f t k u ts i is x =
    let z : suc k + x.place ≡ k + suc x.place = omega arith in
    record { place = suc x.place; ty = x.ty; init = x.init; type_is = x.type_is; init_is = x.init_is; holds = subst (λ n. Holds name f t n x.ty x.init) z x.holds }

item_by : (name : FieldName) (f : ℕ) (t : IrType) (k : ℕ) (u : IrType) (ts : List IrType) (i : Init) (is : Inits) → (In (site name f) (init_sites u i) → HoldsFunction name f u i) → (In (site name f) (items_sites t (suc k) ts is) → Item name f t (suc k) ts is)
    → In (site name f) (sites_at (field_if_named t k) (function_init i)) ⊎ (In (site name f) (init_sites u i) ⊎ In (site name f) (items_sites t (suc k) ts is)) → Item name f t k (u ∷ ts) (more i is)
item_by name f t k u ts i is below rest (inl h) =
    let a = at_field name f (field_if_named t k) (function_init i) h in
    item_here name f t k u ts i is (itself (of_struct t name k a.field) a.function)
item_by name f t k u ts i is below rest (inr (inl h)) = item_here name f t k u ts i is (inner (below h))
item_by name f t k u ts i is below rest (inr (inr h)) = item_next name f t k u ts i is (rest h)

three : {A : Type 0} (x : A) (xs ys zs : List A) → In x (xs ++ ys ++ zs) → In x xs ⊎ (In x ys ⊎ In x zs)
three x xs ys zs h = by (in_either x (xs ++ ys) zs h)
  where
    front : In x xs ⊎ In x ys → In x xs ⊎ (In x ys ⊎ In x zs)
    front (inl h) = inl h
    front (inr h) = inr (inl h)

    by : In x (xs ++ ys) ⊎ In x zs → In x xs ⊎ (In x ys ⊎ In x zs)
    by (inl h) = front (in_either x xs ys h)
    by (inr h) = inr (inr h)

group_by : (name : FieldName) (f : ℕ) (t : IrType) (b : Brackets) (ts : List IrType) (is : Inits) (k : ℕ) (u : IrType) (i : Init) → slice_get ts k ≡ Some u → slice_get (items_of is) k ≡ Some i → Holds name f t (0 + k) u i → HoldsFunction name f t (Group b ts is)
group_by name f t b ts is k u i p q (itself s e) =
    let z : 0 + k ≡ k = omega arith in
    subst (λ x. HoldsFunction name f x (Group b ts is)) (sym s.named)
    (as_item s.number k u b ts is (s.field ∙ ap (field_name s.number) z) p (q ∙ ap Some (is_item i f e)))
group_by name f t b ts is k u i p q (inner h) = in_item t u k b ts is i p q h

group_holds : (name : FieldName) (f : ℕ) (t : IrType) (b : Brackets) (ts : List IrType) (is : Inits) → Item name f t 0 ts is → HoldsFunction name f t (Group b ts is)
group_holds name f t b ts is x = group_by name f t b ts is x.place x.ty x.init x.type_is x.init_is x.holds

mutual
  pub is_held : (name : FieldName) (f : ℕ) (t : IrType) (i : Init) → In (site name f) (init_sites t i) → HoldsFunction name f t i
  is_held name f t (Plain c) h = absurd h
  is_held name f t (Empty b) h = absurd h
  is_held name f t (Bytes bs) h = absurd h
  is_held name f t (Group b ts is) h = group_holds name f t b ts is (items_held name f t 0 ts is h)

  items_held : (name : FieldName) (f : ℕ) (t : IrType) (k : ℕ) (ts : List IrType) (is : Inits) → In (site name f) (items_sites t k ts is) → Item name f t k ts is
  items_held name f t k ts no_more h = absurd h
  items_held name f t k [] (more i is) h = absurd h
  items_held name f t k (u ∷ ts) (more i is) h =
      item_by name f t k u ts i is (is_held name f u i) (items_held name f t (suc k) ts is)
      (three (site name f) (sites_at (field_if_named t k) (function_init i)) (init_sites u i) (items_sites t (suc k) ts is) h)

-- what is held is listed

abbrev Listed : FieldName → ℕ → IrType → ℕ → IrType → Init → Type 0
Listed name f t k u i = In (site name f) (sites_at (field_if_named t k) (function_init i)) ⊎ In (site name f) (init_sites u i)

listed_first : (name : FieldName) (f : ℕ) (t : IrType) (k : ℕ) (u : IrType) (i : Init) (rest : List Site) → Listed name f t k u i → In (site name f) (sites_at (field_if_named t k) (function_init i) ++ init_sites u i ++ rest)
listed_first name f t k u i rest (inl h) =
    in_left (site name f) (sites_at (field_if_named t k) (function_init i) ++ init_sites u i) rest
    (in_left (site name f) (sites_at (field_if_named t k) (function_init i)) (init_sites u i) h)
listed_first name f t k u i rest (inr h) =
    in_left (site name f) (sites_at (field_if_named t k) (function_init i) ++ init_sites u i) rest
    (in_right (site name f) (sites_at (field_if_named t k) (function_init i)) (init_sites u i) h)

first_same : (name : FieldName) (f : ℕ) (t : IrType) (k : ℕ) (a b : IrType) (x y : Init) → a ≡ b → x ≡ y → Listed name f t (k + 0) b y → Listed name f t k a x
first_same name f t k a b x y p q h =
    let z : k + 0 ≡ k = omega arith in
    subst (λ v. Listed name f t k v x) (sym p) (subst (λ w. Listed name f t k b w) (sym q) (subst (λ n. Listed name f t n b y) z h))

item_listed : (name : FieldName) (f : ℕ) (t : IrType) (k : ℕ) (ts : List IrType) (is : Inits) (j : ℕ) (u : IrType) (i : Init) → slice_get ts j ≡ Some u → slice_get (items_of is) j ≡ Some i → Listed name f t (k + j) u i → In (site name f) (items_sites t k ts is)
item_listed name f t k ts no_more j u i p q h = absurd (cc)
item_listed name f t k [] (more x is) j u i p q h = absurd (cc)
item_listed name f t k (v ∷ ts) (more x is) zero u i p q h =
    let a : v ≡ u = cc in
    let b : x ≡ i = cc in
    listed_first name f t k v x (items_sites t (suc k) ts is) (first_same name f t k v u x i a b h)
item_listed name f t k (v ∷ ts) (more x is) (suc j) u i p q h =
    let z : k + suc j ≡ suc k + j = omega arith in
    in_right (site name f) (sites_at (field_if_named t k) (function_init x) ++ init_sites v x) (items_sites t (suc k) ts is)
    (item_listed name f t (suc k) ts is j u i p q (subst (λ n. Listed name f t n u i) z h))

all_listed : (name : FieldName) (f : ℕ) (t : IrType) (ts : List IrType) (is : Inits) (j : ℕ) (u : IrType) (i : Init) → slice_get ts j ≡ Some u → slice_get (items_of is) j ≡ Some i → Listed name f t j u i → In (site name f) (items_sites t 0 ts is)
all_listed name f t ts is j u i p q h = let z : j ≡ 0 + j = omega arith in item_listed name f t 0 ts is j u i p q (subst (λ n. Listed name f t n u i) z h)

pub is_listed : (name : FieldName) (f : ℕ) (t : IrType) (i : Init) → HoldsFunction name f t i → In (site name f) (init_sites t i)
is_listed name f _ _ (as_item n k u b ts is e p q) =
    all_listed name f (Named n) ts is k u (Plain (function_constant f)) p q (inl (site_in name f (field_name n k ∷ []) (Some f) (inl e) refl))
is_listed name f _ _ (in_item t u k b ts is i p q h) = all_listed name f t ts is k u i p q (inr (is_listed name f u i h))
