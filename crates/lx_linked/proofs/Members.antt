-- What stands in lists that are put together.
use Rattle.std.proofs.Common.{◌≡◌, refl, sym, ap, subst, ℕ, zero, suc, Option, Some, None, List, [], ◌∷◌, ◌++◌, inl, inr, map, flat_map, slice_get}
use Rattle.std.specs.Prelude.{◌⊎◌}
use Rattle.lx_slot_types.specs.Sites.{FieldName, Site, site, sites_at}
use Rattle.lx_linked.specs.Members.{In}

pub in_left : {A : Type 0} (x : A) (xs ys : List A) → In x xs → In x (xs ++ ys)
in_left x [] ys h = absurd h
in_left x (y ∷ xs) ys (inl e) = inl e
in_left x (y ∷ xs) ys (inr h) = inr (in_left x xs ys h)

pub in_right : {A : Type 0} (x : A) (xs ys : List A) → In x ys → In x (xs ++ ys)
in_right x [] ys h = h
in_right x (y ∷ xs) ys h = inr (in_right x xs ys h)

one_more : {A : Type 0} (x y : A) (xs ys : List A) → In x xs ⊎ In x ys → In x (y ∷ xs) ⊎ In x ys
one_more x y xs ys (inl h) = inl (inr h)
one_more x y xs ys (inr h) = inr h

pub in_either : {A : Type 0} (x : A) (xs ys : List A) → In x (xs ++ ys) → In x xs ⊎ In x ys
in_either x [] ys h = inr h
in_either x (y ∷ xs) ys (inl e) = inl (inl e)
in_either x (y ∷ xs) ys (inr h) = one_more x y xs ys (in_either x xs ys h)

pub in_flat : {A B : Type 0} (f : A → List B) (x : A) (y : B) (xs : List A) → In x xs → In y (f x) → In y (flat_map f xs)
in_flat f x y [] h g = absurd h
in_flat f x y (z ∷ xs) (inl e) g = in_left y (f z) (flat_map f xs) (subst (λ w. In y (f w)) e g)
in_flat f x y (z ∷ xs) (inr h) g = in_right y (f z) (flat_map f xs) (in_flat f x y xs h g)

pub record Source {A B : Type 0} (f : A → List B) (y : B) (xs : List A) : Type 0 where
  pub from : A
  pub stands : In from xs
  pub gives : In y (f from)

from_split : {A B : Type 0} (f : A → List B) (y : B) (z : A) (xs : List A) → (In y (flat_map f xs) → Source f y xs) → In y (f z) ⊎ In y (flat_map f xs) → Source f y (z ∷ xs)
from_split f y z xs rest (inl h) = record { from = z; stands = inl refl; gives = h }
from_split f y z xs rest (inr h) = let s = rest h in record { from = s.from; stands = inr s.stands; gives = s.gives }

pub from_flat : {A B : Type 0} (f : A → List B) (y : B) (xs : List A) → In y (flat_map f xs) → Source f y xs
from_flat f y [] h = absurd h
from_flat f y (z ∷ xs) h = from_split f y z xs (from_flat f y xs) (in_either y (f z) (flat_map f xs) h)

-- an element at a place
pub in_at : {A : Type 0} (x : A) (xs : List A) (k : ℕ) → slice_get xs k ≡ Some x → In x xs
in_at x [] k h = absurd (cc)
in_at x (y ∷ xs) zero h = let e : x ≡ y = cc in inl e
in_at x (y ∷ xs) (suc k) h = inr (in_at x xs k h)

-- the sites at fields

sites_in : (name : FieldName) (f : ℕ) (names : List FieldName) → In name names → In (site name f) (map (λ n. site n f) names)
sites_in name f [] h = absurd h
sites_in name f (n ∷ names) (inl e) = inl (ap (λ x. site x f) e)
sites_in name f (n ∷ names) (inr h) = inr (sites_in name f names h)

pub site_in : (name : FieldName) (f : ℕ) (names : List FieldName) (o : Option ℕ) → In name names → o ≡ Some f → In (site name f) (sites_at names o)
site_in name f names None h e = absurd (cc)
site_in name f names (Some g) h e =
    let q : f ≡ g = cc in
    subst (λ x. In (site name f) (map (λ n. site n x) names)) q (sites_in name f names h)

pub record AtField (name : FieldName) (f : ℕ) (names : List FieldName) (o : Option ℕ) : Type 0 where
  pub field : In name names
  pub function : o ≡ Some f

among : (name : FieldName) (f g : ℕ) (names : List FieldName) → In (site name f) (map (λ n. site n g) names) → AtField name f names (Some g)
among name f g [] h = absurd h
among name f g (n ∷ names) (inl e) = record { field = inl (ap (λ (s : Site). s.at) e); function = ap Some (sym (ap (λ (s : Site). s.function) e)) }
among name f g (n ∷ names) (inr h) = let a = among name f g names h in record { field = inr a.field; function = a.function }

pub at_field : (name : FieldName) (f : ℕ) (names : List FieldName) (o : Option ℕ) → In (site name f) (sites_at names o) → AtField name f names o
at_field name f names None h = absurd h
at_field name f names (Some g) h = among name f g names h
