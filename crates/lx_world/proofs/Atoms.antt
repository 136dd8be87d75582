-- The numbers of one kind among atoms in order, and the capabilities of all of them.
use Rattle.std.proofs.Common.{◌≡◌, refl, sym, ap, ◌∙◌, subst, ◌⊎◌, inl, inr, ℕ, zero, suc, ◌≤◌, Bool, true, false, ◌&&◌, nat_eq, nat_lt, nat_le, List, [], ◌∷◌, ◌++◌, Option, Some, None, map, append_assoc, arith, le-leb, leb-true, lt-ltb}
use Rattle.std.specs.Prelude.{if◌then◌else◌}
use Rattle.std.specs.List.{flat_map}
use Rattle.std.proofs.lemmas.Bool.{both_ways}
use Rattle.std.proofs.lemmas.Bool.Decides.{nat_tests}
use Rattle.std.proofs.lemmas.List.Concat.{flat_map-append}
use mathlib.Core.List.{append-nil}
use Rattle.lx_words.proofs.Tests.{first_of, second_of}
use Rattle.lx_slot_types.specs.Gets.{below}
use Rattle.lx_caps.specs.declared.Principal.{Principal}
use Rattle.lx_caps.specs.declared.Cap.{Cap}
use Rattle.lx_caps.specs.declared.Cap.TheVariants as cap
use Rattle.lx_caps.specs.declared.Atom.{Atom}
use Rattle.lx_caps.specs.declared.Atom.TheVariants as atom
use Rattle.lx_caps.specs.History.{History, owns}
use Rattle.lx_caps.specs.Order.{is_before, is_behind, is_call_or_ref, AreAllBehind, AreCallsAndRefs}
use Rattle.lx_caps.proofs.Orders.{before-at_most}
use Rattle.lx_caps.proofs.InOrder.{behind_chain}
use Rattle.lx_caps.proofs.OwnedByte.{not_owned}
use Rattle.lx_model.specs.Owned.{owned_calls, owned_refs}
use Rattle.lx_world.specs.Atoms.{caps_of}
use Rattle.lx_world.specs.Listing.{IsListing}
use Rattle.lx_world.proofs.Listed.{calls_are, refs_are}

-- an atom is one of a kind, with its number, or comes before all of the kind, or behind all
abbrev Stands : (ℕ → Atom) → (Atom → List ℕ) → Atom → Type 0
Stands f g x = ((n : ℕ) × (x ≡ f n) × (g x ≡ n ∷ [])) ⊎ ((g x ≡ []) × (((m : ℕ) → is_before x (f m) ≡ true) ⊎ ((m : ℕ) → is_before (f m) x ≡ true)))

one_way : {A : Type 0} (x y : Atom) → is_before x y ≡ true → is_before y x ≡ true → A
one_way x y xy yx = absurd (both_ways (is_before y x) (before-at_most x y xy) yx)

lt_is : (n m : ℕ) → nat_lt n m ≡ nat_le (suc n) m
lt_is n m = grind (arith, nat_tests)

module _ (f : ℕ → Atom) (g : Atom → List ℕ) (order : (n m : ℕ) → is_before (f n) (f m) ≡ nat_lt n m) (stands : (x : Atom) → Stands f g x) (p : Atom → Bool) where
  -- behind an atom that comes behind the kind stand none of it
  none_later : (y : Atom) (xs : List Atom) → ((m : ℕ) → is_before (f m) y ≡ true) → AreAllBehind p (Some y) xs → flat_map g xs ≡ []
  none_later y [] late all = refl
  none_later y (x ∷ xs) late all =
      let yx : is_before y x ≡ true = first_of (is_before y x) (p x) all.0.0 in
      let later : (m : ℕ) → is_before (f m) x ≡ true = λ m. behind_chain (Some (f m)) y x (late m) yx in
      elim (stands x) [
        | inl own ↦ one_way x (f own.0) (ap (λ z. is_before z (f own.0)) own.1 ∙ (ap (is_before (f own.0)) (sym own.1) ∙ later own.0)) (later own.0)
        | inr other ↦ ap (λ ns. ns ++ flat_map g xs) other.0 ∙ none_later x xs later all.1
      ]

  -- the atoms of the kind behind the given atom are those from a number on
  abbrev Cut : Option Atom → ℕ → Type 0
  Cut after from = (m : ℕ) → is_behind after (f m) ≡ nat_le from m

  -- the numbers of the kind
  pub listing : (after : Option Atom) (from : ℕ) (xs : List Atom) → Cut after from → AreAllBehind p after xs → IsListing (λ n. p (f n)) from (flat_map g xs)
  listing after from [] cut all = λ m le. not_owned (is_behind after (f m)) (p (f m)) (cut m ∙ le-leb from m le) (all (f m))
  listing after from (x ∷ xs) cut all =
      elim (stands x) [
        | inl own ↦
            (let n = own.0 in
            let here : AreAllBehind p after (f n ∷ xs) = subst (λ y. AreAllBehind p after (y ∷ xs)) own.1 all in
            let high : from ≤ n = leb-true from n (sym (cut n) ∙ first_of (is_behind after (f n)) (p (f n)) here.0.0) in
            subst (λ ns. IsListing (λ m. p (f m)) from (ns ++ flat_map g xs)) (sym own.2) (
              high,
              (λ m le lt. not_owned (is_behind after (f m)) (p (f m)) (cut m ∙ le-leb from m le) (here.0.1 (f m) (order m n ∙ lt-ltb m n lt))),
              second_of (is_behind after (f n)) (p (f n)) here.0.0,
              listing (Some (f n)) (suc n) xs (λ m. order n m ∙ lt_is n m) here.1,
            ))
        | inr other ↦
            subst (λ ns. IsListing (λ m. p (f m)) from (ns ++ flat_map g xs)) (sym other.0)
            (elim other.1 [
              | inl early ↦
                  listing (Some x) from xs (λ m. early m ∙ (sym (behind_chain after x (f m) (first_of (is_behind after x) (p x) all.0.0) (early m)) ∙ cut m)) all.1
              | inr late ↦
                  subst (IsListing (λ m. p (f m)) from) (sym (none_later x xs late all.1))
                  (λ m le. not_owned (is_behind after (f m)) (p (f m)) (cut m ∙ le-leb from m le) (all.0.1 (f m) (late m)))
            ])
      ]

abbrev call_number : Atom → List ℕ
call_number (atom.Byte b) = []
call_number (atom.Call a) = a ∷ []
call_number (atom.Ref t a) = []

call_stands : (x : Atom) → Stands atom.Call call_number x
call_stands (atom.Byte b) = inr (refl, inl (λ m. refl))
call_stands (atom.Call a) = inl (a, refl, refl)
call_stands (atom.Ref t a) = inr (refl, inr (λ m. refl))

abbrev ref_number : ℕ → Atom → List ℕ
ref_number ty (atom.Byte b) = []
ref_number ty (atom.Call a) = []
ref_number ty (atom.Ref t a) = if nat_eq t ty then a ∷ [] else []

ref_order : (ty n m : ℕ) → is_before (atom.Ref ty n) (atom.Ref ty m) ≡ nat_lt n m
ref_order ty n m = grind (arith, nat_tests)

ref_stands : (ty : ℕ) (x : Atom) → Stands (atom.Ref ty) (ref_number ty) x
ref_stands ty (atom.Byte b) = inr (refl, inl (λ m. refl))
ref_stands ty (atom.Call a) = inr (refl, inl (λ m. refl))
ref_stands ty (atom.Ref t a) = by (nat_eq t ty) (nat_lt t ty) refl refl
  where
    by : (same less : Bool) → nat_eq t ty ≡ same → nat_lt t ty ≡ less → Stands (atom.Ref ty) (ref_number ty) (atom.Ref t a)
    by true less e l = inl (a, (let same : t ≡ ty = grind (arith, nat_tests, e) in ap (λ u. atom.Ref u a) same), ap (λ b. if b then a ∷ [] else []) e)
    by false true e l = inr (ap (λ b. if b then a ∷ [] else []) e, inl (λ m. grind (arith, nat_tests, l)))
    by false false e l = inr (ap (λ b. if b then a ∷ [] else []) e, inr (λ m. grind (arith, nat_tests, e, l)))

module _ (h : History) (q : Principal) (xs : List Atom) (all : AreCallsAndRefs h q xs) where
  calls_of : map cap.Call (flat_map call_number xs) ≡ owned_calls h q
  calls_of =
      calls_are h q (flat_map call_number xs)
      (listing atom.Call call_number (λ n m. refl) call_stands (λ x. is_call_or_ref x && owns h q x) None 0 xs (λ m. sym (le-leb 0 m (omega arith))) all)

  refs_of : (ty : ℕ) → map (cap.Ref ty) (flat_map (ref_number ty) xs) ≡ owned_refs h q ty
  refs_of ty =
      refs_are h q ty (flat_map (ref_number ty) xs)
      (listing (atom.Ref ty) (ref_number ty) (ref_order ty) (ref_stands ty) (λ x. is_call_or_ref x && owns h q x) None 0 xs (λ m. sym (le-leb 0 m (omega arith))) all)

-- no reference of one of the first types comes behind one of a later type
none_lower : (p : Atom → Bool) (n t a : ℕ) (xs : List Atom) → n ≤ t → AreAllBehind p (Some (atom.Ref t a)) xs → flat_map (caps_of n) xs ≡ []
none_lower p n t a [] le all = refl
none_lower p n t a (atom.Byte b ∷ xs) le all = absurd (let no = first_of false (p (atom.Byte b)) all.0.0 in cc)
none_lower p n t a (atom.Call b ∷ xs) le all = absurd (let no = first_of false (p (atom.Call b)) all.0.0 in cc)
none_lower p n t a (atom.Ref u b ∷ xs) le all =
    let up = first_of (is_before (atom.Ref t a) (atom.Ref u b)) (p (atom.Ref u b)) all.0.0 in
    let high : n ≤ u = grind (arith, nat_tests, up, le) in
    let no : nat_lt u n ≡ false = grind (arith, nat_tests, high) in
    ap (λ (c : Bool). (if c then cap.Ref u b ∷ [] else []) ++ flat_map (caps_of n) xs) no ∙ none_lower p n u b xs high all.1

module _ (p : Atom → Bool) (n t a : ℕ) (xs : List Atom) (all : AreAllBehind p (Some (atom.Ref t a)) xs) (more : flat_map (caps_of (suc n)) xs ≡ flat_map (caps_of n) xs ++ map (cap.Ref n) (flat_map (ref_number n) xs)) where
  abbrev WithRef : Bool → Bool → Bool → Type 0
  WithRef below same less =
      (if below then cap.Ref t a ∷ [] else []) ++ flat_map (caps_of (suc n)) xs
      ≡ ((if less then cap.Ref t a ∷ [] else []) ++ flat_map (caps_of n) xs) ++ map (cap.Ref n) ((if same then a ∷ [] else []) ++ flat_map (ref_number n) xs)

  turn : (below same less : Bool) → nat_lt t (suc n) ≡ below → nat_eq t n ≡ same → nat_lt t n ≡ less → WithRef below same less → WithRef (nat_lt t (suc n)) (nat_eq t n) (nat_lt t n)
  turn below same less b s l = subst (λ c. c) (λ j. WithRef (sym b j) (sym s j) (sym l j))

  -- a reference in front, by how its type stands to the last one
  with_ref : (same less : Bool) → nat_eq t n ≡ same → nat_lt t n ≡ less → WithRef (nat_lt t (suc n)) (nat_eq t n) (nat_lt t n)
  with_ref true true s l = absurd (grind (arith, nat_tests, s, l))
  with_ref true false s l =
      let t_n : t ≡ n = grind (arith, nat_tests, s) in
      let none : flat_map (caps_of n) xs ≡ [] = none_lower p n t a xs (omega (arith, t_n)) all in
      let rest : flat_map (caps_of (suc n)) xs ≡ map (cap.Ref n) (flat_map (ref_number n) xs) = more ∙ ap (λ cs. cs ++ map (cap.Ref n) (flat_map (ref_number n) xs)) none in
      turn true true false (grind (arith, nat_tests, t_n)) s l
      (ap (λ cs. cap.Ref t a ∷ cs) rest
      ∙ (ap (λ u. cap.Ref u a ∷ map (cap.Ref n) (flat_map (ref_number n) xs)) t_n
      ∙ ap (λ cs. cs ++ map (cap.Ref n) (a ∷ flat_map (ref_number n) xs)) (sym none)))
  with_ref false true s l = turn true false true (grind (arith, nat_tests, l)) s l (ap (λ cs. cap.Ref t a ∷ cs) more)
  with_ref false false s l = turn false false false (grind (arith, nat_tests, s, l)) s l more

-- the references of one type more stand behind the rest
one_type_more : (p : Atom → Bool) (n : ℕ) (after : Option Atom) (xs : List Atom) → AreAllBehind p after xs
    → flat_map (caps_of (suc n)) xs ≡ flat_map (caps_of n) xs ++ map (cap.Ref n) (flat_map (ref_number n) xs)
one_type_more p n after [] all = refl
one_type_more p n after (atom.Byte b ∷ xs) all = one_type_more p n (Some (atom.Byte b)) xs all.1
one_type_more p n after (atom.Call b ∷ xs) all = ap (λ cs. cap.Call b ∷ cs) (one_type_more p n (Some (atom.Call b)) xs all.1)
one_type_more p n after (atom.Ref t a ∷ xs) all = with_ref p n t a xs all.1 (one_type_more p n (Some (atom.Ref t a)) xs all.1) (nat_eq t n) (nat_lt t n) refl refl

-- without types these are the calls
no_types : (xs : List Atom) → flat_map (caps_of 0) xs ≡ map cap.Call (flat_map call_number xs)
no_types [] = refl
no_types (atom.Byte b ∷ xs) = no_types xs
no_types (atom.Call a ∷ xs) = ap (λ cs. cap.Call a ∷ cs) (no_types xs)
no_types (atom.Ref t a ∷ xs) =
    let no : nat_lt t 0 ≡ false = grind (arith, nat_tests) in
    ap (λ (c : Bool). (if c then cap.Ref t a ∷ [] else []) ++ flat_map (caps_of 0) xs) no ∙ no_types xs

-- what is listed of the calls and references that a principal owns
pub caps_are : (h : History) (q : Principal) (xs : List Atom) → AreCallsAndRefs h q xs → (types : ℕ) → flat_map (caps_of types) xs ≡ owned_calls h q ++ flat_map (owned_refs h q) (below types)
caps_are h q xs all zero = no_types xs ∙ (calls_of h q xs all ∙ sym (append-nil (owned_calls h q)))
caps_are h q xs all (suc n) =
    one_type_more (λ x. is_call_or_ref x && owns h q x) n None xs all
    ∙ ((λ j. caps_are h q xs all n j ++ refs_of h q xs all n j)
    ∙ (append_assoc (owned_calls h q) (flat_map (owned_refs h q) (below n)) (owned_refs h q n)
    ∙ ap (λ cs. owned_calls h q ++ cs) (last_too (owned_refs h q) n)))
  where
    last_too : (f : ℕ → List Cap) (k : ℕ) → flat_map f (below k) ++ f k ≡ flat_map f (below (suc k))
    last_too f k = ap (λ cs. flat_map f (below k) ++ cs) (sym (append-nil (f k))) ∙ sym (flat_map-append f (below k) (k ∷ []))
