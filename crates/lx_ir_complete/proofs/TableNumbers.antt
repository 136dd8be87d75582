-- What a name stands for in a table of things with distinct names.
use Rattle.std.proofs.Common.{◌≡◌, ℕ, zero, suc, ◌+◌, ◌<◌, List, [], ◌∷◌, ◌++◌, length, map, Bool, true, false, not, refl, sym, ap, ◌∙◌, arith, Option, Some, None, slice_get, bytes_eq, nat_eq, true≢false}
use Rattle.std.specs.Prelude.{if◌then◌else◌}
use Rattle.std.specs.List.{list_any}
use Rattle.std.specs.Option.{option_flatten}
use Rattle.std.proofs.lemmas.Bool.{and_parts, or_parts, or_from, eqb-true, not-true}
use Rattle.std.proofs.lemmas.Option.{slice_get_within}
use Rattle.std.proofs.lemmas.Slice.Eq.{bytes_eq-Decides}
use Rattle.lx_words.proofs.Lists.{eq_turned}
use Rattle.lx_words.proofs.Tests.{eq_self}
use Rattle.lx_ir.specs.declared.module.Symbol.{Symbol}
use Rattle.lx_ir.specs.Lawful.{is_distinct}
use Rattle.lx_ir.specs.Text.{name_at}
use Rattle.lx_ir_terms.specs.Context.{entry}
use Rattle.lx_ir_tables.specs.Numbering.{numbering, has_name, number_from, number_named, table_of, symbol_by, symbols_by}
use Rattle.lx_ir_tokens.specs.Names.{number_of}
use Rattle.lx_ir_lawful.proofs.NameNumbers.{named}
use Rattle.lx_ir_lawful.proofs.FewNames.{some_same}
use Rattle.lx_ir_lawful.proofs.RegisterTables.{entry_from}
use Rattle.lx_ir_complete.specs.KnownTables.{AreOnce}
use Rattle.lx_ir_complete.proofs.Placed.{number_at_place}

-- Distinct names.

none_at : (p : List ℕ → Bool) (names : List (List ℕ)) (k : ℕ) → list_any p names ≡ false → k < length names → p (name_at names k) ≡ false
none_at p [] k h lt = absurd (omega arith)
none_at p (n ∷ ns) zero h lt = (or_parts (p n) (list_any p ns) h).0
none_at p (n ∷ ns) (suc k) h lt = none_at p ns k (or_parts (p n) (list_any p ns) h).1 (omega arith)

-- a name of the second list is not among those of the first
pub not_before : (front back : List (List ℕ)) (k : ℕ) → is_distinct (front ++ back) ≡ true → k < length back → list_any (bytes_eq (name_at back k)) front ≡ false
not_before [] back k d lt = refl
not_before (x ∷ front) back k d lt =
    let both = and_parts (not (list_any (bytes_eq x) (front ++ back))) (is_distinct (front ++ back)) d in
    let there : bytes_eq x (name_at back k) ≡ false = behind front back k (not-true (list_any (bytes_eq x) (front ++ back)) both.0) lt in
    or_from (bytes_eq (name_at back k) x) (list_any (bytes_eq (name_at back k)) front) (eq_turned x (name_at back k) (bytes_eq (name_at back k) x) refl there) (not_before front back k both.1 lt)
  where
    behind : (zs ys : List (List ℕ)) (i : ℕ) → list_any (bytes_eq x) (zs ++ ys) ≡ false → i < length ys → bytes_eq x (name_at ys i) ≡ false
    behind [] ys i h less = none_at (bytes_eq x) ys i h less
    behind (z ∷ zs) ys i h less = behind zs ys i (or_parts (bytes_eq x z) (list_any (bytes_eq x) (zs ++ ys)) h).1 less

pub distinct_front : (xs ys : List (List ℕ)) → is_distinct (xs ++ ys) ≡ true → is_distinct xs ≡ true
distinct_front [] ys h = refl
distinct_front (x ∷ xs) ys h =
    let both = and_parts (not (list_any (bytes_eq x) (xs ++ ys))) (is_distinct (xs ++ ys)) h in
    rw (fewer xs ys (not-true (list_any (bytes_eq x) (xs ++ ys)) both.0), distinct_front xs ys both.1) refl
  where
    fewer : (zs ws : List (List ℕ)) → list_any (bytes_eq x) (zs ++ ws) ≡ false → list_any (bytes_eq x) zs ≡ false
    fewer [] ws q = refl
    fewer (z ∷ zs) ws q =
        let two = or_parts (bytes_eq x z) (list_any (bytes_eq x) (zs ++ ws)) q in
        or_from (bytes_eq x z) (list_any (bytes_eq x) zs) two.0 (fewer zs ws two.1)

-- Numbers of names.

pub other_number : (names : List (List ℕ)) (n r : ℕ) (name said : List ℕ) (v : Bool) → nat_eq n r ≡ v → slice_get names n ≡ Some name → slice_get names r ≡ Some said → bytes_eq name said ≡ false → v ≡ false
other_number names n r name said false e h k d = refl
other_number names n r name said true e h k d =
    let same : n ≡ r = eqb-true n r e in
    let names_same : name ≡ said = some_same name said (sym h ∙ ap (slice_get names) same ∙ k) in
    absurd (true≢false (sym ((bytes_eq-Decides name said).1 names_same) ∙ d))

module _ (names : List (List ℕ)) (once : AreOnce names) where
  -- a thing with this name, and one with another name
  here : (n : ℕ) (said : List ℕ) → slice_get names n ≡ Some said → has_name n (number_of names said) ≡ true
  here n said at = ap (has_name n) (number_at_place names once n said at) ∙ eq_self n

  elsewhere : (n : ℕ) (said other : List ℕ) (o : Option ℕ) → number_of names other ≡ o → slice_get names n ≡ Some said → bytes_eq other said ≡ false → has_name n o ≡ false
  elsewhere n said other None e at d = refl
  elsewhere n said other (Some k) e at d = other_number names k n other said (nat_eq k n) refl (named names other k e) at d

  -- no thing has this name
  pub absent : (said : List (List ℕ)) (j name : ℕ) (text : List ℕ) → slice_get names name ≡ Some text → list_any (bytes_eq text) said ≡ false → number_from j (map (number_of names) said) name ≡ None
  absent [] j name text at d = refl
  absent (w ∷ ws) j name text at d =
      let two = or_parts (bytes_eq text w) (list_any (bytes_eq text) ws) d in
      let other : has_name name (number_of names w) ≡ false = elsewhere name text w (number_of names w) refl at (eq_turned text w (bytes_eq w text) refl two.0) in
      ap (λ b. if b then Some j else number_from (suc j) (map (number_of names) ws) name) other ∙ absent ws (suc j) name text at two.1

  -- the thing at a place has its name
  pub found : (said : List (List ℕ)) (j k name : ℕ) → is_distinct said ≡ true → k < length said → slice_get names name ≡ Some (name_at said k) → number_from j (map (number_of names) said) name ≡ Some (j + k)
  found [] j k name d lt at = absurd (omega arith)
  found (w ∷ ws) j zero name d lt at =
      let place : j ≡ j + 0 = omega arith in
      ap (λ b. if b then Some j else number_from (suc j) (map (number_of names) ws) name) (here name w at) ∙ ap (λ n. Some n) place
  found (w ∷ ws) j (suc k) name d lt at =
      let both = and_parts (not (list_any (bytes_eq w) ws)) (is_distinct ws) d in
      let other : has_name name (number_of names w) ≡ false = elsewhere name (name_at ws k) w (number_of names w) refl at (none_at (bytes_eq w) ws k (not-true (list_any (bytes_eq w) ws) both.0) (omega arith)) in
      let place : suc j + k ≡ j + suc k = omega arith in
      ap (λ b. if b then Some j else number_from (suc j) (map (number_of names) ws) name) other ∙ found ws (suc j) k name both.1 (omega arith) at ∙ ap (λ n. Some n) place

-- Tables.

pub entry_is : (c i : ℕ) (things : List (Option ℕ)) → i < c → slice_get (table_of (numbering c things)) i ≡ Some (number_named things i)
entry_is c i things lt = let here : 0 + i ≡ i = omega arith in entry_from 0 c i things lt ∙ ap (λ n. Some (number_named things n)) here

symbols_at : (gs fs : List (Option ℕ)) (i : ℕ) (g f : Option ℕ) → slice_get gs i ≡ Some g → slice_get fs i ≡ Some f → slice_get (symbols_by gs fs) i ≡ Some (symbol_by g f)
symbols_at [] fs i g f h k = cc h
symbols_at (x ∷ gs) [] i g f h k = cc k
symbols_at (x ∷ gs) (y ∷ fs) zero g f h k = let e : x ≡ g = cc h in let d : y ≡ f = cc k in ap (λ a. Some (symbol_by a y)) e ∙ ap (λ b. Some (symbol_by g b)) d
symbols_at (x ∷ gs) (y ∷ fs) (suc i) g f h k = symbols_at gs fs i g f h k

-- What a name stands for is told by the tables.

pub number_told : (c name : ℕ) (things : List (Option ℕ)) (told : Option ℕ) → name < c → number_named things name ≡ told → entry (table_of (numbering c things)) name ≡ told
number_told c name things told lt e = ap option_flatten (entry_is c name things lt) ∙ e

pub symbol_told : (c name : ℕ) (gs fs : List (Option ℕ)) (g f : Option ℕ) → name < c → number_named gs name ≡ g → number_named fs name ≡ f
    → entry (symbols_by (table_of (numbering c gs)) (table_of (numbering c fs))) name ≡ symbol_by g f
symbol_told c name gs fs g f lt d e =
    ap option_flatten
    (symbols_at (table_of (numbering c gs)) (table_of (numbering c fs)) name g f (entry_is c name gs lt ∙ ap (λ n. Some n) d) (entry_is c name fs lt ∙ ap (λ n. Some n) e))
