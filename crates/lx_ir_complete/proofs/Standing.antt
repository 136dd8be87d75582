-- Numbers that stand for names.
use Rattle.std.proofs.Common.{◌≡◌, ℕ, zero, suc, ◌<◌, List, [], ◌∷◌, ◌++◌, length, take, true, false, not, refl, sym, ap, ◌∙◌, subst, arith, Some, slice_get, bytes_eq, nat_eq, true≢false}
use Rattle.std.specs.Prelude.{if◌then◌else◌}
use Rattle.std.specs.List.{AllZip, list_any}
use Rattle.std.proofs.lemmas.Bool.{and_parts, or_parts, or_from, not-true}
use Rattle.lx_words.proofs.Lists.{eq_turned}
use Rattle.lx_ir.specs.Lawful.{is_distinct}
use Rattle.lx_ir.specs.Text.{name_at}
use Rattle.lx_ir_statements.specs.Numbers.{has_number, with_number}
use Rattle.lx_ir_complete.proofs.TableNumbers.{other_number}

-- each number is that of the name at its place
abbrev pub Stand : List (List ℕ) → List ℕ → List (List ℕ) → Type 0
Stand names numbers said = AllZip (λ n name. slice_get names n ≡ Some name) numbers said

-- the number of a name that is not among those
pub absent : (names : List (List ℕ)) (numbers : List ℕ) (said : List (List ℕ)) (n : ℕ) (name : List ℕ) → Stand names numbers said → slice_get names n ≡ Some name → list_any (bytes_eq name) said ≡ false → has_number numbers n ≡ false
absent names [] [] n name h k d = refl
absent names [] (s ∷ said) n name h k d = absurd h
absent names (r ∷ numbers) [] n name h k d = absurd h
absent names (r ∷ numbers) (s ∷ said) n name h k d =
    let parts = or_parts (bytes_eq name s) (list_any (bytes_eq name) said) d in
    or_from (nat_eq n r) (has_number numbers n) (other_number names n r name s (nat_eq n r) refl k h.0 parts.0) (absent names numbers said n name h.1 k parts.1)

pub stand_more : (names : List (List ℕ)) (numbers : List ℕ) (said : List (List ℕ)) (n : ℕ) (name : List ℕ) → Stand names numbers said → slice_get names n ≡ Some name → Stand names (numbers ++ n ∷ []) (said ++ name ∷ [])
stand_more names [] [] n name h k = (k, tt)
stand_more names [] (s ∷ said) n name h k = absurd h
stand_more names (r ∷ numbers) [] n name h k = absurd h
stand_more names (r ∷ numbers) (s ∷ said) n name h k = (h.0, stand_more names numbers said n name h.1 k)

-- a new name, with its number
pub stand_new : (names : List (List ℕ)) (numbers : List ℕ) (said : List (List ℕ)) (n : ℕ) (name : List ℕ) → Stand names numbers said → slice_get names n ≡ Some name → list_any (bytes_eq name) said ≡ false → Stand names (with_number numbers n) (said ++ name ∷ [])
stand_new names numbers said n name h k d =
    subst (λ v. Stand names (if v then numbers else numbers ++ n ∷ []) (said ++ name ∷ [])) (sym (absent names numbers said n name h k d)) (stand_more names numbers said n name h k)

any_front : (x y : List ℕ) (front back : List (List ℕ)) → list_any (bytes_eq y) (front ++ x ∷ back) ≡ false → bytes_eq y x ≡ false
any_front x y [] back h = (or_parts (bytes_eq y x) (list_any (bytes_eq y) back) h).0
any_front x y (z ∷ front) back h = any_front x y front back (or_parts (bytes_eq y z) (list_any (bytes_eq y) (front ++ x ∷ back)) h).1

-- a name among distinct ones is not among those before it
pub new_name : (front : List (List ℕ)) (x : List ℕ) (back : List (List ℕ)) → is_distinct (front ++ x ∷ back) ≡ true → list_any (bytes_eq x) front ≡ false
new_name [] x back h = refl
new_name (y ∷ front) x back h =
    let parts = and_parts (not (list_any (bytes_eq y) (front ++ x ∷ back))) (is_distinct (front ++ x ∷ back)) h in
    let apart : bytes_eq y x ≡ false = any_front x y front back (not-true (list_any (bytes_eq y) (front ++ x ∷ back)) parts.0) in
    or_from (bytes_eq x y) (list_any (bytes_eq x) front) (eq_turned y x (bytes_eq x y) refl apart) (new_name front x back parts.1)

-- names up to a place, and the one there
pub taken_more : (all : List (List ℕ)) (c : ℕ) → c < length all → take (suc c) all ≡ take c all ++ name_at all c ∷ []
taken_more [] c lt = absurd (omega arith)
taken_more (x ∷ all) zero lt = refl
taken_more (x ∷ all) (suc c) lt = ap (λ t. x ∷ t) (taken_more all c (omega arith))

split_at : (all : List (List ℕ)) (c : ℕ) → c < length all → (back : List (List ℕ)) × (all ≡ take c all ++ name_at all c ∷ back)
split_at [] c lt = absurd (omega arith)
split_at (x ∷ all) zero lt = (all, refl)
split_at (x ∷ all) (suc c) lt = let rest = split_at all c (omega arith) in (rest.0, ap (λ t. x ∷ t) rest.1)

pub new_at : (all : List (List ℕ)) (c : ℕ) → is_distinct all ≡ true → c < length all → list_any (bytes_eq (name_at all c)) (take c all) ≡ false
new_at all c h lt = let parts = split_at all c lt in new_name (take c all) (name_at all c) parts.0 (sym (ap is_distinct parts.1) ∙ h)
