-- Reading items one after the other, as a loop does.
use Rattle.std.proofs.Common.{◌≡◌, ℕ, zero, suc, ◌≤◌, ◌<◌, Bool, true, false, List, [], ◌∷◌, ◌++◌, length, Ok, Err, refl, sym, ap, ◌∙◌, subst, append_assoc, arith}
use Rattle.std.specs.Prelude.{if◌then◌else◌}
use Rattle.std.proofs.lemmas.List.{append-nil}
use Rattle.lx_ir_tokens.specs.declared.token.Tok.{Tok}
use Rattle.lx_ir_tokens.specs.declared.token.Kind.{Kind}
use Rattle.lx_ir_tokens.specs.declared.token.Mark.TheVariants.{Comma}
use Rattle.lx_ir_terms.specs.declared.fault.Fault.{Fault}
use Rattle.lx_ir_terms.specs.declared.fault.ReadError.{ReadError}
use Rattle.lx_ir_terms.specs.declared.fault.ReadError.TheVariants as errors
use Rattle.lx_ir_terms.specs.Reading.{Read, ◌>>=◌, Fails, has, behind, is_mark, more_at, items_at}

-- a comma stands next
abbrev pub has_comma : List Tok → Bool
has_comma ts = has (is_mark Comma) ts

pub behind_shorter : (p : Kind → Bool) (ts : List Tok) → has p ts ≡ true → length (behind ts) < length ts
behind_shorter p [] h = cc
behind_shorter p (t ∷ ts) h = omega arith

-- what was read before, and what is still read
abbrev pub with_front : {A : Type 0} → List A → Read (List A) → Read (List A)
with_front front read = read >>= λ x. Ok (front ++ x.0, x.1)

regroup : {A : Type 0} (front : List A) (n : A) (read : Read (List A)) → with_front front (read >>= λ x. Ok (n ∷ x.0, x.1)) ≡ with_front (front ++ n ∷ []) read
regroup front n (Ok x) = ap (λ ns. Ok (ns, x.1)) (sym (append_assoc front (n ∷ []) x.0))
regroup front n (Err f) = refl

pub record Going {A : Type 0} (item : List Tok → Read A) (front : List A) (rest : List Tok) (total : Read (List A)) : Type 0 where
  pub fuel : ℕ
  pub enough : length rest ≤ fuel
  pub so_far : with_front front (more_at item fuel rest) ≡ total

first_more : {A : Type 0} (x : A) (read : Read (List A)) → with_front (x ∷ []) read ≡ (read >>= λ xs. Ok (x ∷ xs.0, xs.1))
first_more x (Ok xs) = refl
first_more x (Err f) = refl

pub first_item : {A : Type 0} (item : List Tok → Read A) (ts us : List Tok) (x : A) → item ts ≡ Ok (x, us) → Going item (x ∷ []) us (items_at item ts)
first_item item ts us x e = record { fuel = length us; enough = omega arith; so_far = rw e (first_more x (more_at item (length us) us)) }

step : {A : Type 0} (item : List Tok → Read A) (front : List A) (fuel : ℕ) (rest us : List Tok) (x : A) (total : Read (List A)) → length rest ≤ fuel → has_comma rest ≡ true → with_front front (more_at item fuel rest) ≡ total → item (behind rest) ≡ Ok (x, us) → length us ≤ length (behind rest) → Going item (front ++ x ∷ []) us total
unfolding more_at
step item front zero rest us x total lt comma so_far e le = let s = behind_shorter (is_mark Comma) rest comma in absurd (omega (arith, s, lt))
step item front (suc fuel) rest us x total lt comma so_far e le =
    let s = behind_shorter (is_mark Comma) rest comma in
    let one : with_front front (more_at item (suc fuel) rest) ≡ with_front (front ++ x ∷ []) (more_at item fuel us) = rw (comma, e) (regroup front x (more_at item fuel us)) in
    record { fuel = fuel; enough = omega arith; so_far = sym one ∙ so_far }

-- one more item behind a comma
pub goes_on : {A : Type 0} (item : List Tok → Read A) (front front' : List A) (rest ts us : List Tok) (x : A) (total : Read (List A)) → front' ≡ front ++ x ∷ [] → Going item front rest total → has_comma rest ≡ true → ts ≡ behind rest → item ts ≡ Ok (x, us) → length us ≤ length ts → Going item front' us total
goes_on item front front' rest ts us x total f g comma b e le =
    let e' : item (behind rest) ≡ Ok (x, us) = subst (λ r. item r ≡ Ok (x, us)) b e in
    let le' : length us ≤ length (behind rest) = subst (λ r. length us ≤ length r) b le in
    subst (λ r. Going item r us total) (sym f) (step item front g.fuel rest us x total g.enough comma g.so_far e' le')

fails_step : {A : Type 0} (item : List Tok → Read A) (front : List A) (fuel : ℕ) (rest : List Tok) (f : Fault) (total : Read (List A)) → length rest ≤ fuel → has_comma rest ≡ true → with_front front (more_at item fuel rest) ≡ total → item (behind rest) ≡ Err f → total ≡ Err f
unfolding more_at
fails_step item front zero rest f total lt comma so_far e = let s = behind_shorter (is_mark Comma) rest comma in absurd (omega (arith, s, lt))
fails_step item front (suc fuel) rest f total lt comma so_far e =
    let one : with_front front (more_at item (suc fuel) rest) ≡ Err f = rw (comma, e) refl in
    sym so_far ∙ one

-- the item behind a comma is at fault
pub item_fails : {A : Type 0} (item : List Tok → Read A) (front : List A) (rest ts : List Tok) (e : ReadError) (total : Read (List A)) → Going item front rest total → has_comma rest ≡ true → ts ≡ behind rest → Fails e (item ts) → Fails e total
item_fails item front rest ts errors.Memory total g comma b h = tt
item_fails item front rest ts (errors.Fault f) total g comma b h =
    fails_step item front g.fuel rest f total g.enough comma g.so_far (subst (λ r. item r ≡ Err f) b h)

pub first_fails : {A : Type 0} (item : List Tok → Read A) (ts : List Tok) (e : ReadError) → Fails e (item ts) → Fails e (items_at item ts)
first_fails item ts errors.Memory h = tt
first_fails item ts (errors.Fault f) h = rw h refl

pub no_more : {A : Type 0} (item : List Tok → Read A) (fuel : ℕ) (ts : List Tok) → has_comma ts ≡ false → more_at item fuel ts ≡ Ok ([], ts)
unfolding more_at
no_more item zero ts h = refl
no_more item (suc fuel) ts h = rw h refl

-- no further comma stands there
pub ends : {A : Type 0} (item : List Tok → Read A) (front : List A) (rest rest' : List Tok) (total : Read (List A)) → rest' ≡ rest → Going item front rest total → has_comma rest ≡ false → total ≡ Ok (front, rest')
ends item front rest rest' total b g h =
    let one : with_front front (more_at item g.fuel rest) ≡ Ok (front, rest) = rw (no_more item g.fuel rest h) (ap (λ ns. Ok (ns, rest)) (append-nil front)) in
    (sym g.so_far ∙ one) ∙ ap (λ r. Ok (front, r)) (sym b)

-- a mark was taken, or not
pub took : (r b : Bool) (x y z : List Tok) → r ≡ b → z ≡ (if b then x else y) → r ≡ true → (b ≡ true) × (z ≡ x)
took r true x y z e f g = (refl, f)
took r false x y z e f g = cc

pub stayed : (r b : Bool) (x y z : List Tok) → r ≡ b → z ≡ (if b then x else y) → r ≡ false → (b ≡ false) × (z ≡ y)
stayed r true x y z e f g = cc
stayed r false x y z e f g = (refl, f)
