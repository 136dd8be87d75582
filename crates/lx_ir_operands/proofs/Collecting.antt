-- Items one after the other, as a loop collects them.
use Rattle.std.proofs.Common.{◌≡◌, ℕ, zero, suc, ◌≤◌, ◌<◌, Bool, true, false, List, [], ◌∷◌, ◌++◌, length, Ok, Err, refl, sym, ap, ◌∙◌, subst, append_assoc, arith}
use Rattle.std.proofs.lemmas.List.{append-nil}
use Rattle.lx_ir_tokens.specs.declared.token.Tok.{Tok}
use Rattle.lx_ir_terms.specs.declared.fault.Fault.{Fault}
use Rattle.lx_ir_terms.specs.declared.fault.ReadError.{ReadError}
use Rattle.lx_ir_terms.specs.declared.fault.ReadError.TheVariants as errors
use Rattle.lx_ir_terms.specs.Reading.{Read, ◌>>=◌, Fails, behind}
use Rattle.lx_ir_operands.specs.Steps.{has_further, items_while, unbroken_at}
use Rattle.lx_ir_operands.specs.Operands.{has_case}

-- what was read before, and what is still read
abbrev pub with_front : {A : Type 0} → List A → Read (List A) → Read (List A)
with_front front read = read >>= λ x. Ok (front ++ x.0, x.1)

regroup : {A : Type 0} (front : List A) (n : A) (read : Read (List A)) → with_front front (read >>= λ x. Ok (n ∷ x.0, x.1)) ≡ with_front (front ++ n ∷ []) read
regroup front n (Ok x) = ap (λ ns. Ok (ns, x.1)) (sym (append_assoc front (n ∷ []) x.0))
regroup front n (Err f) = refl

pub record Collecting {A : Type 0} (go : List Tok → Bool) (item : List Tok → Read A) (front : List A) (rest : List Tok) (total : Read (List A)) : Type 0 where
  pub fuel : ℕ
  pub enough : length rest ≤ fuel
  pub so_far : with_front front (items_while go item fuel rest) ≡ total

first_more : {A : Type 0} (x : A) (read : Read (List A)) → with_front (x ∷ []) read ≡ (read >>= λ xs. Ok (x ∷ xs.0, xs.1))
first_more x (Ok xs) = refl
first_more x (Err f) = refl

none_before : {A : Type 0} (read : Read (List A)) → with_front [] read ≡ read
none_before (Ok xs) = refl
none_before (Err f) = refl

-- no item is collected yet
pub starts : {A : Type 0} (go : List Tok → Bool) (item : List Tok → Read A) (ts : List Tok) → Collecting go item [] ts (items_while go item (length ts) ts)
starts go item ts = record { fuel = length ts; enough = omega arith; so_far = none_before (items_while go item (length ts) ts) }

-- the first of items with commas between them
pub first_item : {A : Type 0} (item : List Tok → Read A) (ts us : List Tok) (x : A) → item ts ≡ Ok (x, us) → Collecting has_further (λ vs. item (behind vs)) (x ∷ []) us (unbroken_at item ts)
first_item item ts us x e = record { fuel = length us; enough = omega arith; so_far = rw e (first_more x (items_while has_further (λ vs. item (behind vs)) (length us) us)) }

pub first_fails : {A : Type 0} (item : List Tok → Read A) (ts : List Tok) (e : ReadError) → Fails e (item ts) → Fails e (unbroken_at item ts)
first_fails item ts errors.Memory h = tt
first_fails item ts (errors.Fault f) h = rw h refl

step : {A : Type 0} (go : List Tok → Bool) (item : List Tok → Read A) (front : List A) (fuel : ℕ) (rest us : List Tok) (x : A) (total : Read (List A)) → length rest ≤ fuel → go rest ≡ true → with_front front (items_while go item fuel rest) ≡ total → item rest ≡ Ok (x, us) → length us < length rest → Collecting go item (front ++ x ∷ []) us total
unfolding items_while
step go item front zero rest us x total lt h so_far e le = absurd (omega (arith, le, lt))
step go item front (suc fuel) rest us x total lt h so_far e le =
    let one : with_front front (items_while go item (suc fuel) rest) ≡ with_front (front ++ x ∷ []) (items_while go item fuel us) = rw (h, e) (regroup front x (items_while go item fuel us)) in
    record { fuel = fuel; enough = omega arith; so_far = sym one ∙ so_far }

-- one more item
pub goes_on : {A : Type 0} (go : List Tok → Bool) (item : List Tok → Read A) (front front' : List A) (rest us : List Tok) (x : A) (total : Read (List A)) → front' ≡ front ++ x ∷ [] → Collecting go item front rest total → go rest ≡ true → item rest ≡ Ok (x, us) → length us < length rest → Collecting go item front' us total
goes_on go item front front' rest us x total f g h e le = subst (λ r. Collecting go item r us total) (sym f) (step go item front g.fuel rest us x total g.enough h g.so_far e le)

fails_step : {A : Type 0} (go : List Tok → Bool) (item : List Tok → Read A) (front : List A) (fuel : ℕ) (rest : List Tok) (f : Fault) (total : Read (List A)) → length rest ≤ fuel → 0 < length rest → go rest ≡ true → with_front front (items_while go item fuel rest) ≡ total → item rest ≡ Err f → total ≡ Err f
unfolding items_while
fails_step go item front zero rest f total lt some h so_far e = absurd (omega (arith, some, lt))
fails_step go item front (suc fuel) rest f total lt some h so_far e =
    let one : with_front front (items_while go item (suc fuel) rest) ≡ Err f = rw (h, e) refl in
    sym so_far ∙ one

-- the next item is at fault
pub item_fails : {A : Type 0} (go : List Tok → Bool) (item : List Tok → Read A) (front : List A) (rest : List Tok) (e : ReadError) (total : Read (List A)) → Collecting go item front rest total → 0 < length rest → go rest ≡ true → Fails e (item rest) → Fails e total
item_fails go item front rest errors.Memory total g some h b = tt
item_fails go item front rest (errors.Fault f) total g some h b = fails_step go item front g.fuel rest f total g.enough some h g.so_far b

pub no_more : {A : Type 0} (go : List Tok → Bool) (item : List Tok → Read A) (fuel : ℕ) (ts : List Tok) → go ts ≡ false → items_while go item fuel ts ≡ Ok ([], ts)
unfolding items_while
no_more go item zero ts h = refl
no_more go item (suc fuel) ts h = rw h refl

-- no further item stands there
pub ends : {A : Type 0} (go : List Tok → Bool) (item : List Tok → Read A) (front : List A) (rest : List Tok) (total : Read (List A)) → Collecting go item front rest total → go rest ≡ false → total ≡ Ok (front, rest)
ends go item front rest total g h =
    let one : with_front front (items_while go item g.fuel rest) ≡ Ok (front, rest) = rw (no_more go item g.fuel rest h) (ap (λ ns. Ok (ns, rest)) (append-nil front)) in
    sym g.so_far ∙ one

-- what the tests see is a token
pub further_shorter : (ts : List Tok) → has_further ts ≡ true → length (behind ts) < length ts
further_shorter [] h = cc
further_shorter (t ∷ ts) h = omega arith

pub case_shorter : (ts : List Tok) → has_case ts ≡ true → length (behind ts) < length ts
case_shorter [] h = cc
case_shorter (t ∷ ts) h = omega arith
