-- A table of names that grows.
use Rattle.std.proofs.Common.{◌≡◌, ◌∙◌, ℕ, zero, suc, ◌+◌, ◌≤◌, ◌<◌, Bool, true, false, Option, Some, None, is_some, List, [], ◌∷◌, ◌++◌, length, slice_get, sym, ap, length-append, take, get_or, subst, arith}
use Rattle.std.specs.Prelude.{if◌then◌else◌}
use Rattle.std.specs.List.{AllZip}
use Rattle.std.proofs.lemmas.List.{take_more}
use Rattle.std.proofs.lemmas.List.Sums.{fold_more}
use Rattle.indexmap.proofs.SetLemmas.{AllZip-push}
use Rattle.lx_words.specs.declared.token.Token.{Token}
use Rattle.lx_ir_tokens.specs.declared.token.Tok.{Tok}
use Rattle.lx_ir_tokens.specs.Names.{number_of}
use Rattle.lx_ir_tokens.specs.Reading.{said_at, names_of, with_said, StandsFor, IsTokOf}

pub slice_get-front : (names more : List (List ℕ)) (n : ℕ) (name : List ℕ) → slice_get names n ≡ Some name → slice_get (names ++ more) n ≡ Some name
slice_get-front [] more n name h = cc
slice_get-front (x ∷ xs) more zero name h = h
slice_get-front (x ∷ xs) more (suc n) name h = slice_get-front xs more n name h

kept_if : (there : Bool) (names : List (List ℕ)) (new : List ℕ) (n : ℕ) (name : List ℕ) → slice_get names n ≡ Some name → slice_get (if there then names else names ++ new ∷ []) n ≡ Some name
kept_if true names new n name h = h
kept_if false names new n name h = slice_get-front names (new ∷ []) n name h

-- A number stands for its name in the table that has grown.
stands_on : (names : List (List ℕ)) (more : Option (List ℕ)) (n : ℕ) (said : Option (List ℕ)) → StandsFor names n said → StandsFor (with_said names more) n said
stands_on names more n None h = h
stands_on names None n (Some name) h = h
stands_on names (Some new) n (Some name) h = kept_if (is_some (number_of names new)) names new n name h

-- The tokens that were seen stay what they are.
pub seen_on : (text : List ℕ) (names : List (List ℕ)) (more : Option (List ℕ)) (ts : List Token) (toks : List Tok) → AllZip (IsTokOf text names) ts toks → AllZip (IsTokOf text (with_said names more)) ts toks
seen_on text names more [] [] h = h
seen_on text names more [] (tok ∷ toks) h = absurd h
seen_on text names more (t ∷ ts) [] h = absurd h
seen_on text names more (t ∷ ts) (tok ∷ toks) h =
    (record { kind = h.0.kind; name = stands_on names more tok.name (said_at text t) h.0.name }, seen_on text names more ts toks h.1)

longer_if : (there : Bool) (names : List (List ℕ)) (new : List ℕ) → length (if there then names else names ++ new ∷ []) ≤ length names + 1
longer_if true names new = omega arith
longer_if false names new = omega (arith, length-append names (new ∷ []))

-- A table grows by one name at most.
pub grows_by_one : (names : List (List ℕ)) (more : Option (List ℕ)) → length (with_said names more) ≤ length names + 1
grows_by_one names None = omega arith
grows_by_one names (Some new) = longer_if (is_some (number_of names new)) names new

-- the table with the names of one token more
pub table_more : (text : List ℕ) (places : List Token) (i : ℕ) (d : Token) (names more : List (List ℕ)) → i < length places → names ≡ names_of text (take i places) → more ≡ with_said names (said_at text (get_or places i d)) → more ≡ names_of text (take (i + 1) places)
table_more text places i d names more lt so_far is =
    is ∙ ap (λ ns. with_said ns (said_at text (get_or places i d))) so_far ∙ sym (fold_more (λ ns t. with_said ns (said_at text t)) [] places i d lt)

-- one token more is seen
pub seen_more : (text : List ℕ) (places : List Token) (i : ℕ) (d : Token) (names more : List (List ℕ)) (toks : List Tok) (tok : Tok) → i < length places → more ≡ with_said names (said_at text (get_or places i d)) → AllZip (IsTokOf text names) (take i places) toks → IsTokOf text more (get_or places i d) tok → AllZip (IsTokOf text more) (take (i + 1) places) (toks ++ tok ∷ [])
seen_more text places i d names more toks tok lt is so_far here =
    let old = seen_on text names (said_at text (get_or places i d)) (take i places) toks so_far in
    let kept = subst (λ (ns : List (List ℕ)). AllZip (IsTokOf text ns) (take i places) toks) (sym is) old in
    let all = AllZip-push (IsTokOf text more) (take i places) toks (get_or places i d) tok kept here in
    subst (λ (ts : List Token). AllZip (IsTokOf text more) ts (toks ++ tok ∷ [])) (sym (take_more places i d lt)) all
