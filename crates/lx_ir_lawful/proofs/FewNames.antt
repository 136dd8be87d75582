-- Names are no more than the tokens that say them.
use Rattle.std.proofs.Common.{◌≡◌, ◌∙◌, ◌⊎◌, inl, inr, ℕ, suc, ◌+◌, ◌<◌, ◌≤◌, Bool, true, false, not, ◌||◌, Option, Some, None, is_some, List, [], ◌∷◌, ◌++◌, length, map, fold, slice_get, bytes_eq, nat_eq, refl, sym, ap, subst, true≢false, arith}
use Rattle.std.specs.Prelude.{if◌then◌else◌}
use Rattle.std.specs.List.{AllZip, AllByRecursion, IsDistinct, list_any}
use Rattle.std.proofs.lemmas.Bool.{and_parts, or_parts, eqb-true, or_cases, or_right}
use Rattle.std.proofs.lemmas.List.{length-append}
use Rattle.std.proofs.lemmas.Map.Steps.{length-le_from_distinct_below}
use Rattle.std.proofs.lemmas.Option.{slice_get_within}
use Rattle.std.proofs.lemmas.Slice.Eq.{bytes_eq-Decides}
use Rattle.lx_words.specs.declared.token.TokenKind.{TokenKind}
use Rattle.lx_words.specs.declared.token.TokenKind.TheVariants as token
use Rattle.lx_words.specs.declared.token.Token.{Token}
use Rattle.lx_words.specs.Cuts.{bytes_of}
use Rattle.lx_ir.specs.Lawful.{is_distinct}
use Rattle.lx_ir_tokens.specs.declared.token.Tok.{Tok}
use Rattle.lx_ir_tokens.specs.declared.read.IrTokens.{IrTokens}
use Rattle.lx_ir_tokens.specs.Said.{name_said, bytes_said, kind_of, said}
use Rattle.lx_ir_tokens.specs.Names.{number_of}
use Rattle.lx_ir_tokens.specs.Reading.{said_at, with_said, names_of, IsTokOf, ReadsAs}
use Rattle.lx_ir_lawful.proofs.NameNumbers.{named}
use Rattle.lx_ir_lawful.specs.NamedThings.{somes, numbers_of, has_numbers}
use Rattle.lx_ir_lawful.specs.TokenNames.{counted_mark, mark_count}

pub some_same : (x y : List ℕ) → Some x ≡ Some y → x ≡ y
some_same x y e = cc e

module _ (names : List (List ℕ)) where
  there_by : (o : Option ℕ) (y x : List ℕ) (n : ℕ) (said : List (List ℕ)) → number_of names y ≡ o → number_of names x ≡ Some n → list_any (nat_eq n) (somes (o ∷ map (number_of names) said)) ≡ true
      → (list_any (nat_eq n) (numbers_of names said) ≡ true → list_any (bytes_eq x) said ≡ true) → (bytes_eq x y || list_any (bytes_eq x) said) ≡ true
  there_by None y x n said e at h rest = or_right (bytes_eq x y) (list_any (bytes_eq x) said) (rest h)
  there_by (Some k) y x n said e at h rest = by (or_cases (nat_eq n k) (list_any (nat_eq n) (numbers_of names said)) h)
    where
      by : (nat_eq n k ≡ true) ⊎ (list_any (nat_eq n) (numbers_of names said) ≡ true) → (bytes_eq x y || list_any (bytes_eq x) said) ≡ true
      by (inl q) =
          let s : n ≡ k = eqb-true n k q in
          let same : x ≡ y = some_same x y (sym (named names x n at) ∙ ap (slice_get names) s ∙ named names y k e) in
          ap (λ b. b || list_any (bytes_eq x) said) ((bytes_eq-Decides x y).1 same)
      by (inr q) = or_right (bytes_eq x y) (list_any (bytes_eq x) said) (rest q)

  -- a name whose number is among those of others is one of them
  there : (said : List (List ℕ)) (x : List ℕ) (n : ℕ) → number_of names x ≡ Some n → list_any (nat_eq n) (numbers_of names said) ≡ true → list_any (bytes_eq x) said ≡ true
  there [] x n at h = absurd (cc h)
  there (y ∷ said) x n at h = there_by (number_of names y) y x n said refl at h (there said x n at)

  not_true : (v : Bool) → not v ≡ true → v ≡ false
  not_true true e = absurd (cc e)
  not_true false e = refl

  absent_by : (b : Bool) (x : List ℕ) (n : ℕ) (said : List (List ℕ)) → list_any (nat_eq n) (numbers_of names said) ≡ b → number_of names x ≡ Some n → list_any (bytes_eq x) said ≡ false → b ≡ false
  absent_by false x n said e at h = refl
  absent_by true x n said e at h = absurd (true≢false (sym (there said x n at e) ∙ h))

  all_false : (q : ℕ → Bool) (xs : List ℕ) → list_any q xs ≡ false → AllByRecursion (λ y. q y ≡ false) xs
  all_false q [] h = tt
  all_false q (x ∷ xs) h = let both = or_parts (q x) (list_any q xs) h in (both.0, all_false q xs both.1)

  distinct_by : (o : Option ℕ) (x : List ℕ) (said : List (List ℕ)) → number_of names x ≡ o → is_some o ≡ true → list_any (bytes_eq x) said ≡ false → IsDistinct nat_eq (numbers_of names said) → IsDistinct nat_eq (somes (o ∷ map (number_of names) said))
  unfolding IsDistinct
  distinct_by None x said e some h rest = absurd (cc some)
  distinct_by (Some n) x said e some h rest = (all_false (nat_eq n) (numbers_of names said) (absent_by (list_any (nat_eq n) (numbers_of names said)) x n said refl e h), rest)

  distinct_numbers : (said : List (List ℕ)) → is_distinct said ≡ true → has_numbers names said ≡ true → IsDistinct nat_eq (numbers_of names said)
  unfolding IsDistinct
  distinct_numbers [] d h = tt
  distinct_numbers (x ∷ said) d h =
      let both = and_parts (not (list_any (bytes_eq x) said)) (is_distinct said) d in
      let two = and_parts (is_some (number_of names x)) (has_numbers names said) h in
      distinct_by (number_of names x) x said refl two.0 (not_true (list_any (bytes_eq x) said) both.0) (distinct_numbers said both.1 two.1)

  below_by : (o : Option ℕ) (y : List ℕ) (q : ℕ) (said : List (List ℕ)) → number_of names y ≡ o → list_any (nat_eq q) (somes (o ∷ map (number_of names) said)) ≡ true → (list_any (nat_eq q) (numbers_of names said) ≡ true → q < length names) → q < length names
  below_by None y q said e h rest = rest h
  below_by (Some k) y q said e h rest = by (or_cases (nat_eq q k) (list_any (nat_eq q) (numbers_of names said)) h)
    where
      by : (nat_eq q k ≡ true) ⊎ (list_any (nat_eq q) (numbers_of names said) ≡ true) → q < length names
      by (inl g) =
          let s : q ≡ k = eqb-true q k g in
          let lt : k < length names = slice_get_within names k y (named names y k e) in
          omega (arith, s, lt)
      by (inr g) = rest g

  below : (said : List (List ℕ)) (q : ℕ) → list_any (nat_eq q) (numbers_of names said) ≡ true → q < length names
  below [] q h = absurd (cc h)
  below (y ∷ said) q h = below_by (number_of names y) y q said refl h (below said q)

  length_by : (o : Option ℕ) (xs : List (Option ℕ)) → is_some o ≡ true → length (somes (o ∷ xs)) ≡ suc (length (somes xs))
  length_by None xs some = absurd (cc some)
  length_by (Some n) xs some = refl

  length_numbers : (said : List (List ℕ)) → has_numbers names said ≡ true → length (numbers_of names said) ≡ length said
  length_numbers [] h = refl
  length_numbers (x ∷ said) h =
      let two = and_parts (is_some (number_of names x)) (has_numbers names said) h in
      length_by (number_of names x) (map (number_of names) said) two.0 ∙ ap suc (length_numbers said two.1)

  -- distinct names of a table are no more than its names
  pub few_names : (said : List (List ℕ)) → is_distinct said ≡ true → has_numbers names said ≡ true → length said ≤ length names
  few_names said d h = subst (λ n. n ≤ length names) (length_numbers said h) (length-le_from_distinct_below (numbers_of names said) (length names) (distinct_numbers said d h) (below said))

-- Tokens.

more_by : (b : Bool) (names : List (List ℕ)) (name : List ℕ) → length (if b then names else names ++ name ∷ []) ≤ suc (length names)
more_by true names name = omega arith
more_by false names name = let l : length (names ++ name ∷ []) ≡ length names + 1 = length-append names (name ∷ []) in omega (arith, l)

-- a token says a name at most, and a mark says none
one_more : (k : TokenKind) (bs : List ℕ) (names : List (List ℕ)) → length (with_said names (said k bs)) + counted_mark (kind_of k bs) ≤ suc (length names)
one_more token.Word bs names = let l = more_by (is_some (number_of names bs)) names bs in omega (arith, l)
one_more token.Local bs names = let l = more_by (is_some (number_of names (name_said bs))) names (name_said bs) in omega (arith, l)
one_more token.Global bs names = let l = more_by (is_some (number_of names (name_said bs))) names (name_said bs) in omega (arith, l)
one_more token.Number bs names = let l = more_by (is_some (number_of names bs)) names bs in omega (arith, l)
one_more token.Text bs names = omega arith
one_more token.Bytes bs names = let l = more_by (is_some (number_of names (bytes_said bs))) names (bytes_said bs) in omega (arith, l)
one_more token.Mark bs names = omega arith

all_more : (text : List ℕ) (all : List (List ℕ)) (ts : List Token) (toks : List Tok) (names : List (List ℕ)) → AllZip (IsTokOf text all) ts toks → length (fold (λ ns t. with_said ns (said_at text t)) names ts) + mark_count toks ≤ length names + length toks
all_more text all [] [] names h = omega arith
all_more text all [] (k ∷ toks) names h = absurd h
all_more text all (t ∷ ts) [] names h = absurd h
all_more text all (t ∷ ts) (k ∷ toks) names h =
    let rest : length (fold (λ ns u. with_said ns (said_at text u)) (with_said names (said_at text t)) ts) + mark_count toks ≤ length (with_said names (said_at text t)) + length toks = all_more text all ts toks (with_said names (said_at text t)) h.1 in
    let one : length (with_said names (said t.kind (bytes_of text t))) + counted_mark (kind_of t.kind (bytes_of text t)) ≤ suc (length names) = one_more t.kind (bytes_of text t) names in
    let mark : counted_mark k.kind ≡ counted_mark (kind_of t.kind (bytes_of text t)) = ap counted_mark h.0.kind in
    omega (arith, rest, one, mark)

-- the names of a text, and its marks, are no more than its tokens
pub names_are_few : (text : List ℕ) (ir : IrTokens) → ReadsAs text ir → length ir.names + mark_count ir.toks ≤ length ir.toks
names_are_few text ir reads =
    let all : length (names_of text ir.places) + mark_count ir.toks ≤ 0 + length ir.toks = all_more text ir.names ir.places ir.toks [] reads.toks in
    let same : length ir.names ≡ length (names_of text ir.places) = ap length reads.names in
    omega (arith, all, same)
