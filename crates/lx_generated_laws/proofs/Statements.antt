-- What the tokens of an interface text say, told from their kinds and bytes.
use Rattle.std.proofs.Common.{◌≡◌, ◌∙◌, ℕ, zero, suc, ◌-◌, List, [], ◌∷◌, length, take, drop, Option, Some, None, Result, Ok, Err, sym, ap}
use Rattle.std.proofs.lemmas.List.{take-map, drop-map}
use Rattle.lx_words.specs.declared.token.Token.{Token}
use Rattle.lx_annot.specs.declared.interface.Interface.{Interface}
use Rattle.lx_annot_expressions.specs.Tokens.{Tok, most_tokens, tok_of, toks_of}
use Rattle.lx_annot_expressions.specs.Reading.{Read}
use Rattle.lx_annot_read.specs.declared.head.Version.{Version}
use Rattle.lx_annot_read.specs.declared.fault.Met.{Met}
use Rattle.lx_annot_read.specs.Head.{head_at}
use Rattle.lx_annot_read.specs.Interfaces.{empty, statement_at}
use Rattle.lx_annot_read.specs.Texts.{window, limited, first_at, next_at, body_at, interface_at, ended, ◌and_then◌}

-- what follows a reading that leaves some tokens: how many of so many are read
abbrev goes_on : {A B : Type 0} → ℕ → (A → ℕ → Option B) → Read A → Option B
goes_on count next (Ok x) = next x.0 (count - length x.1)
goes_on count next (Err f) = None

-- the statements of tokens, which stand there and are these
abbrev pub body_by : Version → ℕ → Interface → List Token → List Tok → Option Interface
body_by v zero i tokens toks = Some i
body_by v (suc n) i [] toks = Some i
body_by v (suc n) i (t ∷ ts) toks = goes_on (length (window (t ∷ ts))) (λ j k. body_by v n j (drop k (t ∷ ts)) (drop k toks)) (statement_at v t.line i (take most_tokens toks))

abbrev behind_head : List Token → List Tok → Version → ℕ → Option Interface
behind_head tokens toks v k = body_by v (length (drop k tokens)) empty (drop k tokens) (drop k toks)

-- the interface of a whole text
abbrev pub interface_by : List Token → List Tok → Option Interface
interface_by tokens toks = goes_on (length (window tokens)) (behind_head tokens toks) (head_at (take most_tokens toks))

some_is : {A : Type 0} (x y : A) → Some x ≡ Some y → ◌≡◌ {A = Result A Met} (Ok x) (Ok y)
some_is x y e = cc

module _ (text : List ℕ) where
  seen_is : (tokens : List Token) (toks : List Tok) → toks_of text tokens ≡ toks → toks_of text (window tokens) ≡ take most_tokens toks
  seen_is tokens toks e = sym (take-map (tok_of text) most_tokens tokens) ∙ ap (take most_tokens) e

  dropped : (k : ℕ) (tokens : List Token) (toks : List Tok) → toks_of text tokens ≡ toks → toks_of text (drop k tokens) ≡ drop k toks
  dropped k tokens toks e = sym (drop-map (tok_of text) k tokens) ∙ ap (drop k) e

  body_said : (v : Version) (n : ℕ) (i : Interface) (tokens : List Token) (toks : List Tok) (j : Interface) → toks_of text tokens ≡ toks → body_by v n i tokens toks ≡ Some j → body_at text None v n i tokens ≡ Ok j
  unfolding body_at next_at
  body_said v zero i tokens toks j e h = some_is i j h
  body_said v (suc n) i [] toks j e h = some_is i j h
  body_said v (suc n) i (t ∷ ts) toks j e h =
      ap (λ ks. limited text None (t ∷ ts) (statement_at v t.line i ks) and_then λ x. body_at text None v n x.0 x.1) (seen_is (t ∷ ts) toks e)
      ∙ by (λ k i g. body_said v n i (drop k (t ∷ ts)) (drop k toks) j (dropped k (t ∷ ts) toks e) g) (statement_at v t.line i (take most_tokens toks)) h
    where
      by : ((k : ℕ) (i : Interface) → body_by v n i (drop k (t ∷ ts)) (drop k toks) ≡ Some j → body_at text None v n i (drop k (t ∷ ts)) ≡ Ok j) → (r : Read Interface)
          → goes_on (length (window (t ∷ ts))) (λ i k. body_by v n i (drop k (t ∷ ts)) (drop k toks)) r ≡ Some j → (limited text None (t ∷ ts) r and_then λ x. body_at text None v n x.0 x.1) ≡ Ok j
      by again (Ok x) g = again (length (window (t ∷ ts)) - length x.1) x.0 g
      by again (Err f) g = cc g

  -- what is told so is what the text says
  pub interface_said : (tokens : List Token) (toks : List Tok) (i : Interface) → toks_of text tokens ≡ toks → interface_by tokens toks ≡ Some i → interface_at text None tokens ≡ Ok i
  unfolding interface_at first_at
  interface_said tokens toks i e h =
      ap (λ ks. limited text None tokens (head_at ks) and_then λ x. body_at text None x.0 (length x.1) empty x.1 and_then λ j. ended None j) (seen_is tokens toks e)
      ∙ by (head_at (take most_tokens toks)) h
    where
      by : (r : Read Version) → goes_on (length (window tokens)) (behind_head tokens toks) r ≡ Some i → (limited text None tokens r and_then λ x. body_at text None x.0 (length x.1) empty x.1 and_then λ j. ended None j) ≡ Ok i
      by (Ok x) g =
          let k : ℕ = length (window tokens) - length x.1 in
          ap (λ r. r and_then λ j. ended None j) (body_said x.0 (length (drop k tokens)) empty (drop k tokens) (drop k toks) i (dropped k tokens toks e) g)
      by (Err f) g = cc g
