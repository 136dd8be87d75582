-- The lines that are passed over, found from token to token.
use Rattle.std.proofs.Common.{◌≡◌, ◌∙◌, ℕ, ◌≤◌, ◌<◌, Bool, true, false, not, cond, List, [], ◌∷◌, ◌++◌, filter, refl, sym, ap, append_assoc, append-nil, length, All, arith}
use Rattle.std.specs.Prelude.{◌==◌, if◌then◌else◌}
use Rattle.std.proofs.lemmas.Bool.Decides.{nat_tests}
use Rattle.std.proofs.lemmas.List.Elements.{All-filter}
use Rattle.lx_words.specs.declared.token.Token.{Token}
use Rattle.lx_words.proofs.Tests.{below_other, same_test}
use Rattle.lx_ir_tokens.specs.Lines.{is_silent, from_line, kept_tokens, Ascends}

-- whether the line of the first of these tokens is passed over, where `silent` says so of the line of the token before
abbrev pub now_silent : List ℕ → Bool → ℕ → Token → List Token → Bool
now_silent text silent line t ts = if t.line == line then silent else is_silent text (t ∷ ts)

-- the token, unless its line is passed over
abbrev pub unless : Bool → Token → List Token
unless silent t = if silent then [] else t ∷ []

-- the tokens that are kept of these
abbrev pub kept_from : List ℕ → Bool → ℕ → List Token → List Token
kept_from text silent line [] = []
kept_from text silent line (t ∷ ts) =
    unless (now_silent text silent line t ts) t ++ kept_from text (now_silent text silent line t ts) t.line ts

-- no line falls behind this one
abbrev AtMost : ℕ → List Token → Type 0
AtMost line [] = Unit {0}
AtMost line (t ∷ ts) = (t.line ≤ line) × AtMost line ts

AtMost-more : (k line : ℕ) (ts : List Token) (u : Token) → k ≤ line → u.line ≤ line → AtMost k ts → AtMost line (ts ++ u ∷ [])
AtMost-more k line [] u le last h = (last, tt)
AtMost-more k line (t ∷ ts) u le last h = (omega (arith, h.0), AtMost-more k line ts u le last h.1)

-- the tokens of earlier lines are passed
from_later : (k line : ℕ) (before ts : List Token) → AtMost k before → k < line → from_line line (before ++ ts) ≡ from_line line ts
from_later k line [] ts h lt = refl
from_later k line (t ∷ before) ts h lt =
    ap (λ b. if b then t ∷ before ++ ts else from_line line (before ++ ts)) (below_other t.line line (omega (arith, h.0))) ∙ from_later k line before ts h.1 lt

-- no token stands before the first line
from_none : (line k : ℕ) (ts : List Token) → line < k → Ascends k ts → from_line line ts ≡ []
from_none line k [] lt h = refl
from_none line k (t ∷ ts) lt h =
    let after : (t.line == line) ≡ false = grind (arith, nat_tests, h.0) in
    ap (λ b. if b then t ∷ ts else from_line line ts) after ∙ from_none line t.line ts (omega (arith, h.0)) h.1

abbrev stays : List ℕ → List Token → Token → Bool
stays text all t = not (is_silent text (from_line t.line all))

joined : (a b : Bool) (t : Token) (xs ys : List Token) → a ≡ b → xs ≡ ys → unless a t ++ xs ≡ cond (not b) (t ∷ ys) ys
joined true b t xs ys e r = ap (λ c. cond (not c) (t ∷ xs) xs) e ∙ ap (λ zs. cond (not b) (t ∷ zs) zs) r
joined false b t xs ys e r = ap (λ c. cond (not c) (t ∷ xs) xs) e ∙ ap (λ zs. cond (not b) (t ∷ zs) zs) r

apart : (m n : ℕ) → n ≤ m → (m == n) ≡ false → n < m
apart m n le e = grind (arith, nat_tests)

met : (m n : ℕ) → (m == n) ≡ true → n ≡ m
met m n e = grind (arith, nat_tests)

module _ (text : List ℕ) (all before ts : List Token) (t : Token) (line : ℕ) (silent : Bool) (is : all ≡ before ++ (t ∷ ts)) (below : AtMost line before) (known : silent ≡ is_silent text (from_line line all)) (up : line ≤ t.line) where
  -- what is told of the line before and the token tells of its line
  now_known : now_silent text silent line t ts ≡ is_silent text (from_line t.line all)
  now_known = by (t.line == line) refl
    where
      by : (b : Bool) → (t.line == line) ≡ b → now_silent text silent line t ts ≡ is_silent text (from_line t.line all)
      by true e =
          ap (λ b. if b then silent else is_silent text (t ∷ ts)) e ∙ known ∙ ap (λ n. is_silent text (from_line n all)) (met t.line line e)
      by false e =
          let first : from_line t.line (t ∷ ts) ≡ t ∷ ts = ap (λ b. if b then t ∷ ts else from_line t.line ts) (same_test t.line t.line refl) in
          let there : from_line t.line all ≡ t ∷ ts = ap (from_line t.line) is ∙ from_later line t.line before (t ∷ ts) below (apart t.line line up e) ∙ first in
          ap (λ b. if b then silent else is_silent text (t ∷ ts)) e ∙ ap (is_silent text) (sym there)

module _ (text : List ℕ) (all : List Token) where
  kept_rest : (before : List Token) (line : ℕ) (silent : Bool) (ts : List Token) → all ≡ before ++ ts → AtMost line before → silent ≡ is_silent text (from_line line all) → Ascends line ts → kept_from text silent line ts ≡ filter (stays text all) ts
  kept_rest before line silent [] is below known up = refl
  kept_rest before line silent (t ∷ ts) is below known up =
      let now = now_known text all before ts t line silent is below known up.0 in
      let rest = kept_rest (before ++ t ∷ []) t.line (now_silent text silent line t ts) ts (is ∙ sym (append_assoc before (t ∷ []) ts)) (AtMost-more line t.line before t up.0 (omega arith) below) now up.1 in
      joined (now_silent text silent line t ts) (is_silent text (from_line t.line all)) t (kept_from text (now_silent text silent line t ts) t.line ts) (filter (stays text all) ts) now rest

-- Token by token the tokens are kept that are to be kept.
pub kept_all : (text : List ℕ) (tokens : List Token) → Ascends 1 tokens → kept_from text false 0 tokens ≡ kept_tokens text tokens
unfolding kept_tokens
kept_all text tokens up =
    let none : from_line 0 tokens ≡ [] = from_none 0 1 tokens (omega arith) up in
    let known : false ≡ is_silent text (from_line 0 tokens) = ap (is_silent text) (sym none) in
    kept_rest text tokens [] 0 false tokens refl tt known (sunk tokens up)
  where
    sunk : (ts : List Token) → Ascends 1 ts → Ascends 0 ts
    sunk [] h = tt
    sunk (t ∷ ts) h = (omega (arith, h.0), h.1)

-- one token more
pub advance : (text : List ℕ) (silent now : Bool) (line : ℕ) (t : Token) (rest behind done more whole : List Token) → rest ≡ t ∷ behind → now ≡ now_silent text silent line t behind → more ≡ done ++ unless now t → done ++ kept_from text silent line rest ≡ whole → more ++ kept_from text now t.line behind ≡ whole
advance text silent now line t rest behind done more whole is right added so_far =
    let e : kept_from text silent line rest ≡ unless now t ++ kept_from text now t.line behind =
    ap (kept_from text silent line) is ∙ ap (λ b. unless b t ++ kept_from text b t.line behind) (sym right)
    in
    ap (λ ts. ts ++ kept_from text now t.line behind) added ∙ append_assoc done (unless now t) (kept_from text now t.line behind) ∙ ap (λ ts. done ++ ts) (sym e) ∙ so_far

-- the end
pub finish : (text : List ℕ) (silent : Bool) (line : ℕ) (rest done whole : List Token) → length rest ≡ 0 → done ++ kept_from text silent line rest ≡ whole → done ≡ whole
finish text silent line [] done whole empty so_far = sym (append-nil done) ∙ so_far
finish text silent line (t ∷ ts) done whole empty so_far = absurd (omega arith)

-- What holds of all tokens holds of those that are kept.
pub all_kept : (P : Token → Type 0) (text : List ℕ) (tokens : List Token) → All P tokens → All P (kept_tokens text tokens)
unfolding kept_tokens
all_kept P text tokens all = All-filter (stays text tokens) P tokens all

-- No more are kept than there are.
pub fewer_kept : (text : List ℕ) (tokens : List Token) → length (kept_tokens text tokens) ≤ length tokens
unfolding kept_tokens
fewer_kept text tokens = shorter (stays text tokens) tokens
  where
    shorter : (p : Token → Bool) (ts : List Token) → length (filter p ts) ≤ length ts
    shorter p [] = omega arith
    shorter p (t ∷ ts) = by (p t) (shorter p ts)
      where
        by : (b : Bool) → length (filter p ts) ≤ length ts → length (cond b (t ∷ filter p ts) (filter p ts)) ≤ length (t ∷ ts)
        by true h = omega (arith, h)
        by false h = omega (arith, h)
