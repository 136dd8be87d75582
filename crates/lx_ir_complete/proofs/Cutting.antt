-- Each text is cut into the longest lexemes, up to where nothing begins.
use Rattle.std.proofs.Common.{◌≡◌, ◌⊎◌, inl, inr, ℕ, zero, suc, ◌+◌, ◌<◌, ◌≤◌, List, [], ◌∷◌, ◌++◌, length, take, drop, refl, sym, ap, ◌∙◌, subst, arith, Option, Some, None}
use Rattle.std.proofs.lemmas.List.{take-append-drop, length-take-le, length-append}
use Rattle.std.proofs.lemmas.Bool.{cases_order}
use Rattle.lx_words.specs.declared.token.TokenRule.{TokenRule}
use Rattle.lx_words.specs.declared.token.Lexeme.{Lexeme}
use Rattle.lx_words.specs.declared.token.Token.{Token}
use Rattle.lx_words.specs.declared.token.Stop.{Stop}
use Rattle.lx_words.specs.Lexemes.{lexeme_of}
use Rattle.lx_words.specs.Longest.{Begins, NothingBegins}
use Rattle.lx_words.specs.Cuts.{Piece, Cuts, tokens_of, place_after, line_after, Reaches, Scans}

-- The longest front that is something.

module _ (f : List ℕ → Option Lexeme) (text : List ℕ) where
  -- something begins, and no longer front is anything
  abbrev pub Begun : Type 0
  Begun = (l : Lexeme) × (n : ℕ) × Begins f text l n

  abbrev NoneFrom : ℕ → Type 0
  NoneFrom n = (m : ℕ) → n ≤ m → m ≤ length text → f (take m text) ≡ None

  -- one front more that is nothing
  none_more : (n : ℕ) → NoneFrom (suc n) → f (take n text) ≡ None → NoneFrom n
  none_more n longer e m at within = by (cases_order m n)
    where
      by : (m ≡ n) ⊎ ((m < n) ⊎ (n < m)) → f (take m text) ≡ None
      by (inl same) = ap (λ k. f (take k text)) same ∙ e
      by (inr (inl less)) = absurd (omega (arith, less, at))
      by (inr (inr more)) = longer m (omega (arith, more)) within

  by_front : (n : ℕ) → n ≤ length text → NoneFrom (suc n) → (o : Option Lexeme) → f (take n text) ≡ o → (NoneFrom n → NothingBegins f text ⊎ Begun) → NothingBegins f text ⊎ Begun
  by_front n within longer (Some l) e shorter = inr (l, n, record { within = within; is = e; longer = λ m more inside. longer m (omega (arith, more)) inside })
  by_front n within longer None e shorter = shorter (none_more n longer e)

  from : (n : ℕ) → n ≤ length text → NoneFrom (suc n) → NothingBegins f text ⊎ Begun
  from zero within longer = by_front zero within longer (f (take zero text)) refl (λ nothing. inl (record { none = λ m inside. nothing m (omega arith) inside }))
  from (suc n) within longer = by_front (suc n) within longer (f (take (suc n) text)) refl (λ nothing. from n (omega (arith, within)) nothing)

  pub longest : NothingBegins f text ⊎ Begun
  longest = from (length text) (omega arith) (λ m at within. absurd (omega (arith, at, within)))

-- Pieces.

-- the text is cut up to where nothing begins
abbrev pub IsCut : TokenRule → List ℕ → Type 0
IsCut rule text = (ps : List Piece) × (rest : List ℕ) × Cuts rule text ps rest × NothingBegins (lexeme_of rule) rest

-- a lexeme has a byte
some_byte : (rule : TokenRule) (text : List ℕ) (l : Lexeme) (n : ℕ) → lexeme_of rule (take n text) ≡ Some l → 0 < n
some_byte rule text l zero e = cc
some_byte rule text l (suc n) e = omega arith

empty_is_nothing : (rule : TokenRule) (m : ℕ) → m ≤ 0 → lexeme_of rule (take m []) ≡ None
empty_is_nothing rule zero le = refl
empty_is_nothing rule (suc m) le = absurd (omega (arith, le))

cut_by : (rule : TokenRule) (fuel : ℕ) (text : List ℕ) → length text ≤ suc fuel → ((rest : List ℕ) → length rest ≤ fuel → IsCut rule rest) → NothingBegins (lexeme_of rule) text ⊎ Begun (lexeme_of rule) text → IsCut rule text
cut_by rule fuel text le again (inl nothing) = ([], text, refl, nothing)
cut_by rule fuel text le again (inr (l, n, b)) =
    let piece : Piece = record { lexeme = l; bytes = take n text } in
    let whole : text ≡ take n text ++ drop n text = sym (take-append-drop n text) in
    let size : length (take n text) ≡ n = length-take-le n text b.within in
    let count : length text ≡ length (take n text) + length (drop n text) = ap length whole ∙ length-append (take n text) (drop n text) in
    let some : 0 < n = some_byte rule text l n b.is in
    let rest = again (drop n text) (omega (arith, count, size, some, le)) in
    (piece ∷ rest.0, rest.1, (drop n text, whole, subst (λ k. Begins (lexeme_of rule) text l k) (sym size) b, rest.2), rest.3)

cut : (rule : TokenRule) (fuel : ℕ) (text : List ℕ) → length text ≤ fuel → IsCut rule text
cut rule zero [] le = ([], [], refl, record { none = empty_is_nothing rule })
cut rule zero (b ∷ bs) le = absurd (omega (arith, le))
cut rule (suc fuel) text le = cut_by rule fuel text le (λ rest less. cut rule fuel rest less) (longest (lexeme_of rule) text)

-- Tokens.

abbrev pub IsScanned : TokenRule → List ℕ → Type 0
IsScanned rule text = (tokens : List Token) × (stop : Option Stop) × Scans rule text tokens stop

reached : (rule : TokenRule) (text : List ℕ) (ps : List Piece) (rest : List ℕ) → Cuts rule text ps rest → Reaches rule text (tokens_of 0 1 ps) (place_after 0 ps) (line_after 1 ps) rest
reached rule text ps rest cuts = record { pieces = ps; cut = cuts; are = refl; place = refl; row = refl }

scanned_by : (rule : TokenRule) (text : List ℕ) (ps : List Piece) (rest : List ℕ) → Cuts rule text ps rest → NothingBegins (lexeme_of rule) rest → IsScanned rule text
scanned_by rule text ps [] cuts none = (tokens_of 0 1 ps, None, (place_after 0 ps, line_after 1 ps, reached rule text ps [] cuts))
scanned_by rule text ps (b ∷ more) cuts none =
    (tokens_of 0 1 ps, Some (record { line = line_after 1 ps; byte = b }), (place_after 0 ps, more, reached rule text ps (b ∷ more) cuts, none))

-- Each text falls into tokens, up to the first byte that begins none.
pub text_is_scanned : (rule : TokenRule) (text : List ℕ) → IsScanned rule text
text_is_scanned rule text = let c = cut rule (length text) text (omega arith) in scanned_by rule text c.0 c.1 c.2 c.3
