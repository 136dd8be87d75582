-- An interface text in pieces, cut by the first byte of each.
use Rattle.std.proofs.Common.{◌≡◌, ℕ, zero, suc, Bool, true, false, ◌&&◌, List, [], ◌∷◌, ◌++◌, take, drop, Option, Some, None, is_some, map, refl, ◌∙◌}
use Rattle.std.specs.Prelude.{◌==◌, if◌then◌else◌, unwrap_or}
use Rattle.std.specs.List.{prefix_len}
use Rattle.std.proofs.lemmas.Bool.{and_parts}
use Rattle.lx_words.specs.declared.token.TokenKind.TheVariants as kinds
use Rattle.lx_words.specs.declared.token.TokenRule.TheVariants as rules
use Rattle.lx_words.specs.declared.token.Lexeme.{Lexeme}
use Rattle.lx_words.specs.declared.token.Lexeme.TheVariants as lexemes
use Rattle.lx_words.specs.Lexemes.{is_digit, is_name_byte, is_space, is_word_byte, is_word_start, lexeme_of}
use Rattle.lx_words.specs.Cuts.{Piece}
use Rattle.lx_annot_laws.specs.Says.{AreLaid, ends_before, text_of}

-- how many bytes go with the first one of a piece: those of a space, of the name of a struct, of a number, of a word, or of a mark that may end with `=`
abbrev length_at : ℕ → List ℕ → ℕ
length_at b bs =
    if is_space b then 0
    else if b == 37 then prefix_len is_name_byte bs
    else if is_digit b then prefix_len is_digit bs
    else if is_word_start b then prefix_len is_word_byte bs
    else prefix_len (λ c. c == 61) bs

-- so many pieces of a text, from the first on
abbrev pub chunks_of : ℕ → List ℕ → List (List ℕ)
chunks_of zero text = []
chunks_of (suc n) [] = []
chunks_of (suc n) (b ∷ bs) = (b ∷ take (length_at b bs) bs) ∷ chunks_of n (drop (length_at b bs) bs)

abbrev pub piece : List ℕ → Piece
piece bytes = record { lexeme = unwrap_or (lexeme_of rules.Interface bytes) lexemes.Space; bytes = bytes }

-- bytes are a lexeme, which the first byte of the next one ends
abbrev is_lexeme : List ℕ → Bool
is_lexeme bytes = is_some (lexeme_of rules.Interface bytes)

abbrev ends_at : Lexeme → List ℕ → List ℕ → Bool
ends_at l bytes [] = false
ends_at l bytes (b ∷ bs) = ends_before l bytes (b ∷ [])

abbrev pub are_laid : List (List ℕ) → Bool
are_laid [] = true
are_laid (c ∷ []) = is_lexeme c && ends_before (piece c).lexeme c []
are_laid (c ∷ d ∷ cs) = is_lexeme c && ends_at (piece c).lexeme c d && are_laid (d ∷ cs)

pub known : {A : Type 0} (o : Option A) (x : A) → is_some o ≡ true → o ≡ Some (unwrap_or o x)
known None x h = cc h
known (Some y) x h = refl

-- the first byte alone ends a lexeme
same_end : (l : Lexeme) (bytes : List ℕ) (b : ℕ) (bs cs : List ℕ) → ends_before l bytes (b ∷ bs) ≡ ends_before l bytes (b ∷ cs)
same_end lexemes.Space bytes b bs cs = refl
same_end lexemes.Comment bytes b bs cs = refl
same_end (lexemes.Token kinds.Word) bytes b bs cs = refl
same_end (lexemes.Token kinds.Local) bytes b bs cs = refl
same_end (lexemes.Token kinds.Global) bytes b bs cs = refl
same_end (lexemes.Token kinds.Number) bytes b bs cs = refl
same_end (lexemes.Token kinds.Text) bytes b bs cs = refl
same_end (lexemes.Token kinds.Bytes) bytes b bs cs = refl
same_end (lexemes.Token kinds.Mark) bytes b bs cs = refl

ends_more : (l : Lexeme) (bytes next more : List ℕ) → ends_at l bytes next ≡ true → ends_before l bytes ((next ++ more) ++ []) ≡ true
ends_more l bytes [] more h = cc h
ends_more l bytes (b ∷ bs) more h = same_end l bytes b ((bs ++ more) ++ []) [] ∙ h

pub laid : (cs : List (List ℕ)) → are_laid cs ≡ true → AreLaid (map piece cs) []
laid [] h = tt
laid (c ∷ []) h =
    let both = and_parts (is_lexeme c) (ends_before (piece c).lexeme c []) h in
    (known (lexeme_of rules.Interface c) lexemes.Space both.0, both.1, tt)
laid (c ∷ d ∷ cs) h =
    let front = and_parts (is_lexeme c && ends_at (piece c).lexeme c d) (are_laid (d ∷ cs)) h in
    let both = and_parts (is_lexeme c) (ends_at (piece c).lexeme c d) front.0 in
    (known (lexeme_of rules.Interface c) lexemes.Space both.0, ends_more (piece c).lexeme c d (text_of (map piece cs)) both.1, laid (d ∷ cs) front.1)
