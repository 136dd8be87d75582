-- A text is read in one way.
use Rattle.std.proofs.Common.{◌≡◌, ◌∙◌, ◌↔◌, ℕ, zero, suc, true, false, Option, Some, None, List, [], ◌∷◌, slice_get, All, refl, sym, ap, subst, arith}
use Rattle.std.specs.List.{AllZip}
use Rattle.std.proofs.lemmas.Option.{slice_get_within}
use Rattle.lx_words.specs.declared.token.TokenRule.TheVariants.{Ir}
use Rattle.lx_words.specs.declared.token.TokenKind.{TokenKind}
use Rattle.lx_words.specs.declared.token.TokenKind.TheVariants as token
use Rattle.lx_words.specs.declared.token.Token.{Token}
use Rattle.lx_words.specs.declared.token.Stop.{Stop}
use Rattle.lx_words.specs.Cuts.{bytes_of, Scans, OneWay}
use Rattle.lx_ir_tokens.specs.declared.token.Kind.{Kind}
use Rattle.lx_ir_tokens.specs.declared.token.Tok.{Tok}
use Rattle.lx_ir_tokens.specs.declared.read.IrTokens.{IrTokens}
use Rattle.lx_ir_tokens.specs.Lines.{kept_tokens, last_line}
use Rattle.lx_ir_tokens.specs.Said.{has_name, kind_of, said}
use Rattle.lx_ir_tokens.specs.Reading.{said_at, names_of, StandsFor, IsTokOf, ReadsAs, IsNumbered, Readings}
use Rattle.lx_ir_tokens.proofs.Distinct.{IsDistinct, distinct_names}

same_scan : (text : List ℕ) → OneWay Ir text → (ts us : List Token) (s t : Option Stop) → Scans Ir text ts s → Scans Ir text us t → (ts ≡ us) × (s ≡ t)
same_scan text way ts us None None h k = (way.whole ts us h k, refl)
same_scan text way ts us None (Some t) h k = absurd (way.apart ts us t h k)
same_scan text way ts us (Some s) None h k = absurd (way.apart us ts s k h)
same_scan text way ts us (Some s) (Some t) h k = let e = way.stop ts us s t h k in (e.0, ap Some e.1)

same_number : (names : List (List ℕ)) → IsDistinct names → (said : Option (List ℕ)) (m n : ℕ) → StandsFor names m said → StandsFor names n said → m ≡ n
same_number names distinct None m n h k = h ∙ sym k
same_number names distinct (Some name) m n h k = distinct m n name h k

abbrev tok_of : Kind → ℕ → Tok
tok_of kind name = record { kind = kind; name = name }

same_tok : (text : List ℕ) (names : List (List ℕ)) → IsDistinct names → (t : Token) (a b : Tok) → IsTokOf text names t a → IsTokOf text names t b → a ≡ b
same_tok text names distinct t a b h k =
    let kind = h.kind ∙ sym k.kind in
    let name = same_number names distinct (said_at text t) a.name b.name h.name k.name in
    λ i. tok_of (kind i) (name i)

same_toks : (text : List ℕ) (names : List (List ℕ)) → IsDistinct names → (ts : List Token) (xs ys : List Tok) → AllZip (IsTokOf text names) ts xs → AllZip (IsTokOf text names) ts ys → xs ≡ ys
same_toks text names distinct [] [] [] h k = refl
same_toks text names distinct [] [] (b ∷ ys) h k = absurd k
same_toks text names distinct [] (a ∷ xs) ys h k = absurd h
same_toks text names distinct (t ∷ ts) [] ys h k = absurd h
same_toks text names distinct (t ∷ ts) (a ∷ xs) [] h k = absurd k
same_toks text names distinct (t ∷ ts) (a ∷ xs) (b ∷ ys) h k =
    let first = same_tok text names distinct t a b h.0 k.0 in
    let rest = same_toks text names distinct ts xs ys h.1 k.1 in
    λ i. first i ∷ rest i

abbrev ir_of : List Tok → List Token → List (List ℕ) → Option Stop → ℕ → IrTokens
ir_of toks places names stop last = record { toks = toks; places = places; names = names; stop = stop; last_line = last }

one_reading : (text : List ℕ) → OneWay Ir text → (a b : IrTokens) → ReadsAs text a → ReadsAs text b → a ≡ b
one_reading text way a b h k =
    let scan = same_scan text way h.tokens k.tokens a.stop b.stop h.scans k.scans in
    let places : a.places ≡ b.places = h.places ∙ ap (kept_tokens text) scan.0 ∙ sym k.places in
    let names : a.names ≡ b.names = h.names ∙ ap (names_of text) places ∙ sym k.names in
    let last : a.last_line ≡ b.last_line = h.last_line ∙ ap last_line scan.0 ∙ sym k.last_line in
    let distinct : IsDistinct b.names = subst IsDistinct (sym k.names) (distinct_names text b.places) in
    let there : AllZip (IsTokOf text b.names) a.places a.toks = subst (λ (ns : List (List ℕ)). AllZip (IsTokOf text ns) a.places a.toks) names h.toks in
    let those : AllZip (IsTokOf text b.names) b.places a.toks = subst (λ (ts : List Token). AllZip (IsTokOf text b.names) ts a.toks) places there in
    let toks = same_toks text b.names distinct b.places a.toks b.toks those k.toks in
    λ i. ir_of (toks i) (places i) (names i) (scan.1 i) (last i)

same_name : (names : List (List ℕ)) (i j : ℕ) (m n : List ℕ) → slice_get names i ≡ Some m → slice_get names j ≡ Some n → i ≡ j → m ≡ n
same_name names i j m n h k e = cc

module _ (text : List ℕ) (way : OneWay Ir text) where
  told_apart : (ir : IrTokens) → ReadsAs text ir → (t u : Token) (a b : Tok) (m n : List ℕ) → IsTokOf text ir.names t a → IsTokOf text ir.names u b → said_at text t ≡ Some m → said_at text u ≡ Some n → (a.name ≡ b.name) ↔ (m ≡ n)
  told_apart ir reads t u a b m n h k says also =
      let at : slice_get ir.names a.name ≡ Some m = subst (StandsFor ir.names a.name) says h.name in
      let there : slice_get ir.names b.name ≡ Some n = subst (StandsFor ir.names b.name) also k.name in
      let distinct : IsDistinct ir.names = subst IsDistinct (sym reads.names) (distinct_names text ir.places) in
      (same_name ir.names a.name b.name m n at there, λ e. distinct a.name b.name n (at ∙ ap Some e) there)

  pub all_readings : Readings text
  all_readings = record { one = one_reading text way; told_apart = told_apart }

-- a token with a name has a number
numbered_one : (text : List ℕ) (names : List (List ℕ)) (kind : TokenKind) (bytes : List ℕ) (tok : Tok) → tok.kind ≡ kind_of kind bytes → StandsFor names tok.name (said kind bytes) → IsNumbered names tok
numbered_one text names token.Word bytes tok is at = λ _. slice_get_within names tok.name _ at
numbered_one text names token.Local bytes tok is at = λ _. slice_get_within names tok.name _ at
numbered_one text names token.Global bytes tok is at = λ _. slice_get_within names tok.name _ at
numbered_one text names token.Number bytes tok is at = λ _. slice_get_within names tok.name _ at
numbered_one text names token.Bytes bytes tok is at = λ _. slice_get_within names tok.name _ at
numbered_one text names token.Text bytes tok is at = λ has. absurd (no (sym (ap has_name is) ∙ has))
  where
    no : false ≡ true → ⊥
    no e = cc
numbered_one text names token.Mark bytes tok is at = λ has. absurd (no (sym (ap has_name is) ∙ has))
  where
    no : false ≡ true → ⊥
    no e = cc

-- Each token that has a name has a number of the table.
pub all_numbered : (text : List ℕ) (names : List (List ℕ)) (ts : List Token) (toks : List Tok) → AllZip (IsTokOf text names) ts toks → All (IsNumbered names) toks
all_numbered text names [] [] h k d lt = absurd (omega arith)
all_numbered text names [] (tok ∷ toks) h k d lt = absurd h
all_numbered text names (t ∷ ts) [] h k d lt = absurd h
all_numbered text names (t ∷ ts) (tok ∷ toks) h zero d lt = numbered_one text names t.kind (bytes_of text t) tok h.0.kind h.0.name
all_numbered text names (t ∷ ts) (tok ∷ toks) h (suc k) d lt = all_numbered text names ts toks h.1 k d (omega arith)
