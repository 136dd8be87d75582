-- What is read of the next 1,024 tokens, of two texts whose tokens are the same up to one of them.
use Rattle.std.proofs.Common.{◌≡◌, ◌⊎◌, inl, inr, ℕ, zero, suc, ◌+◌, ◌-◌, ◌≤◌, true, false, Option, Some, None, List, [], ◌∷◌, ◌++◌, length, take, Result, Ok, Err, refl, sym, ap, ◌∙◌, subst, arith, bytes_eq, codes, slice_get, All}
use Rattle.std.proofs.lemmas.List.{length-append, length-map, length-take, map-append, append_cancel_left}
use Rattle.std.proofs.lemmas.List.Elements.{All-head, All-tail}
use Rattle.std.proofs.lemmas.Slice.Eq.{bytes_eq-Decides}
use Rattle.std.proofs.lemmas.Option.{same_Some}
use Rattle.lx_words.specs.declared.token.TokenRule.{TokenRule}
use Rattle.lx_words.specs.declared.token.TokenKind.{TokenKind}
use Rattle.lx_words.specs.declared.token.TokenKind.TheVariants as tokens
use Rattle.lx_words.specs.declared.token.Lexeme.{Lexeme}
use Rattle.lx_words.specs.declared.token.Lexeme.TheVariants as lexemes
use Rattle.lx_words.specs.declared.token.Token.{Token}
use Rattle.lx_words.specs.declared.token.Stop.{Stop}
use Rattle.lx_words.specs.Lexemes.{lexeme_of}
use Rattle.lx_words.specs.Cuts.{bytes_of, IsTokenOf, Scans}
use Rattle.lx_words.proofs.Standing.{tokens_stand}
use Rattle.lx_annot_expressions.specs.Tokens.{Tok, tok_of, toks_of, most_tokens}
use Rattle.lx_annot_expressions.specs.declared.fault.Fault.{Fault}
use Rattle.lx_annot_expressions.specs.declared.fault.FaultKind.{FaultKind}
use Rattle.lx_annot_expressions.specs.declared.fault.FaultKind.TheVariants as parts
use Rattle.lx_annot_expressions.specs.Reading.{Read, at}
use Rattle.lx_annot_read.specs.declared.fault.Kind.TheVariants as kinds
use Rattle.lx_annot_read.specs.declared.fault.Kind.{Kind}
use Rattle.lx_annot_read.specs.declared.fault.Met.{Met}
use Rattle.lx_annot_read.specs.Faults.{kind_of, fault_of, answered, met_as, last_line, lexical, met_at_end, met_at}
use Rattle.lx_annot_read.specs.Said.{what_of}
use Rattle.lx_annot_read.specs.Texts.{window, rest_behind, place_of, fault_in, seen, limited}
use Rattle.lx_annot_laws.proofs.TextLaws.{room, further, limited_read, limited_ok, front_found, front_window}
use Rattle.lx_annot_laws.specs.RefusedLaws.{is_refused}
use Rattle.lx_annot_laws.specs.RefusedPartLaws.{is_refusal, is_bound}
use Rattle.lx_annot_laws.proofs.Local.{Looks, Tidy, Bound, Split, no_longer, same_split, Local}

-- The tokens of a text have the bytes of some words as words alone.

abbrev pub AllTidy : List ℕ → List Token → Type 0
AllTidy text [] = Unit {0}
AllTidy text (t ∷ ts) = Tidy (tok_of text t ∷ []) × AllTidy text ts

kind_same : (a b : TokenKind) (l : Lexeme) → l ≡ lexemes.Token a → l ≡ lexemes.Token b → b ≡ a
kind_same a b lexemes.Space p q = cc
kind_same a b lexemes.Comment p q = cc
kind_same a b (lexemes.Token k) p q = let x : k ≡ a = cc in let y : k ≡ b = cc in sym y ∙ x

-- a rule by which these bytes are a word
abbrev pub IsWordIn : TokenRule → List ℕ → Type 0
IsWordIn rule word = lexeme_of rule word ≡ Some (lexemes.Token tokens.Word)

-- a rule by which the words are words whose meaning hangs on what stands behind them
abbrev pub HasWords : TokenRule → Type 0
HasWords rule = IsWordIn rule (codes "load64") × IsWordIn rule (codes "const")

word_stands : (rule : TokenRule) (word : List ℕ) → IsWordIn rule word → (text : List ℕ) (t : Token) → IsTokenOf rule text t → bytes_eq (bytes_of text t) word ≡ true → t.kind ≡ tokens.Word
word_stands rule word words text t stands there =
    let same : bytes_of text t ≡ word = (bytes_eq-Decides (bytes_of text t) word).0 there in
    let is : Some (lexemes.Token t.kind) ≡ Some (lexemes.Token tokens.Word) = sym stands.is ∙ ap (lexeme_of rule) same ∙ words in
    kind_same tokens.Word t.kind (lexemes.Token t.kind) (same_Some (lexemes.Token t.kind) (lexemes.Token tokens.Word) is) refl

one_tidy : (rule : TokenRule) → HasWords rule → (text : List ℕ) (t : Token) → IsTokenOf rule text t → Tidy (tok_of text t ∷ [])
one_tidy rule words text t stands = (word_stands rule (codes "load64") words.0 text t stands, word_stands rule (codes "const") words.1 text t stands)

all_tidy : (rule : TokenRule) → HasWords rule → (text : List ℕ) (ts : List Token) → All (IsTokenOf rule text) ts → AllTidy text ts
all_tidy rule words text [] h = tt
all_tidy rule words text (t ∷ ts) h = (one_tidy rule words text t (All-head (IsTokenOf rule text) t ts h), all_tidy rule words text ts (All-tail (IsTokenOf rule text) t ts h))

pub scanned_tidy : (rule : TokenRule) → HasWords rule → (text : List ℕ) (ts : List Token) (stop : Option Stop) → Scans rule text ts stop → AllTidy text ts
scanned_tidy rule words text ts None (at, line, reaches) = all_tidy rule words text ts (tokens_stand rule text ts at line [] reaches)
scanned_tidy rule words text ts (Some s) (at, more, reaches, nothing) = all_tidy rule words text ts (tokens_stand rule text ts at s.line (s.byte ∷ more) reaches)

pub tidy_there : (text : List ℕ) (before : List Token) (t : Token) (more : List Token) → AllTidy text (before ++ t ∷ more) → Tidy (tok_of text t ∷ [])
tidy_there text [] t more h = h.0
tidy_there text (u ∷ before) t more h = tidy_there text before t more h.1

pub tidy_behind : (text : List ℕ) (front rest : List Token) → AllTidy text (front ++ rest) → AllTidy text rest
tidy_behind text [] rest h = h
tidy_behind text (u ∷ front) rest h = tidy_behind text front rest h.1

-- A token with those before it and behind it.

parted : {A : Type 0} (xs : List A) (k : ℕ) (x : A) → slice_get xs k ≡ Some x → (before : List A) × (more : List A) × (xs ≡ before ++ x ∷ more) × (length before ≡ k)
parted [] k x e = cc
parted (y ∷ ys) zero x e = ([], ys, ap (λ z. z ∷ ys) (same_Some y x e), refl)
parted (y ∷ ys) (suc k) x e = let p = parted ys k x e in (y ∷ p.0, p.1, ap (λ r. y ∷ r) p.2, ap suc p.3)

at_length : {A : Type 0} (xs : List A) (y : A) (ys : List A) → slice_get (xs ++ y ∷ ys) (length xs) ≡ Some y
at_length [] y ys = refl
at_length (x ∷ xs) y ys = at_length xs y ys

module _ (text : List ℕ) (stop : Option Stop) where
  seen_front : (front back : List Token) → length front ≤ most_tokens → seen text (front ++ back) ≡ toks_of text front ++ further text stop front back
  seen_front front back le = ap (toks_of text) (front_window most_tokens front back le) ∙ map-append (tok_of text) front (take (room text stop front) back)

  -- as many stand before
  front_count : (front back : List Token) → length front ≤ most_tokens → length (window (front ++ back)) - length (further text stop front back) ≡ length front
  front_count front back le =
      let a : length (window (front ++ back)) ≡ length (front ++ take (room text stop front) back) = ap length (front_window most_tokens front back le) in
      let b : length (front ++ take (room text stop front) back) ≡ length front + length (take (room text stop front) back) = length-append front (take (room text stop front) back) in
      let c : length (further text stop front back) ≡ length (take (room text stop front) back) = length-map (take (room text stop front) back) (tok_of text) in
      omega (arith, a, b, c)

  -- what is seen is a front and what is further
  pub further_count : (front back : List Token) → length front ≤ most_tokens → length (seen text (front ++ back)) ≡ length front + length (further text stop front back)
  further_count front back le =
      let a : length (toks_of text front) ≡ length front = length-map front (tok_of text) in
      ap length (seen_front front back le) ∙ length-append (toks_of text front) (further text stop front back) ∙ ap (λ n. n + length (further text stop front back)) a

-- The same tokens in two texts.

module _ (text other : List ℕ) where
  pub count_alike : (xs ys : List Token) → toks_of text xs ≡ toks_of other ys → length xs ≡ length ys
  count_alike xs ys e = sym (length-map xs (tok_of text)) ∙ ap length e ∙ length-map ys (tok_of other)

  first_same : (t u : Tok) → t ∷ [] ≡ u ∷ [] → t ≡ u
  first_same t u e = cc

  last_alike : (xs ys : List Token) (t u : Token) → toks_of text (xs ++ t ∷ []) ≡ toks_of other (ys ++ u ∷ []) → (toks_of text xs ≡ toks_of other ys) × (tok_of text t ≡ tok_of other u)
  last_alike xs ys t u e =
      let s = same_split (toks_of text xs) (tok_of text t ∷ []) (toks_of other ys) (tok_of other u ∷ []) (sym (map-append (tok_of text) xs (t ∷ [])) ∙ e ∙ map-append (tok_of other) ys (u ∷ [])) refl in
      (s.0, first_same (tok_of text t) (tok_of other u) s.1)

  taken_look : (r : ℕ) (xs ys : List Token) → Looks (toks_of text xs) (toks_of other ys) → Looks (toks_of text (take r xs)) (toks_of other (take r ys))
  taken_look zero xs ys l = refl
  taken_look (suc r) [] [] l = refl
  taken_look (suc r) [] (y ∷ ys) l = cc
  taken_look (suc r) (x ∷ xs) [] l = cc
  taken_look (suc r) (x ∷ xs) (y ∷ ys) l = l

  further_look : (stop stop' : Option Stop) (front front' rest rest' : List Token) → toks_of text front ≡ toks_of other front' → Looks (toks_of text rest) (toks_of other rest') → Looks (further text stop front rest) (further other stop' front' rest')
  further_look stop stop' front front' rest rest' e l =
      subst (λ k. Looks (further text stop front rest) (toks_of other (take (most_tokens - k) rest'))) (count_alike front front' e) (taken_look (room text stop front) rest rest' l)

taken_bound : (kind : FaultKind) (text : List ℕ) (r : ℕ) (t : Token) (more : List Token) → Bound kind (tok_of text t ∷ []) → Bound kind (toks_of text (take r (t ∷ more)))
taken_bound kind text zero t more h = tt
taken_bound kind text (suc r) t more h = h

-- A fault that is spoken of: at a token, or at the end of the text.

-- what is met where a token cannot stand
abbrev pub refused_at : Kind → List ℕ → Token → Met
refused_at kind text t = met_as kind t.line (bytes_of text t)

-- a fault that is spoken of
abbrev pub IsSpoken : Met → Type 0
IsSpoken met = is_refused (answered met) ≡ true

-- what is met where the tokens end
abbrev pub IsEnded : Option Stop → List Token → Met → Type 0
IsEnded stop tokens met = (stop ≡ None) × (met ≡ met_as kinds.Statement (last_line tokens) (codes "end"))

-- Reading the next tokens fails at one of them.
pub record FailsAt {A : Type 0} (text : List ℕ) (stop : Option Stop) (tokens : List Token) (read : List Tok → Read A) (met : Met) : Type 0 where
  pub before : List Token
  pub token : Token
  pub more : List Token
  pub whole : tokens ≡ before ++ token ∷ more
  pub is : met ≡ refused_at met.kind text token
  pub short : length before ≤ most_tokens
  pub fault : Fault
  pub kind : is_refusal fault.kind ≡ true
  pub named : kind_of fault.kind ≡ met.kind
  pub bound : is_bound fault.kind (bytes_of text token) ≡ true
  pub failed : read (toks_of text before ++ further text stop before (token ∷ more)) ≡ Err fault
  pub left : fault.left ≡ length (further text stop before (token ∷ more))

-- the token of such a fault is named by its bytes
word_is : (k : FaultKind) → is_refusal k ≡ true → (t : TokenKind) (bytes : List ℕ) → what_of k t bytes ≡ bytes
word_is parts.Statement a t bytes = refl
word_is parts.Unknown a t bytes = refl
word_is parts.Twice a t bytes = cc
word_is parts.NeedsSize a t bytes = cc

spoken_is : (k : FaultKind) (line : ℕ) (t : TokenKind) (bytes : List ℕ) → is_refused (fault_of (kind_of k) line (what_of k t bytes)) ≡ true → (is_refusal k ≡ true) × (is_bound k bytes ≡ true)
spoken_is parts.Statement line t bytes h = (refl, refl)
spoken_is parts.Unknown line t bytes h = (refl, h)
spoken_is parts.Twice line t bytes h = cc
spoken_is parts.NeedsSize line t bytes h = cc

abbrev SameAnswer : {A : Type 0} → Result A Met → Result A Met → Type 0
SameAnswer a b = a ≡ b

pub ok_met : {A : Type 0} (x : A) (met : Met) → SameAnswer {A = A} (Ok x) (Err met) → ⊥
ok_met x met e = cc

err_by : {A : Type 0} (a b : Met) (r : Result A Met) → r ≡ Err a → r ≡ Err b → a ≡ b
err_by a b (Ok x) p q = cc
err_by a b (Err d) p q = let x : d ≡ a = cc in let y : d ≡ b = cc in sym x ∙ y

pub same_met : {A : Type 0} (a b : Met) → SameAnswer {A = A} (Err a) (Err b) → a ≡ b
same_met {A} a b e = err_by {A = A} a b (Err a) refl e

pub lexical_other : (s : Stop) (met : Met) → lexical s ≡ met → IsSpoken met → ⊥
lexical_other s met e k = let both : false ≡ true = ap (λ (m : Met). is_refused (answered m)) e ∙ k in cc

pub ended_by : (stop : Option Stop) (tokens : List Token) (met : Met) → IsSpoken met → met_at_end tokens stop ≡ met → IsEnded stop tokens met
ended_by None tokens met k e = (refl, sym e)
ended_by (Some s) tokens met k e = absurd (lexical_other s met e k)

module _ {A : Type 0} (text : List ℕ) (stop : Option Stop) (tokens : List Token) (read : List Tok → Read A) (stops : (ts : List Tok) (f : Fault) → is_refusal f.kind ≡ true → read ts ≡ Err f → Split ts f.left) (met : Met) (spoken : IsSpoken met) where
  at_token : (f : Fault) (t : Token) → read (seen text tokens) ≡ Err f → place_of tokens f.left ≡ Some t → met_at text stop tokens f.kind (Some t) ≡ met → FailsAt text stop tokens read met
  at_token f t e place is =
      let k = spoken_is f.kind t.line t.kind (bytes_of text t) (ap (λ (m : Met). is_refused (answered m)) is ∙ spoken) in
      let named : kind_of f.kind ≡ met.kind = ap (λ (m : Met). m.kind) is in
      let p = parted tokens (length (window tokens) - f.left) t place in
      let s = stops (seen text tokens) f k.0 e in
      let less : length s.1 ≤ length (seen text tokens) = no_longer s.0 (seen text tokens) s.1 s.2 in
      let size : length (seen text tokens) ≡ length (window tokens) = length-map (window tokens) (tok_of text) in
      let most : length (window tokens) ≤ most_tokens = (let m = length-take most_tokens tokens in omega (arith, m)) in
      let short : length p.0 ≤ most_tokens = (let c = p.3 in omega (arith, c, most)) in
      let count = front_count text stop p.0 (t ∷ p.1) short in
      let all : length (window tokens) ≡ length (window (p.0 ++ t ∷ p.1)) = ap (λ r. length (window r)) p.2 in
      let fits : length (further text stop p.0 (t ∷ p.1)) ≤ length (window (p.0 ++ t ∷ p.1)) = (
      let a : length (window (p.0 ++ t ∷ p.1)) ≡ length (seen text (p.0 ++ t ∷ p.1)) = sym (length-map (window (p.0 ++ t ∷ p.1)) (tok_of text)) in
      let b : length (seen text (p.0 ++ t ∷ p.1)) ≡ length (toks_of text p.0) + length (further text stop p.0 (t ∷ p.1)) = ap length (seen_front text stop p.0 (t ∷ p.1) short) ∙ length-append (toks_of text p.0) (further text stop p.0 (t ∷ p.1)) in
      omega (arith, a, b)
      ) in
      let left : f.left ≡ length (further text stop p.0 (t ∷ p.1)) = (let c = p.3 in let l = s.3 in omega (arith, c, l, less, size, count, all, fits)) in
      record {
        before = p.0;
        token = t;
        more = p.1;
        whole = p.2;
        is = sym is ∙ ap (λ w. met_as (kind_of f.kind) t.line w) (word_is f.kind k.0 t.kind (bytes_of text t)) ∙ ap (λ n. met_as n t.line (bytes_of text t)) named;
        short = short;
        fault = f;
        kind = k.0;
        named = named;
        bound = k.1;
        failed = ap read (sym (seen_front text stop p.0 (t ∷ p.1) short)) ∙ ap (λ r. read (seen text r)) (sym p.2) ∙ e;
        left = left;
      }

  by_place : (f : Fault) (o : Option Token) → read (seen text tokens) ≡ Err f → place_of tokens f.left ≡ o → met_at text stop tokens f.kind o ≡ met → FailsAt text stop tokens read met ⊎ IsEnded stop tokens met
  by_place f None e place is = inr (ended_by stop tokens met spoken is)
  by_place f (Some t) e place is = inl (at_token f t e place is)

  by_read : (r : Read A) → read (seen text tokens) ≡ r → limited text stop tokens r ≡ Err met → FailsAt text stop tokens read met ⊎ IsEnded stop tokens met
  by_read (Ok x) e is = absurd (ok_met (x.0, rest_behind tokens x.1) met is)
  by_read (Err f) e is = by_place f (place_of tokens f.left) e refl (same_met {A = A × List Token} (fault_in text stop tokens f) met is)

  pub fails_at : limited text stop tokens (read (seen text tokens)) ≡ Err met → FailsAt text stop tokens read met ⊎ IsEnded stop tokens met
  fails_at is = by_read (read (seen text tokens)) refl is

-- Of another text with the same tokens up to that one, reading fails there too.
pub fails_again : {A : Type 0} (R : A → A → Type 0) (text : List ℕ) (stop : Option Stop) (tokens : List Token) (read reads : List Tok → Read A) (met : Met) (f : FailsAt text stop tokens read met) → Local R read reads → Tidy (tok_of text f.token ∷ [])
    → (other : List ℕ) (stop' : Option Stop) (before : List Token) (token : Token) (more : List Token) → toks_of text (f.before ++ f.token ∷ []) ≡ toks_of other (before ++ token ∷ [])
    → limited other stop' (before ++ token ∷ more) (reads (seen other (before ++ token ∷ more))) ≡ Err (refused_at met.kind other token)
fails_again {A} R text stop tokens read reads met f local tidy other stop' before token more alike =
    let same = last_alike text other f.before before f.token token alike in
    let count : length f.before ≡ length before = count_alike text other f.before before same.0 in
    let short : length before ≤ most_tokens = (let s = f.short in omega (arith, s, count)) in
    let look = further_look text other stop stop' f.before before (f.token ∷ f.more) (token ∷ more) same.0 (ap Some same.1) in
    let stops = local.faults (toks_of text f.before) (further text stop f.before (f.token ∷ f.more)) (further other stop' before (token ∷ more)) f.fault (taken_bound f.fault.kind text (room text stop f.before) f.token f.more (tidy, f.bound)) f.kind f.failed f.left look in
    let there : reads (seen other (before ++ token ∷ more)) ≡ Err (at f.fault.kind (further other stop' before (token ∷ more))) = ap reads (seen_front other stop' before (token ∷ more) short ∙ ap (λ r. r ++ further other stop' before (token ∷ more)) (sym same.0)) ∙ stops in
    let place : place_of (before ++ token ∷ more) (length (further other stop' before (token ∷ more))) ≡ Some token = ap (slice_get (before ++ token ∷ more)) (front_count other stop' before (token ∷ more) short) ∙ at_length before token more in
    ap (limited other stop' (before ++ token ∷ more)) there ∙ ap (λ o. Err (met_at other stop' (before ++ token ∷ more) f.fault.kind o)) place
    ∙ ap (λ w. Err (met_as (kind_of f.fault.kind) token.line w)) (word_is f.fault.kind f.kind token.kind (bytes_of other token)) ∙ ap (λ n. Err (met_as n token.line (bytes_of other token))) f.named

-- A front of the tokens is read, and of another text with the same tokens up to the next one it is read too.
pub record Passes {A : Type 0} (R : A → A → Type 0) (text : List ℕ) (stop : Option Stop) (tokens : List Token) (read : List Tok → Read A) (x : A) (rest : List Token) : Type 0 where
  pub front : List Token
  pub short : length front ≤ most_tokens
  pub whole : tokens ≡ front ++ rest
  pub is : read (seen text tokens) ≡ Ok (x, further text stop front rest)
  pub again : (reads : List Tok → Read A) → Local R read reads → (other : List ℕ) (stop' : Option Stop) (front' rest' : List Token) → toks_of text front ≡ toks_of other front' → Looks (toks_of text rest) (toks_of other rest')
      → (y : A) × (limited other stop' (front' ++ rest') (reads (seen other (front' ++ rest'))) ≡ Ok (y, rest')) × R x y

passes_again : {A : Type 0} (R : A → A → Type 0) (text : List ℕ) (stop : Option Stop) (front rest : List Token) (read : List Tok → Read A) (x : A) → length front ≤ most_tokens → read (toks_of text front ++ further text stop front rest) ≡ Ok (x, further text stop front rest)
    → (reads : List Tok → Read A) → Local R read reads → (other : List ℕ) (stop' : Option Stop) (front' rest' : List Token) → toks_of text front ≡ toks_of other front' → Looks (toks_of text rest) (toks_of other rest')
    → (y : A) × (limited other stop' (front' ++ rest') (reads (seen other (front' ++ rest'))) ≡ Ok (y, rest')) × R x y
passes_again R text stop front rest read x short e reads local other stop' front' rest' same looks =
    let count : length front ≡ length front' = count_alike text other front front' same in
    let r = local.reads (toks_of text front) (further text stop front rest) (further other stop' front' rest') x e (further_look text other stop stop' front front' rest rest' same looks) in
    (r.0, limited_read other stop' reads r.0 front' rest' (omega (arith, short, count)) (ap (λ ts. reads (ts ++ further other stop' front' rest')) (sym same) ∙ r.1), r.2)

pub passes : {A : Type 0} (R : A → A → Type 0) (text : List ℕ) (stop : Option Stop) (tokens : List Token) (read : List Tok → Read A) → ((ts us : List Tok) (x : A) → read ts ≡ Ok (x, us) → (front : List Tok) × (ts ≡ front ++ us)) → (x : A) (rest : List Token) → limited text stop tokens (read (seen text tokens)) ≡ Ok (x, rest) → Passes R text stop tokens read x rest
passes R text stop tokens read ends x rest e =
    let o = limited_ok text stop tokens x rest (read (seen text tokens)) e in
    let w = ends (seen text tokens) o.0 x o.1 in
    let f = front_found text stop (λ ts. ts ≡ w.0) tokens o.0 w.0 refl w.1 in
    let whole : tokens ≡ f.front ++ rest = f.whole ∙ ap (λ r. f.front ++ r) o.2 in
    let there : seen text tokens ≡ toks_of text f.front ++ further text stop f.front rest = ap (seen text) whole ∙ seen_front text stop f.front rest f.short in
    let left : o.0 ≡ further text stop f.front rest = append_cancel_left w.0 o.0 (further text stop f.front rest) (sym w.1 ∙ there ∙ ap (λ ts. ts ++ further text stop f.front rest) f.is) in
    let is : read (seen text tokens) ≡ Ok (x, further text stop f.front rest) = o.1 ∙ ap (λ r. Ok (x, r)) left in
    record {
      front = f.front;
      short = f.short;
      whole = whole;
      is = is;
      again = passes_again R text stop f.front rest read x f.short (ap read (sym there) ∙ is);
    }
