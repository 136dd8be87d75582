-- Which thing of a module a statement defines, as its tokens tell.
use Rattle.std.proofs.Common.{◌≡◌, inl, inr, ℕ, zero, suc, Bool, true, false, Option, Some, None, List, [], ◌∷◌, ◌++◌, refl, sym, ap, ◌∙◌, subst, true≢false, append_assoc}
use Rattle.std.specs.Prelude.{if◌then◌else◌}
use Rattle.std.specs.List.{AllByRecursion}
use Rattle.lx_words.specs.declared.token.Token.{Token}
use Rattle.lx_ir.specs.declared.types.Scalar.{Scalar}
use Rattle.lx_ir_tokens.specs.declared.token.Tok.{Tok}
use Rattle.lx_ir_tokens.specs.declared.token.Kind.{Kind}
use Rattle.lx_ir_tokens.specs.declared.token.Kind.TheVariants as kinds
use Rattle.lx_ir_tokens.specs.declared.token.Mark.TheVariants.{OpenParenthesis, CloseParenthesis}
use Rattle.lx_ir_tokens.specs.declared.keyword.StatementWord.TheVariants as words
use Rattle.lx_ir_tokens.specs.declared.keyword.Keyword.TheVariants as keywords
use Rattle.lx_ir_terms.specs.Context.{Context}
use Rattle.lx_ir_terms.specs.Reading.{is_mark}
use Rattle.lx_ir_terms.specs.Words.{is_nothing_word}
use Rattle.lx_ir_terms.specs.Types.{result_in, count_in}
use Rattle.lx_ir_terms.specs.Grammar.{Part, Picks, Is, IsMark, ◌then◌}
use Rattle.lx_ir_calls.specs.declared.intrinsics.TextForm.{TextForm}
use Rattle.lx_ir_operands.specs.Grammar.{Times, Repeated, IsCount, is_kind, IsPassed}
use Rattle.lx_ir_statements.specs.Parameters.{local_name}
use Rattle.lx_ir_statements.specs.Words.{is_linkage_word}
use Rattle.lx_ir_statements.specs.HeadGrammar.{IsResultWord, IsResult}
use Rattle.lx_ir_statements.specs.declared.form.Statement.{Statement}
use Rattle.lx_ir_statements.specs.declared.form.Statement.TheVariants as statements
use Rattle.lx_ir_statements.specs.declared.defined.Defined.{Defined}
use Rattle.lx_ir_statements.specs.Grammar.{is_declare_word, is_define_word, IsSymbol, IsStatement}
use Rattle.lx_ir_statements.proofs.StatementLaws.{declare_is, define_is}
use Rattle.lx_ir_lawful.proofs.SymbolsOnce.{symbol_is}

-- a global, an import or a function of this name, or nothing behind `@`
pub data Thing : Type 0 where
  Other : Thing
  Global : ℕ → Thing
  Import : ℕ → Thing
  Function : ℕ → Thing

abbrev pub thing_of : Statement → Thing
thing_of (statements.Type name ty) = Other
thing_of (statements.Global name constant ty init) = Global name
thing_of (statements.Import name ret params) = Import name
thing_of (statements.Function name ret params blocks) = Function name

-- The same by the tokens of the statement.

abbrev pub is_global : Kind → Bool
is_global kinds.Global = true
is_global k = false

-- the first name behind `@`
abbrev pub first_global : List Tok → Option ℕ
first_global [] = None
first_global (t ∷ ts) = if is_global t.kind then Some t.name else first_global ts

abbrev pub thing_by : Kind → Option ℕ → Thing
thing_by kinds.Global (Some n) = Global n
thing_by (kinds.Word (keywords.Statement words.Declare)) (Some n) = Import n
thing_by (kinds.Word (keywords.Statement words.Define)) (Some n) = Function n
thing_by k o = Other

abbrev pub thing_at : List Tok → Thing
thing_at [] = Other
thing_at (t ∷ ts) = thing_by t.kind (first_global (t ∷ ts))

-- Tokens among which no name stands behind `@`.

abbrev Free : Part → Type 0
Free p = (ts : List Tok) → p ts → AllByRecursion (λ t. is_global t.kind ≡ false) ts

joined_free : (xs ys : List Tok) → AllByRecursion (λ t. is_global t.kind ≡ false) xs → AllByRecursion (λ t. is_global t.kind ≡ false) ys → AllByRecursion (λ t. is_global t.kind ≡ false) (xs ++ ys)
joined_free [] ys h g = g
joined_free (x ∷ xs) ys h g = (h.0, joined_free xs ys h.1 g)

pub global_is : (k : Kind) → is_global k ≡ true → k ≡ kinds.Global
global_is kinds.Global e = refl
global_is k e = absurd (cc e)

fails_by : (b : Bool) (p : Kind → Bool) (k : Kind) → is_global k ≡ b → p kinds.Global ≡ false → p k ≡ true → b ≡ false
fails_by false p k e h g = refl
fails_by true p k e h g = absurd (true≢false (sym g ∙ ap p (global_is k e) ∙ h))

is_free : (p : Kind → Bool) → p kinds.Global ≡ false → Free (Is p)
is_free p h ts (t, e, w) = subst (AllByRecursion (λ t. is_global t.kind ≡ false)) (sym w) (fails_by (is_global t.kind) p t.kind refl h e, tt)

some_none : {A : Type 0} (x : A) → Some x ≡ None → ⊥
some_none x e = cc

picks_by : {A : Type 0} (b : Bool) (f : Kind → Option A) (k : Kind) (x : A) → is_global k ≡ b → f kinds.Global ≡ None → f k ≡ Some x → b ≡ false
picks_by false f k x e h g = refl
picks_by true f k x e h g = absurd (some_none x (sym g ∙ ap f (global_is k e) ∙ h))

picks_free : {A : Type 0} (f : Kind → Option A) (x : A) → f kinds.Global ≡ None → Free (Picks (λ t. f t.kind) x)
picks_free f x h ts (t, e, w) = subst (AllByRecursion (λ t. is_global t.kind ≡ false)) (sym w) (picks_by (is_global t.kind) f t.kind x refl h e, tt)

then_free : (p q : Part) → Free p → Free q → Free (p then q)
then_free p q h g ts (f, b, x, y, w) = subst (AllByRecursion (λ t. is_global t.kind ≡ false)) (sym w) (joined_free f b (h f x) (g b y))

times_free : (p : Part) → Free p → (n : ℕ) → Free (Times p n)
times_free p h zero ts e = subst (AllByRecursion (λ t. is_global t.kind ≡ false)) (sym e) tt
times_free p h (suc n) ts e = then_free p (Times p n) h (times_free p h n) ts e

count_free : Free IsCount
count_free ts (n, h) = picks_free count_in n refl ts h

passed_free : Free IsPassed
passed_free ts (inl h) = is_free (is_kind keywords.Parameter) refl ts h
passed_free ts (inr (inl h)) = then_free (Is (is_kind keywords.Align)) IsCount (is_free (is_kind keywords.Align) refl) count_free ts h
passed_free ts (inr (inr (inl h))) =
    then_free (Is (is_kind keywords.Dereferenceable)) (IsMark OpenParenthesis then IsCount then IsMark CloseParenthesis) (is_free (is_kind keywords.Dereferenceable) refl)
    (then_free (IsMark OpenParenthesis) (IsCount then IsMark CloseParenthesis) (is_free (is_mark OpenParenthesis) refl) (then_free IsCount (IsMark CloseParenthesis) count_free (is_free (is_mark CloseParenthesis) refl))) ts h
passed_free ts (inr (inr (inr h))) =
    then_free (Is (is_kind keywords.Captures)) (IsMark OpenParenthesis then Is is_nothing_word then IsMark CloseParenthesis) (is_free (is_kind keywords.Captures) refl)
    (then_free (IsMark OpenParenthesis) (Is is_nothing_word then IsMark CloseParenthesis) (is_free (is_mark OpenParenthesis) refl) (then_free (Is is_nothing_word) (IsMark CloseParenthesis) (is_free is_nothing_word refl) (is_free (is_mark CloseParenthesis) refl))) ts h

word_free : Free IsResultWord
word_free ts (inl h) = is_free is_linkage_word refl ts h
word_free ts (inr h) = passed_free ts h

result_free : (ret : Option Scalar) → Free (IsResult ret)
result_free ret = then_free (Repeated IsResultWord) (Picks (λ t. result_in t.kind) ret) (λ ts h. times_free IsResultWord word_free h.0 ts h.1) (picks_free result_in ret refl)

-- The first name behind `@`.

behind_free : (f b : List Tok) → AllByRecursion (λ t. is_global t.kind ≡ false) f → first_global (f ++ b) ≡ first_global b
behind_free [] b h = refl
behind_free (t ∷ f) b h = ap (λ v. if v then Some t.name else first_global (f ++ b)) h.0 ∙ behind_free f b h.1

-- a part without such names before another
goes_over : (f b ts back : List Tok) → AllByRecursion (λ t. is_global t.kind ≡ false) f → ts ≡ f ++ b → first_global (ts ++ back) ≡ first_global (b ++ back)
goes_over f b ts back free w = ap (λ v. first_global (v ++ back)) w ∙ ap first_global (append_assoc f b back) ∙ behind_free f (b ++ back) free

said : (name : ℕ) (f b ts back : List Tok) → IsSymbol name f → ts ≡ f ++ b → first_global (ts ++ back) ≡ Some name
said name f b ts back (t, e, g) w =
    let is = symbol_is t.kind t.name name e in
    let whole : ts ++ back ≡ t ∷ (b ++ back) = ap (λ v. v ++ back) (w ∙ ap (λ v. v ++ b) g) in
    ap first_global whole ∙ ap (λ k. if is_global k then Some t.name else first_global (b ++ back)) is.0 ∙ ap (λ n. Some n) is.1

-- The thing by the first token.

begins : (t : Tok) (f b ts back : List Tok) (k : Kind) (o : Option ℕ) → f ≡ t ∷ [] → ts ≡ f ++ b → t.kind ≡ k → first_global (ts ++ back) ≡ o → thing_at (ts ++ back) ≡ thing_by k o
begins t f b ts back k o e w same first =
    let whole : ts ++ back ≡ t ∷ (b ++ back) = ap (λ v. v ++ back) (w ∙ ap (λ v. v ++ b) e) in
    ap thing_at whole ∙ ap (λ v. thing_by v (first_global (t ∷ (b ++ back)))) same ∙ ap (thing_by k) (ap first_global (sym whole) ∙ first)

begins_before : (t : Tok) (f b ts rest whole back : List Tok) (k : Kind) (o : Option ℕ) → f ≡ t ∷ [] → ts ≡ f ++ b → whole ≡ ts ++ rest → t.kind ≡ k → first_global (whole ++ back) ≡ o → thing_at (whole ++ back) ≡ thing_by k o
begins_before t f b ts rest whole back k o e w g same first = begins t f (b ++ rest) whole back k o e (g ∙ ap (λ v. v ++ rest) w ∙ append_assoc f b rest) same first

local_is : (k : Kind) (n name : ℕ) → local_name k n ≡ Some name → k ≡ kinds.Local
local_is kinds.Local n name e = refl
local_is k n name e = absurd (cc e)

-- The tokens of a statement tell which thing it defines, by whatever context they are read.
pub told_by_tokens : (c : Context) (form : TextForm) (places : List Token) (defined : Defined) (s : Statement) (ts us back : List Tok) → IsStatement c form places defined s ts us → thing_at (ts ++ back) ≡ thing_of s
told_by_tokens c form places defined (statements.Type name ty) ts us back (fresh, (f, b, (t, k, local, ty_name, e), rest, w)) =
    begins t f b ts back kinds.Local (first_global (ts ++ back)) e w (local_is t.kind t.name name local) refl
told_by_tokens c form places defined (statements.Global name constant ty init) ts us back (fresh, (f, b, (t, n, e), rest, w)) =
    begins t f b ts back kinds.Global (Some name) e w (symbol_is t.kind t.name name n).0 (said name f b ts back (t, n, e) w)
told_by_tokens c form places defined (statements.Import name ret params) ts us back (may, (f, b, (t, k, e), (f2, b2, result, (f3, b3, symbol, rest, w3), w2), w)) =
    begins t f b ts back (kinds.Word (keywords.Statement words.Declare)) (Some name) e w (declare_is t.kind k)
    (goes_over f b ts back (is_free is_declare_word refl f (t, k, e)) w ∙ goes_over f2 b2 b back (result_free ret f2 result) w2 ∙ said name f3 b3 b2 back symbol w3)
told_by_tokens c form places defined (statements.Function name ret params blocks) ts us back (fresh, plain, (head, before, behind, (f, b, (t, k, e), (f2, b2, result, (f3, b3, symbol, rest, w3), w2), w), body, same, whole)) =
    begins_before t f b before behind ts back (kinds.Word (keywords.Statement words.Define)) (Some name) e w whole (define_is t.kind k)
    (ap first_global (ap (λ v. v ++ back) whole ∙ append_assoc before behind back)
    ∙ goes_over f b before (behind ++ back) (is_free is_define_word refl f (t, k, e)) w ∙ goes_over f2 b2 b (behind ++ back) (result_free ret f2 result) w2 ∙ said name f3 b3 b2 (behind ++ back) symbol w3)

-- What holds of each name behind `@`.

module _ (P : ℕ → Type 0) where
  abbrev pub OfThing : Thing → Type 0
  OfThing Other = Unit {0}
  OfThing (Global n) = P n
  OfThing (Import n) = P n
  OfThing (Function n) = P n

  -- such a name is each behind `@`
  abbrev pub AllGlobals : List Tok → Type 0
  AllGlobals ts = AllByRecursion (λ t. is_global t.kind ≡ true → P t.name) ts

  some_same : (m n : ℕ) → Some m ≡ Some n → m ≡ n
  some_same m n e = cc e

  first_by : (b : Bool) (t : Tok) (ts : List Tok) (n : ℕ) → is_global t.kind ≡ b → (is_global t.kind ≡ true → P t.name) → (first_global ts ≡ Some n → P n) → (if b then Some t.name else first_global ts) ≡ Some n → P n
  first_by true t ts n e here more h = subst P (some_same t.name n h) (here e)
  first_by false t ts n e here more h = more h

  first_holds : (ts : List Tok) (n : ℕ) → AllGlobals ts → first_global ts ≡ Some n → P n
  first_holds [] n all e = absurd (cc e)
  first_holds (t ∷ ts) n all e = first_by (is_global t.kind) t ts n refl all.0 (first_holds ts n all.1) e

  thing_holds : (k : Kind) (o : Option ℕ) → ((n : ℕ) → o ≡ Some n → P n) → OfThing (thing_by k o)
  thing_holds kinds.Global (Some n) h = h n refl
  thing_holds (kinds.Word (keywords.Statement words.Declare)) (Some n) h = h n refl
  thing_holds (kinds.Word (keywords.Statement words.Define)) (Some n) h = h n refl
  thing_holds k o h = tt

  pub holds_at : (ts : List Tok) → AllGlobals ts → OfThing (thing_at ts)
  holds_at [] all = tt
  holds_at (t ∷ ts) all = thing_holds t.kind (first_global (t ∷ ts)) (λ n e. first_holds (t ∷ ts) n all e)
