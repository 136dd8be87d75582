-- The globals and functions of a module that is read are each defined once.
use Rattle.std.proofs.Common.{◌≡◌, ◌⊎◌, inl, inr, ℕ, ◌-◌, Bool, true, false, not, ◌||◌, Some, List, [], ◌∷◌, ◌++◌, length, map, bytes_eq, nat_eq, refl, sym, ap, ◌∙◌, subst, true≢false, append_assoc}
use Rattle.std.specs.Prelude.{if◌then◌else◌, unwrap_or}
use Rattle.std.specs.List.{list_all, list_any, AllByRecursion}
use Rattle.std.proofs.lemmas.Bool.{and_parts, or_parts, and_from, or_cases, or_right, or_from, not-true}
use Rattle.std.proofs.lemmas.List.{map-append, append-nil}
use Rattle.std.proofs.lemmas.Slice.Eq.{bytes_eq-Decides}
use Rattle.lx_words.specs.declared.token.Token.{Token}
use Rattle.lx_words.proofs.Lists.{eq_turned}
use Rattle.lx_words.proofs.Tests.{eq_self}
use Rattle.lx_ir.specs.declared.module.GlobalVar.{GlobalVar}
use Rattle.lx_ir.specs.declared.module.Function.{Function}
use Rattle.lx_ir.specs.declared.module.Module.{Module}
use Rattle.lx_ir.specs.Lawful.{is_name, is_distinct}
use Rattle.lx_ir_tokens.specs.declared.token.Tok.{Tok}
use Rattle.lx_ir_tokens.specs.declared.token.Kind.{Kind}
use Rattle.lx_ir_tokens.specs.declared.token.Kind.TheVariants as kinds
use Rattle.lx_ir_tokens.specs.Names.{number_of}
use Rattle.lx_ir_terms.specs.Context.{Context, bytes_of}
use Rattle.lx_ir_calls.specs.declared.intrinsics.TextForm.{TextForm}
use Rattle.lx_ir_statements.specs.Numbers.{has_number, with_number}
use Rattle.lx_ir_statements.specs.declared.form.Statement.{Statement}
use Rattle.lx_ir_statements.specs.declared.form.Statement.TheVariants as statements
use Rattle.lx_ir_statements.specs.Defined.{with_symbol, is_block_write}
use Rattle.lx_ir_statements.specs.Statements.{symbol_name}
use Rattle.lx_ir_statements.specs.Grammar.{IsSymbol, IsStatement}
use Rattle.lx_ir_tables.specs.Numbering.{Numbering, table_of}
use Rattle.lx_ir_read.specs.declared.first.Found.{Found}
use Rattle.lx_ir_read.specs.declared.draft.Draft.{Draft}
use Rattle.lx_ir_read.specs.Tables.{tokens_left}
use Rattle.lx_ir_read.specs.Again.{no_draft, registers_in, with_registers, with_defined, with_declared, import_of, local_names, kept}
use Rattle.lx_ir_read.specs.Fault.{line_shown}
use Rattle.lx_ir_read.specs.Reading.{tables_of, full_context}
use Rattle.lx_ir_read.specs.Grammar.{AddAll, IsModule}
use Rattle.lx_ir_lawful.specs.NamedThings.{AreOnce}
use Rattle.lx_ir_lawful.specs.TokenNames.{IsNamed, IsTokenNamed}
use Rattle.lx_ir_lawful.proofs.Placed.{number_at_place}
use Rattle.lx_ir_lawful.proofs.NamesOnce.{names_once}
use Rattle.lx_ir_lawful.proofs.TokenNames.{tokens_are_named}
use Rattle.lx_ir_lawful.specs.OnceLaws.{HasLawfulSymbols}
use Rattle.lx_ir_lawful.proofs.Once.{dropped}

-- One name among others.

none_with : (p : List ℕ → Bool) (xs ys : List (List ℕ)) (w : List ℕ) → list_any p (xs ++ ys) ≡ false → p w ≡ false → list_any p (xs ++ w ∷ ys) ≡ false
none_with p [] ys w h g = or_from (p w) (list_any p ys) g h
none_with p (x ∷ xs) ys w h g = let both = or_parts (p x) (list_any p (xs ++ ys)) h in or_from (p x) (list_any p (xs ++ w ∷ ys)) both.0 (none_with p xs ys w both.1 g)

some_with : (p : List ℕ → Bool) (xs ys : List (List ℕ)) (w : List ℕ) → list_any p (xs ++ w ∷ ys) ≡ true → (list_any p (xs ++ ys) ≡ true) ⊎ (p w ≡ true)
some_with p [] ys w h = by (or_cases (p w) (list_any p ys) h)
  where
    by : (p w ≡ true) ⊎ (list_any p ys ≡ true) → (list_any p ys ≡ true) ⊎ (p w ≡ true)
    by (inl e) = inr e
    by (inr e) = inl e
some_with p (x ∷ xs) ys w h = by (some_with p xs ys w) (or_cases (p x) (list_any p (xs ++ w ∷ ys)) h)
  where
    more : (list_any p (xs ++ ys) ≡ true) ⊎ (p w ≡ true) → ((p x || list_any p (xs ++ ys)) ≡ true) ⊎ (p w ≡ true)
    more (inl e) = inl (or_right (p x) (list_any p (xs ++ ys)) e)
    more (inr e) = inr e

    by : (list_any p (xs ++ w ∷ ys) ≡ true → (list_any p (xs ++ ys) ≡ true) ⊎ (p w ≡ true)) → (p x ≡ true) ⊎ (list_any p (xs ++ w ∷ ys) ≡ true) → ((p x || list_any p (xs ++ ys)) ≡ true) ⊎ (p w ≡ true)
    by again (inl e) = inl (ap (λ b. b || list_any p (xs ++ ys)) e)
    by again (inr e) = more (again e)

distinct_with : (xs ys : List (List ℕ)) (w : List ℕ) → is_distinct (xs ++ ys) ≡ true → list_any (bytes_eq w) (xs ++ ys) ≡ false → is_distinct (xs ++ w ∷ ys) ≡ true
distinct_with [] ys w d h = and_from (not (list_any (bytes_eq w) ys)) (is_distinct ys) (ap not h) d
distinct_with (x ∷ xs) ys w d h =
    let both = and_parts (not (list_any (bytes_eq x) (xs ++ ys))) (is_distinct (xs ++ ys)) d in
    let two = or_parts (bytes_eq w x) (list_any (bytes_eq w) (xs ++ ys)) h in
    let none = none_with (bytes_eq x) xs ys w (not-true (list_any (bytes_eq x) (xs ++ ys)) both.0) (eq_turned w x (bytes_eq x w) refl two.0) in
    and_from (not (list_any (bytes_eq x) (xs ++ w ∷ ys))) (is_distinct (xs ++ w ∷ ys)) (ap not none) (distinct_with xs ys w both.1 two.1)

all_with : (p : List ℕ → Bool) (xs ys : List (List ℕ)) (w : List ℕ) → list_all p (xs ++ ys) ≡ true → p w ≡ true → list_all p (xs ++ w ∷ ys) ≡ true
all_with p [] ys w h g = and_from (p w) (list_all p ys) g h
all_with p (x ∷ xs) ys w h g = let both = and_parts (p x) (list_all p (xs ++ ys)) h in and_from (p x) (list_all p (xs ++ w ∷ ys)) both.0 (all_with p xs ys w both.1 g)

-- Numbers.

old_number : (ns : List ℕ) (n k : ℕ) → has_number ns k ≡ true → has_number (ns ++ n ∷ []) k ≡ true
old_number [] n k h = absurd (cc h)
old_number (m ∷ ns) n k h = by (old_number ns n k) (or_cases (nat_eq k m) (has_number ns k) h)
  where
    by : (has_number ns k ≡ true → has_number (ns ++ n ∷ []) k ≡ true) → (nat_eq k m ≡ true) ⊎ (has_number ns k ≡ true) → (nat_eq k m || has_number (ns ++ n ∷ []) k) ≡ true
    by again (inl e) = ap (λ b. b || has_number (ns ++ n ∷ []) k) e
    by again (inr e) = or_right (nat_eq k m) (has_number (ns ++ n ∷ []) k) (again e)

new_number : (ns : List ℕ) (n : ℕ) → has_number (ns ++ n ∷ []) n ≡ true
new_number [] n = ap (λ b. b || false) (eq_self n)
new_number (m ∷ ns) n = or_right (nat_eq n m) (has_number (ns ++ n ∷ []) n) (new_number ns n)

pub symbol_is : (k : Kind) (n name : ℕ) → symbol_name k n ≡ Some name → (k ≡ kinds.Global) × (n ≡ name)
symbol_is kinds.Global n name e = let s : n ≡ name = cc in (refl, s)
symbol_is k n name e = absurd (cc e)

module _ (names : List (List ℕ)) (once : AreOnce names) where
  -- distinct names, whose numbers are defined
  pub record Symbols (said : List (List ℕ)) (numbers : List ℕ) : Type 0 where
    pub distinct : is_distinct said ≡ true
    pub each : list_all is_name said ≡ true
    pub defined : (w : List ℕ) → list_any (bytes_eq w) said ≡ true → (n : ℕ) × (number_of names w ≡ Some n) × (has_number numbers n ≡ true)

  some_same : (m n : ℕ) → Some m ≡ Some n → m ≡ n
  some_same m n e = cc e

  free_by : (b : Bool) (said : List (List ℕ)) (numbers : List ℕ) (w : List ℕ) (n : ℕ) → Symbols said numbers → number_of names w ≡ Some n → has_number numbers n ≡ false → list_any (bytes_eq w) said ≡ b → b ≡ false
  free_by false said numbers w n g at fresh e = refl
  free_by true said numbers w n g at fresh e =
      let there = g.defined w e in
      let same : there.0 ≡ n = some_same there.0 n (sym there.1 ∙ at) in
      absurd (true≢false (sym there.2 ∙ ap (has_number numbers) same ∙ fresh))

  pub one_symbol : (xs ys : List (List ℕ)) (numbers : List ℕ) (n : ℕ) (named : IsNamed names n) → has_number numbers n ≡ false → Symbols (xs ++ ys) numbers → Symbols (xs ++ named.0 ∷ ys) (with_number numbers n)
  one_symbol xs ys numbers n (w, at, is) fresh g =
      let it : number_of names w ≡ Some n = number_at_place names once n w at in
      let free : list_any (bytes_eq w) (xs ++ ys) ≡ false = free_by (list_any (bytes_eq w) (xs ++ ys)) (xs ++ ys) numbers w n g it fresh refl in
      let more : numbers ++ n ∷ [] ≡ with_number numbers n = sym (ap (λ b. if b then numbers else numbers ++ n ∷ []) fresh) in
      record {
        distinct = distinct_with xs ys w g.distinct free;
        each = all_with is_name xs ys w g.each is;
        defined = λ v e. by v it more (some_with (bytes_eq v) xs ys w e);
      }
    where
      by : (v : List ℕ) → number_of names w ≡ Some n → numbers ++ n ∷ [] ≡ with_number numbers n → (list_any (bytes_eq v) (xs ++ ys) ≡ true) ⊎ (bytes_eq v w ≡ true) → (k : ℕ) × (number_of names v ≡ Some k) × (has_number (with_number numbers n) k ≡ true)
      by v it more (inl e) = let old = g.defined v e in (old.0, old.1, ap (λ ns. has_number ns old.0) (sym more) ∙ old_number numbers n old.0 old.2)
      by v it more (inr e) = let same : v ≡ w = (bytes_eq-Decides v w).0 e in (n, ap (number_of names) same ∙ it, ap (λ ns. has_number ns n) (sym more) ∙ new_number numbers n)

abbrev pub global_names : Draft → List (List ℕ)
global_names d = map (λ g. g.name) d.globals

abbrev pub function_names : List Function → List (List ℕ)
function_names fs = map (λ f. f.name) fs

abbrev pub symbols_in : Draft → List (List ℕ)
symbols_in d = global_names d ++ (function_names d.imports ++ function_names d.functions)

module _ (P : Tok → Type 0) where
  split : (f b : List Tok) → AllByRecursion P (f ++ b) → AllByRecursion P f × AllByRecursion P b
  split [] b h = (tt, h)
  split (t ∷ f) b h = let r = split f b h.1 in ((h.0, r.0), r.1)

  first_part : (f b ts : List Tok) → ts ≡ f ++ b → AllByRecursion P ts → AllByRecursion P f
  first_part f b ts w n = (split f b (subst (AllByRecursion P) w n)).0

  second_part : (f b ts : List Tok) → ts ≡ f ++ b → AllByRecursion P ts → AllByRecursion P b
  second_part f b ts w n = (split f b (subst (AllByRecursion P) w n)).1

module _ (form : TextForm) (places : List Token) (full : Context) (toks : List Tok) (once : AreOnce full.names) (named : AllByRecursion (IsTokenNamed full.names) toks) where
  abbrev names : List (List ℕ)
  names = full.names

  abbrev Good : Draft → Type 0
  Good d = Symbols names once (symbols_in d) d.defined.symbols

  tokens_at : (left : ℕ) (front back : List Tok) → tokens_left left toks ≡ front ++ back → AllByRecursion (IsTokenNamed names) front
  tokens_at left front back w = first_part (IsTokenNamed names) front back (tokens_left left toks) w (dropped (IsTokenNamed names) (length toks - left) toks named)

  symbol_named : (name : ℕ) (ts : List Tok) → IsSymbol name ts → AllByRecursion (IsTokenNamed names) ts → IsNamed names name
  symbol_named name ts (t, e, w) all =
      let is = symbol_is t.kind t.name name e in
      subst (IsNamed names) is.1 ((subst (AllByRecursion (IsTokenNamed names)) w all).0.global is.0)

  name_is : (name : ℕ) (n : IsNamed names name) → n.0 ≡ bytes_of full name
  name_is name n = sym (ap (λ o. unwrap_or o []) n.1)

  good_global : (d : Draft) (g : GlobalVar) (name : ℕ) (n : IsNamed names name) → n.0 ≡ g.name → has_number d.defined.symbols name ≡ false → Good d → Symbols names once (map (λ x. x.name) (d.globals ++ g ∷ []) ++ (function_names d.imports ++ function_names d.functions)) (with_number d.defined.symbols name)
  good_global d g name n e fresh good =
      let rest : List (List ℕ) = function_names d.imports ++ function_names d.functions in
      let whole : global_names d ++ n.0 ∷ rest ≡ map (λ x. x.name) (d.globals ++ g ∷ []) ++ rest =
      ap (λ w. global_names d ++ w ∷ rest) e ∙ sym (append_assoc (global_names d) (g.name ∷ []) rest) ∙ ap (λ v. v ++ rest) (sym (map-append (λ (x : GlobalVar). x.name) d.globals (g ∷ []))) in
      subst (λ v. Symbols names once v (with_number d.defined.symbols name)) whole (one_symbol names once (global_names d) rest d.defined.symbols name n fresh good)

  good_import : (d : Draft) (f : Function) (name : ℕ) (n : IsNamed names name) → n.0 ≡ f.name → has_number d.defined.symbols name ≡ false → Good d → Symbols names once (global_names d ++ (function_names (d.imports ++ f ∷ []) ++ function_names d.functions)) (with_number d.defined.symbols name)
  good_import d f name n e fresh good =
      let gs : List (List ℕ) = global_names d in
      let is : List (List ℕ) = function_names d.imports in
      let fs : List (List ℕ) = function_names d.functions in
      let start : Symbols names once ((gs ++ is) ++ fs) d.defined.symbols = subst (λ v. Symbols names once v d.defined.symbols) (sym (append_assoc gs is fs)) good in
      let whole : (gs ++ is) ++ n.0 ∷ fs ≡ gs ++ (function_names (d.imports ++ f ∷ []) ++ fs) =
      ap (λ w. (gs ++ is) ++ w ∷ fs) e ∙ append_assoc gs is (f.name ∷ fs) ∙ ap (λ v. gs ++ v) (sym (append_assoc is (f.name ∷ []) fs) ∙ ap (λ v. v ++ fs) (sym (map-append (λ (x : Function). x.name) d.imports (f ∷ [])))) in
      subst (λ v. Symbols names once v (with_number d.defined.symbols name)) whole (one_symbol names once (gs ++ is) fs d.defined.symbols name n fresh start)

  good_function : (d : Draft) (f : Function) (name : ℕ) (n : IsNamed names name) → n.0 ≡ f.name → has_number d.defined.symbols name ≡ false → Good d → Symbols names once (global_names d ++ (function_names d.imports ++ function_names (d.functions ++ f ∷ []))) (with_number d.defined.symbols name)
  good_function d f name n e fresh good =
      let gs : List (List ℕ) = global_names d in
      let is : List (List ℕ) = function_names d.imports in
      let fs : List (List ℕ) = function_names d.functions in
      let start : Symbols names once ((gs ++ (is ++ fs)) ++ []) d.defined.symbols = subst (λ v. Symbols names once v d.defined.symbols) (sym (append-nil (gs ++ (is ++ fs)))) good in
      let whole : (gs ++ (is ++ fs)) ++ n.0 ∷ [] ≡ gs ++ (is ++ function_names (d.functions ++ f ∷ [])) =
      ap (λ w. (gs ++ (is ++ fs)) ++ w ∷ []) e ∙ append_assoc gs (is ++ fs) (f.name ∷ []) ∙ ap (λ v. gs ++ v) (append_assoc is fs (f.name ∷ []) ∙ ap (λ v. is ++ v) (sym (map-append (λ (x : Function). x.name) d.functions (f ∷ [])))) in
      subst (λ v. Symbols names once v (with_number d.defined.symbols name)) whole (one_symbol names once (gs ++ (is ++ fs)) [] d.defined.symbols name n fresh start)

  -- an import, which is kept where its calls are no block writes
  fresh_import : (b : Bool) (numbers : List ℕ) (name : ℕ) → is_block_write full name ≡ b → (has_number numbers name ≡ false) ⊎ (is_block_write full name ≡ true) → b ≡ false → has_number numbers name ≡ false
  fresh_import b numbers name e (inl h) none = h
  fresh_import b numbers name e (inr h) none = absurd (true≢false (sym h ∙ e ∙ none))

  import_by : (b : Bool) (d : Draft) (name : ℕ) (f : Function) (n : IsNamed names name) → n.0 ≡ f.name → (b ≡ false → has_number d.defined.symbols name ≡ false) → Good d
      → Symbols names once (symbols_in (if b then d else with_declared d f)) (if b then d.defined else with_symbol d.defined name).symbols
  import_by true d name f n e fresh good = good
  import_by false d name f n e fresh good = good_import d f name n e (fresh refl) good

  import_same : (b : Bool) (d e : Draft) (f : Function) → d.globals ≡ e.globals → d.imports ≡ e.imports → d.functions ≡ e.functions → symbols_in (if b then d else with_declared d f) ≡ symbols_in (if b then e else with_declared e f)
  import_same true d e f p q r = ap (λ x. map (λ (g : GlobalVar). g.name) x ++ (function_names d.imports ++ function_names d.functions)) p ∙ ap (λ x. global_names e ++ (function_names x ++ function_names d.functions)) q ∙ ap (λ x. global_names e ++ (function_names e.imports ++ function_names x)) r
  import_same false d e f p q r =
      ap (λ x. map (λ (g : GlobalVar). g.name) x ++ (function_names (d.imports ++ f ∷ []) ++ function_names d.functions)) p ∙ ap (λ x. global_names e ++ (function_names (x ++ f ∷ []) ++ function_names d.functions)) q ∙ ap (λ x. global_names e ++ (function_names (e.imports ++ f ∷ []) ++ function_names x)) r

  import_defined : (b : Bool) (d e : Draft) → d.defined ≡ e.defined → (if b then d else e).defined ≡ d.defined
  import_defined true d e same = refl
  import_defined false d e same = sym same

  kept_good : (d : Draft) (s : Statement) (registers : Numbering) (line left : ℕ) (front back : List Tok) → IsStatement (with_registers full (table_of registers)) form places d.defined s front back → tokens_left left toks ≡ front ++ back → Good d → Good (kept full registers line (with_defined full d s) s)
  kept_good d (statements.Type name ty) registers line left front back is there g = g
  kept_good d (statements.Global name constant ty init) registers line left front back (fresh, (f, b, symbol, rest, w)) there g =
      let n = symbol_named name f symbol (first_part (IsTokenNamed names) f b front w (tokens_at left front back there)) in
      good_global d (record { name = bytes_of full name; constant = constant; ty = ty; init = init; line = line }) name n (name_is name n) fresh g
  kept_good d (statements.Import name ret params) registers line left front back (may, (f, b, word, (f2, b2, result, (f3, b3, symbol, rest, w3), w2), w)) there g =
      let all = second_part (IsTokenNamed names) f2 b2 b w2 (second_part (IsTokenNamed names) f b front w (tokens_at left front back there)) in
      let n = symbol_named name f3 symbol (first_part (IsTokenNamed names) f3 b3 b2 w3 all) in
      let x : Function = import_of (bytes_of full name) ret params line in
      let e : Draft = with_defined full d (statements.Import name ret params) in
      let good = import_by (is_block_write full name) d name x n (name_is name n) (λ none. fresh_import (is_block_write full name) d.defined.symbols name refl may none) g in
      let said : symbols_in (if is_block_write full name then d else with_declared d x) ≡ symbols_in (if is_block_write full name then e else with_declared e x) = import_same (is_block_write full name) d e x refl refl refl in
      let same : (if is_block_write full name then e else with_declared e x).defined ≡ e.defined = import_defined (is_block_write full name) e (with_declared e x) refl in
      subst (λ v. Symbols names once v (if is_block_write full name then e else with_declared e x).defined.symbols) said
      (subst (λ v. Symbols names once (symbols_in (if is_block_write full name then d else with_declared d x)) v.symbols) (sym same) good)
  kept_good d (statements.Function name ret params blocks) registers line left front back (fresh, plain, (head, before, behind, (f, b, word, (f2, b2, result, (f3, b3, symbol, rest, w3), w2), w), body, same, whole)) there g =
      let opening = first_part (IsTokenNamed names) before behind front whole (tokens_at left front back there) in
      let all = second_part (IsTokenNamed names) f2 b2 b w2 (second_part (IsTokenNamed names) f b before w opening) in
      let n = symbol_named name f3 symbol (first_part (IsTokenNamed names) f3 b3 b2 w3 all) in
      good_function d (record { name = bytes_of full name; params = params; locals = local_names full.names (length params) registers; ret = ret; blocks = Some blocks; line = line }) name n (name_is name n) fresh g

  pub all_good : (fs : List Found) (d e : Draft) → AddAll full form places toks d fs e → Good d → Good e
  all_good [] d e says g = subst Good says g
  all_good (f ∷ fs) d e (m, (s, front, back, is, w, k), rest) g =
      all_good fs m e rest (subst Good k (kept_good d s (registers_in full.names f.statement) (line_shown places f.left) f.left front back is w g))

pub symbols_are_once : (form : TextForm) (text : List ℕ) (m : Module) → IsModule form text m → HasLawfulSymbols m
symbols_are_once form text m is =
    let full : Context = full_context is.ir (tables_of form is.ir is.statements) true in
    let once : AreOnce is.ir.names = subst AreOnce (sym is.reads.names) (names_once text is.ir.places) in
    let all = all_good form is.ir.places full is.ir.toks once (tokens_are_named text is.ir is.reads) is.statements no_draft is.draft is.says (record { distinct = refl; each = refl; defined = λ w e. absurd (cc e) }) in
    let said : symbols_in is.draft ≡ global_names is.draft ++ function_names (is.draft.imports ++ is.draft.functions) = ap (λ v. global_names is.draft ++ v) (sym (map-append (λ (x : Function). x.name) is.draft.imports is.draft.functions)) in
    subst HasLawfulSymbols is.is (record { symbols_once = ap is_distinct (sym said) ∙ all.distinct; names = ap (list_all is_name) (sym said) ∙ all.each })
