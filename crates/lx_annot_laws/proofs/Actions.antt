-- The printed texts of lists, actions and items say them, where they were read.
use Rattle.std.proofs.Common.{◌≡◌, ◌∙◌, ℕ, Bool, true, false, Option, Some, None, List, [], ◌∷◌, ◌++◌, flat_map, codes, refl, sym, ap, subst}
use Rattle.std.specs.Prelude.{slice_index_or}
use Rattle.lx_words.specs.declared.token.TokenRule.TheVariants as rules
use Rattle.lx_words.specs.declared.token.TokenKind.{TokenKind}
use Rattle.lx_words.specs.declared.token.TokenKind.TheVariants as kinds
use Rattle.lx_words.specs.declared.token.Lexeme.TheVariants.{Token}
use Rattle.lx_words.specs.Lexemes.{lexeme_of, lexeme_behind}
use Rattle.lx_words.specs.TextLaws.{NumberTexts}
use Rattle.lx_annot.specs.declared.action.CapSpec.{CapSpec}
use Rattle.lx_annot.specs.declared.action.CapSpec.TheVariants as spec
use Rattle.lx_annot.specs.declared.interface.Item.{Item}
use Rattle.lx_annot.specs.declared.interface.Interface.{Interface}
use Rattle.lx_annot.specs.Action.{Action, Copy, Transfer, Check, Lend, End, If}
use Rattle.lx_annot.specs.Canonical.{Text, call_text}
use Rattle.lx_annot.specs.Expr.{Expr}
use Rattle.lx_annot_expressions.specs.Tokens.{Tok}
use Rattle.lx_annot_expressions.specs.Names.{known_of}
use Rattle.lx_annot_expressions.specs.Exprs.{Scope}
use Rattle.lx_annot_expressions.specs.Grammar.{Part, Is, ◌then◌, IsExpr, InBrackets}
use Rattle.lx_annot_terms.specs.Lists.{Known}
use Rattle.lx_annot_terms.specs.ItemReading.{scope_of_items}
use Rattle.lx_annot_terms.specs.Grammar.{IsKnown, is_list_word, IsIterator, IsList, IsItemList, IsDeed, IsAction, IsItemBy, IsItem}
use Rattle.lx_annot_read.specs.Interfaces.{iterator_names}
use Rattle.lx_annot_laws.specs.Parts.{IsFurther, IsItems}
use Rattle.lx_cproto_print.specs.Printed.{expr_text, list_text, action_text, item_params, item_list_text, condition_text, item_text, items_text, is_end}
use Rattle.lx_annot_laws.specs.Says.{is_apart, tok, Says, IsWord, AreLexed}
use Rattle.lx_annot_laws.proofs.Pieces.{a_comma, a_semicolon, an_open, a_close, regroup, beside, same_text, reads_as, nothing, word_token, word_is, space, closed, spaced, comma, called_by, called}
use Rattle.lx_annot_laws.proofs.Named.{known_named, name_grows, known_grows}
use Rattle.lx_annot_laws.proofs.PrintedExpressions.{Names, expr_says, brackets_say, lexed_cut, item_names}
use Rattle.lx_annot_laws.specs.Grows.{Grows}

-- Words.

a_write : IsWord (codes "write")
unfolding lexeme_behind
a_write = refl

a_call : IsWord (codes "call")
unfolding lexeme_behind
a_call = refl

a_ref : IsWord (codes "ref")
unfolding lexeme_behind
a_ref = refl

a_copy : IsWord (codes "copy")
unfolding lexeme_behind
a_copy = refl

a_transfer : IsWord (codes "transfer")
unfolding lexeme_behind
a_transfer = refl

a_check : IsWord (codes "check")
unfolding lexeme_behind
a_check = refl

a_lend : IsWord (codes "lend")
unfolding lexeme_behind
a_lend = refl

an_if : IsWord (codes "if")
unfolding lexeme_behind
an_if = refl

-- Names.

behind : (ts a b : List Tok) → ts ≡ a ++ b → AreLexed ts → AreLexed b
behind ts a b e l = (lexed_cut ts a b e l).1

before : (ts a b : List Tok) → ts ≡ a ++ b → AreLexed ts → AreLexed a
before ts a b e l = (lexed_cut ts a b e l).0

-- a token that is known is a word, and is printed as it stood there
record Knows (names : List (List ℕ)) (k : ℕ) (t : Tok) : Type 0 where
  word : IsWord (slice_index_or names k [])
  is : known_of names kinds.Word (slice_index_or names k []) ≡ Some k
  same : t.bytes ≡ slice_index_or names k []

knows : (names : List (List ℕ)) (k : ℕ) (t : Tok) → lexeme_of rules.Interface t.bytes ≡ Some (Token t.kind) → known_of names t.kind t.bytes ≡ Some k → Knows names k t
knows names k t lexed h =
    let named = known_named names t.kind t.bytes k h in
    let word : IsWord t.bytes = lexed ∙ ap (λ (x : TokenKind). Some (Token x)) named.0 in
    let is : known_of names kinds.Word t.bytes ≡ Some k = ap (λ (x : TokenKind). known_of names x t.bytes) (sym named.0) ∙ h in
    record {
      word = subst IsWord (sym named.1) word;
      is = subst (λ b. known_of names kinds.Word b ≡ Some k) (sym named.1) is;
      same = sym named.1;
    }

pub known_says : (names : List (List ℕ)) (k : ℕ) (ts : List Tok) → AreLexed ts → IsKnown names k ts → Says (slice_index_or names k []) (IsKnown names k)
known_says names k ts l (t, h, g) =
    let n = knows names k t (subst AreLexed g l).0 h in
    word_token {p = IsKnown names k} n.word (tok kinds.Word (slice_index_or names k []), n.is, refl)

iterator_says : (names : List (List ℕ)) (k : ℕ) (ts : List Tok) → AreLexed ts → IsIterator names k ts → Says (slice_index_or names k []) (IsIterator names k)
iterator_says names k ts l (t, h, free, g) =
    let n = knows names k t (subst AreLexed g l).0 h in
    word_token {p = IsIterator names k} n.word (tok kinds.Word (slice_index_or names k []), n.is, subst (λ b. is_list_word (tok t.kind b) ≡ false) n.same free, refl)

module _ (texts : NumberTexts) (i : Interface) where
  abbrev pub known_there : Bool → Known
  known_there lends = record { reftypes = i.reftypes; iterators = iterator_names i; lends = lends }

  module _ (lends : Bool) (scope other : Scope) (names : Names scope other) where
    abbrev known : Known
    known = known_there lends

    -- an expression behind what stands before it
    expr : (e : Expr) (ts : List Tok) → AreLexed ts → IsExpr scope e ts → Says (expr_text other.params e) (IsExpr other e)
    expr e ts l is = expr_says texts scope other names e ts l is

    -- Lists.

    write_text : (a n : Expr) → Says (expr_text other.params a ++ codes ", " ++ expr_text other.params n) (IsExpr other a then Is (codes ",") then IsExpr other n) → Says (list_text i other.params (spec.Write a n)) (IsList other known (spec.Write a n))
    write_text a n inner = beside (word_is a_write) refl (closed (codes ",") a_comma refl (space inner))

    ref_text : (k : ℕ) (e : Expr) → Says (slice_index_or i.reftypes k []) (IsKnown i.reftypes k) → Says (expr_text other.params e) (IsExpr other e) → Says (list_text i other.params (spec.Ref k e)) (IsList other known (spec.Ref k e))
    ref_text k e name at =
        let tail : Says (slice_index_or i.reftypes k [] ++ codes ")" ++ codes ", " ++ expr_text other.params e) (IsKnown i.reftypes k then Is (codes ")") then Is (codes ",") then IsExpr other e) =
        same_text (regroup (slice_index_or i.reftypes k []) (codes ")" ∷ codes ", " ∷ expr_text other.params e ∷ [])) (beside name refl (closed (codes ")") a_close refl (closed (codes ",") a_comma refl (space at)))) in
        beside (word_is a_ref) refl (closed (codes "(") an_open refl tail)

    pub list_says : (x : CapSpec) (ts : List Tok) → AreLexed ts → IsList scope known x ts → Says (list_text i other.params x) (IsList other known x)
    list_says (spec.Write a n) ts l (f, g, w, (c, d, o, (e, h, y, (p, q, m, z, k), r), u), v) =
        let l1 = behind g c d u (behind ts f g v l) in
        write_text a n (comma (expr a e (before d e h r l1) y) (expr n q (behind h p q k (behind d e h r l1)) z))
    list_says (spec.Call a) ts l (f, g, w, (c, d, o, y, u), v) =
        beside (word_is a_call) refl (closed (codes ",") a_comma refl (space (expr a d (behind g c d u (behind ts f g v l)) y)))
    list_says (spec.Ref k a) ts l (f, g, w, (c, d, o, (e, h, n, (p, q, m, (r, s, x, y, z), j), j1), u), v) =
        let l1 = behind g c d u (behind ts f g v l) in
        ref_text k a (known_says i.reftypes k e (before d e h j1 l1) n) (expr a s (behind q r s z (behind h p q j (behind d e h j1 l1))) y)
    list_says (spec.Each k a) ts l (f, g, n, (c, d, o, (e, h, y, m, r), u), v) =
        called_by {p = IsIterator known.iterators k} {q = IsExpr other a} (iterator_says known.iterators k f (before ts f g v l) n) (expr a e (before d e h r (behind g c d u (behind ts f g v l))) y)

    item_list_says : (x : CapSpec) (ts : List Tok) → AreLexed ts → IsItemList scope known x ts → other.params ≡ item_params → Says (item_list_text i x) (IsItemList other known x)
    item_list_says (spec.Write a n) ts l (f, g, w, (c, d, y, (e, h, m, z, r), u), v) same =
        let l1 = behind ts f g v l in
        let inner = comma (expr a c (before g c d u l1) y) (expr n h (behind d e h r (behind g c d u l1)) z) in
        subst (λ ps. Says (codes "write " ++ expr_text ps a ++ codes ", " ++ expr_text ps n) (IsItemList other known (spec.Write a n))) same (beside (word_is a_write) refl (space inner))
    item_list_says (spec.Call a) ts l (f, g, w, y, v) same =
        subst (λ ps. Says (codes "call " ++ expr_text ps a) (IsItemList other known (spec.Call a))) same (beside (word_is a_call) refl (space (expr a g (behind ts f g v l) y)))
    item_list_says (spec.Ref k a) ts l (f, g, w, (c, d, n, (e, h, m, y, r), u), v) same =
        let l1 = behind ts f g v l in
        let inner = comma (known_says i.reftypes k c (before g c d u l1) n) (expr a h (behind d e h r (behind g c d u l1)) y) in
        subst (λ ps. Says (codes "ref " ++ slice_index_or i.reftypes k [] ++ codes ", " ++ expr_text ps a) (IsItemList other known (spec.Ref k a))) same (beside (word_is a_ref) refl (space inner))
    item_list_says (spec.Each k a) ts l never same = absurd never

    -- Actions.

    deed_says : (word : List ℕ) → IsWord word → (x : CapSpec) (ts : List Tok) → AreLexed ts → IsDeed word scope known x ts → Says (call_text word (list_text i other.params x)) (IsDeed word other known x)
    deed_says word is x ts l (f, g, w, (c, d, o, (e, h, y, m, r), u), v) =
        called is (list_says x e (before d e h r (behind g c d u (behind ts f g v l))) y)

    -- what stands behind `if (E)`
    behind_if : {t : List ℕ} {p : Part} (e : Expr) (ts : List Tok) → AreLexed ts → InBrackets scope e ts → Says t p → Says (call_text (codes "if ") (expr_text other.params e) ++ codes " " ++ t) (Is (codes "if") then InBrackets other e then p)
    behind_if {p = p} e ts l is more = beside (word_is an_if) refl (space (spaced {p = InBrackets other e} {q = p} (brackets_say texts scope other names e ts l is) more))

    pub action_says : (x : Action) (ts : List Tok) → AreLexed ts → IsAction scope known x ts → Says (action_text i other.params x) (IsAction other known x)
    action_says (Copy x) ts l is = deed_says (codes "copy") a_copy x ts l is
    action_says (Transfer x) ts l is = deed_says (codes "transfer") a_transfer x ts l is
    action_says (Check x) ts l is = deed_says (codes "check") a_check x ts l is
    action_says (Lend x) ts l (may, is) = reads_as {p = IsDeed (codes "lend") other known x} {q = IsAction other known (Lend x)} (λ us h. (may, h)) (deed_says (codes "lend") a_lend x ts l is)
    action_says (End k) ts l never = absurd never
    action_says (If e x) ts l (f, g, w, (c, d, o, is, u), v) =
        let l1 = behind ts f g v l in
        behind_if {p = IsAction other known x} e c (before g c d u l1) o (action_says x d (behind g c d u l1) is)

  -- Items.

  module _ (lends : Bool) (q : List ℕ) where
    abbrev inside : Scope
    inside = scope_of_items q

    abbrev pub printed : Scope
    printed = scope_of_items (codes "p")

    abbrev among : Known
    among = known_there lends

    item_by : (o : Option Expr) (x : CapSpec) (ts : List Tok) → AreLexed ts → IsItemBy inside among o x ts → Says (condition_text o ++ item_list_text i x) (IsItemBy printed among o x)
    item_by None x ts l is = item_list_says lends inside printed (item_names q) x ts l is refl
    item_by (Some e) x ts l (f, g, w, (c, d, o, is, u), v) =
        let l1 = behind ts f g v l in
        behind_if lends inside printed (item_names q) {p = IsItemList printed among x} e c (before g c d u l1) o
        (item_list_says lends inside printed (item_names q) x d (behind g c d u l1) is refl)

    item_says : (x : Item) (ts : List Tok) → AreLexed ts → IsItem inside among x ts → Says (item_text i x) (IsItem printed among x)
    item_says x ts l is = item_by x.cond x.cap ts l is

    abbrev further_text : List Item → Text
    further_text xs = flat_map (λ x. codes "; " ++ item_text i x) xs

    further_apart : (xs : List Item) → is_apart (further_text xs) ≡ true
    further_apart [] = refl
    further_apart (x ∷ xs) = refl

    further_say : (old xs : List Item) (ts : List Tok) → AreLexed ts → IsFurther (codes ";") (λ _. IsItem inside among) old xs ts → Says (further_text xs) (IsFurther (codes ";") (λ _. IsItem printed among) old xs)
    further_say old [] ts l is = nothing
    further_say old (x ∷ xs) ts l (f, g, m, (c, d, is, more, u), v) =
        let l1 = behind ts f g v l in
        let one = item_says x c (before g c d u l1) is in
        let rest = further_say (old ++ x ∷ []) xs d (behind g c d u l1) more in
        closed (codes ";") a_semicolon refl (space (beside one (further_apart xs) rest))

    pub items_say : (xs : List Item) (ts : List Tok) → AreLexed ts → IsItems inside among xs ts → Says (items_text i xs) (IsItems printed among xs)
    items_say [] ts l never = absurd never
    items_say (x ∷ xs) ts l (le, (f, g, is, more, v)) =
        let one = item_says x f (before ts f g v l) is in
        let rest = further_say (x ∷ []) xs g (behind ts f g v l) more in
        reads_as {p = IsItem printed among x then IsFurther (codes ";") (λ _. IsItem printed among) (x ∷ []) xs} {q = IsItems printed among (x ∷ xs)} (λ us h. (le, h)) (beside one (further_apart xs) rest)

-- Where more names are declared.

module _ (a b : Known) (grows : Grows a b) where
  list_grows : (scope : Scope) (l : CapSpec) (ts : List Tok) → IsList scope a l ts → IsList scope b l ts
  list_grows scope (spec.Write x n) ts is = is
  list_grows scope (spec.Call x) ts is = is
  list_grows scope (spec.Ref k x) ts (f, g, w, (c, d, o, (e, h, name, more, u), v), z) =
      (f, g, w, (c, d, o, (e, h, name_grows a.reftypes b.reftypes grows.reftypes k e name, more, u), v), z)
  list_grows scope (spec.Each k x) ts (f, g, (t, h, n, e), more, z) =
      (f, g, (t, known_grows a.iterators b.iterators grows.iterators t.kind t.bytes k h, n, e), more, z)

  deed_grows : (word : List ℕ) (scope : Scope) (l : CapSpec) (ts : List Tok) → IsDeed word scope a l ts → IsDeed word scope b l ts
  deed_grows word scope l ts (f, g, w, (c, d, o, (e, h, is, p, u), v), z) = (f, g, w, (c, d, o, (e, h, list_grows scope l e is, p, u), v), z)

  pub action_grows : (scope : Scope) (x : Action) (ts : List Tok) → IsAction scope a x ts → IsAction scope b x ts
  action_grows scope (Copy l) ts is = deed_grows (codes "copy") scope l ts is
  action_grows scope (Transfer l) ts is = deed_grows (codes "transfer") scope l ts is
  action_grows scope (Check l) ts is = deed_grows (codes "check") scope l ts is
  action_grows scope (Lend l) ts (may, is) = (grows.lends may, deed_grows (codes "lend") scope l ts is)
  action_grows scope (End k) ts never = absurd never
  action_grows scope (If x y) ts (f, g, w, (c, d, o, is, v), z) = (f, g, w, (c, d, o, action_grows scope y d is, v), z)

pub not_end : (scope : Scope) (declared : Known) (a : Action) (ts : List Tok) → IsAction scope declared a ts → is_end a ≡ false
not_end scope declared (Copy l) ts is = refl
not_end scope declared (Transfer l) ts is = refl
not_end scope declared (Check l) ts is = refl
not_end scope declared (Lend l) ts is = refl
not_end scope declared (End k) ts never = absurd never
not_end scope declared (If e a) ts is = refl
