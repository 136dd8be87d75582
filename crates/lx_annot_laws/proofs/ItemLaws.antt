-- Items: reading and the grammar agree.
use Rattle.std.proofs.Common.{◌≡◌, ℕ, Bool, true, false, Option, Some, None, List, [], ◌∷◌, ◌++◌, Ok, refl, sym, ap, ◌∙◌, subst, append_assoc, bytes_eq, codes}
use Rattle.std.specs.Prelude.{◌||◌}
use Rattle.lx_annot.specs.declared.action.CapSpec.{CapSpec}
use Rattle.lx_annot.specs.declared.action.CapSpec.TheVariants as spec
use Rattle.lx_annot.specs.declared.interface.Item.{Item}
use Rattle.lx_annot.specs.Expr.{Expr}
use Rattle.lx_annot_expressions.specs.Tokens.{Tok}
use Rattle.lx_annot_expressions.specs.Reading.{has, steps_at, adding_at}
use Rattle.lx_annot_expressions.specs.Exprs.{Scope}
use Rattle.lx_annot_expressions.specs.Grammar.{Part, Is, ◌then◌, InBrackets}
use Rattle.lx_annot_expressions.specs.Laws.{ReadsBefore, Finds, closes_expr}
use Rattle.lx_annot_expressions.proofs.Parts.{bind_ok}
use Rattle.lx_annot_terms.specs.Lists.{Known}
use Rattle.lx_annot_terms.specs.ItemReading.{item_at, item_behind, items_at, most_further_items}
use Rattle.lx_annot_terms.specs.Grammar.{IsItemList, IsItemBy, IsItem}
use Rattle.lx_annot_terms.proofs.ListReads.{brackets_read, item_list_read, other_text}
use Rattle.lx_annot_terms.proofs.ActionParts.{item_found}
use Rattle.lx_annot_terms.proofs.ActionParts.{plain_item, guarded_item}
use Rattle.lx_annot_laws.specs.Parts.{IsItems}
use Rattle.lx_annot_laws.proofs.Sequences.{closes_behind, further_read, further_found}

module _ (scope : Scope) (known : Known) where
  word_no_if : (text : List ℕ) (q : Part) (ts us : List Tok) → bytes_eq text (codes "if") ≡ false → (Is text then q) ts → has (codes "if") (ts ++ us) ≡ false
  word_no_if text q ts us d (f, b, (t, h, g), p, w) =
      let whole : ts ++ us ≡ t ∷ (b ++ us) = ap (λ x. x ++ us) (w ∙ ap (λ x. x ++ b) g) in
      subst (λ x. has (codes "if") x ≡ false) (sym whole) (other_text text (codes "if") (t ∷ (b ++ us)) h d)

  -- no list of an item begins with `if`
  no_if : (list : CapSpec) (ts us : List Tok) → IsItemList scope known list ts → has (codes "if") (ts ++ us) ≡ false
  no_if (spec.Write a n) ts us p = word_no_if (codes "write") _ ts us refl p
  no_if (spec.Call e) ts us p = word_no_if (codes "call") _ ts us refl p
  no_if (spec.Ref t e) ts us p = word_no_if (codes "ref") _ ts us refl p
  no_if (spec.Each k e) ts us p = absurd p

  plain_read : (list : CapSpec) (ts us : List Tok) → closes_expr us ≡ true → IsItemList scope known list ts → item_at scope known (ts ++ us) ≡ Ok (record { cond = None; cap = list }, us)
  plain_read list ts us c p =
      let one = item_list_read scope known list ts us c p in
      plain_item scope known (ts ++ us) us (record { cond = None; cap = list }) (no_if list ts us p) (rw one refl)

  guarded_read : (e : Expr) (list : CapSpec) (ts us : List Tok) → closes_expr us ≡ true → (Is (codes "if") then InBrackets scope e then IsItemList scope known list) ts → item_at scope known (ts ++ us) ≡ Ok (record { cond = Some e; cap = list }, us)
  guarded_read e list ts us c (f, b, (t, h, g), (f', b', pe, pl, w'), w) =
      let whole : ts ++ us ≡ t ∷ (f' ++ (b' ++ us)) = ap (λ x. x ++ us) (w ∙ ap (λ x. x ++ b) g ∙ ap (λ x. t ∷ x) w') ∙ ap (λ x. t ∷ x) (append_assoc f' b' us) in
      let inner = item_list_read scope known list b' us c pl in
      subst (λ x. item_at scope known x ≡ Ok (record { cond = Some e; cap = list }, us)) (sym whole)
      (guarded_item scope known (t ∷ (f' ++ (b' ++ us))) us (record { cond = Some e; cap = list }) h (rw (brackets_read scope e f' (b' ++ us) pe, inner) refl))

  read_by : (o : Option Expr) (list : CapSpec) (ts us : List Tok) → closes_expr us ≡ true → IsItemBy scope known o list ts → item_at scope known (ts ++ us) ≡ Ok (record { cond = o; cap = list }, us)
  read_by None list ts us c p = plain_read list ts us c p
  read_by (Some e) list ts us c p = guarded_read e list ts us c p

  -- the tokens of an item are read as it
  pub item_read : (item : Item) → ReadsBefore closes_expr (item_at scope known) item (IsItem scope known item)
  item_read item ts us c p = read_by item.cond item.cap ts us c p

  semicolon_closes_by : (a b d : Bool) → a || b || true || d ≡ true
  semicolon_closes_by true b d = refl
  semicolon_closes_by false true d = refl
  semicolon_closes_by false false d = refl

  semicolon_closes : (t : Tok) (us : List Tok) → has (codes ";") (t ∷ []) ≡ true → closes_expr (t ∷ us) ≡ true
  semicolon_closes t us h =
      ap (λ x. has (codes ")") (t ∷ us) || has (codes ",") (t ∷ us) || x || has (codes "}") (t ∷ us)) h ∙ semicolon_closes_by (has (codes ")") (t ∷ us)) (has (codes ",") (t ∷ us)) (has (codes "}") (t ∷ us))

  abbrev each_item : List Item → Item → Part
  each_item before = IsItem scope known

  -- the tokens of items are read as they
  pub items_read : (items : List Item) (ts us : List Tok) → has (codes ";") us ≡ false → closes_expr us ≡ true → IsItems scope known items ts → items_at scope known (ts ++ us) ≡ Ok (items, us)
  unfolding items_at
  items_read [] ts us h c p = absurd p
  items_read (x ∷ xs) ts us h c (le, (f, b, is, q, w)) =
      let whole : ts ++ us ≡ f ++ (b ++ us) = ap (λ y. y ++ us) w ∙ append_assoc f b us in
      let one = item_read x f (b ++ us) (closes_behind (codes ";") closes_expr (item_behind scope known) each_item semicolon_closes (x ∷ []) xs b us c q) is in
      let more = further_read (codes ";") closes_expr (item_behind scope known) each_item semicolon_closes (λ before y. item_read y) most_further_items (x ∷ []) xs b us le h c q in
      rw (whole, one) more

  items_part : (x : Item) (xs all : List Item) (ts : List Tok) → all ≡ (x ∷ []) ++ xs → IsItems scope known (x ∷ xs) ts → IsItems scope known all ts
  items_part x xs all ts e p = subst (λ y. IsItems scope known y ts) (sym e) p

  -- what is read as items is in the grammar
  pub items_found : Finds (items_at scope known) (IsItems scope known)
  unfolding items_at
  items_found ts us all r =
      let a = bind_ok (item_at scope known ts) (λ x. steps_at (has (codes ";")) (adding_at (item_behind scope known)) most_further_items (x.0 ∷ []) x.1) (all, us) r in
      let w = item_found scope known ts a.0.1 a.0.0 a.1 in
      let m = further_found (codes ";") closes_expr (item_behind scope known) each_item (λ before. item_found scope known) most_further_items (a.0.0 ∷ []) all a.0.1 us a.2 in
      (w.0 ++ m.front, items_part a.0.0 m.values all (w.0 ++ m.front) m.are (m.room, (w.0, m.front, w.1, m.is, refl)), w.2 ∙ ap (λ x. w.0 ++ x) m.whole ∙ sym (append_assoc w.0 m.front us))

  brace_closes_by : (a b c d : Bool) → d ≡ true → a || b || c || d ≡ true
  brace_closes_by true b c d h = refl
  brace_closes_by false true c d h = refl
  brace_closes_by false false true d h = refl
  brace_closes_by false false false d h = h

  pub brace_closes : (us : List Tok) → has (codes "}") us ≡ true → closes_expr us ≡ true
  brace_closes us h = brace_closes_by (has (codes ")") us) (has (codes ",") us) (has (codes ";") us) (has (codes "}") us) h

  -- the same where `}` follows
  pub items_before : (items : List Item) → ReadsBefore (has (codes "}")) (items_at scope known) items (IsItems scope known items)
  items_before items ts us h p = items_read items ts us (other_text (codes "}") (codes ";") us h refl) (brace_closes us h) p
