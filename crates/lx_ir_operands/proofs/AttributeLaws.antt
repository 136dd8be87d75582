-- Words behind the parentheses of a call.
use Rattle.std.proofs.Common.{◌≡◌, ℕ, suc, Bool, true, false, Some, None, List, [], ◌∷◌, ◌++◌, length, Ok, inl, inr, refl, sym, ap, ◌∙◌, subst, arith}
use Rattle.std.specs.Prelude.{if◌then◌else◌}
use Rattle.lx_ir_tokens.specs.declared.token.Tok.{Tok}
use Rattle.lx_ir_tokens.specs.declared.token.Kind.{Kind}
use Rattle.lx_ir_tokens.specs.declared.token.Kind.TheVariants as kinds
use Rattle.lx_ir_tokens.specs.declared.token.Mark.TheVariants.{Hash, Colon}
use Rattle.lx_ir_tokens.specs.declared.keyword.Keyword.{Keyword}
use Rattle.lx_ir_tokens.specs.declared.keyword.Keyword.TheVariants as keywords
use Rattle.lx_ir_tokens.specs.Keywords.{is_behind_parentheses}
use Rattle.lx_ir_terms.specs.Reading.{Read, has, behind, is_mark, pick_at}
use Rattle.lx_ir_terms.specs.Types.{count_in}
use Rattle.lx_ir_terms.specs.Words.{count_over}
use Rattle.lx_ir_terms.specs.Grammar.{Picks, Is, ◌then◌}
use Rattle.lx_ir_terms.specs.Laws.{Finds}
use Rattle.lx_ir_terms.proofs.Marks.{mark_is}
use Rattle.lx_ir_terms.proofs.Parts.{bind_ok, ok_same, next_reads, pick_finds, next_finds}
use Rattle.lx_ir_constants.specs.Constants.{word_refusal}
use Rattle.lx_ir_operands.specs.Steps.{may_be_label, has_attribute, is_idle_word, is_text, attribute_in, attribute_tail, attribute_word_at, one_attribute_at, attributes_at}
use Rattle.lx_ir_operands.specs.Grammar.{Repeated, IsCount, is_kind, IsAttribute}
use Rattle.lx_ir_operands.specs.Laws.{EndsCall}
use Rattle.lx_ir_operands.proofs.Repeats.{behind_found, GoesOver, times_again, Front, steps_found}
use Rattle.lx_ir_operands.proofs.PassedLaws.{count_reads, count_finds, align_is}

attribute_is : (k : Kind) → is_kind keywords.Attribute k ≡ true → k ≡ kinds.Word keywords.Attribute
attribute_is (kinds.Word keywords.Attribute) h = refl
attribute_is k h = cc

section_is : (k : Kind) → is_kind keywords.Section k ≡ true → k ≡ kinds.Word keywords.Section
section_is (kinds.Word keywords.Section) h = refl
section_is k h = cc

text_is_no_colon : (k : Kind) → is_text k ≡ true → is_mark Colon k ≡ false
text_is_no_colon kinds.Text h = refl
text_is_no_colon k h = cc

count_is_no_colon : (k : Kind) (n : ℕ) → count_in k ≡ Some n → is_mark Colon k ≡ false
count_is_no_colon (kinds.Number v m) n h = refl
count_is_no_colon k n h = cc

-- tokens that may stand behind a word of a call: there are some, and no colon is the first
pub record Behind (us : List Tok) : Type 0 where
  pub some : has (λ k. true) us ≡ true
  pub no_colon : has (is_mark Colon) us ≡ false

pub not_a_label : (t : Tok) (us : List Tok) → Behind us → may_be_label (t ∷ us) ≡ false
not_a_label t [] b = let s = b.some in cc
not_a_label t (u ∷ us) b = b.no_colon

-- a word of a call or `#`, and what stands behind it
pub record OneAttribute (ts : List Tok) : Type 0 where
  pub token : Tok
  pub rest : List Tok
  pub whole : ts ≡ token ∷ rest
  pub no_colon : is_mark Colon token.kind ≡ false
  pub goes : (us : List Tok) → Behind us → has_attribute (token ∷ (rest ++ us)) ≡ true
  pub reads : (us : List Tok) → one_attribute_at (token ∷ (rest ++ us)) ≡ Ok (tt, us)

pub word_goes : (t : Tok) (w : Keyword) (us : List Tok) → t.kind ≡ kinds.Word w → is_idle_word (kinds.Word w) ≡ true → may_be_label (t ∷ us) ≡ false → has_attribute (t ∷ us) ≡ true
word_goes t w us k i l = rw (k, i, l) refl

group_attribute : (t : Tok) (b : List Tok) → is_mark Hash t.kind ≡ true → IsCount b → OneAttribute (t ∷ b)
group_attribute t b k c =
    let h = mark_is Hash t.kind k in
    record { token = t; rest = b; whole = refl; no_colon = rw h refl; goes = λ us f. rw h refl; reads = λ us. rw h (count_reads b us c) }

plain_attribute : (t : Tok) → is_kind keywords.Attribute t.kind ≡ true → OneAttribute (t ∷ [])
plain_attribute t k =
    let h = attribute_is t.kind k in
    record {
      token = t;
      rest = [];
      whole = refl;
      no_colon = rw h refl;
      goes = λ us f. word_goes t keywords.Attribute us h refl (not_a_label t us f);
      reads = λ us. rw h refl;
    }

align_attribute : (t : Tok) (b : List Tok) → is_kind keywords.Align t.kind ≡ true → IsCount b → OneAttribute (t ∷ b)
align_attribute t b k (n, (u, c, e)) =
    let h = align_is t.kind k in
    record {
      token = t;
      rest = b;
      whole = refl;
      no_colon = rw h refl;
      goes = λ us f. word_goes t keywords.Align (b ++ us) h refl (rw e (count_is_no_colon u.kind n c));
      reads = λ us. rw h (count_reads b us (n, (u, c, e)));
    }

section_attribute : (t : Tok) (b : List Tok) → is_kind keywords.Section t.kind ≡ true → Is is_text b → OneAttribute (t ∷ b)
section_attribute t b k (u, c, e) =
    let h = section_is t.kind k in
    record {
      token = t;
      rest = b;
      whole = refl;
      no_colon = rw h refl;
      goes = λ us f. word_goes t keywords.Section (b ++ us) h refl (rw e (text_is_no_colon u.kind c));
      reads = λ us. rw h (next_reads is_text b us (u, c, e));
    }

in_whole : (ts : List Tok) (t : Tok) (f b : List Tok) → f ≡ t ∷ [] → ts ≡ f ++ b → ts ≡ t ∷ b
in_whole ts t f b e w = w ∙ ap (λ r. r ++ b) e

pub one_attribute : (ts : List Tok) → IsAttribute ts → OneAttribute ts
one_attribute ts (inl (f, b, (t, k, e), c, w)) = subst OneAttribute (sym (in_whole ts t f b e w)) (group_attribute t b k c)
one_attribute ts (inr (inl (t, k, e))) = subst OneAttribute (sym e) (plain_attribute t k)
one_attribute ts (inr (inr (inl (f, b, (t, k, e), c, w)))) = subst OneAttribute (sym (in_whole ts t f b e w)) (align_attribute t b k c)
one_attribute ts (inr (inr (inr (f, b, (t, k, e), c, w)))) = subst OneAttribute (sym (in_whole ts t f b e w)) (section_attribute t b k c)

pub over_attributes : GoesOver has_attribute one_attribute_at IsAttribute Behind
over_attributes =
    record {
      filled = λ ts q. (let o = one_attribute ts q in let size : length ts ≡ suc (length o.rest) = ap length o.whole in omega (arith, size));
      goes = λ ts us q b. (let o = one_attribute ts q in rw o.whole (o.goes us b));
      reads = λ ts us q b. (let o = one_attribute ts q in rw o.whole (o.reads us));
      keeps = λ ts us q b. (let o = one_attribute ts q in subst (λ r. Behind (r ++ us)) (sym o.whole) (record { some = refl; no_colon = o.no_colon }));
    }

pub attributes_again : (x : Unit {0}) (ts us : List Tok) → EndsCall us → Repeated IsAttribute ts → attributes_at (ts ++ us) ≡ Ok (x, us)
attributes_again x ts us h (n, m) =
    times_again has_attribute one_attribute_at IsAttribute Behind over_attributes n (length (ts ++ us)) ts us m (record { some = h.some; no_colon = h.no_colon }) (omega arith) h.no_attribute

-- What is read so is in the grammar.

taken_word : (b : Bool) (v w : Keyword) → is_behind_parentheses v ≡ b → (if b then Some v else None) ≡ Some w → (v ≡ w) × (is_behind_parentheses w ≡ true)
taken_word true v w h e = let s : v ≡ w = cc in (s, subst (λ x. is_behind_parentheses x ≡ true) s h)
taken_word false v w h e = cc

pub attribute_word : (k : Kind) (w : Keyword) → attribute_in k ≡ Some w → (k ≡ kinds.Word w) × (is_behind_parentheses w ≡ true)
attribute_word (kinds.Word v) w e = let s = taken_word (is_behind_parentheses v) v w refl e in (ap kinds.Word s.0, s.1)
attribute_word (kinds.Mark m) w e = cc
attribute_word kinds.Local w e = cc
attribute_word kinds.Global w e = cc
attribute_word (kinds.Number v m) w e = cc
attribute_word kinds.Text w e = cc
attribute_word kinds.Bytes w e = cc

behind_word : (t : Tok) (w : Keyword) (ts us : List Tok) (x : Unit {0}) → t.kind ≡ kinds.Word w → is_behind_parentheses w ≡ true → attribute_tail w ts ≡ Ok (x, us) → Front IsAttribute (t ∷ ts) us
behind_word t keywords.Attribute ts us x g h e = (t ∷ [], inr (inl (t, rw g refl, refl)), ap (λ r. t ∷ r) (ok_same tt x ts us e).1)
behind_word t keywords.Align ts us x g h e =
    let w = count_finds ts us x e in
    (t ∷ w.0, inr (inr (inl (t ∷ [], w.0, (t, rw g refl, refl), w.1, refl))), ap (λ r. t ∷ r) w.2)
behind_word t keywords.Section ts us x g h e =
    let w = next_finds is_text ts us x e in
    (t ∷ w.0, inr (inr (inr (t ∷ [], w.0, (t, rw g refl, refl), w.1, refl))), ap (λ r. t ∷ r) w.2)
behind_word t w ts us x g h e = cc

word_found : (ts us : List Tok) (w : Keyword) (rest : List Tok) (x : Unit {0}) → Picks (λ t. attribute_in t.kind) w ts → attribute_tail w rest ≡ Ok (x, us) → Front IsAttribute (ts ++ rest) us
word_found ts us w rest x (t, p, e) g =
    let k = attribute_word t.kind w p in
    subst (λ r. Front IsAttribute (r ++ rest) us) (sym e) (behind_word t w rest us x k.0 k.1 g)

word_finds : Finds attribute_word_at (λ x. IsAttribute)
word_finds ts us x e =
    let a = bind_ok (pick_at (λ t. attribute_in t.kind) word_refusal ts) (λ w. attribute_tail w.0 w.1) (x, us) e in
    let w = pick_finds (λ t. attribute_in t.kind) word_refusal ts a.0.1 a.0.0 a.1 in
    subst (λ r. Front IsAttribute r us) (sym w.2) (word_found w.0 us a.0.0 a.0.1 x w.1 a.2)

abbrev pub attribute_by : Bool → List Tok → Read (Unit {0})
attribute_by b ts = if b then count_over (behind ts) else attribute_word_at ts

pub attribute_step : (b : Bool) (ts us : List Tok) (x : Unit {0}) → has (is_mark Hash) ts ≡ b → attribute_by b ts ≡ Ok (x, us) → Front IsAttribute ts us
attribute_step true ts us x h e =
    let w = behind_found (is_mark Hash) count_over (λ y. IsCount) count_finds ts us x h e in
    (w.0, inl w.1, w.2)
attribute_step false ts us x h e = word_finds ts us x e

pub attributes_found : Finds attributes_at (λ x. Repeated IsAttribute)
attributes_found ts us x e =
    steps_found has_attribute one_attribute_at IsAttribute (λ ws vs y h i. attribute_step (has (is_mark Hash) ws) ws vs y refl i) (length ts) ts us x e
