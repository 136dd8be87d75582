-- A field is put behind the others of a struct: where fields begin then.
use Rattle.std.proofs.Common.{◌≡◌, ◌∙◌, refl, sym, ap, subst, ℕ, ◌+◌, ◌-◌, ◌/◌, ◌%◌, ◌<◌, ◌≤◌, Bool, true, false, ◌&&◌, Option, Some, None, List, [], ◌∷◌, ◌++◌, nat_eq, nat_le, nat_lt, arith, if◌then◌else◌, append-nil}
use Rattle.std.proofs.lemmas.Bool.Decides.{nat_tests}
use Rattle.lx_words.proofs.Tests.{and_false, and_true}
use Rattle.lx_slot_types.specs.Sites.{FieldName, array_fields_at}
use Rattle.lx_slot_types.specs.Texts.{differ}
use Rattle.lx_slot_sums.specs.declared.rows.Edge.{Edge}
use Rattle.lx_slot_sums.specs.declared.making.Laid.{Laid}
use Rattle.lx_slot_sums.specs.declared.spread.Said.TheVariants as saying
use Rattle.lx_slot_sums.specs.declared.spread.Repeated.{Repeated}
use Rattle.lx_slot_sums.specs.declared.spread.Spread.{Spread}
use Rattle.lx_slot_sums.specs.declared.spread.Spread.TheVariants as spreading
use Rattle.lx_slot_sums.specs.declared.sums.SlotSum.{SlotSum}
use Rattle.lx_slot_sums.specs.Rows.{Edges, edge, edge_at, edges, moved, no_edges, put_in, whole}
use Rattle.lx_slot_sums.specs.Spreads.{Answers, Follows, IsRepeated, IsRow, IsSpread, Keeps, PutRow, Puts, Says, SaysRow, ends_element, said_behind, said_in_repeat, said_in_row, touching, with_field}
use Rattle.lx_slot_sums.specs.Sums.{Typing, joined, no_sum, sum_in}
use Rattle.lx_slot_sums.proofs.Answering.{follows_kept, none_has}
use Rattle.lx_slot_sums.proofs.Edges.{edge_last, rising_more, rising_one, rising_same}
use Rattle.lx_slot_sums.proofs.FieldLists.{array_with, array_without, here_before, here_behind, here_within}
use Rattle.lx_slot_sums.proofs.Joining.{join_lists, no_list}

-- sums of lists of which the first has none

pub sum_behind : (t : Typing) (xs ys : List FieldName) → no_sum ≡ sum_in t xs → sum_in t ys ≡ sum_in t (xs ++ ys)
sum_behind t xs ys h = ap (λ a. joined (differ t.interface) a (sum_in t ys)) h ∙ join_lists t.interface t.text xs ys

-- the fields with a field more

module _ (fields : ℕ → List FieldName) (names : List FieldName) (within : ℕ → List FieldName) (start size : ℕ) where
  not_here : (o : ℕ) → o < start → nat_eq o start ≡ false
  not_here o h = grind (arith, nat_tests, h)

  not_there : (o : ℕ) → start < o → nat_eq o start ≡ false
  not_there o h = grind (arith, nat_tests, h)

  at_start : nat_eq start start ≡ true
  at_start = grind (arith, nat_tests)

  pub field_before : (o : ℕ) → o < start → fields o ≡ with_field fields names within start size o
  field_before o h =
      sym ((λ j. (fields o ++ (if not_here o h j then names else [])) ++ here_before within start size o h j)
      ∙ append-nil (fields o ++ []) ∙ append-nil (fields o))

  pub field_at : (fields start ++ names) ++ within 0 ≡ with_field fields names within start size start
  field_at =
      let z : start - start ≡ 0 = omega arith in
      sym (λ j. (fields start ++ (if at_start j then names else [])) ++ (here_within within start size start (omega arith) (omega arith) ∙ ap within z) j)

  pub field_within : (o : ℕ) → start < o → o - start ≤ size → fields o ++ within (o - start) ≡ with_field fields names within start size o
  field_within o h l =
      sym ((λ j. (fields o ++ (if not_there o h j then names else [])) ++ here_within within start size o (omega (arith, h)) l j)
      ∙ ap (λ xs. xs ++ within (o - start)) (append-nil (fields o)))

  pub field_past : (o : ℕ) → start < o → size < o - start → fields o ≡ with_field fields names within start size o
  field_past o h l =
      sym ((λ j. (fields o ++ (if not_there o h j then names else [])) ++ here_behind within start size o (omega (arith, h)) l j)
      ∙ append-nil (fields o ++ []) ∙ append-nil (fields o))

-- an edge more

module _ (xs : List Spread) (e : Edge) (o : ℕ) (older : Option Edge) (s : SlotSum) where
  is_before : nat_le e.offset o ≡ false → o < e.offset
  is_before h = grind (arith, nat_tests, h)

  is_here : nat_eq e.offset o ≡ true → e.offset ≡ o
  is_here h = grind (arith, nat_tests, h)

  is_behind : nat_le e.offset o ≡ true → nat_eq e.offset o ≡ false → e.offset < o
  is_behind h k = grind (arith, nat_tests, h, k)

  module _ (before : o < e.offset → Follows xs (said_behind older o) s) (here : e.offset ≡ o → e.sum ≡ s) (behind : e.offset < o → Answers xs e.inside (o - e.offset) s) where
    by : (a b : Bool) → nat_le e.offset o ≡ a → nat_eq e.offset o ≡ b → Follows xs (said_behind (if a then Some e else older) o) s
    by false b p q = before (is_before p)
    by true true p q = subst (λ c. Follows xs (if c then saying.Sum e.sum else saying.Inside e.inside (o - e.offset)) s) (sym q) (here (is_here q))
    by true false p q = subst (λ c. Follows xs (if c then saying.Sum e.sum else saying.Inside e.inside (o - e.offset)) s) (sym q) (behind (is_behind p q))

    said_last : Follows xs (said_behind (if nat_le e.offset o then Some e else older) o) s
    said_last = by (nat_le e.offset o) (nat_eq e.offset o) refl refl

pub row_last : (xs : List Spread) (es : List Edge) (e : Edge) (o : ℕ) (s : SlotSum) → (o < e.offset → Follows xs (said_in_row es o) s) → (e.offset ≡ o → e.sum ≡ s) → (e.offset < o → Answers xs e.inside (o - e.offset) s) → Follows xs (said_in_row (es ++ e ∷ []) o) s
row_last xs es e o s before here behind = subst (λ r. Follows xs (said_behind r o) s) (sym (edge_last es e o)) (said_last xs e o (edge_at es o) s before here behind)

-- all edges say where the fields begin

pub whole_right : (t : Typing) (xs : List Spread) (r : Edges) (fields : ℕ → List FieldName) → IsRow t xs r fields → (o : ℕ) → Follows xs (said_in_row (whole r) o) (sum_in t (fields o))
whole_right t xs r fields h o =
    row_last xs r.done r.last o (sum_in t (fields o)) (h.before o)
    (λ e. h.here ∙ ap (λ k. sum_in t (fields k)) e)
    (λ l. subst (λ w. Answers xs w (o - r.last.offset) (sum_in t (fields o))) (sym h.unspread) (none_has xs (o - r.last.offset) (sum_in t (fields o)) (h.past o l)))

-- no fields

pub row_none : (t : Typing) (xs : List Spread) → IsRow t xs no_edges (λ o. [])
row_none t xs = record {
  rising = rising_one (edge 0 no_sum None);
  unspread = refl;
  before = λ o l. no_list t.interface t.text;
  here = no_list t.interface t.text;
  past = λ o l. no_list t.interface t.text;
}

-- on to where a field begins

pub record MovedRow (t : Typing) (xs : List Spread) (r : Edges) (start : ℕ) (fields : ℕ → List FieldName) : Type 0 where
  pub row : IsRow t xs r fields
  pub at : r.last.offset ≡ start

module _ (t : Typing) (xs : List Spread) (r : Edges) (start : ℕ) (fields : ℕ → List FieldName) (h : IsRow t xs r fields) (reach : r.last.offset ≤ start) where
  is_less : nat_lt r.last.offset start ≡ true → r.last.offset < start
  is_less e = grind (arith, nat_tests, e)

  is_same : nat_lt r.last.offset start ≡ false → r.last.offset ≡ start
  is_same e = grind (arith, nat_tests, e, reach)

  moved_by : (b : Bool) → nat_lt r.last.offset start ≡ b → MovedRow t xs (if b then edges (whole r) (edge start no_sum None) else r) start fields
  moved_by false e = record { row = h; at = is_same e }
  moved_by true e =
      let l = is_less e in
      record {
        row = record {
          rising = rising_more r.done r.last (edge start no_sum None) h.rising reach;
          unspread = refl;
          before = λ o k. whole_right t xs r fields h o;
          here = h.past start l;
          past = λ o k. h.past o (omega (arith, k, l));
        };
        at = refl;
      }

  pub moved_right : MovedRow t xs (moved r start) start fields
  moved_right = moved_by (nat_lt r.last.offset start) refl

-- a field at the last edge

module _ (t : Typing) (xs : List Spread) (r : Edges) (fields : ℕ → List FieldName) (h : IsRow t xs r fields) (inside : Option ℕ) (within : ℕ → List FieldName) (names : List FieldName) (sum last : SlotSum) (end : ℕ) where
  abbrev With : ℕ → List FieldName
  With = with_field fields names within r.last.offset (end - r.last.offset)

  module _ (ordered : r.last.offset ≤ end) (sum_is : sum ≡ sum_in t ((fields r.last.offset ++ names) ++ within 0)) (last_is : last ≡ sum_in t (within (end - r.last.offset))) where
    before_too : (o : ℕ) → o < r.last.offset → Follows xs (said_in_row r.done o) (sum_in t (With o))
    before_too o l = subst (λ fs. Follows xs (said_in_row r.done o) (sum_in t fs)) (field_before fields names within r.last.offset (end - r.last.offset) o l) (h.before o l)

    here_too : sum ≡ sum_in t (With r.last.offset)
    here_too = sum_is ∙ ap (sum_in t) (field_at fields names within r.last.offset (end - r.last.offset))

    past_too : (o : ℕ) → end < o → no_sum ≡ sum_in t (With o)
    past_too o l = h.past o (omega (arith, l, ordered)) ∙ ap (sum_in t) (field_past fields names within r.last.offset (end - r.last.offset) o (omega (arith, l, ordered)) (omega (arith, l, ordered)))

    inner : (o : ℕ) → r.last.offset < o → o ≤ end → sum_in t (within (o - r.last.offset)) ≡ sum_in t (With o)
    inner o l k = sum_behind t (fields o) (within (o - r.last.offset)) (h.past o l) ∙ ap (sum_in t) (field_within fields names within r.last.offset (end - r.last.offset) o l (omega (arith, l, k)))

    module _ (spread : (o : ℕ) → Answers xs inside o (sum_in t (within o))) where
      ends_later : nat_lt r.last.offset end ≡ true → r.last.offset < end
      ends_later e = grind (arith, nat_tests, e)

      ends_here : nat_lt r.last.offset end ≡ false → end ≡ r.last.offset
      ends_here e = grind (arith, nat_tests, e, ordered)

      started : (o : ℕ) → o < end → Follows xs (said_in_row (r.done ++ edge r.last.offset sum inside ∷ []) o) (sum_in t (With o))
      started o l =
          row_last xs r.done (edge r.last.offset sum inside) o (sum_in t (With o)) (before_too o)
          (λ e. here_too ∙ ap (λ k. sum_in t (With k)) e)
          (λ k. subst (Answers xs inside (o - r.last.offset)) (inner o k (omega (arith, l))) (spread (o - r.last.offset)))

      put_by : (b : Bool) → nat_lt r.last.offset end ≡ b → IsRow t xs (if b then edges (r.done ++ edge r.last.offset sum inside ∷ []) (edge end last None) else edges r.done (edge r.last.offset sum r.last.inside)) With
      put_by true e =
          let l = ends_later e in
          record {
            rising = rising_more r.done (edge r.last.offset sum inside) (edge end last None) (rising_same r.done r.last (edge r.last.offset sum inside) h.rising refl) ordered;
            unspread = refl;
            before = started;
            here = last_is ∙ inner end l (omega arith);
            past = past_too;
          }
      put_by false e =
          let z = ends_here e in
          record {
            rising = rising_same r.done r.last (edge r.last.offset sum r.last.inside) h.rising refl;
            unspread = h.unspread;
            before = before_too;
            here = here_too;
            past = λ o l. past_too o (omega (arith, l, z));
          }

      pub put_right : IsRow t xs (put_in r sum inside (edge end last None)) With
      put_right = put_by (nat_lt r.last.offset end) refl

put_reach : (r : Edges) (sum : SlotSum) (inside : Option ℕ) (e : Edge) → r.last.offset ≤ e.offset → (put_in r sum inside e).last.offset ≤ e.offset
put_reach r sum inside e h = by (nat_lt r.last.offset e.offset)
  where
    by : (b : Bool) → (if b then edges (r.done ++ edge r.last.offset sum inside ∷ []) e else edges r.done (edge r.last.offset sum r.last.inside)).last.offset ≤ e.offset
    by true = omega arith
    by false = h

-- as the code puts a field
module _ (t : Typing) (xs : List Spread) (r r1 r2 : Edges) (named first sum last : SlotSum) (field : Laid) where
  pub puts : r1 ≡ moved r field.start → r2 ≡ put_in r1 sum field.inside (edge field.end last None) → field.start ≤ field.end
      → ((fs ns gs : List FieldName) → r1.last.sum ≡ sum_in t fs → named ≡ sum_in t ns → first ≡ sum_in t gs → sum ≡ sum_in t ((fs ++ ns) ++ gs))
      → ((s : SlotSum) → Answers xs field.inside 0 s → first ≡ s) → ((s : SlotSum) → Answers xs field.inside (field.end - field.start) s → last ≡ s) → Puts t xs r r2 named field
  unfolding Puts IsSpread
  puts p q ordered join first_is last_is fields within names h spread named_is reach =
      let m : MovedRow t xs r1 field.start fields = subst (λ k. MovedRow t xs k field.start fields) (sym p) (moved_right t xs r field.start fields h reach) in
      let o : r1.last.offset ≤ field.end = subst (λ k. k ≤ field.end) (sym m.at) ordered in
      let f : first ≡ sum_in t (within 0) = first_is (sum_in t (within 0)) (spread 0) in
      let l : last ≡ sum_in t (within (field.end - r1.last.offset)) = last_is (sum_in t (within (field.end - field.start))) (spread (field.end - field.start)) ∙ ap (λ k. sum_in t (within (field.end - k))) (sym m.at) in
      let s : sum ≡ sum_in t ((fields r1.last.offset ++ names) ++ within 0) = join (fields r1.last.offset) names (within 0) m.row.here named_is f in
      let z : IsRow t xs (put_in r1 sum field.inside (edge field.end last None)) (with_field fields names within r1.last.offset (field.end - r1.last.offset)) = put_right t xs r1 fields m.row field.inside within names sum last field.end o s l spread in
      subst (λ k. PutRow t xs k field.end (with_field fields names within field.start (field.end - field.start))) (sym q)
      (record {
        row = subst (λ k. IsRow t xs (put_in r1 sum field.inside (edge field.end last None)) (with_field fields names within k (field.end - k))) m.at z;
        reach = put_reach r1 sum field.inside (edge field.end last None) o;
      })

-- the fields of a struct, as the loop goes over them
pub next_row : (t : Typing) (xs : List Spread) (r : Edges) (fields more : ℕ → List FieldName) (names : List FieldName) (within : ℕ → List FieldName) (start size end : ℕ) → end ≡ start + size → ((o : ℕ) → with_field fields names within start size o ≡ more o) → IsRow t xs r (with_field fields names within start (end - start)) → IsRow t xs r more
next_row t xs r fields more names within start size end e same h =
    let z : end - start ≡ size = omega (arith, e) in
    subst (IsRow t xs r) (λ j o. same o j) (subst (λ n. IsRow t xs r (with_field fields names within start n)) z h)

pub row_kept : (t : Typing) (xs ys : List Spread) (r : Edges) (fields : ℕ → List FieldName) → Keeps xs ys → IsRow t xs r fields → IsRow t ys r fields
row_kept t xs ys r fields k h = record {
  rising = h.rising;
  unspread = h.unspread;
  before = λ o l. follows_kept xs ys (said_in_row r.done o) (sum_in t (fields o)) k (h.before o l);
  here = h.here;
  past = h.past;
}

pub row_is : (t : Typing) (xs : List Spread) (r q : Edges) (fields : ℕ → List FieldName) → r ≡ q → IsRow t xs q fields → IsRow t xs r fields
row_is t xs r q fields e h = subst (λ k. IsRow t xs k fields) (sym e) h

pub row_says : (t : Typing) (xs : List Spread) (r : Edges) (es : List Edge) (fields : ℕ → List FieldName) → es ≡ whole r → IsRow t xs r fields → SaysRow t xs es fields
row_says t xs r es fields e h = subst (λ l. SaysRow t xs l fields) (sym e) (record { rising = h.rising; right = whole_right t xs r fields h })

-- arrays

module _ (t : Typing) (xs : List Spread) (es : List Edge) (within : ℕ → List FieldName) (count size : ℕ) (begin : SlotSum) where
  is_start : (o : ℕ) → 0 ≡ o → true ≡ nat_eq o 0
  is_start o e = grind (arith, nat_tests, e)

  not_start : (o : ℕ) → 0 < o → nat_eq o 0 ≡ false
  not_start o e = grind (arith, nat_tests, e)

  pub point_says : size ≡ 0 → es ≡ edge 0 begin None ∷ [] → begin ≡ sum_in t (if nat_lt 0 count then within 0 else []) → SaysRow t xs es (array_fields_at within count size)
  point_says z e b =
      let is : (o : ℕ) → array_fields_at within count size o ≡ (if nat_lt 0 count && nat_eq o 0 then within 0 else []) = λ o. array_without within count size o z in
      subst (λ l. SaysRow t xs l (array_fields_at within count size)) (sym e)
      (record {
        rising = rising_one (edge 0 begin None);
        right = λ o.
            row_last xs [] (edge 0 begin None) o (sum_in t (array_fields_at within count size o)) (λ l. absurd (omega (arith, l)))
            (λ q. b ∙ ap (λ c. sum_in t (if c then within 0 else [])) (and_true (nat_lt 0 count) ∙ ap (λ d. nat_lt 0 count && d) (is_start o q)) ∙ ap (sum_in t) (sym (is o)))
            (λ l. none_has xs (o - 0) (sum_in t (array_fields_at within count size o)) (no_list t.interface t.text ∙ ap (sum_in t) (sym (is o ∙ ap (λ d. if nat_lt 0 count && d then within 0 else []) (not_start o l) ∙ ap (λ d. if d then within 0 else []) (and_false (nat_lt 0 count))))));
      })

module _ (t : Typing) (xs : List Spread) (r : Repeated) (within : ℕ → List FieldName) (begin_is : r.begin ≡ sum_in t (within 0)) (end_is : r.end ≡ sum_in t (within r.size)) (between_is : r.between ≡ sum_in t (within 0 ++ within r.size)) (spread : (o : ℕ) → Answers xs r.inside o (sum_in t (within o))) where
  touches : (p q : Bool) (k : ℕ) → k ≡ 0 → touching r p q ≡ sum_in t ((if p then within k else []) ++ (if q then within r.size else []))
  touches true true k e = between_is ∙ ap (λ n. sum_in t (within n ++ within r.size)) (sym e)
  touches true false k e = begin_is ∙ ap (λ n. sum_in t (within n)) (sym e) ∙ ap (sum_in t) (sym (append-nil (within k)))
  touches false true k e = end_is
  touches false false k e = no_list t.interface t.text

  inside_by : (p : Bool) (k : ℕ) → Follows xs (if p then saying.Inside r.inside k else saying.Sum no_sum) (sum_in t ((if p then within k else []) ++ []))
  inside_by true k = subst (λ fs. Answers xs r.inside k (sum_in t fs)) (sym (append-nil (within k))) (spread k)
  inside_by false k = no_list t.interface t.text

  no_end : (a c : Bool) → (a && (false && c)) ≡ false
  no_end true c = refl
  no_end false c = refl

  is_zero : (k : ℕ) → nat_eq k 0 ≡ true → k ≡ 0
  is_zero k e = grind (arith, nat_tests, e)

  by_rest : (o : ℕ) (z : Bool) → nat_eq (o % r.size) 0 ≡ z
      → Follows xs (if z then saying.Sum (touching r (nat_lt (o / r.size) r.count) (ends_element r.size r.count o)) else (if nat_lt (o / r.size) r.count then saying.Inside r.inside (o % r.size) else saying.Sum no_sum))
      (sum_in t ((if nat_lt (o / r.size) r.count then within (o % r.size) else []) ++ (if ends_element r.size r.count o then within r.size else [])))
  by_rest o true e = touches (nat_lt (o / r.size) r.count) (ends_element r.size r.count o) (o % r.size) (is_zero (o % r.size) e)
  by_rest o false e =
      let n : ends_element r.size r.count o ≡ false = ap (λ d. nat_lt 0 o && (d && nat_le (o / r.size) r.count)) e ∙ no_end (nat_lt 0 o) (nat_le (o / r.size) r.count) in
      subst (λ d. Follows xs (if nat_lt (o / r.size) r.count then saying.Inside r.inside (o % r.size) else saying.Sum no_sum) (sum_in t ((if nat_lt (o / r.size) r.count then within (o % r.size) else []) ++ (if d then within r.size else [])))) (sym n)
      (inside_by (nat_lt (o / r.size) r.count) (o % r.size))

  repeat_right : 0 < r.size → (o : ℕ) → Follows xs (said_in_repeat r o) (sum_in t (array_fields_at within r.count r.size o))
  repeat_right l o = subst (λ fs. Follows xs (said_in_repeat r o) (sum_in t fs)) (sym (array_with within r.count r.size o l)) (by_rest o (nat_eq (o % r.size) 0) refl)

pub repeat_says : (t : Typing) (xs : List Spread) (r : Repeated) (within : ℕ → List FieldName) (size count : ℕ) (inside : Option ℕ) → 0 < size → IsRepeated t r within size count inside → IsSpread t xs inside within → Says t xs (spreading.Repeat r) (array_fields_at within count size)
unfolding IsSpread
repeat_says t xs r within size count inside l h spread =
    let p : 0 < r.size = subst (λ n. 0 < n) (sym h.size_is) l in
    let e : r.end ≡ sum_in t (within r.size) = h.end_is ∙ ap (λ n. sum_in t (within n)) (sym h.size_is) in
    let b : r.between ≡ sum_in t (within 0 ++ within r.size) = h.between_is ∙ ap (λ n. sum_in t (within 0 ++ within n)) (sym h.size_is) in
    let s : (o : ℕ) → Answers xs r.inside o (sum_in t (within o)) = subst (λ w. (o : ℕ) → Answers xs w o (sum_in t (within o))) (sym h.inside_is) spread in
    record {
      ordered = p;
      right = λ o. subst (λ fs. Follows xs (said_in_repeat r o) (sum_in t fs)) (λ j. array_fields_at within (h.count_is j) (h.size_is j) o) (repeat_right t xs r within h.begin_is e b s p o);
    }

pub first_if : (t : Typing) (xs : List Spread) (w : Option ℕ) (within : ℕ → List FieldName) (holds : Bool) (r : SlotSum) → holds ≡ true → ((s : SlotSum) → Answers xs w 0 s → r ≡ s) → IsSpread t xs w within → r ≡ sum_in t (if holds then within 0 else [])
unfolding IsSpread
first_if t xs w within holds r e is h = is (sum_in t (within 0)) (h 0) ∙ ap (λ b. sum_in t (if b then within 0 else [])) (sym e)

pub sum_is : (t : Typing) (xs : List Spread) (w : Option ℕ) (within : ℕ → List FieldName) (o : ℕ) (r : SlotSum) → ((s : SlotSum) → Answers xs w o s → r ≡ s) → IsSpread t xs w within → r ≡ sum_in t (within o)
unfolding IsSpread
sum_is t xs w within o r is h = is (sum_in t (within o)) (h o)

pub put_row : (t : Typing) (xs : List Spread) (r q : Edges) (named : SlotSum) (field : Laid) (fields within : ℕ → List FieldName) (names : List FieldName) → Puts t xs r q named field → IsRow t xs r fields → IsSpread t xs field.inside within → named ≡ sum_in t names → r.last.offset ≤ field.start → PutRow t xs q field.end (with_field fields names within field.start (field.end - field.start))
unfolding Puts
put_row t xs r q named field fields within names p h s e l = p fields within names h s e l
