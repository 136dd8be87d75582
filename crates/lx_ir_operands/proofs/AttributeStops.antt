-- A fault in the words behind a call hangs on the tokens up to its own, and on that what follows makes no label of it.
use Rattle.std.proofs.Common.{◌≡◌, ℕ, zero, suc, ◌+◌, ◌≤◌, ◌<◌, Bool, true, false, Option, Some, None, List, [], ◌∷◌, ◌++◌, length, Ok, Err, refl, sym, ap, ◌∙◌, subst, append_assoc, arith}
use Rattle.std.specs.Prelude.{if◌then◌else◌, not}
use Rattle.std.proofs.lemmas.List.{length-append}
use Rattle.lx_ir_tokens.specs.declared.token.Tok.{Tok}
use Rattle.lx_ir_tokens.specs.declared.token.Kind.{Kind}
use Rattle.lx_ir_tokens.specs.declared.token.Kind.TheVariants as kinds
use Rattle.lx_ir_tokens.specs.declared.token.Mark.TheVariants.{Hash, Colon}
use Rattle.lx_ir_tokens.specs.declared.keyword.Keyword.{Keyword}
use Rattle.lx_ir_tokens.specs.declared.keyword.Keyword.TheVariants as keywords
use Rattle.lx_ir_tokens.specs.Keywords.{is_behind_parentheses}
use Rattle.lx_ir_terms.specs.declared.fault.Fault.{Fault}
use Rattle.lx_ir_terms.specs.Reading.{Read, ◌>>=◌, at, has, is_mark, picked}
use Rattle.lx_ir_terms.specs.Words.{count_over}
use Rattle.lx_ir_terms.specs.Laws.{Stops}
use Rattle.lx_ir_terms.proofs.Marks.{mark_is}
use Rattle.lx_ir_terms.proofs.Stopping.{next_stops, first_same, same_head}
use Rattle.lx_ir_constants.specs.Constants.{word_refusal}
use Rattle.lx_ir_operands.specs.Steps.{steps_at, may_be_label, has_attribute, is_idle_word, is_text, attribute_in, attribute_tail, one_attribute_at, attributes_at}
use Rattle.lx_ir_operands.specs.Grammar.{IsAttribute}
use Rattle.lx_ir_operands.specs.Laws.{NoLabel, StopsBefore}
use Rattle.lx_ir_operands.proofs.AttributeLaws.{Behind, not_a_label, word_goes, over_attributes, attribute_word, attribute_step, attribute_by}
use Rattle.lx_ir_operands.proofs.ListedStops.{count_stops, filled_with}
use Rattle.lx_ir_operands.proofs.Repeats.{Front}

-- a step stops, and so does the test up to there
record Guarded (ts : List Tok) (fault : Fault) : Type 0 where
  front : List Tok
  rest : List Tok
  whole : ts ≡ front ++ rest
  left : fault.left ≡ length rest
  starts : (t : Tok) (more us : List Tok) → rest ≡ t ∷ more → Behind (front ++ t ∷ us)
  goes : (t : Tok) (more us : List Tok) → rest ≡ t ∷ more → Behind us → has_attribute (front ++ t ∷ us) ≡ true
  again : (t : Tok) (more us : List Tok) → rest ≡ t ∷ more → Behind us → one_attribute_at (front ++ t ∷ us) ≡ Err (at fault.kind (t ∷ us))

begins_with : (t : Tok) (us : List Tok) → is_mark Colon t.kind ≡ false → Behind (t ∷ us)
begins_with t us h = record { some = refl; no_colon = h }

-- `#`

group_stops : (t : Tok) (ts : List Tok) (f : Fault) → is_mark Hash t.kind ≡ true → count_over ts ≡ Err f → Guarded (t ∷ ts) f
group_stops t ts f k e =
    let h = mark_is Hash t.kind k in
    let s = count_stops ts f e in
    record {
      front = t ∷ s.front;
      rest = s.rest;
      whole = ap (λ us. t ∷ us) s.whole;
      left = s.left;
      starts = λ u more us c. begins_with t (s.front ++ u ∷ us) (rw h refl);
      goes = λ u more us c b. rw h refl;
      again = λ u more us c b. rw h (s.again u more us c);
    }

-- A word.

abbrev word_in : Kind → Keyword
word_in (kinds.Word w) = w
word_in k = keywords.Other

idle_is_word : (k : Kind) → is_idle_word k ≡ true → k ≡ kinds.Word (word_in k)
idle_is_word (kinds.Word w) h = refl
idle_is_word k h = cc

goes_by : (a b c : Bool) → (if a then true else if b then not c else false) ≡ true → a ≡ false → (b ≡ true) × (c ≡ false)
goes_by true b c h n = cc
goes_by false true true h n = cc
goes_by false true false h n = (refl, refl)
goes_by false false c h n = cc

behind_a_word : (t : Tok) (ts : List Tok) → may_be_label (t ∷ ts) ≡ false → Behind ts
behind_a_word t [] h = cc
behind_a_word t (u ∷ us) h = record { some = refl; no_colon = h }

tail_stops : (w : Keyword) (ts : List Tok) (f : Fault) → is_behind_parentheses w ≡ true → attribute_tail w ts ≡ Err f → Stops (attribute_tail w) ts f
tail_stops keywords.Attribute ts f h e = cc
tail_stops keywords.Align ts f h e = count_stops ts f e
tail_stops keywords.Section ts f h e = next_stops is_text ts f e
tail_stops w ts f h e = cc

word_reads : (t : Tok) (us : List Tok) (w : Keyword) → t.kind ≡ kinds.Word w → attribute_in t.kind ≡ Some w → one_attribute_at (t ∷ us) ≡ attribute_tail w us
word_reads t us w k a =
    let h : is_mark Hash t.kind ≡ false = rw k refl in
    rw (h, a) refl

word_refused : (t : Tok) (us : List Tok) → is_mark Hash t.kind ≡ false → attribute_in t.kind ≡ None → one_attribute_at (t ∷ us) ≡ Err (at (word_refusal t.kind) (t ∷ us))
word_refused t us h a = rw (h, a) refl

word_stops : (t : Tok) (ts : List Tok) (f : Fault) (w : Keyword) (found : Option Keyword) → t.kind ≡ kinds.Word w → is_idle_word t.kind ≡ true → Behind ts → attribute_in t.kind ≡ found → (picked found (word_refusal t.kind) (t ∷ ts) >>= λ v. attribute_tail v.0 v.1) ≡ Err f → Guarded (t ∷ ts) f
word_stops t ts f w None k i b a e =
    let s : at (word_refusal t.kind) (t ∷ ts) ≡ f = cc in
    let h : is_mark Hash t.kind ≡ false = rw k refl in
    let n : is_mark Colon t.kind ≡ false = rw k refl in
    let j : is_idle_word (kinds.Word w) ≡ true = ap is_idle_word (sym k) ∙ i in
    record {
      front = [];
      rest = t ∷ ts;
      whole = refl;
      left = ap (λ (g : Fault). g.left) (sym s);
      starts = λ u more us c. subst (λ v. Behind (v ∷ us)) (same_head t u ts more c) (begins_with t us n);
      goes = λ u more us c q. subst (λ v. has_attribute (v ∷ us) ≡ true) (same_head t u ts more c) (word_goes t w us k j (not_a_label t us q));
      again = λ u more us c q. subst (λ v. one_attribute_at (v ∷ us) ≡ Err (at f.kind (v ∷ us))) (same_head t u ts more c) (word_refused t us h a ∙ ap (λ (g : Fault). Err (at g.kind (t ∷ us))) s);
    }
word_stops t ts f w (Some v) k i b a e =
    let m = attribute_word t.kind v a in
    let s = tail_stops v ts f m.1 e in
    let n : is_mark Colon t.kind ≡ false = rw k refl in
    let j : is_idle_word (kinds.Word w) ≡ true = ap is_idle_word (sym k) ∙ i in
    record {
      front = t ∷ s.front;
      rest = s.rest;
      whole = ap (λ us. t ∷ us) s.whole;
      left = s.left;
      starts = λ u more us c. begins_with t (s.front ++ u ∷ us) n;
      goes = λ u more us c q.
          let some : has (λ k. true) (s.front ++ u ∷ us) ≡ true = first_same (λ k. true) ts s.front s.rest more us u s.whole c ∙ b.some in
          let no_colon : has (is_mark Colon) (s.front ++ u ∷ us) ≡ false = first_same (is_mark Colon) ts s.front s.rest more us u s.whole c ∙ b.no_colon in
          word_goes t w (s.front ++ u ∷ us) k j (not_a_label t (s.front ++ u ∷ us) (record { some = some; no_colon = no_colon }));
      again = λ u more us c q. word_reads t (s.front ++ u ∷ us) v m.0 a ∙ s.again u more us c;
    }

one_step : (b : Bool) (t : Tok) (ts : List Tok) (f : Fault) → is_mark Hash t.kind ≡ b → has_attribute (t ∷ ts) ≡ true → attribute_by b (t ∷ ts) ≡ Err f → Guarded (t ∷ ts) f
one_step true t ts f h g e = group_stops t ts f h e
one_step false t ts f h g e =
    let w = goes_by (is_mark Hash t.kind) (is_idle_word t.kind) (may_be_label (t ∷ ts)) g h in
    word_stops t ts f (word_in t.kind) (attribute_in t.kind) (idle_is_word t.kind w.0) w.0 (behind_a_word t ts w.1) refl e

one_stops : (ts : List Tok) (f : Fault) → has_attribute ts ≡ true → one_attribute_at ts ≡ Err f → Guarded ts f
one_stops [] f g e = cc
one_stops (t ∷ ts) f g e = one_step (is_mark Hash t.kind) t ts f refl g e

-- Words one after the other.

record Within (ts : List Tok) (fault : Fault) : Type 0 where
  front : List Tok
  rest : List Tok
  whole : ts ≡ front ++ rest
  left : fault.left ≡ length rest
  starts : (t : Tok) (more us : List Tok) → rest ≡ t ∷ more → Behind (front ++ t ∷ us)
  again : (fuel : ℕ) (t : Tok) (more us : List Tok) → rest ≡ t ∷ more → Behind us → length (front ++ t ∷ us) ≤ fuel → steps_at has_attribute one_attribute_at fuel (front ++ t ∷ us) ≡ Err (at fault.kind (t ∷ us))

step_fault : (go : List Tok → Bool) (step rest : List Tok → Read (Unit {0})) (vs : List Tok) (g : Fault) → go vs ≡ true → step vs ≡ Err g → (if go vs then (step vs >>= λ x. rest x.1) else Ok (tt, vs)) ≡ Err g
step_fault go step rest vs g o e = rw (o, e) refl

step_on : (go : List Tok → Bool) (step rest : List Tok → Read (Unit {0})) (vs us : List Tok) (x : Unit {0}) (g : Fault) → go vs ≡ true → step vs ≡ Ok (x, us) → rest us ≡ Err g → (if go vs then (step vs >>= λ x. rest x.1) else Ok (tt, vs)) ≡ Err g
step_on go step rest vs us x g o e h = rw (o, e) h

fault_again : (vs : List Tok) (g : Fault) (fuel : ℕ) → has_attribute vs ≡ true → one_attribute_at vs ≡ Err g → 0 < length vs → length vs ≤ fuel → steps_at has_attribute one_attribute_at fuel vs ≡ Err g
unfolding steps_at
fault_again vs g zero o e some le = absurd (omega (arith, some, le))
fault_again vs g (suc fuel) o e some le = step_fault has_attribute one_attribute_at (steps_at has_attribute one_attribute_at fuel) vs g o e

step_again : (vs us : List Tok) (x : Unit {0}) (g : Fault) (fuel : ℕ) → has_attribute vs ≡ true → one_attribute_at vs ≡ Ok (x, us) → ((n : ℕ) → length us ≤ n → steps_at has_attribute one_attribute_at n us ≡ Err g) → length us < length vs → length vs ≤ fuel → steps_at has_attribute one_attribute_at fuel vs ≡ Err g
unfolding steps_at
step_again vs us x g zero o e h lt le = absurd (omega (arith, lt, le))
step_again vs us x g (suc fuel) o e h lt le = step_on has_attribute one_attribute_at (steps_at has_attribute one_attribute_at fuel) vs us x g o e (h fuel (omega (arith, lt, le)))

abbrev Further : ℕ → Type 0
Further fuel = (ts : List Tok) (f : Fault) → length ts ≤ fuel → steps_at has_attribute one_attribute_at fuel ts ≡ Err f → Within ts f

finds : (ts us : List Tok) (x : Unit {0}) → one_attribute_at ts ≡ Ok (x, us) → Front IsAttribute ts us
finds ts us x e = attribute_step (has (is_mark Hash) ts) ts us x refl e

abbrev behind_by : Read (Unit {0}) → ℕ → Read (Unit {0})
behind_by r fuel = r >>= λ x. steps_at has_attribute one_attribute_at fuel x.1

item_step : (fuel : ℕ) → Further fuel → (ts : List Tok) (f : Fault) (r : Read (Unit {0})) → has_attribute ts ≡ true → length ts ≤ suc fuel → one_attribute_at ts ≡ r → behind_by r fuel ≡ Err f → Within ts f
item_step fuel further ts f (Err d) g le w e =
    let same : d ≡ f = cc in
    let s = one_stops ts d g w in
    record {
      front = s.front;
      rest = s.rest;
      whole = s.whole;
      left = ap (λ (k : Fault). k.left) (sym same) ∙ s.left;
      starts = s.starts;
      again = λ m t more us c b l. fault_again (s.front ++ t ∷ us) (at d.kind (t ∷ us)) m (s.goes t more us c b) (s.again t more us c b) (filled_with s.front t us) l ∙ ap (λ (k : Fault). Err (at k.kind (t ∷ us))) same;
    }
item_step fuel further ts f (Ok x) g le w e =
    let front = finds ts x.1 x.0 w in
    let some = over_attributes.filled front.0 front.1 in
    let size : length ts ≡ length front.0 + length x.1 = ap length front.2 ∙ length-append front.0 x.1 in
    let s = further x.1 f (omega (arith, le, size, some)) e in
    record {
      front = front.0 ++ s.front;
      rest = s.rest;
      whole = front.2 ∙ (ap (λ us. front.0 ++ us) s.whole ∙ sym (append_assoc front.0 s.front s.rest));
      left = s.left;
      starts = λ t more us c. subst Behind (sym (append_assoc front.0 s.front (t ∷ us))) (over_attributes.keeps front.0 (s.front ++ t ∷ us) front.1 (s.starts t more us c));
      again = λ m t more us c b l.
          let tail = append_assoc front.0 s.front (t ∷ us) in
          let k = s.starts t more us c in
          let z : length ((front.0 ++ s.front) ++ t ∷ us) ≡ length front.0 + length (s.front ++ t ∷ us) = ap length tail ∙ length-append front.0 (s.front ++ t ∷ us) in
          step_again ((front.0 ++ s.front) ++ t ∷ us) (s.front ++ t ∷ us) tt (at f.kind (t ∷ us)) m
          (ap has_attribute tail ∙ over_attributes.goes front.0 (s.front ++ t ∷ us) front.1 k)
          (ap one_attribute_at tail ∙ over_attributes.reads front.0 (s.front ++ t ∷ us) front.1 k)
          (λ n q. s.again n t more us c b q)
          (omega (arith, z, some))
          l;
    }

abbrev steps_by : Bool → List Tok → ℕ → Read (Unit {0})
steps_by b ts fuel = if b then behind_by (one_attribute_at ts) fuel else Ok (tt, ts)

row_step : (fuel : ℕ) → Further fuel → (ts : List Tok) (f : Fault) (b : Bool) → has_attribute ts ≡ b → length ts ≤ suc fuel → steps_by b ts fuel ≡ Err f → Within ts f
row_step fuel further ts f false g le e = cc
row_step fuel further ts f true g le e = item_step fuel further ts f (one_attribute_at ts) g le refl e

within : (fuel : ℕ) → Further fuel
unfolding steps_at
within zero ts f le e = cc
within (suc fuel) ts f le e = row_step fuel (within fuel) ts f (has_attribute ts) refl le e

pub attributes_stop : (ts : List Tok) (f : Fault) → attributes_at ts ≡ Err f → StopsBefore NoLabel attributes_at ts f
attributes_stop ts f e =
    let s = within (length ts) ts f (omega arith) e in
    record {
      front = s.front;
      rest = s.rest;
      whole = s.whole;
      left = s.left;
      again = λ t more us c b. s.again (length (s.front ++ t ∷ us)) t more us c (record { some = b.some; no_colon = b.no_colon }) (omega arith);
    }
