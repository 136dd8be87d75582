-- A fault in parts one after the other hangs on the tokens up to its own.
use Rattle.std.proofs.Common.{◌≡◌, ℕ, zero, suc, ◌+◌, ◌≤◌, ◌<◌, Bool, true, false, List, [], ◌∷◌, ◌++◌, length, Ok, Err, refl, sym, ap, ◌∙◌, subst, append_assoc, arith}
use Rattle.std.specs.Prelude.{◌≡◌, None, if◌then◌else◌, not}
use Rattle.std.proofs.lemmas.List.{length-append, append-nil}
use Rattle.lx_ir_tokens.specs.declared.token.Tok.{Tok}
use Rattle.lx_ir_tokens.specs.declared.token.Kind.{Kind}
use Rattle.lx_ir_tokens.specs.declared.token.Kind.TheVariants as kinds
use Rattle.lx_ir_tokens.specs.declared.token.Mark.TheVariants.{Comma, Exclamation, OpenBracket, CloseBracket, OpenParenthesis, CloseParenthesis}
use Rattle.lx_ir_tokens.specs.declared.keyword.Keyword.{Keyword}
use Rattle.lx_ir_tokens.specs.declared.keyword.Keyword.TheVariants as keywords
use Rattle.lx_ir.specs.declared.types.Scalar.{Scalar}
use Rattle.lx_ir.specs.declared.instr.SwitchCase.{SwitchCase}
use Rattle.lx_ir_terms.specs.declared.fault.Fault.{Fault}
use Rattle.lx_ir_terms.specs.declared.fault.FaultKind.TheVariants.{Statement}
use Rattle.lx_ir_terms.specs.Context.{Context}
use Rattle.lx_ir_terms.specs.Reading.{Read, ◌>>=◌, at, refused, has, behind, is_mark, pick_at, next_at, mark_at}
use Rattle.lx_ir_terms.specs.Types.{count_in, count_at, always_refused}
use Rattle.lx_ir_terms.specs.Words.{is_passed, is_nothing_word, count_over, enclosed_count_at, enclosed_nothing_at, tail_at, word_of_kind, passed_at}
use Rattle.lx_ir_terms.specs.Grammar.{Part}
use Rattle.lx_ir_terms.specs.Laws.{Reads, Finds, Stops}
use Rattle.lx_ir_terms.proofs.Marks.{next_token}
use Rattle.lx_ir_terms.proofs.Parts.{ok_same, pick_reads, next_reads, pick_finds, next_finds}
use Rattle.lx_ir_terms.proofs.Stopping.{Refuses, pick_stops, next_stops, bind_stops, last_stops, behind_stops, first_same}
use Rattle.lx_ir_constants.specs.Constants.{when, word_refusal}
use Rattle.lx_ir_constants.proofs.ConstantStops.{form_stops}
use Rattle.lx_ir_constants.proofs.PointerLaws.{form_reads, form_finds}
use Rattle.lx_ir_constants.proofs.InitStops.{same_stops}
use Rattle.lx_ir_operands.specs.Steps.{steps_at, items_while, has_further, unbroken_at, is_metadata_name, one_metadata_at, has_comma, metadata_at, is_align, one_align_at, align_at}
use Rattle.lx_ir_operands.specs.Operands.{typed_at, edge_at, case_at, has_case, some_cases_at, cases_at}
use Rattle.lx_ir_operands.specs.Grammar.{IsMetadata, IsPassed, IsTyped, IsEdge, IsCase}
use Rattle.lx_ir_operands.proofs.FlagLaws.{typed_reads, typed_finds}
use Rattle.lx_ir_operands.proofs.ListedLaws.{edge_reads, edge_finds, edge_no_metadata, typed_no_metadata, case_finds, through_cases, closed_cases}
use Rattle.lx_ir_operands.proofs.OperandStops.{typed_stops, edge_stops, case_stops}
use Rattle.lx_ir_operands.proofs.PassedLaws.{IsName, Anything, name_finds, over_metadata, over_word, over_words, words_are_steps, word_finds, align_by}
use Rattle.lx_ir_operands.proofs.Repeats.{GoesOver, StepFinds, GoesThrough, ItemFinds, with_rest, row_by, behind_found}
use Rattle.lx_ir_operands.proofs.Unbroken.{NoMetadata, WithComma, goes_through, further_comma}

-- Items.

-- a step stops, and so does the test up to there
pub record Guarded {A : Type 0} (go : List Tok → Bool) (step : List Tok → Read A) (ts : List Tok) (fault : Fault) : Type 0 where
  pub front : List Tok
  pub rest : List Tok
  pub whole : ts ≡ front ++ rest
  pub left : fault.left ≡ length rest
  pub goes : (t : Tok) (more us : List Tok) → rest ≡ t ∷ more → go (front ++ t ∷ us) ≡ true
  pub again : (t : Tok) (more us : List Tok) → rest ≡ t ∷ more → step (front ++ t ∷ us) ≡ Err (at fault.kind (t ∷ us))

abbrev pub StepStops : {A : Type 0} → (List Tok → Bool) → (List Tok → Read A) → Type 0
StepStops go step = (ts : List Tok) (f : Fault) → go ts ≡ true → step ts ≡ Err f → Guarded go step ts f

-- the test sees the first token alone
pub first_guarded : {A : Type 0} (p : Kind → Bool) (step : List Tok → Read A) (ts : List Tok) (f : Fault) → has p ts ≡ true → Stops step ts f → Guarded (has p) step ts f
first_guarded p step ts f o s = record {
  front = s.front;
  rest = s.rest;
  whole = s.whole;
  left = s.left;
  goes = λ t more us c. first_same p ts s.front s.rest more us t s.whole c ∙ o;
  again = s.again;
}

record Within {A : Type 0} (go : List Tok → Bool) (step : List Tok → Read A) (ts : List Tok) (fault : Fault) : Type 0 where
  front : List Tok
  rest : List Tok
  whole : ts ≡ front ++ rest
  left : fault.left ≡ length rest
  again : (fuel : ℕ) (t : Tok) (more us : List Tok) → rest ≡ t ∷ more → length (front ++ t ∷ us) ≤ fuel → items_while go step fuel (front ++ t ∷ us) ≡ Err (at fault.kind (t ∷ us))

-- an item before those that are read
abbrev with_first : {A : Type 0} → A → Read (List A) → Read (List A)
with_first x r = r >>= λ xs. Ok (x ∷ xs.0, xs.1)

rest_fails : {A : Type 0} (x : A) (r : Read (List A)) (f : Fault) → with_first x r ≡ Err f → r ≡ Err f
rest_fails x (Ok xs) f e = cc
rest_fails x (Err d) f e = let s : d ≡ f = cc in ap Err s

fault_again : {A : Type 0} (go : List Tok → Bool) (step : List Tok → Read A) (vs : List Tok) (g : Fault) (fuel : ℕ) → go vs ≡ true → step vs ≡ Err g → 0 < length vs → length vs ≤ fuel → items_while go step fuel vs ≡ Err g
unfolding items_while
fault_again go step vs g zero o e some le = absurd (omega (arith, some, le))
fault_again go step vs g (suc fuel) o e some le = rw (o, e) refl

item_again : {A : Type 0} (go : List Tok → Bool) (step : List Tok → Read A) (vs us : List Tok) (x : A) (g : Fault) (fuel : ℕ) → go vs ≡ true → step vs ≡ Ok (x, us) → ((n : ℕ) → length us ≤ n → items_while go step n us ≡ Err g) → length us < length vs → length vs ≤ fuel → items_while go step fuel vs ≡ Err g
unfolding items_while
item_again go step vs us x g zero o e h lt le = absurd (omega (arith, lt, le))
item_again go step vs us x g (suc fuel) o e h lt le = rw (o, e, h fuel (omega (arith, lt, le))) refl

-- further items are read so
abbrev Further : {A : Type 0} → (List Tok → Bool) → (List Tok → Read A) → ℕ → Type 0
Further go step fuel = (ts : List Tok) (f : Fault) → length ts ≤ fuel → items_while go step fuel ts ≡ Err f → Within go step ts f

pub filled_with : (front : List Tok) (t : Tok) (us : List Tok) → 0 < length (front ++ t ∷ us)
filled_with front t us = let size = length-append front (t ∷ us) in omega (arith, size)

item_step : {A : Type 0} (go : List Tok → Bool) (step : List Tok → Read A) (part : A → Part) → GoesThrough go step part → ItemFinds go step part → StepStops go step → (fuel : ℕ) → Further go step fuel → (ts : List Tok) (f : Fault) (r : Read A) → go ts ≡ true → length ts ≤ suc fuel → step ts ≡ r → (r >>= with_rest (items_while go step fuel)) ≡ Err f → Within go step ts f
item_step go step part through finds stops fuel further ts f (Err d) g le w e =
    let same : d ≡ f = cc in
    let s = stops ts d g w in
    record {
      front = s.front;
      rest = s.rest;
      whole = s.whole;
      left = ap (λ (k : Fault). k.left) (sym same) ∙ s.left;
      again = λ m t more us c l. fault_again go step (s.front ++ t ∷ us) (at d.kind (t ∷ us)) m (s.goes t more us c) (s.again t more us c) (filled_with s.front t us) l ∙ ap (λ (k : Fault). Err (at k.kind (t ∷ us))) same;
    }
item_step go step part through finds stops fuel further ts f (Ok x) g le w e =
    let front = finds ts x.1 x.0 g w in
    let some = through.filled x.0 front.0 front.1 in
    let size : length ts ≡ length front.0 + length x.1 = ap length front.2 ∙ length-append front.0 x.1 in
    let s = further x.1 f (omega (arith, le, size, some)) (rest_fails x.0 (items_while go step fuel x.1) f e) in
    record {
      front = front.0 ++ s.front;
      rest = s.rest;
      whole = front.2 ∙ (ap (λ us. front.0 ++ us) s.whole ∙ sym (append_assoc front.0 s.front s.rest));
      left = s.left;
      again = λ m t more us c l.
          let tail = append_assoc front.0 s.front (t ∷ us) in
          let z : length ((front.0 ++ s.front) ++ t ∷ us) ≡ length front.0 + length (s.front ++ t ∷ us) = ap length tail ∙ length-append front.0 (s.front ++ t ∷ us) in
          item_again go step ((front.0 ++ s.front) ++ t ∷ us) (s.front ++ t ∷ us) x.0 (at f.kind (t ∷ us)) m
          (ap go tail ∙ through.goes x.0 front.0 (s.front ++ t ∷ us) front.1)
          (ap step tail ∙ through.reads x.0 front.0 (s.front ++ t ∷ us) front.1)
          (λ n q. s.again n t more us c q)
          (omega (arith, z, some))
          l;
    }

row_step : {A : Type 0} (go : List Tok → Bool) (step : List Tok → Read A) (part : A → Part) → GoesThrough go step part → ItemFinds go step part → StepStops go step → (fuel : ℕ) → Further go step fuel → (ts : List Tok) (f : Fault) (b : Bool) → go ts ≡ b → length ts ≤ suc fuel → row_by b step (items_while go step fuel) ts ≡ Err f → Within go step ts f
row_step go step part through finds stops fuel further ts f false g le e = cc
row_step go step part through finds stops fuel further ts f true g le e = item_step go step part through finds stops fuel further ts f (step ts) g le refl e

row_within : {A : Type 0} (go : List Tok → Bool) (step : List Tok → Read A) (part : A → Part) → GoesThrough go step part → ItemFinds go step part → StepStops go step → (fuel : ℕ) → Further go step fuel
unfolding items_while
row_within go step part through finds stops zero ts f le e = cc
row_within go step part through finds stops (suc fuel) ts f le e = row_step go step part through finds stops fuel (row_within go step part through finds stops fuel) ts f (go ts) refl le e

-- a token at which an item stops cannot stand there
pub row_stops : {A : Type 0} (go : List Tok → Bool) (step : List Tok → Read A) (part : A → Part) → GoesThrough go step part → ItemFinds go step part → StepStops go step → Refuses (λ us. items_while go step (length us) us)
row_stops go step part through finds stops ts f e =
    let s = row_within go step part through finds stops (length ts) ts f (omega arith) e in
    record {
      front = s.front;
      rest = s.rest;
      whole = s.whole;
      left = s.left;
      again = λ t more us c. s.again (length (s.front ++ t ∷ us)) t more us c (omega arith);
    }

-- Lists with commas, up to metadata.

further_bang : (b c : Bool) → (if b then not c else false) ≡ true → c ≡ false
further_bang true true h = cc
further_bang true false h = refl
further_bang false c h = cc

further_guarded : {A : Type 0} (item : List Tok → Read A) → Refuses item → StepStops has_further (λ vs. item (behind vs))
further_guarded item stops ts f h e =
    let n = next_token (is_mark Comma) ts (further_comma ts h) in
    let s = stops (behind ts) f e in
    record {
      front = n.token ∷ s.front;
      rest = s.rest;
      whole = n.whole ∙ ap (λ us. n.token ∷ us) s.whole;
      left = s.left;
      goes = λ t more us c. rw (n.kind, first_same (is_mark Exclamation) (behind ts) s.front s.rest more us t s.whole c ∙ further_bang (has (is_mark Comma) ts) (has (is_mark Exclamation) (behind ts)) h) refl;
      again = λ t more us c. s.again t more us c;
    }

unbroken_stops : {A : Type 0} (item : List Tok → Read A) (part : A → Part) → ((x : A) → Reads item x (part x)) → Finds item part → ((x : A) → NoMetadata (part x)) → Refuses item → Refuses (unbroken_at item)
unbroken_stops item part reads finds n stops =
    bind_stops item (λ x. items_while has_further (λ vs. item (behind vs)) (length x.1) x.1 >>= λ xs. Ok (x.0 ∷ xs.0, xs.1)) part reads finds stops
    (λ x. last_stops (λ us. items_while has_further (λ vs. item (behind vs)) (length us) us) (λ xs. x ∷ xs)
    (row_stops has_further (λ vs. item (behind vs)) (WithComma part) (goes_through item part reads n) (λ ws vs y g i. behind_found (is_mark Comma) item part finds ws vs y (further_comma ws g) i) (further_guarded item stops)))

pub edges_stop : (context : Context) (free : context.limits ≡ None) (ty : Scalar) → Refuses (unbroken_at (edge_at context ty))
edges_stop context free ty = unbroken_stops (edge_at context ty) (IsEdge context ty) (edge_reads context ty) (edge_finds context ty) (edge_no_metadata context ty) (edge_stops context free ty)

pub indices_stop : (context : Context) (free : context.limits ≡ None) → Refuses (unbroken_at (typed_at context))
indices_stop context free = unbroken_stops (typed_at context) (IsTyped context) (typed_reads context) (typed_finds context) (typed_no_metadata context) (typed_stops context free)

-- Steps that say nothing.

abbrev as_step : Read (List (Unit {0})) → Read (Unit {0})
as_step r = r >>= λ xs. Ok (tt, xs.1)

forget : (x : Unit {0}) (r : Read (List (Unit {0}))) → as_step r ≡ as_step (with_first x r)
forget x (Ok xs) = refl
forget x (Err f) = refl

step_as : (r : Read (Unit {0})) (a : List Tok → Read (Unit {0})) (b : List Tok → Read (List (Unit {0}))) → ((us : List Tok) → a us ≡ as_step (b us)) → (r >>= λ x. a x.1) ≡ as_step (r >>= with_rest b)
step_as (Ok x) a b h = h x.1 ∙ forget x.0 (b x.1)
step_as (Err f) a b h = refl

abbrev step_by : Bool → List Tok → Read (Unit {0}) → (List Tok → Read (Unit {0})) → Read (Unit {0})
step_by c ts r a = if c then (r >>= λ x. a x.1) else Ok (tt, ts)

abbrev items_by : Bool → List Tok → Read (Unit {0}) → (List Tok → Read (List (Unit {0}))) → Read (List (Unit {0}))
items_by c ts r b = if c then (r >>= with_rest b) else Ok ([], ts)

either_as : (c : Bool) (ts : List Tok) (r : Read (Unit {0})) (a : List Tok → Read (Unit {0})) (b : List Tok → Read (List (Unit {0}))) → ((us : List Tok) → a us ≡ as_step (b us)) → step_by c ts r a ≡ as_step (items_by c ts r b)
either_as true ts r a b h = step_as r a b h
either_as false ts r a b h = refl

steps_are_items : (go : List Tok → Bool) (step : List Tok → Read (Unit {0})) (n : ℕ) (ts : List Tok) → steps_at go step n ts ≡ as_step (items_while go step n ts)
unfolding steps_at items_while
steps_are_items go step zero ts = refl
steps_are_items go step (suc n) ts = either_as (go ts) ts (step ts) (steps_at go step n) (items_while go step n) (steps_are_items go step n)

-- parts that are gone over are read so
over_through : (go : List Tok → Bool) (step : List Tok → Read (Unit {0})) (p : Part) → GoesOver go step p Anything → GoesThrough go step (λ (x : Unit {0}). p)
over_through go step p g = record { filled = λ x ts q. g.filled ts q; goes = λ x ts us q. g.goes ts us q tt; reads = λ x ts us q. g.reads ts us q tt }

steps_stop : (go : List Tok → Bool) (step : List Tok → Read (Unit {0})) (p : Part) → GoesOver go step p Anything → StepFinds go step p → StepStops go step → Refuses (λ us. steps_at go step (length us) us)
steps_stop go step p over finds stops ts f e =
    let same = λ (vs : List Tok). steps_are_items go step (length vs) vs in
    same_stops (λ us. steps_at go step (length us) us) (λ us. as_step (items_while go step (length us) us)) same ts f
    (last_stops (λ us. items_while go step (length us) us) (λ xs. tt) (row_stops go step (λ x. p) (over_through go step p over) (λ ws vs x g i. finds ws vs x g i) stops) ts f (sym (same ts) ∙ e))

-- Metadata.

pub count_stops : Refuses count_over
count_stops = last_stops count_at (λ n. tt) (pick_stops (λ t. count_in t.kind) always_refused)

name_stops : Refuses one_metadata_at
name_stops =
    bind_stops (mark_at Exclamation) (λ e. pick_at (λ t. when (is_metadata_name t.kind)) word_refusal e.1 >>= λ n. mark_at Exclamation n.1 >>= λ f. count_over f.1) _ (λ x. next_reads (is_mark Exclamation)) (next_finds (is_mark Exclamation)) (next_stops (is_mark Exclamation))
    (λ e. bind_stops (pick_at (λ t. when (is_metadata_name t.kind)) word_refusal) (λ n. mark_at Exclamation n.1 >>= λ f. count_over f.1) _ (λ x. form_reads is_metadata_name word_refusal) (form_finds is_metadata_name word_refusal) (form_stops is_metadata_name word_refusal)
    (λ n. bind_stops (mark_at Exclamation) (λ f. count_over f.1) _ (λ x. next_reads (is_mark Exclamation)) (next_finds (is_mark Exclamation)) (next_stops (is_mark Exclamation)) (λ f. count_stops)))

pub metadata_stops : Refuses metadata_at
metadata_stops =
    steps_stop has_comma (λ us. one_metadata_at (behind us)) IsMetadata over_metadata (λ ws vs y c i. behind_found (is_mark Comma) one_metadata_at (λ z. IsName) name_finds ws vs y c i)
    (λ ts f o e. first_guarded (is_mark Comma) (λ us. one_metadata_at (behind us)) ts f o (behind_stops (is_mark Comma) one_metadata_at ts f o (name_stops (behind ts) f e)))

-- An alignment.

one_align_stops : Refuses one_align_at
one_align_stops = bind_stops (pick_at (λ t. when (is_align t.kind)) word_refusal) (λ a. count_over a.1) _ (λ x. form_reads is_align word_refusal) (form_finds is_align word_refusal) (form_stops is_align word_refusal) (λ a. count_stops)

align_step : (b : Bool) (ts : List Tok) (f : Fault) → has_further ts ≡ b → align_by b ts ≡ Err f → Stops align_at ts f
align_step false ts f g e = cc
align_step true ts f g e =
    let s = further_guarded one_align_at one_align_stops ts f g e in
    record {
      front = s.front;
      rest = s.rest;
      whole = s.whole;
      left = s.left;
      again = λ t more us c. ap (λ b. align_by b (s.front ++ t ∷ us)) (s.goes t more us c) ∙ s.again t more us c;
    }

pub align_stops : Refuses align_at
align_stops ts f e = align_step (has_further ts) ts f refl e

-- Words at an argument or result.

enclosed_count_stops : Refuses enclosed_count_at
enclosed_count_stops =
    bind_stops (mark_at OpenParenthesis) (λ o. count_at o.1 >>= λ n. mark_at CloseParenthesis n.1) _ (λ x. next_reads (is_mark OpenParenthesis)) (next_finds (is_mark OpenParenthesis)) (next_stops (is_mark OpenParenthesis))
    (λ o. bind_stops count_at (λ n. mark_at CloseParenthesis n.1) _ (λ n. pick_reads (λ t. count_in t.kind) always_refused n) (pick_finds (λ t. count_in t.kind) always_refused) (pick_stops (λ t. count_in t.kind) always_refused) (λ n. next_stops (is_mark CloseParenthesis)))

enclosed_nothing_stops : Refuses enclosed_nothing_at
enclosed_nothing_stops =
    bind_stops (mark_at OpenParenthesis) (λ o. next_at is_nothing_word o.1 >>= λ n. mark_at CloseParenthesis n.1) _ (λ x. next_reads (is_mark OpenParenthesis)) (next_finds (is_mark OpenParenthesis)) (next_stops (is_mark OpenParenthesis))
    (λ o. bind_stops (next_at is_nothing_word) (λ n. mark_at CloseParenthesis n.1) _ (λ x. next_reads is_nothing_word) (next_finds is_nothing_word) (next_stops is_nothing_word) (λ n. next_stops (is_mark CloseParenthesis)))

tail_stops : (w : Keyword) (ts : List Tok) (f : Fault) → is_passed false (kinds.Word w) ≡ true → tail_at w ts ≡ Err f → Stops (tail_at w) ts f
tail_stops keywords.Align ts f h e = count_stops ts f e
tail_stops keywords.Dereferenceable ts f h e = enclosed_count_stops ts f e
tail_stops keywords.Captures ts f h e = enclosed_nothing_stops ts f e
tail_stops keywords.Parameter ts f h e = cc
tail_stops w ts f h e = cc

passed_kind : (k : Kind) → is_passed false k ≡ true → k ≡ kinds.Word (word_of_kind k)
passed_kind (kinds.Word w) h = refl
passed_kind k h = cc

passed_word : (k : Kind) → is_passed false k ≡ true → is_passed false (kinds.Word (word_of_kind k)) ≡ true
passed_word k h = ap (is_passed false) (sym (passed_kind k h)) ∙ h

word_stops : StepStops (has (is_passed false)) over_word
word_stops [] f h e = cc
word_stops (t ∷ ts) f h e =
    let s = tail_stops (word_of_kind t.kind) ts f (passed_word t.kind h) e in
    first_guarded (is_passed false) over_word (t ∷ ts) f h
    (record { front = t ∷ s.front; rest = s.rest; whole = ap (λ us. t ∷ us) s.whole; left = s.left; again = λ u more us c. s.again u more us c })

pub passed_stops : Refuses (passed_at false)
passed_stops ts f e =
    let same = λ (vs : List Tok). words_are_steps false (length vs) vs in
    same_stops (passed_at false) (λ us. steps_at (has (is_passed false)) over_word (length us) us) same ts f
    (steps_stop (has (is_passed false)) over_word IsPassed over_words word_finds word_stops ts f (sym (same ts) ∙ e))

-- Cases.

rest_ok : {A : Type 0} (x : A) (r : Read (List A)) (xs : List A) (us : List Tok) → with_first x r ≡ Ok (xs, us) → (ys : List A) × (r ≡ Ok (ys, us))
rest_ok x (Ok ys) xs us e = let s = ok_same (x ∷ ys.0) xs ys.1 us e in (ys.0, ap (λ vs. Ok (ys.0, vs)) s.1)
rest_ok x (Err d) xs us e = cc

-- where items end, the test fails
abbrev Ends : {A : Type 0} → (List Tok → Bool) → (List Tok → Read A) → ℕ → Type 0
Ends {A} go step fuel = (ts us : List Tok) (xs : List A) → length ts ≤ fuel → items_while go step fuel ts ≡ Ok (xs, us) → go us ≡ false

ends_item : {A : Type 0} (go : List Tok → Bool) (step : List Tok → Read A) (part : A → Part) → GoesThrough go step part → ItemFinds go step part → (fuel : ℕ) → Ends go step fuel → (ts us : List Tok) (xs : List A) (r : Read A) → go ts ≡ true → length ts ≤ suc fuel → step ts ≡ r → (r >>= with_rest (items_while go step fuel)) ≡ Ok (xs, us) → go us ≡ false
ends_item go step part through finds fuel h ts us xs (Err d) g le w e = cc
ends_item go step part through finds fuel h ts us xs (Ok x) g le w e =
    let front = finds ts x.1 x.0 g w in
    let some = through.filled x.0 front.0 front.1 in
    let size : length ts ≡ length front.0 + length x.1 = ap length front.2 ∙ length-append front.0 x.1 in
    let k = rest_ok x.0 (items_while go step fuel x.1) xs us e in
    h x.1 us k.0 (omega (arith, le, size, some)) k.1

ends_step : {A : Type 0} (go : List Tok → Bool) (step : List Tok → Read A) (part : A → Part) → GoesThrough go step part → ItemFinds go step part → (fuel : ℕ) → Ends go step fuel → (ts us : List Tok) (xs : List A) (b : Bool) → go ts ≡ b → length ts ≤ suc fuel → row_by b step (items_while go step fuel) ts ≡ Ok (xs, us) → go us ≡ false
ends_step go step part through finds fuel h ts us xs false g le e = let s = ok_same [] xs ts us e in subst (λ r. go r ≡ false) s.1 g
ends_step go step part through finds fuel h ts us xs true g le e = ends_item go step part through finds fuel h ts us xs (step ts) g le refl e

row_ends : {A : Type 0} (go : List Tok → Bool) (step : List Tok → Read A) (part : A → Part) → GoesThrough go step part → ItemFinds go step part → go [] ≡ false → (fuel : ℕ) → Ends go step fuel
unfolding items_while
row_ends go step part through finds n zero [] us xs le e = let s = ok_same [] xs [] us e in subst (λ r. go r ≡ false) s.1 n
row_ends go step part through finds n zero (t ∷ ts) us xs le e = absurd (omega (arith, le))
row_ends go step part through finds n (suc fuel) ts us xs le e = ends_step go step part through finds fuel (row_ends go step part through finds n fuel) ts us xs (go ts) refl le e

find_cases : (context : Context) (ty : Scalar) → ItemFinds has_case (case_at context ty) (IsCase context ty)
find_cases context ty ws vs k g i = case_finds context ty ws vs k i

some_cases_stop : (context : Context) (free : context.limits ≡ None) (ty : Scalar) → Refuses (some_cases_at context ty)
some_cases_stop context free ty =
    row_stops has_case (case_at context ty) (IsCase context ty) (through_cases context ty) (find_cases context ty)
    (λ ts f o e. first_guarded (λ k. not (is_mark CloseBracket k)) (case_at context ty) ts f o (case_stops context free ty ts f e))

abbrev shut_by : List SwitchCase → Read (Unit {0}) → Read (List SwitchCase)
shut_by cs r = r >>= λ c. Ok (cs, c.1)

shut_test : (b : Bool) (ts : List Tok) (cs : List SwitchCase) (f : Fault) → not b ≡ false → shut_by cs (if b then Ok (tt, behind ts) else refused ts) ≡ Err f → ⊥
shut_test true ts cs f g e = cc
shut_test false ts cs f g e = cc

open_end : (us : List Tok) (cs : List SwitchCase) (f : Fault) → has_case us ≡ false → shut_by cs (mark_at CloseBracket us) ≡ Err f → us ≡ []
open_end [] cs f g e = refl
open_end (t ∷ us) cs f g e = absurd (shut_test (is_mark CloseBracket t.kind) (t ∷ us) cs f g e)

none_left : (us : List Tok) (cs : List SwitchCase) (f : Fault) → us ≡ [] → shut_by cs (mark_at CloseBracket us) ≡ Err f → f.left ≡ 0
none_left [] cs f n e = let s : at Statement [] ≡ f = cc in ap (λ (k : Fault). k.left) (sym s)
none_left (t ∷ us) cs f n e = cc

-- where the tokens end, no token stands at the fault
at_the_end : {A : Type 0} (read : List Tok → Read A) (ts : List Tok) (f : Fault) → f.left ≡ 0 → Stops read ts f
at_the_end read ts f e = record { front = ts; rest = []; whole = sym (append-nil ts); left = e; again = λ t more us c. cc }

abbrev closed_by : Read (List SwitchCase) → Read (List SwitchCase)
closed_by r = r >>= λ cs. mark_at CloseBracket cs.1 >>= λ c. Ok (cs.0, c.1)

closed_step : (context : Context) (free : context.limits ≡ None) (ty : Scalar) (ts : List Tok) (f : Fault) (r : Read (List SwitchCase)) → some_cases_at context ty ts ≡ r → closed_by r ≡ Err f → Stops (closed_cases context ty) ts f
closed_step context free ty ts f (Ok cs) w e =
    let end = row_ends has_case (case_at context ty) (IsCase context ty) (through_cases context ty) (find_cases context ty) refl (length ts) ts cs.1 cs.0 (omega arith) w in
    at_the_end (closed_cases context ty) ts f (none_left cs.1 cs.0 f (open_end cs.1 cs.0 f end e) e)
closed_step context free ty ts f (Err d) w e =
    let same : d ≡ f = cc in
    let s = some_cases_stop context free ty ts d w in
    record {
      front = s.front;
      rest = s.rest;
      whole = s.whole;
      left = ap (λ (k : Fault). k.left) (sym same) ∙ s.left;
      again = λ t more us c. rw (s.again t more us c) (ap (λ (k : Fault). Err (at k.kind (t ∷ us))) same);
    }

closed_stops : (context : Context) (free : context.limits ≡ None) (ty : Scalar) → Refuses (closed_cases context ty)
closed_stops context free ty ts f e = closed_step context free ty ts f (some_cases_at context ty ts) refl e

pub cases_stop : (context : Context) (free : context.limits ≡ None) (ty : Scalar) → Refuses (cases_at context ty)
cases_stop context free ty = bind_stops (mark_at OpenBracket) (λ o. closed_cases context ty o.1) _ (λ x. next_reads (is_mark OpenBracket)) (next_finds (is_mark OpenBracket)) (next_stops (is_mark OpenBracket)) (λ o. closed_stops context free ty)
