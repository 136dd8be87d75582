-- A fault in a list hangs on the tokens up to its own.
use Rattle.std.proofs.Common.{◌≡◌, ℕ, zero, suc, ◌+◌, ◌≤◌, ◌<◌, Bool, true, false, List, [], ◌∷◌, ◌++◌, length, Result, Ok, Err, refl, sym, ap, ◌∙◌, subst, append_assoc, arith}
use Rattle.std.specs.Prelude.{if◌then◌else◌}
use Rattle.std.proofs.lemmas.List.{length-append}
use Rattle.lx_ir_tokens.specs.declared.token.Tok.{Tok}
use Rattle.lx_ir_tokens.specs.declared.token.Mark.{Mark}
use Rattle.lx_ir_tokens.specs.declared.token.Mark.TheVariants.{Comma}
use Rattle.lx_ir_terms.specs.declared.fault.Fault.{Fault}
use Rattle.lx_ir_terms.specs.Reading.{Read, ◌>>=◌, at, has, behind, is_mark, next_at, mark_at, more_at, items_at, closed_at, listed_at}
use Rattle.lx_ir_terms.specs.Grammar.{Part}
use Rattle.lx_ir_terms.specs.Laws.{Reads, Finds, Stops}
use Rattle.lx_ir_terms.proofs.Loop.{no_more}
use Rattle.lx_ir_terms.proofs.Marks.{Next, next_token}
use Rattle.lx_ir_terms.proofs.Stopping.{Refuses, next_stops, bind_stops, guard_stops, first_same}

-- what closes a list behind what was read
abbrev closing : {A B : Type 0} → Mark → (List A → B) → Read (List A) → Read B
closing close k read = read >>= λ xs. mark_at close xs.1 >>= λ c. Ok (k xs.0, c.1)

regroup : {A B : Type 0} (close : Mark) (k : List A → B) (x : A) (read : Read (List A)) → closing close k (read >>= λ xs. Ok (x ∷ xs.0, xs.1)) ≡ closing close (λ xs. k (x ∷ xs)) read
regroup close k x (Ok r) = refl
regroup close k x (Err d) = refl

record Within {A B : Type 0} (close : Mark) (item : List Tok → Read A) (k : List A → B) (ts : List Tok) (fault : Fault) : Type 0 where
  pub front : List Tok
  pub rest : List Tok
  pub whole : ts ≡ front ++ rest
  pub left : fault.left ≡ length rest
  pub again : (fuel : ℕ) (t : Tok) (more us : List Tok) → rest ≡ t ∷ more → length (front ++ t ∷ us) ≤ fuel → closing close k (more_at item fuel (front ++ t ∷ us)) ≡ Err (at fault.kind (t ∷ us))

abbrev shut_by : {A B : Type 0} → (List A → B) → Read (Unit {0}) → Read B
shut_by k r = r >>= λ c. Ok (k [], c.1)

-- the mark that closes the list is missing
shut_step : {A B : Type 0} (close : Mark) (item : List Tok → Read A) (k : List A → B) (ts : List Tok) (f : Fault) (r : Read (Unit {0})) → has (is_mark Comma) ts ≡ false → mark_at close ts ≡ r → shut_by k r ≡ Err f → Within close item k ts f
shut_step close item k ts f (Ok x) n w e = cc
shut_step close item k ts f (Err d) n w e =
    let same : d ≡ f = cc in
    let s = next_stops (is_mark close) ts d w in
    record {
      front = s.front;
      rest = s.rest;
      whole = s.whole;
      left = ap (λ (g : Fault). g.left) (sym same) ∙ s.left;
      again = λ fuel t more us c le. rw (no_more item fuel (s.front ++ t ∷ us) (first_same (is_mark Comma) ts s.front s.rest more us t s.whole c ∙ n), s.again t more us c) (ap (λ (g : Fault). Err (at g.kind (t ∷ us))) same);
    }

-- the item behind a comma is at fault
fault_again : {A B : Type 0} (close : Mark) (item : List Tok → Read A) (k : List A → B) (c : Tok) (vs : List Tok) (g : Fault) (fuel : ℕ) → is_mark Comma c.kind ≡ true → item vs ≡ Err g → length (c ∷ vs) ≤ fuel → closing close k (more_at item fuel (c ∷ vs)) ≡ Err g
unfolding more_at
fault_again close item k c vs g zero o e le = absurd (omega arith)
fault_again close item k c vs g (suc fuel) o e le = rw (o, e) refl

item_again : {A B : Type 0} (close : Mark) (item : List Tok → Read A) (k : List A → B) (c : Tok) (vs us : List Tok) (x : A) (g : Fault) (fuel : ℕ) → is_mark Comma c.kind ≡ true → item vs ≡ Ok (x, us) → ((n : ℕ) → length us ≤ n → closing close (λ xs. k (x ∷ xs)) (more_at item n us) ≡ Err g) → length us ≤ length vs → length (c ∷ vs) ≤ fuel → closing close k (more_at item fuel (c ∷ vs)) ≡ Err g
unfolding more_at
item_again close item k c vs us x g zero o e h l le = absurd (omega arith)
item_again close item k c vs us x g (suc fuel) o e h l le = rw (o, e) (regroup close k x (more_at item fuel us) ∙ h fuel (omega arith))

abbrev more_by : {A B : Type 0} → Mark → (List A → B) → (List Tok → Read (List A)) → Read A → Read B
more_by close k rest r = closing close k (r >>= λ x. rest x.1 >>= λ xs. Ok (x.0 ∷ xs.0, xs.1))

abbrev list_by : {A : Type 0} → Bool → (List Tok → Read A) → (List Tok → Read (List A)) → List Tok → Read (List A)
list_by b item rest ts = if b then (item (behind ts) >>= λ x. rest x.1 >>= λ xs. Ok (x.0 ∷ xs.0, xs.1)) else Ok ([], ts)

-- further items are read so
abbrev Further : {A : Type 0} → (B : Type 0) → Mark → (List Tok → Read A) → ℕ → Type 0
Further {A} B close item fuel = (k : List A → B) (ts : List Tok) (f : Fault) → length ts ≤ fuel → closing close k (more_at item fuel ts) ≡ Err f → Within close item k ts f

item_step : {A B : Type 0} (close : Mark) (item : List Tok → Read A) (part : A → Part) → ((x : A) → Reads item x (part x)) → Finds item part → Refuses item → (fuel : ℕ) → Further B close item fuel → (k : List A → B) (ts : List Tok) (f : Fault) (r : Read A) → has (is_mark Comma) ts ≡ true → length ts ≤ suc fuel → item (behind ts) ≡ r → more_by close k (more_at item fuel) r ≡ Err f → Within close item k ts f
item_step close item part reads finds stops fuel further k ts f (Err d) o le w e =
    let same : d ≡ f = cc in
    let n = next_token (is_mark Comma) ts o in
    let s = stops (behind ts) d w in
    record {
      front = n.token ∷ s.front;
      rest = s.rest;
      whole = n.whole ∙ ap (λ us. n.token ∷ us) s.whole;
      left = ap (λ (g : Fault). g.left) (sym same) ∙ s.left;
      again = λ m t more us c l. fault_again close item k n.token (s.front ++ t ∷ us) (at d.kind (t ∷ us)) m n.kind (s.again t more us c) l ∙ ap (λ (g : Fault). Err (at g.kind (t ∷ us))) same;
    }
item_step close item part reads finds stops fuel further k ts f (Ok x) o le w e =
    let n = next_token (is_mark Comma) ts o in
    let front = finds (behind ts) x.1 x.0 w in
    let size : length (behind ts) ≡ length front.0 + length x.1 = ap length front.2 ∙ length-append front.0 x.1 in
    let all : length ts ≡ suc (length (behind ts)) = ap length n.whole in
    let s = further (λ xs. k (x.0 ∷ xs)) x.1 f (omega (arith, le, size, all)) (sym (regroup close k x.0 (more_at item fuel x.1)) ∙ e) in
    record {
      front = n.token ∷ (front.0 ++ s.front);
      rest = s.rest;
      whole = n.whole ∙ ap (λ us. n.token ∷ us) (front.2 ∙ ap (λ us. front.0 ++ us) s.whole ∙ sym (append_assoc front.0 s.front s.rest));
      left = s.left;
      again = λ m t more us c l.
          let tail = append_assoc front.0 s.front (t ∷ us) in
          item_again close item k n.token ((front.0 ++ s.front) ++ t ∷ us) (s.front ++ t ∷ us) x.0 (at f.kind (t ∷ us)) m n.kind
          (ap item tail ∙ reads x.0 front.0 (s.front ++ t ∷ us) front.1)
          (λ j q. s.again j t more us c q)
          (let z : length ((front.0 ++ s.front) ++ t ∷ us) ≡ length front.0 + length (s.front ++ t ∷ us) = ap length tail ∙ length-append front.0 (s.front ++ t ∷ us) in omega (arith, z))
          l;
    }

comma_step : {A B : Type 0} (close : Mark) (item : List Tok → Read A) (part : A → Part) → ((x : A) → Reads item x (part x)) → Finds item part → Refuses item → (fuel : ℕ) → Further B close item fuel → (k : List A → B) (ts : List Tok) (f : Fault) (b : Bool) → has (is_mark Comma) ts ≡ b → length ts ≤ suc fuel → closing close k (list_by b item (more_at item fuel) ts) ≡ Err f → Within close item k ts f
comma_step close item part reads finds stops fuel further k ts f false o le e = shut_step close item k ts f (mark_at close ts) o refl e
comma_step close item part reads finds stops fuel further k ts f true o le e = item_step close item part reads finds stops fuel further k ts f (item (behind ts)) o le refl e

more_stops : {A B : Type 0} (close : Mark) (item : List Tok → Read A) (part : A → Part) → ((x : A) → Reads item x (part x)) → Finds item part → Refuses item → (fuel : ℕ) (k : List A → B) (ts : List Tok) (f : Fault) → length ts ≤ fuel → closing close k (more_at item fuel ts) ≡ Err f → Within close item k ts f
unfolding more_at
more_stops close item part reads finds stops zero k [] f le e = shut_step close item k [] f (mark_at close []) refl refl e
more_stops close item part reads finds stops zero k (t ∷ ts) f le e = absurd (omega arith)
more_stops close item part reads finds stops (suc fuel) k ts f le e = comma_step close item part reads finds stops fuel (λ j us g l h. more_stops close item part reads finds stops fuel j us g l h) k ts f (has (is_mark Comma) ts) refl le e

-- the same rule, written otherwise
same_stops : {A : Type 0} (read r : List Tok → Read A) → ((vs : List Tok) → read vs ≡ r vs) → (ts : List Tok) (f : Fault) → Stops r ts f → Stops read ts f
same_stops read r h ts f s = record {
  front = s.front;
  rest = s.rest;
  whole = s.whole;
  left = s.left;
  again = λ t more us c. h (s.front ++ t ∷ us) ∙ s.again t more us c;
}

behind_first : {A : Type 0} → Mark → (List Tok → Read A) → A × List Tok → Read (List A)
behind_first close item x = closing close (λ xs. x.0 ∷ xs) (more_at item (length x.1) x.1)

first_then : {A : Type 0} (close : Mark) (item : List Tok → Read A) (r : Read A) → closing close (λ xs. xs) (r >>= λ x. more_at item (length x.1) x.1 >>= λ xs. Ok (x.0 ∷ xs.0, xs.1)) ≡ (r >>= λ x. closing close (λ xs. x.0 ∷ xs) (more_at item (length x.1) x.1))
first_then close item (Ok x) = regroup close (λ xs. xs) x.0 (more_at item (length x.1) x.1)
first_then close item (Err d) = refl

first_stops : {A : Type 0} (close : Mark) (item : List Tok → Read A) (part : A → Part) → ((x : A) → Reads item x (part x)) → Finds item part → Refuses item → (x : A) → Refuses (λ us. closing close (λ xs. x ∷ xs) (more_at item (length us) us))
first_stops close item part reads finds stops x ts f e =
    let s = more_stops close item part reads finds stops (length ts) (λ xs. x ∷ xs) ts f (omega arith) e in
    record {
      front = s.front;
      rest = s.rest;
      whole = s.whole;
      left = s.left;
      again = λ t more us c. s.again (length (s.front ++ t ∷ us)) t more us c (omega arith);
    }

pub closed_stops : {A : Type 0} (close : Mark) (item : List Tok → Read A) (part : A → Part) → ((x : A) → Reads item x (part x)) → Finds item part → Refuses item → Refuses (closed_at close item)
closed_stops close item part reads finds stops ts f e =
    same_stops (closed_at close item) (λ us. item us >>= λ x. closing close (λ xs. x.0 ∷ xs) (more_at item (length x.1) x.1)) (λ vs. first_then close item (item vs)) ts f
    (bind_stops item (λ x. closing close (λ xs. x.0 ∷ xs) (more_at item (length x.1) x.1)) part reads finds stops (first_stops close item part reads finds stops) ts f (sym (first_then close item (item ts)) ∙ e))

abbrev listed_by : {A : Type 0} → Bool → Mark → (List Tok → Read A) → List Tok → Read (List A)
listed_by b close item ts = if b then Ok ([], behind ts) else closed_at close item ts

listed_step : {A : Type 0} (close : Mark) (item : List Tok → Read A) (part : A → Part) → ((x : A) → Reads item x (part x)) → Finds item part → Refuses item → (ts : List Tok) (f : Fault) (b : Bool) → has (is_mark close) ts ≡ b → listed_by b close item ts ≡ Err f → Stops (listed_at close item) ts f
listed_step close item part reads finds stops ts f true o e = cc
listed_step close item part reads finds stops ts f false o e =
    guard_stops (is_mark close) (listed_at close item) (closed_at close item) false (λ vs h. rw h refl) ts f o (closed_stops close item part reads finds stops ts f e)

pub listed_stops : {A : Type 0} (close : Mark) (item : List Tok → Read A) (part : A → Part) → ((x : A) → Reads item x (part x)) → Finds item part → Refuses item → Refuses (listed_at close item)
listed_stops close item part reads finds stops ts f e = listed_step close item part reads finds stops ts f (has (is_mark close) ts) refl e
