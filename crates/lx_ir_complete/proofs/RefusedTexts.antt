-- A token at which the first reading of a text stops cannot stand there.
use Rattle.std.proofs.Common.{◌≡◌, ℕ, zero, suc, ◌+◌, ◌<◌, ◌≤◌, Bool, true, false, List, [], ◌∷◌, ◌++◌, length, Ok, Err, refl, sym, ap, ◌∙◌, subst, arith, Option, Some, None}
use Rattle.std.proofs.lemmas.List.{length-append, append-nil}
use Rattle.lx_words.specs.declared.token.Token.{Token}
use Rattle.lx_ir_tokens.specs.declared.token.Tok.{Tok}
use Rattle.lx_ir_terms.specs.declared.fault.Fault.{Fault}
use Rattle.lx_ir_terms.specs.declared.fault.FaultKind.{FaultKind}
use Rattle.lx_ir_terms.specs.declared.fault.FaultKind.TheVariants as faults
use Rattle.lx_ir_terms.specs.Context.{Context}
use Rattle.lx_ir_terms.specs.Reading.{Read, ◌>>=◌, at, refused}
use Rattle.lx_ir_terms.proofs.Parts.{bind_ok, ok_same}
use Rattle.lx_ir_calls.specs.declared.intrinsics.TextForm.{TextForm}
use Rattle.lx_ir_statements.specs.declared.defined.Defined.{Defined}
use Rattle.lx_ir_statements.specs.Defined.{nothing_defined, with_statement}
use Rattle.lx_ir_statements.specs.Statements.{statement_at}
use Rattle.lx_ir_statements.specs.Laws.{StatementsAreRead, StatementsAreFound}
use Rattle.lx_ir_read.specs.declared.first.Found.{Found}
use Rattle.lx_ir_read.specs.declared.first.Progress.{Progress}
use Rattle.lx_ir_read.specs.First.{unknown_context, found, no_progress, with_found, found_at, stopped, first_by, first_at}
use Rattle.lx_ir_read.specs.Grammar.{AreStatements}
use Rattle.lx_ir_complete.proofs.Firsts.{firsts}
use Rattle.lx_ir_complete.proofs.RoundTripFirsts.{statement_begins, begins_longer}
use Rattle.lx_ir_complete.specs.Alike.{BeginAlike, StopsThere}
use Rattle.lx_ir_complete.proofs.Local.{same_split, first_of, Looks, nothing_looks, Local, pure_local, fault_local, bind_local, choose_local, same_local, fuel_local, stops_there}
use Rattle.lx_ir_complete.proofs.RefusedStatements.{SameDefined, statement_any}
use Rattle.lx_ir_complete.specs.Laws.{read_whole, text_at}

abbrev SameRead : {A : Type 0} → Read A → Read A → Type 0
SameRead a b = a ≡ b

abbrev Anything : {A : Type 0} → A → A → Type 0
Anything x y = Unit {0}

whole_left : {A : Type 0} (x z : A) (us : List Tok) → SameRead {A = A} (Ok (x, [])) (Ok (z, us)) → us ≡ []
whole_left x z us e = sym ((ok_same x z [] us e).1)

whole_err : {A : Type 0} (x : A) (f : Fault) → SameRead {A = A} (Ok (x, [])) (Err f) → ⊥
whole_err x f e = cc

-- the tokens end, whatever is said
whole_local : {A : Type 0} (asked : FaultKind → Bool) (x y : A) → Local asked {A = A} Anything (λ ts. Ok (x, [])) (λ ts. Ok (y, []))
whole_local {A} asked x y = record {
  ends = λ ts us z e. (ts, sym (append-nil ts) ∙ ap (λ r. ts ++ r) (sym (whole_left x z us e)));
  reads = λ front us vs z e l.
      let none : vs ≡ [] = nothing_looks vs (subst (λ r. Looks r vs) (whole_left x z us e) l) in
      (y, ap (λ r. Ok (y, r)) (sym none), tt);
  stops = λ ts f a e. absurd (whole_err x f e);
  faults = λ front more vs t f a e left alike. absurd (whole_err x f e);
}

module _ (law : StatementsAreFound) (form : TextForm) (places : List Token) (names : List (List ℕ)) where
  abbrev c : Context
  c = unknown_context names

  -- A statement takes a token at least, so that the number of the loop does not matter.

  found_shorter : (defined : Defined) (ts us : List Tok) (f : Found) → found_at c form places defined ts ≡ Ok (f, us) → length us < length ts
  found_shorter defined ts us f e =
      let s = bind_ok (statement_at c form places defined ts) (λ s. Ok (found (length ts) s.0, s.1)) (f, us) e in
      let k = ok_same (found (length ts) s.0.0) f s.0.1 us s.2 in
      let front = law c form places defined ts s.0.1 s.0.0 s.1 in
      let begun = begins_longer front.0 s.0.1 ts (statement_begins c form places defined s.0.0 front.0 s.0.1 front.1) front.2 in
      let first = statement_begins c form places defined s.0.0 front.0 s.0.1 front.1 in
      let count : length ts ≡ length front.0 + length s.0.1 = ap length front.2 ∙ length-append front.0 s.0.1 in
      let some : length front.0 ≡ suc (length first.1) = ap length first.3 in
      let same : length s.0.1 ≡ length us = ap length k.1 in
      omega (arith, count, some, same)

  by_found : (n m : ℕ) (p : Progress) (q : Read Found) → ((f : Found) (us : List Tok) → q ≡ Ok (f, us) → first_at c form places n (with_found c p f) us ≡ first_at c form places m (with_found c p f) us) → first_by c (first_at c form places n) p q ≡ first_by c (first_at c form places m) p q
  by_found n m p (Ok f) h = h f.0 f.1 refl
  by_found n m p (Err d) h = refl

  first_none : (n : ℕ) (p : Progress) → first_at c form places n p [] ≡ stopped p None
  unfolding first_at
  first_none zero p = refl
  first_none (suc n) p = refl

  first_enough : (n m : ℕ) (p : Progress) (ts : List Tok) → length ts ≤ n → length ts ≤ m → first_at c form places n p ts ≡ first_at c form places m p ts
  unfolding first_at
  first_enough n m p [] le le' = first_none n p ∙ sym (first_none m p)
  first_enough zero m p (t ∷ ts) le le' = absurd (omega (arith, le))
  first_enough (suc n) zero p (t ∷ ts) le le' = absurd (omega (arith, le'))
  first_enough (suc n) (suc m) p (t ∷ ts) le le' =
      by_found n m p (found_at c form places p.defined (t ∷ ts))
      (λ f us e. let less = found_shorter p.defined (t ∷ ts) us f e in first_enough n m (with_found c p f) us (omega (arith, less, le)) (omega (arith, less, le')))

  -- The loop as a reader.

  abbrev loop : ℕ → Progress → List Tok → Read (List Found)
  loop n p ts = read_whole (first_at c form places n p ts)

  module _ (asked : FaultKind → Bool) (silent : asked faults.Twice ≡ false) where
    found_local : (a b : Defined) → a ≡ b → Local asked (λ (f g : Found). (defined : Defined) → with_statement c defined f.statement ≡ with_statement c defined g.statement) (found_at c form places a) (found_at c form places b)
    found_local a b e =
        subst (λ d. Local asked (λ (f g : Found). (defined : Defined) → with_statement c defined f.statement ≡ with_statement c defined g.statement) (found_at c form places a) (found_at c form places d)) e
        (bind_local asked SameDefined (λ (f g : Found). (defined : Defined) → with_statement c defined f.statement ≡ with_statement c defined g.statement) (statement_at c form places a) (statement_at c form places a)
        (λ ts s. Ok (found (length ts) s.0, s.1)) (λ ts s. Ok (found (length ts) s.0, s.1)) (statement_any asked c refl silent form places a)
        (λ ts vs x y l same. pure_local asked (λ (f g : Found). (defined : Defined) → with_statement c defined f.statement ≡ with_statement c defined g.statement) (found (length ts) x) (found (length vs) y) (λ d. same c d)))

    abbrev next : ℕ → Progress → Found × List Tok → Read (List Found)
    next n p f = loop n (with_found c p f.0) f.1

    abbrev by_first : ℕ → Progress → Option Tok → List Tok → Read (List Found)
    by_first n p None ts = Ok (p.statements, [])
    by_first n p (Some t) ts = found_at c form places p.defined ts >>= next n p

    abbrev at_end : Progress → Option Tok → List Tok → Read (List Found)
    at_end p None ts = Ok (p.statements, [])
    at_end p (Some t) ts = refused ts

    read_by : (n : ℕ) (p : Progress) (q : Read Found) → read_whole (first_by c (first_at c form places n) p q) ≡ (q >>= next n p)
    read_by n p (Ok f) = refl
    read_by n p (Err d) = refl

    as_end : (p : Progress) (ts : List Tok) → loop zero p ts ≡ at_end p (first_of ts) ts
    unfolding first_at
    as_end p [] = refl
    as_end p (t ∷ ts) = refl

    as_first : (n : ℕ) (p : Progress) (ts : List Tok) → loop (suc n) p ts ≡ by_first n p (first_of ts) ts
    unfolding first_at
    as_first n p [] = refl
    as_first n p (t ∷ ts) = read_by n p (found_at c form places p.defined (t ∷ ts))

    end_each : (p q : Progress) (first : Option Tok) → Local asked Anything (at_end p first) (at_end q first)
    end_each p q None = whole_local asked p.statements q.statements
    end_each p q (Some t) = fault_local asked Anything faults.Statement

    first_each : (n : ℕ) (p q : Progress) → p.defined ≡ q.defined → ((x y : Progress) → x.defined ≡ y.defined → Local asked Anything (loop n x) (loop n y)) → (first : Option Tok) → Local asked Anything (by_first n p first) (by_first n q first)
    first_each n p q e more None = whole_local asked p.statements q.statements
    first_each n p q e more (Some t) =
        bind_local asked (λ (f g : Found). (defined : Defined) → with_statement c defined f.statement ≡ with_statement c defined g.statement) Anything (found_at c form places p.defined) (found_at c form places q.defined) (λ ts. next n p) (λ ts. next n q) (found_local p.defined q.defined e)
        (λ ts vs x y l same. more (with_found c p x) (with_found c q y) (same p.defined ∙ ap (λ d. with_statement c d y.statement) e))

    loop_local : (n : ℕ) (p q : Progress) → p.defined ≡ q.defined → Local asked Anything (loop n p) (loop n q)
    loop_local zero p q e =
        same_local asked Anything (loop zero p) (loop zero q) (λ ts. at_end p (first_of ts) ts) (λ ts. at_end q (first_of ts) ts) (as_end p) (as_end q)
        (choose_local asked Anything first_of first_of (λ us vs l. l.first) (at_end p) (at_end q) (end_each p q))
    loop_local (suc n) p q e =
        same_local asked Anything (loop (suc n) p) (loop (suc n) q) (λ ts. by_first n p (first_of ts) ts) (λ ts. by_first n q (first_of ts) ts) (as_first n p) (as_first n q)
        (choose_local asked Anything first_of first_of (λ us vs l. l.first) (by_first n p) (by_first n q) (first_each n p q e (λ x y d. loop_local n x y d)))

    text_local : Local asked Anything (text_at form names places) (text_at form names places)
    text_local =
        fuel_local asked Anything (λ n ts. loop n no_progress ts) (λ n ts. loop n no_progress ts) (λ n m ts le le'. ap read_whole (first_enough n m no_progress ts le le')) (λ n m ts le le'. ap read_whole (first_enough n m no_progress ts le le'))
        (λ n. loop_local n no_progress no_progress refl)

  abbrev not_twice : FaultKind → Bool
  not_twice faults.Twice = false
  not_twice k = true

  other_kind : (k : FaultKind) → (k ≡ faults.Twice → ⊥) → not_twice k ≡ true
  other_kind faults.Twice h = absurd (h refl)
  other_kind faults.Statement h = refl
  other_kind faults.OutOfProfile h = refl
  other_kind faults.Unknown h = refl

  pub text_stops : (toks : List Tok) (f : Fault) → (f.kind ≡ faults.Twice → ⊥) → text_at form names places toks ≡ Err f → StopsThere (text_at form names places) toks f
  text_stops toks f other e = stops_there not_twice Anything (text_at form names places) (text_local not_twice refl) toks f (other_kind f.kind other) e

  both : {A : Type 0} (x : A) (us : List Tok) (f : Fault) (r : Read A) → r ≡ Ok (x, us) → r ≡ Err f → ⊥
  both x us f (Ok y) e h = cc
  both x us f (Err d) e h = cc

  pub stands_nowhere : StatementsAreRead → (toks : List Tok) (f : Fault) → (f.kind ≡ faults.Twice → ⊥) → text_at form names places toks ≡ Err f → (front rest : List Tok) → toks ≡ front ++ rest → f.left ≡ length rest
      → (t : Tok) (more us : List Tok) → rest ≡ t ∷ more → BeginAlike more us → (fs : List Found) → AreStatements c form places nothing_defined fs (front ++ t ∷ us) → ⊥
  stands_nowhere read toks f other e front rest whole left t more us next alike fs are =
      let s = text_stops toks f other e in
      let k = same_split front rest s.front s.rest (sym whole ∙ s.whole) (sym left ∙ s.left) in
      let stops : text_at form names places (front ++ t ∷ us) ≡ Err (at f.kind (t ∷ us)) =
      ap (λ r. text_at form names places (r ++ t ∷ us)) k.0 ∙ s.again t more us (sym k.1 ∙ next) alike in
      let reads : text_at form names places (front ++ t ∷ us) ≡ Ok (fs, []) = ap read_whole (firsts read c form places fs (length (front ++ t ∷ us)) no_progress (front ++ t ∷ us) (omega arith) are) in
      both fs [] (at f.kind (t ∷ us)) (text_at form names places (front ++ t ∷ us)) reads stops
