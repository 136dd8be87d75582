-- A fault hangs on the tokens up to its own, and on nothing behind it.
use Rattle.std.proofs.Common.{◌≡◌, ℕ, zero, suc, ◌+◌, ◌≤◌, ◌<◌, Bool, true, false, Option, Some, None, List, [], ◌∷◌, ◌++◌, length, Result, Ok, Err, refl, sym, ap, ◌∙◌, subst, append_assoc, arith}
use Rattle.std.specs.Prelude.{if◌then◌else◌}
use Rattle.std.proofs.lemmas.List.{length-append}
use Rattle.lx_ir_tokens.specs.declared.token.Tok.{Tok}
use Rattle.lx_ir_tokens.specs.declared.token.Kind.{Kind}
use Rattle.lx_ir_tokens.specs.declared.token.Mark.{Mark}
use Rattle.lx_ir_tokens.specs.declared.token.Mark.TheVariants.{Comma}
use Rattle.lx_ir_terms.specs.declared.fault.Fault.{Fault}
use Rattle.lx_ir_terms.specs.declared.fault.FaultKind.{FaultKind}
use Rattle.lx_ir_terms.specs.declared.fault.FaultKind.TheVariants.{Statement}
use Rattle.lx_ir_terms.specs.Reading.{Read, ◌>>=◌, at, has, behind, is_mark, refused, picked, pick_at, next_at, mark_at, more_at, items_at, closed_at, listed_at}
use Rattle.lx_ir_terms.specs.Grammar.{Part}
use Rattle.lx_ir_terms.specs.Laws.{Reads, Finds, Stops}
use Rattle.lx_ir_terms.proofs.Marks.{Next, next_token}

abbrev pub Refuses : {A : Type 0} → (List Tok → Read A) → Type 0
Refuses read = (ts : List Tok) (f : Fault) → read ts ≡ Err f → Stops read ts f

pub same_head : (t u : Tok) (ts us : List Tok) → t ∷ ts ≡ u ∷ us → t ≡ u
same_head t u ts us e = cc

no_head : (u : Tok) (us : List Tok) → [] ≡ u ∷ us → ⊥
no_head u us e = cc

abbrev SameRead : {A : Type 0} → Read A → Read A → Type 0
SameRead a b = a ≡ b

err_same : {A : Type 0} (d f : Fault) (r : Read A) → r ≡ Err d → r ≡ Err f → d ≡ f
err_same d f (Ok x) a b = cc
err_same d f (Err e) a b = let p : e ≡ d = cc in let q : e ≡ f = cc in sym p ∙ q

-- a rule that stops at the next token, by what that token is
pub at_once : {A : Type 0} (read : List Tok → Read A) (ts : List Tok) (f : Fault) (kind : FaultKind) → f ≡ at kind ts → ((t : Tok) (more us : List Tok) → ts ≡ t ∷ more → read (t ∷ us) ≡ Err (at kind (t ∷ us))) → Stops read ts f
at_once read ts f kind e h = record {
  front = [];
  rest = ts;
  whole = refl;
  left = ap (λ (g : Fault). g.left) e;
  again = λ t more us w. h t more us w ∙ ap (λ k. Err (at k (t ∷ us))) (sym (ap (λ (g : Fault). g.kind) e));
}

pick_same : {A : Type 0} (what : Tok → Option A) (how : Kind → FaultKind) (t u : Tok) (us : List Tok) → t ≡ u → what t ≡ None → pick_at what how (u ∷ us) ≡ Err (at (how t.kind) (u ∷ us))
pick_same what how t u us e n = subst (λ v. pick_at what how (v ∷ us) ≡ Err (at (how t.kind) (v ∷ us))) e (rw n refl)

picked_stops : {A : Type 0} (what : Tok → Option A) (how : Kind → FaultKind) (t : Tok) (ts : List Tok) (f : Fault) (found : Option A) → what t ≡ found → picked found (how t.kind) (t ∷ ts) ≡ Err f → Stops (pick_at what how) (t ∷ ts) f
picked_stops what how t ts f (Some x) w e = cc
picked_stops what how t ts f None w e =
    let s : at (how t.kind) (t ∷ ts) ≡ f = cc in
    at_once (pick_at what how) (t ∷ ts) f (how t.kind) (sym s) (λ u more us h. pick_same what how t u us (same_head t u ts more h) w)

pub pick_stops : {A : Type 0} (what : Tok → Option A) (how : Kind → FaultKind) → Refuses (pick_at what how)
pick_stops what how [] f e = let s : at Statement [] ≡ f = cc in at_once (pick_at what how) [] f Statement (sym s) (λ u more us h. absurd (no_head u more h))
pick_stops what how (t ∷ ts) f e = picked_stops what how t ts f (what t) refl e

next_same : (p : Kind → Bool) (t u : Tok) (us : List Tok) → t ≡ u → p t.kind ≡ false → next_at p (u ∷ us) ≡ Err (at Statement (u ∷ us))
next_same p t u us e n = subst (λ v. next_at p (v ∷ us) ≡ Err (at Statement (v ∷ us))) e (rw n refl)

abbrev next_by : Bool → List Tok → Read (Unit {0})
next_by b ts = if b then Ok (tt, behind ts) else refused ts

next_step : (p : Kind → Bool) (t : Tok) (ts : List Tok) (f : Fault) (b : Bool) → p t.kind ≡ b → next_by b (t ∷ ts) ≡ Err f → Stops (next_at p) (t ∷ ts) f
next_step p t ts f true w e = cc
next_step p t ts f false w e =
    let s : at Statement (t ∷ ts) ≡ f = cc in
    at_once (next_at p) (t ∷ ts) f Statement (sym s) (λ u more us h. next_same p t u us (same_head t u ts more h) w)

pub next_stops : (p : Kind → Bool) → Refuses (next_at p)
next_stops p [] f e = let s : at Statement [] ≡ f = cc in at_once (next_at p) [] f Statement (sym s) (λ u more us h. absurd (no_head u more h))
next_stops p (t ∷ ts) f e = next_step p t ts f (p t.kind) refl e

-- a rule, and another behind what it read
bind_step : {A B : Type 0} (read : List Tok → Read A) (g : A × List Tok → Read B) (part : A → Part) → ((x : A) → Reads read x (part x)) → Finds read part → Refuses read → ((x : A) → Refuses (λ us. g (x, us))) → (ts : List Tok) (f : Fault) (r : Read A) → read ts ≡ r → (r >>= g) ≡ Err f → Stops (λ us. read us >>= g) ts f
bind_step read g part reads finds stops h ts f (Ok x) w e =
    let front = finds ts x.1 x.0 w in
    let s = h x.0 x.1 f e in
    record {
      front = front.0 ++ s.front;
      rest = s.rest;
      whole = front.2 ∙ ap (λ r. front.0 ++ r) s.whole ∙ sym (append_assoc front.0 s.front s.rest);
      left = s.left;
      again = λ t more us c. rw (append_assoc front.0 s.front (t ∷ us), reads x.0 front.0 (s.front ++ t ∷ us) front.1) (s.again t more us c);
    }
bind_step read g part reads finds stops h ts f (Err d) w e =
    let same : d ≡ f = cc in
    let s = stops ts d w in
    record {
      front = s.front;
      rest = s.rest;
      whole = s.whole;
      left = ap (λ (k : Fault). k.left) (sym same) ∙ s.left;
      again = λ t more us c. rw (s.again t more us c) (ap (λ (k : Fault). Err (at k.kind (t ∷ us))) same);
    }

pub bind_stops : {A B : Type 0} (read : List Tok → Read A) (g : A × List Tok → Read B) (part : A → Part) → ((x : A) → Reads read x (part x)) → Finds read part → Refuses read → ((x : A) → Refuses (λ us. g (x, us))) → Refuses (λ us. read us >>= g)
bind_stops read g part reads finds stops h ts f e = bind_step read g part reads finds stops h ts f (read ts) refl e

abbrev last_of : {A B : Type 0} → (A → B) → Read A → Read B
last_of f r = r >>= λ c. Ok (f c.0, c.1)

last_step : {A B : Type 0} (read : List Tok → Read A) (k : A → B) → Refuses read → (ts : List Tok) (f : Fault) (r : Read A) → read ts ≡ r → last_of k r ≡ Err f → Stops (λ us. last_of k (read us)) ts f
last_step read k stops ts f (Ok x) w e = cc
last_step read k stops ts f (Err d) w e =
    let same : d ≡ f = cc in
    let s = stops ts d w in
    record {
      front = s.front;
      rest = s.rest;
      whole = s.whole;
      left = ap (λ (k : Fault). k.left) (sym same) ∙ s.left;
      again = λ t more us c. rw (s.again t more us c) (ap (λ (k : Fault). Err (at k.kind (t ∷ us))) same);
    }

pub last_stops : {A B : Type 0} (read : List Tok → Read A) (k : A → B) → Refuses read → Refuses (λ us. last_of k (read us))
last_stops read k stops ts f e = last_step read k stops ts f (read ts) refl e

-- the first token says which rule reads
pub first_same : (p : Kind → Bool) (ts front rest more us : List Tok) (t : Tok) → ts ≡ front ++ rest → rest ≡ t ∷ more → has p (front ++ t ∷ us) ≡ has p ts
first_same p ts [] rest more us t w e = ap (has p) (sym (w ∙ e)) ∙ refl
first_same p ts (u ∷ front) rest more us t w e = ap (has p) (sym w)

pub guard_stops : {A : Type 0} (p : Kind → Bool) (read r : List Tok → Read A) (b : Bool) → ((vs : List Tok) → has p vs ≡ b → read vs ≡ r vs) → (ts : List Tok) (f : Fault) → has p ts ≡ b → Stops r ts f → Stops read ts f
guard_stops p read r b h ts f o s = record {
  front = s.front;
  rest = s.rest;
  whole = s.whole;
  left = s.left;
  again = λ t more us c. h (s.front ++ t ∷ us) (first_same p ts s.front s.rest more us t s.whole c ∙ o) ∙ s.again t more us c;
}

-- a rule behind a token
pub behind_stops : {A : Type 0} (p : Kind → Bool) (r : List Tok → Read A) (ts : List Tok) (f : Fault) → has p ts ≡ true → Stops r (behind ts) f → Stops (λ us. r (behind us)) ts f
behind_stops p r ts f o s =
    let n = next_token p ts o in
    record {
      front = n.token ∷ s.front;
      rest = s.rest;
      whole = n.whole ∙ ap (λ us. n.token ∷ us) s.whole;
      left = s.left;
      again = λ t more us c. s.again t more us c;
    }
