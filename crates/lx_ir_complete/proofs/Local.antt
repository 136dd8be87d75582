-- Reading that hangs on the tokens that it reads, and on how those behind them begin.
use Rattle.std.proofs.Common.{◌≡◌, ℕ, suc, ◌+◌, ◌≤◌, Bool, true, false, Option, Some, None, List, [], ◌∷◌, ◌++◌, length, Ok, Err, refl, sym, ap, ◌∙◌, subst, append_assoc, arith}
use Rattle.std.specs.Prelude.{if◌then◌else◌}
use Rattle.std.proofs.lemmas.List.{length-append, append-nil, append_cancel_right}
use Rattle.lx_ir_tokens.specs.declared.token.Tok.{Tok}
use Rattle.lx_ir_tokens.specs.declared.token.Kind.{Kind}
use Rattle.lx_ir_tokens.specs.declared.token.Mark.TheVariants.{Colon, Exclamation}
use Rattle.lx_ir_terms.specs.declared.fault.Fault.{Fault}
use Rattle.lx_ir_terms.specs.declared.fault.FaultKind.{FaultKind}
use Rattle.lx_ir_terms.specs.Reading.{Read, ◌>>=◌, at, has, behind, is_mark, refused}
use Rattle.lx_ir_terms.specs.Grammar.{Part}
use Rattle.lx_ir_terms.specs.Laws.{Reads, Finds, Stops}
use Rattle.lx_ir_terms.proofs.Parts.{ok_same}
use Rattle.lx_ir_complete.specs.Alike.{BeginAlike, StopsThere}

-- Looking ahead by two tokens.

abbrev pub first_of : List Tok → Option Tok
first_of [] = None
first_of (t ∷ ts) = Some t

-- the next token is the same, or there is none, and what is behind it begins alike
pub record Looks (us vs : List Tok) : Type 0 where
  pub first : first_of us ≡ first_of vs
  pub second : BeginAlike (behind us) (behind vs)

begin_same : (us : List Tok) → BeginAlike us us
begin_same us = record { some = refl; colon = refl; bang = refl }

pub looks_same : (us : List Tok) → Looks us us
looks_same us = record { first = refl; second = begin_same (behind us) }

pub first_has : (p : Kind → Bool) (us vs : List Tok) → first_of us ≡ first_of vs → has p us ≡ has p vs
first_has p [] [] e = refl
first_has p [] (v ∷ vs) e = cc
first_has p (u ∷ us) [] e = cc
first_has p (u ∷ us) (v ∷ vs) e = let s : u ≡ v = cc in ap (λ (t : Tok). p t.kind) s

pub has_looks : (p : Kind → Bool) (us vs : List Tok) → Looks us vs → has p us ≡ has p vs
has_looks p us vs l = first_has p us vs l.first

first_alike : (us vs : List Tok) → first_of us ≡ first_of vs → BeginAlike us vs
first_alike us vs e = record { some = first_has (λ k. true) us vs e; colon = first_has (is_mark Colon) us vs e; bang = first_has (is_mark Exclamation) us vs e }

pub looks_on : (front us vs : List Tok) → Looks us vs → Looks (front ++ us) (front ++ vs)
looks_on [] us vs l = l
looks_on (t ∷ front) us vs l = record { first = refl; second = first_alike (front ++ us) (front ++ vs) ((looks_on front us vs l).first) }

pub looks_at : (front : List Tok) (t : Tok) (more vs : List Tok) → BeginAlike more vs → Looks (front ++ t ∷ more) (front ++ t ∷ vs)
looks_at front t more vs alike = looks_on front (t ∷ more) (t ∷ vs) (record { first = refl; second = alike })

pub nothing_looks : (vs : List Tok) → Looks [] vs → vs ≡ []
nothing_looks [] l = refl
nothing_looks (v ∷ vs) l = let e = l.first in cc

-- Two ways to divide tokens.

pub same_split : (a b c d : List Tok) → a ++ b ≡ c ++ d → length b ≡ length d → (a ≡ c) × (b ≡ d)
same_split [] b [] d e l = (refl, e)
same_split [] b (c ∷ cs) d e l = let count : length b ≡ suc (length cs + length d) = ap length e ∙ ap suc (length-append cs d) in absurd (omega (arith, l, count))
same_split (a ∷ rs) b [] d e l = let count : suc (length rs + length b) ≡ length d = sym (ap suc (length-append rs b)) ∙ ap length e in absurd (omega (arith, l, count))
same_split (a ∷ rs) b (c ∷ cs) d e l =
    let first : a ≡ c = cc in
    let rest : rs ++ b ≡ cs ++ d = cc in
    let s = same_split rs b cs d rest l in
    (cc (first, s.0), s.1)

no_longer : (front rest us : List Tok) → rest ≡ front ++ us → length us ≤ length rest
no_longer front rest us e = let count : length rest ≡ length front + length us = ap length e ∙ length-append front us in omega (arith, count)

abbrev pub Same : {A : Type 0} → A → A → Type 0
Same x y = x ≡ y

abbrev SameRead : {A : Type 0} → Read A → Read A → Type 0
SameRead a b = a ≡ b

err_kind : {A : Type 0} (kind : FaultKind) (ts : List Tok) (f : Fault) (r : Read A) → r ≡ Err (at kind ts) → r ≡ Err f → at kind ts ≡ f
err_kind kind ts f (Ok x) a b = cc
err_kind kind ts f (Err e) a b = let p : e ≡ at kind ts = cc in let q : e ≡ f = cc in sym p ∙ q

-- Faults of these kinds alone are spoken of.
module _ (asked : FaultKind → Bool) where
  -- What is read of tokens is read of them before all tokens that look alike, by the other reader, with a related answer. A fault is
  -- met at its token also before others that begin alike.
  pub record Local {A : Type 0} (R : A → A → Type 0) (read other : List Tok → Read A) : Type 0 where
    pub ends : (ts us : List Tok) (x : A) → read ts ≡ Ok (x, us) → (front : List Tok) × (ts ≡ front ++ us)
    pub reads : (front us vs : List Tok) (x : A) → read (front ++ us) ≡ Ok (x, us) → Looks us vs → (y : A) × (other (front ++ vs) ≡ Ok (y, vs)) × R x y
    pub stops : (ts : List Tok) (f : Fault) → asked f.kind ≡ true → read ts ≡ Err f → (front : List Tok) × (rest : List Tok) × (ts ≡ front ++ rest) × (f.left ≡ length rest)
    pub faults : (front more vs : List Tok) (t : Tok) (f : Fault) → asked f.kind ≡ true → read (front ++ t ∷ more) ≡ Err f → f.left ≡ length (t ∷ more) → BeginAlike more vs → other (front ++ t ∷ vs) ≡ Err (at f.kind (t ∷ vs))

  abbrev pub Plain : {A : Type 0} → (List Tok → Read A) → Type 0
  Plain read = Local Same read read

  -- such a reader stops there
  pub stops_there : {A : Type 0} (R : A → A → Type 0) (read : List Tok → Read A) → Local R read read → (ts : List Tok) (f : Fault) → asked f.kind ≡ true → read ts ≡ Err f → StopsThere read ts f
  stops_there R read l ts f a e =
      let s = l.stops ts f a e in
      record {
        front = s.0;
        rest = s.1;
        whole = s.2;
        left = s.3;
        again = λ t more us c alike. l.faults s.0 more us t f a (ap read (sym (s.2 ∙ ap (λ r. s.0 ++ r) c)) ∙ e) (s.3 ∙ ap length c) alike;
      }

  -- Readers that are one token or laws.

  pub from_laws : {A : Type 0} (read : List Tok → Read A) (part : A → Part) → ((x : A) → Reads read x (part x)) → Finds read part → ((ts : List Tok) (f : Fault) → read ts ≡ Err f → Stops read ts f) → Plain read
  from_laws read part reads finds refuses = record {
    ends = λ ts us x e. let f = finds ts us x e in (f.0, f.2);
    reads = λ front us vs x e l.
        let f = finds (front ++ us) us x e in
        (x, ap (λ r. read (r ++ vs)) (append_cancel_right front f.0 us f.2) ∙ reads x f.0 vs f.1, refl);
    stops = λ ts f a e. let s = refuses ts f e in (s.front, s.rest, s.whole, s.left);
    faults = λ front more vs t f a e left alike.
        let s = refuses (front ++ t ∷ more) f e in
        let k = same_split front (t ∷ more) s.front s.rest s.whole (sym left ∙ s.left) in
        ap (λ r. read (r ++ t ∷ vs)) k.0 ∙ s.again t more vs (sym k.1);
  }

  pure_err : {A : Type 0} (ts : List Tok) (x : A) (f : Fault) → SameRead {A = A} (Ok (x, ts)) (Err f) → ⊥
  pure_err ts x f e = cc

  pub pure_local : {A : Type 0} (R : A → A → Type 0) (x y : A) → R x y → Local R (λ ts. Ok (x, ts)) (λ ts. Ok (y, ts))
  pure_local R x y related = record {
    ends = λ ts us z e. ([], (ok_same x z ts us e).1);
    reads = λ front us vs z e l.
        let same : front ++ us ≡ [] ++ us = (ok_same x z (front ++ us) us e).1 in
        let none : front ≡ [] = append_cancel_right front [] us same in
        (y, ap (λ r. Ok (y, r ++ vs)) none, subst (λ w. R w y) ((ok_same x z (front ++ us) us e).0) related);
    stops = λ ts f a e. absurd (pure_err ts x f e);
    faults = λ front more vs t f a e left alike. absurd (pure_err (front ++ t ∷ more) x f e);
  }

  -- a fault at the next token
  fault_there : {A : Type 0} (kind : FaultKind) (front more vs : List Tok) (t : Tok) (f : Fault) → SameRead {A = A} (Err (at kind (front ++ t ∷ more))) (Err f) → f.left ≡ length (t ∷ more) → SameRead {A = A} (Err (at kind (front ++ t ∷ vs))) (Err (at f.kind (t ∷ vs)))
  fault_there {A} kind [] more vs t f e left =
      let s : at kind (t ∷ more) ≡ f = err_kind {A = A} kind (t ∷ more) f (Err (at kind (t ∷ more))) refl e in
      ap (λ (g : Fault). Err (at g.kind (t ∷ vs))) s
  fault_there {A} kind (u ∷ front) more vs t f e left =
      let s : at kind (u ∷ front ++ t ∷ more) ≡ f = err_kind {A = A} kind (u ∷ front ++ t ∷ more) f (Err (at kind (u ∷ front ++ t ∷ more))) refl e in
      let count : suc (length front + suc (length more)) ≡ f.left = sym (ap suc (length-append front (t ∷ more))) ∙ ap (λ (g : Fault). g.left) s in
      absurd (omega (arith, count, left))

  fault_ok : {A : Type 0} (g : Fault) (x : A) (us : List Tok) → SameRead {A = A} (Err g) (Ok (x, us)) → ⊥
  fault_ok g x us e = cc

  pub fault_local : {A : Type 0} (R : A → A → Type 0) (kind : FaultKind) → Local R (λ ts. Err (at kind ts)) (λ ts. Err (at kind ts))
  fault_local {A} R kind = record {
    ends = λ ts us x e. absurd (fault_ok (at kind ts) x us e);
    reads = λ front us vs x e l. absurd (fault_ok (at kind (front ++ us)) x us e);
    stops = λ ts f a e. ([], ts, refl, sym (ap (λ (g : Fault). g.left) (err_kind {A = A} kind ts f (Err (at kind ts)) refl e)));
    faults = λ front more vs t f a e left alike. fault_there {A = A} kind front more vs t f e left;
  }

  -- the fault that the tokens end
  pub end_local : {A : Type 0} (R : A → A → Type 0) → Local {A = A} R (λ ts. refused []) (λ ts. refused [])
  end_local {A} R = record {
    ends = λ ts us x e. absurd (fault_ok _ x us e);
    reads = λ front us vs x e l. absurd (fault_ok _ x us e);
    stops = λ ts f a e. (ts, [], sym (append-nil ts), sym (ap (λ (g : Fault). g.left) (err_kind {A = A} _ [] f (refused []) refl e)));
    faults = λ front more vs t f a e left alike.
        let none : f.left ≡ 0 = sym (ap (λ (g : Fault). g.left) (err_kind {A = A} _ [] f (refused []) refl e)) in
        absurd (omega (arith, left, none));
  }

  not_asked : {A : Type 0} (d f : Fault) → asked d.kind ≡ false → asked f.kind ≡ true → SameRead {A = A} (Err d) (Err f) → ⊥
  not_asked d f n a e = let s : d ≡ f = cc in let both : true ≡ false = sym a ∙ ap (λ (k : Fault). asked k.kind) (sym s) ∙ n in cc

  -- a fault that is not spoken of
  pub other_fault : {A : Type 0} (R : A → A → Type 0) (g h : List Tok → Fault) → ((ts : List Tok) → asked ((g ts).kind) ≡ false) → Local {A = A} R (λ ts. Err (g ts)) (λ ts. Err (h ts))
  other_fault {A} R g h silent = record {
    ends = λ ts us x e. absurd (fault_ok (g ts) x us e);
    reads = λ front us vs x e l. absurd (fault_ok (g (front ++ us)) x us e);
    stops = λ ts f a e. absurd (not_asked {A = A} (g ts) f (silent ts) a e);
    faults = λ front more vs t f a e left alike. absurd (not_asked {A = A} (g (front ++ t ∷ more)) f (silent (front ++ t ∷ more)) a e);
  }

  -- One reader, and another behind it, which may see where the first began.
  module _ {A B : Type 0} (R : A → A → Type 0) (S : B → B → Type 0) (read other : List Tok → Read A) (g h : List Tok → A × List Tok → Read B) (first : Local R read other)
      (next : (ts vs : List Tok) (x y : A) → Looks ts vs → R x y → Local S (λ us. g ts (x, us)) (λ us. h vs (y, us))) where
    next_here : (ts us : List Tok) (x : A) → read ts ≡ Ok (x, us) → (y : A) × Local S (λ vs. g ts (x, vs)) (λ vs. h ts (y, vs))
    next_here ts us x e =
        let f = first.ends ts us x e in
        let r = first.reads f.0 us us x (ap read (sym f.1) ∙ e) (looks_same us) in
        (r.0, next ts ts x r.0 (looks_same ts) r.2)

    bound_ends : (ts us : List Tok) (z : B) (r : Read A) → read ts ≡ r → (r >>= g ts) ≡ Ok (z, us) → (front : List Tok) × (ts ≡ front ++ us)
    bound_ends ts us z (Err d) w e = cc
    bound_ends ts us z (Ok x) w e =
        let f = first.ends ts x.1 x.0 w in
        let s = ((next_here ts x.1 x.0 w).1).ends x.1 us z e in
        (f.0 ++ s.0, f.1 ∙ ap (λ r. f.0 ++ r) s.1 ∙ sym (append_assoc f.0 s.0 us))

    bound_reads : (front us vs : List Tok) (z : B) (r : Read A) → read (front ++ us) ≡ r → (r >>= g (front ++ us)) ≡ Ok (z, us) → Looks us vs → (y : B) × ((other (front ++ vs) >>= h (front ++ vs)) ≡ Ok (y, vs)) × S z y
    bound_reads front us vs z (Err d) w e l = cc
    bound_reads front us vs z (Ok x) w e l =
        let f = first.ends (front ++ us) x.1 x.0 w in
        let s = ((next_here (front ++ us) x.1 x.0 w).1).ends x.1 us z e in
        let whole : front ++ us ≡ (f.0 ++ s.0) ++ us = f.1 ∙ ap (λ r. f.0 ++ r) s.1 ∙ sym (append_assoc f.0 s.0 us) in
        let same : front ≡ f.0 ++ s.0 = append_cancel_right front (f.0 ++ s.0) us whole in
        let ahead : Looks x.1 (s.0 ++ vs) = subst (λ r. Looks r (s.0 ++ vs)) (sym s.1) (looks_on s.0 us vs l) in
        let one = first.reads f.0 x.1 (s.0 ++ vs) x.0 (ap read (sym f.1) ∙ w) ahead in
        let there : front ++ vs ≡ f.0 ++ (s.0 ++ vs) = ap (λ r. r ++ vs) same ∙ append_assoc f.0 s.0 vs in
        let two = (next (front ++ us) (front ++ vs) x.0 one.0 (looks_on front us vs l) one.2).reads s.0 us vs z (ap (λ r. g (front ++ us) (x.0, r)) (sym s.1) ∙ e) l in
        (two.0, ap (λ (r : Read A). r >>= h (front ++ vs)) (ap other there ∙ one.1) ∙ two.1, two.2)

    bound_stops : (ts : List Tok) (f : Fault) (r : Read A) → asked f.kind ≡ true → read ts ≡ r → (r >>= g ts) ≡ Err f → (front : List Tok) × (rest : List Tok) × (ts ≡ front ++ rest) × (f.left ≡ length rest)
    bound_stops ts f (Err d) a w e = let same : d ≡ f = cc in first.stops ts f a (w ∙ ap (λ (k : Fault). Err k) same)
    bound_stops ts f (Ok x) a w e =
        let k = first.ends ts x.1 x.0 w in
        let s = ((next_here ts x.1 x.0 w).1).stops x.1 f a e in
        (k.0 ++ s.0, s.1, k.1 ∙ ap (λ r. k.0 ++ r) s.2 ∙ sym (append_assoc k.0 s.0 s.1), s.3)

    bound_faults : (front more vs : List Tok) (t : Tok) (f : Fault) (r : Read A) → asked f.kind ≡ true → read (front ++ t ∷ more) ≡ r → (r >>= g (front ++ t ∷ more)) ≡ Err f → f.left ≡ length (t ∷ more) → BeginAlike more vs → (other (front ++ t ∷ vs) >>= h (front ++ t ∷ vs)) ≡ Err (at f.kind (t ∷ vs))
    bound_faults front more vs t f (Err d) a w e left alike =
        let same : d ≡ f = cc in
        ap (λ (r : Read A). r >>= h (front ++ t ∷ vs)) (first.faults front more vs t f a (w ∙ ap (λ (k : Fault). Err k) same) left alike)
    bound_faults front more vs t f (Ok x) a w e left alike =
        let k = first.ends (front ++ t ∷ more) x.1 x.0 w in
        let s = ((next_here (front ++ t ∷ more) x.1 x.0 w).1).stops x.1 f a e in
        let whole : front ++ t ∷ more ≡ (k.0 ++ s.0) ++ s.1 = k.1 ∙ ap (λ r. k.0 ++ r) s.2 ∙ sym (append_assoc k.0 s.0 s.1) in
        let same = same_split front (t ∷ more) (k.0 ++ s.0) s.1 whole (sym left ∙ s.3) in
        let rest : x.1 ≡ s.0 ++ t ∷ more = s.2 ∙ ap (λ r. s.0 ++ r) (sym same.1) in
        let ahead : Looks x.1 (s.0 ++ t ∷ vs) = subst (λ r. Looks r (s.0 ++ t ∷ vs)) (sym rest) (looks_at s.0 t more vs alike) in
        let one = first.reads k.0 x.1 (s.0 ++ t ∷ vs) x.0 (ap read (sym k.1) ∙ w) ahead in
        let there : front ++ t ∷ vs ≡ k.0 ++ (s.0 ++ t ∷ vs) = ap (λ r. r ++ t ∷ vs) same.0 ∙ append_assoc k.0 s.0 (t ∷ vs) in
        let two = (next (front ++ t ∷ more) (front ++ t ∷ vs) x.0 one.0 (looks_at front t more vs alike) one.2).faults s.0 more vs t f a (ap (λ r. g (front ++ t ∷ more) (x.0, r)) (sym rest) ∙ e) left alike in
        ap (λ (r : Read A). r >>= h (front ++ t ∷ vs)) (ap other there ∙ one.1) ∙ two

    pub bind_local : Local S (λ ts. read ts >>= g ts) (λ ts. other ts >>= h ts)
    bind_local = record {
      ends = λ ts us z e. bound_ends ts us z (read ts) refl e;
      reads = λ front us vs z e l. bound_reads front us vs z (read (front ++ us)) refl e l;
      stops = λ ts f a e. bound_stops ts f (read ts) a refl e;
      faults = λ front more vs t f a e left alike. bound_faults front more vs t f (read (front ++ t ∷ more)) a refl e left alike;
    }

  -- A reader that is chosen by what stands next.
  module _ {A C : Type 0} (R : A → A → Type 0) (c d : List Tok → C) (respects : (us vs : List Tok) → Looks us vs → c us ≡ d vs) (f h : C → List Tok → Read A) (each : (k : C) → Local R (f k) (h k)) where
    pub choose_local : Local R (λ ts. f (c ts) ts) (λ ts. h (d ts) ts)
    choose_local = record {
      ends = λ ts us x e. (each (c ts)).ends ts us x e;
      reads = λ front us vs x e l.
          let r = (each (c (front ++ us))).reads front us vs x e l in
          (r.0, ap (λ k. h k (front ++ vs)) (sym (respects (front ++ us) (front ++ vs) (looks_on front us vs l))) ∙ r.1, r.2);
      stops = λ ts g a e. (each (c ts)).stops ts g a e;
      faults = λ front more vs t g a e left alike.
          ap (λ k. h k (front ++ t ∷ vs)) (sym (respects (front ++ t ∷ more) (front ++ t ∷ vs) (looks_at front t more vs alike)))
          ∙ (each (c (front ++ t ∷ more))).faults front more vs t g a e left alike;
    }

  -- the same readers, written otherwise
  pub same_local : {A : Type 0} (R : A → A → Type 0) (read other r o : List Tok → Read A) → ((ts : List Tok) → read ts ≡ r ts) → ((ts : List Tok) → other ts ≡ o ts) → Local R r o → Local R read other
  same_local R read other r o p q l = record {
    ends = λ ts us x e. l.ends ts us x (sym (p ts) ∙ e);
    reads = λ front us vs x e k. let s = l.reads front us vs x (sym (p (front ++ us)) ∙ e) k in (s.0, q (front ++ vs) ∙ s.1, s.2);
    stops = λ ts f a e. l.stops ts f a (sym (p ts) ∙ e);
    faults = λ front more vs t f a e left alike. q (front ++ t ∷ vs) ∙ l.faults front more vs t f a (sym (p (front ++ t ∷ more)) ∙ e) left alike;
  }

  -- A reader behind the next token.
  module _ {A : Type 0} (R : A → A → Type 0) (read other : List Tok → Read A) (l : Local R read other) where
    behind_ends : (ts us : List Tok) (x : A) → read (behind ts) ≡ Ok (x, us) → (front : List Tok) × (ts ≡ front ++ us)
    behind_ends [] us x e = l.ends [] us x e
    behind_ends (t ∷ ts) us x e = let f = l.ends ts us x e in (t ∷ f.0, ap (λ r. t ∷ r) f.1)

    behind_reads : (front us vs : List Tok) (x : A) → read (behind (front ++ us)) ≡ Ok (x, us) → Looks us vs → (y : A) × (other (behind (front ++ vs)) ≡ Ok (y, vs)) × R x y
    behind_reads [] [] vs x e k = subst (λ r. (y : A) × (other (behind r) ≡ Ok (y, r)) × R x y) (sym (nothing_looks vs k)) (l.reads [] [] [] x e (looks_same []))
    behind_reads [] (u ∷ us) vs x e k = let f = l.ends us (u ∷ us) x e in absurd (omega (arith, no_longer f.0 us (u ∷ us) f.1))
    behind_reads (t ∷ front) us vs x e k = l.reads front us vs x e k

    behind_stops : (ts : List Tok) (f : Fault) → asked f.kind ≡ true → read (behind ts) ≡ Err f → (front : List Tok) × (rest : List Tok) × (ts ≡ front ++ rest) × (f.left ≡ length rest)
    behind_stops [] f a e = l.stops [] f a e
    behind_stops (t ∷ ts) f a e = let s = l.stops ts f a e in (t ∷ s.0, s.1, ap (λ r. t ∷ r) s.2, s.3)

    behind_faults : (front more vs : List Tok) (t : Tok) (f : Fault) → asked f.kind ≡ true → read (behind (front ++ t ∷ more)) ≡ Err f → f.left ≡ length (t ∷ more) → BeginAlike more vs → other (behind (front ++ t ∷ vs)) ≡ Err (at f.kind (t ∷ vs))
    behind_faults [] more vs t f a e left alike = let s = l.stops more f a e in absurd (omega (arith, no_longer s.0 more s.1 s.2, s.3, left))
    behind_faults (u ∷ front) more vs t f a e left alike = l.faults front more vs t f a e left alike

    pub behind_local : Local R (λ ts. read (behind ts)) (λ ts. other (behind ts))
    behind_local = record { ends = behind_ends; reads = behind_reads; stops = behind_stops; faults = behind_faults }

  -- A loop whose number is at least that of the tokens.
  module _ {A : Type 0} (R : A → A → Type 0) (loop other : ℕ → List Tok → Read A) (enough : (n m : ℕ) (ts : List Tok) → length ts ≤ n → length ts ≤ m → loop n ts ≡ loop m ts) (enough' : (n m : ℕ) (ts : List Tok) → length ts ≤ n → length ts ≤ m → other n ts ≡ other m ts) (each : (n : ℕ) → Local R (loop n) (other n)) where
    pub fuel_local : Local R (λ ts. loop (length ts) ts) (λ ts. other (length ts) ts)
    fuel_local = record {
      ends = λ ts us x e. (each (length ts)).ends ts us x e;
      reads = λ front us vs x e l.
          let n = length (front ++ us) + length (front ++ vs) in
          let r = (each n).reads front us vs x (enough n (length (front ++ us)) (front ++ us) (omega arith) (omega arith) ∙ e) l in
          (r.0, enough' (length (front ++ vs)) n (front ++ vs) (omega arith) (omega arith) ∙ r.1, r.2);
      stops = λ ts f a e. (each (length ts)).stops ts f a e;
      faults = λ front more vs t f a e left alike.
          let n = length (front ++ t ∷ more) + length (front ++ t ∷ vs) in
          enough' (length (front ++ t ∷ vs)) n (front ++ t ∷ vs) (omega arith) (omega arith)
          ∙ (each n).faults front more vs t f a (enough n (length (front ++ t ∷ more)) (front ++ t ∷ more) (omega arith) (omega arith) ∙ e) left alike;
    }

  -- Plain readers.

  pub then_plain : {A B : Type 0} (read : List Tok → Read A) (g : A × List Tok → Read B) → Plain read → ((x : A) → Plain (λ us. g (x, us))) → Plain (λ ts. read ts >>= g)
  then_plain read g first next =
      bind_local Same Same read read (λ ts. g) (λ ts. g) first (λ ts vs x y l e. subst (λ v. Local Same (λ us. g (x, us)) (λ us. g (v, us))) e (next x))

  pub pure_plain : {A : Type 0} (x : A) → Plain (λ ts. Ok (x, ts))
  pure_plain x = pure_local Same x x refl

  pub last_plain : {A B : Type 0} (read : List Tok → Read A) (k : A → B) → Plain read → Plain (λ ts. read ts >>= λ c. Ok (k c.0, c.1))
  last_plain read k first = then_plain read (λ c. Ok (k c.0, c.1)) first (λ x. pure_plain (k x))

  by_test : {A : Type 0} (R : A → A → Type 0) (a a' b b' : List Tok → Read A) → Local R a a' → Local R b b' → (k : Bool) → Local R (λ ts. if k then a ts else b ts) (λ ts. if k then a' ts else b' ts)
  by_test R a a' b b' l r true = l
  by_test R a a' b b' l r false = r

  pub if_local : {A : Type 0} (R : A → A → Type 0) (p q : List Tok → Bool) → ((us vs : List Tok) → Looks us vs → p us ≡ q vs) → (a a' b b' : List Tok → Read A) → Local R a a' → Local R b b' → Local R (λ ts. if p ts then a ts else b ts) (λ ts. if q ts then a' ts else b' ts)
  if_local R p q respects a a' b b' l r = choose_local R p q respects (λ k ts. if k then a ts else b ts) (λ k ts. if k then a' ts else b' ts) (by_test R a a' b b' l r)

  pub if_plain : {A : Type 0} (p : Kind → Bool) (a b : List Tok → Read A) → Plain a → Plain b → Plain (λ ts. if has p ts then a ts else b ts)
  if_plain p a b l r = if_local Same (has p) (has p) (has_looks p) a a b b l r
