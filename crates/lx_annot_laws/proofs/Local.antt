-- Reading that hangs on the tokens that it reads, and on the one behind them.
use Rattle.std.proofs.Common.{◌≡◌, ℕ, suc, ◌+◌, ◌≤◌, Bool, true, false, Option, Some, None, List, [], ◌∷◌, ◌++◌, length, Ok, Err, refl, sym, ap, ◌∙◌, subst, append_assoc, arith, bytes_eq}
use Rattle.std.specs.Prelude.{if◌then◌else◌}
use Rattle.std.proofs.lemmas.List.{length-append, append_cancel_right}
use Rattle.lx_words.specs.declared.token.TokenKind.{TokenKind}
use Rattle.lx_annot_expressions.specs.Tokens.{Tok}
use Rattle.lx_annot_expressions.specs.declared.fault.Fault.{Fault}
use Rattle.lx_annot_expressions.specs.declared.fault.FaultKind.{FaultKind}
use Rattle.lx_annot_expressions.specs.declared.fault.FaultKind.TheVariants.{Statement}
use Rattle.lx_annot_expressions.specs.Reading.{Read, ◌>>=◌, at, has, behind, refused, pick_at, picked, next_at}
use Rattle.lx_annot_expressions.proofs.Parts.{ok_same}
use Rattle.lx_annot_laws.specs.RefusedPartLaws.{IsTidy, is_refusal, is_bound, IsSteady}

-- Looking ahead by one token.

abbrev pub first_of : List Tok → Option Tok
first_of [] = None
first_of (t ∷ ts) = Some t

-- the next token is the same, or there is none
abbrev pub Looks : List Tok → List Tok → Type 0
Looks us vs = first_of us ≡ first_of vs

pub has_looks : (text : List ℕ) (us vs : List Tok) → Looks us vs → has text us ≡ has text vs
has_looks text [] [] l = refl
has_looks text [] (v ∷ vs) l = cc
has_looks text (u ∷ us) [] l = cc
has_looks text (u ∷ us) (v ∷ vs) l = let s : u ≡ v = cc in ap (λ (t : Tok). bytes_eq t.bytes text) s

pub looks_on : (front us vs : List Tok) → Looks us vs → Looks (front ++ us) (front ++ vs)
looks_on [] us vs l = l
looks_on (t ∷ front) us vs l = refl

pub nothing_looks : (vs : List Tok) → Looks [] vs → vs ≡ []
nothing_looks [] l = refl
nothing_looks (v ∷ vs) l = cc

pub something_looks : (u : Tok) (us vs : List Tok) → Looks (u ∷ us) vs → vs ≡ u ∷ behind vs
something_looks u us [] l = cc
something_looks u us (v ∷ vs) l = let s : v ≡ u = cc in ap (λ t. t ∷ vs) s

-- the next token is tidy, or there is none
abbrev pub Tidy : List Tok → Type 0
Tidy [] = Unit {0}
Tidy (t ∷ ts) = IsTidy t

-- the next token is tidy and at fault whatever follows it, or there is none
abbrev pub Bound : FaultKind → List Tok → Type 0
Bound kind [] = Unit {0}
Bound kind (t ∷ ts) = IsTidy t × (is_bound kind t.bytes ≡ true)

-- Two ways to divide tokens.

pub same_split : (a b c d : List Tok) → a ++ b ≡ c ++ d → length b ≡ length d → (a ≡ c) × (b ≡ d)
same_split [] b [] d e l = (refl, e)
same_split [] b (c ∷ cs) d e l = let count : length b ≡ suc (length cs + length d) = ap length e ∙ ap suc (length-append cs d) in absurd (omega (arith, l, count))
same_split (a ∷ rs) b [] d e l = let count : suc (length rs + length b) ≡ length d = sym (ap suc (length-append rs b)) ∙ ap length e in absurd (omega (arith, l, count))
same_split (a ∷ rs) b (c ∷ cs) d e l =
    let first : a ≡ c = cc in
    let rest : rs ++ b ≡ cs ++ d = cc in
    let s = same_split rs b cs d rest l in
    (cc (first, s.0), s.1)

pub no_longer : (front rest us : List Tok) → rest ≡ front ++ us → length us ≤ length rest
no_longer front rest us e = let count : length rest ≡ length front + length us = ap length e ∙ length-append front us in omega (arith, count)

abbrev pub Same : {A : Type 0} → A → A → Type 0
Same x y = x ≡ y

abbrev pub SameRead : {A : Type 0} → Read A → Read A → Type 0
SameRead a b = a ≡ b

err_kind : {A : Type 0} (d f : Fault) (r : Read A) → r ≡ Err d → r ≡ Err f → d ≡ f
err_kind d f (Ok x) a b = cc
err_kind d f (Err e) a b = let p : e ≡ d = cc in let q : e ≡ f = cc in sym p ∙ q

pub same_fault : {A : Type 0} (d f : Fault) → SameRead {A = A} (Err d) (Err f) → d ≡ f
same_fault {A} d f e = err_kind {A = A} d f (Err d) refl e

pub ok_err : {A : Type 0} (ts : List Tok) (x : A) (f : Fault) → SameRead {A = A} (Ok (x, ts)) (Err f) → ⊥
ok_err ts x f e = cc

pub err_ok : {A : Type 0} (g : Fault) (x : A) (us : List Tok) → SameRead {A = A} (Err g) (Ok (x, us)) → ⊥
err_ok g x us e = cc

-- Tokens that are read up to some, and a fault at them, or at the end where there are none.
abbrev pub Split : List Tok → ℕ → Type 0
Split ts left = (front : List Tok) × (rest : List Tok) × (ts ≡ front ++ rest) × (left ≡ length rest)

-- What is read of tokens is read of them before all tokens that begin alike, by the other reader, with a related answer. A token that
-- cannot stand there is refused also before others.
pub record Local {A : Type 0} (R : A → A → Type 0) (read other : List Tok → Read A) : Type 0 where
  pub ends : (ts us : List Tok) (x : A) → read ts ≡ Ok (x, us) → (front : List Tok) × (ts ≡ front ++ us)
  pub reads : (front us vs : List Tok) (x : A) → read (front ++ us) ≡ Ok (x, us) → Looks us vs → (y : A) × (other (front ++ vs) ≡ Ok (y, vs)) × R x y
  pub stops : (ts : List Tok) (f : Fault) → is_refusal f.kind ≡ true → read ts ≡ Err f → Split ts f.left
  pub faults : (front us vs : List Tok) (f : Fault) → Bound f.kind us → is_refusal f.kind ≡ true → read (front ++ us) ≡ Err f → f.left ≡ length us → Looks us vs → other (front ++ vs) ≡ Err (at f.kind vs)

abbrev pub Plain : {A : Type 0} → (List Tok → Read A) → Type 0
Plain read = Local Same read read

-- such a reader stops at such a token whatever follows it
pub steady : {A : Type 0} (R : A → A → Type 0) (read : List Tok → Read A) → Local R read read → IsSteady read
steady R read l ts f a e =
    let s = l.stops ts f a e in
    record {
      front = s.0;
      rest = s.1;
      whole = s.2;
      left = s.3;
      again = λ t more us c tidy bound. l.faults s.0 (t ∷ more) (t ∷ us) f (tidy, bound) a (ap read (sym (s.2 ∙ ap (λ r. s.0 ++ r) c)) ∙ e) (s.3 ∙ ap length c) refl;
    }

-- One token.

pub pure_local : {A : Type 0} (R : A → A → Type 0) (x y : A) → R x y → Local R (λ ts. Ok (x, ts)) (λ ts. Ok (y, ts))
pure_local R x y related = record {
  ends = λ ts us z e. ([], (ok_same x z ts us e).1);
  reads = λ front us vs z e l.
      let same : front ++ us ≡ [] ++ us = (ok_same x z (front ++ us) us e).1 in
      let none : front ≡ [] = append_cancel_right front [] us same in
      (y, ap (λ r. Ok (y, r ++ vs)) none, subst (λ w. R w y) ((ok_same x z (front ++ us) us e).0) related);
  stops = λ ts f a e. absurd (ok_err ts x f e);
  faults = λ front us vs f t a e left l. absurd (ok_err (front ++ us) x f e);
}

-- a fault at the next token
fault_there : {A : Type 0} (kind : FaultKind) (front us vs : List Tok) (f : Fault) → SameRead {A = A} (Err (at kind (front ++ us))) (Err f) → f.left ≡ length us → SameRead {A = A} (Err (at kind (front ++ vs))) (Err (at f.kind vs))
fault_there {A} kind [] us vs f e left =
    let s : at kind us ≡ f = same_fault {A = A} (at kind us) f e in
    ap (λ (g : Fault). Err (at g.kind vs)) s
fault_there {A} kind (u ∷ front) us vs f e left =
    let s : at kind (u ∷ front ++ us) ≡ f = same_fault {A = A} (at kind (u ∷ front ++ us)) f e in
    let count : suc (length front + length us) ≡ f.left = sym (ap suc (length-append front us)) ∙ ap (λ (g : Fault). g.left) s in
    absurd (omega (arith, count, left))

pub fault_local : {A : Type 0} (R : A → A → Type 0) (kind : FaultKind) → Local R (λ ts. Err (at kind ts)) (λ ts. Err (at kind ts))
fault_local {A} R kind = record {
  ends = λ ts us x e. absurd (err_ok (at kind ts) x us e);
  reads = λ front us vs x e l. absurd (err_ok (at kind (front ++ us)) x us e);
  stops = λ ts f a e. ([], ts, refl, sym (ap (λ (g : Fault). g.left) (same_fault {A = A} (at kind ts) f e)));
  faults = λ front us vs f t a e left l. fault_there {A = A} kind front us vs f e left;
}

not_asked : {A : Type 0} (d f : Fault) → is_refusal d.kind ≡ false → is_refusal f.kind ≡ true → SameRead {A = A} (Err d) (Err f) → ⊥
not_asked {A} d f n a e = let both : false ≡ true = sym n ∙ ap (λ (k : Fault). is_refusal k.kind) (same_fault {A = A} d f e) ∙ a in cc

-- a fault that is not spoken of
pub other_fault : {A : Type 0} (R : A → A → Type 0) (g h : List Tok → Fault) → ((ts : List Tok) → is_refusal ((g ts).kind) ≡ false) → Local {A = A} R (λ ts. Err (g ts)) (λ ts. Err (h ts))
other_fault {A} R g h silent = record {
  ends = λ ts us x e. absurd (err_ok (g ts) x us e);
  reads = λ front us vs x e l. absurd (err_ok (g (front ++ us)) x us e);
  stops = λ ts f a e. absurd (not_asked {A = A} (g ts) f (silent ts) a e);
  faults = λ front us vs f t a e left l. absurd (not_asked {A = A} (g (front ++ us)) f (silent (front ++ us)) a e);
}

-- One reader, and another behind it, which may see where the first began.
module _ {A B : Type 0} (R : A → A → Type 0) (S : B → B → Type 0) (read other : List Tok → Read A) (g h : List Tok → A × List Tok → Read B) (first : Local R read other)
    (next : (ts vs : List Tok) (x y : A) → R x y → Local S (λ us. g ts (x, us)) (λ us. h vs (y, us))) where
  next_here : (ts us : List Tok) (x : A) → read ts ≡ Ok (x, us) → (y : A) × Local S (λ vs. g ts (x, vs)) (λ vs. h ts (y, vs))
  next_here ts us x e =
      let f = first.ends ts us x e in
      let r = first.reads f.0 us us x (ap read (sym f.1) ∙ e) refl in
      (r.0, next ts ts x r.0 r.2)

  bound_ends : (ts us : List Tok) (z : B) (r : Read A) → read ts ≡ r → (r >>= g ts) ≡ Ok (z, us) → (front : List Tok) × (ts ≡ front ++ us)
  bound_ends ts us z (Err d) w e = cc
  bound_ends ts us z (Ok x) w e =
      let f = first.ends ts x.1 x.0 w in
      let s = ((next_here ts x.1 x.0 w).1).ends x.1 us z e in
      (f.0 ++ s.0, f.1 ∙ ap (λ r. f.0 ++ r) s.1 ∙ sym (append_assoc f.0 s.0 us))

  bound_reads : (front us vs : List Tok) (z : B) (r : Read A) → read (front ++ us) ≡ r → (r >>= g (front ++ us)) ≡ Ok (z, us) → Looks us vs → (y : B) × ((other (front ++ vs) >>= h (front ++ vs)) ≡ Ok (y, vs)) × S z y
  bound_reads front us vs z (Err d) w e l = cc
  bound_reads front us vs z (Ok x) w e l =
      let f = first.ends (front ++ us) x.1 x.0 w in
      let s = ((next_here (front ++ us) x.1 x.0 w).1).ends x.1 us z e in
      let whole : front ++ us ≡ (f.0 ++ s.0) ++ us = f.1 ∙ ap (λ r. f.0 ++ r) s.1 ∙ sym (append_assoc f.0 s.0 us) in
      let same : front ≡ f.0 ++ s.0 = append_cancel_right front (f.0 ++ s.0) us whole in
      let ahead : Looks x.1 (s.0 ++ vs) = subst (λ r. Looks r (s.0 ++ vs)) (sym s.1) (looks_on s.0 us vs l) in
      let one = first.reads f.0 x.1 (s.0 ++ vs) x.0 (ap read (sym f.1) ∙ w) ahead in
      let there : front ++ vs ≡ f.0 ++ (s.0 ++ vs) = ap (λ r. r ++ vs) same ∙ append_assoc f.0 s.0 vs in
      let two = (next (front ++ us) (front ++ vs) x.0 one.0 one.2).reads s.0 us vs z (ap (λ r. g (front ++ us) (x.0, r)) (sym s.1) ∙ e) l in
      let begun : (other (front ++ vs) >>= h (front ++ vs)) ≡ h (front ++ vs) (one.0, s.0 ++ vs) = ap (λ (r : Read A). r >>= h (front ++ vs)) (ap other there ∙ one.1) in
      (two.0, begun ∙ two.1, two.2)

  bound_stops : (ts : List Tok) (f : Fault) (r : Read A) → is_refusal f.kind ≡ true → read ts ≡ r → (r >>= g ts) ≡ Err f → Split ts f.left
  bound_stops ts f (Err d) a w e = first.stops ts f a (w ∙ ap (λ (k : Fault). Err k) (same_fault {A = B} d f e))
  bound_stops ts f (Ok x) a w e =
      let k = first.ends ts x.1 x.0 w in
      let s = ((next_here ts x.1 x.0 w).1).stops x.1 f a e in
      (k.0 ++ s.0, s.1, k.1 ∙ ap (λ r. k.0 ++ r) s.2 ∙ sym (append_assoc k.0 s.0 s.1), s.3)

  bound_faults : (front us vs : List Tok) (f : Fault) (r : Read A) → Bound f.kind us → is_refusal f.kind ≡ true → read (front ++ us) ≡ r → (r >>= g (front ++ us)) ≡ Err f → f.left ≡ length us → Looks us vs → (other (front ++ vs) >>= h (front ++ vs)) ≡ Err (at f.kind vs)
  bound_faults front us vs f (Err d) t a w e left l =
      ap (λ (r : Read A). r >>= h (front ++ vs)) (first.faults front us vs f t a (w ∙ ap (λ (k : Fault). Err k) (same_fault {A = B} d f e)) left l)
  bound_faults front us vs f (Ok x) t a w e left l =
      let k = first.ends (front ++ us) x.1 x.0 w in
      let s = ((next_here (front ++ us) x.1 x.0 w).1).stops x.1 f a e in
      let whole : front ++ us ≡ (k.0 ++ s.0) ++ s.1 = k.1 ∙ ap (λ r. k.0 ++ r) s.2 ∙ sym (append_assoc k.0 s.0 s.1) in
      let same = same_split front us (k.0 ++ s.0) s.1 whole (sym left ∙ s.3) in
      let rest : x.1 ≡ s.0 ++ us = s.2 ∙ ap (λ r. s.0 ++ r) (sym same.1) in
      let ahead : Looks x.1 (s.0 ++ vs) = subst (λ r. Looks r (s.0 ++ vs)) (sym rest) (looks_on s.0 us vs l) in
      let one = first.reads k.0 x.1 (s.0 ++ vs) x.0 (ap read (sym k.1) ∙ w) ahead in
      let there : front ++ vs ≡ k.0 ++ (s.0 ++ vs) = ap (λ r. r ++ vs) same.0 ∙ append_assoc k.0 s.0 vs in
      let two = (next (front ++ us) (front ++ vs) x.0 one.0 one.2).faults s.0 us vs f t a (ap (λ r. g (front ++ us) (x.0, r)) (sym rest) ∙ e) left l in
      ap (λ (r : Read A). r >>= h (front ++ vs)) (ap other there ∙ one.1) ∙ two

  pub bind_local : Local S (λ ts. read ts >>= g ts) (λ ts. other ts >>= h ts)
  bind_local = record {
    ends = λ ts us z e. bound_ends ts us z (read ts) refl e;
    reads = λ front us vs z e l. bound_reads front us vs z (read (front ++ us)) refl e l;
    stops = λ ts f a e. bound_stops ts f (read ts) a refl e;
    faults = λ front us vs f t a e left l. bound_faults front us vs f (read (front ++ us)) t a refl e left l;
  }

-- A reader that is chosen by what stands next.
module _ {A C : Type 0} (R : A → A → Type 0) (c d : List Tok → C) (respects : (us vs : List Tok) → Looks us vs → c us ≡ d vs) (f h : C → List Tok → Read A) (each : (k : C) → Local R (f k) (h k)) where
  pub choose_local : Local R (λ ts. f (c ts) ts) (λ ts. h (d ts) ts)
  choose_local = record {
    ends = λ ts us x e. (each (c ts)).ends ts us x e;
    reads = λ front us vs x e l.
        let r = (each (c (front ++ us))).reads front us vs x e l in
        (r.0, ap (λ k. h k (front ++ vs)) (sym (respects (front ++ us) (front ++ vs) (looks_on front us vs l))) ∙ r.1, r.2);
    stops = λ ts g a e. (each (c ts)).stops ts g a e;
    faults = λ front us vs g t a e left l.
        ap (λ k. h k (front ++ vs)) (sym (respects (front ++ us) (front ++ vs) (looks_on front us vs l)))
        ∙ (each (c (front ++ us))).faults front us vs g t a e left l;
  }

-- the same readers, written otherwise
pub same_local : {A : Type 0} (R : A → A → Type 0) (read other r o : List Tok → Read A) → ((ts : List Tok) → read ts ≡ r ts) → ((ts : List Tok) → other ts ≡ o ts) → Local R r o → Local R read other
same_local R read other r o p q l = record {
  ends = λ ts us x e. l.ends ts us x (sym (p ts) ∙ e);
  reads = λ front us vs x e k. let s = l.reads front us vs x (sym (p (front ++ us)) ∙ e) k in (s.0, q (front ++ vs) ∙ s.1, s.2);
  stops = λ ts f a e. l.stops ts f a (sym (p ts) ∙ e);
  faults = λ front us vs f t a e left k. q (front ++ vs) ∙ l.faults front us vs f t a (sym (p (front ++ us)) ∙ e) left k;
}

-- A reader that is told where it begins, of which it says nothing but in faults that are not spoken of.
pub own_local : {A : Type 0} (f : List Tok → List Tok → Read A) → ((w z : List Tok) → Local Same (f w) (f z)) → Local Same (λ ts. f ts ts) (λ ts. f ts ts)
own_local f each = record {
  ends = λ ts us x e. (each ts ts).ends ts us x e;
  reads = λ front us vs x e l. (each (front ++ us) (front ++ vs)).reads front us vs x e l;
  stops = λ ts f a e. (each ts ts).stops ts f a e;
  faults = λ front us vs f t a e left l. (each (front ++ us) (front ++ vs)).faults front us vs f t a e left l;
}

-- A reader behind the next token.
module _ {A : Type 0} (R : A → A → Type 0) (read other : List Tok → Read A) (l : Local R read other) where
  behind_ends : (ts us : List Tok) (x : A) → read (behind ts) ≡ Ok (x, us) → (front : List Tok) × (ts ≡ front ++ us)
  behind_ends [] us x e = l.ends [] us x e
  behind_ends (t ∷ ts) us x e = let f = l.ends ts us x e in (t ∷ f.0, ap (λ r. t ∷ r) f.1)

  behind_reads : (front us vs : List Tok) (x : A) → read (behind (front ++ us)) ≡ Ok (x, us) → Looks us vs → (y : A) × (other (behind (front ++ vs)) ≡ Ok (y, vs)) × R x y
  behind_reads [] [] vs x e k = subst (λ r. (y : A) × (other (behind r) ≡ Ok (y, r)) × R x y) (sym (nothing_looks vs k)) (l.reads [] [] [] x e refl)
  behind_reads [] (u ∷ us) vs x e k = let f = l.ends us (u ∷ us) x e in absurd (omega (arith, no_longer f.0 us (u ∷ us) f.1))
  behind_reads (t ∷ front) us vs x e k = l.reads front us vs x e k

  behind_stops : (ts : List Tok) (f : Fault) → is_refusal f.kind ≡ true → read (behind ts) ≡ Err f → Split ts f.left
  behind_stops [] f a e = l.stops [] f a e
  behind_stops (t ∷ ts) f a e = let s = l.stops ts f a e in (t ∷ s.0, s.1, ap (λ r. t ∷ r) s.2, s.3)

  behind_faults : (front us vs : List Tok) (f : Fault) → Bound f.kind us → is_refusal f.kind ≡ true → read (behind (front ++ us)) ≡ Err f → f.left ≡ length us → Looks us vs → other (behind (front ++ vs)) ≡ Err (at f.kind vs)
  behind_faults [] [] vs f t a e left k = subst (λ r. other (behind r) ≡ Err (at f.kind r)) (sym (nothing_looks vs k)) (l.faults [] [] [] f tt a e left refl)
  behind_faults [] (u ∷ us) vs f t a e left k = let s = l.stops us f a e in absurd (omega (arith, no_longer s.0 us s.1 s.2, s.3, left))
  behind_faults (u ∷ front) us vs f t a e left k = l.faults front us vs f t a e left k

  pub behind_local : Local R (λ ts. read (behind ts)) (λ ts. other (behind ts))
  behind_local = record { ends = behind_ends; reads = behind_reads; stops = behind_stops; faults = behind_faults }

-- A loop whose number is at least that of the tokens.
module _ {A : Type 0} (R : A → A → Type 0) (loop other : ℕ → List Tok → Read A) (enough : (n m : ℕ) (ts : List Tok) → length ts ≤ n → length ts ≤ m → loop n ts ≡ loop m ts) (enough' : (n m : ℕ) (ts : List Tok) → length ts ≤ n → length ts ≤ m → other n ts ≡ other m ts) (each : (n : ℕ) → Local R (loop n) (other n)) where
  pub fuel_local : Local R (λ ts. loop (length ts) ts) (λ ts. other (length ts) ts)
  fuel_local = record {
    ends = λ ts us x e. (each (length ts)).ends ts us x e;
    reads = λ front us vs x e l.
        let n = length (front ++ us) + length (front ++ vs) in
        let r = (each n).reads front us vs x (enough n (length (front ++ us)) (front ++ us) (omega arith) (omega arith) ∙ e) l in
        (r.0, enough' (length (front ++ vs)) n (front ++ vs) (omega arith) (omega arith) ∙ r.1, r.2);
    stops = λ ts f a e. (each (length ts)).stops ts f a e;
    faults = λ front us vs f t a e left l.
        let n = length (front ++ us) + length (front ++ vs) in
        enough' (length (front ++ vs)) n (front ++ vs) (omega arith) (omega arith)
        ∙ (each n).faults front us vs f t a (enough n (length (front ++ us)) (front ++ us) (omega arith) (omega arith) ∙ e) left l;
  }

-- Plain readers.

pub then_plain : {A B : Type 0} (read : List Tok → Read A) (g : A × List Tok → Read B) → Plain read → ((x : A) → Plain (λ us. g (x, us))) → Plain (λ ts. read ts >>= g)
then_plain read g first next =
    bind_local Same Same read read (λ ts. g) (λ ts. g) first (λ ts vs x y e. subst (λ v. Local Same (λ us. g (x, us)) (λ us. g (v, us))) e (next x))

pub pure_plain : {A : Type 0} (x : A) → Plain (λ ts. Ok (x, ts))
pure_plain x = pure_local Same x x refl

pub last_plain : {A B : Type 0} (read : List Tok → Read A) (k : A → B) → Plain read → Plain (λ ts. read ts >>= λ c. Ok (k c.0, c.1))
last_plain read k first = then_plain read (λ c. Ok (k c.0, c.1)) first (λ x. pure_plain (k x))

pub refused_plain : {A : Type 0} → Plain {A = A} (λ ts. refused ts)
refused_plain {A} = fault_local {A = A} Same Statement

pub over_plain : {A : Type 0} (x : A) → Plain (λ ts. Ok (x, behind ts))
over_plain x = behind_local Same (λ ts. Ok (x, ts)) (λ ts. Ok (x, ts)) (pure_plain x)

by_test : {A : Type 0} (R : A → A → Type 0) (a a' b b' : List Tok → Read A) → Local R a a' → Local R b b' → (k : Bool) → Local R (λ ts. if k then a ts else b ts) (λ ts. if k then a' ts else b' ts)
by_test R a a' b b' l r true = l
by_test R a a' b b' l r false = r

pub if_local : {A : Type 0} (R : A → A → Type 0) (p q : List Tok → Bool) → ((us vs : List Tok) → Looks us vs → p us ≡ q vs) → (a a' b b' : List Tok → Read A) → Local R a a' → Local R b b' → Local R (λ ts. if p ts then a ts else b ts) (λ ts. if q ts then a' ts else b' ts)
if_local R p q respects a a' b b' l r = choose_local R p q respects (λ k ts. if k then a ts else b ts) (λ k ts. if k then a' ts else b' ts) (by_test R a a' b b' l r)

-- by the bytes of the next token
pub if_plain : {A : Type 0} (text : List ℕ) (a b : List Tok → Read A) → Plain a → Plain b → Plain (λ ts. if has text ts then a ts else b ts)
if_plain text a b l r = if_local Same (has text) (has text) (has_looks text) a a b b l r

-- One token, which has to stand there, or from which something is picked.

pub next_plain : (text : List ℕ) → Plain (next_at text)
next_plain text = if_plain text (λ ts. Ok (tt, behind ts)) (λ ts. refused ts) (over_plain tt) (refused_plain {A = Unit {0}})

module _ {A : Type 0} (what : Tok → Option A) (how : TokenKind → FaultKind) where
  abbrev picked_by : Option Tok → List Tok → Read A
  picked_by None ts = refused ts
  picked_by (Some t) ts = picked (what t) (how t.kind) ts

  picked_each : (o : Option A) (kind : FaultKind) → Plain (λ ts. picked o kind ts)
  picked_each None kind = fault_local {A = A} Same kind
  picked_each (Some x) kind = over_plain x

  by_first : (first : Option Tok) → Plain (picked_by first)
  by_first None = refused_plain {A = A}
  by_first (Some t) = picked_each (what t) (how t.kind)

  as_picked : (ts : List Tok) → pick_at what how ts ≡ picked_by (first_of ts) ts
  as_picked [] = refl
  as_picked (t ∷ ts) = refl

  pub pick_plain : Plain (pick_at what how)
  pick_plain =
      same_local Same (pick_at what how) (pick_at what how) (λ ts. picked_by (first_of ts) ts) (λ ts. picked_by (first_of ts) ts) as_picked as_picked
      (choose_local Same first_of first_of (λ us vs l. l) picked_by picked_by by_first)
