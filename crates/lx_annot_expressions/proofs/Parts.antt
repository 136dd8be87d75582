-- Rules of reading against parts of the grammar.
use Rattle.std.proofs.Common.{◌≡◌, Bool, true, false, Option, Some, None, ℕ, List, [], ◌∷◌, ◌++◌, Result, Ok, Err, refl, sym, ap, ◌∙◌, append_assoc}
use Rattle.std.specs.Prelude.{if◌then◌else◌}
use Rattle.lx_words.specs.declared.token.TokenKind.{TokenKind}
use Rattle.lx_annot_expressions.specs.declared.fault.Fault.{Fault}
use Rattle.lx_annot_expressions.specs.declared.fault.FaultKind.{FaultKind}
use Rattle.lx_annot_expressions.specs.Tokens.{Tok}
use Rattle.lx_annot_expressions.specs.Reading.{Read, ◌>>=◌, pick_at, picked, next_at, has, behind, refused}
use Rattle.lx_annot_expressions.specs.Grammar.{Part, Picks, Is, ◌then◌}
use Rattle.lx_annot_expressions.specs.Laws.{Reads, Finds}

pub pick_reads : {A : Type 0} (what : Tok → Option A) (how : TokenKind → FaultKind) (x : A) → Reads (pick_at what how) x (Picks what x)
pick_reads what how x ts us (t, e, f) = rw (f, e) refl

pub next_reads : (text : List ℕ) → Reads (next_at text) tt (Is text)
next_reads text ts us (t, e, f) = rw (f, e) refl

pub bind_reads : {A B : Type 0} (read : List Tok → Read A) (g : A × List Tok → Read B) (x : A) (y : B) (p q : Part) → Reads read x p → Reads (λ us. g (x, us)) y q → Reads (λ ts. read ts >>= g) y (p then q)
bind_reads read g x y p q h k ts us (front, back, a, b, e) = rw (e, append_assoc front back us, h front (back ++ us) a) (k back us b)

pub last_reads : {A B : Type 0} (read : List Tok → Read A) (f : A → B) (x : A) (p : Part) → Reads read x p → Reads (λ ts. read ts >>= λ c. Ok (f c.0, c.1)) (f x) p
last_reads read f x p h ts us a = rw (h ts us a) refl

pub bind_ok : {A B : Type 0} (r : Result A Fault) (f : A → Result B Fault) (y : B) → (r >>= f) ≡ Ok y → (x : A) × (r ≡ Ok x) × (f x ≡ Ok y)
bind_ok (Ok x) f y e = (x, refl, e)
bind_ok (Err d) f y e = cc

ok_value : {A : Type 0} (x y : A) (us vs : List Tok) (f : Read A) → f ≡ Ok (x, us) → f ≡ Ok (y, vs) → (x ≡ y) × (us ≡ vs)
ok_value x y us vs (Ok p) e f =
    let a : p ≡ (x, us) = cc in
    let b : p ≡ (y, vs) = cc in
    (ap (λ q. q.0) (sym a ∙ b), ap (λ q. q.1) (sym a ∙ b))
ok_value x y us vs (Err d) e f = cc

abbrev SameRead : {A : Type 0} → Read A → Read A → Type 0
SameRead a b = a ≡ b

pub ok_same : {A : Type 0} (x y : A) (us vs : List Tok) → SameRead (Ok (x, us)) (Ok (y, vs)) → (x ≡ y) × (us ≡ vs)
ok_same x y us vs e = ok_value x y us vs (Ok (x, us)) refl e

picked_finds : {A : Type 0} (what : Tok → Option A) (kind : FaultKind) (t : Tok) (ts us : List Tok) (x : A) (found : Option A) → what t ≡ found → picked found kind (t ∷ ts) ≡ Ok (x, us) → (front : List Tok) × Picks what x front × (t ∷ ts ≡ front ++ us)
picked_finds what kind t ts us x (Some y) w e =
    let k = ok_same y x ts us e in
    (t ∷ [], (t, w ∙ ap Some k.0, refl), ap (λ r. t ∷ r) k.1)
picked_finds what kind t ts us x None w e = cc

pub pick_finds : {A : Type 0} (what : Tok → Option A) (how : TokenKind → FaultKind) → Finds (pick_at what how) (Picks what)
pick_finds what how [] us x e = cc
pick_finds what how (t ∷ ts) us x e = picked_finds what (how t.kind) t ts us x (what t) refl e

next_step : (text : List ℕ) (t : Tok) (ts us : List Tok) (x : Unit {0}) (b : Bool) → has text (t ∷ []) ≡ b → (if b then Ok (tt, ts) else refused (t ∷ ts)) ≡ Ok (x, us) → (front : List Tok) × Is text front × (t ∷ ts ≡ front ++ us)
next_step text t ts us x true w e =
    let k = ok_same tt x ts us e in
    (t ∷ [], (t, w, refl), ap (λ r. t ∷ r) k.1)
next_step text t ts us x false w e = cc

pub next_finds : (text : List ℕ) → Finds (next_at text) (λ x. Is text)
next_finds text [] us x e = cc
next_finds text (t ∷ ts) us x e = next_step text t ts us x (has text (t ∷ [])) refl e

-- what a rule says, and what the rule behind it says then
abbrev pub Joint : {A B : Type 0} → (A → Part) → (A → B → Part) → B → Part
Joint {A} {B} part more y ts = (x : A) × (part x then more x y) ts

pub bind_finds : {A B : Type 0} (read : List Tok → Read A) (g : A × List Tok → Read B) (part : A → Part) (more : A → B → Part) → Finds read part → ((x : A) → Finds (λ us. g (x, us)) (more x)) → Finds (λ ts. read ts >>= g) (Joint part more)
bind_finds read g part more h k ts us y e =
    let a = bind_ok (read ts) g (y, us) e in
    let w = h ts a.0.1 a.0.0 a.1 in
    let v = k a.0.0 a.0.1 us y a.2 in
    (w.0 ++ v.0, (a.0.0, (w.0, v.0, w.1, v.1, refl)), w.2 ∙ ap (λ r. w.0 ++ r) v.2 ∙ sym (append_assoc w.0 v.0 us))

-- what a rule says, changed in this way
abbrev pub Mapped : {A B : Type 0} → (A → B) → (A → Part) → B → Part
Mapped {A} {B} f part y ts = (x : A) × part x ts × (f x ≡ y)

pub last_finds : {A B : Type 0} (read : List Tok → Read A) (f : A → B) (part : A → Part) → Finds read part → Finds (λ ts. read ts >>= λ c. Ok (f c.0, c.1)) (Mapped f part)
last_finds read f part h ts us y e =
    let a = bind_ok (read ts) (λ c. Ok (f c.0, c.1)) (y, us) e in
    let k = ok_same (f a.0.0) y a.0.1 us a.2 in
    let w = h ts a.0.1 a.0.0 a.1 in
    (w.0, (a.0.0, w.1, k.0), w.2 ∙ ap (λ r. w.0 ++ r) k.1)

-- the token that stands next
pub record Next (text : List ℕ) (ts : List Tok) : Type 0 where
  pub token : Tok
  pub is : has text (token ∷ []) ≡ true
  pub whole : ts ≡ token ∷ behind ts

pub next_token : (text : List ℕ) (ts : List Tok) → has text ts ≡ true → Next text ts
next_token text [] h = cc
next_token text (t ∷ ts) h = record { token = t; is = h; whole = refl }
