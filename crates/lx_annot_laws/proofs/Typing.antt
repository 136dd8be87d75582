-- What stands behind a type: reading and the grammar agree.
use Rattle.std.proofs.Common.{◌≡◌, ℕ, Bool, true, false, List, [], ◌∷◌, ◌++◌, Ok, Err, refl, sym, ap, ◌∙◌, subst, append_assoc}
use Rattle.std.specs.Prelude.{if◌then◌else◌}
use Rattle.lx_annot.specs.declared.expr.Ty.{Ty}
use Rattle.lx_annot_expressions.specs.Tokens.{Tok}
use Rattle.lx_annot_expressions.specs.Reading.{Read, ◌>>=◌, refused}
use Rattle.lx_annot_expressions.specs.Grammar.{Part, Picks, Is, ◌then◌}
use Rattle.lx_annot_expressions.specs.Laws.{Reads, Finds}
use Rattle.lx_annot_expressions.proofs.Parts.{bind_ok, ok_same}
use Rattle.lx_cproto.specs.Types.{type_at, is_void, value_type_at}
use Rattle.lx_annot_laws.specs.PrototypeParts.{Typed, Valued}
use Rattle.lx_annot_laws.proofs.TypeFronts.{type_steady}

-- a part that has a token
abbrev pub HasToken : Part → Type 0
HasToken q = q [] → ⊥

pub is_some : (text : List ℕ) → HasToken (Is text)
is_some text (t, h, g) = cc

then_by : (p q : Part) (f b : List Tok) → HasToken p → p f → [] ≡ f ++ b → ⊥
then_by p q [] b some a e = some a
then_by p q (x ∷ f) b some a e = cc

pub then_some : (p q : Part) → HasToken p → HasToken (p then q)
then_some p q some (f, b, a, c, e) = then_by p q f b some a e

module _ {B : Type 0} (g : Ty × List Tok → Read B) where
  read_behind : (t : Ty) (y : B) (q : Part) → HasToken q → Reads (λ us. g (t, us)) y q → (ts us rest : List Tok) → type_at ts ≡ Ok (t, rest) → q rest → (type_at (ts ++ us) >>= g) ≡ Ok (y, us)
  read_behind t y q some k ts us [] e p = absurd (some p)
  read_behind t y q some k ts us (h ∷ r) e p =
      let s = type_steady t h r ts e in
      let all : type_at (ts ++ us) ≡ Ok (t, h ∷ (r ++ us)) = ap type_at (ap (λ x. x ++ us) s.whole ∙ append_assoc s.c (h ∷ r) us) ∙ s.again (r ++ us) in
      ap (λ x. x >>= g) all ∙ k (h ∷ r) us p

  -- what stands behind a type is read behind it
  pub typed_read : (t : Ty) (y : B) (q : Part) → HasToken q → Reads (λ us. g (t, us)) y q → Reads (λ ts. type_at ts >>= g) y (Typed t q)
  typed_read t y q some k ts us (rest, e, p) = read_behind t y q some k ts us rest e p

  -- what a type stands before
  abbrev pub Before : (Ty → B → Part) → B → Part
  Before part y ts = (t : Ty) × Typed t (part t y) ts

  found_behind : (part : Ty → B → Part) (y : B) (t : Ty) (ts us rest front : List Tok) → type_at ts ≡ Ok (t, rest) → HasToken (part t y) → part t y front → rest ≡ front ++ us → (all : List Tok) × Before part y all × (ts ≡ all ++ us)
  found_behind part y t ts us rest [] e some p w = absurd (some p)
  found_behind part y t ts us rest (h ∷ r) e some p w =
      let s = type_steady t h (r ++ us) ts (e ∙ ap (λ x. Ok (t, x)) w) in
      (s.c ++ h ∷ r, (t, (h ∷ r, s.again r, p)), s.whole ∙ sym (append_assoc s.c (h ∷ r) us))

  pub typed_found : (part : Ty → B → Part) → ((t : Ty) (y : B) → HasToken (part t y)) → ((t : Ty) → Finds (λ us. g (t, us)) (part t)) → Finds (λ ts. type_at ts >>= g) (Before part)
  typed_found part some k ts us y e =
      let a = bind_ok (type_at ts) g (y, us) e in
      let w = k a.0.0 a.0.1 us y a.2 in
      found_behind part y a.0.0 ts us a.0.1 w.0 a.1 (some a.0.0 y) w.1 w.2

-- Types of values.

pub bind_assoc : {A B C : Type 0} (r : Read A) (f : A × List Tok → Read B) (g : B × List Tok → Read C) → ((r >>= f) >>= g) ≡ (r >>= λ x. f x >>= g)
bind_assoc (Ok x) f g = refl
bind_assoc (Err d) f g = refl

abbrev value_by : Bool → Ty → List Tok → Read Ty
value_by b t ts = if b then refused ts else Ok (t, ts)

abbrev value_of : Ty × List Tok → Read Ty
value_of t = value_by (is_void t.0) t.0 t.1

module _ {B : Type 0} (g : Ty × List Tok → Read B) where
  pub valued_read : (t : Ty) (y : B) (q : Part) → HasToken q → Reads (λ us. g (t, us)) y q → Reads (λ ts. value_type_at ts >>= g) y (Valued t q)
  valued_read t y q some k ts us (v, is) =
      bind_assoc (type_at (ts ++ us)) value_of g
      ∙ typed_read (λ x. value_of x >>= g) t y q some (λ rs vs p. ap (λ b. value_by b t (rs ++ vs) >>= g) v ∙ k rs vs p) ts us is

  abbrev pub BeforeValue : (Ty → B → Part) → B → Part
  BeforeValue part y ts = (t : Ty) × Valued t (part t y) ts

  abbrev With : (Ty → B → Part) → Ty → B → Part
  With part t y ts = (is_void t ≡ false) × part t y ts

  value_found : (part : Ty → B → Part) (t : Ty) (ts us : List Tok) (y : B) (b : Bool) → is_void t ≡ b → Finds (λ us. g (t, us)) (part t) → (value_by b t ts >>= g) ≡ Ok (y, us) → (front : List Tok) × With part t y front × (ts ≡ front ++ us)
  value_found part t ts us y true v k e = cc
  value_found part t ts us y false v k e = let w = k ts us y e in (w.0, (v, w.1), w.2)

  pub valued_found : (part : Ty → B → Part) → ((t : Ty) (y : B) → HasToken (part t y)) → ((t : Ty) → Finds (λ us. g (t, us)) (part t)) → Finds (λ ts. value_type_at ts >>= g) (BeforeValue part)
  valued_found part some k ts us y e =
      let f = typed_found (λ x. value_of x >>= g) (With part) (λ t y p. some t y p.1) (λ t ts us y e. value_found part t ts us y (is_void t) refl (k t) e) ts us y (sym (bind_assoc (type_at ts) value_of g) ∙ e) in
      let (t, (rest, read, (v, p))) = f.1 in
      (f.0, (t, (v, (rest, read, p))), f.2)
