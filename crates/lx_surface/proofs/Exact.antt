-- The bound is exact.
use Rattle.std.proofs.Common.{◌≡◌, ℕ, Bool, true, false, Option, Some, None, List, [], refl, sym, ap, subst, ◌∙◌, arith}
use Rattle.std.specs.Prelude.{⊤}
use Rattle.lx_model.specs.declared.program.Program.{Program}
use Rattle.lx_model.specs.Program.{ToImport, home_of, target}
use Rattle.lx_surface.specs.declared.Thing.{Thing}
use Rattle.lx_surface.specs.declared.Thing.TheVariants.{RefType, Function}
use Rattle.lx_surface.specs.Names.{gives_before}
use Rattle.lx_surface.specs.Reach.{Can, declares, defines, from_kernel, from_other, into_own}
use Rattle.lx_surface.specs.declared.limits.Bound.{Bound}
use Rattle.lx_surface.specs.Pairs.{has_pair}
use Rattle.lx_surface.specs.Bound.{IsExact, allows}
use Rattle.lx_surface.specs.declared.work.Work.{Work}
use Rattle.lx_surface.specs.Begun.{DeclaresAll, OpensAll}
use Rattle.lx_surface.specs.Given.{Closes, IsClosed, comes_of}
use Rattle.lx_surface.specs.Right.{IsDone, IsRight, IsSound}
use Rattle.lx_surface.specs.Marks.{has_mark}
use Rattle.lx_surface.specs.Waits.{has_triple, waits}
use Rattle.lx_surface.specs.Work.{IsEmpty, is_given}
use Rattle.lx_surface.proofs.Sets.{allows_more}

-- nothing more comes of what a bound allows
record IsWhole (p : Program) (b : Bound) : Type 0 where
  own : (n m : ℕ) → home_of p n ≡ Some (Some m) → allows b m (Function n) ≡ true
  before : (n m : ℕ) (x : Thing) → home_of p n ≡ Some (Some m) → gives_before p n x ≡ true → allows b m x ≡ true
  declared : (m f g : ℕ) → target p (Some m) f ≡ ToImport g → allows b m (Function g) ≡ true
  closed : IsClosed p b

complete : (p : Program) (b : Bound) → IsWhole p b → (m : ℕ) (x : Thing) → Can p m x → allows b m x ≡ true
complete p b whole i y (defines m g is) = whole.own g m is
complete p b whole i y (declares m f g is) = whole.declared m f g is
complete p b whole i y (into_own m f x is gives) = whole.before f m x is gives
complete p b whole i y (from_kernel m f x is can gives) = whole.closed m f x (complete p b whole m (Function f) can) gives (ap (λ o. comes_of b o x) is)
complete p b whole i y (from_other m k f x is can gives come) =
    whole.closed m f x (complete p b whole m (Function f) can) gives (ap (λ o. comes_of b o x) is ∙ complete p b whole k x come)

empty_sound : (p : Program) (b : Bound) → b.references ≡ [] → b.functions ≡ [] → IsSound p b
empty_sound p b refs funs m (RefType t) is = let never : false ≡ true = ap (λ l. has_pair l m t) (sym refs) ∙ is in absurd (cc)
empty_sound p b refs funs m (Function g) is = let never : false ≡ true = ap (λ l. has_pair l m g) (sym funs) ∙ is in absurd (cc)

nobody_waits : (w : Work) (m k : ℕ) (x : Thing) → IsEmpty w → waits w.waits m k x ≡ true → ⊥
nobody_waits w m k (RefType t) empty is = let never : false ≡ true = ap (λ l. has_triple l m k t) (sym empty.waiting_references) ∙ is in absurd (cc)
nobody_waits w m k (Function g) empty is = let never : false ≡ true = ap (λ l. has_triple l m k g) (sym empty.waiting_functions) ∙ is in absurd (cc)

empty_right : (p : Program) (w : Work) → IsEmpty w → IsRight p 0 0 w
empty_right p w empty = record {
  functions_within = omega arith;
  references_within = omega arith;
  sound = empty_sound p w.bound empty.references empty.functions;
  waits_soundly = λ m k x is. absurd (nobody_waits w m k x empty is);
  known = λ m k x is. absurd (nobody_waits w m k x empty is);
  whole = λ m from l x marked names. let never : false ≡ true = ap (λ xs. has_mark xs m from l) (sym empty.marks) ∙ marked in absurd (cc);
  passed_on = λ k x m done is. absurd (nobody_waits w m k x empty is);
}

pub exact : (p : Program) (a b c d : Work) → IsEmpty a → OpensAll p a b → DeclaresAll p b c → Closes p c d → IsExact p d.bound
exact p a b c d empty opens declared closes = λ m x. (closes.sound begun m x, complete p d.bound whole m x) where
  start : IsRight p 0 0 a
  start = empty_right p a empty

  begun : IsRight p 0 0 c
  begun = declared.right (opens.right start)

  later : (m : ℕ) (x : Thing) → allows b.bound m x ≡ true → allows d.bound m x ≡ true
  later m x is = allows_more c.bound d.bound m x closes.grows.bound (allows_more b.bound c.bound m x declared.grows.bound is)

  whole : IsWhole p d.bound
  whole = record {
    own = λ n m is. later m (Function n) (opens.has start n m is).0;
    before = λ n m x is gives. later m x ((opens.has start n m is).1 x gives);
    declared = λ m f g is. allows_more c.bound d.bound m (Function g) closes.grows.bound (declared.has m f g is);
    closed = closes.closed begun;
  }
