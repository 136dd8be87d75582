-- Code with its marks has no fault of them, and code without such a fault has its marks.
use Rattle.std.proofs.Common.{◌≡◌, Bool, true, false, not, ◌&&◌, List, [], ◌∷◌, ◌++◌, Option, Some, None, inl, inr, refl, sym, ◌∙◌, ap}
use Rattle.std.specs.Prelude.{◌⊎◌}
use Rattle.std.specs.List.{list_all}
use Rattle.std.specs.Option.{option_or}
use Rattle.std.proofs.lemmas.Bool.{not-false, and_from}
use Rattle.lx_words.proofs.Tests.{true_false, false_true, first_of, second_of}
use Rattle.lx_words.proofs.Options.{some_none}
use Rattle.lx_ir.specs.declared.module.Value.{Value}
use Rattle.lx_ir.specs.declared.module.Value.TheVariants as value
use Rattle.lx_ir.specs.declared.module.Function.{Function}
use Rattle.lx_ir.specs.declared.module.Module.{Module}
use Rattle.lx_ir.specs.declared.instr.Callee.TheVariants as callee
use Rattle.lx_ir.specs.declared.instr.Op.{Op}
use Rattle.lx_ir.specs.declared.instr.Op.TheVariants as op
use Rattle.lx_ir.specs.Lookup.{is_write}
use Rattle.lx_ir.specs.Operands.{is_image_line}
use Rattle.lx_ir.specs.Faults.{same_value}
use Rattle.lx_ir.proofs.Equality.{value_is, value_itself}
use Rattle.lx_image_texts.specs.Marks.{mark_of, size_value, is_narrow, without_marks}
use Rattle.lx_image_texts.specs.Spared.{is_spared}
use Rattle.lx_image_texts.specs.ImageFaults.{Kind, BareStore, GuardDiffers, BareIndirect, StrayGuard, kind_if, is_stray, same_narrow, same_mark, is_mark_of, differs, is_guarding, is_bare_store, is_checking, is_bare_call, mark_kind}
use Rattle.lx_image_texts.proofs.Watching.{kind_none as where_none}

-- marks, and what wants one

abbrev pub head_of : List Op → Option Op
head_of [] = None
head_of (o ∷ os) = Some o

-- the first fault of marks, and of what wants one, behind this instruction of a block
abbrev pub first_mark_kind : Module → Function → Option Op → List Op → Option Kind
first_mark_kind m f before [] = None
first_mark_kind m f before (o ∷ os) = option_or (mark_kind m f before o (head_of os)) (first_mark_kind m f (Some o) os)

-- an instruction before the rest, with its mark, or a spared store without
abbrev pub StandsBefore : Module → Function → Op → List Op → List Op → Type 0
StandsBefore m f o is rest = (is ≡ mark_of o ++ (o ∷ rest)) ⊎ ((is_spared m f o ≡ true) × (is ≡ o ∷ rest))

-- these instructions with their marks
abbrev pub WithMarks : Module → Function → List Op → List Op → Type 0
WithMarks m f [] is = is ≡ []
WithMarks m f (o ∷ os) is = (rest : List Op) × StandsBefore m f o is rest × WithMarks m f os rest

-- no line that images alone have
abbrev pub are_plain : List Op → Bool
are_plain os = list_all (λ o. not (is_image_line o)) os

-- kinds

or_none : (a b : Option Kind) → option_or a b ≡ None → (a ≡ None) × (b ≡ None)
or_none None b e = (refl, e)
or_none (Some k) b e = some_none e

kind_none : (b : Bool) (k : Kind) → b ≡ false → kind_if b k ≡ None
kind_none true k e = true_false e
kind_none false k e = refl

join_none : (a b : Option Kind) → a ≡ None → b ≡ None → option_or a b ≡ None
join_none None b e h = h
join_none (Some k) b e h = some_none e

-- what is known where there is no fault at an instruction
record Clean (m : Module) (f : Function) (before : Option Op) (o : Op) (next : Option Op) : Type 0 where
  stray : is_stray next o ≡ false
  fits : differs next o ≡ false
  stored : is_bare_store m f before o ≡ false
  called : is_bare_call before o ≡ false

clean : (m : Module) (f : Function) (before : Option Op) (o : Op) (next : Option Op) → mark_kind m f before o next ≡ None → Clean m f before o next
clean m f before o next e =
    let a = or_none (kind_if (is_stray next o) StrayGuard) _ e in
    let b = or_none (kind_if (differs next o) GuardDiffers) _ a.1 in
    let c = or_none (kind_if (is_bare_store m f before o) BareStore) (kind_if (is_bare_call before o) BareIndirect) b.1 in
    record {
      stray = where_none (is_stray next o) StrayGuard a.0;
      fits = where_none (differs next o) GuardDiffers b.0;
      stored = where_none (is_bare_store m f before o) BareStore c.0;
      called = where_none (is_bare_call before o) BareIndirect c.1;
    }

unfaulted : (m : Module) (f : Function) (before : Option Op) (o : Op) (next : Option Op) → Clean m f before o next → mark_kind m f before o next ≡ None
unfaulted m f before o next c =
    join_none (kind_if (is_stray next o) StrayGuard) _ (kind_none (is_stray next o) StrayGuard c.stray)
    (join_none (kind_if (differs next o) GuardDiffers) _ (kind_none (differs next o) GuardDiffers c.fits)
    (join_none (kind_if (is_bare_store m f before o) BareStore) _ (kind_none (is_bare_store m f before o) BareStore c.stored) (kind_none (is_bare_call before o) BareIndirect c.called)))

-- marks

pub narrow_is : (a b : Bool) → same_narrow a b ≡ true → a ≡ b
narrow_is true true e = refl
narrow_is true false e = false_true e
narrow_is false true e = false_true e
narrow_is false false e = refl

pub narrow_itself : (a : Bool) → same_narrow a a ≡ true
narrow_itself true = refl
narrow_itself false = refl

guard_is : (at size : Value) (narrow : Bool) (a s : Value) (n : Bool) → same_mark (op.Guard at size narrow) (op.Guard a s n) ≡ true → op.Guard at size narrow ≡ op.Guard a s n
guard_is at size narrow a s n e =
    let front = first_of (same_value at a && same_value size s) (same_narrow narrow n) e in
    λ j. op.Guard (value_is at a (first_of (same_value at a) (same_value size s) front) j) (value_is size s (second_of (same_value at a) (same_value size s) front) j) (narrow_is narrow n (second_of (same_value at a && same_value size s) (same_narrow narrow n) e) j)

guard_itself : (at size : Value) (narrow : Bool) → same_mark (op.Guard at size narrow) (op.Guard at size narrow) ≡ true
guard_itself at size narrow = and_from (same_value at at && same_value size size) (same_narrow narrow narrow) (and_from (same_value at at) (same_value size size) (value_itself at) (value_itself size)) (narrow_itself narrow)

-- Code with its marks.

never : (b : Bool) → (b && not true) ≡ false
never true = refl
never false = refl

spared_store : (m : Module) (f : Function) (o : Op) (b : Bool) → is_spared m f o ≡ true → (b && not (is_spared m f o)) ≡ false
spared_store m f o b e = ap (λ (x : Bool). b && not x) e ∙ never b

-- an instruction of its own: neither a mark nor a line that wrappers alone have
abbrev IsOwn : Op → Type 0
IsOwn o = not (is_image_line o) ≡ true

-- a mark that stands before what it is of
marked_clean : (m : Module) (f : Function) (before : Option Op) (at size : Value) (narrow : Bool) (o : Op) → is_write o ≡ true → mark_of o ≡ op.Guard at size narrow ∷ [] → mark_kind m f before (op.Guard at size narrow) (Some o) ≡ None
marked_clean m f before at size narrow o w e =
    unfaulted m f before (op.Guard at size narrow) (Some o)
    (record {
      stray = ap not w;
      fits = ap (λ (ms : List Op). not (is_mark_of (op.Guard at size narrow) ms)) e ∙ ap not (guard_itself at size narrow);
      stored = refl;
      called = refl;
    })

found_none : (m : Module) (f : Function) (os : List Op) (is : List Op) (before : Option Op) → are_plain os ≡ true → WithMarks m f os is → first_mark_kind m f before is ≡ None
found_none m f [] is before p h = ap (first_mark_kind m f before) h
found_none m f (op.Store ty x y ∷ os) is before p (rest, inl e, h) =
    ap (first_mark_kind m f before) e
    ∙ join_none (mark_kind m f before (op.Guard y (size_value ty) false) (Some (op.Store ty x y))) _ (marked_clean m f before y (size_value ty) false (op.Store ty x y) refl refl) (found_none m f os rest (Some (op.Store ty x y)) p h)
found_none m f (op.Store ty x y ∷ os) is before p (rest, inr e, h) =
    ap (first_mark_kind m f before) e.1
    ∙ join_none (mark_kind m f before (op.Store ty x y) (head_of rest)) _
    (unfaulted m f before (op.Store ty x y) (head_of rest) (record { stray = refl; fits = refl; stored = spared_store m f (op.Store ty x y) (true && not (is_guarding before)) e.0; called = refl }))
    (found_none m f os rest (Some (op.Store ty x y)) p h)
found_none m f (op.CopyBlock moves dest source len ∷ os) is before p (rest, inl e, h) =
    ap (first_mark_kind m f before) e
    ∙ join_none (mark_kind m f before (op.Guard dest len.value (is_narrow len.ty)) (Some (op.CopyBlock moves dest source len))) _ (marked_clean m f before dest len.value (is_narrow len.ty) (op.CopyBlock moves dest source len) refl refl) (found_none m f os rest (Some (op.CopyBlock moves dest source len)) p h)
found_none m f (op.FillBlock dest byte len ∷ os) is before p (rest, inl e, h) =
    ap (first_mark_kind m f before) e
    ∙ join_none (mark_kind m f before (op.Guard dest len.value (is_narrow len.ty)) (Some (op.FillBlock dest byte len))) _ (marked_clean m f before dest len.value (is_narrow len.ty) (op.FillBlock dest byte len) refl refl) (found_none m f os rest (Some (op.FillBlock dest byte len)) p h)
found_none m f (op.Call to ret (callee.Register r) args ∷ os) is before p (rest, inl e, h) =
    ap (first_mark_kind m f before) e
    ∙ join_none (mark_kind m f before (op.Check (value.Register r)) (Some (op.Call to ret (callee.Register r) args))) _
    (unfaulted m f before (op.Check (value.Register r)) (Some (op.Call to ret (callee.Register r) args)) (record { stray = refl; fits = ap not (value_itself (value.Register r)); stored = refl; called = refl }))
    (found_none m f os rest (Some (op.Call to ret (callee.Register r) args)) p h)
found_none m f (op.Call to ret (callee.Symbol s) args ∷ os) is before p (rest, inl e, h) = ap (first_mark_kind m f before) e ∙ found_none m f os rest (Some (op.Call to ret (callee.Symbol s) args)) p h
found_none m f (op.Guard at size narrow ∷ os) is before p h = false_true p
found_none m f (op.Check target ∷ os) is before p h = false_true p
found_none m f (op.Enter s ∷ os) is before p h = false_true p
found_none m f (op.Pre s k ∷ os) is before p h = false_true p
found_none m f (op.Post s k ∷ os) is before p h = false_true p
found_none m f (op.Leave s ∷ os) is before p h = false_true p
found_none m f (o ∷ os) is before p (rest, inl e, h) = ap (first_mark_kind m f before) e ∙ found_none m f os rest (Some o) p h
found_none m f (o ∷ os) is before p (rest, inr e, h) = false_true e.0

pub marked_none : (m : Module) (f : Function) (os is : List Op) → are_plain os ≡ true → WithMarks m f os is → first_mark_kind m f None is ≡ None
marked_none m f os is p h = found_none m f os is None p h

-- Code without a fault of marks.

abbrev Stands : Module → Function → List Op → Type 0
Stands m f is = (are_plain (without_marks is) ≡ true) × WithMarks m f (without_marks is) is

-- nothing before is a mark
abbrev Unmarked : Option Op → Type 0
Unmarked before = (is_guarding before ≡ false) × (is_checking before ≡ false)

-- what is clean here, and what is known of the rest
split : (m : Module) (f : Function) (before : Option Op) (o : Op) (os : List Op) → first_mark_kind m f before (o ∷ os) ≡ None → Clean m f before o (head_of os) × (first_mark_kind m f (Some o) os ≡ None)
split m f before o os e =
    let a = or_none (mark_kind m f before o (head_of os)) (first_mark_kind m f (Some o) os) e in
    (clean m f before o (head_of os) a.0, a.1)

stored_spared : (guarding spared : Bool) → guarding ≡ false → (true && not guarding && not spared) ≡ false → spared ≡ true
stored_spared true spared g e = true_false g
stored_spared false true g e = refl
stored_spared false false g e = true_false e

called_checked : {A : Type 0} (checking : Bool) → checking ≡ false → (true && not checking) ≡ false → A
called_checked true c e = true_false c
called_checked false c e = true_false e

-- a guard before a write, and a check before an indirect call

guard_stands : (m : Module) (f : Function) (at size : Value) (narrow : Bool) (a s : Value) (n : Bool) (w : Op) (rest : List Op) → mark_of w ≡ op.Guard a s n ∷ [] → not (is_mark_of (op.Guard at size narrow) (mark_of w)) ≡ false →
    op.Guard at size narrow ∷ w ∷ rest ≡ mark_of w ++ (w ∷ rest)
guard_stands m f at size narrow a s n w rest em fits =
    ap (λ (g : Op). g ∷ w ∷ rest) (guard_is at size narrow a s n (ap (is_mark_of (op.Guard at size narrow)) (sym em) ∙ not-false (is_mark_of (op.Guard at size narrow) (mark_of w)) fits))
    ∙ ap (λ (ms : List Op). ms ++ (w ∷ rest)) (sym em)

check_is : (t u : Value) → same_value t u ≡ true → op.Check t ≡ op.Check u
check_is t u e = ap (λ (v : Value). op.Check v) (value_is t u e)

stands_from : (m : Module) (f : Function) (is : List Op) (before : Option Op) → Unmarked before → first_mark_kind m f before is ≡ None → Stands m f is
stands_from m f [] before u e = (refl, refl)
stands_from m f (op.Guard at size narrow ∷ []) before u e = some_none e
stands_from m f (op.Guard at size narrow ∷ op.Store ty x y ∷ rest) before u e =
    let a = split m f before (op.Guard at size narrow) (op.Store ty x y ∷ rest) e in
    let b = split m f (Some (op.Guard at size narrow)) (op.Store ty x y) rest a.1 in
    let ih = stands_from m f rest (Some (op.Store ty x y)) (refl, refl) b.1 in
    (ih.0, (rest, inl (guard_stands m f at size narrow y (size_value ty) false (op.Store ty x y) rest refl a.0.fits), ih.1))
stands_from m f (op.Guard at size narrow ∷ op.CopyBlock moves dest source len ∷ rest) before u e =
    let a = split m f before (op.Guard at size narrow) (op.CopyBlock moves dest source len ∷ rest) e in
    let b = split m f (Some (op.Guard at size narrow)) (op.CopyBlock moves dest source len) rest a.1 in
    let ih = stands_from m f rest (Some (op.CopyBlock moves dest source len)) (refl, refl) b.1 in
    (ih.0, (rest, inl (guard_stands m f at size narrow dest len.value (is_narrow len.ty) (op.CopyBlock moves dest source len) rest refl a.0.fits), ih.1))
stands_from m f (op.Guard at size narrow ∷ op.FillBlock dest byte len ∷ rest) before u e =
    let a = split m f before (op.Guard at size narrow) (op.FillBlock dest byte len ∷ rest) e in
    let b = split m f (Some (op.Guard at size narrow)) (op.FillBlock dest byte len) rest a.1 in
    let ih = stands_from m f rest (Some (op.FillBlock dest byte len)) (refl, refl) b.1 in
    (ih.0, (rest, inl (guard_stands m f at size narrow dest len.value (is_narrow len.ty) (op.FillBlock dest byte len) rest refl a.0.fits), ih.1))
stands_from m f (op.Guard at size narrow ∷ w ∷ rest) before u e = true_false (split m f before (op.Guard at size narrow) (w ∷ rest) e).0.stray
stands_from m f (op.Check target ∷ []) before u e = some_none e
stands_from m f (op.Check target ∷ op.Call to ret (callee.Register r) args ∷ rest) before u e =
    let a = split m f before (op.Check target) (op.Call to ret (callee.Register r) args ∷ rest) e in
    let b = split m f (Some (op.Check target)) (op.Call to ret (callee.Register r) args) rest a.1 in
    let ih = stands_from m f rest (Some (op.Call to ret (callee.Register r) args)) (refl, refl) b.1 in
    (ih.0, (rest, inl (ap (λ (g : Op). g ∷ op.Call to ret (callee.Register r) args ∷ rest) (check_is target (value.Register r) (not-false (same_value target (value.Register r)) a.0.fits))), ih.1))
stands_from m f (op.Check target ∷ op.Call to ret (callee.Symbol s) args ∷ rest) before u e = true_false (split m f before (op.Check target) (op.Call to ret (callee.Symbol s) args ∷ rest) e).0.stray
stands_from m f (op.Check target ∷ w ∷ rest) before u e = true_false (split m f before (op.Check target) (w ∷ rest) e).0.stray
stands_from m f (op.Enter s ∷ rest) before u e = some_none e
stands_from m f (op.Pre s k ∷ rest) before u e = some_none e
stands_from m f (op.Post s k ∷ rest) before u e = some_none e
stands_from m f (op.Leave s ∷ rest) before u e = some_none e
stands_from m f (op.Store ty x y ∷ rest) before u e =
    let a = split m f before (op.Store ty x y) rest e in
    let ih = stands_from m f rest (Some (op.Store ty x y)) (refl, refl) a.1 in
    (ih.0, (rest, inr (stored_spared (is_guarding before) (is_spared m f (op.Store ty x y)) u.0 a.0.stored, refl), ih.1))
stands_from m f (op.CopyBlock moves dest source len ∷ rest) before u e =
    false_true (stored_spared (is_guarding before) false u.0 (split m f before (op.CopyBlock moves dest source len) rest e).0.stored)
stands_from m f (op.FillBlock dest byte len ∷ rest) before u e =
    false_true (stored_spared (is_guarding before) false u.0 (split m f before (op.FillBlock dest byte len) rest e).0.stored)
stands_from m f (op.Call to ret (callee.Register r) args ∷ rest) before u e =
    called_checked (is_checking before) u.1 (split m f before (op.Call to ret (callee.Register r) args) rest e).0.called
stands_from m f (op.Call to ret (callee.Symbol s) args ∷ rest) before u e =
    let ih = stands_from m f rest (Some (op.Call to ret (callee.Symbol s) args)) (refl, refl) (split m f before (op.Call to ret (callee.Symbol s) args) rest e).1 in
    (ih.0, (rest, inl refl, ih.1))
stands_from m f (o ∷ rest) before u e =
    let ih = stands_from m f rest (Some o) (refl, refl) (split m f before o rest e).1 in
    (ih.0, (rest, inl refl, ih.1))

pub none_marked : (m : Module) (f : Function) (is : List Op) → first_mark_kind m f None is ≡ None → (are_plain (without_marks is) ≡ true) × WithMarks m f (without_marks is) is
none_marked m f is e = stands_from m f is None (refl, refl) e
