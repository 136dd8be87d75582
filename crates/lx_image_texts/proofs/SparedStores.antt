-- The stores that are spared are those to bytes of the function's own stack whose address it keeps.
use Rattle.std.proofs.Common.{◌≡◌, refl, ap, ◌∙◌, arith, ℕ, zero, suc, Bool, true, false, not, ◌||◌, List, [], ◌∷◌, Some, slice_get}
use Rattle.std.specs.Prelude.{nat_eq, nat_le}
use Rattle.std.specs.List.{list_all, list_any}
use Rattle.std.proofs.lemmas.Bool.{and_from, or_parts, or_from, not-true}
use Rattle.lx_words.proofs.Lists.{all_at, any_at}
use Rattle.lx_words.proofs.Options.{none_some, some_same}
use Rattle.lx_words.proofs.Tests.{false_true, clash, first_of, second_of, true_eq, eq_self, true_le, le_true}
use Rattle.lx_ir.specs.IrType.{IrType}
use Rattle.lx_ir.specs.declared.types.NamedType.{NamedType}
use Rattle.lx_ir.specs.declared.module.Value.{Value}
use Rattle.lx_ir.specs.declared.module.Value.TheVariants as value
use Rattle.lx_ir.specs.declared.module.Function.{Function}
use Rattle.lx_ir.specs.declared.module.Module.{Module}
use Rattle.lx_ir.specs.declared.instr.Argument.{Argument}
use Rattle.lx_ir.specs.declared.instr.Op.{Op}
use Rattle.lx_ir.specs.declared.instr.Op.TheVariants as op
use Rattle.lx_ir.specs.Layout.{scalar_size, size_of}
use Rattle.lx_ir.specs.Lookup.{instrs_of}
use Rattle.lx_ir.specs.Operands.{operands_of}
use Rattle.lx_image_texts.specs.Named.{AllAre}
use Rattle.lx_image_texts.specs.Spared.{is_register, reads, uses_as_address, allocates, is_spared}
use Rattle.lx_image_texts.specs.SparedStores.{KeepsAddress, IsToOwnStack}
use Rattle.lx_image_texts.proofs.FirstBad.{all_none, all_more}

-- a register among operands

is_it : (r : ℕ) (v : Value) → is_register r v ≡ true → v ≡ value.Register r
is_it r (value.Register k) h = ap (λ (n : ℕ). value.Register n) (true_eq k r h)
is_it r (value.Constant c) h = false_true h

it_is : (r : ℕ) (v : Value) → v ≡ value.Register r → is_register r v ≡ true
it_is r v h = ap (is_register r) h ∙ eq_self r

unread : (r : ℕ) (xs : List Argument) → reads r xs ≡ false → AllAre (λ n (a : Argument). a.value ≡ value.Register r → ⊥) xs
unread r [] h = all_none (λ n (a : Argument). a.value ≡ value.Register r → ⊥)
unread r (x ∷ xs) h =
    let o = or_parts (is_register r x.value) (reads r xs) h in
    all_more (λ n (a : Argument). a.value ≡ value.Register r → ⊥) x xs (λ is. clash (is_register r x.value) (it_is r x.value is) o.0) (unread r xs o.1)

is_unread : (r : ℕ) (v : Value) → (v ≡ value.Register r → ⊥) → is_register r v ≡ false
is_unread r v h = by (is_register r v) refl
  where
    by : (b : Bool) → is_register r v ≡ b → is_register r v ≡ false
    by true e = absurd (h (is_it r v e))
    by false e = e

are_unread : (r : ℕ) (xs : List Argument) → AllAre (λ n (a : Argument). a.value ≡ value.Register r → ⊥) xs → reads r xs ≡ false
are_unread r [] h = refl
are_unread r (x ∷ xs) h = or_from (is_register r x.value) (reads r xs) (is_unread r x.value (h 0 x refl)) (are_unread r xs (λ n. h (suc n)))

-- an instruction keeps an address

keeps : (r : ℕ) (o : Op) → uses_as_address r o ≡ true → KeepsAddress r o
keeps r (op.Load to ty at) h zero a there is = refl
keeps r (op.Load to ty at) h (suc n) a there is = none_some there
keeps r (op.Store ty v at) h zero a there is = absurd (clash (is_register r v) (it_is r v (ap (λ (x : Argument). x.value) (some_same there) ∙ is)) (not-true (is_register r v) h))
keeps r (op.Store ty v at) h (suc zero) a there is = refl
keeps r (op.Store ty v at) h (suc (suc n)) a there is = none_some there
keeps r (op.Guard at size narrow) h n a there is = tt
keeps r o h n a there is = unread r (operands_of o) (not-true (reads r (operands_of o)) h) n a there is

kept : (r : ℕ) (o : Op) → KeepsAddress r o → uses_as_address r o ≡ true
kept r (op.Load to ty at) h = refl
kept r (op.Store ty v at) h = ap not (is_unread r v (λ is. let e : 0 ≡ 1 = h 0 _ refl is in absurd (omega (arith, e))))
kept r (op.Guard at size narrow) h = refl
kept r o h = ap not (are_unread r (operands_of o) h)

-- an instruction allocates

record Allocates (types : List NamedType) (r size : ℕ) (o : Op) : Type 0 where
  bytes : IrType
  is : o ≡ op.Alloca r bytes
  room : nat_le size (size_of types bytes) ≡ true

allocation : (types : List NamedType) (r size : ℕ) (o : Op) → allocates types r size o ≡ true → Allocates types r size o
allocation types r size (op.Alloca to ty) h = record {
  bytes = ty;
  is = ap (λ (n : ℕ). op.Alloca n ty) (true_eq to r (first_of (nat_eq to r) (nat_le size (size_of types ty)) h));
  room = second_of (nat_eq to r) (nat_le size (size_of types ty)) h;
}
allocation types r size _ h = false_true h

record Stands {A : Type 0} (p : A → Bool) (xs : List A) : Type 0 where
  number : ℕ
  it : A
  at : slice_get xs number ≡ Some it
  passes : p it ≡ true

stands : {A : Type 0} (p : A → Bool) (xs : List A) → list_any p xs ≡ true → Stands p xs
stands p [] h = false_true h
stands p (x ∷ xs) h = by (p x) refl h (stands p xs)
  where
    by : (b : Bool) → p x ≡ b → (b || list_any p xs) ≡ true → (list_any p xs ≡ true → Stands p xs) → Stands p (x ∷ xs)
    by true e h later = record { number = 0; it = x; at = refl; passes = e }
    by false e h later = let r = later h in record { number = suc r.number; it = r.it; at = r.at; passes = r.passes }

all_pass : {A : Type 0} (p : A → Bool) (xs : List A) → AllAre (λ n x. p x ≡ true) xs → list_all p xs ≡ true
all_pass p [] h = refl
all_pass p (x ∷ xs) h = and_from (p x) (list_all p xs) (h 0 x refl) (all_pass p xs (λ n. h (suc n)))

-- both ways

pub own_stack : (m : Module) (f : Function) (o : Op) → is_spared m f o ≡ true → IsToOwnStack m f o
own_stack m f (op.Store ty v (value.Register r)) h =
    let any = stands (λ i. allocates m.types r (scalar_size ty) i.op) (instrs_of f) (first_of (list_any (λ i. allocates m.types r (scalar_size ty) i.op) (instrs_of f)) (list_all (λ i. uses_as_address r i.op) (instrs_of f)) h) in
    let all = second_of (list_any (λ i. allocates m.types r (scalar_size ty) i.op) (instrs_of f)) (list_all (λ i. uses_as_address r i.op) (instrs_of f)) h in
    let a = allocation m.types r (scalar_size ty) any.it.op any.passes in
    record {
      ty = ty;
      stored = v;
      register = r;
      store = refl;
      number = any.number;
      instr = any.it;
      bytes = a.bytes;
      stands = any.at;
      allocates = a.is;
      room = true_le (scalar_size ty) (size_of m.types a.bytes) a.room;
      keeps = λ n i at. keeps r i.op (all_at (λ i. uses_as_address r i.op) (instrs_of f) n i all at);
    }
own_stack m f (op.Store ty v (value.Constant c)) h = false_true h
own_stack m f _ h = false_true h

allocated : (types : List NamedType) (r size : ℕ) (bytes : IrType) → nat_le size (size_of types bytes) ≡ true → allocates types r size (op.Alloca r bytes) ≡ true
allocated types r size bytes h = and_from (nat_eq r r) (nat_le size (size_of types bytes)) (eq_self r) h

pub stack_spared : (m : Module) (f : Function) (o : Op) → IsToOwnStack m f o → is_spared m f o ≡ true
stack_spared m f o s =
    ap (is_spared m f) s.store
    ∙ and_from (list_any (λ i. allocates m.types s.register (scalar_size s.ty) i.op) (instrs_of f)) (list_all (λ i. uses_as_address s.register i.op) (instrs_of f))
    (any_at (λ i. allocates m.types s.register (scalar_size s.ty) i.op) (instrs_of f) s.number s.instr s.stands (ap (allocates m.types s.register (scalar_size s.ty)) s.allocates ∙ allocated m.types s.register (scalar_size s.ty) s.bytes (le_true (scalar_size s.ty) (size_of m.types s.bytes) s.room)))
    (all_pass (λ i. uses_as_address s.register i.op) (instrs_of f) (λ n i at. kept s.register i.op (s.keeps n i at)))
