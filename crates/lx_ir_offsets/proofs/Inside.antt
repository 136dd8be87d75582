-- A type is gone over exactly where it, and each that is written in it, is within the limits.
use Rattle.std.proofs.Common.{◌≡◌, ℕ, ◌-◌, Bool, true, false, List, Result, Ok, Err, refl}
use Rattle.std.specs.Prelude.{not}
use Rattle.std.proofs.lemmas.Bool.{and_parts, and_from}
use Rattle.lx_ir.specs.IrType.{IrType, One, Array, Struct, Packed, Named, IrTypes, none, also}
use Rattle.lx_ir_offsets.specs.Shapes.{Shape, is_outside, is_inside, are_inside, ◌>>>◌, unless_outside, left_behind, left_behind_fields, left_behind_more}

abbrev pub Passed : Result ℕ ℕ → Type 0
Passed r = (n : ℕ) × (r ≡ Ok n)

then_passed : (r : Result ℕ ℕ) (f : ℕ → Result ℕ ℕ) → Passed r → ((n : ℕ) → Passed (f n)) → Passed (r >>> f)
then_passed (Ok n) f p h = h n
then_passed (Err n) f (m, e) h = cc

was_passed : (r : Result ℕ ℕ) (f : ℕ → Result ℕ ℕ) → Passed (r >>> f) → (n : ℕ) × (r ≡ Ok n) × Passed (f n)
was_passed (Ok n) f p = (n, refl, p)
was_passed (Err n) f (m, e) = cc

test_passed : (b : Bool) (left : ℕ) (r : Result ℕ ℕ) → not b ≡ true → Passed r → Passed (unless_outside b left r)
test_passed true left r e p = cc
test_passed false left r e p = p

test_was_passed : (b : Bool) (left : ℕ) (r : Result ℕ ℕ) → Passed (unless_outside b left r) → (not b ≡ true) × Passed r
test_was_passed true left r (m, e) = cc
test_was_passed false left r p = (refl, p)

mutual
  pub inside_passes : (shapes : List Shape) (t : IrType) (left : ℕ) → is_inside shapes t ≡ true → Passed (left_behind shapes t left)
  inside_passes shapes (One s) left e = test_passed (is_outside shapes (One s)) left (Ok (left - 1)) e (left - 1, refl)
  inside_passes shapes (Named k) left e = test_passed (is_outside shapes (Named k)) left (Ok (left - 1)) e (left - 1, refl)
  inside_passes shapes (Array n t) left e =
      let b = and_parts (not (is_outside shapes (Array n t))) (is_inside shapes t) e in
      let more : ℕ → Result ℕ ℕ = λ l. Ok (l - 1) in
      test_passed (is_outside shapes (Array n t)) left (left_behind shapes t (left - 3) >>> more) b.0
      (then_passed (left_behind shapes t (left - 3)) more (inside_passes shapes t (left - 3) b.1) (λ l. (l - 1, refl)))
  inside_passes shapes (Struct ts) left e =
      let b = and_parts (not (is_outside shapes (Struct ts))) (are_inside shapes ts) e in
      test_passed (is_outside shapes (Struct ts)) left (left_behind_fields shapes ts (left - 1)) b.0 (fields_pass shapes ts (left - 1) b.1)
  inside_passes shapes (Packed ts) left e =
      let b = and_parts (not (is_outside shapes (Packed ts))) (are_inside shapes ts) e in
      let more : ℕ → Result ℕ ℕ = λ l. Ok (l - 1) in
      test_passed (is_outside shapes (Packed ts)) left (left_behind_fields shapes ts (left - 2) >>> more) b.0
      (then_passed (left_behind_fields shapes ts (left - 2)) more (fields_pass shapes ts (left - 2) b.1) (λ l. (l - 1, refl)))

  fields_pass : (shapes : List Shape) (ts : IrTypes) (left : ℕ) → are_inside shapes ts ≡ true → Passed (left_behind_fields shapes ts left)
  fields_pass shapes none left e = (left - 1, refl)
  fields_pass shapes (also t ts) left e =
      let b = and_parts (is_inside shapes t) (are_inside shapes ts) e in
      then_passed (left_behind shapes t left) (λ l. left_behind_more shapes ts (l - 1)) (inside_passes shapes t left b.0) (λ l. more_pass shapes ts (l - 1) b.1)

  more_pass : (shapes : List Shape) (ts : IrTypes) (left : ℕ) → are_inside shapes ts ≡ true → Passed (left_behind_more shapes ts left)
  more_pass shapes none left e = (left, refl)
  more_pass shapes (also t ts) left e =
      let b = and_parts (is_inside shapes t) (are_inside shapes ts) e in
      then_passed (left_behind shapes t left) (λ l. left_behind_more shapes ts (l - 1)) (inside_passes shapes t left b.0) (λ l. more_pass shapes ts (l - 1) b.1)

mutual
  pub passes_inside : (shapes : List Shape) (t : IrType) (left : ℕ) → Passed (left_behind shapes t left) → is_inside shapes t ≡ true
  passes_inside shapes (One s) left p = (test_was_passed (is_outside shapes (One s)) left (Ok (left - 1)) p).0
  passes_inside shapes (Named k) left p = (test_was_passed (is_outside shapes (Named k)) left (Ok (left - 1)) p).0
  passes_inside shapes (Array n t) left p =
      let more : ℕ → Result ℕ ℕ = λ l. Ok (l - 1) in
      let b = test_was_passed (is_outside shapes (Array n t)) left (left_behind shapes t (left - 3) >>> more) p in
      let w = was_passed (left_behind shapes t (left - 3)) more b.1 in
      and_from (not (is_outside shapes (Array n t))) (is_inside shapes t) b.0 (passes_inside shapes t (left - 3) (w.0, w.1))
  passes_inside shapes (Struct ts) left p =
      let b = test_was_passed (is_outside shapes (Struct ts)) left (left_behind_fields shapes ts (left - 1)) p in
      and_from (not (is_outside shapes (Struct ts))) (are_inside shapes ts) b.0 (passed_fields shapes ts (left - 1) b.1)
  passes_inside shapes (Packed ts) left p =
      let more : ℕ → Result ℕ ℕ = λ l. Ok (l - 1) in
      let b = test_was_passed (is_outside shapes (Packed ts)) left (left_behind_fields shapes ts (left - 2) >>> more) p in
      let w = was_passed (left_behind_fields shapes ts (left - 2)) more b.1 in
      and_from (not (is_outside shapes (Packed ts))) (are_inside shapes ts) b.0 (passed_fields shapes ts (left - 2) (w.0, w.1))

  passed_fields : (shapes : List Shape) (ts : IrTypes) (left : ℕ) → Passed (left_behind_fields shapes ts left) → are_inside shapes ts ≡ true
  passed_fields shapes none left p = refl
  passed_fields shapes (also t ts) left p =
      let w = was_passed (left_behind shapes t left) (λ l. left_behind_more shapes ts (l - 1)) p in
      and_from (is_inside shapes t) (are_inside shapes ts) (passes_inside shapes t left (w.0, w.1)) (passed_more shapes ts (w.0 - 1) w.2)

  passed_more : (shapes : List Shape) (ts : IrTypes) (left : ℕ) → Passed (left_behind_more shapes ts left) → are_inside shapes ts ≡ true
  passed_more shapes none left p = refl
  passed_more shapes (also t ts) left p =
      let w = was_passed (left_behind shapes t left) (λ l. left_behind_more shapes ts (l - 1)) p in
      and_from (is_inside shapes t) (are_inside shapes ts) (passes_inside shapes t left (w.0, w.1)) (passed_more shapes ts (w.0 - 1) w.2)

-- a type that is outside the limits is the first such
pub outside_first : (shapes : List Shape) (t : IrType) (left : ℕ) → is_outside shapes t ≡ true → Err left ≡ left_behind shapes t left
outside_first shapes (One s) left e = rw e refl
outside_first shapes (Named k) left e = rw e refl
outside_first shapes (Array n t) left e = rw e refl
outside_first shapes (Struct ts) left e = rw e refl
outside_first shapes (Packed ts) left e = rw e refl
