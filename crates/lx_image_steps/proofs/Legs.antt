-- Legs of routes, modulo 2^64.
use Rattle.std.proofs.Common.{◌≡◌, ◌∙◌, refl, sym, ap, ℕ, zero, suc, ◌+◌, ◌*◌, ◌%◌, ◌^◌, ◌<◌, ◌≤◌, List, [], ◌∷◌, length, drop, get_or, min, ℤ, pos, add-one, arith}
use Rattle.std.specs.Prelude.{negsuc, ◌+ℤ◌, ◌*ℤ◌}
use Rattle.lx_words.specs.Word.{Word, modulo, signed}
use Rattle.lx_ir.specs.declared.instr.Argument.{Argument}
use Rattle.lx_ir.specs.IrType.{IrType}
use Rattle.lx_ir.specs.Layout.{Layout, align_of, layout, layout_of}
use Rattle.lx_ir.specs.declared.types.NamedType.{NamedType}
use Rattle.lx_model.specs.declared.program.Program.{Program}
use Rattle.lx_model.specs.Thread.{Activation}
use Rattle.lx_model.specs.Effect.{indices_of, operand}
use Rattle.lx_code.specs.declared.routes.Leg.{Leg}
use Rattle.lx_code.specs.declared.routes.Route.{Route}
use Rattle.lx_code.specs.Routes.{leg_offset, legs_offset, route_offset}
use Rattle.lx_image_steps.proofs.Moduli.{modulo_sum}
use Rattle.lx_image_steps.proofs.Parts.{product}

abbrev most : ℕ
most = 2 ^ 64

-- how far legs go from a place on, where those before it have gone so far
abbrev pub IsGone : Program → Activation → List Leg → List Argument → ℕ → ℕ → Type 0
IsGone p a legs xs k offset =
    (offset + modulo (legs_offset (drop k legs) (indices_of p a (drop k xs))) most) % most ≡ modulo (legs_offset legs (indices_of p a xs)) most

modulo_again : (z : ℤ) → (0 + modulo z most) % most ≡ modulo z most
modulo_again (pos n) = omega arith
modulo_again (negsuc n) = omega arith

pub none_gone : (p : Program) (a : Activation) (legs : List Leg) (xs : List Argument) → IsGone p a legs xs 0 0
none_gone p a legs xs = modulo_again (legs_offset legs (indices_of p a xs))

sum_on : (a b c : ℕ) → (a + (b + c) % most) % most ≡ ((a + b) % most + c) % most
sum_on a b c = omega arith

next_at : {A : Type 0} (xs : List A) (k : ℕ) (d : A) → k < length xs → drop k xs ≡ get_or xs k d ∷ drop (suc k) xs
next_at [] k d h = absurd (omega (arith, h))
next_at (y ∷ ys) zero d h = refl
next_at (y ∷ ys) (suc k) d h = next_at ys k d (omega (arith, h))

next_of : {A : Type 0} (xs : List A) (k : ℕ) (d : A) → k < length xs → drop k xs ≡ get_or xs k d ∷ drop (k + 1) xs
next_of xs k d h = next_at xs k d h ∙ ap (λ j. get_or xs k d ∷ drop j xs) (sym (add-one k))

-- one leg further
gone_to : (p : Program) (a : Activation) (legs : List Leg) (xs : List Argument) (k offset n : ℕ) (leg : Leg) (x : Argument) → drop k legs ≡ leg ∷ drop (k + 1) legs → drop k xs ≡ x ∷ drop (k + 1) xs
    → n ≡ modulo (leg_offset leg (signed (operand p a x.value))) most → IsGone p a legs xs k offset → IsGone p a legs xs (k + 1) ((offset + n) % most)
gone_to p a legs xs k offset n leg x some more is gone =
    let z = leg_offset leg (signed (operand p a x.value)) in
    let rest = legs_offset (drop (k + 1) legs) (indices_of p a (drop (k + 1) xs)) in
    let here : legs_offset (drop k legs) (indices_of p a (drop k xs)) ≡ z +ℤ rest = λ j. legs_offset (some j) (indices_of p a (more j)) in
    ap (λ m. ((offset + m) % most + modulo rest most) % most) is
    ∙ sym (sum_on offset (modulo z most) (modulo rest most))
    ∙ ap (λ m. (offset + m) % most) (modulo_sum z rest ∙ ap (λ y. modulo y most) (sym here))
    ∙ gone

pub gone_on : (p : Program) (a : Activation) (legs : List Leg) (xs : List Argument) (k offset n : ℕ) (d : Leg) (x : Argument) (w : Word) → k < min (length legs) (length xs)
    → w ≡ operand p a (get_or xs k x).value → n ≡ modulo (leg_offset (get_or legs k d) (signed w)) most → IsGone p a legs xs k offset → IsGone p a legs xs (k + 1) ((offset + n) % most)
gone_on p a legs xs k offset n d x w h reads is gone =
    gone_to p a legs xs k offset n (get_or legs k d) (get_or xs k x) (next_of legs k d (omega (arith, h))) (next_of xs k x (omega (arith, h)))
    (is ∙ ap (λ v. modulo (leg_offset (get_or legs k d) (signed v)) most) reads) gone

-- the end
no_index : (legs : List Leg) → legs_offset legs [] ≡ pos 0
no_index [] = refl
no_index (l ∷ ls) = refl

nothing_left : (p : Program) (a : Activation) (legs : List Leg) (xs : List Argument) (k : ℕ) → min (length legs) (length xs) ≤ k → legs_offset (drop k legs) (indices_of p a (drop k xs)) ≡ pos 0
nothing_left p a [] xs zero h = refl
nothing_left p a (l ∷ ls) [] zero h = refl
nothing_left p a (l ∷ ls) (x ∷ xs) zero h = absurd (omega (arith, h))
nothing_left p a [] xs (suc k) h = refl
nothing_left p a (l ∷ ls) [] (suc k) h = no_index (drop k ls)
nothing_left p a (l ∷ ls) (x ∷ xs) (suc k) h = nothing_left p a ls xs k (omega (arith, h))

pub all_gone : (p : Program) (a : Activation) (legs : List Leg) (xs : List Argument) (k offset : ℕ) → min (length legs) (length xs) ≤ k → offset < most → IsGone p a legs xs k offset
    → offset ≡ modulo (legs_offset legs (indices_of p a xs)) most
all_gone p a legs xs k offset h small gone =
    let same : offset ≡ (offset + 0) % most = omega (arith, small) in
    same ∙ ap (λ z. (offset + modulo z most) % most) (sym (nothing_left p a legs xs k h)) ∙ gone

-- the first index counts whole values
pub route_gone : (r : Route) (i inner : ℕ) (z : ℤ) (zs : List ℤ) → i ≡ modulo z most → r.size < most → inner ≡ modulo (legs_offset r.legs zs) most
    → ((i * r.size) % most + inner) % most ≡ modulo (route_offset r (z ∷ zs)) most
route_gone r i inner z zs e small is =
    ap (λ n. (n + inner) % most) (product z i r.size r.size e refl small)
    ∙ ap (λ n. (modulo (z *ℤ pos r.size) most + n) % most) is
    ∙ modulo_sum (z *ℤ pos r.size) (legs_offset r.legs zs)

-- a layout by its size and its alignment
pub aligned : (types : List NamedType) (t : IrType) (size align : ℕ) → layout size align ≡ layout_of types t → align ≡ align_of types t
aligned types t size align e = ap (λ (l : Layout). l.align) e
