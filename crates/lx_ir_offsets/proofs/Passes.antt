-- What a pass over the named types leaves as it was, all further ones do.
use Rattle.std.proofs.Common.{◌≡◌, ℕ, zero, suc, ◌+◌, ◌-◌, ◌<◌, ◌∙◌, sym, ap, arith, map, List}
use Rattle.lx_ir.specs.declared.types.NamedType.{NamedType}
use Rattle.lx_ir_offsets.specs.Shapes.{Shape, shape_of, shapes_through}

further : (types : List NamedType) (n more : ℕ) → shapes_through types (suc n) ≡ shapes_through types n → shapes_through types (n + more) ≡ shapes_through types n
further types n zero e =
    let none : n + 0 ≡ n = omega arith in
    ap (shapes_through types) none
further types n (suc more) e =
    let one : n + suc more ≡ suc (n + more) = omega arith in
    ap (shapes_through types) one ∙ ap (λ shapes. map (λ (t : NamedType). shape_of shapes t.ty) types) (further types n more e) ∙ e

pub settled : (types : List NamedType) (n : ℕ) (shapes next : List Shape) → shapes ≡ shapes_through types n → next ≡ map (λ (t : NamedType). shape_of shapes t.ty) types → next ≡ shapes → n < 64 → next ≡ shapes_through types 64
settled types n shapes next passed pass same few =
    let fixed : shapes_through types (suc n) ≡ shapes_through types n = sym (ap (λ ls. map (λ (t : NamedType). shape_of ls t.ty) types) passed) ∙ sym pass ∙ same ∙ passed in
    let whole : n + (64 - n) ≡ 64 = omega (arith, few) in
    same ∙ passed ∙ sym (further types n (64 - n) fixed) ∙ ap (shapes_through types) whole
