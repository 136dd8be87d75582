-- Legs of routes.
use Rattle.std.proofs.Common.{◌≡◌, ◌∙◌, refl, sym, ap, subst, ℕ, ◌<◌, Option, Some, None, List, [], ◌∷◌, ◌++◌, IsTrue, ℤ, pos}
use Rattle.std.specs.Prelude.{nat_abs, ◌+ℤ◌, ◌*ℤ◌}
use Rattle.std.proofs.lemmas.List.{append-nil, append_assoc}
use Rattle.lx_words.specs.Word.{Word, signed}
use Rattle.lx_ir.specs.declared.instr.Argument.{Argument}
use Rattle.lx_ir.specs.declared.types.NamedType.{NamedType}
use Rattle.lx_ir.specs.IrType.{IrType}
use Rattle.lx_ir.specs.Layout.{Part, element_offset, is_lawful_type, part_at, part_of, part_or, field_of, size_of, unnamed}
use Rattle.lx_code.specs.declared.routes.Leg.{Leg}
use Rattle.lx_code.specs.declared.routes.Leg.TheVariants.{Stride, Start}
use Rattle.lx_code.specs.declared.routes.Route.{Route}
use Rattle.lx_code.specs.Parts.{IsPart, element_in}
use Rattle.lx_code.specs.Routes.{AreIndices, AreLegs, IsIndex, IsLeg, IsRoute, IsStep, legs_offset, word_of}
use Rattle.lx_code.proofs.TypeParts.{element_part, field_part}

-- one leg

pub stride_step : (types : List NamedType) (t u : IrType) (size : ℕ) (w : Option Word) → Some u ≡ element_in (unnamed types t) → size ≡ size_of types u → IsStep types t w (Stride size) u
stride_step types t u size w e is z index =
    let p = element_part types (unnamed types t) u z e in record {
      offset = ap (λ (x : Part). x.offset) p ∙ ap (λ n. z *ℤ pos n) (sym is);
      ty = ap (λ (x : Part). unnamed types x.ty) (sym p);
    }

pub start_step : (types : List NamedType) (t u : IrType) (n : ℕ) (w : Word) → None ≡ element_in (unnamed types t)
    → IsPart types n u (part_or (field_of types (unnamed types t) (nat_abs (signed w))) (unnamed types t)) → IsStep types t (Some w) (Start n) u
start_step types t u n w e is z index =
    let whole = unnamed types t in
    let p = field_part types whole z e ∙ ap (λ i. part_or (field_of types whole (nat_abs i)) whole) index in record {
      offset = ap (λ (x : Part). x.offset) p ∙ sym is.offset;
      ty = is.ty ∙ ap (λ (x : Part). unnamed types x.ty) (sym p);
    }

-- legs, one after the other

pub same_inside : (types : List NamedType) (s t : IrType) (is : List ℤ) → unnamed types s ≡ unnamed types t → (part_at types s is).offset ≡ (part_at types t is).offset
same_inside types s t [] e = refl
same_inside types s t (i ∷ is) e = ap (λ x. ((part_of types x i).offset +ℤ (part_at types (part_of types x i).ty is).offset)) e

one_more : (types : List NamedType) (t u : IrType) (x : Argument) (xs : List Argument) (leg : Leg) (legs : List Leg) → IsStep types t (word_of x.value) leg u → AreLegs types u xs legs
    → AreLegs types t (x ∷ xs) (leg ∷ legs)
one_more types t u x xs leg legs step rest [] none = absurd none
one_more types t u x xs leg legs step rest (z ∷ zs) are =
    let here = step z are.0 in
    let outer = part_of types (unnamed types t) z in
    let inner : (part_at types outer.ty zs).offset ≡ legs_offset legs zs = sym (same_inside types u outer.ty zs here.ty) ∙ rest zs are.1 in
    λ j. here.offset j +ℤ inner j

-- legs that lead so far into a type
pub record Leads (types : List NamedType) (start : IrType) (all : List Argument) (legs : List Leg) (inner : IrType) (rest : List Argument) : Type 0 where
  pub sized : IsTrue (is_lawful_type types inner)
  pub on : (more : List Leg) → AreLegs types inner rest more → AreLegs types start all (legs ++ more)

pub leads_on : (types : List NamedType) (start inner u : IrType) (all xs : List Argument) (x : Argument) (legs now : List Leg) (leg : Leg) → Leads types start all legs inner (x ∷ xs)
    → IsStep types inner (word_of x.value) leg u → IsTrue (is_lawful_type types u) → now ≡ legs ++ leg ∷ [] → Leads types start all now u xs
leads_on types start inner u all xs x legs now leg leads step sized is = record {
  sized = sized;
  on = λ more rest. subst (AreLegs types start all) (sym (append_assoc legs (leg ∷ []) more) ∙ ap (λ l. l ++ more) (sym is)) (leads.on (leg ∷ more) (one_more types inner u x xs leg more step rest));
}

no_more : (types : List NamedType) (t : IrType) → AreLegs types t [] []
no_more types t [] are = refl
no_more types t (z ∷ zs) are = absurd are

pub leads_all : (types : List NamedType) (start inner : IrType) (all : List Argument) (legs : List Leg) → Leads types start all legs inner [] → AreLegs types start all legs
leads_all types start inner all legs leads = subst (AreLegs types start all) (append-nil legs) (leads.on [] (no_more types inner))

-- the first index counts whole values
pub routed : (types : List NamedType) (t : IrType) (x : Argument) (xs : List Argument) (r : Route) → r.size ≡ size_of types t → AreLegs types t xs r.legs → IsRoute types t (x ∷ xs) r
routed types t x xs r is legs [] none = absurd none
routed types t x xs r is legs (z ∷ zs) are =
    let inner = legs zs are.1 in
    λ j. (z *ℤ pos (sym is j)) +ℤ inner j
