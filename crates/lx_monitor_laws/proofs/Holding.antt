-- Who holds what.
use Rattle.std.proofs.Common.{◌≡◌, ◌↔◌, inl, inr, ℕ, Bool, true, IsTrue, refl, sym, ap, subst}
use Rattle.std.proofs.lemmas.Bool.{eqb-true, eq-eqb, or_cases, or_left, or_right}
use Rattle.lx_caps.specs.declared.Principal.{Principal}
use Rattle.lx_caps.specs.declared.Principal.TheVariants.{Kernel, Shared, Global, Inst}
use Rattle.lx_caps.specs.declared.Cap.{Cap}
use Rattle.lx_caps.specs.declared.Atom.{Atom}
use Rattle.lx_caps.specs.History.{has, holds, is_of, keeps, keeps_all, owns, reaches, same_principal}
use Rattle.lx_caps.specs.OwnerLaws.{OwnerLaws}
use Rattle.lx_caps.specs.RegionLaws.{RegionLaws}
use Rattle.lx_caps.proofs.Principals.{same_principal_is, same_principal_itself}
use Rattle.lx_monitor_laws.specs.HoldingLaws.{BelongsTo, CountsFor, HasEach, HoldingLaws}

-- those that count for a principal are those that it reaches

belongs : (m : ℕ) (q : Principal) → is_of m q ≡ true → BelongsTo m q
belongs m Kernel h = absurd (cc)
belongs m (Shared n) h = inl (ap Shared (sym (eqb-true m n h)))
belongs m (Global n) h = inr (inl (ap Global (sym (eqb-true m n h))))
belongs m (Inst n k) h = inr (inr (k, ap (λ j. Inst j k) (sym (eqb-true m n h))))

is_member : (m : ℕ) (q : Principal) → BelongsTo m q → is_of m q ≡ true
is_member m q (inl e) = subst (λ r. is_of m r ≡ true) (sym e) (eq-eqb m m refl)
is_member m q (inr (inl e)) = subst (λ r. is_of m r ≡ true) (sym e) (eq-eqb m m refl)
is_member m q (inr (inr (k, e))) = subst (λ r. is_of m r ≡ true) (sym e) (eq-eqb m m refl)

counts : (who q : Principal) → reaches who q ≡ true → CountsFor who q
counts Kernel q h = sym (same_principal_is Kernel q h)
counts (Shared m) q h = sym (same_principal_is (Shared m) q h)
counts (Global m) q h = belongs m q h
counts (Inst m k) q h = elim (or_cases (same_principal (Inst m k) q) (same_principal (Shared m) q) h) [
  | inl own ↦ inl (sym (same_principal_is (Inst m k) q own))
  | inr shared ↦ inr (sym (same_principal_is (Shared m) q shared))
]

itself : (p q : Principal) → q ≡ p → same_principal p q ≡ true
itself p q e = subst (λ r. same_principal p r ≡ true) (sym e) (same_principal_itself p)

reached_by : (who q : Principal) → CountsFor who q → reaches who q ≡ true
reached_by Kernel q e = itself Kernel q e
reached_by (Shared m) q e = itself (Shared m) q e
reached_by (Global m) q e = is_member m q e
reached_by (Inst m k) q (inl e) = or_left (same_principal (Inst m k) q) _ (itself (Inst m k) q e)
reached_by (Inst m k) q (inr e) = or_right (same_principal (Inst m k) q) _ (itself (Shared m) q e)

-- each atom is owned by somebody in reach exactly where somebody has it that counts
by_counting : (test : Bool) (has_it : Principal → Atom → Bool) (who : Principal) (c : Cap)
    → IsTrue test ↔ ((x : Atom) → has c x ≡ true → (q : Principal) × IsTrue (reaches who q) × IsTrue (has_it q x)) → (test ≡ true) ↔ HasEach has_it who c
by_counting test has_it who c laws = (
  (λ is x at. let (q, near, has) = laws.0 is x at in (q, counts who q near, has)),
  (λ each. laws.1 (λ x at. let (q, near, has) = each x at in (q, reached_by who q near, has))),
)

pub is_holding : RegionLaws → OwnerLaws → HoldingLaws
is_holding regions owners = record {
  holding = record {
    kernel_range = λ h at size. regions.byte_by_byte at size;
    kernel_call = λ h at. refl;
    kernel_ref = λ h ty at. refl;
    shared = λ h m c. by_counting (holds h (Shared m) c) (owns h) (Shared m) c (owners.held h (Shared m) c (λ (e : Shared m ≡ Kernel). absurd cc));
    global = λ h m c. by_counting (holds h (Global m) c) (owns h) (Global m) c (owners.held h (Global m) c (λ (e : Global m ≡ Kernel). absurd cc));
    instance = λ h m k c. by_counting (holds h (Inst m k) c) (owns h) (Inst m k) c (owners.held h (Inst m k) c (λ (e : Inst m k ≡ Kernel). absurd cc));
  };
  keeping = record {
    kernel_range = λ h at size. regions.byte_by_byte at size;
    kernel_call = λ h at. refl;
    kernel_ref = λ h ty at. refl;
    shared = λ h m c. by_counting (keeps_all h (Shared m) c) (keeps h) (Shared m) c (owners.kept_all h (Shared m) c (λ (e : Shared m ≡ Kernel). absurd cc));
    global = λ h m c. by_counting (keeps_all h (Global m) c) (keeps h) (Global m) c (owners.kept_all h (Global m) c (λ (e : Global m ≡ Kernel). absurd cc));
    instance = λ h m k c. by_counting (keeps_all h (Inst m k) c) (keeps h) (Inst m k) c (owners.kept_all h (Inst m k) c (λ (e : Inst m k ≡ Kernel). absurd cc));
  };
}
