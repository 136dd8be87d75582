-- The table of a well-formed program names functions that modules define.
use Rattle.std.proofs.Common.{◌≡◌, ℕ, suc, ◌+◌, Bool, true, false, List, [], ◌∷◌, ◌++◌, Some, None, ◌⊎◌, inl, inr, refl, sym, subst, ◌∙◌, ap, arith}
use Rattle.std.specs.Prelude.{slice_get}
use Rattle.lx_words.proofs.Options.{some_same}
use Rattle.lx_ir.specs.declared.module.Function.{Function}
use Rattle.lx_ir.specs.declared.module.Module.{Module}
use Rattle.lx_ir.specs.Lookup.{is_defined}
use Rattle.lx_model.specs.declared.program.Program.{Program}
use Rattle.lx_model.specs.declared.program.ProgramModule.{ProgramModule}
use Rattle.lx_model.specs.declared.program.ProgramFunction.{ProgramFunction}
use Rattle.lx_model.specs.declared.program.ProgramFunction.TheVariants.{Of, Native}
use Rattle.lx_model.specs.Program.{Home}
use Rattle.lx_link_texts.specs.Placing.{natives, entry_if, entries_from, module_entries, functions_of}
use Rattle.lx_link_texts.specs.WellFormed.{texts_of, IsWellFormed}
use Rattle.lx_images.specs.Places.{IsIn}
use Rattle.lx_images.specs.HasImages.{NamesDefined}
use Rattle.lx_simulation.proofs.Elements.{in_got}
use Rattle.lx_model.proofs.Homes.{module_at}

pub in_either : {A : Type 0} (x : A) (xs ys : List A) → IsIn x (xs ++ ys) → IsIn x xs ⊎ IsIn x ys
in_either x [] ys i = inr i
in_either x (y ∷ xs) ys (inl e) = inl (inl e)
in_either x (y ∷ xs) ys (inr i) = elim (in_either x xs ys i) [ inl a ↦ inl (inr a) | inr b ↦ inr b ]

-- an entry of a text: the function at this place, from this number on, is defined
abbrev OfText : Home → ℕ → List Function → ProgramFunction → Type 0
OfText home first fs (Native k) = ⊥
OfText home first fs (Of h f) = (h ≡ home) × (j : ℕ) × (g : Function) × (f ≡ first + j) × (slice_get fs j ≡ Some g) × (is_defined g ≡ true)

further_on : (home : Home) (k : ℕ) (y : Function) (fs : List Function) (x : ProgramFunction) → OfText home (k + 1) fs x → OfText home k (y ∷ fs) x
further_on home k y fs (Native j) h = h
further_on home k y fs (Of g f) (e, j, z, n, got, d) = (e, suc j, z, omega (arith, n), got, d)

entry_one : (home : Home) (k : ℕ) (y : Function) (fs : List Function) (b : Bool) (x : ProgramFunction) → is_defined y ≡ b → IsIn x (entry_if b (Of home k)) → OfText home k (y ∷ fs) x
entry_one home k y fs true x d (inl e) = subst (OfText home k (y ∷ fs)) e (refl, 0, y, omega arith, refl, d)
entry_one home k y fs true x d (inr i) = absurd i
entry_one home k y fs false x d i = absurd i

entries_in : (home : Home) (k : ℕ) (fs : List Function) (x : ProgramFunction) → IsIn x (entries_from home k fs) → OfText home k fs x
entries_in home k [] x i = absurd i
entries_in home k (f ∷ fs) x i =
    elim (in_either x (entry_if (is_defined f) (Of home k)) (entries_from home (k + 1) fs) i) [
      | inl a ↦ entry_one home k f fs (is_defined f) x refl a
      | inr b ↦ further_on home k f fs x (entries_in home (k + 1) fs x b)
    ]

abbrev OfModule : ℕ → List ProgramModule → ℕ → ℕ → Type 0
OfModule k ms m f = (j : ℕ) × (y : ProgramModule) × (g : Function) × (m ≡ k + j) × (slice_get ms j ≡ Some y) × (slice_get y.«module».functions f ≡ Some g) × (is_defined g ≡ true)

modules_in : (k : ℕ) (ms : List ProgramModule) (m f : ℕ) → IsIn (Of (Some m) f) (module_entries k ms) → OfModule k ms m f
modules_in k [] m f i = absurd i
modules_in k (x ∷ ms) m f i =
    elim (in_either (Of (Some m) f) (entries_from (Some k) 0 x.«module».functions) (module_entries (k + 1) ms) i) [
      | inl a ↦ (
          let h : OfText (Some k) 0 x.«module».functions (Of (Some m) f) = entries_in (Some k) 0 x.«module».functions (Of (Some m) f) a in
          let e : m ≡ k = some_same h.0 in
          let n : f ≡ 0 + h.1 = h.3 in
          let same : f ≡ h.1 = omega (arith, n) in
          (0, x, h.2, omega (arith, e), refl, ap (slice_get x.«module».functions) same ∙ h.4, h.5))
      | inr b ↦ (
          let r = modules_in (k + 1) ms m f b in
          let e : m ≡ k + 1 + r.0 = r.3 in
          (suc r.0, r.1, r.2, omega (arith, e), r.4, r.5, r.6))
    ]

abbrev IsNative : ProgramFunction → Type 0
IsNative (Native k) = Unit {0}
IsNative (Of h f) = ⊥

abbrev AreNative : List ProgramFunction → Type 0
AreNative [] = Unit {0}
AreNative (x ∷ xs) = IsNative x × AreNative xs

all_native : AreNative natives
all_native = (tt, (tt, (tt, (tt, (tt, (tt, tt))))))

native_home : (m f : ℕ) (xs : List ProgramFunction) → IsIn (Of (Some m) f) xs → AreNative xs → ⊥
native_home m f [] i a = i
native_home m f (x ∷ xs) (inl e) a = subst IsNative e a.0
native_home m f (x ∷ xs) (inr i) a = native_home m f xs i a.1

opened : (p : Program) → functions_of (texts_of p) ≡ natives ++ entries_from None 0 p.kernel.functions ++ module_entries 0 p.modules
unfolding functions_of
opened p = refl

none_home : {m : ℕ} → ◌≡◌ {A = Home} (Some m) None → ⊥
none_home e = cc

in_table : (kernel : Module) (ms : List ProgramModule) (m f : ℕ) → IsIn (Of (Some m) f) (natives ++ entries_from None 0 kernel.functions ++ module_entries 0 ms) → OfModule 0 ms m f
in_table kernel ms m f i =
    elim (in_either (Of (Some m) f) natives (entries_from None 0 kernel.functions ++ module_entries 0 ms) i) [
      | inl a ↦ absurd (native_home m f natives a all_native)
      | inr b ↦ elim (in_either (Of (Some m) f) (entries_from None 0 kernel.functions) (module_entries 0 ms) b) [
        | inl c ↦ absurd (none_home (entries_in None 0 kernel.functions (Of (Some m) f) c).0)
        | inr d ↦ modules_in 0 ms m f d
      ]
    ]

-- an entry of the table is a function that its module defines
pub listed : (p : Program) → IsWellFormed p → (n m f : ℕ) → slice_get p.functions n ≡ Some (Of (Some m) f) →
    (y : ProgramModule) × (g : Function) × (slice_get p.modules m ≡ Some y) × (slice_get y.«module».functions f ≡ Some g) × (is_defined g ≡ true)
listed p w n m f e =
    let r = in_table p.kernel p.modules m f (subst (λ (xs : List ProgramFunction). IsIn (Of (Some m) f) xs) (w.functions ∙ opened p) (in_got p.functions n (Of (Some m) f) e)) in
    let at : m ≡ 0 + r.0 = r.3 in
    let same : m ≡ r.0 = omega (arith, at) in
    (r.1, r.2, ap (slice_get p.modules) same ∙ r.4, r.5, r.6)

pub names_defined : (p : Program) → IsWellFormed p → NamesDefined p
names_defined p w n m f g e eg =
    let r = listed p w n m f e in
    let it : r.1 ≡ g = some_same (sym r.3 ∙ (ap (λ (x : Module). slice_get x.functions f) (sym (module_at p m r.0 r.2)) ∙ eg)) in
    ap is_defined (sym it) ∙ r.4
