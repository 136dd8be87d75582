-- The layouts that are kept are those of the definition.
use Rattle.std.proofs.Common.{◌≡◌, ℕ, ◌*◌, Bool, true, false, Option, Some, None, refl, sym, ap, ◌∙◌, nat_le}
use Rattle.std.specs.Prelude.{if◌then◌else◌}
use Rattle.lx_ir.specs.IrType.{IrType, One, Array, Struct, Packed, Named, IrTypes, none, also}
use Rattle.lx_ir.specs.Layout.{Layout, layout, scalar_size, beside, padded, layout_in, fields_in}
use Rattle.lx_ir.specs.Fitting.{◌>>?◌, limited, Layouts, laid_beside, fit_type, fit_fields}
use Rattle.lx_ir_offsets.specs.Laws.{AreThese}

some_bind : {A B : Type 0} (o : Option A) (f : A → Option B) (y : B) → (o >>? f) ≡ Some y → (x : A) × (o ≡ Some x) × (f x ≡ Some y)
some_bind (Some x) f y e = (x, refl, e)
some_bind None f y e = cc

pub within : (b : Bool) (l m : Layout) → (if b then Some l else None) ≡ Some m → m ≡ l
within true l m e = let s : l ≡ m = cc in sym s
within false l m e = cc

limited_is : (l m : Layout) → limited l ≡ Some m → m ≡ l
limited_is l m e = within (nat_le l.size 4294967296) l m e

same_some : (l m : Layout) (o : Option Layout) → o ≡ Some l → o ≡ Some m → l ≡ m
same_some l m (Some x) a b = let p : x ≡ l = cc in let q : x ≡ m = cc in sym p ∙ q
same_some l m None a b = cc

mutual
  pub fit_is : (layouts : Layouts) (named : ℕ → Layout) → AreThese layouts named → (t : IrType) (l : Layout) → fit_type layouts t ≡ Some l → l ≡ layout_in named t
  fit_is layouts named h (One s) l e = same_some l (layout (scalar_size s) (scalar_size s)) (Some (layout (scalar_size s) (scalar_size s))) e refl
  fit_is layouts named h (Array n t) l e =
      let a = some_bind (fit_type layouts t) (λ m. limited (layout (n * m.size) m.align)) l e in
      limited_is (layout (n * a.0.size) a.0.align) l a.2 ∙ ap (λ (m : Layout). layout (n * m.size) m.align) (fit_is layouts named h t a.0 a.1)
  fit_is layouts named h (Struct ts) l e =
      let a = some_bind (fit_fields layouts false ts (layout 0 1)) (λ m. limited (padded m)) l e in
      limited_is (padded a.0) l a.2 ∙ ap padded (fields_are layouts named h false ts (layout 0 1) a.0 a.1)
  fit_is layouts named h (Packed ts) l e = fields_are layouts named h true ts (layout 0 1) l e
  fit_is layouts named h (Named k) l e = h k l e

  fields_are : (layouts : Layouts) (named : ℕ → Layout) → AreThese layouts named → (packed : Bool) (ts : IrTypes) (laid l : Layout) → fit_fields layouts packed ts laid ≡ Some l → l ≡ fields_in named packed ts laid
  fields_are layouts named h packed none laid l e = same_some l laid (Some laid) e refl
  fields_are layouts named h packed (also t ts) laid l e =
      let a = some_bind (fit_type layouts t) (λ m. laid_beside packed laid m >>? λ more. fit_fields layouts packed ts more) l e in
      let b = some_bind (laid_beside packed laid a.0) (λ more. fit_fields layouts packed ts more) l a.2 in
      fields_are layouts named h packed ts b.0 l b.2
      ∙ ap (fields_in named packed ts) (limited_is (beside packed laid a.0) b.0 b.1 ∙ ap (beside packed laid) (fit_is layouts named h t a.0 a.1))
