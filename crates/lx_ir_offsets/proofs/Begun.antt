-- A field is found by where the fields begin as it is by going over them.
use Rattle.std.proofs.Common.{◌≡◌, ℕ, zero, suc, Bool, true, false, Option, Some, None, List, [], ◌∷◌, refl, sym, ap, ◌∙◌, slice_get, option_map}
use Rattle.std.specs.Prelude.{option_and_then}
use Rattle.std.proofs.lemmas.Option.{slice_get-map}
use Rattle.lx_words.specs.Word.{Word}
use Rattle.lx_ir.specs.declared.types.NamedType.{NamedType}
use Rattle.lx_ir.specs.IrType.{IrType, Struct, Packed, Named}
use Rattle.lx_ir.specs.TypeNodes.{types_of_list}
use Rattle.lx_ir.specs.Layout.{Layout, layout, field_start, unnamed, entry_or}
use Rattle.lx_ir.specs.Fitting.{◌>>?◌, Layouts, laid_beside, fit_type, fitting_layouts, starts_in, starts_behind, rest_behind, starts_of, named_starts}
use Rattle.lx_ir_offsets.specs.Offsets.{Part, part, field_after, field_number, begun, start_kept, field_kept, part_of}

module _ (layouts : Layouts) (packed : Bool) where
  here : (t : IrType) (laid : Layout) (rest : Layout → List ℕ) (o : Option Layout) → (o >>? λ l. Some (part (field_start packed laid l) t)) ≡ begun (slice_get (starts_behind packed laid o rest) zero) (Some t)
  here t laid rest None = refl
  here t laid rest (Some l) = refl

  behind_it : (rest : Layout → List ℕ) (after : Layout → Option Part) (k : ℕ) (found : Option IrType) → ((more : Layout) → after more ≡ begun (slice_get (rest more) k) found)
      → (p : Option Layout) → (p >>? after) ≡ begun (slice_get (rest_behind p rest) k) found
  behind_it rest after zero found goes None = refl
  behind_it rest after (suc k) found goes None = refl
  behind_it rest after k found goes (Some more) = goes more

  behind : (laid : Layout) (rest : Layout → List ℕ) (after : Layout → Option Part) (k : ℕ) (found : Option IrType) → ((more : Layout) → after more ≡ begun (slice_get (rest more) k) found)
      → (o : Option Layout) → (o >>? λ l. laid_beside packed laid l >>? after) ≡ begun (slice_get (starts_behind packed laid o rest) (suc k)) found
  behind laid rest after k found goes None = refl
  behind laid rest after k found goes (Some l) = behind_it rest after k found goes (laid_beside packed laid l)

  by_starts : (xs : List IrType) (laid : Layout) (k : ℕ) → field_after layouts packed (types_of_list xs) laid k ≡ begun (slice_get (starts_in layouts packed (types_of_list xs) laid) k) (slice_get xs k)
  by_starts [] laid zero = refl
  by_starts [] laid (suc k) = refl
  by_starts (t ∷ xs) laid zero = here t laid (λ more. starts_in layouts packed (types_of_list xs) more) (fit_type layouts t)
  by_starts (t ∷ xs) laid (suc k) =
      behind laid (λ more. starts_in layouts packed (types_of_list xs) more) (λ more. field_after layouts packed (types_of_list xs) more k) k (slice_get xs k) (λ more. by_starts xs more k) (fit_type layouts t)

by_index : (layouts : Layouts) (packed : Bool) (xs : List IrType) (o : Option ℕ) → (o >>? λ k. field_after layouts packed (types_of_list xs) (layout 0 1) k) ≡ (o >>? λ k. begun (slice_get (starts_in layouts packed (types_of_list xs) (layout 0 1)) k) (slice_get xs k))
by_index layouts packed xs None = refl
by_index layouts packed xs (Some k) = by_starts layouts packed xs (layout 0 1) k

-- the starts that are kept are those of the type that is named
of_entry : (layouts : Layouts) (number : ℕ) (o : Option NamedType) (k : ℕ) → option_and_then (λ starts. slice_get starts k) (option_map (λ (t : NamedType). starts_of layouts t.ty) o) ≡ slice_get (starts_of layouts (entry_or o (Named number))) k
of_entry layouts number None zero = refl
of_entry layouts number None (suc k) = refl
of_entry layouts number (Some e) k = refl

start_is : (types : List NamedType) (number k : ℕ) → start_kept types number k ≡ slice_get (starts_of (fitting_layouts types) (unnamed types (Named number))) k
unfolding named_starts
start_is types number k =
    ap (option_and_then (λ starts. slice_get starts k)) (slice_get-map (λ (t : NamedType). starts_of (fitting_layouts types) t.ty) types number)
    ∙ of_entry (fitting_layouts types) number (slice_get types number) k

kept_is : (types : List NamedType) (number : ℕ) (xs : List IrType) (o : Option ℕ) → (o >>? λ k. begun (slice_get (starts_of (fitting_layouts types) (unnamed types (Named number))) k) (slice_get xs k)) ≡ (o >>? λ k. begun (start_kept types number k) (slice_get xs k))
kept_is types number xs None = refl
kept_is types number xs (Some k) = ap (λ s. begun s (slice_get xs k)) (sym (start_is types number k))

-- the field of a named struct, by its starts
pub struct_part : (types : List NamedType) (t u : IrType) (number : ℕ) (xs : List IrType) (i : Word) → t ≡ Named number → u ≡ unnamed types t → u ≡ Struct (types_of_list xs)
    → field_kept types number xs i ≡ part_of (fitting_layouts types) (unnamed types t) i
struct_part types t u number xs i named shown is =
    let e : unnamed types t ≡ Struct (types_of_list xs) = sym shown ∙ is in
    sym (ap (λ v. part_of (fitting_layouts types) v i) e ∙ by_index (fitting_layouts types) false xs (field_number i)
    ∙ ap (λ v. field_number i >>? λ k. begun (slice_get (starts_of (fitting_layouts types) v) k) (slice_get xs k)) (sym e ∙ ap (unnamed types) named)
    ∙ kept_is types number xs (field_number i))

pub packed_part : (types : List NamedType) (t u : IrType) (number : ℕ) (xs : List IrType) (i : Word) → t ≡ Named number → u ≡ unnamed types t → u ≡ Packed (types_of_list xs)
    → field_kept types number xs i ≡ part_of (fitting_layouts types) (unnamed types t) i
packed_part types t u number xs i named shown is =
    let e : unnamed types t ≡ Packed (types_of_list xs) = sym shown ∙ is in
    sym (ap (λ v. part_of (fitting_layouts types) v i) e ∙ by_index (fitting_layouts types) true xs (field_number i)
    ∙ ap (λ v. field_number i >>? λ k. begun (slice_get (starts_of (fitting_layouts types) v) k) (slice_get xs k)) (sym e ∙ ap (unnamed types) named)
    ∙ kept_is types number xs (field_number i))
