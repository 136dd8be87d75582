-- Tables that loops fill.
use Rattle.std.proofs.Common.{◌≡◌, ◌∙◌, refl, sym, ap, subst, ℕ, zero, suc, ◌<◌, Option, Some, None, List, [], ◌∷◌, ◌++◌, length, get_or, slice_get, arith}
use Rattle.std.specs.Prelude.{unwrap_or}
use Rattle.std.proofs.lemmas.Option.{slice_get-get_or, same_Some, slice_get_past}
use Rattle.lx_words.proofs.Lists.{none_past}
use Rattle.lx_ir.specs.declared.module.Function.{Function}
use Rattle.lx_model.specs.declared.program.Program.{Program}
use Rattle.lx_model.specs.declared.program.ProgramModule.{ProgramModule}
use Rattle.lx_model.specs.Program.{Home, module_of, module_or_empty, target, target_of as target_in}
use Rattle.lx_code.specs.declared.targets.Target.{Target as Named}
use Rattle.lx_code.specs.Targets.{target_of, target_or_nowhere, HasTable}

-- what holds of each element, by its place
abbrev pub Each : {A : Type 0} → (ℕ → A → Type 0) → List A → Type 0
Each {A} P xs = (k : ℕ) → (x : A) → slice_get xs k ≡ Some x → P k x

-- an element more, at the end
pub each_more : {A : Type 0} (P : ℕ → A → Type 0) (xs : List A) (x : A) → Each P xs → P (length xs) x → Each P (xs ++ x ∷ [])
each_more P [] x each last zero y at = subst (P zero) (same_Some x y at) last
each_more P [] x each last (suc k) y at = absurd (cc)
each_more P (z ∷ xs) x each last zero y at = each zero y at
each_more P (z ∷ xs) x each last (suc k) y at = each_more (λ n. P (suc n)) xs x (λ n. each (suc n)) last k y at

-- a table as long as the text, with what each function of it names
module _ (p : Program) (home : Home) (table : List Named) (count : length table ≡ length (module_of p home).functions) (each : Each (λ k t. target_of t ≡ target p home k) table) where
  by_entry : (f : ℕ) (found : Option Named) → slice_get table f ≡ found → target_or_nowhere found ≡ target p home f
  by_entry f (Some t) at = each f t at
  by_entry f None at =
      let far = none_past table f at in
      sym (ap (target_in p home f) (slice_get_past (module_of p home).functions f (omega (arith, far, count))))

  pub has_table : HasTable p home table
  has_table f = by_entry f (slice_get table f) refl

-- what a function of the text names, by its place
pub named_at : (p : Program) (home : Home) (fs : List Function) (k : ℕ) (f : Function) (t : Named) → fs ≡ (module_of p home).functions → slice_get fs k ≡ Some f
    → target_of t ≡ target_in p home k (Some f) → target_of t ≡ target p home k
named_at p home fs k f t is at names = names ∙ ap (target_in p home k) (sym at ∙ ap (λ l. slice_get l k) is)

-- the text of a module by its place among the modules
pub text_at : (p : Program) (ms : List ProgramModule) (n k : ℕ) (m : ProgramModule) → ms ≡ p.modules → n ≡ k → k < length ms → m ≡ get_or ms k m → m.«module» ≡ module_of p (Some n)
text_at p ms n k m is same below at =
    sym (ap (λ (i : ℕ). module_or_empty (slice_get p.modules i)) same ∙ ap (λ (l : List ProgramModule). module_or_empty (slice_get l k)) (sym is)
    ∙ ap module_or_empty (slice_get-get_or ms k m below ∙ ap Some (sym at)))

-- as many tables as modules, each with what the functions of its module name
module _ (p : Program) (tables : List (List Named)) (count : length tables ≡ length p.modules) (each : Each (λ m table. HasTable p (Some m) table) tables) where
  by_table : (m : ℕ) (found : Option (List Named)) → slice_get tables m ≡ found → HasTable p (Some m) (unwrap_or found [])
  by_table m (Some table) at f = each m table at f
  by_table m None at f =
      let far = none_past tables m at in
      sym (ap (λ (x : Option ProgramModule). target_in p (Some m) f (slice_get (module_or_empty x).functions f)) (slice_get_past p.modules m (omega (arith, far, count))))

  pub has_tables : (m : ℕ) → HasTable p (Some m) (unwrap_or (slice_get tables m) [])
  has_tables m = by_table m (slice_get tables m) refl
