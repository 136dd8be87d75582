-- As whom a function runs that is entered.
use Rattle.std.proofs.Common.{◌≡◌, ℕ, ◌<◌, Bool, true, false, Option, Some, None, Ok, Err, List, [], length, slice_get, refl, sym, ap, subst, arith}
use Rattle.std.specs.Prelude.{⊤, nat_lt, unwrap_or, if◌then◌else◌}
use Rattle.std.proofs.lemmas.Bool.Decides.{nat_tests}
use Rattle.lx_words.specs.Word.{Word}
use Rattle.lx_words.proofs.Lists.{all_at}
use Rattle.lx_caps.specs.declared.Principal.{Principal}
use Rattle.lx_caps.specs.Memory.{load64}
use Rattle.lx_caps.specs.NameLaws.{IsNumbered}
use Rattle.lx_caps.specs.Names.{Namings, named, new_instance}
use Rattle.lx_annot.specs.declared.action.Who.{Who}
use Rattle.lx_annot.specs.declared.action.Who.TheVariants as who
use Rattle.lx_annot.specs.Value.{Found, and_then, value}
use Rattle.lx_model.specs.declared.program.Program.{Program}
use Rattle.lx_model.specs.declared.program.ProgramFunction.{ProgramFunction}
use Rattle.lx_model.specs.declared.program.ProgramFunction.TheVariants.{Native, Of}
use Rattle.lx_model.specs.declared.request.Way.{Way}
use Rattle.lx_model.specs.declared.request.Way.TheVariants.{Script, Direct, Indirect, Slot}
use Rattle.lx_model.specs.Enter.{Running, instance_named, instance_of, runs_as, runs_by, runs_in, text_of_principal}
use Rattle.lx_model.specs.Program.{Home, annotation_or_none, home_of, home_of_entry, home_or_kernel, is_in}
use Rattle.lx_model.specs.State.{State}
use Rattle.lx_run_laws.specs.Listed.{has_homes, is_of_program}
use Rattle.lx_run_laws.proofs.Given.{IsCounted, OrKernel}
use Rattle.lx_run_laws.proofs.Names.{HasGrown, grows, named_below, one_more, same_names}
use Rattle.lx_model.proofs.Homes.{home_is}

-- the module of a function is one of the program's

below_by : (p : Program) (k m : ℕ) → Some (Some k) ≡ Some (Some m) → nat_lt k (length p.modules) ≡ true → m < length p.modules
below_by p k m same less = let is : k ≡ m = cc in subst (λ n. n < length p.modules) is (grind (arith, nat_tests, less))

within_by : (p : Program) (m : ℕ) (o : Option ProgramFunction) → home_of_entry o ≡ Some (Some m) → ((e : ProgramFunction) → o ≡ Some e → is_of_program p e ≡ true) → m < length p.modules
within_by p m None is all = absurd (cc)
within_by p m (Some (Native k)) is all = absurd (cc)
within_by p m (Some (Of None f)) is all = absurd (cc)
within_by p m (Some (Of (Some k) f)) is all = below_by p k m is (all (Of (Some k) f) refl)

home_within : (p : Program) (n m : ℕ) → home_of p n ≡ Some (Some m) → has_homes p ≡ true → m < length p.modules
home_within p n m is homes = within_by p m (slice_get p.functions n) is (λ e at. all_at (is_of_program p) p.functions n e homes at)

-- the principal is the kernel's or is there, where functions are of the program
abbrev pub IsKnown : Program → Namings → Principal → Type 0
IsKnown p names q = has_homes p ≡ true → OrKernel (IsCounted p names) q

-- as whom a function runs, and the names behind it
pub record RunningFits (p : Program) (old : Namings) (n : ℕ) (r : Running) : Type 0 where
  pub text : text_of_principal r.principal ≡ home_or_kernel p n
  pub known : IsKnown p r.names r.principal
  pub numbered : IsNumbered r.names
  pub grown : HasGrown old r.names

abbrev pub FoundFits : Program → Namings → ℕ → Found Running → Type 0
FoundFits p old n (Err at) = ⊤
FoundFits p old n (Ok r) = RunningFits p old n r

instance_fits : (p : Program) (names : Namings) (n m v : ℕ) (o : Option ℕ) → named names m v ≡ o → Some m ≡ home_or_kernel p n → (has_homes p ≡ true → m < length p.modules) → IsNumbered names
    → RunningFits p names n (instance_of names m v o)
instance_fits p names n m v (Some k) is home within numbered =
    record { text = home; known = λ homes. (within homes, named_below names m v k numbered is); numbered = numbered; grown = same_names names }
instance_fits p names n m v None is home within numbered = record {
  text = home;
  known = λ homes. (within homes, one_more names m v);
  numbered = (omega arith, numbered);
  grown = grows (new_instance names m v) names;
}

valued : (p : Program) (names : Namings) (n m : ℕ) (found : Found ℕ) → Some m ≡ home_or_kernel p n → (has_homes p ≡ true → m < length p.modules) → IsNumbered names
    → FoundFits p names n (and_then found (λ v. Ok (instance_named names m v)))
valued p names n m (Err at) home within numbered = tt
valued p names n m (Ok v) home within numbered = instance_fits p names n m v (named names m v) refl home within numbered

by_fits : (p : Program) (s : State) (n m : ℕ) (args : List Word) (o : Option Who) → Some m ≡ home_or_kernel p n → (has_homes p ≡ true → m < length p.modules) → IsNumbered s.names
    → FoundFits p s.names n (runs_by s m args o)
by_fits p s n m args None home within numbered = record { text = home; known = within; numbered = numbered; grown = same_names s.names }
by_fits p s n m args (Some who.Shared) home within numbered = record { text = home; known = within; numbered = numbered; grown = same_names s.names }
by_fits p s n m args (Some who.Global) home within numbered = record { text = home; known = within; numbered = numbered; grown = same_names s.names }
by_fits p s n m args (Some (who.Value e)) home within numbered =
    valued p s.names n m (value (load64 s.memory) (record { args = args; ret = None }) e) home within numbered

in_fits : (p : Program) (s : State) (n : ℕ) (args : List Word) (o : Option Home) → home_of p n ≡ o → IsNumbered s.names → FoundFits p s.names n (runs_in p s n args o)
in_fits p s n args None is numbered = record { text = sym (ap (λ o. unwrap_or o None) is); known = λ homes. tt; numbered = numbered; grown = same_names s.names }
in_fits p s n args (Some None) is numbered = record { text = sym (ap (λ o. unwrap_or o None) is); known = λ homes. tt; numbered = numbered; grown = same_names s.names }
in_fits p s n args (Some (Some m)) is numbered =
    by_fits p s n m args (annotation_or_none p n).principal (sym (ap (λ o. unwrap_or o None) is)) (home_within p n m is) numbered

-- a call by an address stays in its text, or does not
if_fits : (p : Program) (s : State) (caller : Principal) (n : ℕ) (args : List Word) (b : Bool) → is_in p (text_of_principal caller) n ≡ b → IsKnown p s.names caller → IsNumbered s.names
    → FoundFits p s.names n (if b then Ok (record { principal = caller; names = s.names }) else runs_in p s n args (home_of p n))
if_fits p s caller n args true is known numbered =
    record { text = sym (home_is p (text_of_principal caller) n is); known = known; numbered = numbered; grown = same_names s.names }
if_fits p s caller n args false is known numbered = in_fits p s n args (home_of p n) refl numbered

pub runs_fit : (p : Program) (s : State) (caller : Principal) (way : Way) (n : ℕ) (args : List Word) → IsKnown p s.names caller → IsNumbered s.names
    → FoundFits p s.names n (runs_as p s caller way n args)
runs_fit p s caller (Script f) n args known numbered = in_fits p s n args (home_of p n) refl numbered
runs_fit p s caller (Direct f) n args known numbered = in_fits p s n args (home_of p n) refl numbered
runs_fit p s caller (Indirect a) n args known numbered = if_fits p s caller n args (is_in p (text_of_principal caller) n) refl known numbered
runs_fit p s caller (Slot at ty) n args known numbered = in_fits p s n args (home_of p n) refl numbered
