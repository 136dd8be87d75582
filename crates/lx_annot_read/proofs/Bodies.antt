-- Statements, one after the other, as a loop reads them.
use Rattle.std.proofs.Common.{◌≡◌, ℕ, zero, suc, ◌≤◌, ◌<◌, Option, Some, None, List, [], ◌∷◌, length, Result, Ok, Err, refl, sym, ap, ◌∙◌, subst, arith}
use Rattle.std.specs.Prelude.{slice_get}
use Rattle.lx_words.specs.declared.token.Token.{Token}
use Rattle.lx_words.specs.declared.token.Stop.{Stop}
use Rattle.lx_annot.specs.declared.interface.Interface.{Interface}
use Rattle.lx_annot_read.specs.declared.head.Version.{Version}
use Rattle.lx_annot_read.specs.declared.fault.Met.{Met}
use Rattle.lx_annot_read.specs.declared.fault.Failure.{Failure}
use Rattle.lx_annot_read.specs.declared.fault.Failure.TheVariants as failures
use Rattle.lx_annot_read.specs.Faults.{Fails}
use Rattle.lx_annot_read.specs.Texts.{next_at, body_at}

-- the first of some tokens
pub first_token : (tokens : List Token) (t : Token) → slice_get tokens 0 ≡ Some t → (more : List Token) × (tokens ≡ t ∷ more)
first_token [] t h = cc
first_token (u ∷ more) t h = let same : u ≡ t = cc in (more, ap (λ x. x ∷ more) same)

pub no_token : (tokens : List Token) → slice_get tokens 0 ≡ None → tokens ≡ []
no_token [] h = refl
no_token (u ∷ more) h = cc

module _ (text : List ℕ) (stop : Option Stop) (version : Version) where
  pub record Going (i : Interface) (rest : List Token) (total : Result Interface Met) : Type 0 where
    pub fuel : ℕ
    pub enough : length rest ≤ fuel
    pub so_far : body_at text stop version fuel i rest ≡ total

  pub begins : (i empty : Interface) (tokens : List Token) → i ≡ empty → Going i tokens (body_at text stop version (length tokens) empty tokens)
  begins i empty tokens e = record { fuel = length tokens; enough = omega arith; so_far = ap (λ x. body_at text stop version (length tokens) x tokens) e }

  turn : (n : ℕ) (i j : Interface) (t : Token) (more us : List Token) → next_at text stop version t.line i (t ∷ more) ≡ Ok (j, us) → body_at text stop version (suc n) i (t ∷ more) ≡ body_at text stop version n j us
  unfolding body_at
  turn n i j t more us h = rw h refl

  fall : (n : ℕ) (i : Interface) (t : Token) (more : List Token) (met : Met) → next_at text stop version t.line i (t ∷ more) ≡ Err met → body_at text stop version (suc n) i (t ∷ more) ≡ Err met
  unfolding body_at
  fall n i t more met h = rw h refl

  step : (n : ℕ) (i j : Interface) (t : Token) (more us : List Token) (total : Result Interface Met) → length (t ∷ more) ≤ n → body_at text stop version n i (t ∷ more) ≡ total → next_at text stop version t.line i (t ∷ more) ≡ Ok (j, us) → length us < length (t ∷ more) → Going j us total
  step zero i j t more us total le so_far h l = absurd (omega (arith, le))
  step (suc n) i j t more us total le so_far h l = record { fuel = n; enough = omega (arith, le, l); so_far = sym (turn n i j t more us h) ∙ so_far }

  -- one more statement
  pub goes_on : (i j : Interface) (t : Token) (rest us : List Token) (total : Result Interface Met) → Going i rest total → slice_get rest 0 ≡ Some t → next_at text stop version t.line i rest ≡ Ok (j, us) → length us < length rest → Going j us total
  goes_on i j t rest us total g f h l =
      let w = first_token rest t f in
      step g.fuel i j t w.0 us total (subst (λ r. length r ≤ g.fuel) w.1 g.enough) (subst (λ r. body_at text stop version g.fuel i r ≡ total) w.1 g.so_far) (subst (λ r. next_at text stop version t.line i r ≡ Ok (j, us)) w.1 h) (subst (λ r. length us < length r) w.1 l)

  stopped : (n : ℕ) (i : Interface) (t : Token) (more : List Token) (met : Met) (total : Result Interface Met) → length (t ∷ more) ≤ n → body_at text stop version n i (t ∷ more) ≡ total → next_at text stop version t.line i (t ∷ more) ≡ Err met → total ≡ Err met
  stopped zero i t more met total le so_far h = absurd (omega (arith, le))
  stopped (suc n) i t more met total le so_far h = sym so_far ∙ fall n i t more met h

  -- the next statement is at fault
  pub goes_wrong : (i : Interface) (t : Token) (rest : List Token) (e : Failure) (total : Result Interface Met) → Going i rest total → slice_get rest 0 ≡ Some t → Fails e (next_at text stop version t.line i rest) → Fails e total
  goes_wrong i t rest failures.Memory total g f h = tt
  goes_wrong i t rest (failures.Fault met) total g f h =
      let w = first_token rest t f in
      stopped g.fuel i t w.0 met total (subst (λ r. length r ≤ g.fuel) w.1 g.enough) (subst (λ r. body_at text stop version g.fuel i r ≡ total) w.1 g.so_far) (subst (λ r. next_at text stop version t.line i r ≡ Err met) w.1 h)

  done : (n : ℕ) (i : Interface) → body_at text stop version n i [] ≡ Ok i
  unfolding body_at
  done zero i = refl
  done (suc n) i = refl

  -- no further token stands there
  pub ends : (i : Interface) (rest : List Token) (total : Result Interface Met) → Going i rest total → slice_get rest 0 ≡ None → total ≡ Ok i
  ends i rest total g f = sym g.so_far ∙ ap (body_at text stop version g.fuel i) (no_token rest f) ∙ done g.fuel i
