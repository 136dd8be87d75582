-- Instances are numbered below their module's count, which only grows.
use Rattle.std.proofs.Common.{◌≡◌, ℕ, suc, ◌<◌, ◌≤◌, Bool, true, false, ◌&&◌, nat_eq, Option, Some, [], ◌∷◌, ◌++◌, refl, sym, subst, if◌then◌else◌, arith}
use Rattle.std.proofs.lemmas.Bool.{eqb-true, eqb-false, eq-eqb, cond_both}
use Rattle.lx_words.proofs.Options.{some_is}
use Rattle.lx_caps.specs.declared.Naming.{Naming}
use Rattle.lx_caps.specs.NameLaws.{IsNumbered}
use Rattle.lx_caps.specs.Names.{Namings, named, new_instance, instance_count}
use Rattle.lx_caps.proofs.Tests.{counts_up}

-- acts have come in front of the old ones
pub record HasGrown (old new : Namings) : Type 0 where
  pub more : Namings
  pub is : new ≡ more ++ old

pub same_names : (acts : Namings) → HasGrown acts acts
same_names acts = record { more = []; is = refl }

pub grows : (act : Naming) (acts : Namings) → HasGrown acts (act ∷ acts)
grows act acts = record { more = act ∷ []; is = refl }

behind_acts : (more acts : Namings) (m : ℕ) → instance_count acts m ≤ instance_count (more ++ acts) m
behind_acts [] acts m = omega arith
behind_acts (act ∷ more) acts m =
    let before = behind_acts more acts m in
    let now = counts_up (nat_eq act.module m && nat_eq act.instance (instance_count (more ++ acts) m)) (instance_count (more ++ acts) m) in
    omega (arith, before, now)

-- so no module has fewer instances
pub counts_grow : (old new : Namings) (m : ℕ) → HasGrown old new → instance_count old m ≤ instance_count new m
counts_grow old new m grown = subst (λ acts. instance_count old m ≤ instance_count acts m) (sym grown.is) (behind_acts grown.more old m)

-- an act's own instance is below the count behind it
own_below : (i n : ℕ) → i ≤ n → i < (if nat_eq i n then suc n else n)
own_below i n most =
    cond_both (nat_eq i n) (suc n) n (λ (c : ℕ). i < c) (λ same. omega (arith, most)) (λ other. let apart = eqb-false i n other in omega (arith, most, apart))

below_step : (here now : Bool) (i n k : ℕ) (older : Option ℕ) → (here ≡ true → i ≤ n) → (older ≡ Some k → k < n) → (if here && now then Some i else older) ≡ Some k
    → k < (if here && nat_eq i n then suc n else n)
below_step false now i n k older most before is = before is
below_step true true i n k older most before is = subst (λ (j : ℕ). j < (if nat_eq i n then suc n else n)) (some_is i k is) (own_below i n (most refl))
below_step true false i n k older most before is = let less = before is in let more = counts_up (nat_eq i n) n in omega (arith, less, more)

-- what a name names is there
pub named_below : (acts : Namings) (m v k : ℕ) → IsNumbered acts → named acts m v ≡ Some k → k < instance_count acts m
named_below [] m v k numbered is = absurd (cc)
named_below (act ∷ acts) m v k numbered is =
    below_step (nat_eq act.module m) (nat_eq act.value v) act.instance (instance_count acts m) k (named acts m v)
    (λ same. subst (λ (n : ℕ). act.instance ≤ instance_count acts n) (eqb-true act.module m same) numbered.0) (named_below acts m v k numbered.1) is

new_below : (n m : ℕ) → n < (if nat_eq m m && nat_eq n n then suc n else n)
new_below n m =
    subst (λ (b : Bool). n < (if b && nat_eq n n then suc n else n)) (sym (eq-eqb m m refl)) (own_below n n (omega arith))

-- a new instance is below the count behind it
pub one_more : (acts : Namings) (m v : ℕ) → instance_count acts m < instance_count (new_instance acts m v ∷ acts) m
one_more acts m v = new_below (instance_count acts m) m
