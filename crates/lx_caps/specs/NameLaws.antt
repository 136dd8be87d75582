-- What names mean, in the words of the newest and the oldest act.
use Rattle.std.specs.Prelude.{◌≡◌, ◌↔◌, ℕ, suc, ◌<◌, ◌≤◌, Bool, true, false, ◌&&◌, nat_eq, IsTrue, Some, None, [], ◌∷◌, ◌++◌}
use Rattle.std.specs.List.{list_any}
use Rattle.lx_caps.specs.declared.Naming.{Naming}
use Rattle.lx_caps.specs.Names.{Namings, named, instance_count, first_name, new_instance}

-- the act gives the name to an instance of the module
abbrev pub gives_name : ℕ → ℕ → Naming → Bool
gives_name m v act = nat_eq act.module m && nat_eq act.value v

-- the act names this instance of the module
abbrev pub names_instance : ℕ → ℕ → Naming → Bool
names_instance m k act = nat_eq act.module m && nat_eq act.instance k

-- no act of these passes the test
abbrev pub NonePasses : (Naming → Bool) → Namings → Type 0
NonePasses p [] = Unit {0}
NonePasses p (act ∷ acts) = (p act ≡ false) × NonePasses p acts

-- the act passes the test, and no newer one does
pub record IsNewest (p : Naming → Bool) (acts : Namings) (act : Naming) : Type 0 where
  pub newer : Namings
  pub older : Namings
  pub stands : acts ≡ newer ++ act ∷ older
  pub passes : p act ≡ true
  pub alone : NonePasses p newer

-- the act passes the test, and no older one does
pub record IsOldest (p : Naming → Bool) (acts : Namings) (act : Naming) : Type 0 where
  pub newer : Namings
  pub older : Namings
  pub stands : acts ≡ newer ++ act ∷ older
  pub passes : p act ≡ true
  pub alone : NonePasses p older

-- each act names an instance that its module had, or makes the module's next one
abbrev pub IsNumbered : Namings → Type 0
IsNumbered [] = Unit {0}
IsNumbered (act ∷ acts) = (act.instance ≤ instance_count acts act.module) × IsNumbered acts

pub record NameLaws : Type 0 where
  -- a name is the instance's of the newest act that gives it
  pub by_newest : (acts : Namings) (m v k : ℕ) → (named acts m v ≡ Some k) ↔ ((act : Naming) × (act.instance ≡ k) × IsNewest (gives_name m v) acts act)
  -- it names nobody exactly where no act gives it
  pub unnamed : (acts : Namings) (m v : ℕ) → (named acts m v ≡ None) ↔ NonePasses (gives_name m v) acts
  -- an instance's first name is the value of its oldest act
  pub by_oldest : (acts : Namings) (m k v : ℕ) → (first_name acts m k ≡ Some v) ↔ ((act : Naming) × (act.value ≡ v) × IsOldest (names_instance m k) acts act)
  -- there is none exactly where no act names the instance
  pub no_first : (acts : Namings) (m k : ℕ) → (first_name acts m k ≡ None) ↔ NonePasses (names_instance m k) acts
  -- the instances of a module are those with the numbers below their count
  pub counted : (acts : Namings) (m k : ℕ) → IsNumbered acts → IsTrue (list_any (names_instance m k) acts) ↔ (k < instance_count acts m)
  -- a new instance has as its number how many there were, and then there is one more
  pub numbered : (acts : Namings) (m v : ℕ) → (new_instance acts m v).instance ≡ instance_count acts m
  pub one_more : (acts : Namings) (m v : ℕ) → instance_count (new_instance acts m v ∷ acts) m ≡ suc (instance_count acts m)
