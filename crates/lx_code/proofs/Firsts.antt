-- Maps of what stands first.
use Rattle.std.proofs.Common.{◌≡◌, ◌∙◌, ap, ℕ, ◌+◌, ◌&&◌, nat_eq, [], ◌∷◌}
use Rattle.lx_words.proofs.Tests.{nat_turned}
use Rattle.lx_model.specs.declared.program.ProgramFunction.TheVariants.{Of}
use Rattle.lx_model.specs.Program.{Home, is_entry, same_home}
use Rattle.lx_code.specs.Places.{same_key}
use Rattle.lx_model.proofs.Homes.{home_turned, home_same}

-- an entry's key is the one at which it is an entry
pub key_of_entry : (home other : Home) (g f : ℕ) → same_key (home, g) (other, f) ≡ is_entry other f (Of home g)
key_of_entry home other g f =
    let a = home_turned home other in
    let b = nat_turned g f in
    λ j. a j && b j

pub key_of_global : (home other : Home) (g f : ℕ) → same_key (home, g) (other, f) ≡ (same_home home other && nat_eq g f)
key_of_global home other g f = ap (λ b. b && nat_eq g f) (home_same home other)
