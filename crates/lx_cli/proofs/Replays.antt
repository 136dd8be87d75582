-- A schedule that is whole is broken nowhere.
use Rattle.std.proofs.Common.{◌≡◌, ap, refl, ℕ, suc, true, List, [], ◌∷◌, None, option_map}
use Rattle.std.proofs.lemmas.Bool.{and_parts}
use Rattle.lx_model.specs.declared.program.Program.{Program}
use Rattle.lx_model.specs.World.{World, event, can_act, is_whole}
use Rattle.lx_runs.specs.Reports.{broken_at}

pub whole_unbroken : (p : Program) (s : List ℕ) (w : World) → is_whole p s w ≡ true → broken_at p s w ≡ None
whole_unbroken p [] w whole = rw whole refl
whole_unbroken p (t ∷ ts) w whole =
    let both = and_parts (can_act w t) (is_whole p ts (event p t w)) whole in
    rw both.0 (ap (option_map suc) (whole_unbroken p ts (event p t w) both.1))
