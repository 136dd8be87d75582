-- A schedule that is broken nowhere is whole.
use Rattle.std.proofs.Common.{◌≡◌, refl, ℕ, suc, Bool, true, false, List, [], ◌∷◌, Option, Some, None, option_map, if◌then◌else◌}
use Rattle.lx_model.specs.declared.program.Program.{Program}
use Rattle.lx_model.specs.World.{World, event, can_act, is_done, is_whole}
use Rattle.lx_runs.specs.Reports.{broken_at}

-- the entry of a test and of what is broken behind it
abbrev pub entry_if : Bool → Option ℕ → Option ℕ
entry_if b rest = if b then option_map suc rest else Some 0

abbrev pub end_if : Bool → Option ℕ
end_if b = if b then None else Some 0

no_entry : (b : Bool) (rest : Option ℕ) → entry_if b rest ≡ None → (b ≡ true) × (rest ≡ None)
no_entry true None is = (refl, refl)
no_entry true (Some k) is = absurd cc
no_entry false rest is = absurd cc

no_end : (b : Bool) → end_if b ≡ None → b ≡ true
no_end true is = refl
no_end false is = absurd cc

pub unbroken_whole : (p : Program) (s : List ℕ) (w : World) → broken_at p s w ≡ None → is_whole p s w ≡ true
unbroken_whole p [] w is = no_end (is_done w) is
unbroken_whole p (t ∷ ts) w is =
    let both = no_entry (can_act w t) (broken_at p ts (event p t w)) is in
    rw both.0 (unbroken_whole p ts (event p t w) both.1)
