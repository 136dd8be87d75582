-- What a bound allows.
use Rattle.std.specs.Prelude.{◌≡◌, ℕ, Bool, true, Option, Some, None, ◌↔◌}
use Rattle.lx_model.specs.declared.program.Program.{Program}
use Rattle.lx_surface.specs.declared.Thing.{Thing}
use Rattle.lx_surface.specs.declared.Thing.TheVariants.{RefType, Function}
use Rattle.lx_surface.specs.Reach.{Can}
use Rattle.lx_surface.specs.declared.limits.Bound.{Bound}
use Rattle.lx_surface.specs.Pairs.{has_pair, with_pair}

abbrev pub allows : Bound → ℕ → Thing → Bool
allows b m (RefType t) = has_pair b.references m t
allows b m (Function g) = has_pair b.functions m g

-- the bound with one thing more
abbrev pub with_thing : Bound → ℕ → Thing → Bound
with_thing b m (RefType t) = record b { references = with_pair b.references m t }
with_thing b m (Function g) = record b { functions = with_pair b.functions m g }

-- it allows just what modules of the program can come to hold
abbrev pub IsExact : Program → Bound → Type 0
IsExact p b = (m : ℕ) (x : Thing) → (allows b m x ≡ true) ↔ Can p m x
