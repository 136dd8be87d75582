-- Where there is something, there is some thing.
use Rattle.std.specs.Prelude.{◌≡◌, Option, Some, None, IsSome}
use Rattle.std.proofs.Common.{refl}

pub there : {A : Type 0} (o : Option A) → IsSome o → (x : A) × (o ≡ Some x)
there None h = absurd (cc h)
there (Some x) h = (x, refl)
