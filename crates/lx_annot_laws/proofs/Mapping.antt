-- What a rule says, changed in a way.
use Rattle.std.proofs.Common.{◌≡◌, List, Ok, refl}
use Rattle.lx_annot_expressions.specs.Tokens.{Tok}
use Rattle.lx_annot_expressions.specs.Reading.{Read, ◌>>=◌}

abbrev pub mapped : {A B : Type 0} → (A → B) → Read A → Read B
mapped f r = r >>= λ c. Ok (f c.0, c.1)

pub mapped_is : {A B : Type 0} (f : A → B) (r : Read A) (x : A) (us : List Tok) → r ≡ Ok (x, us) → mapped f r ≡ Ok (f x, us)
mapped_is f r x us e = rw e refl
