-- Of names that are distinct, so are those of a part.
use Rattle.std.proofs.Common.{◌≡◌, ℕ, ◌+◌, true, List, [], ◌∷◌, ◌++◌}
use Rattle.std.specs.Prelude.{not, bytes_eq}
use Rattle.std.specs.List.{list_any}
use Rattle.std.proofs.lemmas.Bool.{and_parts}
use Rattle.lx_ir.specs.Lawful.{is_distinct}

pub distinct_behind : (xs ys : List (List ℕ)) → is_distinct (xs ++ ys) ≡ true → is_distinct ys ≡ true
distinct_behind [] ys h = h
distinct_behind (x ∷ xs) ys h = distinct_behind xs ys (and_parts (not (list_any (bytes_eq x) (xs ++ ys))) (is_distinct (xs ++ ys)) h).1
