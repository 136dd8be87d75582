-- What is appended behind pieces.
use Rattle.std.proofs.Common.{◌≡◌, ℕ, List, [], ◌++◌}
use Rattle.std.proofs.lemmas.List.{append_assoc}

pub joined_behind : (o a b c x y : List ℕ) → x ≡ o ++ (a ++ (b ++ (c ++ []))) → x ++ y ≡ o ++ (((a ++ b) ++ c) ++ y)
joined_behind o a b c x y p = simp (p, append_assoc)
