-- The end of the loans that actions open.
use Rattle.std.proofs.Common.{◌≡◌, ℕ, zero, suc, true, false, List, [], ◌∷◌, ◌++◌, length, refl, sym, arith}
use Rattle.std.specs.Prelude.{count_by, filter, nat_lt}
use Rattle.std.proofs.lemmas.List.{append-nil}
use Rattle.std.proofs.lemmas.List.Sums.{length-filter}
use Rattle.std.proofs.lemmas.Bool.Decides.{nat_tests}
use Rattle.lx_annot.specs.Action.{Action, End, is_lend, end_of}

pub lends_counted : (actions : List Action) → count_by is_lend actions ≡ length (filter is_lend actions)
lends_counted actions = sym (length-filter is_lend actions)

pub end_none : (actions : List Action) (n : ℕ) → nat_lt 0 n ≡ false → actions ≡ actions ++ end_of n
end_none actions zero h = sym (append-nil actions)
end_none actions (suc n) h = absurd (grind (arith, nat_tests, h))

pub end_some : (n : ℕ) → nat_lt 0 n ≡ true → end_of n ≡ End n ∷ []
end_some zero h = absurd (grind (arith, nat_tests, h))
end_some (suc n) h = refl
