-- Names that stand once in a table, and their numbers.
use Rattle.std.proofs.Common.{◌≡◌, ◌∙◌, ℕ, ◌≤◌, ◌<◌, Option, Some, None, List, [], slice_get, refl, ap, true≢false}
use Rattle.lx_ir_tokens.specs.Names.{number_of}
use Rattle.lx_ir_lawful.proofs.NameNumbers.{nowhere, named}
use Rattle.lx_ir_lawful.specs.NamedThings.{AreOnce}

number_by : (names : List (List ℕ)) → AreOnce names → (n : ℕ) (name : List ℕ) (o : Option ℕ) → number_of names name ≡ o → slice_get names n ≡ Some name → o ≡ Some n
number_by names once n name (Some k) e at = ap Some (once k n name (named names name k e) at)
number_by names once n name None e at = absurd (nowhere names name n e at)

-- the number of the name at a place
pub number_at_place : (names : List (List ℕ)) → AreOnce names → (n : ℕ) (name : List ℕ) → slice_get names n ≡ Some name → number_of names name ≡ Some n
number_at_place names once n name at = number_by names once n name (number_of names name) refl at
