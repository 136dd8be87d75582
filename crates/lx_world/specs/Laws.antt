-- What an account lists of what a principal owns, in the words of atoms.
use Rattle.std.specs.Prelude.{◌≡◌, ℕ, List, map}
use Rattle.lx_caps.specs.declared.Principal.{Principal}
use Rattle.lx_caps.specs.declared.Cap.TheVariants as cap
use Rattle.lx_caps.specs.declared.Atom.TheVariants as atom
use Rattle.lx_caps.specs.History.{History, owns}
use Rattle.lx_caps.specs.Ranges.{IsRanges}
use Rattle.lx_model.specs.Owned.{owned_ranges, owned_calls, owned_refs}
use Rattle.lx_world.specs.Listing.{IsListing}

pub record OwnedLaws : Type 0 where
  -- the ranges are the greatest ones of owned bytes, ascending, and no owned byte is left out
  pub ranges : (h : History) (q : Principal) → IsRanges (λ b. owns h q (atom.Byte b)) 0 (owned_ranges h q)
  -- the calls are those of the owned addresses, ascending
  pub calls : (h : History) (q : Principal) → (ns : List ℕ) × (owned_calls h q ≡ map cap.Call ns) × IsListing (λ a. owns h q (atom.Call a)) 0 ns
  -- so are the references of each type
  pub refs : (h : History) (q : Principal) (ty : ℕ) → (ns : List ℕ) × (owned_refs h q ty ≡ map (cap.Ref ty) ns) × IsListing (λ a. owns h q (atom.Ref ty a)) 0 ns
