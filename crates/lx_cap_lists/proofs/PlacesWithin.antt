-- Places of atoms lie within the tables.
use Rattle.std.proofs.Common.{◌≡◌, ℕ, ◌<◌, Some, List, length, arith, refl, ◌+◌, Option, None, ◌/◌}
use Rattle.lx_cap_lists.specs.Tables.{Key, same_key, place_in, behind_parts, call_key, ref_key, place_of}
use Rattle.lx_cap_lists.proofs.KeyLemmas.{found_within}
use Rattle.lx_caps.specs.declared.Atom.{Atom}
use Rattle.lx_cap_nodes.proofs.PartLists.{list_below}
use Rattle.lx_caps.specs.declared.Atom.TheVariants as atom

pub list_within : (atoms : List Key) (k : Key) (i : ℕ) → place_in atoms k ≡ Some i → i < length atoms
list_within atoms k i e = let h = (found_within (same_key k) 0 atoms i e).1 in omega (arith, h)

pub behind_within : (atoms : List Key) (k : Key) (l : ℕ) → behind_parts (place_in atoms k) ≡ Some l → l < 0xc000 + length atoms
behind_within atoms k l e = by (place_in atoms k) refl e
  where
    by : (o : Option ℕ) → place_in atoms k ≡ o → behind_parts o ≡ Some l → l < 0xc000 + length atoms
    by None p f = absurd cc
    by (Some i) p f = let is : 0xc000 + i ≡ l = cc in let h = list_within atoms k i p in omega (arith, is, h)

pub place_within : (atoms : List Key) (x : Atom) (l : ℕ) → place_of atoms x ≡ Some l → l < 0xc000 + length atoms
place_within atoms (atom.Byte b) l e = let h = list_below (b / 64) l e in omega (arith, h)
place_within atoms (atom.Call a) l e = behind_within atoms (call_key a) l e
place_within atoms (atom.Ref t a) l e = behind_within atoms (ref_key t a) l e
