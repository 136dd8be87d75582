-- How the tables are kept.
use Rattle.std.specs.Prelude.{◌≡◌, ℕ, ◌+◌, ◌-◌, ◌^◌, ◌<◌, ◌≤◌, Bool, true, false, nat_eq, List, ◌∷◌, length}
use Rattle.lx_caps.specs.History.{History}
use Rattle.lx_caps.specs.declared.Act.{Act}
use Rattle.lx_caps.specs.declared.Atom.{Atom}
use Rattle.lx_caps.specs.Placed.{AllPlaced, is_placed_act}
use Rattle.lx_cap_nodes.specs.Pool.{Pool}
use Rattle.lx_cap_lists.specs.declared.entry.Entry.{Entry}
use Rattle.lx_cap_lists.specs.Holders.{had, left_by, open_count}
use Rattle.lx_cap_lists.specs.declared.holder.Holder.{Holder}
use Rattle.lx_cap_lists.specs.Loans.{loans_of}
use Rattle.lx_cap_lists.specs.Tables.{Key, AreEmpty, Shows, is_in_order}
use Rattle.lx_cap_lists.specs.Kept.{AreAll, AllNodes}

-- what contracts see of the tables
pub record Tables : Type 0 where
  pub pool : Pool Entry
  -- the owners and the loans that have a list, and the calls and references that have one
  pub owners : List Key
  pub atoms : List Key
  -- how many loans of each thread have not ended
  pub loans : List ℕ
  -- how many more owners there are lists for, and how many more calls and references
  pub owner_room : ℕ
  pub atom_room : ℕ
  -- the room that acts take from: what was promised
  pub spare : ℕ

abbrev pub shown : Pool Entry → List Key → List Key → ℕ → ℕ → List ℕ → ℕ → Tables
shown pool owners atoms owner_lists place_lists loans promised = record {
  pool = pool;
  owners = owners;
  atoms = atoms;
  loans = loans;
  owner_room = owner_lists - length owners;
  atom_room = place_lists - 0xc000 - length atoms;
  spare = promised;
}

pub record IsSound (pool : Pool Entry) (owners atoms : List Key) (owner_keys atom_keys owner_lists place_lists : ℕ) (loans : List ℕ) (deepest promised : ℕ) : Type 0 where
  pub owner_count : length pool.owners ≡ owner_lists
  pub place_count : length pool.places ≡ place_lists
  pub owner_has_room : owner_lists ≤ length owners + owner_keys
  pub atom_has_room : place_lists ≤ 0xc000 + length atoms + atom_keys
  -- what was promised is there
  pub node_fit : promised ≤ pool.spare
  pub owner_fit : length owners + promised ≤ owner_lists
  pub atom_fit : 0xc000 + length atoms + promised ≤ place_lists
  pub loan_fit : deepest + promised < 2 ^ 64
  -- the loans of each thread, and the most that there were of one
  pub threads : length loans ≡ 16
  pub deep : (t : ℕ) → loans_of loans t ≤ deepest
  pub empty : AreEmpty pool.places atoms
  pub in_order : AreAll (is_in_order owners atoms loans) pool
  pub nodes : AllNodes pool.places

-- the act ends the loans of the thread that have so many older ones or more
pub record IsEnd (h : History) (act : Act) (t first : ℕ) : Type 0 where
  pub placed : is_placed_act act ≡ true
  pub had_then : (among : Holder → Bool) (x : Atom) → had among (act ∷ h) x ≡ had (left_by t first among) h x
  pub here : open_count (act ∷ h) t ≡ first
  pub others : (u : ℕ) → nat_eq t u ≡ false → open_count (act ∷ h) u ≡ open_count h u

-- the tables show exactly what the history says
unfoldable pub StandsFor : Tables → History → Type 0
StandsFor t h = AllPlaced h × Shows t.pool.places t.atoms h × ((u : ℕ) → u < 16 → loans_of t.loans u ≡ open_count h u)

-- what was granted, lent and stripped lies in memory
pub placed_of : (t : Tables) (h : History) → StandsFor t h → AllPlaced h
unfolding StandsFor
placed_of t h stands = stands.0
