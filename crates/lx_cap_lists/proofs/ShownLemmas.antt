-- What holds of a pool of nodes holds of what is shown of it.
use Rattle.std.proofs.Common.{◌≡◌, ◌≢◌, ℕ, true, false, List, ◌∷◌, ◌++◌}
use Rattle.lx_cap_nodes.specs.declared.pool.Family.{Family}
use Rattle.lx_cap_nodes.specs.declared.pool.Family.TheVariants as family
use Rattle.lx_cap_nodes.specs.Names.{has, Apart}
use Rattle.lx_cap_nodes.specs.Pool.{Pool}
use Rattle.lx_cap_nodes.specs.Words.{names, nodes_at, lists_in, AtNode, PoolLaws}
use Rattle.lx_cap_lists.specs.declared.entry.Entry.{Entry}
use Rattle.lx_cap_lists.specs.Index.{shown}

module _ (nodes : Pool Entry) (room : ℕ) (laws : PoolLaws nodes) where
  apart_shown : (f : Family) (l : ℕ) → Apart (names (nodes_at (lists_in f (shown nodes room)) l))
  apart_shown family.Place l = laws.apart family.Place l
  apart_shown family.Owner l = laws.apart family.Owner l

  alone_shown : (f : Family) (l k n : ℕ) → has n (names (nodes_at (lists_in f (shown nodes room)) l)) ≡ true → k ≢ l → has n (names (nodes_at (lists_in f (shown nodes room)) k)) ≡ false
  alone_shown family.Place l k n h ne = laws.alone family.Place l k n h ne
  alone_shown family.Owner l k n h ne = laws.alone family.Owner l k n h ne

  at_shown : (f : Family) (l : ℕ) (xs : List (ℕ × Entry)) (n : ℕ) (v : Entry) (ys : List (ℕ × Entry)) → nodes_at (lists_in f (shown nodes room)) l ≡ xs ++ (n, v) ∷ ys → AtNode (shown nodes room) f l xs n v ys
  at_shown family.Place l xs n v ys is =
      let at = laws.at_node family.Place l xs n v ys is in
      record { live = at.live; value = at.value; next = at.next; gone = at.gone; gone_elsewhere = at.gone_elsewhere; written = at.written; written_elsewhere = at.written_elsewhere }
  at_shown family.Owner l xs n v ys is =
      let at = laws.at_node family.Owner l xs n v ys is in
      record { live = at.live; value = at.value; next = at.next; gone = at.gone; gone_elsewhere = at.gone_elsewhere; written = at.written; written_elsewhere = at.written_elsewhere }

  pub laws_shown : PoolLaws (shown nodes room)
  laws_shown = record { apart = apart_shown; alone = alone_shown; alike = laws.alike; at_node = at_shown }
