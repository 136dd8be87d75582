-- What the laws of a pool say of a node that a walk has come to.
use Rattle.std.proofs.Common.{◌≡◌, ℕ, true, List, ◌∷◌, map, Some}
use Rattle.lx_cap_nodes.specs.declared.pool.Family.TheVariants as family
use Rattle.lx_cap_nodes.specs.declared.pool.ListName.{ListName}
use Rattle.lx_cap_nodes.specs.declared.pool.ListName.TheVariants as name
use Rattle.lx_cap_nodes.specs.Names.{first_of, next_in, Apart}
use Rattle.lx_cap_nodes.specs.Pool.{Pool}
use Rattle.lx_cap_nodes.specs.Words.{names, nodes_at, nodes_of, lists_in, is_live, value_in, PoolLaws}
use Rattle.lx_cap_lists.specs.Lists.{family_of}
use Rattle.lx_cap_lists.specs.Walks.{from, HasCome}
use Rattle.lx_cap_lists.proofs.WalkLemmas.{here_is, split_at}

module _ {T : Type 0} where
  pub record IsAt (p : Pool T) (list : ListName) (n : ℕ) : Type 0 where
    pub v : T
    pub ys : List (ℕ × T)
    pub is : from (Some n) (nodes_of list p) ≡ (n, v) ∷ ys
    pub live : is_live p n ≡ true
    pub value : value_in n p.places ≡ Some v
    pub next : next_in n (map names (lists_in (family_of list) p)) ≡ first_of (names ys)

  pub apart_of : (p : Pool T) (list : ListName) → PoolLaws p → Apart (names (nodes_of list p))
  apart_of p (name.Place l) laws = laws.apart family.Place l
  apart_of p (name.Owner l) laws = laws.apart family.Owner l

  pub is_at : (p : Pool T) (list : ListName) (n : ℕ) → PoolLaws p → HasCome (nodes_of list p) (Some n) → IsAt p list n
  is_at p (name.Place l) n laws come =
      let h = here_is (nodes_at p.places l) n come in
      let at = laws.at_node family.Place l come.front n h.0 h.1 (split_at (nodes_at p.places l) n h.0 h.1 come h.2) in
      record { v = h.0; ys = h.1; is = h.2; live = at.live; value = at.value; next = at.next }
  is_at p (name.Owner l) n laws come =
      let h = here_is (nodes_at p.owners l) n come in
      let at = laws.at_node family.Owner l come.front n h.0 h.1 (split_at (nodes_at p.owners l) n h.0 h.1 come h.2) in
      record { v = h.0; ys = h.1; is = h.2; live = at.live; value = at.value; next = at.next }
