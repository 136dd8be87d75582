-- What the laws of a pool say of a node that a walk has come to.
use Rattle.std.proofs.Common.{◌≡◌, ℕ, true, List, ◌∷◌, map, Some}
use Rattle.lx_cap_nodes.specs.declared.pool.Family.TheVariants.{Place}
use Rattle.lx_cap_nodes.specs.Names.{first_of, next_in}
use Rattle.lx_cap_nodes.specs.Pool.{Pool}
use Rattle.lx_cap_nodes.specs.Words.{names, nodes_at, is_live, value_in, PoolLaws}
use Rattle.lx_writer_sets.specs.Walks.{from, HasCome}
use Rattle.lx_writer_sets.proofs.WalkLemmas.{here_is, split_at}

module _ {T : Type 0} where
  pub record IsAt (p : Pool T) (l n : ℕ) : Type 0 where
    pub v : T
    pub ys : List (ℕ × T)
    pub is : from (Some n) (nodes_at p.places l) ≡ (n, v) ∷ ys
    pub live : is_live p n ≡ true
    pub value : value_in n p.places ≡ Some v
    pub next : next_in n (map names p.places) ≡ first_of (names ys)

  pub is_at : (p : Pool T) (l n : ℕ) → PoolLaws p → HasCome (nodes_at p.places l) (Some n) → IsAt p l n
  is_at p l n laws come =
      let h = here_is (nodes_at p.places l) n come in
      let at = laws.at_node Place l come.front n h.0 h.1 (split_at (nodes_at p.places l) n h.0 h.1 come h.2) in
      record { v = h.0; ys = h.1; is = h.2; live = at.live; value = at.value; next = at.next }
