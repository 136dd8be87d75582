-- Lists that are linked by numbers: each node keeps what stands before it and behind it in its list.
use Rattle.std.specs.Prelude.{◌≡◌, ℕ, zero, suc, ◌<◌, List, [], ◌∷◌, length, map, Option, Some, None, slice_index_or, slice_set}
use Rattle.lx_cap_nodes.specs.declared.links.Link.{Link}
use Rattle.lx_cap_nodes.specs.Names.{has, first_of, Apart}

abbrev pub at_list : List (List ℕ) → ℕ → List ℕ
at_list lists l = slice_index_or lists l []

abbrev pub no_link : Link
no_link = record { previous = None; next = None; list = 0 }

abbrev pub link_at : List Link → ℕ → Link
link_at links n = slice_index_or links n no_link

abbrev pub head_at : List (Option ℕ) → ℕ → Option ℕ
head_at heads l = slice_index_or heads l None

abbrev pub with_previous : List Link → Option ℕ → Option ℕ → List Link
with_previous links None previous = links
with_previous links (Some k) previous = slice_set links k (record { previous = previous; next = (link_at links k).next; list = (link_at links k).list })

abbrev pub with_next : List Link → Option ℕ → Option ℕ → List Link
with_next links None next = links
with_next links (Some k) next = slice_set links k (record { previous = (link_at links k).previous; next = next; list = (link_at links k).list })

-- the number, if there is one, is below the bound
abbrev pub IsWithin : Option ℕ → ℕ → Type 0
IsWithin None bound = Unit {0}
IsWithin (Some k) bound = k < bound

abbrev pub Below : ℕ → List ℕ → Type 0
Below bound [] = Unit {0}
Below bound (n ∷ ns) = (n < bound) × Below bound ns

-- these nodes stand one behind the other in the list, the first of them behind `before`
abbrev pub Fits : List Link → ℕ → Option ℕ → List ℕ → Type 0
Fits links l before [] = Unit {0}
Fits links l before (n ∷ ns) = (link_at links n ≡ record { previous = before; next = first_of ns; list = l }) × Fits links l (Some n) ns

-- the list with this first node has these nodes
pub record IsList (links : List Link) (head : Option ℕ) (l : ℕ) (ns : List ℕ) : Type 0 where
  pub first : head ≡ first_of ns
  pub fits : Fits links l None ns
  pub apart : Apart ns
  pub below : Below (length links) ns

-- the lists have these nodes
pub record IsFamily (links : List Link) (heads : List (Option ℕ)) (lists : List (List ℕ)) : Type 0 where
  pub count : length lists ≡ length heads
  pub each : (l : ℕ) → IsList links (head_at heads l) l (at_list lists l)

-- at most so many nodes, from this one on
unfoldable pub walk : List Link → ℕ → Option ℕ → List ℕ
walk links zero None = []
walk links zero (Some n) = []
walk links (suc k) None = []
walk links (suc k) (Some n) = n ∷ walk links k (link_at links n).next

-- the nodes of each list
unfoldable pub lists_of : List Link → List (Option ℕ) → List (List ℕ)
lists_of links heads = map (walk links (length links)) heads

-- the links once a node is passed over
abbrev pub passing : List Link → Link → List Link
passing links link = with_previous (with_next links link.previous link.next) link.next link.previous

-- the first nodes once a node is passed over
abbrev pub heads_passing : List (Option ℕ) → Option ℕ → ℕ → Option ℕ → List (Option ℕ)
heads_passing heads None l next = slice_set heads l next
heads_passing heads (Some previous) l next = heads
