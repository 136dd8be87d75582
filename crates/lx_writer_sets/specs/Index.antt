-- The table that finds the node of a writer in the list of a part.
use Rattle.std.specs.Prelude.{◌≡◌, ℕ, Bool, ◌&&◌, nat_eq, List, [], ◌∷◌, Option, None, Some, if◌then◌else◌}
use Rattle.std.specs.Map.{lookup}
use Rattle.lx_caps.specs.declared.Principal.{Principal}
use Rattle.lx_caps.specs.History.{same_principal}
use Rattle.lx_caps.specs.Precedence.{module_rank, rank_in_module}
use Rattle.lx_cap_nodes.specs.Words.{nodes_at}
use Rattle.lx_writer_sets.specs.declared.entry.Entry.{Entry}

-- the number of a part's list, and the two numbers that a principal is ordered by
abbrev pub Key : Type 0
Key = ℕ × (ℕ × ℕ)

abbrev pub key_of : ℕ → Principal → Key
key_of list q = (list, (module_rank q, rank_in_module q))

abbrev pub same_key : Key → Key → Bool
same_key x y = nat_eq x.0 y.0 && (nat_eq x.1.0 y.1.0 && nat_eq x.1.1 y.1.1)

-- the node that stands at the key
abbrev pub node_at : List (Key × ℕ) → Key → Option ℕ
node_at entries key = lookup (same_key key) entries

-- the same where the key has this node, or none, and each other key what it had
abbrev pub node_once : Key → Option ℕ → List (Key × ℕ) → Key → Option ℕ
node_once key node entries other = if same_key key other then node else node_at entries other

-- the node of the writer in a list
abbrev pub node_in : Principal → List (ℕ × Entry) → Option ℕ
node_in q [] = None
node_in q (e ∷ es) = if same_principal q e.1.writer then Some e.0 else node_in q es

-- for each list and each principal the table has the node of that writer in the list, and nothing where it has none
unfoldable pub AreIndexed : List (Key × ℕ) → List (List (ℕ × Entry)) → Type 0
AreIndexed entries lists = (l : ℕ) (q : Principal) → node_at entries (key_of l q) ≡ node_in q (nodes_at lists l)
