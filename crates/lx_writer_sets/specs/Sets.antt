-- Who is recorded as a writer of a byte, by lists of nodes: one list for each part of 64 bytes, in which a node is a writer
-- and a mask of bytes.
use Rattle.std.specs.Prelude.{◌≡◌, ℕ, ◌+◌, ◌*◌, ◌/◌, ◌%◌, ◌<◌, Bool, true, false, ◌&&◌, nat_eq, List, [], ◌∷◌, Option, Some, None, length}
use Rattle.std.specs.List.{list_any}
use Rattle.lx_caps.specs.declared.Principal.{Principal}
use Rattle.lx_caps.specs.History.{History, same_principal}
use Rattle.lx_caps.specs.Precedence.{follows, IsFirstPrincipal}
use Rattle.lx_caps.specs.Regions.{covers}
use Rattle.lx_caps.specs.Writers.{is_writer, is_slot_writer}
use Rattle.lx_cap_nodes.specs.Words.{nodes_at}
use Rattle.lx_cap_nodes.specs.Bits.{is_set}
use Rattle.lx_writer_sets.specs.declared.entry.Entry.{Entry}
use Rattle.lx_cap_nodes.specs.Pieces.{part_list}

-- some node says that the principal is a writer of the byte at this place of the part
abbrev pub is_given : List (ℕ × Entry) → ℕ → Principal → Bool
is_given es k q = list_any (λ e. same_principal q e.1.writer && is_set e.1.mask k) es

-- the same of the list with this number, if there is one
abbrev pub is_given_at : List (List (ℕ × Entry)) → Option ℕ → ℕ → Principal → Bool
is_given_at lists None k q = false
is_given_at lists (Some l) k q = is_given (nodes_at lists l) k q

-- the lists say that the principal is a writer of the byte
unfoldable pub is_recorded : List (List (ℕ × Entry)) → ℕ → Principal → Bool
is_recorded lists b q = is_given_at lists (part_list (b / 64)) (b % 64) q

-- the lists say of each byte exactly who its writers are
unfoldable pub Records : List (List (ℕ × Entry)) → History → Type 0
Records lists h = (b : ℕ) (q : Principal) → is_recorded lists b q ≡ is_writer h b q

-- the places of the eight bytes of a slot
abbrev pub eight : List ℕ
eight = 0 ∷ 1 ∷ 2 ∷ 3 ∷ 4 ∷ 5 ∷ 6 ∷ 7 ∷ []

-- the entry of a part has the byte: it lies in the part, and its bit is set
abbrev pub has_byte : ℕ → Entry → ℕ → Bool
has_byte part e b = nat_eq part (b / 64) && is_set e.mask (b % 64)

-- the entry of a part has one of the slot's eight bytes
unfoldable pub touches : ℕ → Entry → ℕ → Bool
touches part e slot = list_any (λ k. has_byte part e (slot + k)) eight

-- the mask has the places in the part of the slot's bytes that lie there
abbrev pub IsSlotMask : ℕ → ℕ → ℕ → Type 0
IsSlotMask slot part mask = (k : ℕ) → k < 64 → is_set mask k ≡ covers slot 8 (part * 64 + k)

-- some node of a part says that the principal is a writer of one of the slot's eight bytes
abbrev pub writes_in : ℕ → List (ℕ × Entry) → ℕ → Principal → Bool
writes_in part es slot q = list_any (λ e. same_principal q e.1.writer && touches part e.1 slot) es

-- the lists say that the principal is a writer of one of those of the slot's bytes that lie in the part
unfoldable pub writes_part : List (List (ℕ × Entry)) → ℕ → ℕ → Principal → Bool
writes_part lists part slot q = list_any (λ k. nat_eq part ((slot + k) / 64) && is_given_at lists (part_list part) ((slot + k) % 64) q) eight

-- nobody passes the test, or somebody does
abbrev pub IsNobody : Bool → (Principal → Bool) → Type 0
IsNobody true p = (q : Principal) → p q ≡ false
IsNobody false p = (q : Principal) × (p q ≡ true)

-- how many nodes the list with this number has
abbrev pub count_in : List (List (ℕ × Entry)) → Option ℕ → ℕ
count_in lists None = 0
count_in lists (Some l) = length (nodes_at lists l)

-- the first writer of the slot that passes the test, if there is one
abbrev pub IsFirstWriter : History → ℕ → (Principal → Bool) → Option Principal → Type 0
IsFirstWriter h slot t first = IsFirstPrincipal (λ q. t q && is_slot_writer h slot q) first

-- some principal that passes the test; or none passes at all
abbrev pub IsSomePrincipal : (Principal → Bool) → Option Principal → Type 0
IsSomePrincipal p None = (q : Principal) → p q ≡ false
IsSomePrincipal p (Some w) = p w ≡ true

-- some writer of the slot that passes the test, if there is one
abbrev pub IsSomeWriter : History → ℕ → (Principal → Bool) → Option Principal → Type 0
IsSomeWriter h slot t some = IsSomePrincipal (λ q. t q && is_slot_writer h slot q) some

-- the next writer of the slot behind the given principal, if there is one
abbrev pub IsNextWriter : History → ℕ → Option Principal → Option Principal → Type 0
IsNextWriter h slot after next = IsFirstPrincipal (λ q. follows after q && is_slot_writer h slot q) next
