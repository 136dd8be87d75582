-- The offsets of a struct where fields begin or end, in order.
use Rattle.std.specs.Prelude.{ℕ, ◌<◌, ◌≤◌, ⊤, length, slice_index_or, Option, Some, None, List, [], ◌∷◌, ◌++◌, nat_le, nat_lt, if◌then◌else◌}
use Rattle.std.specs.Option.{option_or}
use Rattle.lx_slot_sums.specs.declared.rows.Edge.{Edge}
use Rattle.lx_slot_sums.specs.declared.sums.SlotSum.{SlotSum}
use Rattle.lx_slot_sums.specs.Sums.{no_sum}

abbrev pub edge : ℕ → SlotSum → Option ℕ → Edge
edge o sum inside = record { offset = o; sum = sum; inside = inside }

-- the offsets of edges begin at this one or behind it, and don't fall
abbrev pub RiseFrom : ℕ → List Edge → Type 0
RiseFrom n [] = ⊤
RiseFrom n (e ∷ es) = (n ≤ e.offset) × RiseFrom e.offset es

unfoldable pub AreRising : List Edge → Type 0
AreRising es = RiseFrom 0 es

abbrev pub offset_at : List Edge → ℕ → Edge → ℕ
offset_at es k d = (slice_index_or es k d).offset

-- so many edges are not past an offset
pub record Counts (o : ℕ) (es : List Edge) (n : ℕ) : Type 0 where
  pub within : n ≤ length es
  pub before : (k : ℕ) (d : Edge) → k < n → offset_at es k d ≤ o
  pub behind : (k : ℕ) (d : Edge) → n ≤ k → k < length es → o < offset_at es k d

-- the last edge that isn't past an offset
abbrev pub edge_at : List Edge → ℕ → Option Edge
edge_at [] o = None
edge_at (e ∷ es) o = option_or (edge_at es o) (if nat_le e.offset o then Some e else None)

-- the edges of the fields so far, of which further fields may begin at the last one
pub record Edges : Type 0 where
  pub done : List Edge
  pub last : Edge

abbrev pub edges : List Edge → Edge → Edges
edges es e = record { done = es; last = e }

abbrev pub no_edges : Edges
no_edges = edges [] (edge 0 no_sum None)

abbrev pub whole : Edges → List Edge
whole r = r.done ++ r.last ∷ []

-- gone on to an offset
abbrev pub moved : Edges → ℕ → Edges
moved r o = if nat_lt r.last.offset o then edges (whole r) (edge o no_sum None) else r

-- a field with this spread put at the last edge, which has this sum now; where it takes bytes, the edge where it ends follows
abbrev pub put_in : Edges → SlotSum → Option ℕ → Edge → Edges
put_in r sum inside end =
    if nat_lt r.last.offset end.offset
    then edges (r.done ++ edge r.last.offset sum inside ∷ []) end
    else edges r.done (edge r.last.offset sum r.last.inside)
