-- What is kept of the slot types that a list of fields gets.
use Rattle.std.specs.Prelude.{ℕ, Bool, ◌&&◌, Option, Some, None, List, find, length, min, nat_lt, option_and_then, if◌then◌else◌}
use Rattle.std.specs.List.{list_any}
use Rattle.lx_annot.specs.declared.interface.Interface.{Interface}
use Rattle.lx_ir.specs.declared.module.Module.{Module}
use Rattle.lx_slot_types.specs.Sites.{FieldName}
use Rattle.lx_slot_types.specs.Gets.{below, types_field}
use Rattle.lx_slot_types.specs.Texts.{differ}
use Rattle.lx_slot_sums.specs.declared.sums.SlotSum.{SlotSum}

-- an interface, and a module that it types
pub record Typing : Type 0 where
  pub interface : Interface
  pub text : Module

-- some field of the list is typed with the slot type
abbrev pub typed_among : Interface → Module → List FieldName → ℕ → Bool
typed_among i m names s = list_any (λ name. types_field i m name s) names

-- the first slot type in interface order that a test holds of
abbrev pub first_by : Interface → (ℕ → Bool) → Option ℕ
first_by i p = find p (below (length i.slots))

-- the first that a test holds of and that differs from another
abbrev pub other_by : Interface → (ℕ → Bool) → ℕ → Option ℕ
other_by i p s = find (λ t. p t && differ i s t) (below (length i.slots))

-- both: the first, and the first that differs from it
abbrev pub sum_by : Interface → (ℕ → Bool) → SlotSum
sum_by i p = record { first = first_by i p; other = option_and_then (other_by i p) (first_by i p) }

-- the first slot type that some field of the list is typed with
abbrev pub first_among : Interface → Module → List FieldName → Option ℕ
first_among i m names = first_by i (typed_among i m names)

-- the first one that differs from another
abbrev pub other_among : Interface → Module → List FieldName → ℕ → Option ℕ
other_among i m names s = other_by i (typed_among i m names) s

-- what is kept of the list
abbrev pub sum_of : Interface → Module → List FieldName → SlotSum
sum_of i m names = sum_by i (typed_among i m names)

-- the lesser of two numbers, where there are any
abbrev pub lesser : Option ℕ → Option ℕ → Option ℕ
lesser None b = b
lesser (Some a) None = Some a
lesser (Some a) (Some b) = Some (min a b)

-- what a list adds to the first that differs from f by a test: its own first, if that one differs, and else its other
abbrev pub other_for : (ℕ → ℕ → Bool) → ℕ → ℕ → Option ℕ → Option ℕ
other_for d f own other = if d f own then Some own else other

-- the sums of two lists joined, by their firsts
abbrev pub joined_by : (ℕ → ℕ → Bool) → SlotSum → SlotSum → Option ℕ → Option ℕ → SlotSum
joined_by d a b None y = b
joined_by d a b (Some x) None = a
joined_by d a b (Some x) (Some y) =
    record { first = Some (min x y); other = lesser (other_for d (min x y) x a.other) (other_for d (min x y) y b.other) }

abbrev pub joined : (ℕ → ℕ → Bool) → SlotSum → SlotSum → SlotSum
joined d a b = joined_by d a b a.first b.first

-- of one slot type, where there are so many
abbrev pub single : ℕ → ℕ → SlotSum
single n s = record { first = if nat_lt s n then Some s else None; other = None }

abbrev pub no_sum : SlotSum
no_sum = record { first = None; other = None }

abbrev pub sum_or_none : Option SlotSum → SlotSum
sum_or_none None = no_sum
sum_or_none (Some s) = s

-- the sum of a list of fields, of an interface and a module
abbrev pub sum_in : Typing → List FieldName → SlotSum
sum_in t names = sum_of t.interface t.text names
