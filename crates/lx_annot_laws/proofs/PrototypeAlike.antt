-- What is read behind declarations that differ in lines alone.
use Rattle.std.proofs.Common.{◌≡◌, ℕ, Option, Some, None, List, [], ◌∷◌, ◌++◌, length, Ok, refl, ap, subst, codes}
use Rattle.lx_words.specs.declared.token.TokenKind.TheVariants as kinds
use Rattle.lx_words.proofs.Lists.{map_one_more as one_more}
use Rattle.lx_annot.specs.declared.expr.Ty.{Ty}
use Rattle.lx_annot.specs.declared.interface.Slot.{Slot}
use Rattle.lx_annot.specs.declared.interface.Field.{Field}
use Rattle.lx_annot.specs.declared.interface.Export.{Export}
use Rattle.lx_annot.specs.declared.interface.Interface.{Interface}
use Rattle.lx_annot_expressions.specs.Tokens.{Tok}
use Rattle.lx_annot_expressions.specs.Reading.{Read, ◌>>=◌, refused, behind, has, next_at}
use Rattle.lx_annot_expressions.specs.Names.{fresh_at}
use Rattle.lx_annot_terms.specs.Lists.{Known}
use Rattle.lx_annot_read.specs.declared.head.Version.TheVariants as versions
use Rattle.lx_annot_read.specs.Head.{may_lend}
use Rattle.lx_annot_read.specs.Interfaces.{slot_names, export_names, with_export, reftype_at, iterator_at, statement_at}
use Rattle.lx_annot_read.specs.Aside.{slot_aside, field_aside, export_aside}
use Rattle.lx_annot_read.proofs.Aside.{Same as SameAside, same_reftypes, same_iterators, same_slots, same_exports, statement_same}
use Rattle.lx_cproto.specs.declared.callable.Callable.{Callable}
use Rattle.lx_cproto.specs.Types.{is_void, type_at}
use Rattle.lx_cproto.specs.Params.{callable_at}
use Rattle.lx_cproto.specs.Statements.{Declared, now, may_use, prototype_at, reftype_statement_at, begins_struct, opened, closed, with_member, opening_at, closing_at, plain_member_at, fresh_in_both, struct_type, with_slot_field, slot_behind, slot_name_at, slot_member_at, member_behind, member_at, inside_at, with_interface, outside_at, step_by, step_at}
use Rattle.lx_annot_laws.proofs.Alike.{AlikeBy, same_first, alike_first, if_alike, interface_alike}

-- Interfaces with one more, lines aside.

export_more : (i j : Interface) (x y : Export) → SameAside i j → export_aside x ≡ export_aside y → SameAside (with_export i x) (with_export j y)
export_more i j x y s e = λ k. record { reftypes = (s k).reftypes; iterators = (s k).iterators; slots = (s k).slots; fields = (s k).fields; exports = one_more export_aside i.exports j.exports x y (ap (λ (z : Interface). z.exports) s) e k }

abbrev slot_of : ℕ → List ℕ → Callable → Slot
slot_of line name f = record { name = name; params = f.signature.params; ret = f.signature.ret; annotation = f.annotation; line = line }

abbrev field_in : ℕ → List ℕ → ℕ → Interface → Field
field_in line struct index i = record { name = struct_type struct; index = index; slot = length (slot_names i); line = line }

slot_field_more : (l m : ℕ) (struct : List ℕ) (index : ℕ) (name : List ℕ) (f : Callable) (i j : Interface) → SameAside i j → SameAside (with_slot_field l struct index name f i) (with_slot_field m struct index name f j)
slot_field_more l m struct index name f i j s = λ k. record {
  reftypes = (s k).reftypes;
  iterators = (s k).iterators;
  slots = one_more slot_aside i.slots j.slots (slot_of l name f) (slot_of m name f) (ap (λ (z : Interface). z.slots) s) refl k;
  fields = one_more field_aside i.fields j.fields (field_in l struct index i) (field_in m struct index j) (ap (λ (z : Interface). z.fields) s) (λ n. record { name = struct_type struct; index = index; slot = length (same_slots i j s n); line = 0 }) k;
  exports = (s k).exports;
}

may_same : (i j : Interface) → SameAside i j → may_use i ≡ may_use j
may_same i j s = λ k. record { reftypes = same_reftypes i j s k; iterators = same_iterators i j s k; lends = may_lend versions.Two }

-- Statements.

abbrev word : List ℕ → Tok
word bytes = record { kind = kinds.Word; bytes = bytes }

reftype_same : (i j : Interface) (ts : List Tok) → SameAside i j → AlikeBy SameAside (reftype_at i ts) (reftype_at j ts)
unfolding statement_at
reftype_same i j ts s = interface_alike (reftype_at i ts) (reftype_at j ts) (statement_same versions.Two 0 0 i j (word (codes "reftype") ∷ ts) s)

iterator_same : (l m : ℕ) (i j : Interface) (ts : List Tok) → SameAside i j → AlikeBy SameAside (iterator_at versions.Two l i ts) (iterator_at versions.Two m j ts)
unfolding statement_at
iterator_same l m i j ts s = interface_alike (iterator_at versions.Two l i ts) (iterator_at versions.Two m j ts) (statement_same versions.Two l m i j (word (codes "iterator") ∷ ts) s)

reftype_statement_same : (i j : Interface) (ts : List Tok) → SameAside i j → AlikeBy SameAside (reftype_statement_at i ts) (reftype_statement_at j ts)
unfolding reftype_statement_at
reftype_statement_same i j ts s =
    alike_first SameAside SameAside (reftype_at i ts) (reftype_at j ts) (λ k. next_at (codes ";") k.1 >>= λ e. Ok (k.0, e.1)) (λ k. next_at (codes ";") k.1 >>= λ e. Ok (k.0, e.1)) (reftype_same i j ts s)
    (λ x y us q. same_first SameAside (next_at (codes ";") us) (λ e. Ok (x, e.1)) (λ e. Ok (y, e.1)) (λ e. (q, refl)))

abbrev exported_by : Known → ℕ → Interface → Ty → List ℕ × List Tok → Read Interface
exported_by known line i ret n = callable_at known ret n.1 >>= λ f. Ok (with_export i (record { name = n.0; params = f.0.signature.params; ret = f.0.signature.ret; annotation = f.0.annotation; line = line }), f.1)

abbrev prototype_by : List (List ℕ) → Known → ℕ → Interface → List Tok → Read Interface
prototype_by names known line i ts = type_at ts >>= λ t. fresh_at names t.1 >>= exported_by known line i t.0

prototype_by_same : (names : List (List ℕ)) (known : Known) (l m : ℕ) (i j : Interface) (ts : List Tok) → SameAside i j → AlikeBy SameAside (prototype_by names known l i ts) (prototype_by names known m j ts)
prototype_by_same names known l m i j ts s =
    same_first SameAside (type_at ts) (λ t. fresh_at names t.1 >>= exported_by known l i t.0) (λ t. fresh_at names t.1 >>= exported_by known m j t.0)
    (λ t. same_first SameAside (fresh_at names t.1) (exported_by known l i t.0) (exported_by known m j t.0)
    (λ n. same_first SameAside (callable_at known t.0 n.1) _ _ (λ f. (export_more i j _ _ s refl, refl))))

prototype_same : (l m : ℕ) (i j : Interface) (ts : List Tok) → SameAside i j → AlikeBy SameAside (prototype_at l i ts) (prototype_at m j ts)
unfolding prototype_at
prototype_same l m i j ts s =
    subst (λ ns. AlikeBy SameAside (prototype_by (export_names i) (may_use i) l i ts) (prototype_by ns (may_use j) m j ts)) (same_exports i j s)
    (subst (λ k. AlikeBy SameAside (prototype_by (export_names i) (may_use i) l i ts) (prototype_by (export_names i) k m j ts)) (may_same i j s)
    (prototype_by_same (export_names i) (may_use i) l m i j ts s))

slot_behind_same : (l m : ℕ) (struct : List ℕ) (index : ℕ) (name : List ℕ) (ret : Ty) (i j : Interface) (ts : List Tok) → SameAside i j → AlikeBy SameAside (slot_behind l struct index name ret i ts) (slot_behind m struct index name ret j ts)
unfolding slot_behind
slot_behind_same l m struct index name ret i j ts s =
    subst (λ k. AlikeBy SameAside (next_at (codes ")") ts >>= λ c. callable_at (may_use i) ret c.1 >>= λ f. Ok (with_slot_field l struct index name f.0 i, f.1)) (next_at (codes ")") ts >>= λ c. callable_at k ret c.1 >>= λ f. Ok (with_slot_field m struct index name f.0 j, f.1))) (may_same i j s)
    (same_first SameAside (next_at (codes ")") ts) (λ c. callable_at (may_use i) ret c.1 >>= λ f. Ok (with_slot_field l struct index name f.0 i, f.1)) (λ c. callable_at (may_use i) ret c.1 >>= λ f. Ok (with_slot_field m struct index name f.0 j, f.1))
    (λ c. same_first SameAside (callable_at (may_use i) ret c.1) (λ f. Ok (with_slot_field l struct index name f.0 i, f.1)) (λ f. Ok (with_slot_field m struct index name f.0 j, f.1)) (λ f. (slot_field_more l m struct index name f.0 i j s, refl))))

-- What is declared so far.

-- the same declarations, lines aside
pub record SameDeclared (d e : Declared) : Type 0 where
  pub interface : SameAside d.interface e.interface
  pub structs : d.structs ≡ e.structs
  pub inside : d.inside ≡ e.inside
  pub members : d.members ≡ e.members

pub declared_same : (d : Declared) → SameDeclared d d
declared_same d = record { interface = refl; structs = refl; inside = refl; members = refl }

module _ (d e : Declared) (same : SameDeclared d e) where
  with_same : (r s : Read Interface) → AlikeBy SameAside r s → AlikeBy SameDeclared (with_interface d r) (with_interface e s)
  with_same r s a =
      alike_first SameAside SameDeclared r s (λ i. Ok (now d i.0, i.1)) (λ i. Ok (now e i.0, i.1)) a
      (λ x y us q. (record { interface = q; structs = same.structs; inside = same.inside; members = same.members }, refl))

  opening_same : (ts : List Tok) → AlikeBy SameDeclared (opening_at d ts) (opening_at e ts)
  unfolding opening_at
  opening_same ts =
      subst (λ ns. AlikeBy SameDeclared (fresh_at d.structs ts >>= λ n. next_at (codes "{") n.1 >>= λ o. Ok (opened d n.0, o.1)) (fresh_at ns ts >>= λ n. next_at (codes "{") n.1 >>= λ o. Ok (opened e n.0, o.1))) same.structs
      (same_first SameDeclared (fresh_at d.structs ts) (λ n. next_at (codes "{") n.1 >>= λ o. Ok (opened d n.0, o.1)) (λ n. next_at (codes "{") n.1 >>= λ o. Ok (opened e n.0, o.1))
      (λ n. same_first SameDeclared (next_at (codes "{") n.1) (λ o. Ok (opened d n.0, o.1)) (λ o. Ok (opened e n.0, o.1))
      (λ o. (record { interface = same.interface; structs = ap (λ s. s ++ n.0 ∷ []) same.structs; inside = refl; members = refl }, refl))))

  closing_same : (ts : List Tok) → AlikeBy SameDeclared (closing_at d ts) (closing_at e ts)
  unfolding closing_at
  closing_same ts =
      same_first SameDeclared (next_at (codes ";") ts) (λ c. Ok (closed d, c.1)) (λ c. Ok (closed e, c.1)) (λ c. (record { interface = same.interface; structs = same.structs; inside = refl; members = refl }, refl))

  plain_member_same : (ts : List Tok) → AlikeBy SameDeclared (plain_member_at d ts) (plain_member_at e ts)
  unfolding plain_member_at
  plain_member_same ts =
      subst (λ ns. AlikeBy SameDeclared (fresh_at d.members ts >>= λ n. next_at (codes ";") n.1 >>= λ c. Ok (with_member d n.0, c.1)) (fresh_at ns ts >>= λ n. next_at (codes ";") n.1 >>= λ c. Ok (with_member e n.0, c.1))) same.members
      (same_first SameDeclared (fresh_at d.members ts) (λ n. next_at (codes ";") n.1 >>= λ c. Ok (with_member d n.0, c.1)) (λ n. next_at (codes ";") n.1 >>= λ c. Ok (with_member e n.0, c.1))
      (λ n. same_first SameDeclared (next_at (codes ";") n.1) (λ c. Ok (with_member d n.0, c.1)) (λ c. Ok (with_member e n.0, c.1))
      (λ c. (record { interface = same.interface; structs = same.structs; inside = same.inside; members = ap (λ s. s ++ n.0 ∷ []) same.members }, refl))))

  slot_name_same : (ts : List Tok) → slot_name_at d ts ≡ slot_name_at e ts
  unfolding slot_name_at
  slot_name_same ts = λ k. next_at (codes "(") ts >>= λ o. next_at (codes "*") o.1 >>= λ s. fresh_in_both (same.members k) (same_slots d.interface e.interface same.interface k) s.1

  module _ (l m : ℕ) (struct : List ℕ) where
    abbrev slot_from : ℕ → Declared → Ty → ℕ → List ℕ × List Tok → Read Declared
    slot_from line b ret index n = slot_behind line struct index n.0 ret b.interface n.1 >>= λ i. Ok (with_member (now b i.0) n.0, i.1)

    slot_from_same : (ret : Ty) (index : ℕ) (n : List ℕ × List Tok) → AlikeBy SameDeclared (slot_from l d ret index n) (slot_from m e ret index n)
    slot_from_same ret index n =
        alike_first SameAside SameDeclared (slot_behind l struct index n.0 ret d.interface n.1) (slot_behind m struct index n.0 ret e.interface n.1) (λ i. Ok (with_member (now d i.0) n.0, i.1)) (λ i. Ok (with_member (now e i.0) n.0, i.1))
        (slot_behind_same l m struct index n.0 ret d.interface e.interface n.1 same.interface)
        (λ x y us q. (record { interface = q; structs = same.structs; inside = same.inside; members = ap (λ s. s ++ n.0 ∷ []) same.members }, refl))

    slot_member_same : (ret : Ty) (ts : List Tok) → AlikeBy SameDeclared (slot_member_at l struct d ret ts) (slot_member_at m struct e ret ts)
    unfolding slot_member_at
    slot_member_same ret ts =
        subst (λ r. AlikeBy SameDeclared (slot_name_at d ts >>= slot_from l d ret (length d.members)) (r >>= slot_from m e ret (length e.members))) (slot_name_same ts)
        (subst (λ k. AlikeBy SameDeclared (slot_name_at d ts >>= slot_from l d ret (length d.members)) (slot_name_at d ts >>= slot_from m e ret k)) (ap length same.members)
        (same_first SameDeclared (slot_name_at d ts) (slot_from l d ret (length d.members)) (slot_from m e ret (length d.members)) (slot_from_same ret (length d.members))))

    member_behind_same : (t : Ty) (ts : List Tok) → AlikeBy SameDeclared (member_behind l struct d t ts) (member_behind m struct e t ts)
    member_behind_same t ts =
        if_alike SameDeclared (has (codes "(") ts) _ _ _ _ (slot_member_same t ts) (if_alike SameDeclared (is_void t) (refused ts) (plain_member_at d ts) (refused ts) (plain_member_at e ts) refl (plain_member_same ts))

    member_same : (ts : List Tok) → AlikeBy SameDeclared (member_at l struct d ts) (member_at m struct e ts)
    unfolding member_at
    member_same ts = same_first SameDeclared (type_at ts) (λ t. member_behind l struct d t.0 t.1) (λ t. member_behind m struct e t.0 t.1) (λ t. member_behind_same t.0 t.1)

    inside_same : (ts : List Tok) → AlikeBy SameDeclared (inside_at l struct d ts) (inside_at m struct e ts)
    inside_same ts = if_alike SameDeclared (has (codes "}") ts) (closing_at d (behind ts)) (member_at l struct d ts) (closing_at e (behind ts)) (member_at m struct e ts) (closing_same (behind ts)) (member_same ts)

  outside_same : (l m : ℕ) (ts : List Tok) → AlikeBy SameDeclared (outside_at l d ts) (outside_at m e ts)
  outside_same l m ts =
      if_alike SameDeclared (has (codes "reftype") ts) _ _ _ _ (with_same (reftype_statement_at d.interface (behind ts)) (reftype_statement_at e.interface (behind ts)) (reftype_statement_same d.interface e.interface (behind ts) same.interface))
      (if_alike SameDeclared (has (codes "iterator") ts) _ _ _ _ (with_same (iterator_at versions.Two l d.interface (behind ts)) (iterator_at versions.Two m e.interface (behind ts)) (iterator_same l m d.interface e.interface (behind ts) same.interface))
      (if_alike SameDeclared (begins_struct ts) _ _ _ _ (opening_same (behind ts)) (with_same (prototype_at l d.interface ts) (prototype_at m e.interface ts) (prototype_same l m d.interface e.interface ts same.interface))))

  by_same : (l m : ℕ) (o : Option (List ℕ)) (ts : List Tok) → AlikeBy SameDeclared (step_by o l d ts) (step_by o m e ts)
  by_same l m None ts = outside_same l m ts
  by_same l m (Some struct) ts = inside_same l m struct ts

  pub step_same : (l m : ℕ) (ts : List Tok) → AlikeBy SameDeclared (step_at l d ts) (step_at m e ts)
  unfolding step_at
  step_same l m ts = subst (λ o. AlikeBy SameDeclared (step_by d.inside l d ts) (step_by o m e ts)) same.inside (by_same l m d.inside ts)
