-- What a text declares hangs on the tokens that it is, and on the one behind them.
use Rattle.std.proofs.Common.{◌≡◌, ℕ, Bool, true, false, is_some, List, length, Ok, refl, subst, codes}
use Rattle.std.specs.Prelude.{if◌then◌else◌}
use Rattle.lx_annot.specs.declared.expr.Ty.{Ty}
use Rattle.lx_annot.specs.declared.interface.Interface.{Interface}
use Rattle.lx_annot_expressions.specs.Tokens.{Tok}
use Rattle.lx_annot_expressions.specs.declared.fault.FaultKind.TheVariants.{Twice}
use Rattle.lx_annot_expressions.specs.Reading.{Read, ◌>>=◌, refused, behind, has, next_at, unless_word}
use Rattle.lx_annot_expressions.specs.Names.{number_among, fresh_of, fresh_at}
use Rattle.lx_annot_read.specs.Interfaces.{slot_names, export_names, with_export, reftype_at}
use Rattle.lx_cproto.specs.Types.{is_void, type_at}
use Rattle.lx_cproto.specs.Params.{callable_at}
use Rattle.lx_cproto.specs.Texts.{head_at}
use Rattle.lx_cproto.specs.Statements.{Declared, now, may_use, prototype_at, reftype_statement_at, opened, closed, with_member, opening_at, closing_at, plain_member_at, absent_at, fresh_in_both, with_slot_field, slot_behind, slot_name_at, slot_member_at, member_behind, member_at, inside_at, with_interface}
use Rattle.lx_annot_laws.proofs.Local.{Same, Local, Plain, then_plain, last_plain, refused_plain, if_plain, bind_local, behind_local, next_plain}
use Rattle.lx_annot_laws.proofs.Loops.{Hungry, pick_hungry, then_hungry, if_hungry, behind_hungry}
use Rattle.lx_annot_laws.proofs.Clauses.{fresh_plain}
use Rattle.lx_annot_laws.proofs.Statements.{twice_local, reftype_plain}
use Rattle.lx_annot_laws.proofs.Types.{type_plain, type_hungry}
use Rattle.lx_annot_laws.proofs.Callable.{callable_plain}

-- `lxfi_c 1`
pub head_plain : Plain head_at
unfolding head_at
head_plain = then_plain (next_at (codes "lxfi_c")) (λ w. next_at (codes "1") w.1) (next_plain (codes "lxfi_c")) (λ w. next_plain (codes "1"))

pub fresh_hungry : (names : List (List ℕ)) → Hungry (fresh_at names)
fresh_hungry names = pick_hungry (λ t. fresh_of names t.kind t.bytes) (unless_word Twice)

-- Prototypes.

module _ (line : ℕ) (i : Interface) where
  abbrev exported : Ty → List ℕ × List Tok → Read Interface
  exported ret n = callable_at (may_use i) ret n.1 >>= λ f. Ok (with_export i (record { name = n.0; params = f.0.signature.params; ret = f.0.signature.ret; annotation = f.0.annotation; line = line }), f.1)

  exported_plain : (ret : Ty) (name : List ℕ) → Plain (λ us. exported ret (name, us))
  exported_plain ret name =
      last_plain (callable_at (may_use i) ret) (λ f. with_export i (record { name = name; params = f.signature.params; ret = f.signature.ret; annotation = f.annotation; line = line })) (callable_plain (may_use i) ret)

  -- behind its type
  abbrev pub behind_type : Ty × List Tok → Read Interface
  behind_type t = fresh_at (export_names i) t.1 >>= exported t.0

  pub behind_type_plain : (t : Ty) → Plain (λ us. behind_type (t, us))
  behind_type_plain t = then_plain (fresh_at (export_names i)) (exported t) (fresh_plain (export_names i)) (exported_plain t)

  pub behind_type_hungry : (t : Ty) → Hungry (λ us. behind_type (t, us))
  behind_type_hungry t = then_hungry (fresh_at (export_names i)) (exported t) (fresh_hungry (export_names i)) (exported_plain t)

  pub prototype_is : (ts : List Tok) → prototype_at line i ts ≡ (type_at ts >>= behind_type)
  unfolding prototype_at
  prototype_is ts = refl

  pub prototype_from : (type : List Tok → Read Ty) → Plain type → Plain (λ ts. type ts >>= behind_type)
  prototype_from type h = then_plain type behind_type h behind_type_plain

  pub prototype_plain : Plain (prototype_at line i)
  unfolding prototype_at
  prototype_plain = prototype_from type_at type_plain

  pub prototype_hungry : Hungry (prototype_at line i)
  unfolding prototype_at
  prototype_hungry = then_hungry type_at behind_type type_hungry behind_type_plain

-- Statements of one piece.

pub reftype_statement_plain : (i : Interface) → Plain (reftype_statement_at i)
unfolding reftype_statement_at
reftype_statement_plain i =
    then_plain (reftype_at i) (λ j. next_at (codes ";") j.1 >>= λ e. Ok (j.0, e.1)) (reftype_plain i) (λ j. last_plain (next_at (codes ";")) (λ e. j) (next_plain (codes ";")))

pub with_plain : (d : Declared) (read : List Tok → Read Interface) → Plain read → Plain (λ ts. with_interface d (read ts))
with_plain d read h = last_plain read (λ i. now d i) h

-- Structs and their members.

module _ (d : Declared) where
  abbrev pub brace_behind : List ℕ × List Tok → Read Declared
  brace_behind n = next_at (codes "{") n.1 >>= λ o. Ok (opened d n.0, o.1)

  pub brace_plain : (name : List ℕ) → Plain (λ us. brace_behind (name, us))
  brace_plain name = last_plain (next_at (codes "{")) (λ o. opened d name) (next_plain (codes "{"))

  pub opening_is : (ts : List Tok) → opening_at d ts ≡ (fresh_at d.structs ts >>= brace_behind)
  unfolding opening_at
  opening_is ts = refl

  pub opening_plain : Plain (opening_at d)
  unfolding opening_at
  opening_plain = then_plain (fresh_at d.structs) brace_behind (fresh_plain d.structs) brace_plain

  pub opening_hungry : Hungry (opening_at d)
  unfolding opening_at
  opening_hungry = then_hungry (fresh_at d.structs) brace_behind (fresh_hungry d.structs) brace_plain

  closing_plain : Plain (closing_at d)
  unfolding closing_at
  closing_plain = last_plain (next_at (codes ";")) (λ e. closed d) (next_plain (codes ";"))

  plain_member_plain : Plain (plain_member_at d)
  unfolding plain_member_at
  plain_member_plain =
      then_plain (fresh_at d.members) (λ n. next_at (codes ";") n.1 >>= λ e. Ok (with_member d n.0, e.1)) (fresh_plain d.members) (λ n. last_plain (next_at (codes ";")) (λ e. with_member d n) (next_plain (codes ";")))

  both_plain : (names others : List (List ℕ)) → Plain (fresh_in_both names others)
  both_plain names others =
      bind_local Same Same (fresh_at names) (fresh_at names) (λ ts n. absent_at others ts n) (λ ts n. absent_at others ts n) (fresh_plain names)
      (λ ts vs x y e. subst (λ n. Local Same (λ us. absent_at others ts (x, us)) (λ us. absent_at others vs (n, us))) e (twice_local ts vs x (is_some (number_among others x))))

  slot_name_plain : Plain (slot_name_at d)
  unfolding slot_name_at
  slot_name_plain =
      then_plain (next_at (codes "(")) (λ o. next_at (codes "*") o.1 >>= λ s. fresh_in_both d.members (slot_names d.interface) s.1) (next_plain (codes "("))
      (λ o. then_plain (next_at (codes "*")) (λ s. fresh_in_both d.members (slot_names d.interface) s.1) (next_plain (codes "*")) (λ s. both_plain d.members (slot_names d.interface)))

  module _ (line : ℕ) (struct : List ℕ) where
    slot_behind_plain : (index : ℕ) (name : List ℕ) (ret : Ty) (i : Interface) → Plain (slot_behind line struct index name ret i)
    unfolding slot_behind
    slot_behind_plain index name ret i =
        then_plain (next_at (codes ")")) (λ c. callable_at (may_use i) ret c.1 >>= λ f. Ok (with_slot_field line struct index name f.0 i, f.1)) (next_plain (codes ")"))
        (λ c. last_plain (callable_at (may_use i) ret) (λ f. with_slot_field line struct index name f i) (callable_plain (may_use i) ret))

    slot_member_plain : (ret : Ty) → Plain (slot_member_at line struct d ret)
    unfolding slot_member_at
    slot_member_plain ret =
        then_plain (slot_name_at d) (λ n. slot_behind line struct (length d.members) n.0 ret d.interface n.1 >>= λ i. Ok (with_member (now d i.0) n.0, i.1)) slot_name_plain
        (λ n. last_plain (slot_behind line struct (length d.members) n ret d.interface) (λ i. with_member (now d i) n) (slot_behind_plain (length d.members) n ret d.interface))

    value_plain : (b : Bool) → Plain (λ us. if b then refused us else plain_member_at d us)
    value_plain true = refused_plain {A = Declared}
    value_plain false = plain_member_plain

    member_behind_plain : (t : Ty) → Plain (λ us. member_behind line struct d t us)
    member_behind_plain t = if_plain (codes "(") (slot_member_at line struct d t) (λ us. if is_void t then refused us else plain_member_at d us) (slot_member_plain t) (value_plain (is_void t))

    member_plain : Plain (member_at line struct d)
    unfolding member_at
    member_plain = then_plain type_at (λ t. member_behind line struct d t.0 t.1) type_plain member_behind_plain

    member_hungry : Hungry (member_at line struct d)
    unfolding member_at
    member_hungry = then_hungry type_at (λ t. member_behind line struct d t.0 t.1) type_hungry member_behind_plain

    pub inside_plain : Plain (inside_at line struct d)
    inside_plain = if_plain (codes "}") (λ ts. closing_at d (behind ts)) (member_at line struct d) (behind_local Same (closing_at d) (closing_at d) closing_plain) member_plain

    pub inside_hungry : Hungry (inside_at line struct d)
    inside_hungry = if_hungry (has (codes "}")) (λ ts. closing_at d (behind ts)) (member_at line struct d) (behind_hungry (closing_at d) closing_plain) member_hungry
