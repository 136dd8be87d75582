-- Statements hang on the tokens that they are, and on the one behind them.
use Rattle.std.proofs.Common.{ℕ, Bool, true, false, List, [], Ok, Err, refl, subst, codes}
use Rattle.std.specs.Prelude.{if◌then◌else◌}
use Rattle.lx_annot.specs.declared.interface.Interface.{Interface}
use Rattle.lx_annot_expressions.specs.Tokens.{Tok}
use Rattle.lx_annot_expressions.specs.declared.fault.FaultKind.TheVariants.{Twice}
use Rattle.lx_annot_expressions.specs.Reading.{Read, ◌>>=◌, at, has, behind, refused, next_at, always_refused, number_of, number_at}
use Rattle.lx_annot_expressions.specs.Names.{fresh_at, known_at}
use Rattle.lx_annot_terms.specs.Lists.{Known}
use Rattle.lx_annot_terms.specs.Signatures.{param_name_at, signature_at}
use Rattle.lx_annot_terms.specs.Clauses.{clauses_at}
use Rattle.lx_annot_terms.specs.ItemReading.{scope_of_items, items_at}
use Rattle.lx_annot_read.specs.declared.head.Version.{Version}
use Rattle.lx_annot_read.specs.declared.head.Version.TheVariants as versions
use Rattle.lx_annot_read.specs.Head.{version_at, head_at}
use Rattle.lx_annot_read.specs.Interfaces.{iterator_names, slot_names, export_names, known_in, is_typed, with_reftype, with_iterator, with_slot, with_field, with_export, reftype_at, iterator_body_at, iterator_at, callable_at, slot_at, export_at, struct_of_kind, struct_at, greatest_index, untyped, index_at, field_at, statement_at}
use Rattle.lx_annot_laws.proofs.Local.{Same, Local, Plain, pure_plain, then_plain, last_plain, over_plain, refused_plain, other_fault, if_plain, bind_local, behind_local, next_plain, pick_plain}
use Rattle.lx_annot_laws.proofs.Loops.{Hungry, refused_hungry, if_hungry, behind_hungry}
use Rattle.lx_annot_laws.proofs.Lists.{known_plain, items_plain}
use Rattle.lx_annot_laws.proofs.Clauses.{fresh_plain, param_name_plain, signature_plain, clauses_plain}

-- `interface 1` or `interface 2`
pub head_plain : Plain head_at
unfolding head_at
head_plain =
    then_plain (next_at (codes "interface")) (λ w. version_at w.1) (next_plain (codes "interface"))
    (λ w. if_plain (codes "1") (λ ts. Ok (versions.One, behind ts)) (λ ts. if has (codes "2") ts then Ok (versions.Two, behind ts) else refused ts) (over_plain versions.One)
    (if_plain (codes "2") (λ ts. Ok (versions.Two, behind ts)) (λ ts. refused ts) (over_plain versions.Two) (refused_plain {A = Version})))

pub reftype_plain : (i : Interface) → Plain (reftype_at i)
unfolding reftype_at
reftype_plain i = last_plain (fresh_at i.reftypes) (λ n. with_reftype i n) (fresh_plain i.reftypes)

pub iterator_body_plain : (known : Known) → Plain (iterator_body_at known)
unfolding iterator_body_at
iterator_body_plain known =
    then_plain (next_at (codes "(")) (λ o. param_name_at [] o.1 >>= λ p. next_at (codes ")") p.1 >>= λ c. next_at (codes "{") c.1 >>= λ b. items_at (scope_of_items p.0) known b.1 >>= λ xs. next_at (codes "}") xs.1 >>= λ e. Ok (xs.0, e.1)) (next_plain (codes "("))
    (λ o. then_plain (param_name_at []) (λ p. next_at (codes ")") p.1 >>= λ c. next_at (codes "{") c.1 >>= λ b. items_at (scope_of_items p.0) known b.1 >>= λ xs. next_at (codes "}") xs.1 >>= λ e. Ok (xs.0, e.1)) (param_name_plain [])
    (λ p. then_plain (next_at (codes ")")) (λ c. next_at (codes "{") c.1 >>= λ b. items_at (scope_of_items p) known b.1 >>= λ xs. next_at (codes "}") xs.1 >>= λ e. Ok (xs.0, e.1)) (next_plain (codes ")"))
    (λ c. then_plain (next_at (codes "{")) (λ b. items_at (scope_of_items p) known b.1 >>= λ xs. next_at (codes "}") xs.1 >>= λ e. Ok (xs.0, e.1)) (next_plain (codes "{"))
    (λ b. then_plain (items_at (scope_of_items p) known) (λ xs. next_at (codes "}") xs.1 >>= λ e. Ok (xs.0, e.1)) (items_plain (scope_of_items p) known)
    (λ xs. last_plain (next_at (codes "}")) (λ e. xs) (next_plain (codes "}")))))))

callable_plain : (known : Known) → Plain (callable_at known)
unfolding callable_at
callable_plain known =
    then_plain signature_at (λ s. clauses_at s.0 known s.1 >>= λ a. Ok (record { signature = s.0; annotation = a.0 }, a.1)) signature_plain
    (λ s. last_plain (clauses_at s known) (λ a. record { signature = s; annotation = a }) (clauses_plain s known))

number_plain : (limit : ℕ) → Plain (number_at limit)
number_plain limit = pick_plain (λ t. number_of limit t.kind t.bytes) always_refused

-- Where something is there before, the fault is at a token wherever that stands, and of another kind.
pub twice_local : {A : Type 0} (w z : List Tok) (x : A) (b : Bool) → Local Same (λ us. if b then Err (at Twice w) else Ok (x, us)) (λ us. if b then Err (at Twice z) else Ok (x, us))
twice_local {A} w z x true = other_fault {A = A} Same (λ ts. at Twice w) (λ ts. at Twice z) (λ ts. refl)
twice_local w z x false = pure_plain x

module _ (v : Version) (line : ℕ) (i : Interface) where
  pub iterator_plain : Plain (iterator_at v line i)
  unfolding iterator_at
  iterator_plain =
      then_plain (fresh_at (iterator_names i)) (λ n. iterator_body_at (known_in v i) n.1 >>= λ xs. Ok (with_iterator i (record { name = n.0; items = xs.0; line = line }), xs.1)) (fresh_plain (iterator_names i))
      (λ n. last_plain (iterator_body_at (known_in v i)) (λ xs. with_iterator i (record { name = n; items = xs; line = line })) (iterator_body_plain (known_in v i)))

  slot_plain : Plain (slot_at v line i)
  unfolding slot_at
  slot_plain =
      then_plain (fresh_at (slot_names i)) (λ n. callable_at (known_in v i) n.1 >>= λ f. Ok (with_slot i (record { name = n.0; params = f.0.signature.params; ret = f.0.signature.ret; annotation = f.0.annotation; line = line }), f.1)) (fresh_plain (slot_names i))
      (λ n. last_plain (callable_at (known_in v i)) (λ f. with_slot i (record { name = n; params = f.signature.params; ret = f.signature.ret; annotation = f.annotation; line = line })) (callable_plain (known_in v i)))

  export_plain : Plain (export_at v line i)
  unfolding export_at
  export_plain =
      then_plain (fresh_at (export_names i)) (λ n. callable_at (known_in v i) n.1 >>= λ f. Ok (with_export i (record { name = n.0; params = f.0.signature.params; ret = f.0.signature.ret; annotation = f.0.annotation; line = line }), f.1)) (fresh_plain (export_names i))
      (λ n. last_plain (callable_at (known_in v i)) (λ f. with_export i (record { name = n; params = f.signature.params; ret = f.signature.ret; annotation = f.annotation; line = line })) (callable_plain (known_in v i)))

  index_local : (w z : List Tok) (struct : List ℕ) → Local Same (index_at i w struct) (index_at i z struct)
  index_local w z struct =
      bind_local Same Same (number_at greatest_index) (number_at greatest_index) (λ ts n. untyped i w struct n) (λ ts n. untyped i z struct n) (number_plain greatest_index)
      (λ ts vs x y e. subst (λ k. Local Same (λ us. untyped i w struct (x, us)) (λ us. untyped i z struct (k, us))) e (twice_local w z x (is_typed i struct x)))

  abbrev of_slot : List ℕ → ℕ → Unit {0} × List Tok → Read Interface
  of_slot struct k c = known_at (slot_names i) c.1 >>= λ t. Ok (with_field i (record { name = struct; index = k; slot = t.0; line = line }), t.1)

  abbrev behind_index : List ℕ → ℕ × List Tok → Read Interface
  behind_index struct k = next_at (codes ":") k.1 >>= of_slot struct k.0

  behind_index_plain : (struct : List ℕ) (k : ℕ) → Plain (λ us. behind_index struct (k, us))
  behind_index_plain struct k =
      then_plain (next_at (codes ":")) (of_slot struct k) (next_plain (codes ":"))
      (λ c. last_plain (known_at (slot_names i)) (λ t. with_field i (record { name = struct; index = k; slot = t; line = line })) (known_plain (slot_names i)))

  indexed_local : (w z : List Tok) (struct : List ℕ) → Local Same (λ us. index_at i w struct us >>= behind_index struct) (λ us. index_at i z struct us >>= behind_index struct)
  indexed_local w z struct =
      bind_local Same Same (index_at i w struct) (index_at i z struct) (λ ts. behind_index struct) (λ ts. behind_index struct) (index_local w z struct)
      (λ ts vs x y e. subst (λ k. Local Same (λ us. behind_index struct (x, us)) (λ us. behind_index struct (k, us))) e (behind_index_plain struct x))

  struct_plain : Plain struct_at
  struct_plain = pick_plain (λ t. struct_of_kind t.kind t.bytes) always_refused

  field_plain : Plain (field_at line i)
  unfolding field_at
  field_plain =
      bind_local Same Same struct_at struct_at (λ ts s. index_at i ts s.0 s.1 >>= behind_index s.0) (λ ts s. index_at i ts s.0 s.1 >>= behind_index s.0) struct_plain
      (λ ts vs x y e. subst (λ n. Local Same (λ us. index_at i ts x us >>= behind_index x) (λ us. index_at i vs n us >>= behind_index n)) e (indexed_local ts vs x))

  behind_plain : (read : List Tok → Read Interface) → Plain read → Plain (λ ts. read (behind ts))
  behind_plain read h = behind_local Same read read h

  -- a statement
  pub statement_plain : Plain (statement_at v line i)
  unfolding statement_at
  statement_plain =
      if_plain (codes "reftype") (λ ts. reftype_at i (behind ts)) (λ ts. if has (codes "iterator") ts then iterator_at v line i (behind ts) else if has (codes "slot") ts then slot_at v line i (behind ts) else if has (codes "field") ts then field_at line i (behind ts) else if has (codes "export") ts then export_at v line i (behind ts) else refused ts) (behind_plain (reftype_at i) (reftype_plain i))
      (if_plain (codes "iterator") (λ ts. iterator_at v line i (behind ts)) (λ ts. if has (codes "slot") ts then slot_at v line i (behind ts) else if has (codes "field") ts then field_at line i (behind ts) else if has (codes "export") ts then export_at v line i (behind ts) else refused ts) (behind_plain (iterator_at v line i) iterator_plain)
      (if_plain (codes "slot") (λ ts. slot_at v line i (behind ts)) (λ ts. if has (codes "field") ts then field_at line i (behind ts) else if has (codes "export") ts then export_at v line i (behind ts) else refused ts) (behind_plain (slot_at v line i) slot_plain)
      (if_plain (codes "field") (λ ts. field_at line i (behind ts)) (λ ts. if has (codes "export") ts then export_at v line i (behind ts) else refused ts) (behind_plain (field_at line i) field_plain)
      (if_plain (codes "export") (λ ts. export_at v line i (behind ts)) (λ ts. refused ts) (behind_plain (export_at v line i) export_plain) (refused_plain {A = Interface})))))

  pub statement_hungry : Hungry (statement_at v line i)
  unfolding statement_at
  statement_hungry =
      if_hungry (has (codes "reftype")) (λ ts. reftype_at i (behind ts)) (λ ts. if has (codes "iterator") ts then iterator_at v line i (behind ts) else if has (codes "slot") ts then slot_at v line i (behind ts) else if has (codes "field") ts then field_at line i (behind ts) else if has (codes "export") ts then export_at v line i (behind ts) else refused ts) (behind_hungry (reftype_at i) (reftype_plain i))
      (if_hungry (has (codes "iterator")) (λ ts. iterator_at v line i (behind ts)) (λ ts. if has (codes "slot") ts then slot_at v line i (behind ts) else if has (codes "field") ts then field_at line i (behind ts) else if has (codes "export") ts then export_at v line i (behind ts) else refused ts) (behind_hungry (iterator_at v line i) iterator_plain)
      (if_hungry (has (codes "slot")) (λ ts. slot_at v line i (behind ts)) (λ ts. if has (codes "field") ts then field_at line i (behind ts) else if has (codes "export") ts then export_at v line i (behind ts) else refused ts) (behind_hungry (slot_at v line i) slot_plain)
      (if_hungry (has (codes "field")) (λ ts. field_at line i (behind ts)) (λ ts. if has (codes "export") ts then export_at v line i (behind ts) else refused ts) (behind_hungry (field_at line i) field_plain)
      (if_hungry (has (codes "export")) (λ ts. export_at v line i (behind ts)) (λ ts. refused ts) (behind_hungry (export_at v line i) export_plain) (refused_hungry {A = Interface})))))
