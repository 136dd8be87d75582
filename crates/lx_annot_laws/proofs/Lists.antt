-- Lists of capabilities, actions and items hang on the tokens that they are, and on the one behind them.
use Rattle.std.proofs.Common.{◌≡◌, ℕ, zero, suc, ◌≤◌, Bool, true, false, Some, None, List, [], ◌∷◌, length, Ok, Err, refl, sym, ap, ◌∙◌, subst, arith, codes}
use Rattle.std.specs.Prelude.{if◌then◌else◌, ◌||◌}
use Rattle.lx_annot.specs.declared.action.CapSpec.{CapSpec}
use Rattle.lx_annot.specs.declared.action.CapSpec.TheVariants as spec
use Rattle.lx_annot.specs.declared.interface.Item.{Item}
use Rattle.lx_annot.specs.Expr.{Expr}
use Rattle.lx_annot.specs.Action.{Action, If}
use Rattle.lx_annot_expressions.specs.Tokens.{Tok}
use Rattle.lx_annot_expressions.specs.declared.fault.FaultKind.TheVariants.{Unknown, NeedsSize}
use Rattle.lx_annot_expressions.specs.Reading.{Read, ◌>>=◌, at, has, behind, refused, next_at, pick_at, always_refused, unless_word, steps_at, adding_at}
use Rattle.lx_annot_expressions.specs.Names.{known_of, known_at}
use Rattle.lx_annot_expressions.specs.Exprs.{Scope, expr_at, bracketed_at}
use Rattle.lx_annot_terms.specs.declared.lists.Within.{Within}
use Rattle.lx_annot_terms.specs.declared.lists.Within.TheVariants as within
use Rattle.lx_annot_terms.specs.Lists.{Known, ends, size_mark_at, range_at, target_at, reference_at, write_at, call_at, ref_at, each_at, list_at, ref_item_at, item_list_at}
use Rattle.lx_annot_terms.specs.Actions.{deed_of, action_of, deed_at, condition_at, action_within, action_at}
use Rattle.lx_annot_terms.specs.ItemReading.{guarded_item_at, plain_item_at, item_at, most_further_items, item_behind, items_at}
use Rattle.lx_annot_laws.proofs.Local.{Looks, has_looks, Same, Local, Plain, then_plain, last_plain, over_plain, refused_plain, other_fault, if_local, if_plain, bind_local, behind_local, fuel_local, own_local, next_plain, pick_plain}
use Rattle.lx_annot_laws.proofs.Loops.{bound_alike, shorter, further_each}
use Rattle.lx_annot_laws.proofs.Expressions.{expr_plain, enclosed_plain}

pub known_plain : (names : List (List ℕ)) → Plain (known_at names)
known_plain names = pick_plain (λ t. known_of names t.kind t.bytes) (unless_word Unknown)

ends_looks : (place : Within) (us vs : List Tok) → Looks us vs → ends place us ≡ ends place vs
ends_looks within.Action us vs l = has_looks (codes ")") us vs l
ends_looks within.Iterator us vs l = λ i. has_looks (codes ";") us vs l i || has_looks (codes "}") us vs l i

-- The comma before a size. Where the size is missed, the fault is at the `write`, wherever that stands, and of another kind.
size_mark_local : (place : Within) (w z : List Tok) → Local Same (size_mark_at place w) (size_mark_at place z)
size_mark_local place w z =
    if_local Same (has (codes ",")) (has (codes ",")) (has_looks (codes ",")) (λ ts. Ok (tt, behind ts)) (λ ts. Ok (tt, behind ts)) (λ ts. if ends place ts then Err (at NeedsSize w) else refused ts) (λ ts. if ends place ts then Err (at NeedsSize z) else refused ts) (over_plain tt)
    (if_local Same (ends place) (ends place) (ends_looks place) (λ ts. Err (at NeedsSize w)) (λ ts. Err (at NeedsSize z)) (λ ts. refused ts) (λ ts. refused ts) (other_fault {A = Unit {0}} Same (λ ts. at NeedsSize w) (λ ts. at NeedsSize z) (λ ts. refl)) (refused_plain {A = Unit {0}}))

module _ (scope : Scope) (known : Known) where
  abbrev with_size : Expr → Unit {0} × List Tok → Read CapSpec
  with_size a c = expr_at scope c.1 >>= λ n. Ok (spec.Write a n.0, n.1)

  sized_local : (place : Within) (w z : List Tok) (a : Expr) → Local Same (λ ts. size_mark_at place w ts >>= with_size a) (λ ts. size_mark_at place z ts >>= with_size a)
  sized_local place w z a =
      bind_local Same Same (size_mark_at place w) (size_mark_at place z) (λ ts. with_size a) (λ ts. with_size a) (size_mark_local place w z)
      (λ ts vs x y e. last_plain (expr_at scope) (λ n. spec.Write a n) (expr_plain scope))

  -- `E, E`
  range_local : (place : Within) (w z : List Tok) → Local Same (range_at place scope w) (range_at place scope z)
  range_local place w z =
      bind_local Same Same (expr_at scope) (expr_at scope) (λ ts a. size_mark_at place w a.1 >>= with_size a.0) (λ ts a. size_mark_at place z a.1 >>= with_size a.0) (expr_plain scope)
      (λ ts vs x y e. subst (λ b. Local Same (λ us. size_mark_at place w us >>= with_size x) (λ us. size_mark_at place z us >>= with_size b)) e (sized_local place w z x))

  target_plain : Plain (target_at scope)
  target_plain = last_plain (expr_at scope) (λ e. spec.Call e) (expr_plain scope)

  reference_plain : (ty : ℕ) → Plain (reference_at ty scope)
  reference_plain ty =
      then_plain (next_at (codes ",")) (λ c. expr_at scope c.1 >>= λ e. Ok (spec.Ref ty e.0, e.1)) (next_plain (codes ",")) (λ c. last_plain (expr_at scope) (λ e. spec.Ref ty e) (expr_plain scope))

  behind_next : (text : List ℕ) → Plain (λ ts. next_at text (behind ts))
  behind_next text = behind_local Same (next_at text) (next_at text) (next_plain text)

  write_plain : Plain (write_at scope)
  write_plain =
      bind_local Same Same (λ ts. next_at (codes ",") (behind ts)) (λ ts. next_at (codes ",") (behind ts)) (λ ts c. range_at within.Action scope ts c.1) (λ ts c. range_at within.Action scope ts c.1) (behind_next (codes ","))
      (λ ts vs x y e. range_local within.Action ts vs)

  call_plain : Plain (call_at scope)
  call_plain = then_plain (λ ts. next_at (codes ",") (behind ts)) (λ c. target_at scope c.1) (behind_next (codes ",")) (λ c. target_plain)

  ref_plain : Plain (ref_at scope known)
  ref_plain =
      then_plain (λ ts. next_at (codes "(") (behind ts)) (λ o. known_at known.reftypes o.1 >>= λ t. next_at (codes ")") t.1 >>= λ c. reference_at t.0 scope c.1) (behind_next (codes "("))
      (λ o. then_plain (known_at known.reftypes) (λ t. next_at (codes ")") t.1 >>= λ c. reference_at t.0 scope c.1) (known_plain known.reftypes)
      (λ t. then_plain (next_at (codes ")")) (λ c. reference_at t scope c.1) (next_plain (codes ")")) (λ c. reference_plain t)))

  each_plain : Plain (each_at scope known)
  each_plain =
      then_plain (known_at known.iterators) (λ k. bracketed_at (expr_at scope) k.1 >>= λ e. Ok (spec.Each k.0 e.0, e.1)) (known_plain known.iterators)
      (λ k. last_plain (bracketed_at (expr_at scope)) (λ e. spec.Each k e) (enclosed_plain scope))

  pub list_plain : Plain (list_at scope known)
  unfolding list_at
  list_plain =
      if_plain (codes "write") (write_at scope) (λ ts. if has (codes "call") ts then call_at scope ts else if has (codes "ref") ts then ref_at scope known ts else each_at scope known ts) write_plain
      (if_plain (codes "call") (call_at scope) (λ ts. if has (codes "ref") ts then ref_at scope known ts else each_at scope known ts) call_plain
      (if_plain (codes "ref") (ref_at scope known) (each_at scope known) ref_plain each_plain))

  ref_item_plain : Plain (ref_item_at scope known)
  ref_item_plain =
      then_plain (λ ts. known_at known.reftypes (behind ts)) (λ t. reference_at t.0 scope t.1) (behind_local Same (known_at known.reftypes) (known_at known.reftypes) (known_plain known.reftypes)) reference_plain

  range_item_plain : Plain (λ ts. range_at within.Iterator scope ts (behind ts))
  range_item_plain =
      own_local (λ w ts. range_at within.Iterator scope w (behind ts)) (λ w z. behind_local Same (range_at within.Iterator scope w) (range_at within.Iterator scope z) (range_local within.Iterator w z))

  item_list_plain : Plain (item_list_at scope known)
  unfolding item_list_at
  item_list_plain =
      if_plain (codes "write") (λ ts. range_at within.Iterator scope ts (behind ts)) (λ ts. if has (codes "call") ts then target_at scope (behind ts) else if has (codes "ref") ts then ref_item_at scope known ts else refused ts) range_item_plain
      (if_plain (codes "call") (λ ts. target_at scope (behind ts)) (λ ts. if has (codes "ref") ts then ref_item_at scope known ts else refused ts) (behind_local Same (target_at scope) (target_at scope) target_plain)
      (if_plain (codes "ref") (ref_item_at scope known) (λ ts. refused ts) ref_item_plain (refused_plain {A = CapSpec})))

  -- Actions.

  deed_plain : Plain (deed_at scope known)
  unfolding deed_at
  deed_plain =
      then_plain (pick_at (λ t. deed_of known.lends t.bytes) always_refused) (λ d. next_at (codes "(") d.1 >>= λ o. list_at scope known o.1 >>= λ l. next_at (codes ")") l.1 >>= λ c. Ok (action_of d.0 l.0, c.1)) (pick_plain (λ t. deed_of known.lends t.bytes) always_refused)
      (λ d. then_plain (next_at (codes "(")) (λ o. list_at scope known o.1 >>= λ l. next_at (codes ")") l.1 >>= λ c. Ok (action_of d l.0, c.1)) (next_plain (codes "("))
      (λ o. then_plain (list_at scope known) (λ l. next_at (codes ")") l.1 >>= λ c. Ok (action_of d l.0, c.1)) list_plain
      (λ l. last_plain (next_at (codes ")")) (λ c. action_of d l) (next_plain (codes ")")))))

  abbrev condition : (List Tok → Read Action) → List Tok → Read Action
  condition inner ts = bracketed_at (expr_at scope) ts >>= λ e. inner e.1 >>= λ a. Ok (If e.0 a.0, a.1)

  condition_plain : (inner : List Tok → Read Action) → Plain inner → Plain (condition_at scope inner)
  condition_plain inner h =
      behind_local Same (condition inner) (condition inner)
      (then_plain (bracketed_at (expr_at scope)) (λ e. inner e.1 >>= λ a. Ok (If e.0 a.0, a.1)) (enclosed_plain scope) (λ e. last_plain inner (λ a. If e a) h))

  within_plain : (n : ℕ) → Plain (action_within scope known n)
  unfolding action_within
  within_plain zero = refused_plain {A = Action}
  within_plain (suc n) = if_plain (codes "if") (condition_at scope (action_within scope known n)) (deed_at scope known) (condition_plain (action_within scope known n) (within_plain n)) deed_plain

  deed_none : deed_at scope known [] ≡ refused []
  unfolding deed_at
  deed_none = refl

  within_none : (n : ℕ) → action_within scope known n [] ≡ refused []
  unfolding action_within
  within_none zero = refl
  within_none (suc n) = deed_none

  within_by : (n m : ℕ) (t : Tok) (ts : List Tok) → ((us : List Tok) → length us ≤ length ts → action_within scope known n us ≡ action_within scope known m us) → (b : Bool)
      → (if b then condition_at scope (action_within scope known n) (t ∷ ts) else deed_at scope known (t ∷ ts)) ≡ (if b then condition_at scope (action_within scope known m) (t ∷ ts) else deed_at scope known (t ∷ ts))
  within_by n m t ts more true =
      bound_alike (bracketed_at (expr_at scope) ts) (bracketed_at (expr_at scope) ts) (λ e. action_within scope known n e.1 >>= λ a. Ok (If e.0 a.0, a.1)) (λ e. action_within scope known m e.1 >>= λ a. Ok (If e.0 a.0, a.1)) refl
      (λ x us e. ap (λ (r : Read Action). r >>= λ a. Ok (If x a.0, a.1)) (more us (shorter (bracketed_at (expr_at scope)) (enclosed_plain scope) ts us x e)))
  within_by n m t ts more false = refl

  within_enough : (n m : ℕ) (ts : List Tok) → length ts ≤ n → length ts ≤ m → action_within scope known n ts ≡ action_within scope known m ts
  unfolding action_within
  within_enough n m [] le le' = within_none n ∙ sym (within_none m)
  within_enough zero m (t ∷ ts) le le' = absurd (omega (arith, le))
  within_enough (suc n) zero (t ∷ ts) le le' = absurd (omega (arith, le'))
  within_enough (suc n) (suc m) (t ∷ ts) le le' =
      within_by n m t ts (λ us less. within_enough n m us (omega (arith, less, le)) (omega (arith, less, le'))) (has (codes "if") (t ∷ ts))

  pub action_plain : Plain (action_at scope known)
  unfolding action_at
  action_plain = fuel_local Same (action_within scope known) (action_within scope known) within_enough within_enough within_plain

  -- Items.

  abbrev guarded : List Tok → Read Item
  guarded ts = bracketed_at (expr_at scope) ts >>= λ e. item_list_at scope known e.1 >>= λ l. Ok (record { cond = Some e.0; cap = l.0 }, l.1)

  guarded_plain : Plain (guarded_item_at scope known)
  guarded_plain =
      behind_local Same guarded guarded
      (then_plain (bracketed_at (expr_at scope)) (λ e. item_list_at scope known e.1 >>= λ l. Ok (record { cond = Some e.0; cap = l.0 }, l.1)) (enclosed_plain scope)
      (λ e. last_plain (item_list_at scope known) (λ l. record { cond = Some e; cap = l }) item_list_plain))

  item_plain : Plain (item_at scope known)
  unfolding item_at
  item_plain = if_plain (codes "if") (guarded_item_at scope known) (plain_item_at scope known) guarded_plain (last_plain (item_list_at scope known) (λ l. record { cond = None; cap = l }) item_list_plain)

  pub items_plain : Plain (items_at scope known)
  unfolding items_at
  items_plain =
      then_plain (item_at scope known) (λ x. steps_at (has (codes ";")) (adding_at (item_behind scope known)) most_further_items (x.0 ∷ []) x.1) item_plain (λ x. further_each (item_behind scope known) (λ before. item_plain) (codes ";") most_further_items (x ∷ []))
