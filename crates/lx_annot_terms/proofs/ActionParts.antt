-- Actions and items: what is read is in the grammar, and what is in the grammar is read.
use Rattle.std.proofs.Common.{◌≡◌, ℕ, zero, suc, Bool, true, false, cond, Option, Some, None, List, [], ◌∷◌, ◌++◌, length, Ok, refl, sym, ap, ◌∙◌, subst, bytes_eq, codes, ◌+◌, ◌≤◌, append_assoc, arith}
use Rattle.std.specs.Prelude.{if◌then◌else◌, ◌&&◌}
use Rattle.std.specs.Map.{lookup}
use Rattle.lx_annot.specs.declared.action.CapSpec.{CapSpec}
use Rattle.lx_annot.specs.declared.interface.Item.{Item}
use Rattle.lx_annot.specs.Action.{Action, If, Copy, Transfer, Check, Lend, End}
use Rattle.lx_annot_terms.specs.declared.actions.Deed.{Deed}
use Rattle.lx_annot_terms.specs.declared.actions.Deed.TheVariants as deed
use Rattle.lx_annot_expressions.specs.Tokens.{Tok}
use Rattle.lx_annot_expressions.specs.Reading.{Read, ◌>>=◌, has, behind, next_at, pick_at, always_refused}
use Rattle.lx_annot_expressions.specs.Exprs.{Scope, expr_at, bracketed_at}
use Rattle.lx_annot_terms.specs.Lists.{Known, list_at, item_list_at}
use Rattle.lx_annot_terms.specs.Actions.{deeds, deed_of, action_of, deed_at, condition_at, action_within, action_at}
use Rattle.lx_annot_terms.specs.ItemReading.{guarded_item_at, plain_item_at, item_at}
use Rattle.lx_annot_expressions.specs.Grammar.{Part, Picks, Is, ◌then◌, InBrackets}
use Rattle.lx_annot_terms.specs.Grammar.{IsList, IsItemList, IsAction, IsItem, IsDeed}
use Rattle.lx_annot_expressions.specs.Laws.{Finds, Reads}
use Rattle.lx_annot_expressions.proofs.Parts.{pick_finds, next_finds, next_token, bind_finds, last_finds, Joint, Mapped, next_reads, bind_reads, last_reads}
use Rattle.lx_annot_terms.proofs.ListFinds.{list_found, item_list_found, bracketed_finds}
use Rattle.std.proofs.lemmas.List.{length-append}
use Rattle.std.proofs.lemmas.Slice.Eq.{bytes_eq-Decides}
use Rattle.lx_annot_terms.proofs.ListReads.{Closes, bracket_alone, brackets_read, list_read}

abbrev word_of : Deed → List ℕ
word_of deed.Copy = codes "copy"
word_of deed.Transfer = codes "transfer"
word_of deed.Check = codes "check"
word_of deed.Lend = codes "lend"

-- a lend stands only where it may
abbrev May : Bool → Deed → Type 0
May lends deed.Copy = Unit {0}
May lends deed.Transfer = Unit {0}
May lends deed.Check = Unit {0}
May lends deed.Lend = lends ≡ true

abbrev Worded : Bool → List ℕ → Deed → Type 0
Worded lends bytes d = (bytes_eq bytes (word_of d) ≡ true) × May lends d

table_step : (lends : Bool) (bytes : List ℕ) (d : Deed) (a b c : Bool) → bytes_eq bytes (codes "copy") ≡ a → bytes_eq bytes (codes "transfer") ≡ b → bytes_eq bytes (codes "check") ≡ c → cond a (Some deed.Copy) (cond b (Some deed.Transfer) (cond c (Some deed.Check) None)) ≡ Some d → Worded lends bytes d
table_step lends bytes d true b c p q r h = let s : deed.Copy ≡ d = cc in subst (Worded lends bytes) s (p, tt)
table_step lends bytes d false true c p q r h = let s : deed.Transfer ≡ d = cc in subst (Worded lends bytes) s (q, tt)
table_step lends bytes d false false true p q r h = let s : deed.Check ≡ d = cc in subst (Worded lends bytes) s (r, tt)
table_step lends bytes d false false false p q r h = cc

abbrev deed_by : List ℕ → Bool → Option Deed
deed_by bytes b = if b then Some deed.Lend else lookup (bytes_eq bytes) deeds

deed_step : (lends : Bool) (bytes : List ℕ) (d : Deed) (w l : Bool) → bytes_eq bytes (codes "lend") ≡ w → lends ≡ l → deed_by bytes (w && l) ≡ Some d → Worded lends bytes d
deed_step lends bytes d true true p q h = let s : deed.Lend ≡ d = cc in subst (Worded lends bytes) s (p, q)
deed_step lends bytes d true false p q h =
    table_step lends bytes d (bytes_eq bytes (codes "copy")) (bytes_eq bytes (codes "transfer")) (bytes_eq bytes (codes "check")) refl refl refl h
deed_step lends bytes d false l p q h =
    table_step lends bytes d (bytes_eq bytes (codes "copy")) (bytes_eq bytes (codes "transfer")) (bytes_eq bytes (codes "check")) refl refl refl h

deed_word : (lends : Bool) (bytes : List ℕ) (d : Deed) → deed_of lends bytes ≡ Some d → Worded lends bytes d
unfolding deed_of
deed_word lends bytes d h = deed_step lends bytes d (bytes_eq bytes (codes "lend")) lends refl refl h

module _ (scope : Scope) (known : Known) where
  abbrev Inside : CapSpec → Part
  Inside list = Is (codes "(") then IsList scope known list then Is (codes ")")

  deed_part : (d : Deed) (list : CapSpec) (t : Tok) (ts : List Tok) → Worded known.lends t.bytes d → Inside list ts → IsAction scope known (action_of d list) (t ∷ ts)
  deed_part deed.Copy list t ts (h, may) p = (t ∷ [], ts, (t, h, refl), p, refl)
  deed_part deed.Transfer list t ts (h, may) p = (t ∷ [], ts, (t, h, refl), p, refl)
  deed_part deed.Check list t ts (h, may) p = (t ∷ [], ts, (t, h, refl), p, refl)
  deed_part deed.Lend list t ts (h, may) p = (may, (t ∷ [], ts, (t, h, refl), p, refl))

  abbrev DeedParts : Action → Part
  DeedParts = Joint (λ d. Picks (λ (t : Tok). deed_of known.lends t.bytes) d) (λ d. Joint (λ (o : Unit {0}). Is (codes "(")) (λ o. Joint (IsList scope known) (λ l. Mapped (λ (c : Unit {0}). action_of d l) (λ c. Is (codes ")")))))

  deed_parts : (a : Action) (ts : List Tok) → DeedParts a ts → IsAction scope known a ts
  deed_parts a ts (d, (f, b, (t, e, ft), (o, (g, h, po, (l, (i, j, pl, (c, pc, eq), e3)), e2)), e1)) =
      subst (λ z. IsAction scope known z ts) eq
      (subst (λ z. IsAction scope known (action_of d l) z) (sym (e1 ∙ ap (λ x. x ++ b) ft)) (deed_part d l t b (deed_word known.lends t.bytes d e) (g, h, po, (i, j, pl, pc, e3), e2)))

  deed_found : Finds (deed_at scope known) (IsAction scope known)
  unfolding deed_at
  deed_found ts us y r =
      let w = bind_finds (pick_at (λ t. deed_of known.lends t.bytes) always_refused) (λ d. next_at (codes "(") d.1 >>= λ o. list_at scope known o.1 >>= λ l. next_at (codes ")") l.1 >>= λ c. Ok (action_of d.0 l.0, c.1)) _ _ (pick_finds (λ t. deed_of known.lends t.bytes) always_refused)
      (λ d. bind_finds (next_at (codes "(")) (λ o. list_at scope known o.1 >>= λ l. next_at (codes ")") l.1 >>= λ c. Ok (action_of d l.0, c.1)) _ _ (next_finds (codes "("))
      (λ o. bind_finds (list_at scope known) (λ l. next_at (codes ")") l.1 >>= λ c. Ok (action_of d l.0, c.1)) _ _ (list_found scope known)
      (λ l. last_finds (next_at (codes ")")) (λ c. action_of d l) (λ (c : Unit {0}). Is (codes ")")) (next_finds (codes ")"))))) ts us y r in
      (w.0, deed_parts y w.0 w.1, w.2)

  abbrev ConditionParts : Action → Part
  ConditionParts = Joint (InBrackets scope) (λ e. Mapped (λ (a : Action). If e a) (IsAction scope known))

  condition_part : (y : Action) (k : Tok) (ts : List Tok) → has (codes "if") (k ∷ []) ≡ true → ConditionParts y ts → IsAction scope known y (k ∷ ts)
  condition_part y k ts h (e, (f, b, pe, (a, pa, eq), w)) = subst (λ z. IsAction scope known z (k ∷ ts)) eq (k ∷ [], ts, (k, h, refl), (f, b, pe, pa, w), refl)

  condition_found : (inner : List Tok → Read Action) → Finds inner (IsAction scope known) → (ts us : List Tok) (y : Action) → has (codes "if") ts ≡ true → condition_at scope inner ts ≡ Ok (y, us) → (front : List Tok) × IsAction scope known y front × (ts ≡ front ++ us)
  condition_found inner h ts us y o r =
      let w = bind_finds (bracketed_at (expr_at scope)) (λ e. inner e.1 >>= λ a. Ok (If e.0 a.0, a.1)) _ _ (bracketed_finds scope known) (λ e. last_finds inner (λ a. If e a) _ h) (behind ts) us y r in
      let n = next_token (codes "if") ts o in
      (n.token ∷ w.0, condition_part y n.token w.0 n.is w.1, n.whole ∙ ap (λ x. n.token ∷ x) w.2)

  abbrev action_by : (List Tok → Read Action) → Bool → List Tok → Read Action
  action_by inner b ts = if b then condition_at scope inner ts else deed_at scope known ts

  action_step : (inner : List Tok → Read Action) → Finds inner (IsAction scope known) → (b : Bool) (ts us : List Tok) (y : Action) → has (codes "if") ts ≡ b → action_by inner b ts ≡ Ok (y, us) → (front : List Tok) × IsAction scope known y front × (ts ≡ front ++ us)
  action_step inner h true ts us y o r = condition_found inner h ts us y o r
  action_step inner h false ts us y o r = deed_found ts us y r

  action_within_found : (fuel : ℕ) → Finds (action_within scope known fuel) (IsAction scope known)
  unfolding action_within
  action_within_found zero ts us y r = cc
  action_within_found (suc n) ts us y r = action_step (action_within scope known n) (action_within_found n) (has (codes "if") ts) ts us y refl r

  -- what is read as an action is in the grammar
  pub action_found : Finds (action_at scope known) (IsAction scope known)
  unfolding action_at
  action_found ts us y r = action_within_found (length ts) ts us y r

  abbrev PlainParts : Item → Part
  PlainParts = Mapped (λ (l : CapSpec). record { cond = None; cap = l }) (IsItemList scope known)

  plain_part : (y : Item) (ts : List Tok) → PlainParts y ts → IsItem scope known y ts
  plain_part y ts (l, p, eq) = subst (λ z. IsItem scope known z ts) eq p

  abbrev GuardedParts : Item → Part
  GuardedParts = Joint (InBrackets scope) (λ e. Mapped (λ (l : CapSpec). record { cond = Some e; cap = l }) (IsItemList scope known))

  guarded_part : (y : Item) (k : Tok) (ts : List Tok) → has (codes "if") (k ∷ []) ≡ true → GuardedParts y ts → IsItem scope known y (k ∷ ts)
  guarded_part y k ts h (e, (f, b, pe, (l, pl, eq), w)) = subst (λ z. IsItem scope known z (k ∷ ts)) eq (k ∷ [], ts, (k, h, refl), (f, b, pe, pl, w), refl)

  abbrev item_by : Bool → List Tok → Read Item
  item_by b ts = if b then guarded_item_at scope known ts else plain_item_at scope known ts

  item_step : (b : Bool) (ts us : List Tok) (y : Item) → has (codes "if") ts ≡ b → item_by b ts ≡ Ok (y, us) → (front : List Tok) × IsItem scope known y front × (ts ≡ front ++ us)
  item_step true ts us y o r =
      let w = bind_finds (bracketed_at (expr_at scope)) (λ e. item_list_at scope known e.1 >>= λ l. Ok (record { cond = Some e.0; cap = l.0 }, l.1)) _ _ (bracketed_finds scope known) (λ e. last_finds (item_list_at scope known) (λ l. record { cond = Some e; cap = l }) _ (item_list_found scope known)) (behind ts) us y r in
      let n = next_token (codes "if") ts o in
      (n.token ∷ w.0, guarded_part y n.token w.0 n.is w.1, n.whole ∙ ap (λ x. n.token ∷ x) w.2)
  item_step false ts us y o r =
      let w = last_finds (item_list_at scope known) (λ l. record { cond = None; cap = l }) _ (item_list_found scope known) ts us y r in
      (w.0, plain_part y w.0 w.1, w.2)

  -- what is read as an item is in the grammar
  pub item_found : Finds (item_at scope known) (IsItem scope known)
  unfolding item_at
  item_found ts us y r = item_step (has (codes "if") ts) ts us y refl r

-- What is in the grammar is read.

words : (lends : Bool) → (deed_of lends (codes "copy") ≡ Some deed.Copy) × (deed_of lends (codes "transfer") ≡ Some deed.Transfer) × (deed_of lends (codes "check") ≡ Some deed.Check)
unfolding deed_of
words lends = (refl, refl, refl)

lend_word : (lends : Bool) → lends ≡ true → deed_of lends (codes "lend") ≡ Some deed.Lend
unfolding deed_of
lend_word true h = refl
lend_word false h = cc

module _ (scope : Scope) (known : Known) where
  list_then : {B : Type 0} (g : CapSpec × List Tok → Read B) (l : CapSpec) (y : B) (q : Part) → Closes q → Reads (λ us. g (l, us)) y q → Reads (λ ts. list_at scope known ts >>= g) y (IsList scope known l then q)
  list_then g l y q closed k ts us (front, back, a, b, w) = rw (w, append_assoc front back us, list_read scope known l front (back ++ us) (closed back us b) a) (k back us b)

  deed_reads : (d : Deed) (list : CapSpec) → Reads (λ ts. next_at (codes "(") ts >>= λ o. list_at scope known o.1 >>= λ l. next_at (codes ")") l.1 >>= λ c. Ok (action_of d l.0, c.1)) (action_of d list) (Is (codes "(") then IsList scope known list then Is (codes ")"))
  deed_reads d list =
      bind_reads (next_at (codes "(")) (λ o. list_at scope known o.1 >>= λ l. next_at (codes ")") l.1 >>= λ c. Ok (action_of d l.0, c.1)) tt (action_of d list) _ _ (next_reads (codes "("))
      (list_then (λ l. next_at (codes ")") l.1 >>= λ c. Ok (action_of d l.0, c.1)) list (action_of d list) _ bracket_alone
      (last_reads (next_at (codes ")")) (λ c. action_of d list) tt _ (next_reads (codes ")"))))

  deed_begins : (d : Deed) (t : Tok) (us : List Tok) → deed_of known.lends t.bytes ≡ Some d → deed_at scope known (t ∷ us) ≡ (next_at (codes "(") us >>= λ o. list_at scope known o.1 >>= λ l. next_at (codes ")") l.1 >>= λ c. Ok (action_of d l.0, c.1))
  unfolding deed_at
  deed_begins d t us h = rw h refl

  plain_action : (n : ℕ) (ts : List Tok) → has (codes "if") ts ≡ false → action_within scope known (suc n) ts ≡ deed_at scope known ts
  unfolding action_within
  plain_action n ts h = rw h refl

  guarded_action : (n : ℕ) (ts us : List Tok) (y : Action) → has (codes "if") ts ≡ true → condition_at scope (action_within scope known n) ts ≡ Ok (y, us) → action_within scope known (suc n) ts ≡ Ok (y, us)
  unfolding action_within
  guarded_action n ts us y h e = rw (h, e) refl

  deed_within : (word : List ℕ) (d : Deed) (list : CapSpec) (fuel : ℕ) (ts us : List Tok) → deed_of known.lends word ≡ Some d → bytes_eq word (codes "if") ≡ false → IsDeed word scope known list ts → length ts ≤ fuel → action_within scope known fuel (ts ++ us) ≡ Ok (action_of d list, us)
  deed_within word d list zero ts us e o (f, b, (t, h, g), p, w) le = let n : length ts ≡ suc (length b) = ap length (w ∙ ap (λ x. x ++ b) g) in absurd (omega (arith, n, le))
  deed_within word d list (suc n) ts us e o (f, b, (t, h, g), p, w) le =
      let whole : ts ++ us ≡ t ∷ (b ++ us) = ap (λ x. x ++ us) (w ∙ ap (λ x. x ++ b) g) in
      let same : t.bytes ≡ word = (bytes_eq-Decides t.bytes word).0 h in
      subst (λ x. action_within scope known (suc n) x ≡ Ok (action_of d list, us)) (sym whole)
      (plain_action n (t ∷ (b ++ us)) (ap (λ x. bytes_eq x (codes "if")) same ∙ o) ∙ deed_begins d t (b ++ us) (ap (deed_of known.lends) same ∙ e) ∙ deed_reads d list b us p)

  action_read_within : (a : Action) (fuel : ℕ) (ts us : List Tok) → IsAction scope known a ts → length ts ≤ fuel → action_within scope known fuel (ts ++ us) ≡ Ok (a, us)
  action_read_within (Copy list) fuel ts us p le = deed_within (codes "copy") deed.Copy list fuel ts us (words known.lends).0 refl p le
  action_read_within (Transfer list) fuel ts us p le = deed_within (codes "transfer") deed.Transfer list fuel ts us (words known.lends).1 refl p le
  action_read_within (Check list) fuel ts us p le = deed_within (codes "check") deed.Check list fuel ts us (words known.lends).2 refl p le
  action_read_within (Lend list) fuel ts us (may, p) le = deed_within (codes "lend") deed.Lend list fuel ts us (lend_word known.lends may) refl p le
  action_read_within (End k) fuel ts us p le = absurd p
  action_read_within (If e a) zero ts us (f, b, (t, h, g), p, w) le = let n : length ts ≡ suc (length b) = ap length (w ∙ ap (λ x. x ++ b) g) in absurd (omega (arith, n, le))
  action_read_within (If e a) (suc n) ts us (f, b, (t, h, g), (f', b', pe, pa, w'), w) le =
      let all : ts ≡ t ∷ (f' ++ b') = w ∙ ap (λ x. x ++ b) g ∙ ap (λ x. t ∷ x) w' in
      let whole : ts ++ us ≡ t ∷ (f' ++ (b' ++ us)) = ap (λ x. x ++ us) all ∙ ap (λ x. t ∷ x) (append_assoc f' b' us) in
      let size : length ts ≡ suc (length f' + length b') = ap length all ∙ ap suc (length-append f' b') in
      let inner = action_read_within a n b' us pa (omega (arith, size, le)) in
      subst (λ x. action_within scope known (suc n) x ≡ Ok (If e a, us)) (sym whole)
      (guarded_action n (t ∷ (f' ++ (b' ++ us))) us (If e a) h (rw (brackets_read scope e f' (b' ++ us) pe, inner) refl))

  -- the tokens of an action are read as it
  pub action_read : (a : Action) → Reads (action_at scope known) a (IsAction scope known a)
  unfolding action_at
  action_read a ts us p = let size : length (ts ++ us) ≡ length ts + length us = length-append ts us in action_read_within a (length (ts ++ us)) ts us p (omega (arith, size))

  pub plain_item : (ts us : List Tok) (y : Item) → has (codes "if") ts ≡ false → plain_item_at scope known ts ≡ Ok (y, us) → item_at scope known ts ≡ Ok (y, us)
  unfolding item_at
  plain_item ts us y h e = rw (h, e) refl

  pub guarded_item : (ts us : List Tok) (y : Item) → has (codes "if") ts ≡ true → guarded_item_at scope known ts ≡ Ok (y, us) → item_at scope known ts ≡ Ok (y, us)
  unfolding item_at
  guarded_item ts us y h e = rw (h, e) refl
