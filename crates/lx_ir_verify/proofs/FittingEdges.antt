-- Edges that fit, by tables.
use Rattle.std.proofs.Common.{◌≡◌, ◌∙◌, refl, sym, ap, subst, ℕ, ◌+◌, ◌<◌, Bool, true, false, not, cond, ◌&&◌, ◌||◌, Option, Some, None, List, [], ◌∷◌, length, get_or, nat_eq, inl, inr}
use Rattle.std.specs.Prelude.{bytes_eq, find, is_some, option_map}
use Rattle.std.specs.List.{list_all, list_any}
use Rattle.std.proofs.lemmas.List.Folds.{list_any_at}
use Rattle.std.proofs.lemmas.Slice.Eq.{bytes_eq-Decides}
use Rattle.std.proofs.lemmas.Bool.{and_from, or_right}
use Rattle.lx_words.proofs.Tests.{eq_self, true_eq as numbers, false_true, first_of, second_of, same_tests, implied as unless}
use Rattle.lx_words.proofs.Lists.{bytes_itself}
use Rattle.lx_words.proofs.Options.{some_is as some_same}
use Rattle.lx_ir.specs.declared.instr.Edge.{Edge}
use Rattle.lx_ir.specs.declared.module.Block.{Block}
use Rattle.lx_ir.specs.declared.module.Function.{Function}
use Rattle.lx_ir.specs.declared.module.Value.{Value}
use Rattle.lx_ir.specs.Lookup.{blocks_of}
use Rattle.lx_ir.specs.Faults.{block_number, goes_to, has_block, is_predecessor, same_value, edges_fit}
use Rattle.lx_ir.proofs.Equality.{value_is}
use Rattle.lx_ir_walks.specs.Numbers.{is_number}
use Rattle.lx_ir_walks.specs.Sources.{ArePredecessors}
use Rattle.lx_ir_walks.proofs.Members.{In, any_in, in_any, all_in, in_all}
use Rattle.lx_ir_walks.proofs.FirstBlocks.{present, number_is, one_name}
use Rattle.lx_ir_verify.specs.Edges.{at_number, is_from, HasFirsts, is_first, edge_at, edge_by, AreBlocksOf}

-- Blocks of a function.

pub all_blocks : (f : Function) (bs : List Block) → bs ≡ blocks_of f → AreBlocksOf f bs
all_blocks f bs e label h = ap (list_any (λ (b : Block). bytes_eq b.name label)) (sym e) ∙ h

pub later_blocks : (f : Function) (b : Block) (bs : List Block) → AreBlocksOf f (b ∷ bs) → AreBlocksOf f bs
later_blocks f b bs h label e = h label (or_right (bytes_eq b.name label) (list_any (λ (c : Block). bytes_eq c.name label) bs) e)

pub block_at : (f : Function) (bs : List Block) (i : ℕ) (b : Block) → AreBlocksOf f bs → i < length bs → b ≡ get_or bs i b → has_block f b.name ≡ true
block_at f bs i b h lt e =
    h b.name (list_any_at (λ (c : Block). bytes_eq c.name b.name) bs i b lt (ap (λ (c : Block). bytes_eq c.name b.name) (sym e) ∙ bytes_itself b.name))

-- The first that passes.

abbrev Found : {A : Type 0} → (A → Bool) → List A → Type 0
Found {A} p xs = (x : A) × (find p xs ≡ Some x) × In x xs × (p x ≡ true)

found_by : {A : Type 0} (p : A → Bool) (x : A) (xs : List A) (b : Bool) → p x ≡ b → (list_any p xs ≡ true → Found p xs) → (b || list_any p xs) ≡ true → (y : A) × (cond b (Some x) (find p xs) ≡ Some y) × In y (x ∷ xs) × (p y ≡ true)
found_by p x xs true h more e = (x, refl, inl refl, h)
found_by p x xs false h more e = let r = more e in (r.0, r.1, inr r.2, r.3)

found : {A : Type 0} (p : A → Bool) (xs : List A) → list_any p xs ≡ true → Found p xs
found p [] e = false_true e
found p (x ∷ xs) e = found_by p x xs (p x) refl (found p xs) e

any_by : {A B : Type 0} (p : A → Bool) (g : A → B) (x : A) (xs : List A) (b : Bool) → (is_some (option_map g (find p xs)) ≡ true → list_any p xs ≡ true) → is_some (option_map g (cond b (Some x) (find p xs))) ≡ true → (b || list_any p xs) ≡ true
any_by p g x xs true more e = refl
any_by p g x xs false more e = more e

-- where something is found, something passes
passes : {A B : Type 0} (p : A → Bool) (g : A → B) (xs : List A) → is_some (option_map g (find p xs)) ≡ true → list_any p xs ≡ true
passes p g [] e = false_true e
passes p g (x ∷ xs) e = any_by p g x xs (p x) (passes p g xs) e

abbrev or_zero : Option ℕ → ℕ
or_zero None = 0
or_zero (Some n) = n

some_is : {A : Type 0} (o : Option A) → is_some o ≡ true → (x : A) × (o ≡ Some x)
some_is None e = false_true e
some_is (Some x) e = (x, refl)

is_some_of : {A : Type 0} (o : Option A) (x : A) → o ≡ Some x → is_some o ≡ true
is_some_of o x e = ap is_some e

-- a name that a block has has a number
number_of : (f : Function) (label : List ℕ) → has_block f label ≡ true → (n : ℕ) × (block_number f label ≡ Some n)
number_of f label e = some_is (block_number f label) (sym (present f label) ∙ e)

named_block : (f : Function) (b : Block) (label : List ℕ) → In b (blocks_of f) → bytes_eq b.name label ≡ true → has_block f label ≡ true
named_block f b label i e = any_in (λ (c : Block). bytes_eq c.name label) (blocks_of f) b i e

-- By tables, from the definition.

when : (a b : Bool) → (a ≡ true → b ≡ true) → (not a || b) ≡ true
when true b h = h refl
when false b h = refl

module _ (f : Function) (name : List ℕ) (edges : List Edge) (before : List ℕ) (firsts : List (ℕ × Value)) (p : ArePredecessors f name before) (h : HasFirsts f edges firsts) where
  abbrev from_predecessors : Bool
  from_predecessors = list_all (λ (e : Edge). is_predecessor f name e.label) edges

  abbrev names_all : Bool
  names_all = list_all (λ (b : Block). not (goes_to b name) || list_any (λ (e : Edge). bytes_eq e.label b.name) edges) (blocks_of f)

  abbrev agree : Bool
  agree = list_all (λ (e : Edge). list_all (λ (d : Edge). not (bytes_eq d.label e.label) || same_value d.value e.value) edges) edges

  abbrev by_edges : Bool
  by_edges = list_all (edge_by f before firsts) edges

  abbrev by_numbers : Bool
  by_numbers = list_all (λ (q : ℕ). is_some (at_number firsts q)) before

  from_here : (e : Edge) (n : ℕ) → block_number f e.label ≡ Some n → is_from f n e ≡ true
  from_here e n g = ap (λ o. is_number o n) g ∙ eq_self n

  -- what a first operand is
  first_edge : (e : Edge) (n : ℕ) → In e edges → block_number f e.label ≡ Some n → (d : Edge) × (at_number firsts n ≡ Some d.value) × In d edges × (d.label ≡ e.label)
  first_edge e n i g =
      let r = found (is_from f n) edges (any_in (is_from f n) edges e i (from_here e n g)) in
      (r.0, h n ∙ ap (option_map (λ (d : Edge). d.value)) r.1, r.2, one_name f r.0.label e.label n (number_is (block_number f r.0.label) n r.3) g)

  predecessor_there : (label : List ℕ) → is_predecessor f name label ≡ true → (b : Block) × In b (blocks_of f) × (bytes_eq b.name label ≡ true) × (goes_to b name ≡ true)
  predecessor_there label e =
      let r = in_any (λ (b : Block). bytes_eq b.name label && goes_to b name) (blocks_of f) e in
      (r.0, r.1, first_of (bytes_eq r.0.name label) (goes_to r.0 name) r.2, second_of (bytes_eq r.0.name label) (goes_to r.0 name) r.2)

  edge_there : (e : Edge) → In e edges → from_predecessors ≡ true → agree ≡ true → edge_by f before firsts e ≡ true
  edge_there e i a c =
      let is_there : is_predecessor f name e.label ≡ true = all_in (λ (x : Edge). is_predecessor f name x.label) edges e a i in
      let b = predecessor_there e.label is_there in
      let n = number_of f e.label (named_block f b.0 e.label b.1 b.2) in
      let d = first_edge e n.0 i n.1 in
      let same : same_value d.0.value e.value ≡ true =
      unless (bytes_eq d.0.label e.label) (same_value d.0.value e.value)
      (all_in (λ (x : Edge). not (bytes_eq x.label e.label) || same_value x.value e.value) edges d.0
      (all_in (λ (y : Edge). list_all (λ (x : Edge). not (bytes_eq x.label y.label) || same_value x.value y.value) edges) edges e c i) d.2)
      ((bytes_eq-Decides d.0.label e.label).1 d.3) in
      ap (edge_at before firsts e.value) n.1
      ∙ and_from (list_any (nat_eq n.0) before) (is_first (at_number firsts n.0) e.value) (p.told e.label n.0 n.1 ∙ is_there) (ap (λ o. is_first o e.value) d.1 ∙ same)

  number_there : (q : ℕ) → In q before → names_all ≡ true → is_some (at_number firsts q) ≡ true
  number_there q i c =
      let member : list_any (nat_eq q) before ≡ true = any_in (nat_eq q) before q i (eq_self q) in
      let label = p.named q member in
      let b = predecessor_there label.0 (sym (p.told label.0 q label.1) ∙ member) in
      let e = in_any (λ (x : Edge). bytes_eq x.label b.0.name) edges
      (unless (goes_to b.0 name) (list_any (λ (x : Edge). bytes_eq x.label b.0.name) edges) (all_in (λ (y : Block). not (goes_to y name) || list_any (λ (x : Edge). bytes_eq x.label y.name) edges) (blocks_of f) b.0 c b.1) b.3) in
      let same : e.0.label ≡ label.0 = (bytes_eq-Decides e.0.label b.0.name).0 e.2 ∙ (bytes_eq-Decides b.0.name label.0).0 b.2 in
      let d = first_edge e.0 q e.1 (ap (block_number f) same ∙ label.1) in
      is_some_of (at_number firsts q) d.0.value d.1

  -- The definition, from the tables.

  abbrev Numbered : Edge → Type 0
  Numbered e = (n : ℕ) × (block_number f e.label ≡ Some n) × (list_any (nat_eq n) before ≡ true) × (is_first (at_number firsts n) e.value ≡ true)

  numbered_by : (e : Edge) (o : Option ℕ) → block_number f e.label ≡ o → edge_at before firsts e.value o ≡ true → Numbered e
  numbered_by e None g t = false_true t
  numbered_by e (Some n) g t = (n, g, first_of (list_any (nat_eq n) before) (is_first (at_number firsts n) e.value) t, second_of (list_any (nat_eq n) before) (is_first (at_number firsts n) e.value) t)

  numbered : (e : Edge) → In e edges → by_edges ≡ true → Numbered e
  numbered e i a = numbered_by e (block_number f e.label) refl (all_in (edge_by f before firsts) edges e a i)

  comes_here : (e : Edge) → In e edges → by_edges ≡ true → is_predecessor f name e.label ≡ true
  comes_here e i a = let n = numbered e i a in sym (p.told e.label n.0 n.1) ∙ n.2

  named_here : (b : Block) → In b (blocks_of f) → by_numbers ≡ true → goes_to b name ≡ true → list_any (λ (e : Edge). bytes_eq e.label b.name) edges ≡ true
  named_here b i c g =
      let n = number_of f b.name (named_block f b b.name i (bytes_itself b.name)) in
      let is_there : is_predecessor f name b.name ≡ true = any_in (λ (x : Block). bytes_eq x.name b.name && goes_to x name) (blocks_of f) b i (and_from (bytes_eq b.name b.name) (goes_to b name) (bytes_itself b.name) g) in
      let q = in_any (nat_eq n.0) before (p.told b.name n.0 n.1 ∙ is_there) in
      let some : is_some (at_number firsts n.0) ≡ true = ap (λ k. is_some (at_number firsts k)) (numbers n.0 q.0 q.2) ∙ all_in (λ (k : ℕ). is_some (at_number firsts k)) before q.0 c q.1 in
      let e = in_any (is_from f n.0) edges (passes (is_from f n.0) (λ (x : Edge). x.value) edges (ap is_some (sym (h n.0)) ∙ some)) in
      let same : e.0.label ≡ b.name = one_name f e.0.label b.name n.0 (number_is (block_number f e.0.label) n.0 e.2) n.1 in
      any_in (λ (x : Edge). bytes_eq x.label b.name) edges e.0 e.1 ((bytes_eq-Decides e.0.label b.name).1 same)

  first_same : (o : Option Value) (u v : Value) → is_first o u ≡ true → is_first o v ≡ true → same_value u v ≡ true
  first_same None u v s t = false_true s
  first_same (Some w) u v s t = subst (λ x. same_value x v ≡ true) (value_is w u s) t

  agrees_here : (e d : Edge) → In e edges → In d edges → by_edges ≡ true → bytes_eq d.label e.label ≡ true → same_value d.value e.value ≡ true
  agrees_here e d i j a s =
      let n = numbered e i a in
      let m = numbered d j a in
      let one : m.0 ≡ n.0 = some_same m.0 n.0 (sym m.1 ∙ (ap (block_number f) ((bytes_eq-Decides d.label e.label).0 s) ∙ n.1)) in
      first_same (at_number firsts n.0) d.value e.value (ap (λ k. is_first (at_number firsts k) d.value) (sym one) ∙ m.3) n.3

  -- the tables say whether edges fit
  pub fits_by_tables : (by_edges && by_numbers) ≡ edges_fit f name edges
  fits_by_tables =
      same_tests (by_edges && by_numbers) (edges_fit f name edges)
      (λ t.
      let a : by_edges ≡ true = first_of by_edges by_numbers t in
      let c : by_numbers ≡ true = second_of by_edges by_numbers t in
      and_from (from_predecessors && names_all) agree
      (and_from from_predecessors names_all (in_all (λ (e : Edge). is_predecessor f name e.label) edges (λ e i. comes_here e i a))
      (in_all (λ (b : Block). not (goes_to b name) || list_any (λ (e : Edge). bytes_eq e.label b.name) edges) (blocks_of f) (λ b i. when (goes_to b name) (list_any (λ (e : Edge). bytes_eq e.label b.name) edges) (named_here b i c))))
      (in_all (λ (e : Edge). list_all (λ (d : Edge). not (bytes_eq d.label e.label) || same_value d.value e.value) edges) edges
      (λ e i. in_all (λ (d : Edge). not (bytes_eq d.label e.label) || same_value d.value e.value) edges (λ d j. when (bytes_eq d.label e.label) (same_value d.value e.value) (agrees_here e d i j a)))))
      (λ t.
      let front : (from_predecessors && names_all) ≡ true = first_of (from_predecessors && names_all) agree t in
      let c : agree ≡ true = second_of (from_predecessors && names_all) agree t in
      let a : from_predecessors ≡ true = first_of from_predecessors names_all front in
      let b : names_all ≡ true = second_of from_predecessors names_all front in
      and_from by_edges by_numbers (in_all (edge_by f before firsts) edges (λ e i. edge_there e i a c)) (in_all (λ (q : ℕ). is_some (at_number firsts q)) before (λ q i. number_there q i b)))
