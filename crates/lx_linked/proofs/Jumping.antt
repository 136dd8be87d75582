-- Control comes to another block, whose phis have values as wide as their types.
use Rattle.std.proofs.Common.{◌≡◌, ℕ, zero, suc, ◌+◌, ◌<◌, ◌≤◌, Bool, true, false, not, ◌&&◌, ◌||◌, List, [], ◌∷◌, length, map, take, Option, Some, None, ◌⊎◌, inl, inr, refl, sym, subst, ◌∙◌, ap, arith, get_or, eqb-true}
use Rattle.std.specs.Prelude.{slice_get, slice_set, slice_index_or, nat_eq, nat_lt, filter_map, find, position, bytes_eq, unwrap_or, option_map, cond}
use Rattle.std.specs.List.{list_any, list_all, position_or_len}
use Rattle.std.proofs.lemmas.List.Quantifiers.{position-Some}
use Rattle.std.proofs.lemmas.Option.{slice_get-get_or, slice_get_within}
use Rattle.std.proofs.lemmas.Bool.{eqb-false}
use Rattle.lx_words.specs.Word.{Word}
use Rattle.lx_words.proofs.Tests.{eq_self, true_false, first_of, second_of, less_most, one_less, or_nothing, not_or}
use Rattle.lx_words.proofs.Options.{none_some, some_same}
use Rattle.lx_words.proofs.Lists.{bytes_itself, same_bytes, index_map, all_taken}
use Rattle.lx_ir.specs.declared.types.Scalar.{Scalar}
use Rattle.lx_ir.specs.declared.module.Block.{Block}
use Rattle.lx_ir.specs.declared.module.Function.{Function}
use Rattle.lx_ir.specs.declared.module.Module.{Module}
use Rattle.lx_ir.specs.declared.instr.Argument.{Argument}
use Rattle.lx_ir.specs.declared.instr.Edge.{Edge}
use Rattle.lx_ir.specs.declared.instr.Instr.{Instr}
use Rattle.lx_ir.specs.declared.instr.Op.{Op}
use Rattle.lx_ir.specs.declared.instr.Op.TheVariants as op
use Rattle.lx_ir.specs.Layout.{width_of}
use Rattle.lx_ir.specs.Lookup.{blocks_of, instrs_of}
use Rattle.lx_ir.specs.Lawful.{is_distinct}
use Rattle.lx_ir.specs.Operands.{argument, given_by, is_phi, is_terminator, operands_of, register_count, register_types, result_of, targets_of}
use Rattle.lx_ir.specs.Faults.{Walk, instrs_at, no_instrs, is_given, assigns, walk_assigns, block_number, has_edge, successors_of, exits_of, exits_by, last_of, goes_to, edges_fit, is_predecessor, same_value, op_edges_fit, value_fits, form_fits}
use Rattle.lx_model.specs.declared.program.Program.{Program}
use Rattle.lx_model.specs.Thread.{CodeBlock, Activation, zero_word}
use Rattle.lx_model.specs.Effect.{operand, edge_value, with_phi, with_phis, without_phis, code_block_named}
use Rattle.lx_images.specs.Places.{IsIn}
use Rattle.lx_simulation.proofs.Elements.{all_in, any_of, in_got, in_map}
use Rattle.lx_simulation.proofs.Verifying.{op_of, gives_known}
use Rattle.lx_simulation.proofs.Verifying.{name_of_block as block_name}
use Rattle.lx_simulation.proofs.Walking.{is_assigned, register_set, register_here, Arrives, arrives, assigned_more}
use Rattle.lx_simulation.proofs.Jumping.{at_block, in_filter, ends_at, got_body, one_length, phis_length, in_taken}
use Rattle.lx_linked.specs.Threads.{has_value, name_of_block, RunsAt}
use Rattle.lx_linked.proofs.Functions.{Known, given_type}
use Rattle.lx_linked.proofs.FittingReads.{edge_valued, given_in}
use Rattle.lx_linked.proofs.FittingFrames.{Wide, Stands, operand_wide}
use Rattle.lx_linked.proofs.AssignedReads.{block_instr, named_number}

-- blocks by their names

distinct_cases : (c : Block) (bs : List Block) (b : Block) (found : Bool) → bytes_eq c.name b.name ≡ found → (not (list_any (bytes_eq c.name) (map block_name bs)) && is_distinct (map block_name bs)) ≡ true → IsIn b bs → found ≡ false
distinct_cases c bs b false e d i = refl
distinct_cases c bs b true e d i =
    sym (sym (ap not (any_of (bytes_eq c.name) (map block_name bs) b.name (in_map block_name b bs i) e)) ∙ first_of (not (list_any (bytes_eq c.name) (map block_name bs))) (is_distinct (map block_name bs)) d)

placed : (bs : List Block) (k : ℕ) (b : Block) → is_distinct (map block_name bs) ≡ true → slice_get bs k ≡ Some b → position_or_len (λ (x : Block). bytes_eq x.name b.name) bs ≡ k
placed [] k b d e = none_some e
placed (c ∷ bs) zero b d e =
    ap (λ (y : Bool). cond (not y) (1 + position_or_len (λ (x : Block). bytes_eq x.name b.name) bs) 0) (ap (λ (x : Block). bytes_eq x.name b.name) (some_same e) ∙ bytes_itself b.name)
placed (c ∷ bs) (suc k) b d e =
    let other : bytes_eq c.name b.name ≡ false = distinct_cases c bs b (bytes_eq c.name b.name) refl d (in_got bs k b e) in
    let rest = placed bs k b (second_of (not (list_any (bytes_eq c.name) (map block_name bs))) (is_distinct (map block_name bs)) d) e in
    ap (λ (y : Bool). cond (not y) (1 + position_or_len (λ (x : Block). bytes_eq x.name b.name) bs) 0) other ∙ (ap (λ (n : ℕ). 1 + n) rest ∙ one_more k) where
      one_more : (n : ℕ) → 1 + n ≡ suc n
      one_more n = omega arith

placed_number : {A : Type 0} (p : A → Bool) (xs : List A) (k : ℕ) (x : A) → position_or_len p xs ≡ k → slice_get xs k ≡ Some x → position p xs ≡ Some k
placed_number p xs k x e g = let l : k < length xs = slice_get_within xs k x g in grind (arith, l, e)

-- the block that control comes to has the label
target_name : (g : Function) (label : List ℕ) (k : ℕ) (b : Block) → block_number g label ≡ Some k → slice_get (blocks_of g) k ≡ Some b → b.name ≡ label
target_name g label k b en eb =
    let found = position-Some (λ (x : Block). bytes_eq x.name label) (blocks_of g) k b en in
    ap block_name (some_same (sym eb ∙ slice_get-get_or (blocks_of g) k b found.0)) ∙ same_bytes (get_or (blocks_of g) k b).name label found.1

-- the end of a block

exits_are : (b : Block) (i : Instr) (o : Op) → last_of b.instrs ≡ Some i → i.op ≡ o → exits_of b ≡ targets_of o
exits_are b i o el eo = ap exits_by el ∙ ap targets_of eo

edge : (g : Function) (k to : ℕ) (b : Block) (o : Op) (label : List ℕ) → slice_get (blocks_of g) k ≡ Some b → exits_of b ≡ targets_of o → IsIn label (targets_of o) → block_number g label ≡ Some to → has_edge g k to ≡ true
edge g k to b o label eb exits at en =
    ap (λ (ks : List ℕ). list_any (λ (n : ℕ). nat_eq n to) ks) (index_map (successors_of g) (blocks_of g) k b [] eb ∙ ap (filter_map (block_number g)) exits)
    ∙ any_of (λ (n : ℕ). nat_eq n to) (filter_map (block_number g) (targets_of o)) to (in_filter (block_number g) label to (targets_of o) at en) (eq_self to)

-- registers behind phis

-- some phi of these instructions gives the register
abbrev InPhis : List Op → ℕ → Type 0
InPhis os r = (o : Op) × IsIn o os × (is_phi o ≡ true) × (given_by o ≡ Some r)

abbrev WideOn : Function → (ℕ → Type 0) → List Word → Type 0
WideOn g Q rs = (r : ℕ) (ty : Scalar) → slice_get (register_types g) r ≡ Some ty → Q r → (slice_index_or rs r zero_word).width ≡ width_of ty

-- a phi gives a register of its type a word as wide
abbrev PhiWide : Program → Function → Activation → Op → Type 0
PhiWide p g a (op.Phi to ty edges) = (slice_get (register_types g) to ≡ Some ty) × (to < register_count g) × ((edge_value p a edges).width ≡ width_of ty)
PhiWide p g a o = Unit {0}

put_cases : (g : Function) (Q : ℕ → Type 0) (rs : List Word) (to : ℕ) (ty : Scalar) (w : Word) (b : Bool) → slice_get (register_types g) to ≡ Some ty → to < length rs → w.width ≡ width_of ty → WideOn g Q rs →
    (r : ℕ) (t : Scalar) → nat_eq to r ≡ b → slice_get (register_types g) r ≡ Some t → (Q r ⊎ (to ≡ r)) → (slice_index_or (slice_set rs to w) r zero_word).width ≡ width_of t
put_cases g Q rs to ty w true et within ew wide r t eb er q =
    let same : to ≡ r = eqb-true to r eb in
    ap (λ (n : ℕ). (slice_index_or (slice_set rs to w) n zero_word).width) (sym same)
    ∙ (ap (λ (x : Word). x.width) (register_here rs to w within) ∙ (ew ∙ ap width_of (some_same (sym et ∙ (ap (slice_get (register_types g)) same ∙ er)))))
put_cases g Q rs to ty w false et within ew wide r t eb er (inl q) = ap (λ (x : Word). x.width) (register_set rs to r w (eqb-false to r eb)) ∙ wide r t er q
put_cases g Q rs to ty w false et within ew wide r t eb er (inr same) = absurd (eqb-false to r eb same)

one_wide : (p : Program) (g : Function) (a : Activation) (Q : ℕ → Type 0) (o : Op) (rs : List Word) → register_count g ≤ length rs → PhiWide p g a o → WideOn g Q rs → WideOn g (λ r. Q r ⊎ ((is_phi o ≡ true) × (given_by o ≡ Some r))) (with_phi p a o rs)
one_wide p g a Q (op.Phi to ty edges) rs many h wide =
    λ r t er q. put_cases g Q rs to ty (edge_value p a edges) (nat_eq to r) h.0 (less_most to (register_count g) (length rs) h.1 many) h.2 wide r t refl er
    (elim q [ inl before ↦ inl before | inr now ↦ inr (some_same now.1) ])
one_wide p g a Q _ rs many h wide = λ r t er q. wide r t er (elim q [ inl before ↦ before | inr now ↦ true_false (sym now.0) ])

as_many : (n a b : ℕ) → a ≡ b → n ≤ b → n ≤ a
as_many n a b e h = omega (arith, e, h)

at_first : (Q : ℕ → Type 0) (o : Op) (os : List Op) (r : ℕ) → (Q r ⊎ InPhis (o ∷ os) r) → ((Q r ⊎ ((is_phi o ≡ true) × (given_by o ≡ Some r))) ⊎ InPhis os r)
at_first Q o os r (inl q) = inl (inl q)
at_first Q o os r (inr (x, inl same, phi, gives)) = inl (inr (ap is_phi same ∙ phi, ap given_by same ∙ gives))
at_first Q o os r (inr (x, inr i, phi, gives)) = inr (x, i, phi, gives)

phis_wide : (p : Program) (g : Function) (a : Activation) (os : List Op) (Q : ℕ → Type 0) (rs : List Word) → register_count g ≤ length rs → ((o : Op) → IsIn o os → PhiWide p g a o) → WideOn g Q rs → WideOn g (λ r. Q r ⊎ InPhis os r) (with_phis p a os rs)
phis_wide p g a [] Q rs many h wide = λ r t er q. wide r t er (elim q [ inl before ↦ before | inr now ↦ absurd now.1 ])
phis_wide p g a (o ∷ os) Q rs many h wide = λ r t er q.
    phis_wide p g a os (λ k. Q k ⊎ ((is_phi o ≡ true) × (given_by o ≡ Some k))) (with_phi p a o rs) (as_many (register_count g) (length (with_phi p a o rs)) (length rs) (one_length p a o rs) many) (λ x i. h x (inr i))
    (one_wide p g a Q o rs many (h o (inl refl)) wide) r t er (at_first Q o os r q)

-- the edge by which control comes

abbrev Found : List ℕ → List Edge → Type 0
Found label edges = (e : Edge) × IsIn e edges × (e.label ≡ label) × (find (λ (x : Edge). bytes_eq x.label label) edges ≡ Some e)

found_cases : (label : List ℕ) (e : Edge) (edges : List Edge) (b : Bool) → bytes_eq e.label label ≡ b → (b || list_any (λ (x : Edge). bytes_eq x.label label) edges) ≡ true → (list_any (λ (x : Edge). bytes_eq x.label label) edges ≡ true → Found label edges) →
    (y : Edge) × IsIn y (e ∷ edges) × (y.label ≡ label) × (cond b (Some e) (find (λ (x : Edge). bytes_eq x.label label) edges) ≡ Some y)
found_cases label e edges true eb h ih = (e, inl refl, same_bytes e.label label eb, refl)
found_cases label e edges false eb h ih = let f = ih h in (f.0, inr f.1, f.2, f.3)

found_edge : (label : List ℕ) (edges : List Edge) → list_any (λ (e : Edge). bytes_eq e.label label) edges ≡ true → Found label edges
found_edge label [] h = true_false (sym h)
found_edge label (e ∷ edges) h = found_cases label e edges (bytes_eq e.label label) refl h (found_edge label edges)

-- where a function is that jumps: at the end of its block, with registers as wide as their types
record Leaves (g : Function) (a : Activation) (walk : List ℕ) (block : ℕ) (o : Op) : Type 0 where
  from : Block
  got : slice_get (blocks_of g) block ≡ Some from
  label : a.label ≡ from.name
  exits : exits_of from ≡ targets_of o
  wide : Wide g walk block (length (instrs_at g block)) a.registers

edge_wide : (p : Program) (m : Module) (g : Function) → Known m g → (a : Activation) (walk : List ℕ) (block : ℕ) (o : Op) (label : List ℕ) (l : Leaves g a walk block o) → Walk g walk block → IsIn label (targets_of o) → (b : CodeBlock) (x : Arrives g label b) →
    (j : ℕ) (i : Instr) (to : ℕ) (ty : Scalar) (edges : List Edge) → slice_get x.body.instrs j ≡ Some i → i.op ≡ op.Phi to ty edges → (edge_value p a edges).width ≡ width_of ty
edge_wide p m g kn a walk block o label l comes target b x j i to ty edges got phi =
    let there : instrs_at g x.block ≡ x.body.instrs = ap no_instrs x.got in
    let at : slice_get (instrs_at g x.block) j ≡ Some i = ap (λ (is : List Instr). slice_get is j) there ∙ got in
    let member : IsIn i (instrs_of g) = block_instr g x.block i (in_got (instrs_at g x.block) j i at) in
    let fit : edges_fit g x.body.name edges ≡ true = sym (ap (op_edges_fit g x.body.name) phi) ∙ kn.edges x.body i (in_got (blocks_of g) x.block x.body x.got) (in_got x.body.instrs j i got) in
    let all = second_of (list_all (λ (e : Edge). is_predecessor g x.body.name e.label) edges) (list_all (λ (q : Block). not (goes_to q x.body.name) || list_any (λ (e : Edge). bytes_eq e.label q.name) edges) (blocks_of g)) (first_of _ (list_all (λ (e : Edge). list_all (λ (d : Edge). not (bytes_eq d.label e.label) || same_value d.value e.value) edges) edges) fit) in
    let name : x.body.name ≡ label = target_name g label x.block x.body x.number x.got in
    let goes : goes_to l.from x.body.name ≡ true
    = ap (list_any (λ (y : List ℕ). bytes_eq y x.body.name)) l.exits ∙ any_of (λ (y : List ℕ). bytes_eq y x.body.name) (targets_of o) label target (ap (bytes_eq label) name ∙ bytes_itself label) in
    let some : list_any (λ (e : Edge). bytes_eq e.label l.from.name) edges ≡ true
    = not_or (goes_to l.from x.body.name) _ goes (all_in (λ (q : Block). not (goes_to q x.body.name) || list_any (λ (e : Edge). bytes_eq e.label q.name) edges) (blocks_of g) l.from all (in_got (blocks_of g) block l.from l.got)) in
    let found = found_edge a.label edges (ap (λ (y : List ℕ). list_any (λ (e : Edge). bytes_eq e.label y) edges) l.label ∙ some) in
    let typed = first_of (list_all (λ (y : Argument). value_fits (register_types g) y.ty y.value) (operands_of i.op)) (form_fits m g i.op) (kn.is_sound.typed i member) in
    let mine : value_fits (register_types g) ty found.0.value ≡ true
    = all_in (λ (y : Argument). value_fits (register_types g) y.ty y.value) (operands_of (op.Phi to ty edges)) (argument ty found.0.value) (sym (ap (λ (y : Op). list_all (λ (z : Argument). value_fits (register_types g) z.ty z.value) (operands_of y)) phi) ∙ typed)
    (in_map (λ (e : Edge). argument ty e.value) found.0 edges found.1) in
    let number : block_number g found.0.label ≡ Some block = ap (block_number g) (found.2 ∙ l.label) ∙ named_number m g kn.is_sound block l.from l.got in
    ap (λ (f : Option Edge). (unwrap_or (option_map (λ (e : Edge). operand p a e.value) f) zero_word).width) found.3
    ∙ operand_wide p m g kn a walk block (length (instrs_at g block)) l.wide found.0.value ty mine
    (λ r v. edge_valued m g kn.is_sound walk block x.block j i to ty edges found.0 r comes at phi found.1 number v)

got_in : (is : List Instr) (o : Op) → IsIn o (map op_of is) → (j : ℕ) × (i : Instr) × (slice_get is j ≡ Some i) × (i.op ≡ o)
got_in [] o a = absurd a
got_in (i ∷ is) o (inl e) = (0, i, refl, e)
got_in (i ∷ is) o (inr a) = let f = got_in is o a in (suc f.0, f.1, f.2, f.3)

phi_wide : (p : Program) (m : Module) (g : Function) → Known m g → (a : Activation) (walk : List ℕ) (block : ℕ) (o : Op) (label : List ℕ) (l : Leaves g a walk block o) → Walk g walk block → IsIn label (targets_of o) → (b : CodeBlock) (x : Arrives g label b) →
    (j : ℕ) (i : Instr) (q : Op) → slice_get x.body.instrs j ≡ Some i → i.op ≡ q → PhiWide p g a q
phi_wide p m g kn a walk block o label l comes target b x j i (op.Phi to ty edges) got phi =
    let there : instrs_at g x.block ≡ x.body.instrs = ap no_instrs x.got in
    let member : IsIn i (instrs_of g) = block_instr g x.block i (in_got (instrs_at g x.block) j i (ap (λ (is : List Instr). slice_get is j) there ∙ got)) in (
      given_type m g kn i to member (ap given_by phi) ∙ ap result_of phi,
      gives_known m g kn.is_sound i to member (ap given_by phi),
      edge_wide p m g kn a walk block o label l comes target b x j i to ty edges got phi,
    )
phi_wide p m g kn a walk block o label l comes target b x j i _ got phi = tt

-- what has a value behind the jump had one before it, or is given by a phi
behind_jump : (a b c d : Bool) → (a || ((b || c) || d)) ≡ true → ((a || (c || b)) ≡ true) ⊎ (d ≡ true)
behind_jump true b c d e = inl refl
behind_jump false true true d e = inl refl
behind_jump false true false d e = inl refl
behind_jump false false true d e = inl refl
behind_jump false false false d e = inr e

pub jump_runs : (p : Program) (m : Module) (g : Function) → Known m g → (a : Activation) (st : RunsAt g a) (o : Op) (os : List Op) (label : List ℕ) (b : CodeBlock) → Stands m g a st o os → is_terminator o ≡ true → given_by o ≡ None → IsIn label (targets_of o) →
    code_block_named a.blocks label ≡ Some b → RunsAt g (at_block p a b)
jump_runs p m g kn a st o os label b s ends none target eb =
    let x = arrives g a label b st.blocks eb in
    let h = s.at in
    let whole : suc st.place ≡ length (instrs_at g st.block) = ends_at (instrs_at g st.block) st.place h.instr (kn.is_sound.ends st.block) h.got (ap is_terminator h.same ∙ ends) in
    let from = got_body (blocks_of g) st.block st.place h.instr h.got in
    let here_instrs : instrs_at g st.block ≡ from.0.instrs = ap no_instrs from.1 in
    let last : last_of from.0.instrs ≡ Some h.instr
    = ap (λ (is : List Instr). last_of is) (sym here_instrs) ∙ (ap (λ (n : ℕ). slice_get (instrs_at g st.block) n) (one_less (length (instrs_at g st.block)) st.place whole) ∙ h.got) in
    let there : instrs_at g x.block ≡ x.body.instrs = ap no_instrs x.got in
    let lead = kn.is_sound.phis x.block in
    let l : Leaves g a st.walk st.block o
    = record {
      from = from.0;
      got = from.1;
      label = st.label ∙ ap name_of_block from.1;
      exits = exits_are from.0 h.instr o last h.same;
      wide = λ r ty et hv.
          st.widths r ty et
          (ap (λ (y : Bool). nat_lt r (length g.params) || y)
          (sym (or_nothing (is_assigned g st.walk st.block st.place r) (is_given r (given_by o)) (ap (is_given r) none)) ∙ (sym (assigned_more g st.walk st.block st.place r o os h)
          ∙ ap (λ (n : ℕ). is_assigned g st.walk st.block n r) whole)) ∙ hv);
    } in
    let wide = phis_wide p g a b.code (λ r. has_value g st.walk st.block (length (instrs_at g st.block)) r ≡ true) a.registers st.many
    (λ q at. (let f = got_in x.body.instrs q (subst (λ (c : CodeBlock). IsIn q c.code) x.is at) in phi_wide p m g kn a st.walk st.block o label l st.comes target b x f.0 f.1 q f.2 f.3)) l.wide in
    record {
      block = x.block;
      place = lead.place;
      walk = st.block ∷ st.walk;
      comes = (edge g st.block x.block from.0 o label from.1 l.exits target x.number, st.comes);
      blocks = st.blocks;
      label = ap (λ (c : CodeBlock). c.label) x.is ∙ ap name_of_block (sym x.got);
      code = ap (λ (c : CodeBlock). without_phis c.code) x.is ∙ (ap (λ (is : List Instr). without_phis (map op_of is)) (sym there) ∙ lead.rest);
      many = as_many (register_count g) (length (with_phis p a b.code a.registers)) (length a.registers) (phis_length p a b.code a.registers) st.many;
      widths = λ r ty et hv.
          wide r ty et
          (elim (behind_jump (nat_lt r (length g.params)) (assigns (instrs_at g st.block) r) (walk_assigns g st.walk r) (assigns (take lead.place (instrs_at g x.block)) r) hv) [
            | inl before ↦ inl (ap (λ (is : List Instr). nat_lt r (length g.params) || (walk_assigns g st.walk r || assigns is r)) (all_taken (instrs_at g st.block)) ∙ before)
            | inr now ↦ (
                let f = given_in (take lead.place (instrs_at g x.block)) r now in
                let i : IsIn f.0 x.body.instrs = subst (λ (is : List Instr). IsIn f.0 is) there (in_taken f.0 lead.place (instrs_at g x.block) f.1) in
                inr (f.0.op, subst (λ (c : CodeBlock). IsIn f.0.op c.code) (sym x.is) (in_map op_of f.0 x.body.instrs i), lead.phis f.0 f.1, f.2))
          ]);
    }
