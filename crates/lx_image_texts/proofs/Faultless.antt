-- A function has no fault exactly where the same function of the image has none.
use Rattle.std.proofs.Common.{◌≡◌, ℕ, Bool, true, false, not, ◌&&◌, ◌||◌, List, [], ◌∷◌, map, Option, Some, None, refl, sym, subst, ◌∙◌, ap}
use Rattle.std.specs.Prelude.{bytes_eq, find, option_map}
use Rattle.std.specs.List.{list_all, list_any}
use Rattle.lx_words.proofs.Options.{map_none, none_some, neither_some}
use Rattle.lx_words.proofs.Lists.{no_list, heads, tails}
use Rattle.lx_words.proofs.Tests.{false_true}
use Rattle.lx_ir.specs.declared.module.Block.{Block}
use Rattle.lx_ir.specs.declared.module.GlobalVar.{GlobalVar}
use Rattle.lx_ir.specs.declared.module.Function.{Function}
use Rattle.lx_ir.specs.declared.module.Module.{Module}
use Rattle.lx_ir.specs.declared.instr.Edge.{Edge}
use Rattle.lx_ir.specs.declared.instr.Instr.{Instr}
use Rattle.lx_ir.specs.declared.instr.Op.{Op}
use Rattle.lx_ir.specs.declared.instr.Op.TheVariants as op
use Rattle.lx_ir.specs.Lookup.{blocks_of, instrs_of}
use Rattle.lx_ir.specs.Operands.{is_phi, labels_of}
use Rattle.lx_ir.specs.Faults.{Fault, NoSuchLabel, fault_unless, first_some, init_fits, global_fault, last_of, is_end, end_fault, has_block, label_fault, type_fault, goes_to, same_value, edges_fit, op_edges_fit, phi_fault, phi_faults, block_phi_faults, reads_of, FirstUnassigned, earlier_fault, FirstOrUnassigned, FunctionFault}
use Rattle.lx_ir.specs.Operands.{register_types}
use Rattle.lx_ir.proofs.Refused.{unless_none}
use Rattle.lx_image_texts.specs.Guards.{unlined_global}
use Rattle.lx_image_texts.proofs.Distinct.{Each}
use Rattle.lx_image_texts.proofs.Ordering.{none_or}
use Rattle.lx_image_texts.proofs.Beside.{Alike, IsMarkOf, Beside, ends, bare, marked, BesideBlock, BesideBlocks, no_blocks, blocks, BesideFunction, blocks_beside, code_beside, same, same_labels, same_phi, mark_facts}
use Rattle.lx_image_texts.proofs.Along.{each_program, each_image, end_same}
use Rattle.lx_image_texts.proofs.Flow.{has_same, exits_alike, predecessor_same}
use Rattle.lx_image_texts.proofs.Unassigned.{reads_program, reads_image}

-- no fault, and each part has none

pub none_unless : (b : Bool) (x : Fault) → b ≡ true → fault_unless b x ≡ None
none_unless true x e = refl
none_unless false x e = false_true e

abbrev pub NoFault : {A : Type 0} → (A → Option Fault) → A → Type 0
NoFault f x = f x ≡ None

pub each_none : {A : Type 0} (f : A → Option Fault) (xs : List A) → first_some f xs ≡ None → Each (NoFault f) xs
each_none f [] e = tt
each_none f (x ∷ xs) e = let n = neither_some (f x) (first_some f xs) e in (n.0, each_none f xs n.1)

pub none_each : {A : Type 0} (f : A → Option Fault) (xs : List A) → Each (NoFault f) xs → first_some f xs ≡ None
none_each f [] h = refl
none_each f (x ∷ xs) h = none_or (f x) (first_some f xs) h.0 (none_each f xs h.1)

-- ends of blocks

module _ (m : Module) (f g : Function) where
  ends_program : (bs cs : List Block) → BesideBlocks m bs cs → first_some (end_fault g) cs ≡ None → first_some (end_fault f) bs ≡ None
  ends_program _ _ no_blocks e = refl
  ends_program _ _ (blocks b c bs cs h rest) e =
      let n = neither_some (end_fault g c) (first_some (end_fault g) cs) e in
      none_or (end_fault f b) (first_some (end_fault f) bs) (none_unless (is_end (last_of b.instrs)) _ (end_same m b.instrs c.instrs h.code ∙ unless_none (is_end (last_of c.instrs)) _ n.0)) (ends_program bs cs rest n.1)

  ends_image : (bs cs : List Block) → BesideBlocks m bs cs → first_some (end_fault f) bs ≡ None → first_some (end_fault g) cs ≡ None
  ends_image _ _ no_blocks e = refl
  ends_image _ _ (blocks b c bs cs h rest) e =
      let n = neither_some (end_fault f b) (first_some (end_fault f) bs) e in
      none_or (end_fault g c) (first_some (end_fault g) cs) (none_unless (is_end (last_of c.instrs)) _ (sym (end_same m b.instrs c.instrs h.code) ∙ unless_none (is_end (last_of b.instrs)) _ n.0)) (ends_image bs cs rest n.1)

-- labels

abbrev Lacks : Function → List (List ℕ) → Option (List ℕ)
Lacks f labels = find (λ label. not (has_block f label)) labels

module _ (m : Module) (f g : Function) (beside : BesideFunction m f g) where
  lacks_same : (o p : Op) → Alike m o p → Lacks f (labels_of o) ≡ Lacks g (labels_of p)
  lacks_same o p a = λ t. find (λ label. not (has_same m f g beside label t)) (same_labels m o p a t)

  labels_program : first_some (label_fault g) (instrs_of g) ≡ None → first_some (label_fault f) (instrs_of f) ≡ None
  labels_program e =
      none_each (label_fault f) (instrs_of f)
      (each_program (NoFault (label_fault f)) (NoFault (label_fault g)) m
      (λ i j a n. ap (option_map (λ label. NoSuchLabel i.line label)) (lacks_same i.op j.op a ∙ map_none (λ label. NoSuchLabel j.line label) (Lacks g (labels_of j.op)) n))
      (instrs_of f) (instrs_of g) (code_beside m f g beside) (each_none (label_fault g) (instrs_of g) e))

  labels_image : first_some (label_fault f) (instrs_of f) ≡ None → first_some (label_fault g) (instrs_of g) ≡ None
  labels_image e =
      none_each (label_fault g) (instrs_of g)
      (each_image (NoFault (label_fault f)) (NoFault (label_fault g)) m
      (λ i j a n. ap (option_map (λ label. NoSuchLabel j.line label)) (sym (lacks_same i.op j.op a) ∙ map_none (λ label. NoSuchLabel i.line label) (Lacks f (labels_of i.op)) n))
      (λ i k q n. ap (λ labels. option_map (λ label. NoSuchLabel k.line label) (Lacks g labels)) (mark_facts k.op i.op q).labels)
      (instrs_of f) (instrs_of g) (code_beside m f g beside) (each_none (label_fault f) (instrs_of f) e))

  -- phis

  named_by : (name : List ℕ) (edges : List Edge) (bs cs : List Block) → BesideBlocks m bs cs →
      list_all (λ p. not (goes_to p name) || list_any (λ (e : Edge). bytes_eq e.label p.name) edges) bs ≡ list_all (λ p. not (goes_to p name) || list_any (λ (e : Edge). bytes_eq e.label p.name) edges) cs
  named_by name edges _ _ no_blocks = refl
  named_by name edges _ _ (blocks b c bs cs h rest) =
      λ t. (not (list_any (λ l. bytes_eq l name) (exits_alike m b c h t)) || list_any (λ (e : Edge). bytes_eq e.label (h.name t)) edges) && named_by name edges bs cs rest t

  edges_same : (name : List ℕ) (edges : List Edge) → edges_fit f name edges ≡ edges_fit g name edges
  edges_same name edges =
      λ t. list_all (λ (e : Edge). predecessor_same m f g beside name e.label t) edges
      && named_by name edges (blocks_of f) (blocks_of g) (blocks_beside m f.blocks g.blocks beside.body) t
      && list_all (λ (e : Edge). list_all (λ (d : Edge). not (bytes_eq d.label e.label) || same_value d.value e.value) edges) edges

  op_edges_by : (name : List ℕ) (o : Op) → op_edges_fit f name o ≡ op_edges_fit g name o
  op_edges_by name (op.Phi to ty edges) = edges_same name edges
  op_edges_by name o = refl

  op_edges_same : (name : List ℕ) (o p : Op) → Alike m o p → op_edges_fit f name o ≡ op_edges_fit g name p
  op_edges_same name o p a = op_edges_by name o ∙ same (op_edges_fit g name) m o p a (λ to ret c args. refl)

  abbrev stands_well : Function → List ℕ → Bool → Op → Bool
  stands_well h name behind o = not (is_phi o) || behind && op_edges_fit h name o

  stands_same : (name : List ℕ) (b c : Bool) (o p : Op) → b ≡ c → Alike m o p → stands_well f name b o ≡ stands_well g name c p
  stands_same name b c o p e a = λ t. not (same_phi m o p a t) || e t && op_edges_same name o p a t

  and_false : (b : Bool) → (b && false) ≡ false
  and_false true = refl
  and_false false = refl

  -- behind a mark no phi may stand, nor behind what it stands before
  both_behind : (b c : Bool) (k o p : Op) → IsMarkOf k o → Alike m o p → (b && is_phi o) ≡ ((c && is_phi k) && is_phi p)
  both_behind b c k o p q a =
      ap (λ (d : Bool). b && d) (mark_facts k o q).behind ∙ and_false b ∙ sym (ap (λ (d : Bool). (c && is_phi k) && d) (sym (same_phi m o p a) ∙ (mark_facts k o q).behind) ∙ and_false (c && is_phi k))

  no_phi : (h : Function) (name : List ℕ) (b : Bool) (i : Instr) → is_phi i.op ≡ false → phi_fault h name b i ≡ None
  no_phi h name b i e = none_unless (stands_well h name b i.op) _ (ap (λ (d : Bool). not d || b && op_edges_fit h name i.op) e)

  phis_program_by : (name : List ℕ) (b c : Bool) (is js : List Instr) → b ≡ c → Beside m is js → phi_faults g name c js ≡ None → phi_faults f name b is ≡ None
  phis_program_by name b c _ _ e ends n = refl
  phis_program_by name b c _ _ e (bare i j is js a rest) n =
      let s = neither_some (phi_fault g name c j) (phi_faults g name (c && is_phi j.op) js) n in
      none_or (phi_fault f name b i) (phi_faults f name (b && is_phi i.op) is)
      (none_unless (stands_well f name b i.op) _ (stands_same name b c i.op j.op e a ∙ unless_none (stands_well g name c j.op) _ s.0))
      (phis_program_by name (b && is_phi i.op) (c && is_phi j.op) is js (λ t. e t && same_phi m i.op j.op a t) rest s.1)
  phis_program_by name b c _ _ e (marked i k j is js q a rest) n =
      let s = neither_some (phi_fault g name c k) (phi_faults g name (c && is_phi k.op) (j ∷ js)) n in
      let u = neither_some (phi_fault g name (c && is_phi k.op) j) (phi_faults g name ((c && is_phi k.op) && is_phi j.op) js) s.1 in
      none_or (phi_fault f name b i) (phi_faults f name (b && is_phi i.op) is) (no_phi f name b i (mark_facts k.op i.op q).behind)
      (phis_program_by name (b && is_phi i.op) ((c && is_phi k.op) && is_phi j.op) is js (both_behind b c k.op i.op j.op q a) rest u.1)

  phis_image_by : (name : List ℕ) (b c : Bool) (is js : List Instr) → b ≡ c → Beside m is js → phi_faults f name b is ≡ None → phi_faults g name c js ≡ None
  phis_image_by name b c _ _ e ends n = refl
  phis_image_by name b c _ _ e (bare i j is js a rest) n =
      let s = neither_some (phi_fault f name b i) (phi_faults f name (b && is_phi i.op) is) n in
      none_or (phi_fault g name c j) (phi_faults g name (c && is_phi j.op) js)
      (none_unless (stands_well g name c j.op) _ (sym (stands_same name b c i.op j.op e a) ∙ unless_none (stands_well f name b i.op) _ s.0))
      (phis_image_by name (b && is_phi i.op) (c && is_phi j.op) is js (λ t. e t && same_phi m i.op j.op a t) rest s.1)
  phis_image_by name b c _ _ e (marked i k j is js q a rest) n =
      let s = neither_some (phi_fault f name b i) (phi_faults f name (b && is_phi i.op) is) n in
      let facts = mark_facts k.op i.op q in
      none_or (phi_fault g name c k) (phi_faults g name (c && is_phi k.op) (j ∷ js)) (no_phi g name c k facts.phi)
      (none_or (phi_fault g name (c && is_phi k.op) j) (phi_faults g name ((c && is_phi k.op) && is_phi j.op) js) (no_phi g name (c && is_phi k.op) j (sym (same_phi m i.op j.op a) ∙ facts.behind))
      (phis_image_by name (b && is_phi i.op) ((c && is_phi k.op) && is_phi j.op) is js (both_behind b c k.op i.op j.op q a) rest s.1))

  block_program : (c : Bool) (b d : Block) → BesideBlock m b d → phi_faults g d.name c d.instrs ≡ None → phi_faults f b.name c b.instrs ≡ None
  block_program c b d h n = phis_program_by b.name c c b.instrs d.instrs refl h.code (ap (λ (name : List ℕ). phi_faults g name c d.instrs) h.name ∙ n)

  block_image : (c : Bool) (b d : Block) → BesideBlock m b d → phi_faults f b.name c b.instrs ≡ None → phi_faults g d.name c d.instrs ≡ None
  block_image c b d h n = sym (ap (λ (name : List ℕ). phi_faults g name c d.instrs) h.name) ∙ phis_image_by b.name c c b.instrs d.instrs refl h.code n

  abbrev later_faults : Function → Block → Option Fault
  later_faults h c = phi_faults h c.name true c.instrs

  later_program : (bs cs : List Block) → BesideBlocks m bs cs → first_some (later_faults g) cs ≡ None → first_some (later_faults f) bs ≡ None
  later_program _ _ no_blocks n = refl
  later_program _ _ (blocks b c bs cs h rest) n =
      let s = neither_some (later_faults g c) (first_some (later_faults g) cs) n in
      none_or (later_faults f b) (first_some (later_faults f) bs) (block_program true b c h s.0) (later_program bs cs rest s.1)

  later_image : (bs cs : List Block) → BesideBlocks m bs cs → first_some (later_faults f) bs ≡ None → first_some (later_faults g) cs ≡ None
  later_image _ _ no_blocks n = refl
  later_image _ _ (blocks b c bs cs h rest) n =
      let s = neither_some (later_faults f b) (first_some (later_faults f) bs) n in
      none_or (later_faults g c) (first_some (later_faults g) cs) (block_image true b c h s.0) (later_image bs cs rest s.1)

  all_phis_program : (bs cs : List Block) → BesideBlocks m bs cs → block_phi_faults g cs ≡ None → block_phi_faults f bs ≡ None
  all_phis_program _ _ no_blocks n = refl
  all_phis_program _ _ (blocks b c bs cs h rest) n =
      let s = neither_some (phi_faults g c.name false c.instrs) (first_some (later_faults g) cs) n in
      none_or (phi_faults f b.name false b.instrs) (first_some (later_faults f) bs) (block_program false b c h s.0) (later_program bs cs rest s.1)

  all_phis_image : (bs cs : List Block) → BesideBlocks m bs cs → block_phi_faults f bs ≡ None → block_phi_faults g cs ≡ None
  all_phis_image _ _ no_blocks n = refl
  all_phis_image _ _ (blocks b c bs cs h rest) n =
      let s = neither_some (phi_faults f b.name false b.instrs) (first_some (later_faults f) bs) n in
      none_or (phi_faults g c.name false c.instrs) (first_some (later_faults g) cs) (block_image false b c h s.0) (later_image bs cs rest s.1)

-- the whole of a function, by its types

pub record Parts (m : Module) (f : Function) : Type 0 where
  pub ends : first_some (end_fault f) (blocks_of f) ≡ None
  pub labels : first_some (label_fault f) (instrs_of f) ≡ None
  pub typed : first_some (type_fault m f (register_types f)) (instrs_of f) ≡ None
  pub phis : block_phi_faults f (blocks_of f) ≡ None
  pub reads : FirstUnassigned f (reads_of f) None

pub earlier_none : (f : Function) (o : Option Fault) → FirstOrUnassigned o f None → (o ≡ None) × FirstUnassigned f (reads_of f) None
earlier_none f None h = (refl, h)
earlier_none f (Some x) h = none_some h

pub parts : (m : Module) (f : Function) → FunctionFault m f None → Parts m f
parts m f h =
    let fault = earlier_none f (earlier_fault m f) h in
    let a = neither_some (first_some (end_fault f) (blocks_of f)) _ fault.0 in
    let b = neither_some (first_some (label_fault f) (instrs_of f)) _ a.1 in
    let c = neither_some (first_some (type_fault m f (register_types f)) (instrs_of f)) (block_phi_faults f (blocks_of f)) b.1 in
    record { ends = a.0; labels = b.0; typed = c.0; phis = c.1; reads = fault.1 }

pub whole : (m : Module) (f : Function) → Parts m f → FunctionFault m f None
whole m f p =
    subst (λ (o : Option Fault). FirstOrUnassigned o f None)
    (sym (none_or (first_some (end_fault f) (blocks_of f)) _ p.ends (none_or (first_some (label_fault f) (instrs_of f)) _ p.labels (none_or (first_some (type_fault m f (register_types f)) (instrs_of f)) (block_phi_faults f (blocks_of f)) p.typed p.phis))))
    p.reads

pub parts_program : (m x : Module) (f g : Function) → BesideFunction m f g → first_some (type_fault m f (register_types f)) (instrs_of f) ≡ None → Parts x g → Parts m f
parts_program m x f g b typed p =
    let bs = blocks_beside m f.blocks g.blocks b.body in
    record {
      ends = ends_program m f g (blocks_of f) (blocks_of g) bs p.ends;
      labels = labels_program m f g b p.labels;
      typed = typed;
      phis = all_phis_program m f g b (blocks_of f) (blocks_of g) bs p.phis;
      reads = reads_program m f g b p.reads;
    }

pub parts_image : (m x : Module) (f g : Function) → BesideFunction m f g → first_some (type_fault x g (register_types g)) (instrs_of g) ≡ None → Parts m f → Parts x g
parts_image m x f g b typed p =
    let bs = blocks_beside m f.blocks g.blocks b.body in
    record {
      ends = ends_image m f g (blocks_of f) (blocks_of g) bs p.ends;
      labels = labels_image m f g b p.labels;
      typed = typed;
      phis = all_phis_image m f g b (blocks_of f) (blocks_of g) bs p.phis;
      reads = reads_image m f g b p.reads;
    }

-- globals: but for their lines they are the same

fits_same : (x m : Module) (v w : GlobalVar) → x.types ≡ m.types → unlined_global v ≡ unlined_global w → init_fits x.types v.ty v.init ≡ init_fits m.types w.ty w.init
fits_same x m v w types e = λ t. init_fits (types t) (ap (λ (y : GlobalVar). y.ty) e t) (ap (λ (y : GlobalVar). y.init) e t)

pub globals_fit : (x m : Module) (vs ws : List GlobalVar) → x.types ≡ m.types → map unlined_global vs ≡ map unlined_global ws → first_some (global_fault x) vs ≡ None → first_some (global_fault m) ws ≡ None
globals_fit x m [] [] types e n = refl
globals_fit x m [] (w ∷ ws) types e n = no_list e
globals_fit x m (v ∷ vs) [] types e n = no_list (sym e)
globals_fit x m (v ∷ vs) (w ∷ ws) types e n =
    let s = neither_some (global_fault x v) (first_some (global_fault x) vs) n in
    none_or (global_fault m w) (first_some (global_fault m) ws)
    (none_unless (init_fits m.types w.ty w.init) _ (sym (fits_same x m v w types (heads e)) ∙ unless_none (init_fits x.types v.ty v.init) _ s.0))
    (globals_fit x m vs ws types (tails e) s.1)
