-- The text of the blocks of a function says them, their lines aside.
use Rattle.std.proofs.Common.{◌≡◌, inl, ℕ, suc, ◌+◌, ◌<◌, ◌≤◌, List, [], ◌∷◌, ◌++◌, map, length, take, Bool, true, false, not, ◌&&◌, refl, sym, ap, ◌∙◌, subst, arith, Option, Some, None, IfSome, slice_get, nat_eq, bytes_eq, append_assoc}
use Rattle.std.specs.Prelude.{codes, flat_map}
use Rattle.std.specs.List.{list_all, list_any}
use Rattle.std.proofs.lemmas.Bool.{and_parts, eqb-true}
use Rattle.lx_words.specs.declared.token.Token.{Token}
use Rattle.lx_ir.specs.declared.module.Block.{Block}
use Rattle.lx_ir.specs.declared.module.Function.{Function}
use Rattle.lx_ir.specs.declared.module.Module.{Module}
use Rattle.lx_ir.specs.declared.instr.Instr.{Instr}
use Rattle.lx_ir.specs.Operands.{given_by, is_terminator, register_count}
use Rattle.lx_ir.specs.Text.{name_at, register_names, instr_text, block_text, blocks_text}
use Rattle.lx_ir.specs.Lawful.{is_label, is_distinct, is_lawful_op, ends_once}
use Rattle.lx_ir_tokens.specs.declared.token.Tok.{Tok}
use Rattle.lx_ir_tokens.specs.declared.token.Mark.TheVariants.{CloseBrace}
use Rattle.lx_ir_terms.specs.Context.{Context}
use Rattle.lx_ir_terms.specs.Grammar.{Part}
use Rattle.lx_ir_calls.specs.declared.intrinsics.TextForm.{TextForm}
use Rattle.lx_ir_calls.specs.declared.intrinsics.TextForm.TheVariants.{Program}
use Rattle.lx_ir_instructions.specs.Grammar.{IsInstr}
use Rattle.lx_ir_complete.specs.Lines.{PrintsLines}
use Rattle.lx_ir_complete.specs.Kept.{is_kept_op}
use Rattle.lx_ir_complete.specs.Knows.{StartsWith, may_stand}
use Rattle.lx_ir_complete.proofs.Joining.{space, last_mark}
use Rattle.lx_ir_complete.proofs.PrintedInits.{said_bytes}
use Rattle.lx_ir_complete.proofs.PrintedOps.{op_prints}
use Rattle.lx_ir_complete.proofs.Sayings.{Saying, Registers}
use Rattle.lx_ir_statements.specs.Numbers.{has_some, with_some}
use Rattle.lx_ir_statements.specs.Parameters.{local_name}
use Rattle.lx_ir_statements.specs.Blocks.{line_at, given, with_register}
use Rattle.lx_ir_statements.specs.BlockGrammar.{AreInstrs, is_run, IsLabelled, AreFurtherBlocks, IsBody}
use Rattle.lx_ir_complete.specs.Said.{SameOps, SameBlocks}
use Rattle.lx_ir_complete.proofs.PrintedLabels.{label_prints}
use Rattle.lx_ir_complete.proofs.StatementLines.{line, lines, no_lines, lines_as, same_lines}
use Rattle.lx_ir_complete.proofs.Standing.{Stand, absent, stand_new, new_name, new_at, taken_more}

-- how many of the instructions give a register
abbrev pub gives : Option ℕ → ℕ
gives None = 0
gives (Some r) = 1

abbrev pub given_count : List Instr → ℕ
given_count [] = 0
given_count (i ∷ is) = gives (given_by i.op) + given_count is

-- the registers that the instructions give are those from this one on
abbrev pub counts : Option ℕ → ℕ → Bool
counts None c = true
counts (Some r) c = nat_eq r c

abbrev pub all_count : ℕ → List Instr → Bool
all_count c [] = true
all_count c (i ∷ is) = counts (given_by i.op) c && all_count (c + gives (given_by i.op)) is

-- what an instruction of a function owes to be printed
abbrev pub is_ready : TextForm → Module → Function → Instr → Bool
is_ready form m f i = is_lawful_op m f i.op && is_kept_op i.op && may_stand form i.op

-- what a block owes to be printed
abbrev pub is_ready_block : TextForm → Module → Function → Block → Bool
is_ready_block form m f b = is_label b.name && ends_once b.instrs && list_all (is_ready form m f) b.instrs

abbrev pub blocks_count : ℕ → List Block → Bool
blocks_count c [] = true
blocks_count c (b ∷ bs) = all_count c b.instrs && blocks_count (c + given_count b.instrs) bs

abbrev pub block_counts : List Block → ℕ
block_counts [] = 0
block_counts (b ∷ bs) = given_count b.instrs + block_counts bs

abbrev pub block_names : List Block → List (List ℕ)
block_names bs = map (λ b. b.name) bs

same_run : (is js : List Instr) → SameOps is js → is_run is ≡ is_run js
same_run [] [] e = refl
same_run [] (j ∷ js) e = cc e
same_run (i ∷ is) [] e = cc e
same_run (i ∷ []) (j ∷ []) e = refl
same_run (i ∷ []) (j ∷ k ∷ js) e = cc e
same_run (i ∷ k ∷ is) (j ∷ []) e = cc e
same_run (i ∷ k ∷ is) (j ∷ l ∷ js) e =
    let first : i.op ≡ j.op = cc e in
    let rest : map (λ x. x.op) (k ∷ is) ≡ map (λ x. x.op) (l ∷ js) = cc e in
    ap (λ o. not (is_terminator o) && is_run (k ∷ is)) first ∙ ap (λ b. not (is_terminator j.op) && b) (same_run (k ∷ is) (l ∷ js) rest)

run_is_once : (is : List Instr) → is_run is ≡ ends_once is
run_is_once [] = refl
run_is_once (i ∷ []) = refl
run_is_once (i ∷ j ∷ is) = ap (λ b. not (is_terminator i.op) && b) (run_is_once (j ∷ is))

module _ {plain : Bool} {m : Module} {f : Function} {context : Context} (sayings : Saying plain m context) (registers : Registers f context) (form : TextForm) (program : plain ≡ true → form ≡ Program) (distinct : is_distinct (register_names f) ≡ true) (many : length (register_names f) ≡ register_count f) where
  abbrev names : List (List ℕ)
  names = context.names

  abbrev upto : ℕ → List (List ℕ)
  upto c = take c (register_names f)

  -- instructions, behind some that give the registers before this one
  abbrev Instrs : ℕ → List Instr → Part
  Instrs c is ts =
      (us : List Tok) (places : List Token) (given_before labels : List ℕ) → Stand names given_before (upto c)
      → (js : List Instr) × SameOps js is × (given_then : List ℕ) × Stand names given_then (upto (c + given_count is))
      × AreInstrs context form places js (record { registers = given_before; labels = labels }) (record { registers = given_then; labels = labels }) ts us

  -- one instruction, what it gives, and further ones
  one_more : (c : ℕ) (i : Instr) (is : List Instr) (g : Option ℕ) → counts g c ≡ true → c + gives g + given_count is ≤ register_count f → (front back : List Tok)
      → IsInstr context form i.op front → StartsWith context f g front → Instrs (c + gives g) is back
      → (us : List Tok) (places : List Token) (given_before labels : List ℕ) → Stand names given_before (upto c)
      → (js : List Instr) × SameOps js (i ∷ is) × (given_then : List ℕ) × Stand names given_then (upto (c + (gives g + given_count is)))
      × AreInstrs context form places js (record { registers = given_before; labels = labels }) (record { registers = given_then; labels = labels }) (front ++ back) us
  one_more c i is None n le front back instr starts rest us places before labels st =
      let here : c + 0 ≡ c = omega arith in
      let r = rest us places before labels (subst (λ k. Stand names before (upto k)) (sym here) st) in
      let w : ℕ = line_at places (front ++ (back ++ us)) in
      let none : given front ≡ None = ap given starts.3 ∙ ap (λ k. local_name k starts.0.name) starts.2.1 in
      let sum : c + 0 + given_count is ≡ c + (0 + given_count is) = omega arith in (
        record { op = i.op; line = w } ∷ r.0,
        ap (λ os. i.op ∷ os) r.1,
        r.2,
        subst (λ k. Stand names r.2 (upto k)) sum r.3,
        (
          front,
          back,
          (instr, refl),
          ap (has_some before) none,
          subst (λ o. AreInstrs context form places r.0 (with_register (record { registers = before; labels = labels }) o) (record { registers = r.2; labels = labels }) back us) (sym none) r.4,
          refl,
        ),
      )
  one_more c i is (Some r) n le front back instr starts rest us places before labels st =
      let is_c : r ≡ c = eqb-true r c n in
      let within : c < length (register_names f) = omega (arith, le, many) in
      let at : slice_get names starts.0.name ≡ Some (name_at (register_names f) c) = starts.3 ∙ ap (λ k. Some (name_at (register_names f) k)) is_c in
      let fresh = new_at (register_names f) c distinct within in
      let next : c + 1 ≡ suc c = omega arith in
      let st2 : Stand names (with_some before (Some starts.0.name)) (upto (c + 1)) =
      subst (Stand names (with_some before (Some starts.0.name))) (sym (ap upto next ∙ taken_more (register_names f) c within)) (stand_new names before (upto c) starts.0.name (name_at (register_names f) c) st at fresh)
      in
      let q = rest us places (with_some before (Some starts.0.name)) labels st2 in
      let w : ℕ = line_at places (front ++ (back ++ us)) in
      let some : given front ≡ Some starts.0.name = ap given starts.4 ∙ ap (λ k. local_name k starts.0.name) starts.2 in
      let sum : c + 1 + given_count is ≡ c + (1 + given_count is) = omega arith in (
        record { op = i.op; line = w } ∷ q.0,
        ap (λ os. i.op ∷ os) q.1,
        q.2,
        subst (λ k. Stand names q.2 (upto k)) sum q.3,
        (
          front,
          back,
          (instr, refl),
          ap (has_some before) some ∙ absent names before (upto c) starts.0.name (name_at (register_names f) c) st at fresh,
          subst (λ o. AreInstrs context form places q.0 (with_register (record { registers = before; labels = labels }) o) (record { registers = q.2; labels = labels }) back us) (sym some) q.4,
          refl,
        ),
      )

  gives_register : (c : ℕ) (g : Option ℕ) (rest : ℕ) → counts g c ≡ true → c + gives g + rest ≤ register_count f → IfSome g (λ r. r < register_count f)
  gives_register c None rest n le = tt
  gives_register c (Some r) rest n le = let is_c : r ≡ c = eqb-true r c n in omega arith

  -- The text of instructions, each in a line, says them.
  instrs_print : (c : ℕ) (is : List Instr) → list_all (is_ready form m f) is ≡ true → all_count c is ≡ true → c + given_count is ≤ register_count f → PrintsLines plain names (flat_map (instr_text m f) is) (Instrs c is)
  instrs_print c [] h n le =
      lines_as {q = Instrs c []}
      (λ ts e us places before labels st. let sum : c ≡ c + 0 = omega arith in ([], refl, before, subst (λ k. Stand names before (upto k)) sum st, (refl, e)))
      no_lines
  instrs_print c (i ∷ is) h n le =
      let ready = and_parts (is_ready form m f i) (list_all (is_ready form m f) is) h in
      let three = and_parts (is_lawful_op m f i.op && is_kept_op i.op) (may_stand form i.op) ready.0 in
      let two = and_parts (is_lawful_op m f i.op) (is_kept_op i.op) three.0 in
      let count = and_parts (counts (given_by i.op) c) (all_count (c + gives (given_by i.op)) is) n in
      let size : c + gives (given_by i.op) + given_count is ≤ register_count f = omega (arith, le) in
      let one = op_prints sayings registers form program i.op two.0 two.1 (gives_register c (given_by i.op) (given_count is) count.0 size) three.1 in
      lines_as {q = Instrs c (i ∷ is)}
      (λ ts x us places before labels st.
      let r = one_more c i is (given_by i.op) count.0 size x.0 x.1 x.2.0 x.2.1 x.3 us places before labels st in
      (r.0, r.1, r.2, r.3, subst (λ vs. AreInstrs context form places r.0 (record { registers = before; labels = labels }) (record { registers = r.2; labels = labels }) vs us) (sym x.4) r.4))
      (lines (line (space (space one))) (instrs_print (c + gives (given_by i.op)) is ready.1 count.1 size))

  -- Blocks.

  -- a block, behind others
  abbrev One : ℕ → List (List ℕ) → Block → Part
  One c labelled b ts =
      (us : List Tok) (places : List Token) (given_before labels : List ℕ) → Stand names given_before (upto c) → Stand names labels labelled
      → (d : Block) × ((d.name ≡ b.name) × SameOps d.instrs b.instrs) × (given_then : List ℕ) × (labels_then : List ℕ)
      × Stand names given_then (upto (c + given_count b.instrs)) × Stand names labels_then (labelled ++ b.name ∷ [])
      × IsLabelled context form places d (record { registers = given_before; labels = labels }) (record { registers = given_then; labels = labels_then }) ts us

  block_prints : (c : ℕ) (labelled : List (List ℕ)) (b : Block) → is_ready_block form m f b ≡ true → all_count c b.instrs ≡ true → c + given_count b.instrs ≤ register_count f → list_any (bytes_eq b.name) labelled ≡ false
      → PrintsLines plain names (block_text m f b) (One c labelled b)
  block_prints c labelled b h n le fresh =
      let ready = and_parts (is_label b.name && ends_once b.instrs) (list_all (is_ready form m f) b.instrs) h in
      let head = and_parts (is_label b.name) (ends_once b.instrs) ready.0 in
      let both = lines (label_prints context b.name head.0) (instrs_print c b.instrs ready.1 n le) in
      same_lines (ap (λ t. t ++ flat_map (instr_text m f) b.instrs) (append_assoc b.name (codes ":") (codes "\n")))
      (lines_as {q = One c labelled b}
      (λ ts x us places before labels st sl.
      let l = x.2 in
      let at = l.4 in
      let r = x.3 us places before (with_some labels (Some l.0.name)) st in (
        record { name = b.name; instrs = r.0 },
        (refl, r.1),
        r.2,
        with_some labels (Some l.0.name),
        r.3,
        stand_new names labels labelled l.0.name b.name sl at fresh,
        (l.0, l.1, x.1, l.2, l.3, said_bytes context l.0.name b.name at, absent names labels labelled l.0.name b.name sl at fresh, (same_run r.0 b.instrs r.1 ∙ run_is_once b.instrs ∙ head.1, r.4), x.4 ∙ ap (λ vs. vs ++ x.1) l.5),
      ))
      both)

  -- further blocks
  abbrev Further : ℕ → List (List ℕ) → List Block → Part
  Further c labelled bs ts =
      (us : List Tok) (places : List Token) (given_before labels : List ℕ) → Stand names given_before (upto c) → Stand names labels labelled
      → (ds : List Block) × SameBlocks ds bs × (given_then : List ℕ) × (labels_then : List ℕ)
      × AreFurtherBlocks context form places ds (record { registers = given_before; labels = labels }) (record { registers = given_then; labels = labels_then }) ts us

  further_print : (c : ℕ) (labelled : List (List ℕ)) (bs : List Block) → list_all (is_ready_block form m f) bs ≡ true → blocks_count c bs ≡ true → c + block_counts bs ≤ register_count f → is_distinct (labelled ++ block_names bs) ≡ true
      → PrintsLines plain names (flat_map (block_text m f) bs) (Further c labelled bs)
  further_print c labelled [] h n le d = lines_as {q = Further c labelled []} (λ ts e us places before labels st sl. ([], tt, before, labels, (refl, e))) no_lines
  further_print c labelled (b ∷ bs) h n le d =
      let ready = and_parts (is_ready_block form m f b) (list_all (is_ready_block form m f) bs) h in
      let count = and_parts (all_count c b.instrs) (blocks_count (c + given_count b.instrs) bs) n in
      let assoc : (labelled ++ b.name ∷ []) ++ block_names bs ≡ labelled ++ b.name ∷ block_names bs = append_assoc labelled (b.name ∷ []) (block_names bs) in
      lines_as {q = Further c labelled (b ∷ bs)}
      (λ ts x us places before labels st sl.
      let one = x.2 (x.1 ++ us) places before labels st sl in
      let rest = x.3 us places one.2 one.3 one.4 one.5 in
      (one.0 ∷ rest.0, (one.1, rest.1), rest.2, rest.3, (x.0, x.1, record { registers = one.2; labels = one.3 }, one.6, rest.4, x.4)))
      (lines (block_prints c labelled b ready.0 count.0 (omega (arith, le)) (new_name labelled b.name (block_names bs) d))
      (further_print (c + given_count b.instrs) (labelled ++ b.name ∷ []) bs ready.1 count.1 (omega (arith, le)) (ap is_distinct assoc ∙ d)))

  -- the blocks of a function, behind parameters with these numbers, and the brace behind them
  abbrev pub Body : ℕ → List Block → Part
  Body c bs ts =
      (us : List Tok) (places : List Token) (numbered : ℕ) (given_before : List ℕ) → Stand names given_before (upto c)
      → (ds : List Block) × SameBlocks ds bs × IsBody context form places numbered given_before ds ts us

  pub body_prints : (c : ℕ) (b : Block) (bs : List Block) → list_all (is_ready_block form m f) (b ∷ bs) ≡ true → blocks_count c (b ∷ bs) ≡ true → c + block_counts (b ∷ bs) ≤ register_count f → is_distinct (block_names (b ∷ bs)) ≡ true
      → PrintsLines plain names (blocks_text m f (b ∷ bs)) (Body c (b ∷ bs))
  body_prints c b bs h n le d =
      let ready = and_parts (is_ready_block form m f b) (list_all (is_ready_block form m f) bs) h in
      let count = and_parts (all_count c b.instrs) (blocks_count (c + given_count b.instrs) bs) n in
      lines_as {q = Body c (b ∷ bs)}
      (λ ts x us places numbered before st.
      let blocks = x.2 in
      let close = x.3 in
      let one = blocks.2 (blocks.1 ++ close.0 ∷ us) places before [] st tt in
      let rest = blocks.3 (close.0 ∷ us) places one.2 one.3 one.4 one.5 in (
        one.0 ∷ rest.0,
        (one.1, rest.1),
        (
          x.0,
          close.0,
          (blocks.0, blocks.1, record { registers = one.2; labels = one.3 }, record { registers = rest.2; labels = rest.3 }, inl one.6, rest.4, blocks.4),
          close.1,
          x.4 ∙ ap (λ vs. x.0 ++ vs) close.2,
        ),
      ))
      (lines
      (lines (block_prints c [] b ready.0 count.0 (omega (arith, le)) refl) (further_print (c + given_count b.instrs) (b.name ∷ []) bs ready.1 count.1 (omega (arith, le)) d))
      (line (last_mark CloseBrace refl)))
