-- Instructions.
use Rattle.std.proofs.Common.{◌≡◌, ℕ, ◌+◌, ◌<◌, Bool, true, false, Option, Some, None, List, [], ◌∷◌, length, Ok, refl, ap, ◌∙◌, arith}
use Rattle.std.specs.Prelude.{if◌then◌else◌, not}
use Rattle.std.proofs.lemmas.List.{length-append}
use Rattle.lx_words.specs.declared.word.BinOp.{BinOp}
use Rattle.lx_words.specs.declared.word.Width.TheVariants.{W1}
use Rattle.lx_ir_tokens.specs.declared.token.Tok.{Tok}
use Rattle.lx_ir_tokens.specs.declared.token.Kind.{Kind}
use Rattle.lx_ir_tokens.specs.declared.token.Mark.TheVariants.{Comma, Equal, OpenBracket, CloseBracket}
use Rattle.lx_ir_tokens.specs.declared.keyword.InstructionWord.{InstructionWord}
use Rattle.lx_ir_tokens.specs.declared.keyword.InstructionWord.TheVariants as instructions
use Rattle.lx_ir.specs.declared.types.Scalar.{Scalar}
use Rattle.lx_ir.specs.declared.types.Scalar.TheVariants.{Int}
use Rattle.lx_ir.specs.declared.instr.Conversion.{Conversion}
use Rattle.lx_ir.specs.declared.instr.UnaryOp.TheVariants as unary
use Rattle.lx_ir.specs.declared.instr.Op.{Op}
use Rattle.lx_ir.specs.declared.instr.Op.TheVariants as op
use Rattle.lx_ir.specs.declared.instr.SwitchCase.{SwitchCase}
use Rattle.lx_ir_terms.specs.declared.fault.FaultKind.{FaultKind}
use Rattle.lx_ir_terms.specs.declared.fault.FaultKind.TheVariants.{Statement}
use Rattle.lx_ir_terms.specs.Context.{Context, register_number}
use Rattle.lx_ir_terms.specs.Reading.{Read, ◌>>=◌, refusal, refused, behind, is_mark, is_to, has, pick_at, next_at, mark_at}
use Rattle.lx_ir_terms.specs.Types.{scalar_in, scalar_at, scalar_refusal, result_in}
use Rattle.lx_ir_terms.specs.Words as passing
use Rattle.lx_ir_terms.specs.Grammar.{◌then◌, IsWritten}
use Rattle.lx_ir_constants.specs.Constants.{is_flag_word, skipped, when, word_refusal, value_at, is_register, first_name}
use Rattle.lx_ir_operands.specs.Steps.{items_while, has_further, unbroken_at, align_at, metadata_at}
use Rattle.lx_ir_operands.specs.Operands.{flagged_scalar_at, flagged_type_at, is_truth_word, named_type_refusal, truth_type_at, argument, typed_at, flagged_typed_at, second_at, address_at, again_at, is_label_word, local_at, next_label_at, edge_at, case_at, has_case, some_cases_at, cases_at, instruction_in}
use Rattle.lx_ir_operands.specs.Grammar.{Flagged, IsScalar, IsTyped, IsSecond, IsAddress, IsAgain, IsLocal, IsNextLabel, IsEdge, IsCase}
use Rattle.lx_ir_terms.specs.Grammar.{Is}
use Rattle.lx_ir_operands.proofs.FlagLaws.{flagged_scalar_reads, flagged_scalar_finds, flagged_truth_reads, flagged_truth_finds, flagged_type_reads, flagged_type_finds, typed_reads, typed_finds, flagged_typed_reads, flagged_typed_finds}
use Rattle.lx_ir_operands.proofs.OperandLaws.{second_reads, second_finds, address_reads, address_finds, again_reads, again_finds, local_reads, local_finds, next_label_reads, next_label_finds}
use Rattle.lx_ir_operands.proofs.ListedLaws.{edge_reads, edge_finds, case_reads, case_finds, through_cases}
use Rattle.lx_ir_operands.proofs.OperandStops.{flagged_scalar_stops, flagged_type_stops, flagged_truth_stops, typed_stops, flagged_typed_stops, second_stops, address_stops, again_stops, local_stops, next_label_stops, edge_stops, case_stops}
use Rattle.lx_ir_calls.specs.declared.intrinsics.TextForm.{TextForm}
use Rattle.lx_ir_calls.specs.Calls.{call_behind, is_tail_word, tail_call_at}
use Rattle.lx_ir_instructions.specs.Instructions.{binary_behind, predicate_in, predicate_at, compare_behind, conversion_of, convert_behind, unary_behind, select_behind, phi_behind, alloca_behind, load_behind, element_behind, store_behind, flagged_result_at, returned_at, ret_behind, jump_behind, branch_behind, br_at, br_behind, switch_behind, giving_of, silent_of, by_word, first_word_at, giving_at, silent_at, given_behind, form_at, instruction_at}
use Rattle.lx_ir_complete.proofs.Local.{first_of, has_looks, Same, Plain, pure_plain, fault_local, end_local, then_plain, last_plain, if_plain, choose_local, same_local, behind_local, from_laws}
use Rattle.lx_ir_complete.proofs.Loops.{Consumes, next_plain, skipped_plain, items_plain, behind_consumes, has_some}
use Rattle.lx_ir_complete.proofs.RefusedOperands.{further_looks, pick_plain, value_plain, metadata_plain, align_plain}
use Rattle.lx_ir_complete.proofs.RefusedCalls.{call_behind_plain, tail_call_plain}

pub name_looks : (us vs : List Tok) → first_of us ≡ first_of vs → first_name us ≡ first_name vs
name_looks [] [] e = refl
name_looks [] (v ∷ vs) e = cc
name_looks (u ∷ us) [] e = cc
name_looks (u ∷ us) (v ∷ vs) e = let s : u ≡ v = cc in ap (λ (t : Tok). t.name) s

further_some : (b : Bool) (ts : List Tok) → has (is_mark Comma) ts ≡ b → has_further ts ≡ true → 0 < length ts
further_some true ts h e = has_some (is_mark Comma) ts h
further_some false ts h e = let n : has_further ts ≡ false = rw h refl in cc (n, e)

case_size : (context : Context) (ty : Scalar) (ts us : List Tok) (x : SwitchCase) → case_at context ty ts ≡ Ok (x, us) → length us < length ts
case_size context ty ts us x e =
    let f = case_finds context ty ts us x e in
    let some = (through_cases context ty).filled x f.0 f.1 in
    let count : length ts ≡ length f.0 + length us = ap length f.2 ∙ length-append f.0 us in
    omega (arith, some, count)

module _ (asked : FaultKind → Bool) (context : Context) (free : context.limits ≡ None) where
  mark : (m : _) → Plain asked (mark_at m)
  mark m = next_plain asked (is_mark m)

  -- Operands.

  flagged_scalar_plain : Plain asked flagged_scalar_at
  flagged_scalar_plain = from_laws asked flagged_scalar_at (λ ty. Flagged (IsScalar ty)) flagged_scalar_reads flagged_scalar_finds flagged_scalar_stops

  flagged_type_plain : Plain asked (flagged_type_at context)
  flagged_type_plain = from_laws asked (flagged_type_at context) (λ ty. Flagged (IsWritten context ty)) (flagged_type_reads context) (flagged_type_finds context) (flagged_type_stops context free)

  flagged_truth_plain : Plain asked (λ ts. truth_type_at (skipped is_flag_word ts))
  flagged_truth_plain = from_laws asked (λ ts. truth_type_at (skipped is_flag_word ts)) (λ x. Flagged (Is is_truth_word)) flagged_truth_reads flagged_truth_finds flagged_truth_stops

  typed_plain : Plain asked (typed_at context)
  typed_plain = from_laws asked (typed_at context) (IsTyped context) (typed_reads context) (typed_finds context) (typed_stops context free)

  flagged_typed_plain : Plain asked (flagged_typed_at context)
  flagged_typed_plain = from_laws asked (flagged_typed_at context) (λ a. Flagged (IsTyped context a)) (flagged_typed_reads context) (flagged_typed_finds context) (flagged_typed_stops context free)

  second_plain : (ty : Scalar) → Plain asked (second_at context ty)
  second_plain ty = from_laws asked (second_at context ty) (IsSecond context ty) (second_reads context ty) (second_finds context ty) (second_stops context free ty)

  address_plain : Plain asked (address_at context)
  address_plain = from_laws asked (address_at context) (IsAddress context) (address_reads context) (address_finds context) (address_stops context free)

  again_plain : (ty : Scalar) → Plain asked (again_at context ty)
  again_plain ty = from_laws asked (again_at context ty) (IsAgain context ty) (again_reads context ty) (again_finds context ty) (again_stops context free ty)

  local_plain : Plain asked (local_at context)
  local_plain = from_laws asked (local_at context) (IsLocal context) (local_reads context) (local_finds context) (local_stops context)

  next_label_plain : Plain asked (next_label_at context)
  next_label_plain = from_laws asked (next_label_at context) (IsNextLabel context) (next_label_reads context) (next_label_finds context) (next_label_stops context)

  edge_plain : (ty : Scalar) → Plain asked (edge_at context ty)
  edge_plain ty = from_laws asked (edge_at context ty) (IsEdge context ty) (edge_reads context ty) (edge_finds context ty) (edge_stops context free ty)

  case_plain : (ty : Scalar) → Plain asked (case_at context ty)
  case_plain ty = from_laws asked (case_at context ty) (IsCase context ty) (case_reads context ty) (case_finds context ty) (case_stops context free ty)

  unbroken_plain : {A : Type 0} (item : List Tok → Read A) → Plain asked item → Plain asked (unbroken_at item)
  unbroken_plain item plain =
      then_plain asked item (λ x. items_while has_further (λ us. item (behind us)) (length x.1) x.1 >>= λ xs. Ok (x.0 ∷ xs.0, xs.1)) plain
      (λ x. last_plain asked (λ us. items_while has_further (λ vs. item (behind vs)) (length us) us) (λ xs. x ∷ xs)
      (items_plain has_further (λ us. item (behind us)) refl (behind_consumes asked has_further item (λ ts e. further_some (has (is_mark Comma) ts) ts refl e) plain) asked further_looks (behind_local asked Same item item plain)))

  -- a case takes a token at least: its type
  case_shorter : (ty : Scalar) → Consumes has_case (case_at context ty)
  case_shorter ty [] us x g e = cc
  case_shorter ty (t ∷ ts) us x g e = case_size context ty (t ∷ ts) us x e

  cases_plain : (ty : Scalar) → Plain asked (cases_at context ty)
  cases_plain ty =
      then_plain asked (mark_at OpenBracket) (λ o. some_cases_at context ty o.1 >>= λ cs. mark_at CloseBracket cs.1 >>= λ c. Ok (cs.0, c.1)) (mark OpenBracket)
      (λ o. then_plain asked (some_cases_at context ty) (λ cs. mark_at CloseBracket cs.1 >>= λ c. Ok (cs.0, c.1))
      (items_plain has_case (case_at context ty) refl (case_shorter ty) asked (has_looks (λ k. not (is_mark CloseBracket k))) (case_plain ty))
      (λ cs. last_plain asked (mark_at CloseBracket) (λ c. cs) (mark CloseBracket)))

  -- Instructions behind their first words.

  binary_plain : (to : ℕ) (o : BinOp) → Plain asked (binary_behind context to o)
  binary_plain to o =
      then_plain asked (flagged_typed_at context) (λ a. second_at context (a.0.ty) a.1 >>= λ b. Ok (op.Binary to o (a.0.ty) (a.0.value) b.0, b.1)) flagged_typed_plain
      (λ a. last_plain asked (second_at context (a.ty)) (λ b. op.Binary to o (a.ty) (a.value) b) (second_plain (a.ty)))

  predicate_plain : Plain asked predicate_at
  predicate_plain = skipped_plain asked is_flag_word (pick_at (λ t. predicate_in t.kind) word_refusal) (pick_plain asked (λ t. predicate_in t.kind) word_refusal)

  compare_plain : (to : ℕ) → Plain asked (compare_behind context to)
  compare_plain to =
      then_plain asked (predicate_at) (λ p. typed_at context p.1 >>= λ a. second_at context (a.0.ty) a.1 >>= λ b. Ok (op.Compare to p.0 (a.0.ty) (a.0.value) b.0, b.1)) predicate_plain
      (λ p. then_plain asked (typed_at context) (λ a. second_at context (a.0.ty) a.1 >>= λ b. Ok (op.Compare to p (a.0.ty) (a.0.value) b.0, b.1)) typed_plain
      (λ a. last_plain asked (second_at context (a.ty)) (λ b. op.Compare to p (a.ty) (a.value) b) (second_plain (a.ty))))

  convert_plain : (to : ℕ) (how : Conversion) → Plain asked (convert_behind context to how)
  convert_plain to how =
      then_plain asked (flagged_typed_at context) (λ a. next_at is_to a.1 >>= λ t. scalar_at t.1 >>= λ u. Ok (op.Convert to how (a.0.ty) (a.0.value) u.0, u.1)) flagged_typed_plain
      (λ a. then_plain asked (next_at is_to) (λ t. scalar_at t.1 >>= λ u. Ok (op.Convert to how (a.ty) (a.value) u.0, u.1)) (next_plain asked is_to)
      (λ t. last_plain asked (scalar_at) (λ u. op.Convert to how (a.ty) (a.value) u) (pick_plain asked (λ t. scalar_in t.kind) scalar_refusal)))

  freeze_plain : (to : ℕ) → Plain asked (unary_behind context to unary.Freeze)
  freeze_plain to =
      last_plain asked (flagged_typed_at context) (λ a. op.Unary to unary.Freeze (a.ty) (a.value)) flagged_typed_plain

  select_plain : (to : ℕ) → Plain asked (select_behind context to)
  select_plain to =
      then_plain asked (λ ts. truth_type_at (skipped is_flag_word ts)) (λ i. value_at context (Int W1) i.1 >>= λ c. mark_at Comma c.1 >>= λ d. typed_at context d.1 >>= λ a. again_at context (a.0.ty) a.1 >>= λ b. Ok (op.Select to c.0 (a.0.ty) (a.0.value) b.0, b.1)) flagged_truth_plain
      (λ i. then_plain asked (value_at context (Int W1)) (λ c. mark_at Comma c.1 >>= λ d. typed_at context d.1 >>= λ a. again_at context (a.0.ty) a.1 >>= λ b. Ok (op.Select to c.0 (a.0.ty) (a.0.value) b.0, b.1)) (value_plain asked context free (Int W1))
      (λ c. then_plain asked (mark_at Comma) (λ d. typed_at context d.1 >>= λ a. again_at context (a.0.ty) a.1 >>= λ b. Ok (op.Select to c (a.0.ty) (a.0.value) b.0, b.1)) (mark Comma)
      (λ d. then_plain asked (typed_at context) (λ a. again_at context (a.0.ty) a.1 >>= λ b. Ok (op.Select to c (a.0.ty) (a.0.value) b.0, b.1)) typed_plain
      (λ a. last_plain asked (again_at context (a.ty)) (λ b. op.Select to c (a.ty) (a.value) b) (again_plain (a.ty))))))

  phi_plain : (to : ℕ) → Plain asked (phi_behind context to)
  phi_plain to =
      then_plain asked (flagged_scalar_at) (λ t. unbroken_at (edge_at context t.0) t.1 >>= λ es. Ok (op.Phi to t.0 es.0, es.1)) flagged_scalar_plain
      (λ t. last_plain asked (unbroken_at (edge_at context t)) (λ es. op.Phi to t es) (unbroken_plain (edge_at context t) (edge_plain t)))

  alloca_plain : (to : ℕ) → Plain asked (alloca_behind context to)
  alloca_plain to =
      then_plain asked (flagged_type_at context) (λ t. align_at t.1 >>= λ a. Ok (op.Alloca to t.0, a.1)) flagged_type_plain
      (λ t. last_plain asked (align_at) (λ a. op.Alloca to t) (align_plain asked))

  load_plain : (to : ℕ) → Plain asked (load_behind context to)
  load_plain to =
      then_plain asked (flagged_scalar_at) (λ t. address_at context t.1 >>= λ p. align_at p.1 >>= λ a. Ok (op.Load to t.0 p.0, a.1)) flagged_scalar_plain
      (λ t. then_plain asked (address_at context) (λ p. align_at p.1 >>= λ a. Ok (op.Load to t p.0, a.1)) address_plain
      (λ p. last_plain asked (align_at) (λ a. op.Load to t p) (align_plain asked)))

  element_plain : (to : ℕ) → Plain asked (element_behind context to)
  element_plain to =
      then_plain asked (flagged_type_at context) (λ t. address_at context t.1 >>= λ p. mark_at Comma p.1 >>= λ c. unbroken_at (typed_at context) c.1 >>= λ js. Ok (op.GetElementPtr to t.0 p.0 js.0, js.1)) flagged_type_plain
      (λ t. then_plain asked (address_at context) (λ p. mark_at Comma p.1 >>= λ c. unbroken_at (typed_at context) c.1 >>= λ js. Ok (op.GetElementPtr to t p.0 js.0, js.1)) address_plain
      (λ p. then_plain asked (mark_at Comma) (λ c. unbroken_at (typed_at context) c.1 >>= λ js. Ok (op.GetElementPtr to t p js.0, js.1)) (mark Comma)
      (λ c. last_plain asked (unbroken_at (typed_at context)) (λ js. op.GetElementPtr to t p js) (unbroken_plain (typed_at context) typed_plain))))

  store_plain : Plain asked (store_behind context)
  store_plain =
      then_plain asked (flagged_typed_at context) (λ v. address_at context v.1 >>= λ p. align_at p.1 >>= λ a. Ok (op.Store (v.0.ty) (v.0.value) p.0, a.1)) flagged_typed_plain
      (λ v. then_plain asked (address_at context) (λ p. align_at p.1 >>= λ a. Ok (op.Store (v.ty) (v.value) p.0, a.1)) address_plain
      (λ p. last_plain asked (align_at) (λ a. op.Store (v.ty) (v.value) p) (align_plain asked)))

  returned_plain : (ret : Option Scalar) → Plain asked (returned_at context ret)
  returned_plain None = pure_plain asked None
  returned_plain (Some ty) = last_plain asked (value_at context ty) (λ v. Some (argument ty v)) (value_plain asked context free ty)

  result_plain : Plain asked flagged_result_at
  result_plain = skipped_plain asked is_flag_word (pick_at (λ t. result_in t.kind) passing.word_refusal) (pick_plain asked (λ t. result_in t.kind) passing.word_refusal)

  ret_plain : Plain asked (ret_behind context)
  ret_plain =
      then_plain asked (flagged_result_at) (λ t. returned_at context t.0 t.1 >>= λ v. Ok (op.Ret v.0, v.1)) result_plain
      (λ t. last_plain asked (returned_at context t) (λ v. op.Ret v) (returned_plain t))

  jump_plain : Plain asked (jump_behind context)
  jump_plain =
      last_plain asked (local_at context) (λ l. op.Jump l) local_plain

  truth_plain : Plain asked truth_type_at
  truth_plain = pick_plain asked (λ t. when (is_truth_word t.kind)) named_type_refusal

  branch_plain : Plain asked (branch_behind context)
  branch_plain =
      then_plain asked (truth_type_at) (λ i. value_at context (Int W1) i.1 >>= λ c. next_label_at context c.1 >>= λ a. next_label_at context a.1 >>= λ b. Ok (op.Branch c.0 a.0 b.0, b.1)) truth_plain
      (λ i. then_plain asked (value_at context (Int W1)) (λ c. next_label_at context c.1 >>= λ a. next_label_at context a.1 >>= λ b. Ok (op.Branch c.0 a.0 b.0, b.1)) (value_plain asked context free (Int W1))
      (λ c. then_plain asked (next_label_at context) (λ a. next_label_at context a.1 >>= λ b. Ok (op.Branch c a.0 b.0, b.1)) next_label_plain
      (λ a. last_plain asked (next_label_at context) (λ b. op.Branch c a b) next_label_plain)))

  br_plain : Plain asked (br_behind context)
  br_plain =
      skipped_plain asked is_flag_word (br_at context)
      (if_plain asked is_label_word (λ ts. jump_behind context (behind ts)) (branch_behind context) (behind_local asked Same (jump_behind context) (jump_behind context) jump_plain) branch_plain)

  switch_plain : Plain asked (switch_behind context)
  switch_plain =
      then_plain asked (flagged_typed_at context) (λ v. next_label_at context v.1 >>= λ d. cases_at context (v.0.ty) d.1 >>= λ cs. Ok (op.Switch (v.0.ty) (v.0.value) d.0 cs.0, cs.1)) flagged_typed_plain
      (λ v. then_plain asked (next_label_at context) (λ d. cases_at context (v.ty) d.1 >>= λ cs. Ok (op.Switch (v.ty) (v.value) d.0 cs.0, cs.1)) next_label_plain
      (λ d. last_plain asked (cases_at context (v.ty)) (λ cs. op.Switch (v.ty) (v.value) d cs) (cases_plain (v.ty))))

  -- Instructions.

  module _ (form : TextForm) where
    behind_word : (read : List Tok → Read Op) → Plain asked read → Plain asked (λ ts. read (behind ts))
    behind_word read plain = behind_local asked Same read read plain

    giving_plain : (to : ℕ) (w : InstructionWord) → Plain asked (giving_of context form to w)
    giving_plain to (instructions.Operator o) = behind_word (binary_behind context to o) (binary_plain to o)
    giving_plain to instructions.Compare = behind_word (compare_behind context to) (compare_plain to)
    giving_plain to (instructions.Conversion w) = behind_word (convert_behind context to (conversion_of w)) (convert_plain to (conversion_of w))
    giving_plain to instructions.Freeze = behind_word (unary_behind context to unary.Freeze) (freeze_plain to)
    giving_plain to instructions.Select = behind_word (select_behind context to) (select_plain to)
    giving_plain to instructions.Phi = behind_word (phi_behind context to) (phi_plain to)
    giving_plain to instructions.Alloca = behind_word (alloca_behind context to) (alloca_plain to)
    giving_plain to instructions.Load = behind_word (load_behind context to) (load_plain to)
    giving_plain to instructions.GetElementPtr = behind_word (element_behind context to) (element_plain to)
    giving_plain to instructions.Call = behind_word (call_behind context form (Some to)) (call_behind_plain asked context free form (Some to))
    giving_plain to w = fault_local asked Same Statement

    silent_plain : (w : InstructionWord) → Plain asked (silent_of context form w)
    silent_plain instructions.Store = behind_word (store_behind context) store_plain
    silent_plain instructions.Call = behind_word (call_behind context form None) (call_behind_plain asked context free form None)
    silent_plain instructions.Ret = behind_word (ret_behind context) ret_plain
    silent_plain instructions.Br = behind_word (br_behind context) br_plain
    silent_plain instructions.Switch = behind_word (switch_behind context) switch_plain
    silent_plain instructions.Unreachable = behind_word (λ ts. Ok (op.Unreachable, ts)) (pure_plain asked op.Unreachable)
    silent_plain w = fault_local asked Same Statement

    -- an instruction by its first token
    abbrev by_first : (InstructionWord → List Tok → Read Op) → Option Tok → List Tok → Read Op
    by_first of None ts = refused []
    by_first of (Some t) ts = by_word (instruction_in t.kind) of t.kind ts

    word_plain : (of : InstructionWord → List Tok → Read Op) → ((w : InstructionWord) → Plain asked (of w)) → (k : Kind) (w : Option InstructionWord) → Plain asked (by_word w of k)
    word_plain of each k None = fault_local asked Same (refusal k)
    word_plain of each k (Some w) = each w

    first_plain : (of : InstructionWord → List Tok → Read Op) → ((w : InstructionWord) → Plain asked (of w)) → (first : Option Tok) → Plain asked (by_first of first)
    first_plain of each None = end_local asked Same
    first_plain of each (Some t) = word_plain of each t.kind (instruction_in t.kind)

    as_first : (of : InstructionWord → List Tok → Read Op) (ts : List Tok) → first_word_at of ts ≡ by_first of (first_of ts) ts
    as_first of [] = refl
    as_first of (t ∷ ts) = refl

    first_word_plain : (of : InstructionWord → List Tok → Read Op) → ((w : InstructionWord) → Plain asked (of w)) → Plain asked (first_word_at of)
    first_word_plain of each =
        same_local asked Same (first_word_at of) (first_word_at of) (λ ts. by_first of (first_of ts) ts) (λ ts. by_first of (first_of ts) ts) (as_first of) (as_first of)
        (choose_local asked Same first_of first_of (λ us vs l. l.first) (by_first of) (by_first of) (first_plain of each))

    giving_at_plain : (to : ℕ) → Plain asked (giving_at context form to)
    giving_at_plain to = if_plain asked is_tail_word (tail_call_at context form (Some to)) (first_word_at (giving_of context form to)) (tail_call_plain asked context free form (Some to)) (first_word_plain (giving_of context form to) (giving_plain to))

    silent_at_plain : Plain asked (silent_at context form)
    silent_at_plain = if_plain asked is_tail_word (tail_call_at context form None) (first_word_at (silent_of context form)) (tail_call_plain asked context free form None) (first_word_plain (silent_of context form) silent_plain)

    given_plain : (to : ℕ) → Plain asked (given_behind context form to)
    given_plain to = then_plain asked (mark_at Equal) (λ e. giving_at context form to e.1) (mark Equal) (λ e. giving_at_plain to)

    abbrev form_by : ℕ → List Tok → Read Op
    form_by name ts = if has is_register ts then given_behind context form (register_number context name) (behind ts) else silent_at context form ts

    form_plain : Plain asked (form_at context form)
    form_plain =
        choose_local asked Same first_name first_name (λ us vs l. name_looks us vs l.first) form_by form_by
        (λ name. if_plain asked is_register (λ ts. given_behind context form (register_number context name) (behind ts)) (silent_at context form)
        (behind_local asked Same (given_behind context form (register_number context name)) (given_behind context form (register_number context name)) (given_plain (register_number context name))) silent_at_plain)

    pub instruction_plain : Plain asked (instruction_at context form)
    instruction_plain = then_plain asked (form_at context form) (λ o. metadata_at o.1 >>= λ m. Ok (o.0, m.1)) form_plain (λ o. last_plain asked metadata_at (λ m. o) (metadata_plain asked))
