-- Statements.
use Rattle.std.proofs.Common.{◌≡◌, ℕ, Bool, true, false, Option, Some, None, List, [], ◌∷◌, Ok, Err, refl, ap, subst, sym, ◌∙◌, ◌++◌}
use Rattle.std.specs.Prelude.{if◌then◌else◌}
use Rattle.lx_words.specs.declared.token.Token.{Token}
use Rattle.lx_ir_tokens.specs.declared.token.Tok.{Tok}
use Rattle.lx_ir_tokens.specs.declared.token.Kind.{Kind}
use Rattle.lx_ir_tokens.specs.declared.token.Kind.TheVariants as kinds
use Rattle.lx_ir_tokens.specs.declared.token.Mark.TheVariants.{Comma, Equal, OpenBrace}
use Rattle.lx_ir_tokens.specs.declared.keyword.StatementWord.TheVariants as words
use Rattle.lx_ir_tokens.specs.declared.keyword.Keyword.TheVariants as keywords
use Rattle.lx_ir.specs.declared.types.Scalar.{Scalar}
use Rattle.lx_ir.specs.declared.module.Block.{Block}
use Rattle.lx_ir.specs.IrType.{IrType}
use Rattle.lx_ir_terms.specs.declared.fault.Fault.{Fault}
use Rattle.lx_ir_terms.specs.declared.fault.FaultKind.{FaultKind}
use Rattle.lx_ir_terms.specs.declared.fault.FaultKind.TheVariants as faults
use Rattle.lx_ir_terms.specs.Context.{Context}
use Rattle.lx_ir_terms.specs.Reading.{Read, ◌>>=◌, at, refusal, refused, behind, is_mark, pick_at, next_at, mark_at, has}
use Rattle.lx_ir_terms.specs.Types.{always_refused, depth_limit, written_type_at}
use Rattle.lx_ir_terms.specs.Words.{passed_result_at}
use Rattle.lx_ir_terms.specs.Grammar.{IsWritten}
use Rattle.lx_ir_terms.proofs.Written.{written_again, written_found, written_stops}
use Rattle.lx_ir_constants.specs.Constants.{word_refusal, first_name}
use Rattle.lx_ir_constants.specs.Inits.{init_at}
use Rattle.lx_ir_constants.specs.InitGrammar.{IsInit}
use Rattle.lx_ir_constants.proofs.InitLaws.{init_again}
use Rattle.lx_ir_constants.proofs.InitsFound.{init_found}
use Rattle.lx_ir_constants.proofs.InitStops.{init_stops}
use Rattle.lx_ir_operands.specs.Steps.{one_align_at}
use Rattle.lx_ir_calls.specs.declared.intrinsics.TextForm.{TextForm}
use Rattle.lx_ir_statements.specs.declared.head.Head.{Head}
use Rattle.lx_ir_statements.specs.Numbers.{has_number, has_some}
use Rattle.lx_ir_statements.specs.Words.{is_linkage_word, import_attributes_at, function_attributes_at}
use Rattle.lx_ir_statements.specs.Parameters.{parameters_at}
use Rattle.lx_ir_statements.specs.Imports.{import_parameters_at}
use Rattle.lx_ir_statements.specs.Blocks.{blocks_at}
use Rattle.lx_ir_statements.specs.declared.form.Statement.{Statement}
use Rattle.lx_ir_statements.specs.declared.form.Statement.TheVariants as statements
use Rattle.lx_ir_statements.specs.declared.defined.Defined.{Defined}
use Rattle.lx_ir_statements.specs.Defined.{is_imported_twice, names_block_write, with_statement}
use Rattle.lx_ir_statements.specs.Statements.{is_type_word, opens_struct, refused_here, struct_at, type_statement_at, symbol_name, next_symbol, symbol_at, new_symbol_at, import_name_at, new_function_name_at, storage_in, storage_at, global_align_at, global_at, import_behind, function_behind, statement_by, statement_at}
use Rattle.lx_ir_terms.proofs.Stopping.{first_same}
use Rattle.lx_ir_complete.specs.Alike.{StopsThere}
use Rattle.lx_ir_complete.proofs.Local.{stops_there, first_of, Same, Local, Plain, pure_local, pure_plain, fault_local, end_local, bind_local, then_plain, last_plain, if_plain, choose_local, same_local, behind_local, from_laws}
use Rattle.lx_ir_complete.proofs.Loops.{next_plain, skipped_plain}
use Rattle.lx_ir_complete.proofs.RefusedOperands.{pick_plain, one_align_plain}
use Rattle.lx_ir_complete.proofs.RefusedForms.{name_looks}
use Rattle.lx_ir_statements.specs.Grammar.{is_define_word}
use Rattle.lx_ir_complete.proofs.RefusedHeads.{passed_result_plain, import_attributes_plain, function_attributes_plain, import_parameters_plain, parameters_plain}
use Rattle.lx_ir_complete.proofs.RefusedBlocks.{Anything, blocks_local}

symbol_looks : (us vs : List Tok) → first_of us ≡ first_of vs → next_symbol us ≡ next_symbol vs
symbol_looks [] [] e = refl
symbol_looks [] (v ∷ vs) e = cc
symbol_looks (u ∷ us) [] e = cc
symbol_looks (u ∷ us) (v ∷ vs) e = let s : u ≡ v = cc in ap (λ (t : Tok). symbol_name t.kind t.name) s

-- whatever is defined before, both define the same
abbrev pub SameDefined : Statement → Statement → Type 0
SameDefined s t = (context : Context) (defined : Defined) → with_statement context defined s ≡ with_statement context defined t

module _ (asked : FaultKind → Bool) where
  mark : (m : _) → Plain asked (mark_at m)
  mark m = next_plain asked (is_mark m)

  -- one statement defines what one like it does
  any_local : (read : List Tok → Read Statement) → Plain asked read → Local asked SameDefined read read
  any_local read plain = record {
    ends = plain.ends;
    reads = λ front us vs x e l. let r = plain.reads front us vs x e l in (r.0, r.1, λ c d. ap (with_statement c d) r.2);
    stops = plain.stops;
    faults = plain.faults;
  }

  -- one reader, and another behind it that says a statement
  then_any : {A : Type 0} (read : List Tok → Read A) (g : A × List Tok → Read Statement) → Plain asked read → ((x : A) → Local asked SameDefined (λ us. g (x, us)) (λ us. g (x, us))) → Local asked SameDefined (λ ts. read ts >>= g) (λ ts. read ts >>= g)
  then_any read g first next =
      bind_local asked Same SameDefined read read (λ ts. g) (λ ts. g) first (λ ts vs x y l e. subst (λ v. Local asked SameDefined (λ us. g (x, us)) (λ us. g (v, us))) e (next x))

  -- Names behind `@`.

  symbol_plain : Plain asked symbol_at
  symbol_plain = pick_plain asked (λ t. symbol_name t.kind t.name) always_refused

  symbol_unless : (b : Bool) → Plain asked (λ ts. if b then Err (at faults.Twice ts) else symbol_at ts)
  symbol_unless true = fault_local asked Same faults.Twice
  symbol_unless false = symbol_plain

  new_symbol_plain : (defined : Defined) → Plain asked (new_symbol_at defined)
  new_symbol_plain defined =
      choose_local asked Same next_symbol next_symbol (λ us vs l. symbol_looks us vs l.first) (λ n ts. if has_some defined.symbols n then Err (at faults.Twice ts) else symbol_at ts) (λ n ts. if has_some defined.symbols n then Err (at faults.Twice ts) else symbol_at ts)
      (λ n. symbol_unless (has_some defined.symbols n))

  module _ (context : Context) where
    import_name_plain : (defined : Defined) → Plain asked (import_name_at context defined)
    import_name_plain defined =
        choose_local asked Same next_symbol next_symbol (λ us vs l. symbol_looks us vs l.first) (λ n ts. if is_imported_twice context defined n then Err (at faults.Twice ts) else symbol_at ts) (λ n ts. if is_imported_twice context defined n then Err (at faults.Twice ts) else symbol_at ts)
        (λ n. symbol_unless (is_imported_twice context defined n))

    import_plain : (defined : Defined) → Plain asked (import_behind context defined)
    import_plain defined =
        then_plain asked (passed_result_at true) (λ r. import_name_at context defined r.1 >>= λ n. import_parameters_at n.1 >>= λ ps. import_attributes_at ps.1 >>= λ w. Ok (statements.Import n.0 r.0 ps.0, w.1)) (passed_result_plain asked)
        (λ r. then_plain asked (import_name_at context defined) (λ n. import_parameters_at n.1 >>= λ ps. import_attributes_at ps.1 >>= λ w. Ok (statements.Import n.0 r ps.0, w.1)) (import_name_plain defined)
        (λ n. then_plain asked import_parameters_at (λ ps. import_attributes_at ps.1 >>= λ w. Ok (statements.Import n r ps.0, w.1)) (import_parameters_plain asked)
        (λ ps. last_plain asked import_attributes_at (λ w. statements.Import n r ps) (import_attributes_plain asked))))

    module _ (free : context.limits ≡ None) where
      written_plain : Plain asked (written_type_at context)
      written_plain = from_laws asked (written_type_at context) (IsWritten context) (written_again context) (written_found context) (written_stops context free)

      init_plain : (ty : IrType) → Plain asked (init_at context depth_limit ty)
      init_plain ty = from_laws asked (init_at context depth_limit ty) (IsInit context depth_limit ty) (init_again context depth_limit ty) (init_found context depth_limit ty) (init_stops context free depth_limit ty)

      -- Types.

      abbrev refused_by : Option Tok → List Tok → Read IrType
      refused_by None ts = refused []
      refused_by (Some t) ts = Err (at (refusal t.kind) ts)

      refused_each : (first : Option Tok) → Plain asked (refused_by first)
      refused_each None = end_local asked Same
      refused_each (Some t) = fault_local asked Same (refusal t.kind)

      abbrev refused_type : List Tok → Read IrType
      refused_type ts = refused_here ts

      as_refused : (ts : List Tok) → refused_type ts ≡ refused_by (first_of ts) ts
      as_refused [] = refl
      as_refused (t ∷ ts) = refl

      refused_plain : Plain asked refused_type
      refused_plain =
          same_local asked Same refused_type refused_type (λ ts. refused_by (first_of ts) ts) (λ ts. refused_by (first_of ts) ts) as_refused as_refused
          (choose_local asked Same first_of first_of (λ us vs l. l.first) refused_by refused_by refused_each)

      struct_plain : Plain asked (struct_at context)
      struct_plain = if_plain asked opens_struct (written_type_at context) refused_type written_plain refused_plain

      -- a type of this name
      abbrev type_named : ℕ → List Tok → Read Statement
      type_named n ts = written_type_at context ts >>= λ a. mark_at Equal a.1 >>= λ e. next_at is_type_word e.1 >>= λ w. struct_at context w.1 >>= λ t. Ok (statements.Type n t.0, t.1)

      type_named_plain : (n : ℕ) → Plain asked (type_named n)
      type_named_plain n =
          then_plain asked (written_type_at context) (λ a. mark_at Equal a.1 >>= λ e. next_at is_type_word e.1 >>= λ w. struct_at context w.1 >>= λ t. Ok (statements.Type n t.0, t.1)) written_plain
          (λ a. then_plain asked (mark_at Equal) (λ e. next_at is_type_word e.1 >>= λ w. struct_at context w.1 >>= λ t. Ok (statements.Type n t.0, t.1)) (mark Equal)
          (λ e. then_plain asked (next_at is_type_word) (λ w. struct_at context w.1 >>= λ t. Ok (statements.Type n t.0, t.1)) (next_plain asked is_type_word)
          (λ w. last_plain asked (struct_at context) (λ t. statements.Type n t) struct_plain)))

      type_unless : (b : Bool) (n : ℕ) → Plain asked (λ ts. if b then Err (at faults.Twice ts) else type_named n ts)
      type_unless true n = fault_local asked Same faults.Twice
      type_unless false n = type_named_plain n

      type_plain : (defined : Defined) → Plain asked (type_statement_at context defined)
      type_plain defined =
          choose_local asked Same first_name first_name (λ us vs l. name_looks us vs l.first) (λ n ts. if has_number defined.types n then Err (at faults.Twice ts) else type_named n ts) (λ n ts. if has_number defined.types n then Err (at faults.Twice ts) else type_named n ts)
          (λ n. type_unless (has_number defined.types n) n)

      -- Globals.

      storage_plain : Plain asked storage_at
      storage_plain = skipped_plain asked is_linkage_word (pick_at (λ t. storage_in t.kind) word_refusal) (pick_plain asked (λ t. storage_in t.kind) word_refusal)

      global_align_plain : Plain asked global_align_at
      global_align_plain = if_plain asked (is_mark Comma) (λ ts. one_align_at (behind ts)) (λ ts. Ok (tt, ts)) (behind_local asked Same one_align_at one_align_at (one_align_plain asked)) (pure_plain asked tt)

      global_plain : (defined : Defined) → Plain asked (global_at context defined)
      global_plain defined =
          then_plain asked (new_symbol_at defined) (λ n. mark_at Equal n.1 >>= λ e. storage_at e.1 >>= λ k. written_type_at context k.1 >>= λ t. init_at context depth_limit t.0 t.1 >>= λ i. global_align_at i.1 >>= λ a. Ok (statements.Global n.0 k.0 t.0 i.0, a.1)) (new_symbol_plain defined)
          (λ n. then_plain asked (mark_at Equal) (λ e. storage_at e.1 >>= λ k. written_type_at context k.1 >>= λ t. init_at context depth_limit t.0 t.1 >>= λ i. global_align_at i.1 >>= λ a. Ok (statements.Global n k.0 t.0 i.0, a.1)) (mark Equal)
          (λ e. then_plain asked storage_at (λ k. written_type_at context k.1 >>= λ t. init_at context depth_limit t.0 t.1 >>= λ i. global_align_at i.1 >>= λ a. Ok (statements.Global n k.0 t.0 i.0, a.1)) storage_plain
          (λ k. then_plain asked (written_type_at context) (λ t. init_at context depth_limit t.0 t.1 >>= λ i. global_align_at i.1 >>= λ a. Ok (statements.Global n k t.0 i.0, a.1)) written_plain
          (λ t. then_plain asked (init_at context depth_limit t) (λ i. global_align_at i.1 >>= λ a. Ok (statements.Global n k t i.0, a.1)) (init_plain t)
          (λ i. last_plain asked global_align_at (λ a. statements.Global n k t i) global_align_plain)))))

      -- Functions.

      name_unless : (a b : Bool) → Plain asked (λ ts. if a then Err (at faults.Twice ts) else if b then Err (at faults.OutOfProfile ts) else symbol_at ts)
      name_unless true b = fault_local asked Same faults.Twice
      name_unless false true = fault_local asked Same faults.OutOfProfile
      name_unless false false = symbol_plain

      abbrev name_by : Defined → Option ℕ → List Tok → Read ℕ
      name_by defined n ts = if has_some defined.symbols n then Err (at faults.Twice ts) else if names_block_write context n then Err (at faults.OutOfProfile ts) else symbol_at ts

      function_name_plain : (defined : Defined) → Plain asked (new_function_name_at context defined)
      function_name_plain defined =
          choose_local asked Same next_symbol next_symbol (λ us vs l. symbol_looks us vs l.first) (name_by defined) (name_by defined)
          (λ n. name_unless (has_some defined.symbols n) (names_block_write context n))

      module _ (silent : asked faults.Twice ≡ false) (form : TextForm) (places : List Token) where
        abbrev with_blocks : ℕ → Option Scalar → Head → List Block × List Tok → Read Statement
        with_blocks n r h bs = Ok (statements.Function n r h.params bs.0, bs.1)

        body_any : (n : ℕ) (r : Option Scalar) (h : Head) → Local asked SameDefined (λ ts. blocks_at context form places h.numbered h.registers ts >>= with_blocks n r h) (λ ts. blocks_at context form places h.numbered h.registers ts >>= with_blocks n r h)
        body_any n r h =
            bind_local asked Anything SameDefined (blocks_at context form places h.numbered h.registers) (blocks_at context form places h.numbered h.registers) (λ ts. with_blocks n r h) (λ ts. with_blocks n r h) (blocks_local asked context free form places h.numbered h.registers)
            (λ ts vs x y l e. pure_local asked SameDefined (statements.Function n r h.params x) (statements.Function n r h.params y) (λ c d. refl))

        function_any : (defined : Defined) → Local asked SameDefined (function_behind context form places defined) (function_behind context form places defined)
        function_any defined =
            then_any (passed_result_at true) (λ r. new_function_name_at context defined r.1 >>= λ n. parameters_at context n.1 >>= λ h. function_attributes_at h.1 >>= λ a. mark_at OpenBrace a.1 >>= λ o. blocks_at context form places h.0.numbered h.0.registers o.1 >>= with_blocks n.0 r.0 h.0) (passed_result_plain asked)
            (λ r. then_any (new_function_name_at context defined) (λ n. parameters_at context n.1 >>= λ h. function_attributes_at h.1 >>= λ a. mark_at OpenBrace a.1 >>= λ o. blocks_at context form places h.0.numbered h.0.registers o.1 >>= with_blocks n.0 r h.0) (function_name_plain defined)
            (λ n. then_any (parameters_at context) (λ h. function_attributes_at h.1 >>= λ a. mark_at OpenBrace a.1 >>= λ o. blocks_at context form places h.0.numbered h.0.registers o.1 >>= with_blocks n r h.0) (parameters_plain asked silent context)
            (λ h. then_any function_attributes_at (λ a. mark_at OpenBrace a.1 >>= λ o. blocks_at context form places h.numbered h.registers o.1 >>= with_blocks n r h) (function_attributes_plain asked)
            (λ a. then_any (mark_at OpenBrace) (λ o. blocks_at context form places h.numbered h.registers o.1 >>= with_blocks n r h) (mark OpenBrace)
            (λ o. body_any n r h)))))

        -- Statements.

        kind_any : (defined : Defined) (k : Kind) → Local asked SameDefined (statement_by context form places defined k) (statement_by context form places defined k)
        kind_any defined kinds.Local = any_local (type_statement_at context defined) (type_plain defined)
        kind_any defined kinds.Global = any_local (global_at context defined) (global_plain defined)
        kind_any defined (kinds.Word (keywords.Statement words.Declare)) =
            behind_local asked SameDefined (import_behind context defined) (import_behind context defined) (any_local (import_behind context defined) (import_plain defined))
        kind_any defined (kinds.Word (keywords.Statement words.Define)) =
            behind_local asked SameDefined (function_behind context form places defined) (function_behind context form places defined) (function_any defined)
        kind_any defined k = fault_local asked SameDefined (refusal k)

        abbrev by_first : Defined → Option Tok → List Tok → Read Statement
        by_first defined None ts = refused []
        by_first defined (Some t) ts = statement_by context form places defined t.kind ts

        first_any : (defined : Defined) (first : Option Tok) → Local asked SameDefined (by_first defined first) (by_first defined first)
        first_any defined None = end_local asked SameDefined
        first_any defined (Some t) = kind_any defined t.kind

        as_first : (defined : Defined) (ts : List Tok) → statement_at context form places defined ts ≡ by_first defined (first_of ts) ts
        as_first defined [] = refl
        as_first defined (t ∷ ts) = refl

        pub statement_any : (defined : Defined) → Local asked SameDefined (statement_at context form places defined) (statement_at context form places defined)
        statement_any defined =
            same_local asked SameDefined (statement_at context form places defined) (statement_at context form places defined) (λ ts. by_first defined (first_of ts) ts) (λ ts. by_first defined (first_of ts) ts) (as_first defined) (as_first defined)
            (choose_local asked SameDefined first_of first_of (λ us vs l. l.first) (by_first defined) (by_first defined) (first_any defined))

-- Statements that are no functions. A name that they define twice is refused where it stands, whatever follows it.

module _ (context : Context) (free : context.limits ≡ None) (form : TextForm) (places : List Token) (defined : Defined) where
  abbrev every : FaultKind → Bool
  every k = true

  -- a statement by its first token, where a function is none
  abbrev but_functions : Kind → List Tok → Read Statement
  but_functions kinds.Local ts = type_statement_at context defined ts
  but_functions kinds.Global ts = global_at context defined ts
  but_functions (kinds.Word (keywords.Statement words.Declare)) ts = import_behind context defined (behind ts)
  but_functions k ts = Err (at (refusal k) ts)

  same_kind : (k : Kind) (ts : List Tok) → is_define_word k ≡ false → statement_by context form places defined k ts ≡ but_functions k ts
  same_kind kinds.Local ts e = refl
  same_kind kinds.Global ts e = refl
  same_kind (kinds.Word (keywords.Statement words.Declare)) ts e = refl
  same_kind (kinds.Word (keywords.Statement words.Define)) ts e = cc
  same_kind k ts e = refl

  but_local : (k : Kind) → Local every SameDefined (but_functions k) (but_functions k)
  but_local kinds.Local = any_local every (type_statement_at context defined) (type_plain every context free defined)
  but_local kinds.Global = any_local every (global_at context defined) (global_plain every context free defined)
  but_local (kinds.Word (keywords.Statement words.Declare)) =
      behind_local every SameDefined (import_behind context defined) (import_behind context defined) (any_local every (import_behind context defined) (import_plain every context defined))
  but_local k = fault_local every SameDefined (refusal k)

  abbrev but_by : Option Tok → List Tok → Read Statement
  but_by None ts = refused []
  but_by (Some t) ts = but_functions t.kind ts

  abbrev but : List Tok → Read Statement
  but ts = but_by (first_of ts) ts

  but_each : (first : Option Tok) → Local every SameDefined (but_by first) (but_by first)
  but_each None = end_local every SameDefined
  but_each (Some t) = but_local t.kind

  same_statement : (ts : List Tok) → has is_define_word ts ≡ false → statement_at context form places defined ts ≡ but ts
  same_statement [] e = refl
  same_statement (t ∷ ts) e = same_kind t.kind (t ∷ ts) e

  no_function : (ts : List Tok) (f : Fault) → has is_define_word ts ≡ false → statement_at context form places defined ts ≡ Err f → StopsThere (statement_at context form places defined) ts f
  no_function ts f e h =
      let s = stops_there every SameDefined but (choose_local every SameDefined first_of first_of (λ us vs l. l.first) but_by but_by but_each) ts f refl (sym (same_statement ts e) ∙ h) in
      record {
        front = s.front;
        rest = s.rest;
        whole = s.whole;
        left = s.left;
        again = λ t more us c alike. same_statement (s.front ++ t ∷ us) (first_same is_define_word ts s.front s.rest more us t s.whole c ∙ e) ∙ s.again t more us c alike;
      }

  -- every kind of fault but that of a name that is defined twice
  abbrev not_twice : FaultKind → Bool
  not_twice faults.Twice = false
  not_twice k = true

  twice_is : (k : FaultKind) → not_twice k ≡ false → k ≡ faults.Twice
  twice_is faults.Twice e = refl
  twice_is k e = cc

  statement_by_kind : (b : Bool) (ts : List Tok) (f : Fault) → not_twice f.kind ≡ b → (f.kind ≡ faults.Twice → has is_define_word ts ≡ false) → statement_at context form places defined ts ≡ Err f → StopsThere (statement_at context form places defined) ts f
  statement_by_kind true ts f k other h = stops_there not_twice SameDefined (statement_at context form places defined) (statement_any not_twice context free refl form places defined) ts f k h
  statement_by_kind false ts f k other h = no_function ts f (other (twice_is f.kind k)) h

  pub statement_stops : (ts : List Tok) (f : Fault) → (f.kind ≡ faults.Twice → has is_define_word ts ≡ false) → statement_at context form places defined ts ≡ Err f → StopsThere (statement_at context form places defined) ts f
  statement_stops ts f other h = statement_by_kind (not_twice f.kind) ts f refl other h
