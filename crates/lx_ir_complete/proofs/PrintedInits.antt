-- The text of an initialiser says it.
use Rattle.std.proofs.Common.{◌≡◌, inl, inr, ℕ, zero, suc, ◌<◌, ◌≤◌, List, [], ◌∷◌, ◌++◌, Bool, true, false, map, refl, sym, ap, ◌∙◌, subst, arith, Some, append_assoc, slice_get}
use Rattle.std.specs.Prelude.{codes, flat_map, option_map, unwrap_or}
use Rattle.std.specs.List.{list_all}
use Rattle.std.proofs.lemmas.Bool.{and_parts, ltb-true}
use Rattle.lx_words.specs.declared.word.Width.{Width}
use Rattle.lx_words.specs.Width.{modulus}
use Rattle.lx_words.proofs.Masks.{make_word}
use Rattle.lx_ir.specs.declared.types.Scalar.{Scalar}
use Rattle.lx_ir.specs.declared.types.Scalar.TheVariants.{Int}
use Rattle.lx_ir.specs.declared.module.Blank.{Blank}
use Rattle.lx_ir.specs.declared.module.Blank.TheVariants.{Undef, Poison, Zero}
use Rattle.lx_ir.specs.declared.module.Pointer.{Pointer}
use Rattle.lx_ir.specs.declared.module.Pointer.TheVariants as pointer
use Rattle.lx_ir.specs.declared.module.Constant.{Constant}
use Rattle.lx_ir.specs.declared.module.Constant.TheVariants as constant
use Rattle.lx_ir.specs.declared.module.Brackets.{Brackets}
use Rattle.lx_ir.specs.declared.module.Brackets.TheVariants as brackets
use Rattle.lx_ir.specs.declared.module.Module.{Module}
use Rattle.lx_ir.specs.IrType.{IrType, One, Array, Struct, Packed, Named}
use Rattle.lx_ir.specs.Init.{Init, Plain, Empty, Bytes, Group, Inits, no_more, more}
use Rattle.lx_ir.specs.InitNodes.{inits_of_list}
use Rattle.lx_ir.specs.Layout.{is_lawful_type}
use Rattle.lx_ir.specs.Text.{number_text, type_text, constant_text, pointer_text, spaced_list, init_text, item_texts}
use Rattle.lx_ir.specs.Lawful.{is_lawful_item, is_lawful_init, are_lawful_inits, nesting_of_constant, nesting_of_init, nesting_of_inits}
use Rattle.lx_ir.proofs.Equality.{scalar_is}
use Rattle.lx_ir_tokens.specs.declared.token.Tok.{Tok}
use Rattle.lx_ir_tokens.specs.declared.token.Mark.{Mark}
use Rattle.lx_ir_tokens.specs.declared.token.Mark.TheVariants.{Comma, OpenBrace, CloseBrace, OpenBracket, CloseBracket, Less, Greater}
use Rattle.lx_ir_terms.specs.Context.{Context, bytes_of}
use Rattle.lx_ir_terms.specs.Types.{depth_limit}
use Rattle.lx_ir_terms.specs.Grammar.{Part, IsMark, ◌then◌, IsType, IsWritten}
use Rattle.lx_ir_constants.specs.Inits.{init_of_word, flat_init_of, symbol_init}
use Rattle.lx_ir_constants.specs.Grammar.{AreFurther, IsExpression}
use Rattle.lx_ir_constants.specs.InitGrammar.{IsLeaf, AreListed, IsMember, IsInit}
use Rattle.lx_ir_complete.specs.Pieces.{is_apart, mark_byte, is_printed}
use Rattle.lx_ir_complete.specs.Printed.{Prints}
use Rattle.lx_ir_complete.specs.Kept.{is_kept_type, is_kept_constant, is_kept_init, are_kept_inits}
use Rattle.lx_ir_complete.proofs.Joining.{beside, same_text, reads_as, nothing, space, marked, last_mark, a_mark_is_apart, word_token}
use Rattle.lx_ir_complete.proofs.PrintedConstants.{symbol_token, cast_prints, long_constant}
use Rattle.lx_ir_complete.proofs.PrintedTypes.{spaced, type_prints}
use Rattle.lx_ir_complete.proofs.Sayings.{Saying}
use Rattle.lx_ir_complete.proofs.SignedNumbers.{number}
use Rattle.lx_ir_complete.proofs.Strings.{string}
use Rattle.lx_ir_complete.proofs.Words.{a_blank, blank_word, a_null, truth, falsehood}

-- Members.

-- the marks of the three groups, round items
abbrev in_array : {M : Type 0} → (M → Part) → List M → Part
in_array item ms = IsMark OpenBracket then AreListed item ms then IsMark CloseBracket

abbrev in_struct : {M : Type 0} → (M → Part) → List M → Part
in_struct item ms = IsMark OpenBrace then AreListed item ms then IsMark CloseBrace

abbrev in_packed : {M : Type 0} → (M → Part) → List M → Part
in_packed item ms = IsMark Less then IsMark OpenBrace then (AreListed item ms then IsMark CloseBrace) then IsMark Greater

-- initialisers with their types, make_word into members
abbrev pub members : {M : Type 0} → (M → Part) → (IrType → Init → M) → List IrType → Inits → List M
members item make ts no_more = []
members item make [] (more i is) = []
members item make (t ∷ ts) (more i is) = make t i ∷ members item make ts is

module _ {M : Type 0} (item : M → Part) (make : IrType → Init → M) where
  their_types : (ty : M → IrType) → ((t : IrType) (i : Init) → ty (make t i) ≡ t) → (m : Module) (ts : List IrType) (is : Inits) → are_lawful_inits m ts is ≡ true → map ty (members item make ts is) ≡ ts
  their_types ty e m [] no_more h = refl
  their_types ty e m [] (more i is) h = refl
  their_types ty e m (t ∷ ts) no_more h = cc h
  their_types ty e m (t ∷ ts) (more i is) h =
      ap (λ u. u ∷ map ty (members item make ts is)) (e t i) ∙ ap (λ us. t ∷ us) (their_types ty e m ts is (and_parts (is_lawful_init m t i) (are_lawful_inits m ts is) h).1)

  their_inits : (init : M → Init) → ((t : IrType) (i : Init) → init (make t i) ≡ i) → (m : Module) (ts : List IrType) (is : Inits) → are_lawful_inits m ts is ≡ true → inits_of_list (map init (members item make ts is)) ≡ is
  their_inits init e m [] no_more h = refl
  their_inits init e m [] (more i is) h = cc h
  their_inits init e m (t ∷ ts) no_more h = refl
  their_inits init e m (t ∷ ts) (more i is) h =
      ap (λ j. more j (inits_of_list (map init (members item make ts is)))) (e t i) ∙ ap (more i) (their_inits init e m ts is (and_parts (is_lawful_init m t i) (are_lawful_inits m ts is) h).1)

  grouped_again : (ty : M → IrType) (init : M → Init) → ((t : IrType) (i : Init) → ty (make t i) ≡ t) → ((t : IrType) (i : Init) → init (make t i) ≡ i)
      → (m : Module) (k : Brackets) (ts : List IrType) (is : Inits) → are_lawful_inits m ts is ≡ true → Group k (map ty (members item make ts is)) (inits_of_list (map init (members item make ts is))) ≡ Group k ts is
  grouped_again ty init te ie m k ts is h =
      ap (λ us. Group k us (inits_of_list (map init (members item make ts is)))) (their_types ty te m ts is h) ∙ ap (Group k ts) (their_inits init ie m ts is h)

items_apart : (m : Module) (ts : List IrType) (is : Inits) → is_apart (flat_map (λ u. codes ", " ++ u) (item_texts m ts is)) ≡ true
items_apart m ts no_more = refl
items_apart m [] (more i is) = refl
items_apart m (t ∷ ts) (more i is) = refl

blank_init : (b : Blank) → init_of_word (blank_word b) ≡ Some (Empty b)
blank_init Undef = refl
blank_init Poison = refl
blank_init Zero = refl

pub said_bytes : (context : Context) (name : ℕ) (bs : List ℕ) → slice_get context.names name ≡ Some bs → bytes_of context name ≡ bs
said_bytes context name bs e = ap (λ o. unwrap_or o []) e

module _ {plain : Bool} {m : Module} {context : Context} (given : Saying plain m context) where
  -- Initialisers without others in them.

  number_item : (depth : ℕ) (s : Scalar) (w : Width) (n : ℕ) → Int w ≡ s → n < modulus w → Prints plain context.names (number_text w n) (IsLeaf context depth (One s) (Plain (constant.Number (make_word w n))))
  number_item depth s w n e lt =
      subst (λ r. Prints plain context.names (number_text w n) (IsLeaf context depth (One r) (Plain (constant.Number (make_word w n))))) e
      (number given.laws w n lt (λ tok minus is says. inl (tok, ap (λ q. flat_init_of context (One (Int w)) q tok.name) is ∙ ap (option_map (λ x. Plain (constant.Number x))) says, refl)))

  expression_item : {t : List ℕ} (depth : ℕ) (ty : IrType) (c : Constant) → Prints plain context.names t (IsExpression context depth c) → Prints plain context.names t (IsLeaf context depth ty (Plain c))
  expression_item depth ty c a = reads_as {q = IsLeaf context depth ty (Plain c)} (λ ts e. inr (c, e, refl)) a

  pointer_item : (depth : ℕ) (ty : IrType) (p : Pointer) → is_lawful_item m ty (constant.Pointer p) ≡ true → is_kept_constant (constant.Pointer p) ≡ true → nesting_of_constant (constant.Pointer p) ≤ depth → Prints plain context.names (pointer_text m p) (IsLeaf context depth ty (Plain (constant.Pointer p)))
  pointer_item depth ty pointer.Null h k le = word_token a_null (λ tok e. inl (tok, ap (λ q. flat_init_of context ty q tok.name) e, refl))
  pointer_item depth ty (pointer.Blank b) h k le = cc h
  pointer_item depth ty (pointer.Number n) h k le = expression_item depth ty (constant.Pointer (pointer.Number n)) (long_constant given depth (pointer.Number n) refl refl k le)
  pointer_item depth ty (pointer.Symbol s zero) h k le = symbol_token given s h (λ tok e at. inl (tok, ap (λ q. flat_init_of context ty q tok.name) e ∙ ap (option_map symbol_init) at, refl))
  pointer_item depth ty (pointer.Symbol s (suc n)) h k le = expression_item depth ty (constant.Pointer (pointer.Symbol s (suc n))) (long_constant given depth (pointer.Symbol s (suc n)) refl h k le)

  item_prints : (depth : ℕ) (ty : IrType) (c : Constant) → is_lawful_item m ty c ≡ true → is_kept_constant c ≡ true → nesting_of_constant c ≤ depth → Prints plain context.names (constant_text m c) (IsLeaf context depth ty (Plain c))
  item_prints depth (One s) (constant.Number w) h k le = number_item depth s w.width w.bits (scalar_is (Int w.width) s h) (ltb-true w.bits (modulus w.width) k)
  item_prints depth (Array n t) (constant.Number w) h k le = cc h
  item_prints depth (Struct ts) (constant.Number w) h k le = cc h
  item_prints depth (Packed ts) (constant.Number w) h k le = cc h
  item_prints depth (Named n) (constant.Number w) h k le = cc h
  item_prints depth ty (constant.Truth true) h k le = word_token truth (λ tok e. inl (tok, ap (λ q. flat_init_of context ty q tok.name) e, refl))
  item_prints depth ty (constant.Truth false) h k le = word_token falsehood (λ tok e. inl (tok, ap (λ q. flat_init_of context ty q tok.name) e, refl))
  item_prints depth ty (constant.Blank b w) h k le = cc h
  item_prints depth ty (constant.Pointer p) h k le = pointer_item depth ty p h k le
  item_prints depth ty (constant.Cast p w) h k le = expression_item depth ty (constant.Cast p w) (cast_prints given depth p w h k le)

  leaf_init : {t : List ℕ} (depth : ℕ) (ty : IrType) (i : Init) → Prints plain context.names t (IsLeaf context depth ty i) → Prints plain context.names t (IsInit context depth ty i)
  leaf_init zero ty i a = a
  leaf_init (suc depth) ty i a = reads_as {q = IsInit context (suc depth) ty i} (λ ts e. inl e) a

  pub a_type : (t : IrType) → is_lawful_type m.types t ≡ true → is_kept_type t ≡ true → Prints plain context.names (type_text m.types t) (IsWritten context t)
  a_type t h k =
      reads_as {p = IsType context t depth_limit} {q = IsWritten context t} (λ ts e. (e, given.knows.limits t h))
      (type_prints given.laws m.types context given.type_named given.knows.types t depth_limit h k)

  one_member : {p : Part} (t : IrType) (i : Init) (depth : ℕ) → ((us : List Tok) → (IsWritten context t then IsInit context depth t i) us → p us)
      → is_lawful_type m.types t ≡ true → is_kept_type t ≡ true → Prints plain context.names (init_text m i) (IsInit context depth t i)
      → Prints plain context.names (type_text m.types t ++ codes " " ++ init_text m i) p
  one_member t i depth f h k a =
      reads_as {p = IsWritten context t then IsInit context depth t i} f
      (same_text (sym (append_assoc (type_text m.types t) (codes " ") (init_text m i))) (beside (a_type t h k) refl (space a)))

  -- the members of a group in their marks are the group
  abbrev IsMade : {M : Type 0} → (ℕ → M → Part) → (IrType → Init → M) → ((M → Part) → List M → Part) → Brackets → Type 0
  IsMade item make marks k =
      (depth : ℕ) (ty : IrType) (ts : List IrType) (is : Inits) (us : List Tok) → are_lawful_inits m ts is ≡ true → marks (item depth) (members (item depth) make ts is) us → IsInit context (suc depth) ty (Group k ts is) us

  module _ {M : Type 0} (item : ℕ → M → Part) (make : IrType → Init → M)
      (makes : (depth : ℕ) (t : IrType) (i : Init) (us : List Tok) → (IsWritten context t then IsInit context depth t i) us → item depth (make t i) us)
      (arrays : IsMade item make in_array brackets.Array) (structs : IsMade item make in_struct brackets.Struct) (packed : IsMade item make in_packed brackets.Packed) where
    mutual
      each_prints : (depth : ℕ) (ty : IrType) (i : Init) → is_lawful_init m ty i ≡ true → is_kept_init i ≡ true → nesting_of_init i ≤ depth → Prints plain context.names (init_text m i) (IsInit context depth ty i)
      each_prints depth ty (Plain c) h k le = leaf_init depth ty (Plain c) (item_prints depth ty c h k le)
      each_prints depth ty (Empty b) h k le =
          leaf_init depth ty (Empty b) (word_token (a_blank b) (λ tok e. inl (tok, ap (λ q. flat_init_of context ty q tok.name) e ∙ blank_init b, refl)))
      each_prints depth ty (Bytes bs) h k le =
          leaf_init depth ty (Bytes bs) (string bs k (λ tok e at. inl (tok, ap (λ q. flat_init_of context ty q tok.name) e ∙ ap (λ b. Some (Bytes b)) (said_bytes context tok.name bs at), refl)))
      each_prints zero ty (Group b ts is) h k le = absurd (omega arith)
      each_prints (suc depth) ty (Group brackets.Array ts is) h k le =
          let lawful = and_parts (list_all (is_lawful_type m.types) ts) (are_lawful_inits m ts is) h in
          let kept = and_parts (list_all is_kept_type ts) (are_kept_inits is) k in
          reads_as {q = IsInit context (suc depth) ty (Group brackets.Array ts is)} (λ us e. arrays depth ty ts is us lawful.1 e)
          (marked OpenBracket refl (members_print CloseBracket depth refl ts is lawful.0 lawful.1 kept.0 kept.1 (omega arith)))
      each_prints (suc depth) ty (Group brackets.Struct ts is) h k le =
          let lawful = and_parts (list_all (is_lawful_type m.types) ts) (are_lawful_inits m ts is) h in
          let kept = and_parts (list_all is_kept_type ts) (are_kept_inits is) k in
          reads_as {q = IsInit context (suc depth) ty (Group brackets.Struct ts is)} (λ us e. structs depth ty ts is us lawful.1 e)
          (marked OpenBrace refl (members_print CloseBrace depth refl ts is lawful.0 lawful.1 kept.0 kept.1 (omega arith)))
      each_prints (suc depth) ty (Group brackets.Packed ts is) h k le =
          let lawful = and_parts (list_all (is_lawful_type m.types) ts) (are_lawful_inits m ts is) h in
          let kept = and_parts (list_all is_kept_type ts) (are_kept_inits is) k in
          let inside = beside (members_print CloseBrace depth refl ts is lawful.0 lawful.1 kept.0 kept.1 (omega arith)) refl (last_mark Greater refl) in
          reads_as {q = IsInit context (suc depth) ty (Group brackets.Packed ts is)} (λ us e. packed depth ty ts is us lawful.1 e)
          (marked Less refl (marked OpenBrace refl (same_text (append_assoc (spaced_list (item_texts m ts is)) (codes "}") (codes ">")) inside)))

      -- members, and the mark behind them
      members_print : (close : Mark) (depth : ℕ) → is_printed close ≡ true → (ts : List IrType) (is : Inits) → list_all (is_lawful_type m.types) ts ≡ true → are_lawful_inits m ts is ≡ true
          → list_all is_kept_type ts ≡ true → are_kept_inits is ≡ true → nesting_of_inits is ≤ depth
          → Prints plain context.names (spaced_list (item_texts m ts is) ++ mark_byte close ∷ []) (AreListed (item depth) (members (item depth) make ts is) then IsMark close)
      members_print close depth printed ts no_more h l k e le = beside nothing (a_mark_is_apart close) (last_mark close printed)
      members_print close depth printed [] (more i is) h l k e le = cc l
      members_print close depth printed (t ∷ ts) (more i is) h l k e le =
          let types = and_parts (is_lawful_type m.types t) (list_all (is_lawful_type m.types) ts) h in
          let inits = and_parts (is_lawful_init m t i) (are_lawful_inits m ts is) l in
          let kept_types = and_parts (is_kept_type t) (list_all is_kept_type ts) k in
          let kept_inits = and_parts (is_kept_init i) (are_kept_inits is) e in
          spaced
          (beside (one_member t i depth (makes depth t i) types.0 kept_types.0 (each_prints depth t i inits.0 kept_inits.0 (omega arith))) (items_apart m ts is)
          (further_print depth ts is types.1 inits.1 kept_types.1 kept_inits.1 (omega arith)))
          (last_mark close printed)

      -- further members, each behind a comma
      further_print : (depth : ℕ) (ts : List IrType) (is : Inits) → list_all (is_lawful_type m.types) ts ≡ true → are_lawful_inits m ts is ≡ true
          → list_all is_kept_type ts ≡ true → are_kept_inits is ≡ true → nesting_of_inits is ≤ depth
          → Prints plain context.names (flat_map (λ u. codes ", " ++ u) (item_texts m ts is)) (AreFurther (item depth) (members (item depth) make ts is))
      further_print depth ts no_more h l k e le = nothing
      further_print depth [] (more i is) h l k e le = cc l
      further_print depth (t ∷ ts) (more i is) h l k e le =
          let types = and_parts (is_lawful_type m.types t) (list_all (is_lawful_type m.types) ts) h in
          let inits = and_parts (is_lawful_init m t i) (are_lawful_inits m ts is) l in
          let kept_types = and_parts (is_kept_type t) (list_all is_kept_type ts) k in
          let kept_inits = and_parts (is_kept_init i) (are_kept_inits is) e in
          marked Comma refl (space
          (beside (one_member t i depth (makes depth t i) types.0 kept_types.0 (each_prints depth t i inits.0 kept_inits.0 (omega arith))) (items_apart m ts is)
          (further_print depth ts is types.1 inits.1 kept_types.1 kept_inits.1 (omega arith))))

  -- The text of an initialiser says it.
  pub init_prints : (depth : ℕ) (ty : IrType) (i : Init) → is_lawful_init m ty i ≡ true → is_kept_init i ≡ true → nesting_of_init i ≤ depth → Prints plain context.names (init_text m i) (IsInit context depth ty i)
  init_prints =
      each_prints (λ depth. IsMember context (IsInit context depth)) (λ t i. record { ty = t; init = i }) (λ depth t i us e. e)
      (λ depth ty ts is us h e. inr (inl (members (IsMember context (IsInit context depth)) (λ t i. record { ty = t; init = i }) ts is, e, grouped_again (IsMember context (IsInit context depth)) (λ t i. record { ty = t; init = i }) (λ x. x.ty) (λ x. x.init) (λ t i. refl) (λ t i. refl) m brackets.Array ts is h)))
      (λ depth ty ts is us h e. inr (inr (inl (members (IsMember context (IsInit context depth)) (λ t i. record { ty = t; init = i }) ts is, e, grouped_again (IsMember context (IsInit context depth)) (λ t i. record { ty = t; init = i }) (λ x. x.ty) (λ x. x.init) (λ t i. refl) (λ t i. refl) m brackets.Struct ts is h))))
      (λ depth ty ts is us h e. inr (inr (inr (members (IsMember context (IsInit context depth)) (λ t i. record { ty = t; init = i }) ts is, e, grouped_again (IsMember context (IsInit context depth)) (λ t i. record { ty = t; init = i }) (λ x. x.ty) (λ x. x.init) (λ t i. refl) (λ t i. refl) m brackets.Packed ts is h))))
