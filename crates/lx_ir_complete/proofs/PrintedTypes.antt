-- The text of a type says it.
use Rattle.std.proofs.Common.{◌≡◌, ℕ, zero, suc, ◌<◌, List, [], ◌∷◌, ◌++◌, Bool, true, ◌&&◌, length, refl, sym, ap, ◌∙◌, Option, Some, None, append_assoc, slice_get}
use Rattle.std.specs.Prelude.{codes, flat_map, option_map, nat_le}
use Rattle.std.specs.List.{list_all}
use Rattle.std.proofs.lemmas.Bool.{and_parts, leb-true}
use Rattle.std.proofs.lemmas.Option.{slice_get_within}
use Rattle.lx_words.specs.TextLaws.{NumberTexts}
use Rattle.lx_ir.specs.declared.types.Scalar.{Scalar}
use Rattle.lx_ir.specs.declared.types.Scalar.TheVariants.{Int, Ptr}
use Rattle.lx_ir.specs.declared.types.NamedType.{NamedType}
use Rattle.lx_ir.specs.IrType.{IrType, One, Array, Struct, Packed, Named, IrTypes, none, also}
use Rattle.lx_ir.specs.Text.{Text, type_name, type_text, type_texts, spaced_list, scalar_text}
use Rattle.lx_ir.specs.Lawful.{is_name}
use Rattle.lx_ir.specs.Layout.{list_of_types, entry_or, is_struct, names_struct, size_of, is_type_within}
use Rattle.lx_ir_tokens.specs.declared.token.Mark.TheVariants.{Comma, OpenBrace, CloseBrace, OpenBracket, CloseBracket, Less, Greater}
use Rattle.lx_ir_terms.specs.Context.{Context, type_number}
use Rattle.lx_ir_terms.specs.Reading.{is_times}
use Rattle.lx_ir_terms.specs.Types.{scalar_of, flat_of, flat_in, greatest_count}
use Rattle.lx_ir_terms.specs.Grammar.{Part, Picks, IsMark, ◌then◌, IsType, AreTypes, AreMore}
use Rattle.lx_ir_complete.specs.Pieces.{is_apart}
use Rattle.lx_ir_complete.specs.Printed.{Prints}
use Rattle.lx_ir_complete.specs.Kept.{is_kept_type, are_kept_types}
use Rattle.lx_ir_complete.proofs.Joining.{beside, same_text, nothing, space, marked, last_mark, word, word_token}
use Rattle.lx_ir_complete.proofs.Names.{local}
use Rattle.lx_ir_complete.proofs.Numbers.{count}
use Rattle.lx_ir_complete.proofs.Words.{scalar_word, a_scalar, times}

pub same_scalar_word : (s : Scalar) → scalar_of (scalar_word s) ≡ s
same_scalar_word (Int w) = refl
same_scalar_word Ptr = refl

-- a text with a space on either side, before another
pub spaced : {plain : Bool} {names : List (List ℕ)} {t u : List ℕ} {p q : Part} → Prints plain names t p → Prints plain names u q → Prints plain names ((codes " " ++ t ++ codes " ") ++ u) (p then q)
spaced {t = t} {u = u} a b = same_text (ap (λ v. 32 ∷ v) (sym (append_assoc t (32 ∷ []) u))) (space (beside a refl (space b)))

-- a name that names a struct is one of the table
named_within : (types : List NamedType) (k : ℕ) (entry : Option NamedType) → slice_get types k ≡ entry → is_struct (entry_or entry (Named k)) ≡ true → k < length types
named_within types k None e h = cc h
named_within types k (Some t) e h = slice_get_within types k t e

further_apart : (types : List NamedType) (ts : IrTypes) → is_apart (flat_map (λ u. codes ", " ++ u) (type_texts types ts)) ≡ true
further_apart types none = refl
further_apart types (also t ts) = refl

-- what is known of a type that is not a scalar
within : (types : List NamedType) (t : IrType) (parts : Bool) → (names_struct types t && nat_le (size_of types t) 4294967296 && parts) ≡ true → (names_struct types t ≡ true) × (parts ≡ true)
within types t parts h =
    let both = and_parts (names_struct types t && nat_le (size_of types t) 4294967296) parts h in
    ((and_parts (names_struct types t) (nat_le (size_of types t) 4294967296) both.0).0, both.1)

module _ {plain : Bool} (laws : NumberTexts) (types : List NamedType) (context : Context)
    (named : (k : ℕ) → k < length types → is_name (type_name types k) ≡ true)
    (known : (k name : ℕ) → k < length types → slice_get context.names name ≡ Some (type_name types k) → type_number context name ≡ Some k) where
  pub one : (s : Scalar) → Prints plain context.names (scalar_text s) (Picks (flat_in context) (One s))
  one s = word_token (a_scalar s) (λ tok e. (tok, ap (λ k. flat_of context k tok.name) e ∙ ap (λ r. Some (One r)) (same_scalar_word s), refl))

  name : (k : ℕ) → k < length types → Prints plain context.names (type_text types (Named k)) (Picks (flat_in context) (Named k))
  name k lt = local (type_name types k) (named k lt) (λ tok e at. (tok, ap (λ r. flat_of context r tok.name) e ∙ ap (option_map Named) (known k tok.name lt at), refl))

  mutual
    -- The text of a type within the limits says it.
    pub type_prints : (t : IrType) (depth : ℕ) → is_type_within types depth t ≡ true → is_kept_type t ≡ true → Prints plain context.names (type_text types t) (IsType context t depth)
    type_prints (One s) depth h k = one s
    type_prints (Named n) zero h k = cc h
    type_prints (Named n) (suc depth) h k =
        name n (named_within types n (slice_get types n) refl (within types (Named n) _ h).0)
    type_prints (Array n t) zero h k = cc h
    type_prints (Array n t) (suc depth) h k =
        let kept = and_parts (nat_le n greatest_count) (is_kept_type t) k in
        let part = and_parts (is_type_within types depth t) true (within types (Array n t) _ h).1 in
        let all = marked OpenBracket refl (beside (count laws n (leb-true n greatest_count kept.0)) refl (space (word is_times times refl (beside (type_prints t depth part.0 kept.1) refl (last_mark CloseBracket refl))))) in
        same_text (simp append_assoc) all
    type_prints (Struct ts) zero h k = cc h
    type_prints (Struct ts) (suc depth) h k = marked OpenBrace refl (fields_print ts depth (within types (Struct ts) _ h).1 k)
    type_prints (Packed ts) zero h k = cc h
    type_prints (Packed ts) (suc depth) h k =
        let t : Text = spaced_list (type_texts types ts) in
        marked Less refl (marked OpenBrace refl
        (same_text (append_assoc t (codes "}") (codes ">")) (beside (fields_print ts depth (within types (Packed ts) _ h).1 k) refl (last_mark Greater refl))))

    -- the fields of a struct and the brace behind them
    fields_print : (ts : IrTypes) (depth : ℕ) → list_all (is_type_within types depth) (list_of_types ts) ≡ true → are_kept_types ts ≡ true
        → Prints plain context.names (spaced_list (type_texts types ts) ++ codes "}") (AreTypes context ts depth then IsMark CloseBrace)
    fields_print none depth h k = beside nothing refl (last_mark CloseBrace refl)
    fields_print (also t ts) depth h k =
        let both = and_parts (is_type_within types depth t) (list_all (is_type_within types depth) (list_of_types ts)) h in
        let kept = and_parts (is_kept_type t) (are_kept_types ts) k in
        spaced (beside (type_prints t depth both.0 kept.0) (further_apart types ts) (further_print ts depth both.1 kept.1)) (last_mark CloseBrace refl)

    -- further fields, each behind a comma
    further_print : (ts : IrTypes) (depth : ℕ) → list_all (is_type_within types depth) (list_of_types ts) ≡ true → are_kept_types ts ≡ true
        → Prints plain context.names (flat_map (λ u. codes ", " ++ u) (type_texts types ts)) (AreMore context ts depth)
    further_print none depth h k = nothing
    further_print (also t ts) depth h k =
        let both = and_parts (is_type_within types depth t) (list_all (is_type_within types depth) (list_of_types ts)) h in
        let kept = and_parts (is_kept_type t) (are_kept_types ts) k in
        marked Comma refl (space (beside (type_prints t depth both.0 kept.0) (further_apart types ts) (further_print ts depth both.1 kept.1)))
