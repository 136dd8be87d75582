-- Tokens with their words given anew.
use Rattle.std.proofs.Common.{◌≡◌, ℕ, Bool, true, false, cond, Option, Some, None, List, [], ◌∷◌, map, position, bytes_eq, if◌then◌else◌, codes, refl, sym, ap, ◌∙◌}
use Rattle.std.specs.Prelude.{◌||◌, is_some, slice_get, option_map}
use Rattle.std.specs.List.{list_all}
use Rattle.std.specs.Map.{lookup}
use Rattle.std.proofs.lemmas.Bool.Decides.{same_from_decides}
use Rattle.std.proofs.lemmas.Slice.Eq.{bytes_eq-Decides}
use Rattle.std.proofs.lemmas.Option.{slice_get-map}
use Rattle.lx_words.specs.declared.token.TokenKind.{TokenKind}
use Rattle.lx_words.specs.declared.token.TokenKind.TheVariants as kinds
use Rattle.lx_words.proofs.Tests.{first_of, second_of}
use Rattle.lx_annot.specs.declared.expr.Mark.TheVariants as mark
use Rattle.lx_annot.specs.declared.interface.Parameter.{Parameter}
use Rattle.lx_annot.specs.Expr.{Param, Return}
use Rattle.lx_annot_expressions.specs.Tokens.{Tok}
use Rattle.lx_annot_expressions.specs.Reading.{has, number_of}
use Rattle.lx_annot_expressions.specs.Names.{number_among, known_of, fresh_of}
use Rattle.lx_annot_expressions.specs.Operators.{operators, operator_of, if_of_level, operator_next, prefix_next}
use Rattle.lx_annot_expressions.specs.Exprs.{Scope, param_at, names_of_params, place_of, named, flat_of}
use Rattle.lx_annot_expressions.specs.Grammar.{is_sign}
use Rattle.lx_annot_expressions.proofs.Numbered.{position_mapped}
use Rattle.lx_annot_terms.specs.Grammar.{is_list_word}
use Rattle.lx_annot_terms.specs.Signatures.{types, type_of, is_reserved}
use Rattle.lx_annot_read.specs.Interfaces.{struct_of_kind}
use Rattle.lx_annot_laws.specs.Renaming.{is_language, IsRenaming, said, renamed}
use Rattle.lx_annot_laws.specs.Anew.{anew_param}

abbrev pub anew_scope : (List ℕ → List ℕ) → Scope → Scope
anew_scope r s = record { params = map (anew_param r) s.params; ret = s.ret }

or_same : (a b c x y z : Bool) → a ≡ x → b ≡ y → c ≡ z → (a || b || c) ≡ (x || y || z)
or_same a b c x y z p q s = ap (λ u. u || b || c) p ∙ ap (λ u. x || u || c) q ∙ ap (λ u. x || y || u) s

module _ {lends : Bool} (r : List ℕ → List ℕ) (is : IsRenaming lends r) where
  -- two words are the same where they were
  pub same : (x y : List ℕ) → bytes_eq (r x) (r y) ≡ bytes_eq x y
  same x y =
      same_from_decides {P = x ≡ y} (bytes_eq (r x) (r y)) (bytes_eq x y)
      (λ h. is.apart x y ((bytes_eq-Decides (r x) (r y)).0 h), λ e. (bytes_eq-Decides (r x) (r y)).1 (ap r e))
      (bytes_eq-Decides x y)

  -- a token is a word or a mark of the language where it was
  pub said_same : (text : List ℕ) → is_language lends text ≡ true → (kind : TokenKind) (bytes : List ℕ) → bytes_eq (said r kind bytes) text ≡ bytes_eq bytes text
  said_same text l kinds.Word bytes = ap (bytes_eq (r bytes)) (sym (is.keeps text l)) ∙ same bytes text
  said_same text l kinds.Local bytes = refl
  said_same text l kinds.Global bytes = refl
  said_same text l kinds.Number bytes = refl
  said_same text l kinds.Text bytes = refl
  said_same text l kinds.Bytes bytes = refl
  said_same text l kinds.Mark bytes = refl

  pub has_same : (text : List ℕ) → is_language lends text ≡ true → (t : Tok) → has text (renamed r t ∷ []) ≡ has text (t ∷ [])
  has_same text l t = said_same text l t.kind t.bytes

  pub sign_same : (t : Tok) → is_sign (renamed r t) ≡ is_sign t
  sign_same t =
      or_same (has (codes "-") (renamed r t ∷ [])) (has (codes "!") (renamed r t ∷ [])) (has (codes "(") (renamed r t ∷ [])) (has (codes "-") (t ∷ [])) (has (codes "!") (t ∷ [])) (has (codes "(") (t ∷ []))
      (has_same (codes "-") refl t) (has_same (codes "!") refl t) (has_same (codes "(") refl t)

  pub list_word_same : (t : Tok) → is_list_word (renamed r t) ≡ is_list_word t
  list_word_same t =
      or_same (has (codes "write") (renamed r t ∷ [])) (has (codes "call") (renamed r t ∷ [])) (has (codes "ref") (renamed r t ∷ [])) (has (codes "write") (t ∷ [])) (has (codes "call") (t ∷ [])) (has (codes "ref") (t ∷ []))
      (has_same (codes "write") refl t) (has_same (codes "call") refl t) (has_same (codes "ref") refl t)

  pub reserved_same : (t : Tok) → is_reserved (renamed r t ∷ []) ≡ is_reserved (t ∷ [])
  reserved_same t =
      or_same (has (codes "return") (renamed r t ∷ [])) (has (codes "shared") (renamed r t ∷ [])) (has (codes "global") (renamed r t ∷ [])) (has (codes "return") (t ∷ [])) (has (codes "shared") (t ∷ [])) (has (codes "global") (t ∷ []))
      (has_same (codes "return") refl t) (has_same (codes "shared") refl t) (has_same (codes "global") refl t)

  -- Tables of the language's words.

  lookup_same : {X : Type 0} (kind : TokenKind) (bytes : List ℕ) (es : List (List ℕ × X)) → list_all (λ (e : List ℕ × X). is_language lends e.0) es ≡ true → lookup (bytes_eq (said r kind bytes)) es ≡ lookup (bytes_eq bytes) es
  lookup_same kind bytes [] h = refl
  lookup_same kind bytes (e ∷ es) h =
      let one = said_same e.0 (first_of (is_language lends e.0) (list_all (λ e. is_language lends e.0) es) h) kind bytes in
      let more = lookup_same kind bytes es (second_of (is_language lends e.0) (list_all (λ e. is_language lends e.0) es) h) in
      ap (λ b. cond b (Some e.1) (lookup (bytes_eq (said r kind bytes)) es)) one ∙ ap (cond (bytes_eq bytes e.0) (Some e.1)) more

  operator_of_same : (kind : TokenKind) (bytes : List ℕ) → operator_of (said r kind bytes) ≡ operator_of bytes
  unfolding operator_of
  operator_of_same kind bytes = lookup_same kind bytes operators refl

  pub operator_same : (level : ℕ) (t : Tok) → operator_next level (renamed r t ∷ []) ≡ operator_next level (t ∷ [])
  operator_same level t = ap (if_of_level level) (operator_of_same t.kind t.bytes)

  pub prefix_same : (t : Tok) → prefix_next (renamed r t ∷ []) ≡ prefix_next (t ∷ [])
  prefix_same t =
      ap (λ b. if b then Some mark.Negate else if has (codes "!") (renamed r t ∷ []) then Some mark.Invert else None) (has_same (codes "-") refl t)
      ∙ ap (λ b. if has (codes "-") (t ∷ []) then Some mark.Negate else if b then Some mark.Invert else None) (has_same (codes "!") refl t)

  pub type_same : (kind : TokenKind) (bytes : List ℕ) → type_of (said r kind bytes) ≡ type_of bytes
  unfolding type_of
  type_same kind bytes = lookup_same kind bytes types refl

  pub number_same : (limit : ℕ) (kind : TokenKind) (bytes : List ℕ) → number_of limit kind (said r kind bytes) ≡ number_of limit kind bytes
  number_same limit kinds.Word bytes = refl
  number_same limit kinds.Local bytes = refl
  number_same limit kinds.Global bytes = refl
  number_same limit kinds.Number bytes = refl
  number_same limit kinds.Text bytes = refl
  number_same limit kinds.Bytes bytes = refl
  number_same limit kinds.Mark bytes = refl

  pub struct_same : (kind : TokenKind) (bytes : List ℕ) → struct_of_kind kind (said r kind bytes) ≡ struct_of_kind kind bytes
  struct_same kinds.Word bytes = refl
  struct_same kinds.Local bytes = refl
  struct_same kinds.Global bytes = refl
  struct_same kinds.Number bytes = refl
  struct_same kinds.Text bytes = refl
  struct_same kinds.Bytes bytes = refl
  struct_same kinds.Mark bytes = refl

  -- Names.

  number_among_same : (names : List (List ℕ)) (name : List ℕ) → number_among (map r names) (r name) ≡ number_among names name
  number_among_same names name = position_mapped (bytes_eq (r name)) r names ∙ ap (λ p. position p names) (λ j x. same name x j)

  pub known_same : (names : List (List ℕ)) (kind : TokenKind) (bytes : List ℕ) → known_of (map r names) kind (said r kind bytes) ≡ known_of names kind bytes
  known_same names kinds.Word bytes = number_among_same names bytes
  known_same names kinds.Local bytes = refl
  known_same names kinds.Global bytes = refl
  known_same names kinds.Number bytes = refl
  known_same names kinds.Text bytes = refl
  known_same names kinds.Bytes bytes = refl
  known_same names kinds.Mark bytes = refl

  unless_by : (b : Bool) (bytes name : List ℕ) → (if b then None else Some bytes) ≡ Some name → (if b then None else Some (r bytes)) ≡ Some (r name)
  unless_by true bytes name h = cc
  unless_by false bytes name h = ap (option_map r) h

  pub fresh_anew : (names : List (List ℕ)) (kind : TokenKind) (bytes name : List ℕ) → fresh_of names kind bytes ≡ Some name → fresh_of (map r names) kind (said r kind bytes) ≡ Some (r name)
  fresh_anew names kinds.Word bytes name h =
      ap (λ (o : Option ℕ). if is_some o then None else Some (r bytes)) (number_among_same names bytes) ∙ unless_by (is_some (number_among names bytes)) bytes name h
  fresh_anew names kinds.Local bytes name h = cc
  fresh_anew names kinds.Global bytes name h = cc
  fresh_anew names kinds.Number bytes name h = cc
  fresh_anew names kinds.Text bytes name h = cc
  fresh_anew names kinds.Bytes bytes name h = cc
  fresh_anew names kinds.Mark bytes name h = cc

  pub params_named : (params : List Parameter) → names_of_params (map (anew_param r) params) ≡ map r (names_of_params params)
  params_named [] = refl
  params_named (p ∷ ps) = ap (λ x. r p.name ∷ x) (params_named ps)

  place_same : (params : List Parameter) (name : List ℕ) → place_of (map (anew_param r) params) (r name) ≡ place_of params name
  place_same params name = ap (λ names. number_among names (r name)) (params_named params) ∙ number_among_same (names_of_params params) name

  param_by : (k : ℕ) (o : Option Parameter) → option_map (λ (p : Parameter). Param k p.ty) (option_map (anew_param r) o) ≡ option_map (λ (p : Parameter). Param k p.ty) o
  param_by k None = refl
  param_by k (Some p) = refl

  param_same : (params : List Parameter) (o : Option ℕ) → param_at (map (anew_param r) params) o ≡ param_at params o
  param_same params None = refl
  param_same params (Some k) = ap (option_map (λ (p : Parameter). Param k p.ty)) (slice_get-map (anew_param r) params k) ∙ param_by k (slice_get params k)

  named_same : (scope : Scope) (name : List ℕ) → named (anew_scope r scope) (r name) ≡ named scope name
  named_same scope name =
      ap (λ b. if b then option_map Return scope.ret else param_at (map (anew_param r) scope.params) (place_of (map (anew_param r) scope.params) (r name))) (said_same (codes "return") refl kinds.Word name)
      ∙ ap (λ e. if bytes_eq name (codes "return") then option_map Return scope.ret else e)
      (ap (param_at (map (anew_param r) scope.params)) (place_same scope.params name) ∙ param_same scope.params (place_of scope.params name))

  pub flat_same : (scope : Scope) (kind : TokenKind) (bytes : List ℕ) → flat_of (anew_scope r scope) kind (said r kind bytes) ≡ flat_of scope kind bytes
  flat_same scope kinds.Word bytes = named_same scope bytes
  flat_same scope kinds.Local bytes = refl
  flat_same scope kinds.Global bytes = refl
  flat_same scope kinds.Number bytes = refl
  flat_same scope kinds.Text bytes = refl
  flat_same scope kinds.Bytes bytes = refl
  flat_same scope kinds.Mark bytes = refl
