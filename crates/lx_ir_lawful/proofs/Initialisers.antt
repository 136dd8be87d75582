-- Initialisers that tokens say are lawful.
use Rattle.std.proofs.Common.{◌≡◌, ℕ, zero, suc, ◌≤◌, Bool, true, false, Some, List, [], ◌∷◌, map, inl, inr, refl, ap, ◌∙◌, subst, arith}
use Rattle.std.specs.List.{list_all}
use Rattle.std.proofs.lemmas.Bool.{and_from}
use Rattle.lx_words.specs.declared.word.Width.{Width}
use Rattle.lx_words.specs.Width.{same_width}
use Rattle.lx_words.proofs.Options.{map_some}
use Rattle.lx_words.proofs.Widths.{width_itself}
use Rattle.lx_ir_tokens.specs.declared.token.Tok.{Tok}
use Rattle.lx_ir_tokens.specs.declared.token.Kind.{Kind}
use Rattle.lx_ir_tokens.specs.declared.token.Kind.TheVariants as kinds
use Rattle.lx_ir_tokens.specs.declared.keyword.ConstantWord.{ConstantWord}
use Rattle.lx_ir_tokens.specs.declared.keyword.ConstantWord.TheVariants as constants
use Rattle.lx_ir_tokens.specs.declared.keyword.Keyword.TheVariants as keywords
use Rattle.lx_ir.specs.declared.types.Scalar.TheVariants.{Int, Ptr}
use Rattle.lx_ir.specs.declared.module.Blank.{Blank}
use Rattle.lx_ir.specs.declared.module.Pointer.{Pointer}
use Rattle.lx_ir.specs.declared.module.Pointer.TheVariants as pointers
use Rattle.lx_ir.specs.declared.module.Constant.{Constant}
use Rattle.lx_ir.specs.declared.module.Constant.TheVariants as made
use Rattle.lx_ir.specs.declared.module.Brackets.{Brackets}
use Rattle.lx_ir.specs.declared.module.Brackets.TheVariants as brackets
use Rattle.lx_ir.specs.declared.module.Module.{Module}
use Rattle.lx_ir.specs.IrType.{IrType, One, Array, Struct, Packed, Named}
use Rattle.lx_ir.specs.Init.{Init, Plain, Empty, Bytes, Group}
use Rattle.lx_ir.specs.InitNodes.{inits_of_list}
use Rattle.lx_ir.specs.Layout.{is_lawful_type}
use Rattle.lx_ir.specs.Lawful.{is_lawful_pointer, nesting_of_init, nesting_of_inits, is_lawful_item, is_lawful_init, are_lawful_inits}
use Rattle.lx_ir_terms.specs.Context.{Context, symbol_of, bytes_of}
use Rattle.lx_ir_terms.specs.Grammar.{Part, IsWritten}
use Rattle.lx_ir_constants.specs.Constants.{number_in, blank_of}
use Rattle.lx_ir_constants.specs.Inits.{init_of_word, symbol_init, number_init, flat_init_of}
use Rattle.lx_ir_constants.specs.Grammar.{AreFurther}
use Rattle.lx_ir_constants.specs.InitGrammar.{AreListed, IsLeaf, IsMember, IsGroup, IsInit}
use Rattle.lx_ir_lawful.specs.Tells.{Tells}
use Rattle.lx_ir_lawful.proofs.Constants.{number_width, is_blank, LawfulExpression, symbol_lawful, expression_is}

cast_item : (m : Module) (ty : IrType) (p : Pointer) (w : Width) → is_lawful_pointer m p ≡ true → is_lawful_item m ty (made.Cast p w) ≡ true
cast_item m (One s) p w h = h
cast_item m (Array n t) p w h = h
cast_item m (Struct ts) p w h = h
cast_item m (Packed ts) p w h = h
cast_item m (Named k) p w h = h

truth_item : (m : Module) (ty : IrType) (b : Bool) → is_lawful_item m ty (made.Truth b) ≡ true
truth_item m (One s) b = refl
truth_item m (Array n t) b = refl
truth_item m (Struct ts) b = refl
truth_item m (Packed ts) b = refl
truth_item m (Named k) b = refl

address_item : (m : Module) (ty : IrType) (p : Pointer) → is_lawful_pointer m p ≡ true → is_blank p ≡ false → is_lawful_item m ty (made.Pointer p) ≡ true
address_item m (One s) (pointers.Symbol x y) h b = h
address_item m (One s) (pointers.Number x) h b = refl
address_item m (One s) pointers.Null h b = refl
address_item m (One s) (pointers.Blank x) h b = absurd (cc b)
address_item m (Array n t) (pointers.Symbol x y) h b = h
address_item m (Array n t) (pointers.Number x) h b = refl
address_item m (Array n t) pointers.Null h b = refl
address_item m (Array n t) (pointers.Blank x) h b = absurd (cc b)
address_item m (Struct ts) (pointers.Symbol x y) h b = h
address_item m (Struct ts) (pointers.Number x) h b = refl
address_item m (Struct ts) pointers.Null h b = refl
address_item m (Struct ts) (pointers.Blank x) h b = absurd (cc b)
address_item m (Packed ts) (pointers.Symbol x y) h b = h
address_item m (Packed ts) (pointers.Number x) h b = refl
address_item m (Packed ts) pointers.Null h b = refl
address_item m (Packed ts) (pointers.Blank x) h b = absurd (cc b)
address_item m (Named k) (pointers.Symbol x y) h b = h
address_item m (Named k) (pointers.Number x) h b = refl
address_item m (Named k) pointers.Null h b = refl
address_item m (Named k) (pointers.Blank x) h b = absurd (cc b)

module _ (m : Module) (context : Context) (tells : Tells m context) (written : (t : IrType) (ts : List Tok) → IsWritten context t ts → is_lawful_type m.types t ≡ true) where
  pub record LawfulInit (depth : ℕ) (ty : IrType) (i : Init) : Type 0 where
    pub lawful : is_lawful_init m ty i ≡ true
    pub nesting : nesting_of_init i ≤ depth

  -- Initialisers without others in them.

  empty_lawful : (ty : IrType) (i : Init) (b : Blank) → Empty b ≡ i → LawfulInit 0 ty i
  empty_lawful ty i b e = subst (LawfulInit 0 ty) e (record { lawful = refl; nesting = omega arith })

  word_init : (ty : IrType) (w : ConstantWord) (i : Init) → init_of_word w ≡ Some i → LawfulInit 0 ty i
  word_init ty constants.True i e = let s : Plain (made.Truth true) ≡ i = cc in subst (LawfulInit 0 ty) s (record { lawful = truth_item m ty true; nesting = omega arith })
  word_init ty constants.False i e = let s : Plain (made.Truth false) ≡ i = cc in subst (LawfulInit 0 ty) s (record { lawful = truth_item m ty false; nesting = omega arith })
  word_init ty constants.Null i e = let s : Plain (made.Pointer pointers.Null) ≡ i = cc in subst (LawfulInit 0 ty) s (record { lawful = address_item m ty pointers.Null refl refl; nesting = omega arith })
  word_init ty constants.Undef i e = let s = map_some Empty (blank_of constants.Undef) i e in empty_lawful ty i s.0 s.2
  word_init ty constants.Poison i e = let s = map_some Empty (blank_of constants.Poison) i e in empty_lawful ty i s.0 s.2
  word_init ty constants.Zero i e = let s = map_some Empty (blank_of constants.Zero) i e in empty_lawful ty i s.0 s.2

  number_lawful : (ty : IrType) (k : Kind) (i : Init) → number_init ty k ≡ Some i → LawfulInit 0 ty i
  number_lawful (One (Int w)) k i e =
      let s = map_some (λ n. Plain (made.Number n)) (number_in w k) i e in
      subst (LawfulInit 0 (One (Int w))) s.2 (record { lawful = ap (λ v. same_width v w) (number_width w k s.0 s.1) ∙ width_itself w; nesting = omega arith })
  number_lawful (One Ptr) k i e = absurd (cc e)
  number_lawful (Array n t) k i e = absurd (cc e)
  number_lawful (Struct ts) k i e = absurd (cc e)
  number_lawful (Packed ts) k i e = absurd (cc e)
  number_lawful (Named j) k i e = absurd (cc e)

  flat_lawful : (ty : IrType) (k : Kind) (name : ℕ) (i : Init) → flat_init_of context ty k name ≡ Some i → LawfulInit 0 ty i
  flat_lawful ty (kinds.Word (keywords.Constant w)) name i e = word_init ty w i e
  flat_lawful ty kinds.Global name i e =
      let s = map_some symbol_init (symbol_of context name) i e in
      subst (LawfulInit 0 ty) s.2 (record { lawful = address_item m ty (pointers.Symbol s.0 0) (symbol_lawful m context tells name s.0 s.1) refl; nesting = omega arith })
  flat_lawful ty (kinds.Number v minus) name i e = number_lawful ty (kinds.Number v minus) i e
  flat_lawful ty kinds.Bytes name i e =
      let s : Bytes (bytes_of context name) ≡ i = cc in
      subst (LawfulInit 0 ty) s (record { lawful = refl; nesting = omega arith })
  flat_lawful ty k name i e = absurd (cc e)

  plain_lawful : (depth : ℕ) (ty : IrType) (c : Constant) → LawfulExpression m depth c → LawfulInit depth ty (Plain c)
  plain_lawful depth ty c (inl (p, w, l, n, e)) = subst (λ x. LawfulInit depth ty (Plain x)) e (record { lawful = cast_item m ty p w l; nesting = n })
  plain_lawful depth ty c (inr (p, l, n, s, e)) = subst (λ x. LawfulInit depth ty (Plain x)) e (record { lawful = address_item m ty p l s; nesting = n })

  leaf_lawful : (depth : ℕ) (ty : IrType) (i : Init) (ts : List Tok) → IsLeaf context depth ty i ts → LawfulInit depth ty i
  leaf_lawful depth ty i ts (inl (t, e, f)) =
      let l = flat_lawful ty t.kind t.name i e in
      let n : nesting_of_init i ≤ 0 = l.nesting in
      record { lawful = l.lawful; nesting = omega (arith, n) }
  leaf_lawful depth ty i ts (inr (c, is, e)) = subst (LawfulInit depth ty) e (plain_lawful depth ty c (expression_is m context tells depth c _ is))

  -- Groups.

  -- items with their types
  module _ {A : Type 0} (item : A → Part) (ty_of : A → IrType) (init_of : A → Init) (depth : ℕ) where
    record LawfulMember (x : A) : Type 0 where
      ty : is_lawful_type m.types (ty_of x) ≡ true
      init : LawfulInit depth (ty_of x) (init_of x)

    record LawfulMembers (xs : List A) : Type 0 where
      types : list_all (is_lawful_type m.types) (map ty_of xs) ≡ true
      inits : are_lawful_inits m (map ty_of xs) (inits_of_list (map init_of xs)) ≡ true
      nesting : nesting_of_inits (inits_of_list (map init_of xs)) ≤ depth

    no_members : LawfulMembers []
    no_members = record { types = refl; inits = refl; nesting = omega arith }

    one_more : (x : A) (xs : List A) → LawfulMember x → LawfulMembers xs → LawfulMembers (x ∷ xs)
    one_more x xs one rest =
        let a : nesting_of_init (init_of x) ≤ depth = one.init.nesting in
        let b : nesting_of_inits (inits_of_list (map init_of xs)) ≤ depth = rest.nesting in
        record {
          types = and_from (is_lawful_type m.types (ty_of x)) (list_all (is_lawful_type m.types) (map ty_of xs)) one.ty rest.types;
          inits = and_from (is_lawful_init m (ty_of x) (init_of x)) (are_lawful_inits m (map ty_of xs) (inits_of_list (map init_of xs))) one.init.lawful rest.inits;
          nesting = omega (arith, a, b);
        }

    module _ (each : (x : A) (ts : List Tok) → item x ts → LawfulMember x) where
      further_lawful : (xs : List A) (ts : List Tok) → AreFurther item xs ts → LawfulMembers xs
      further_lawful [] ts h = no_members
      further_lawful (x ∷ xs) ts h = one_more x xs (each x _ h.3.2) (further_lawful xs _ h.3.3)

      listed_lawful : (xs : List A) (ts : List Tok) → AreListed item xs ts → LawfulMembers xs
      listed_lawful [] ts h = no_members
      listed_lawful (x ∷ xs) ts h = one_more x xs (each x _ h.2) (further_lawful xs _ h.3)

    group_of : (ty : IrType) (kind : Brackets) (xs : List A) (i : Init) → LawfulMembers xs → Group kind (map ty_of xs) (inits_of_list (map init_of xs)) ≡ i → LawfulInit (suc depth) ty i
    group_of ty kind xs i l e =
        let n : nesting_of_inits (inits_of_list (map init_of xs)) ≤ depth = l.nesting in
        subst (LawfulInit (suc depth) ty) e
        (record {
          lawful = and_from (list_all (is_lawful_type m.types) (map ty_of xs)) (are_lawful_inits m (map ty_of xs) (inits_of_list (map init_of xs))) l.types l.inits;
          nesting = omega (arith, n);
        })

  module _ (depth : ℕ) (inner : (ty : IrType) (i : Init) (ts : List Tok) → IsInit context depth ty i ts → LawfulInit depth ty i) where
    group_lawful : (ty : IrType) (i : Init) (ts : List Tok) → IsGroup (IsMember context (IsInit context depth)) i ts → LawfulInit (suc depth) ty i
    group_lawful ty i ts (inl (xs, is, e)) =
        group_of (IsMember context (IsInit context depth)) (λ x. x.ty) (λ x. x.init) depth ty brackets.Array xs i
        (listed_lawful (IsMember context (IsInit context depth)) (λ x. x.ty) (λ x. x.init) depth (λ x us g. record { ty = written x.ty _ g.2; init = inner x.ty x.init _ g.3 }) xs _ is.3.2) e
    group_lawful ty i ts (inr (inl (xs, is, e))) =
        group_of (IsMember context (IsInit context depth)) (λ x. x.ty) (λ x. x.init) depth ty brackets.Struct xs i
        (listed_lawful (IsMember context (IsInit context depth)) (λ x. x.ty) (λ x. x.init) depth (λ x us g. record { ty = written x.ty _ g.2; init = inner x.ty x.init _ g.3 }) xs _ is.3.2) e
    group_lawful ty i ts (inr (inr (xs, is, e))) =
        group_of (IsMember context (IsInit context depth)) (λ x. x.ty) (λ x. x.init) depth ty brackets.Packed xs i
        (listed_lawful (IsMember context (IsInit context depth)) (λ x. x.ty) (λ x. x.init) depth (λ x us g. record { ty = written x.ty _ g.2; init = inner x.ty x.init _ g.3 }) xs _ is.3.3.2.2) e

  pub init_lawful : (depth : ℕ) (ty : IrType) (i : Init) (ts : List Tok) → IsInit context depth ty i ts → LawfulInit depth ty i
  init_lawful zero ty i ts h = leaf_lawful zero ty i ts h
  init_lawful (suc depth) ty i ts (inl h) = leaf_lawful (suc depth) ty i ts h
  init_lawful (suc depth) ty i ts (inr h) = group_lawful depth (init_lawful depth) ty i ts h
