-- Initialisers by a context that knows no names.
use Rattle.std.proofs.Common.{◌≡◌, ◌⊎◌, inl, inr, ℕ, zero, suc, Option, Some, None, List, [], ◌∷◌, refl}
use Rattle.std.specs.List.{AllZip}
use Rattle.lx_ir_tokens.specs.declared.token.Tok.{Tok}
use Rattle.lx_ir_tokens.specs.declared.token.Kind.{Kind}
use Rattle.lx_ir_tokens.specs.declared.token.Kind.TheVariants as kinds
use Rattle.lx_ir.specs.declared.module.Symbol.TheVariants.{Global}
use Rattle.lx_ir.specs.declared.module.Brackets.TheVariants as brackets
use Rattle.lx_ir.specs.IrType.{IrType, One, Array, Struct, Packed, Named}
use Rattle.lx_ir.specs.Init.{Init, Plain}
use Rattle.lx_ir_terms.specs.Context.{Context, nothing}
use Rattle.lx_ir_terms.specs.Grammar.{Part}
use Rattle.lx_ir_constants.specs.Inits.{flat_init_of, symbol_init, members_of, group}
use Rattle.lx_ir_constants.specs.Grammar.{AreItems, AreFurther}
use Rattle.lx_ir_constants.specs.InitGrammar.{IsLeaf, AreListed, IsMember, IsGroup, IsInit}
use Rattle.lx_ir_lawful.specs.Alike.{knowing_registers}
use Rattle.lx_ir_lawful.proofs.SeenTypes.{unnamed, written_seen}
use Rattle.lx_ir_lawful.proofs.SeenConstants.{Something, expression_seen}

-- Lists.

-- each part of this kind is one of that kind, with something that is so related
abbrev pub Sees : {A B : Type 0} → (A → Part) → (B → Part) → (A → B → Type 0) → Type 0
Sees {A} {B} p q R = (x : A) (ts : List Tok) → p x ts → (y : B) × q y ts × R x y

abbrev pub SeesAll : {A B : Type 0} → (List A → Part) → (List B → Part) → (A → B → Type 0) → Type 0
SeesAll {A} {B} p q R = (xs : List A) (ts : List Tok) → p xs ts → (ys : List B) × q ys ts × AllZip R xs ys

pub further_seen : {A B : Type 0} (p : A → Part) (q : B → Part) (R : A → B → Type 0) → Sees p q R → SeesAll (AreFurther p) (AreFurther q) R
further_seen p q R seen [] ts h = ([], h, tt)
further_seen p q R seen (x ∷ xs) ts (f, b, m, (f2, b2, one, more, w2), w) =
    let y = seen x f2 one in
    let ys = further_seen p q R seen xs b2 more in
    (y.0 ∷ ys.0, (f, b, m, (f2, b2, y.1, ys.1, w2), w), (y.2, ys.2))

pub items_seen : {A B : Type 0} (p : A → Part) (q : B → Part) (R : A → B → Type 0) → Sees p q R → SeesAll (AreItems p) (AreItems q) R
items_seen p q R seen [] ts h = absurd h
items_seen p q R seen (x ∷ xs) ts (f, b, one, more, w) =
    let y = seen x f one in
    let ys = further_seen p q R seen xs b more in
    (y.0 ∷ ys.0, (f, b, y.1, ys.1, w), (y.2, ys.2))

pub listed_seen : {A B : Type 0} (p : A → Part) (q : B → Part) (R : A → B → Type 0) → Sees p q R → SeesAll (AreListed p) (AreListed q) R
listed_seen p q R seen [] ts h = ([], h, tt)
listed_seen p q R seen (x ∷ xs) ts (f, b, one, more, w) =
    let y = seen x f one in
    let ys = further_seen p q R seen xs b more in
    (y.0 ∷ ys.0, (f, b, y.1, ys.1, w), (y.2, ys.2))

abbrev whatever : {A B : Type 0} → A → B → Type 0
whatever x y = Unit {0}

-- Initialisers.

module _ (c : Context) (registers : List (Option ℕ)) where
  abbrev d : Context
  d = knowing_registers c.names registers

  flat_init_seen : (ty : IrType) (k : Kind) (n : ℕ) (i : Init) → flat_init_of c ty k n ≡ Some i → (j : Init) × (flat_init_of d (unnamed ty) k n ≡ Some j)
  flat_init_seen ty (kinds.Word w) n i e = (i, e)
  flat_init_seen ty kinds.Global n i e = (symbol_init (Global nothing), refl)
  flat_init_seen (One s) (kinds.Number v m) n i e = (i, e)
  flat_init_seen (Array k t) (kinds.Number v m) n i e = cc
  flat_init_seen (Struct ts) (kinds.Number v m) n i e = cc
  flat_init_seen (Packed ts) (kinds.Number v m) n i e = cc
  flat_init_seen (Named k) (kinds.Number v m) n i e = cc
  flat_init_seen ty kinds.Bytes n i e = (i, e)
  flat_init_seen ty k n i e = cc

  leaf_seen : (depth : ℕ) (ty : IrType) (i : Init) (ts : List Tok) → IsLeaf c depth ty i ts → Something (IsLeaf d depth (unnamed ty)) ts
  leaf_seen depth ty i ts (inl (t, e, w)) = let j = flat_init_seen ty t.kind t.name i e in (j.0, inl (t, j.1, w))
  leaf_seen depth ty i ts (inr (x, h, w)) = let y = expression_seen c registers depth x ts h in (Plain y.0, inr (y.0, y.1, refl))

  member_seen : (init other : IrType → Init → Part) → ((ty : IrType) (i : Init) (ts : List Tok) → init ty i ts → Something (other (unnamed ty)) ts) → Sees (IsMember c init) (IsMember d other) whatever
  member_seen init other seen m ts (f, b, ty, i, w) =
      let j = seen m.ty m.init b i in
      (record { ty = unnamed m.ty; init = j.0 }, (f, b, written_seen c registers m.ty f ty, j.1, w), tt)

  group_seen : (init other : IrType → Init → Part) → Sees (IsMember c init) (IsMember d other) whatever → (i : Init) (ts : List Tok) → IsGroup (IsMember c init) i ts → Something (IsGroup (IsMember d other)) ts
  group_seen init other seen i ts (inl (ms, (f, b, o, (f2, b2, all, m, w2), w), e)) =
      let l = listed_seen (IsMember c init) (IsMember d other) whatever seen ms f2 all in
      (group brackets.Array (members_of l.0), inl (l.0, (f, b, o, (f2, b2, l.1, m, w2), w), refl))
  group_seen init other seen i ts (inr (inl (ms, (f, b, o, (f2, b2, all, m, w2), w), e))) =
      let l = listed_seen (IsMember c init) (IsMember d other) whatever seen ms f2 all in
      (group brackets.Struct (members_of l.0), inr (inl (l.0, (f, b, o, (f2, b2, l.1, m, w2), w), refl)))
  group_seen init other seen i ts (inr (inr (ms, (f, b, l, (f2, b2, o, (f3, b3, (f4, b4, all, m, w4), g, w3), w2), w), e))) =
      let k = listed_seen (IsMember c init) (IsMember d other) whatever seen ms f4 all in
      (group brackets.Packed (members_of k.0), inr (inr (k.0, (f, b, l, (f2, b2, o, (f3, b3, (f4, b4, k.1, m, w4), g, w3), w2), w), refl)))

  pub init_seen : (depth : ℕ) (ty : IrType) (i : Init) (ts : List Tok) → IsInit c depth ty i ts → Something (IsInit d depth (unnamed ty)) ts
  init_seen zero ty i ts h = leaf_seen zero ty i ts h
  init_seen (suc depth) ty i ts (inl h) = let j = leaf_seen (suc depth) ty i ts h in (j.0, inl j.1)
  init_seen (suc depth) ty i ts (inr h) =
      let j = group_seen (IsInit c depth) (IsInit d depth) (member_seen (IsInit c depth) (IsInit d depth) (init_seen depth)) i ts h in
      (j.0, inr j.1)
