-- Each interface that prototypes say has a text that says it.
use Rattle.std.proofs.Common.{◌≡◌, ℕ, suc, ◌+◌, ◌<◌, ◌≤◌, ◌^◌, false, Ok, List, [], ◌∷◌, ◌++◌, length, All, inl, inr, refl, sym, ap, ◌∙◌, subst, append_assoc, bytes_eq, codes, arith}
use Rattle.std.specs.List.{list_any}
use Rattle.std.proofs.lemmas.List.{length-append, length-map, append-nil}
use Rattle.std.proofs.lemmas.List.Elements.{All-nil, All-push, All-weaker}
use Rattle.lx_words.specs.declared.token.TokenRule.TheVariants as rules
use Rattle.lx_words.specs.declared.token.Token.{Token}
use Rattle.lx_words.proofs.Lists.{absent}
use Rattle.lx_annot.specs.declared.action.Annotation.{Annotation}
use Rattle.lx_annot.specs.declared.expr.Ty.{Ty}
use Rattle.lx_annot.specs.declared.interface.Parameter.{Parameter}
use Rattle.lx_annot.specs.declared.interface.Slot.{Slot}
use Rattle.lx_annot.specs.declared.interface.Field.{Field}
use Rattle.lx_annot.specs.declared.interface.Interface.{Interface}
use Rattle.lx_annot_expressions.specs.Tokens.{Tok, toks_of}
use Rattle.lx_annot_terms.specs.Lists.{Known}
use Rattle.lx_annot_terms.specs.Signatures.{Signature}
use Rattle.lx_annot_read.specs.Interfaces.{iterator_names, slot_names, export_names, with_slot, greatest_index, empty}
use Rattle.lx_annot_laws.specs.Parts.{IsFurther}
use Rattle.lx_annot_laws.proofs.Lawful.{slot_name}
use Rattle.lx_annot_laws.proofs.Counts.{scanned_few}
use Rattle.lx_annot_laws.specs.Says.{IsWord, AreLexed}
use Rattle.lx_annot_laws.specs.Sayable.{AreSayableParams, IsSayableCallable, IsSayable}
use Rattle.lx_annot_laws.proofs.Lexed.{front_lexed, back_lexed, toks_split}
use Rattle.lx_annot_laws.proofs.SayableParts.{fresh_word, param_more, no_params, iterator_sayable}
use Rattle.lx_annot_laws.proofs.Kept.{reftype_kept, iterator_kept, slot_kept, field_kept, export_kept, empty_sayable}
use Rattle.lx_cproto.specs.Types.{type_at}
use Rattle.lx_cproto.specs.Statements.{may_use}
use Rattle.lx_annot_laws.specs.PrototypeParts.{IsParam, IsParams, IsCallable}
use Rattle.lx_annot_laws.specs.Declarations.{Member, Plain, Holds, Declaration, OfReftype, OfIterator, OfPrototype, OfStruct, name_of, with_member, field_of, IsMember, AreMembers, IsStruct, IsPlain, with_plain, Declares, structs_behind, AreDeclarations, ArePrototypes}
use Rattle.lx_annot_laws.proofs.TypeFronts.{type_steady}
use Rattle.lx_annot_laws.proofs.Lexemes.{scanned_lexed}
use Rattle.lx_annot_laws.proofs.Structs.{IsOf, IsOfThese, struct_said, no_field, later, old_or_last}
use Rattle.lx_annot_laws.proofs.PrototypeLawful.{fresh_here}

-- What stands behind a type.

typed_lexed : (t : Ty) (ts rest : List Tok) → type_at ts ≡ Ok (t, rest) → AreLexed ts → AreLexed rest
typed_lexed t ts [] e l = tt
typed_lexed t ts (h ∷ r) e l = let s = type_steady t h r ts e in back_lexed ts s.c (h ∷ r) s.whole l

-- Parameters.

params_more : (before ps : List Parameter) (ts : List Tok) → AreLexed ts → AreSayableParams before → IsFurther (codes ",") IsParam before ps ts → AreSayableParams (before ++ ps)
params_more before [] ts l s e = subst AreSayableParams (sym (append-nil before)) s
params_more before (p ∷ ps) ts l s (f, b, comma, (f1, b1, (v, (rest, read, name)), more, w1), w) =
    let lb = back_lexed ts f b w l in
    let here = typed_lexed p.ty f1 rest read (front_lexed b f1 b1 w1 lb) in
    subst AreSayableParams (append_assoc before (p ∷ []) ps)
    (params_more (before ++ p ∷ []) ps b1 (back_lexed b f1 b1 w1 lb) (param_more before p rest here s name) more)

params_sayable : (ps : List Parameter) (ts : List Tok) → AreLexed ts → IsParams ps ts → AreSayableParams ps
params_sayable [] ts l is = no_params
params_sayable (p ∷ ps) ts l (f, b, (v, (rest, read, name)), more, w) =
    let here = typed_lexed p.ty f rest read (front_lexed ts f b w l) in
    params_more (p ∷ []) ps b (back_lexed ts f b w l) (param_more [] p rest here no_params name) more

callable_sayable : (known : Known) (name : List ℕ) (sig : Signature) (a : Annotation) (ts : List Tok) → AreLexed ts → IsWord name → IsCallable known sig a ts → IsSayableCallable known name sig a
callable_sayable known name sig a ts l word (f, b, (f1, b1, o, (f2, b2, ps, c, w2), w1), (f3, b3, is, e, w3), w) =
    let params = params_sayable sig.params f2 (front_lexed b1 f2 b2 w2 (back_lexed f f1 b1 w1 (front_lexed ts f b w l))) ps in
    record { word = word; params = params; annotation = (f3, front_lexed b f3 b3 w3 (back_lexed ts f b w l), is) }

-- Members of a struct that is new.

record Inside (known : List (List ℕ)) (s : List ℕ) (n : ℕ) (i : Interface) : Type 0 where
  said : IsSayable i
  fields : All (IsOfThese known s n) i.fields

fields_later : (known : List (List ℕ)) (s : List ℕ) (n : ℕ) (fields : List Field) → All (IsOfThese known s n) fields → All (IsOfThese known s (suc n)) fields
fields_later known s n fields are = All-weaker (IsOfThese known s n) (IsOfThese known s (suc n)) (later known s n) fields are

holds_inside : (known : List (List ℕ)) (s : List ℕ) (n : ℕ) (i : Interface) (x : Slot) → list_any (bytes_eq s) known ≡ false → IsWord s → n ≤ greatest_index → Inside known s n i
    → IsSayableCallable (may_use i) x.name (record { ret = x.ret; params = x.params }) x.annotation → list_any (bytes_eq x.name) (slot_names i) ≡ false → Inside known s (suc n) (with_member s n i (Holds x))
holds_inside known s n i x fresh word few is body new =
    let more : length (i.slots ++ x ∷ []) ≡ length i.slots + 1 = length-append i.slots (x ∷ []) in
    let count : length (slot_names i) ≡ length i.slots = length-map i.slots slot_name in
    let f = field_of s n (length (slot_names i)) x.line in
    let there : length (slot_names i) < length (i.slots ++ x ∷ []) = omega (arith, more, count) in
    record {
      said = field_kept (with_slot i x) f (slot_kept i x is.said body new) (record { struct = struct_said s word; index = few; slot = there }) (no_field known s n i fresh is.fields);
      fields = All-push (IsOfThese known s (suc n)) i.fields f (fields_later known s n i.fields is.fields) (inr (refl, omega arith));
    }

member_inside : (known : List (List ℕ)) (s : List ℕ) (i : Interface) (names : List (List ℕ)) (m : Member) (ts : List Tok) → AreLexed ts → list_any (bytes_eq s) known ≡ false → IsWord s → length names ≤ greatest_index
    → Inside known s (length names) i → IsMember i names m ts → Inside known s (suc (length names)) (with_member s (length names) i m)
member_inside known s i names (Plain name) ts l fresh word few is m = record { said = is.said; fields = fields_later known s (length names) i.fields is.fields }
member_inside known s i names (Holds x) ts l fresh word few is (rest, read, (f, b, (f1, b1, opens, (f2, b2, star, (none, new), w2), w1), (f3, b3, close, body, w3), w)) =
    let lr = typed_lexed x.ret ts rest read l in
    let named = fresh_word names x.name b2 (back_lexed b1 f2 b2 w2 (back_lexed f f1 b1 w1 (front_lexed rest f b w lr))) new in
    let sig : Signature = record { ret = x.ret; params = x.params } in
    holds_inside known s (length names) i x fresh word few is
    (callable_sayable (may_use i) x.name sig x.annotation b3 (back_lexed b f3 b3 w3 (back_lexed rest f b w lr)) named body) (absent (bytes_eq x.name) (slot_names i) none)

-- There are fewer members than tokens.
members_inside : (text : List ℕ) (known : List (List ℕ)) (s : List ℕ) → list_any (bytes_eq s) known ≡ false → IsWord s → (ms : List Member) (i j : Interface) (names : List (List ℕ)) (tokens : List Token)
    → AreLexed (toks_of text tokens) → length names + length tokens ≤ greatest_index → Inside known s (length names) i → AreMembers text s i names ms j tokens → (n : ℕ) × Inside known s n j
members_inside text known s fresh word [] i j names tokens l few is (same, none) = (length names, subst (Inside known s (length names)) same is)
members_inside text known s fresh word (m ∷ ms) i j names tokens l few is (front, back, stands, are, w) =
    let more : length (names ++ name_of m ∷ []) ≡ length names + 1 = length-append names (name_of m ∷ []) in
    let next : length (names ++ name_of m ∷ []) ≡ suc (length names) = omega (arith, more) in
    let some : length front ≡ suc (length stands.more) = ap length stands.whole in
    let size : length tokens ≡ length front + length back = ap length w ∙ length-append front back in
    let split = toks_split text tokens front back w in
    let here = front_lexed (toks_of text tokens) (toks_of text front) (toks_of text back) split l in
    let there = back_lexed (toks_of text tokens) (toks_of text front) (toks_of text back) split l in
    let now = member_inside known s i names m (toks_of text front) here fresh word (omega (arith, few)) is stands.is in
    members_inside text known s fresh word ms (with_member s (length names) i m) j (names ++ name_of m ∷ []) back there (omega (arith, few, more, some, size))
    (subst (λ n. Inside known s n (with_member s (length names) i m)) (sym next) now) are

-- Declarations.

record Outside (known : List (List ℕ)) (i : Interface) : Type 0 where
  said : IsSayable i
  fields : All (IsOf known) i.fields

opens : (known : List (List ℕ)) (s : List ℕ) (i : Interface) → Outside known i → Inside known s 0 i
opens known s i is = record { said = is.said; fields = All-weaker (IsOf known) (IsOfThese known s 0) (λ f h. inl h) i.fields is.fields }

closes : (known : List (List ℕ)) (s : List ℕ) (n : ℕ) (i : Interface) → Inside known s n i → Outside (known ++ s ∷ []) i
closes known s n i is = record { said = is.said; fields = All-weaker (IsOfThese known s n) (IsOf (known ++ s ∷ [])) (old_or_last known s n) i.fields is.fields }

struct_outside : (text : List ℕ) (known : List (List ℕ)) (i : Interface) (name : List ℕ) (ms : List Member) (j : Interface) (tokens : List Token) → AreLexed (toks_of text tokens) → length tokens ≤ greatest_index → Outside known i
    → IsStruct text i known name ms j tokens → Outside (known ++ name ∷ []) j
struct_outside text known i name ms j tokens l few is declared =
    let (f, b, word, (f1, b1, fresh, brace, w1), w) = declared.opens in
    let split = toks_split text tokens declared.front (declared.body ++ declared.back) declared.whole in
    let behind = back_lexed (toks_of text tokens) (toks_of text declared.front) (toks_of text (declared.body ++ declared.back)) split l in
    let opening = front_lexed (toks_of text tokens) (toks_of text declared.front) (toks_of text (declared.body ++ declared.back)) split l in
    let inside = toks_split text (declared.body ++ declared.back) declared.body declared.back refl in
    let inner = front_lexed (toks_of text (declared.body ++ declared.back)) (toks_of text declared.body) (toks_of text declared.back) inside behind in
    let named = fresh_word known name f1 (front_lexed b f1 b1 w1 (back_lexed (toks_of text declared.front) f b w opening)) fresh in
    let size : length tokens ≡ length declared.front + (length declared.body + length declared.back) = ap length declared.whole ∙ length-append declared.front (declared.body ++ declared.back) ∙ ap (λ n. length declared.front + n) (length-append declared.body declared.back) in
    let fits : 0 + length declared.body ≤ greatest_index = omega (arith, size, few) in
    let (n, members) = members_inside text known name (fresh_here known name f1 fresh) named ms i j [] declared.body inner fits (opens known name i is) declared.members in
    closes known name n j members

plain_outside : (known : List (List ℕ)) (i : Interface) (x : Declaration) (ts : List Tok) → AreLexed ts → Outside known i → IsPlain i x ts → Outside known (with_plain i x)
plain_outside known i (OfReftype name) ts l is (f, b, word, (f1, b1, fresh, end, w1), w) =
    let here = front_lexed b f1 b1 w1 (back_lexed ts f b w l) in
    record { said = reftype_kept i name is.said (fresh_word i.reftypes name f1 here fresh) (fresh_here i.reftypes name f1 fresh); fields = is.fields }
plain_outside known i (OfIterator x) ts l is (f, b, word, (f1, b1, fresh, body, w1), w) =
    let lb = back_lexed ts f b w l in
    let said = iterator_sayable (may_use i) x b1 (back_lexed b f1 b1 w1 lb) (fresh_word (iterator_names i) x.name f1 (front_lexed b f1 b1 w1 lb) fresh) body in
    record { said = iterator_kept i x is.said said (fresh_here (iterator_names i) x.name f1 fresh); fields = is.fields }
plain_outside known i (OfPrototype x) ts l is (none, (rest, read, (f, b, fresh, body, w))) =
    let sig : Signature = record { ret = x.ret; params = x.params } in
    let lr = typed_lexed x.ret ts rest read l in
    let said = callable_sayable (may_use i) x.name sig x.annotation b (back_lexed rest f b w lr) (fresh_word (export_names i) x.name f (front_lexed rest f b w lr) fresh) body in
    record { said = export_kept i x is.said said (fresh_here (export_names i) x.name f fresh); fields = is.fields }
plain_outside known i (OfStruct name ms) ts l is h = absurd h

declared_outside : (text : List ℕ) (known : List (List ℕ)) (i : Interface) (x : Declaration) (k : Interface) (tokens : List Token) → AreLexed (toks_of text tokens) → length tokens ≤ greatest_index → Outside known i
    → Declares text i known x k tokens → Outside (structs_behind known x) k
declared_outside text known i (OfReftype name) k tokens l few is (stands, same) = subst (Outside known) (sym same) (plain_outside known i (OfReftype name) (toks_of text tokens) l is stands.is)
declared_outside text known i (OfIterator x) k tokens l few is (stands, same) = subst (Outside known) (sym same) (plain_outside known i (OfIterator x) (toks_of text tokens) l is stands.is)
declared_outside text known i (OfPrototype x) k tokens l few is (stands, same) = subst (Outside known) (sym same) (plain_outside known i (OfPrototype x) (toks_of text tokens) l is stands.is)
declared_outside text known i (OfStruct name ms) k tokens l few is declared = struct_outside text known i name ms k tokens l few is declared

all_outside : (text : List ℕ) (xs : List Declaration) (known : List (List ℕ)) (i j : Interface) (tokens : List Token) → AreLexed (toks_of text tokens) → length tokens ≤ greatest_index → Outside known i
    → AreDeclarations text i known xs j tokens → IsSayable j
all_outside text [] known i j tokens l few is (same, none) = subst IsSayable same is.said
all_outside text (x ∷ xs) known i j tokens l few is (k, front, back, declared, are, w) =
    let size : length tokens ≡ length front + length back = ap length w ∙ length-append front back in
    let split = toks_split text tokens front back w in
    let here = front_lexed (toks_of text tokens) (toks_of text front) (toks_of text back) split l in
    let there = back_lexed (toks_of text tokens) (toks_of text front) (toks_of text back) split l in
    all_outside text xs (structs_behind known x) k j back there (omega (arith, few, size)) (declared_outside text known i x k front here (omega (arith, few, size)) is declared) are

few_tokens : (body tokens size : ℕ) → body ≤ tokens → tokens ≤ size → size < 2 ^ 32 → body ≤ greatest_index
few_tokens body tokens size a b c = omega (arith, a, b, c)

-- the interface that a text is
pub sayable : (text : List ℕ) (i : Interface) → length text < 2 ^ 32 → ArePrototypes text i → IsSayable i
sayable text i short is =
    let size : length is.tokens ≡ length is.head + length is.body = ap length is.whole ∙ length-append is.head is.body in
    let body : length is.body ≤ length is.tokens = omega (arith, size) in
    let few = few_tokens (length is.body) (length is.tokens) (length text) body (scanned_few rules.Prototype text is.tokens is.scans) short in
    let split = toks_split text is.tokens is.head is.body is.whole in
    let lexed = back_lexed (toks_of text is.tokens) (toks_of text is.head) (toks_of text is.body) split (scanned_lexed text is.tokens is.scans) in
    let start : Outside [] empty = record { said = empty_sayable; fields = All-nil (IsOf []) } in
    all_outside text is.declarations [] empty i is.body lexed few start is.are
