-- Interfaces of the grammar are lawful.
use Rattle.std.proofs.Common.{◌≡◌, ℕ, zero, suc, ◌+◌, ◌≤◌, ◌<◌, ◌^◌, ◌==◌, ◌&&◌, Bool, true, false, Option, Some, None, is_some, List, [], ◌∷◌, ◌++◌, length, map, All, ◌⊎◌, inl, inr, refl, sym, ap, ◌∙◌, subst, append_assoc, bytes_eq, codes, arith}
use Rattle.std.specs.Prelude.{◌||◌, if◌then◌else◌}
use Rattle.std.specs.List.{IsDistinct, list_any}
use Rattle.std.proofs.lemmas.List.{length-append, length-map, append-nil}
use Rattle.std.proofs.lemmas.List.Elements.{All-nil, All-push, All-weaker}
use Rattle.std.proofs.lemmas.List.Folds.{list_any_none}
use Rattle.std.proofs.lemmas.Bool.Decides.{nat_tests}
use Rattle.std.proofs.lemmas.Slice.Eq.{bytes_eq-Decides}
use Rattle.lx_words.specs.declared.token.TokenRule.TheVariants as rules
use Rattle.lx_words.specs.declared.token.Token.{Token}
use Rattle.lx_words.specs.declared.token.TokenKind.TheVariants as kinds
use Rattle.lx_words.proofs.Lists.{any_front, any_last}
use Rattle.lx_words.proofs.Tests.{and_false}
use Rattle.lx_annot.specs.declared.action.Annotation.{Annotation}
use Rattle.lx_annot.specs.declared.interface.Parameter.{Parameter}
use Rattle.lx_annot.specs.declared.interface.CapIterator.{CapIterator}
use Rattle.lx_annot.specs.declared.interface.Slot.{Slot}
use Rattle.lx_annot.specs.declared.interface.Field.{Field}
use Rattle.lx_annot.specs.declared.interface.Export.{Export}
use Rattle.lx_annot.specs.declared.interface.Interface.{Interface}
use Rattle.lx_annot.specs.Lawful.{IsLawfulCallable, IsNamed, IsLawfulInterface, declared_in}
use Rattle.lx_annot_expressions.specs.Tokens.{Tok, toks_of}
use Rattle.lx_annot_expressions.specs.Names.{number_among}
use Rattle.lx_annot_expressions.specs.Grammar.{Part, Is, ◌then◌}
use Rattle.lx_annot_terms.specs.Signatures.{Signature}
use Rattle.lx_annot_read.specs.Interfaces.{iterator_names, slot_names, export_names, is_field, is_typed, with_reftype, with_iterator, with_slot, with_field, with_export, empty}
use Rattle.lx_annot_laws.specs.Parts.{IsFurther}
use Rattle.lx_annot_laws.specs.Statements.{IsFresh}
use Rattle.lx_annot_laws.proofs.Counts.{scanned_few}
use Rattle.lx_annot_laws.proofs.Lawful.{fresh_differs, Differ, differs_more, param_name, none_differ, slot_name, items_lawful, annotation_lawful, here_is, reftype_named, iterator_named, slot_named, export_named, field_named, none_named, below}
use Rattle.lx_cproto.specs.Statements.{may_use, struct_type}
use Rattle.lx_annot_laws.specs.PrototypeParts.{IsParam, IsParams, IsCallable}
use Rattle.lx_annot_laws.specs.Declarations.{Member, Plain, Holds, Declaration, OfReftype, OfIterator, OfPrototype, OfStruct, name_of, with_member, field_of, IsMember, AreMembers, IsStruct, IsPlain, with_plain, Stands, Declares, structs_behind, AreDeclarations, ArePrototypes}

-- Parameters.

param_more : (before : List Parameter) (p : Parameter) (ts : List Tok) → Differ param_name before → IsParam before p ts → Differ param_name (before ++ p ∷ [])
param_more before p ts d (v, (rest, read, (t, r, h, g))) = differs_more param_name before p d (fresh_differs (map param_name before) t.kind t.bytes p.name h)

params_more : (before ps : List Parameter) (ts : List Tok) → Differ param_name before → IsFurther (codes ",") IsParam before ps ts → Differ param_name (before ++ ps)
params_more before [] ts d e = subst (Differ param_name) (sym (append-nil before)) d
params_more before (p ∷ ps) ts d (f, b, comma, (f1, b1, is, more, w1), w) =
    subst (Differ param_name) (append_assoc before (p ∷ []) ps) (params_more (before ++ p ∷ []) ps b1 (param_more before p f1 d is) more)

params_differ : (ps : List Parameter) (ts : List Tok) → IsParams ps ts → Differ param_name ps
params_differ [] ts is = none_differ
params_differ (p ∷ ps) ts (f, b, is, more, w) = params_more (p ∷ []) ps b (param_more [] p f none_differ is) more

callable_lawful : (i : Interface) (sig : Signature) (a : Annotation) (ts : List Tok) → IsCallable (may_use i) sig a ts → IsLawfulCallable (declared_in i) sig.params sig.ret a
callable_lawful i sig a ts (f, b, (f1, b1, o, (f2, b2, ps, c, w2), w1), (f3, b3, is, e, w3), w) =
    here_is i a sig (annotation_lawful sig (may_use i) a f3 (params_differ sig.params f2 ps) is)

-- Fields of structs.

-- a field of one of these structs
abbrev IsOf : List (List ℕ) → Field → Type 0
IsOf known f = list_any (λ z. bytes_eq f.name (struct_type z)) known ≡ true

-- or of this one, with a number below the next
abbrev IsOfThese : List (List ℕ) → List ℕ → ℕ → Field → Type 0
IsOfThese known s n f = IsOf known f ⊎ ((f.name ≡ struct_type s) × (f.index < n))

pub same_struct : (known : List (List ℕ)) (s : List ℕ) → list_any (λ z. bytes_eq (struct_type s) (struct_type z)) known ≡ list_any (bytes_eq s) known
same_struct [] s = refl
same_struct (z ∷ known) s = ap (λ b. bytes_eq s z || b) (same_struct known s)

not_old : (known : List (List ℕ)) (s : List ℕ) (n : ℕ) (f : Field) (b : Bool) → list_any (bytes_eq s) known ≡ false → bytes_eq f.name (struct_type s) ≡ b → IsOf known f → (f.index == n) && b ≡ false
not_old known s n f false fresh h is = and_false (f.index == n)
not_old known s n f true fresh h is =
    let same : f.name ≡ struct_type s = (bytes_eq-Decides f.name (struct_type s)).0 h in
    let there : list_any (bytes_eq s) known ≡ true = sym (same_struct known s) ∙ ap (λ y. list_any (λ z. bytes_eq y (struct_type z)) known) (sym same) ∙ is in
    cc

pub below_differs : (k n : ℕ) (b : Bool) → k < n → (k == n) && b ≡ false
below_differs k n b lt = let e : k == n ≡ false = grind (arith, nat_tests) in ap (λ a. a && b) e

not_there : (known : List (List ℕ)) (s : List ℕ) (n : ℕ) (f : Field) → list_any (bytes_eq s) known ≡ false → IsOfThese known s n f → is_field (struct_type s) n f ≡ false
not_there known s n f fresh (inl is) = not_old known s n f (bytes_eq f.name (struct_type s)) fresh refl is
not_there known s n f fresh (inr (same, lt)) = below_differs f.index n (bytes_eq f.name (struct_type s)) lt

-- Members.

-- what holds inside a struct that is not declared before
record Inside (known : List (List ℕ)) (s : List ℕ) (n : ℕ) (i : Interface) : Type 0 where
  named : IsNamed i
  fields : All (IsOfThese known s n) i.fields

later : (known : List (List ℕ)) (s : List ℕ) (n : ℕ) (f : Field) → IsOfThese known s n f → IsOfThese known s (suc n) f
later known s n f (inl is) = inl is
later known s n f (inr (same, lt)) = inr (same, omega (arith, lt))

pub fresh_here : (names : List (List ℕ)) (name : List ℕ) (ts : List Tok) → IsFresh names name ts → list_any (bytes_eq name) names ≡ false
fresh_here names name ts (t, h, g) = fresh_differs names t.kind t.bytes name h

plain_inside : (known : List (List ℕ)) (s : List ℕ) (n : ℕ) (i : Interface) → Inside known s n i → Inside known s (suc n) i
plain_inside known s n i is = record { named = is.named; fields = All-weaker (IsOfThese known s n) (IsOfThese known s (suc n)) (later known s n) i.fields is.fields }

no_field : (known : List (List ℕ)) (s : List ℕ) (n : ℕ) (i : Interface) → list_any (bytes_eq s) known ≡ false → Inside known s n i → is_typed i (struct_type s) n ≡ false
no_field known s n i fresh is = list_any_none (is_field (struct_type s) n) i.fields (All-weaker (IsOfThese known s n) (λ f. is_field (struct_type s) n f ≡ false) (λ f. not_there known s n f fresh) i.fields is.fields)

holds_inside : (known : List (List ℕ)) (s : List ℕ) (n : ℕ) (i : Interface) (x : Slot) (ts us : List Tok) → list_any (bytes_eq s) known ≡ false → Inside known s n i → IsFresh (slot_names i) x.name ts → IsCallable (may_use i) (record { ret = x.ret; params = x.params }) x.annotation us → Inside known s (suc n) (with_member s n i (Holds x))
holds_inside known s n i x ts us fresh is name body =
    let sig : Signature = record { ret = x.ret; params = x.params } in
    let j = with_slot i x in
    let f = field_of s n (length (slot_names i)) x.line in
    let more : length (i.slots ++ x ∷ []) ≡ length i.slots + 1 = length-append i.slots (x ∷ []) in
    let count : length (slot_names i) ≡ length i.slots = length-map i.slots slot_name in
    record {
      named = field_named j f (slot_named i x ts is.named name (callable_lawful i sig x.annotation us body)) (no_field known s n i fresh is) (omega (arith, more, count));
      fields = All-push (IsOfThese known s (suc n)) i.fields f (All-weaker (IsOfThese known s n) (IsOfThese known s (suc n)) (later known s n) i.fields is.fields) (inr (refl, omega arith));
    }

abbrev tok : List ℕ → Tok
tok name = record { kind = kinds.Word; bytes = name }

-- a name that is none of these, as a token
fresh_token : (names : List (List ℕ)) (name : List ℕ) → number_among names name ≡ None → IsFresh names name (tok name ∷ [])
fresh_token names name absent = (tok name, ap (λ o. if is_some o then None else Some name) absent, refl)

member_inside : (known : List (List ℕ)) (s : List ℕ) (i : Interface) (names : List (List ℕ)) (m : Member) (ts : List Tok) → list_any (bytes_eq s) known ≡ false → Inside known s (length names) i → IsMember i names m ts → Inside known s (suc (length names)) (with_member s (length names) i m)
member_inside known s i names (Plain name) ts fresh is m = plain_inside known s (length names) i is
member_inside known s i names (Holds x) ts fresh is (rest, read, (f, b, (f1, b1, opens_it, (f2, b2, star, (absent, new), w2), w1), (f3, b3, close, body, w3), w)) =
    holds_inside known s (length names) i x (tok x.name ∷ []) b3 fresh is (fresh_token (slot_names i) x.name absent) body

members_inside : (text : List ℕ) (known : List (List ℕ)) (s : List ℕ) → list_any (bytes_eq s) known ≡ false → (ms : List Member) (i j : Interface) (names : List (List ℕ)) (tokens : List Token) → Inside known s (length names) i → AreMembers text s i names ms j tokens → (n : ℕ) × Inside known s n j
members_inside text known s fresh [] i j names tokens is (same, none) = (length names, subst (Inside known s (length names)) same is)
members_inside text known s fresh (m ∷ ms) i j names tokens is (front, back, stands, are, w) =
    let more : length (names ++ name_of m ∷ []) ≡ suc (length names) = length-append names (name_of m ∷ []) ∙ omega arith in
    let next = member_inside known s i names m (toks_of text front) fresh is stands.is in
    members_inside text known s fresh ms (with_member s (length names) i m) j (names ++ name_of m ∷ []) back (subst (λ n. Inside known s n (with_member s (length names) i m)) (sym more) next) are

-- Declarations.

-- what holds outside structs
record Outside (known : List (List ℕ)) (i : Interface) : Type 0 where
  named : IsNamed i
  fields : All (IsOf known) i.fields

opens : (known : List (List ℕ)) (s : List ℕ) (i : Interface) → Outside known i → Inside known s 0 i
opens known s i is = record { named = is.named; fields = All-weaker (IsOf known) (IsOfThese known s 0) (λ f h. inl h) i.fields is.fields }

old_or_last : (known : List (List ℕ)) (s : List ℕ) (n : ℕ) (f : Field) → IsOfThese known s n f → IsOf (known ++ s ∷ []) f
old_or_last known s n f (inl is) = any_front (λ z. bytes_eq f.name (struct_type z)) known (s ∷ []) is
old_or_last known s n f (inr (same, lt)) = any_last (λ z. bytes_eq f.name (struct_type z)) known s ((bytes_eq-Decides f.name (struct_type s)).1 same)

closes : (known : List (List ℕ)) (s : List ℕ) (n : ℕ) (i : Interface) → Inside known s n i → Outside (known ++ s ∷ []) i
closes known s n i is = record { named = is.named; fields = All-weaker (IsOfThese known s n) (IsOf (known ++ s ∷ [])) (old_or_last known s n) i.fields is.fields }

struct_outside : (text : List ℕ) (known : List (List ℕ)) (i : Interface) (name : List ℕ) (ms : List Member) (j : Interface) (tokens : List Token) → Outside known i → IsStruct text i known name ms j tokens → Outside (known ++ name ∷ []) j
struct_outside text known i name ms j tokens is declared =
    let (f, b, word, (f1, b1, fresh, brace, w1), w) = declared.opens in
    let (n, inside) = members_inside text known name (fresh_here known name f1 fresh) ms i j [] declared.body (opens known name i is) declared.members in
    closes known name n j inside

plain_outside : (known : List (List ℕ)) (i : Interface) (x : Declaration) (ts : List Tok) → Outside known i → IsPlain i x ts → Outside known (with_plain i x)
plain_outside known i (OfReftype name) ts is (f, b, word, (f1, b1, fresh, end, w1), w) =
    record { named = reftype_named i name f1 is.named fresh; fields = is.fields }
plain_outside known i (OfIterator x) ts is (f, b, word, (f1, b1, fresh, (p, (f2, b2, round, (f3, b3, pn, (f4, b4, close, (f5, b5, brace, (f6, b6, items, end, w6), w5), w4), w3), w2)), w1), w) =
    record { named = iterator_named i x f1 is.named fresh (items_lawful p (may_use i) x.items x.name x.line f6 items); fields = is.fields }
plain_outside known i (OfPrototype x) ts is (none, (rest, read, (f, b, fresh, body, w))) =
    let sig : Signature = record { ret = x.ret; params = x.params } in
    record { named = export_named i x f is.named fresh (callable_lawful i sig x.annotation b body); fields = is.fields }
plain_outside known i (OfStruct name ms) ts is h = absurd h

declared_outside : (text : List ℕ) (known : List (List ℕ)) (i : Interface) (x : Declaration) (k : Interface) (tokens : List Token) → Outside known i → Declares text i known x k tokens → Outside (structs_behind known x) k
declared_outside text known i (OfReftype name) k tokens is (stands, same) = subst (Outside known) (sym same) (plain_outside known i (OfReftype name) (toks_of text tokens) is stands.is)
declared_outside text known i (OfIterator x) k tokens is (stands, same) = subst (Outside known) (sym same) (plain_outside known i (OfIterator x) (toks_of text tokens) is stands.is)
declared_outside text known i (OfPrototype x) k tokens is (stands, same) = subst (Outside known) (sym same) (plain_outside known i (OfPrototype x) (toks_of text tokens) is stands.is)
declared_outside text known i (OfStruct name ms) k tokens is declared = struct_outside text known i name ms k tokens is declared

all_named : (text : List ℕ) (ds : List Declaration) (known : List (List ℕ)) (i j : Interface) (tokens : List Token) → Outside known i → AreDeclarations text i known ds j tokens → IsNamed j
all_named text [] known i j tokens is (same, none) = subst IsNamed same is.named
all_named text (x ∷ ds) known i j tokens is (k, front, back, declared, are, w) =
    all_named text ds (structs_behind known x) k j back (declared_outside text known i x k front is declared) are

-- How many there are.

-- a count that no declaration and no member raises by more than one
record Slow (count : Interface → ℕ) : Type 0 where
  plain : (i : Interface) (x : Declaration) → count (with_plain i x) ≤ suc (count i)
  member : (s : List ℕ) (n : ℕ) (i : Interface) (m : Member) → count (with_member s n i m) ≤ suc (count i)

members_counted : (text : List ℕ) (count : Interface → ℕ) → Slow count → (s : List ℕ) (ms : List Member) (i j : Interface) (names : List (List ℕ)) (tokens : List Token) → AreMembers text s i names ms j tokens → count j ≤ count i + length tokens
members_counted text count slow s [] i j names tokens (same, none) = let k = ap count same in omega (arith, k)
members_counted text count slow s (m ∷ ms) i j names tokens (front, back, stands, are, w) =
    let one = slow.member s (length names) i m in
    let more = members_counted text count slow s ms (with_member s (length names) i m) j (names ++ name_of m ∷ []) back are in
    let some = ap length stands.whole in
    let size : length tokens ≡ length front + length back = ap length w ∙ length-append front back in
    omega (arith, one, more, some, size)

plain_counted : (text : List ℕ) (count : Interface → ℕ) → Slow count → (i k : Interface) (x : Declaration) (tokens : List Token) → Stands text i x tokens → k ≡ with_plain i x → count k ≤ count i + length tokens
plain_counted text count slow i k x tokens stands same =
    let one = slow.plain i x in
    let n = ap count same in
    let some = ap length stands.whole in
    omega (arith, one, n, some)

declared_counted : (text : List ℕ) (count : Interface → ℕ) → Slow count → (known : List (List ℕ)) (i k : Interface) (x : Declaration) (tokens : List Token) → Declares text i known x k tokens → count k ≤ count i + length tokens
declared_counted text count slow known i k (OfReftype name) tokens (stands, same) = plain_counted text count slow i k (OfReftype name) tokens stands same
declared_counted text count slow known i k (OfIterator x) tokens (stands, same) = plain_counted text count slow i k (OfIterator x) tokens stands same
declared_counted text count slow known i k (OfPrototype x) tokens (stands, same) = plain_counted text count slow i k (OfPrototype x) tokens stands same
declared_counted text count slow known i k (OfStruct name ms) tokens is =
    let more = members_counted text count slow name ms i k [] is.body is.members in
    let size : length tokens ≡ length is.front + (length is.body + length is.back) = ap length is.whole ∙ length-append is.front (is.body ++ is.back) ∙ ap (λ n. length is.front + n) (length-append is.body is.back) in
    omega (arith, more, size)

counted : (text : List ℕ) (count : Interface → ℕ) → Slow count → (ds : List Declaration) (known : List (List ℕ)) (i j : Interface) (tokens : List Token) → AreDeclarations text i known ds j tokens → count j ≤ count i + length tokens
counted text count slow [] known i j tokens (same, none) = let k = ap count same in omega (arith, k)
counted text count slow (x ∷ ds) known i j tokens (k, front, back, is, are, w) =
    let one = declared_counted text count slow known i k x front is in
    let more = counted text count slow ds (structs_behind known x) k j back are in
    let size : length tokens ≡ length front + length back = ap length w ∙ length-append front back in
    omega (arith, one, more, size)

reftypes_plain : (i : Interface) (x : Declaration) → length (with_plain i x).reftypes ≤ suc (length i.reftypes)
reftypes_plain i (OfReftype x) = let n = length-append i.reftypes (x ∷ []) in omega (arith, n)
reftypes_plain i (OfIterator x) = omega arith
reftypes_plain i (OfPrototype x) = omega arith
reftypes_plain i (OfStruct name ms) = omega arith

reftypes_member : (s : List ℕ) (n : ℕ) (i : Interface) (m : Member) → length (with_member s n i m).reftypes ≤ suc (length i.reftypes)
reftypes_member s n i (Plain name) = omega arith
reftypes_member s n i (Holds x) = omega arith

iterators_plain : (i : Interface) (x : Declaration) → length (with_plain i x).iterators ≤ suc (length i.iterators)
iterators_plain i (OfReftype x) = omega arith
iterators_plain i (OfIterator x) = let n = length-append i.iterators (x ∷ []) in omega (arith, n)
iterators_plain i (OfPrototype x) = omega arith
iterators_plain i (OfStruct name ms) = omega arith

iterators_member : (s : List ℕ) (n : ℕ) (i : Interface) (m : Member) → length (with_member s n i m).iterators ≤ suc (length i.iterators)
iterators_member s n i (Plain name) = omega arith
iterators_member s n i (Holds x) = omega arith

slots_plain : (i : Interface) (x : Declaration) → length (with_plain i x).slots ≤ suc (length i.slots)
slots_plain i (OfReftype x) = omega arith
slots_plain i (OfIterator x) = omega arith
slots_plain i (OfPrototype x) = omega arith
slots_plain i (OfStruct name ms) = omega arith

slots_member : (s : List ℕ) (n : ℕ) (i : Interface) (m : Member) → length (with_member s n i m).slots ≤ suc (length i.slots)
slots_member s n i (Plain name) = omega arith
slots_member s n i (Holds x) = let k = length-append i.slots (x ∷ []) in omega (arith, k)

fields_plain : (i : Interface) (x : Declaration) → length (with_plain i x).fields ≤ suc (length i.fields)
fields_plain i (OfReftype x) = omega arith
fields_plain i (OfIterator x) = omega arith
fields_plain i (OfPrototype x) = omega arith
fields_plain i (OfStruct name ms) = omega arith

fields_member : (s : List ℕ) (n : ℕ) (i : Interface) (m : Member) → length (with_member s n i m).fields ≤ suc (length i.fields)
fields_member s n i (Plain name) = omega arith
fields_member s n i (Holds x) = let k = length-append i.fields (field_of s n (length (slot_names i)) x.line ∷ []) in omega (arith, k)

exports_plain : (i : Interface) (x : Declaration) → length (with_plain i x).exports ≤ suc (length i.exports)
exports_plain i (OfReftype x) = omega arith
exports_plain i (OfIterator x) = omega arith
exports_plain i (OfPrototype x) = let n = length-append i.exports (x ∷ []) in omega (arith, n)
exports_plain i (OfStruct name ms) = omega arith

exports_member : (s : List ℕ) (n : ℕ) (i : Interface) (m : Member) → length (with_member s n i m).exports ≤ suc (length i.exports)
exports_member s n i (Plain name) = omega arith
exports_member s n i (Holds x) = omega arith

slow : (count : Interface → ℕ) → ((i : Interface) (x : Declaration) → count (with_plain i x) ≤ suc (count i)) → ((s : List ℕ) (n : ℕ) (i : Interface) (m : Member) → count (with_member s n i m) ≤ suc (count i)) → Slow count
slow count p m = record { plain = p; member = m }

-- every interface of the grammar is lawful
pub lawful : (text : List ℕ) (i : Interface) → length text < 2 ^ 32 → ArePrototypes text i → IsLawfulInterface i
lawful text i short is =
    let few = scanned_few rules.Prototype text is.tokens is.scans in
    let size : length is.tokens ≡ length is.head + length is.body = ap length is.whole ∙ length-append is.head is.body in
    let body : length is.body ≤ length is.tokens = omega (arith, size) in
    let start : Outside [] empty = record { named = none_named; fields = All-nil (IsOf []) } in
    record {
      named = all_named text is.declarations [] empty i is.body start is.are;
      numbered = record {
        reftypes = below (length i.reftypes) (length is.body) (length is.tokens) (length text) (2 ^ 32) (counted text (λ j. length j.reftypes) (slow (λ j. length j.reftypes) reftypes_plain reftypes_member) is.declarations [] empty i is.body is.are) body few short;
        iterators = below (length i.iterators) (length is.body) (length is.tokens) (length text) (2 ^ 32) (counted text (λ j. length j.iterators) (slow (λ j. length j.iterators) iterators_plain iterators_member) is.declarations [] empty i is.body is.are) body few short;
        slots = below (length i.slots) (length is.body) (length is.tokens) (length text) (2 ^ 32) (counted text (λ j. length j.slots) (slow (λ j. length j.slots) slots_plain slots_member) is.declarations [] empty i is.body is.are) body few short;
        fields = below (length i.fields) (length is.body) (length is.tokens) (length text) (2 ^ 32) (counted text (λ j. length j.fields) (slow (λ j. length j.fields) fields_plain fields_member) is.declarations [] empty i is.body is.are) body few short;
        exports = below (length i.exports) (length is.body) (length is.tokens) (length text) (2 ^ 32) (counted text (λ j. length j.exports) (slow (λ j. length j.exports) exports_plain exports_member) is.declarations [] empty i is.body is.are) body few short;
      };
    }
