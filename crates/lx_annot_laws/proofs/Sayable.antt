-- Each interface of the grammar has a text that says it.
use Rattle.std.proofs.Common.{ℕ, ◌<◌, List, [], ◌∷◌, subst}
use Rattle.std.proofs.lemmas.List.{length-map}
use Rattle.lx_words.specs.declared.token.Token.{Token}
use Rattle.lx_annot.specs.declared.interface.Interface.{Interface}
use Rattle.lx_annot_expressions.specs.Tokens.{Tok, toks_of}
use Rattle.lx_annot_terms.specs.Signatures.{Signature}
use Rattle.lx_annot_read.specs.declared.head.Version.{Version}
use Rattle.lx_annot_read.specs.Interfaces.{iterator_names, slot_names, export_names, known_in, greatest_index, empty}
use Rattle.lx_annot_laws.specs.Statements.{Statement, OfReftype, OfIterator, OfSlot, OfField, OfExport, IsStruct, IsStatement, with_statement, AreStatements, IsInterface}
use Rattle.lx_annot_laws.proofs.Lawful.{slot_name}
use Rattle.lx_annot_laws.proofs.GrammarNames.{known_there}
use Rattle.lx_annot_laws.specs.Says.{AreLexed}
use Rattle.lx_annot_laws.proofs.Named.{number_within}
use Rattle.lx_annot_laws.specs.Sayable.{IsStructName, IsSayable}
use Rattle.lx_annot_laws.proofs.Lexed.{scanned_lexed, front_lexed, back_lexed, one_lexed, toks_split}
use Rattle.lx_annot_laws.proofs.StructNames.{struct_named}
use Rattle.lx_annot_laws.proofs.SayableParts.{fresh_word, callable_sayable, iterator_sayable, callable_grows, iterator_grows}
use Rattle.lx_annot_laws.proofs.Kept.{uses, of_two, reftype_kept, iterator_kept, slot_kept, field_kept, export_kept, empty_sayable}
use Rattle.lx_annot_laws.proofs.PrototypeLawful.{fresh_here}

struct_said : (name : List ℕ) (ts : List Tok) → AreLexed ts → IsStruct name ts → IsStructName name
struct_said name ts l (t, h, e) = struct_named t.kind t.bytes name h (one_lexed ts t e l)

statement_kept : (v : Version) (i : Interface) (x : Statement) (ts : List Tok) → AreLexed ts → IsSayable i → IsStatement v i x ts → IsSayable (with_statement i x)
statement_kept v i (OfReftype name) ts l s (f, b, word, is, w) =
    reftype_kept i name s (fresh_word i.reftypes name b (back_lexed ts f b w l) is) (fresh_here i.reftypes name b is)
statement_kept v i (OfIterator x) ts l s (f, b, word, (f1, b1, fresh, body, w1), w) =
    let lb = back_lexed ts f b w l in
    let said = iterator_sayable (known_in v i) x b1 (back_lexed b f1 b1 w1 lb) (fresh_word (iterator_names i) x.name f1 (front_lexed b f1 b1 w1 lb) fresh) body in
    iterator_kept i x s (iterator_grows (known_in v i) (uses i) (of_two v i) x said) (fresh_here (iterator_names i) x.name f1 fresh)
statement_kept v i (OfSlot x) ts l s (f, b, word, (f1, b1, fresh, is, w1), w) =
    let sig : Signature = record { ret = x.ret; params = x.params } in
    let lb = back_lexed ts f b w l in
    let said = callable_sayable (known_in v i) x.name sig x.annotation b1 (back_lexed b f1 b1 w1 lb) (fresh_word (slot_names i) x.name f1 (front_lexed b f1 b1 w1 lb) fresh) is in
    slot_kept i x s (callable_grows (known_in v i) (uses i) (of_two v i) x.name sig x.annotation said) (fresh_here (slot_names i) x.name f1 fresh)
statement_kept v i (OfField x) ts l s (f, b, word, (new, (f1, b1, struct, (f2, b2, (t, h, e), (f3, b3, colon, is, w3), w2), w1)), w) =
    let said = struct_said x.name f1 (front_lexed b f1 b1 w1 (back_lexed ts f b w l)) struct in
    let few = (number_within greatest_index t.kind t.bytes x.index h).1 in
    let there = subst (λ m. x.slot < m) (length-map i.slots slot_name) (known_there (slot_names i) x.slot b3 is) in
    field_kept i x s (record { struct = said; index = few; slot = there }) new
statement_kept v i (OfExport x) ts l s (f, b, word, (f1, b1, fresh, is, w1), w) =
    let sig : Signature = record { ret = x.ret; params = x.params } in
    let lb = back_lexed ts f b w l in
    let said = callable_sayable (known_in v i) x.name sig x.annotation b1 (back_lexed b f1 b1 w1 lb) (fresh_word (export_names i) x.name f1 (front_lexed b f1 b1 w1 lb) fresh) is in
    export_kept i x s (callable_grows (known_in v i) (uses i) (of_two v i) x.name sig x.annotation said) (fresh_here (export_names i) x.name f1 fresh)

statements_kept : (text : List ℕ) (v : Version) (i j : Interface) (xs : List Statement) (tokens : List Token) → AreLexed (toks_of text tokens) → IsSayable i → AreStatements text v i xs j tokens → IsSayable j
statements_kept text v i j [] tokens l s (same, none) = subst IsSayable same s
statements_kept text v i j (x ∷ xs) tokens l s (front, back, stands, are, w) =
    let split = toks_split text tokens front back w in
    statements_kept text v (with_statement i x) j xs back (back_lexed (toks_of text tokens) (toks_of text front) (toks_of text back) split l)
    (statement_kept v i x (toks_of text front) (front_lexed (toks_of text tokens) (toks_of text front) (toks_of text back) split l) s stands.is) are

-- the interface that a text is
pub sayable : (text : List ℕ) (i : Interface) → IsInterface text i → IsSayable i
sayable text i is =
    let split = toks_split text is.tokens is.head is.body is.whole in
    let lexed = back_lexed (toks_of text is.tokens) (toks_of text is.head) (toks_of text is.body) split (scanned_lexed text is.tokens is.scans) in
    statements_kept text is.version empty i is.statements is.body lexed empty_sayable is.are
