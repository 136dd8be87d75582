-- What tokens of a text declare can be said again, also where more is known.
use Rattle.std.proofs.Common.{◌≡◌, ℕ, false, Some, List, [], ◌∷◌, ◌++◌, sym, ap, ◌∙◌, subst, append_assoc, codes}
use Rattle.std.proofs.lemmas.List.{append-nil}
use Rattle.std.proofs.lemmas.List.Elements.{All-nil, All-push}
use Rattle.lx_words.specs.declared.token.TokenKind.TheVariants as kinds
use Rattle.lx_words.specs.declared.token.TokenRule.TheVariants as rules
use Rattle.lx_words.specs.declared.token.Lexeme.TheVariants as lexemes
use Rattle.lx_words.specs.Lexemes.{lexeme_of}
use Rattle.lx_annot.specs.declared.action.Annotation.{Annotation}
use Rattle.lx_annot.specs.declared.interface.Parameter.{Parameter}
use Rattle.lx_annot.specs.declared.interface.CapIterator.{CapIterator}
use Rattle.lx_annot_expressions.specs.Tokens.{Tok}
use Rattle.lx_annot_expressions.specs.Exprs.{names_of_params}
use Rattle.lx_annot_terms.specs.Lists.{Known}
use Rattle.lx_annot_terms.specs.Signatures.{Signature, is_reserved}
use Rattle.lx_annot_terms.specs.ItemReading.{scope_of_items}
use Rattle.lx_annot_laws.specs.Parts.{IsFurther, IsParamName, IsParam, IsParams, IsSignature}
use Rattle.lx_annot_laws.specs.Statements.{IsFresh, IsIteratorBody, IsCallable}
use Rattle.lx_annot_laws.proofs.Lawful.{fresh_differs, param_name, differs_more, none_differ}
use Rattle.lx_annot_laws.specs.Says.{IsWord, IsLexed, AreLexed}
use Rattle.lx_annot_laws.specs.Grows.{Grows}
use Rattle.lx_annot_laws.proofs.Named.{fresh_named}
use Rattle.lx_annot_laws.proofs.Grown.{annotation_grows, items_grow}
use Rattle.lx_annot_laws.specs.Sayable.{word_tok, IsParamWord, AreSayableParams, IsSayableCallable, IsSayableIterator}
use Rattle.lx_annot_laws.proofs.Lexed.{front_lexed, back_lexed, one_lexed}

-- Names.

named_word : (t : Tok) (name : List ℕ) → IsLexed t → t.kind ≡ kinds.Word → t.bytes ≡ name → IsWord name
named_word t name is kind bytes = ap (lexeme_of rules.Interface) (sym bytes) ∙ is ∙ ap (λ k. Some (lexemes.Token k)) kind

-- a name that is new is a word, and none of those before
pub fresh_word : (names : List (List ℕ)) (name : List ℕ) (ts : List Tok) → AreLexed ts → IsFresh names name ts → IsWord name
fresh_word names name ts lexed (t, h, e) = let k = fresh_named names t.kind t.bytes name h in named_word t name (one_lexed ts t e lexed) k.0 k.1

-- Parameters.

-- a parameter behind others
pub param_more : (before : List Parameter) (p : Parameter) (ts : List Tok) → AreLexed ts → AreSayableParams before → IsParamName (names_of_params before) p.name ts → AreSayableParams (before ++ p ∷ [])
param_more before p ts lexed s (t, r, h, e) =
    let k = fresh_named (names_of_params before) t.kind t.bytes p.name h in
    let word : IsParamWord p.name = record { word = named_word t p.name (one_lexed ts t e lexed) k.0 k.1; free = subst (λ n. is_reserved (word_tok n ∷ []) ≡ false) k.1 r } in
    record {
      words = All-push (λ (q : Parameter). IsParamWord q.name) before p s.words word;
      differ = differs_more param_name before p s.differ (fresh_differs (names_of_params before) t.kind t.bytes p.name h);
    }

pub no_params : AreSayableParams []
no_params = record { words = All-nil (λ (q : Parameter). IsParamWord q.name); differ = none_differ }

params_more : (before ps : List Parameter) (ts : List Tok) → AreLexed ts → AreSayableParams before → IsFurther (codes ",") IsParam before ps ts → AreSayableParams (before ++ ps)
params_more before [] ts l s e = subst AreSayableParams (sym (append-nil before)) s
params_more before (p ∷ ps) ts l s (f, b, comma, (f1, b1, (f2, b2, ty, name, w2), more, w1), w) =
    let lb = back_lexed ts f b w l in
    let lf1 = front_lexed b f1 b1 w1 lb in
    subst AreSayableParams (append_assoc before (p ∷ []) ps)
    (params_more (before ++ p ∷ []) ps b1 (back_lexed b f1 b1 w1 lb) (param_more before p b2 (back_lexed f1 f2 b2 w2 lf1) s name) more)

params_sayable : (ps : List Parameter) (ts : List Tok) → AreLexed ts → IsParams ps ts → AreSayableParams ps
params_sayable [] ts l e = no_params
params_sayable (p ∷ ps) ts l (f, b, (f1, b1, ty, name, w1), more, w) =
    let lf = front_lexed ts f b w l in
    params_more (p ∷ []) ps b (back_lexed ts f b w l) (param_more [] p b1 (back_lexed f f1 b1 w1 lf) no_params name) more

signature_sayable : (sig : Signature) (ts : List Tok) → AreLexed ts → IsSignature sig ts → AreSayableParams sig.params
signature_sayable sig ts l (a, b, colon, (c, d, t, (e, f, round, (g, h, is, close, w3), w2), w1), w) =
    params_sayable sig.params g (front_lexed f g h w3 (back_lexed d e f w2 (back_lexed b c d w1 (back_lexed ts a b w l)))) is

-- Slots, exports and iterators.

pub callable_sayable : (known : Known) (name : List ℕ) (sig : Signature) (a : Annotation) (ts : List Tok) → AreLexed ts → IsWord name → IsCallable known sig a ts → IsSayableCallable known name sig a
callable_sayable known name sig a ts l word (f, b, is, says, w) =
    record { word = word; params = signature_sayable sig f (front_lexed ts f b w l) is; annotation = (b, back_lexed ts f b w l, says) }

pub iterator_sayable : (known : Known) (x : CapIterator) (ts : List Tok) → AreLexed ts → IsWord x.name → IsIteratorBody known x.items ts → IsSayableIterator known x
iterator_sayable known x ts l word (p, (f, b, round, (f1, b1, name, (f2, b2, close, (f3, b3, brace, (f4, b4, is, end, w4), w3), w2), w1), w)) =
    let there = front_lexed b3 f4 b4 w4 (back_lexed b2 f3 b3 w3 (back_lexed b1 f2 b2 w2 (back_lexed b f1 b1 w1 (back_lexed ts f b w l)))) in
    record { word = word; param = p; items = (f4, there, is) }

-- Where more is known.

pub callable_grows : (a b : Known) → Grows a b → (name : List ℕ) (sig : Signature) (x : Annotation) → IsSayableCallable a name sig x → IsSayableCallable b name sig x
callable_grows a b grows name sig x s =
    record { word = s.word; params = s.params; annotation = (s.annotation.0, s.annotation.1, annotation_grows a b sig x s.annotation.0 grows s.annotation.2) }

pub iterator_grows : (a b : Known) → Grows a b → (x : CapIterator) → IsSayableIterator a x → IsSayableIterator b x
iterator_grows a b grows x s =
    record { word = s.word; param = s.param; items = (s.items.0, s.items.1, items_grow a b (scope_of_items s.param) x.items s.items.0 grows s.items.2) }
