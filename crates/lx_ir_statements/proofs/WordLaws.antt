-- Words in the heads of statements: what is in the grammar is passed over, and what is passed over is in the grammar.
use Rattle.std.proofs.Common.{◌≡◌, ℕ, zero, suc, ◌≤◌, ◌<◌, Bool, true, false, Option, Some, List, [], ◌∷◌, ◌++◌, length, Ok, ◌⊎◌, inl, inr, refl, sym, ap, ◌∙◌, subst, append_assoc, arith}
use Rattle.std.specs.Prelude.{◌||◌}
use Rattle.lx_ir_tokens.specs.declared.token.Tok.{Tok}
use Rattle.lx_ir_tokens.specs.declared.token.Kind.{Kind}
use Rattle.lx_ir_tokens.specs.declared.token.Kind.TheVariants as kinds
use Rattle.lx_ir_tokens.specs.declared.token.Mark.TheVariants.{Hash}
use Rattle.lx_ir_tokens.specs.declared.keyword.Keyword.TheVariants as keywords
use Rattle.lx_ir.specs.declared.types.Scalar.{Scalar}
use Rattle.lx_ir_terms.specs.Reading.{Read, ◌>>=◌, has, is_mark, pick_at}
use Rattle.lx_ir_terms.specs.Types.{result_in}
use Rattle.lx_ir_terms.specs.Words.{is_passed, passed_at, word_of_kind, tail_at, word_refusal, passed_result_at}
use Rattle.lx_ir_terms.specs.Grammar.{Part, Picks}
use Rattle.lx_ir_terms.specs.Laws.{Reads, Finds}
use Rattle.lx_ir_terms.proofs.Marks.{mark_is}
use Rattle.lx_ir_terms.proofs.Parts.{pick_reads, pick_finds, bind_ok, ok_same}
use Rattle.lx_ir_operands.specs.Steps.{one_attribute_at}
use Rattle.lx_ir_operands.specs.Grammar.{Repeated, is_kind, IsPassed, IsAttribute}
use Rattle.lx_ir_operands.proofs.Repeats.{GoesOver, times_again, Front, StepFinds, steps_found}
use Rattle.lx_ir_operands.proofs.PassedLaws.{Anything, one_word, over_word, words_are_steps, word_found}
use Rattle.lx_ir_operands.proofs.AttributeLaws.{one_attribute, attribute_step}
use Rattle.lx_ir_statements.specs.Words.{is_linkage_word, is_any_word, is_import_word, has_import_attribute, import_attributes_at, has_function_attribute, function_attributes_at}
use Rattle.lx_ir_statements.specs.HeadGrammar.{IsResultWord, IsResult}

-- Results.

-- a word before a result, and what stands behind it
record OneResultWord (ts : List Tok) : Type 0 where
  token : Tok
  rest : List Tok
  whole : ts ≡ token ∷ rest
  passed : is_passed true token.kind ≡ true
  tail : (us : List Tok) → tail_at (word_of_kind token.kind) (rest ++ us) ≡ Ok (tt, us)

linkage_is : (k : Kind) → is_linkage_word k ≡ true → k ≡ kinds.Word keywords.Linkage
linkage_is (kinds.Word keywords.Linkage) e = refl
linkage_is k e = cc

result_word : (ts : List Tok) → IsResultWord ts → OneResultWord ts
result_word ts (inl (t, k, e)) = record { token = t; rest = []; whole = e; passed = rw (linkage_is t.kind k) refl; tail = λ us. rw (linkage_is t.kind k) refl }
result_word ts (inr p) = let o = one_word ts p in record { token = o.token; rest = o.rest; whole = o.whole; passed = o.passed true; tail = o.tail }

over_results : GoesOver (has (is_passed true)) over_word IsResultWord Anything
over_results =
    record {
      filled = λ ts q. (let o = result_word ts q in let size : length ts ≡ suc (length o.rest) = ap length o.whole in omega (arith, size));
      goes = λ ts us q b. (let o = result_word ts q in rw o.whole o.passed);
      reads = λ ts us q b. (let o = result_word ts q in rw o.whole (o.tail us));
      keeps = λ ts us q b. tt;
    }

result_words_again : (ts us : List Tok) → has (is_passed true) us ≡ false → Repeated IsResultWord ts → passed_at true (ts ++ us) ≡ Ok (tt, us)
result_words_again ts us h (n, m) =
    words_are_steps true (length (ts ++ us)) (ts ++ us)
    ∙ times_again (has (is_passed true)) over_word IsResultWord Anything over_results n (length (ts ++ us)) ts us m tt (omega arith) h

passed_word : (t : Tok) (k : Kind) (ts us : List Tok) (x : Unit {0}) → t.kind ≡ k → is_passed false k ≡ true → tail_at (word_of_kind k) ts ≡ Ok (x, us) → Front IsResultWord (t ∷ ts) us
passed_word t k ts us x g h e = let w = word_found t k ts us x g h e in (w.0, inr w.1, w.2)

result_word_found : (t : Tok) (k : Kind) (ts us : List Tok) (x : Unit {0}) → t.kind ≡ k → is_passed true k ≡ true → tail_at (word_of_kind k) ts ≡ Ok (x, us) → Front IsResultWord (t ∷ ts) us
result_word_found t (kinds.Word keywords.Linkage) ts us x g h e = (t ∷ [], inl (t, rw g refl, refl), ap (λ r. t ∷ r) (ok_same tt x ts us e).1)
result_word_found t (kinds.Word keywords.Parameter) ts us x g h e = passed_word t (kinds.Word keywords.Parameter) ts us x g refl e
result_word_found t (kinds.Word keywords.Align) ts us x g h e = passed_word t (kinds.Word keywords.Align) ts us x g refl e
result_word_found t (kinds.Word keywords.Dereferenceable) ts us x g h e = passed_word t (kinds.Word keywords.Dereferenceable) ts us x g refl e
result_word_found t (kinds.Word keywords.Captures) ts us x g h e = passed_word t (kinds.Word keywords.Captures) ts us x g refl e
result_word_found t k ts us x g h e = cc

result_word_finds : StepFinds (has (is_passed true)) over_word IsResultWord
result_word_finds [] us x h e = cc
result_word_finds (t ∷ ts) us x h e = result_word_found t t.kind ts us x refl h e

result_words_found : Finds (passed_at true) (λ x. Repeated IsResultWord)
result_words_found ts us x e = steps_found (has (is_passed true)) over_word IsResultWord result_word_finds (length ts) ts us x (sym (words_are_steps true (length ts) ts) ∙ e)

result_no_word : (k : Kind) (ret : Option Scalar) → result_in k ≡ Some ret → is_passed true k ≡ false
result_no_word (kinds.Word (keywords.Scalar w)) ret e = refl
result_no_word (kinds.Word keywords.Void) ret e = refl
result_no_word k ret e = cc

pub result_reads : (ret : Option Scalar) → Reads (passed_result_at true) ret (IsResult ret)
result_reads ret ts us (f, b, w, (t, e, g), z) =
    let whole : ts ++ us ≡ f ++ (t ∷ us) = rw (z, g) (append_assoc f (t ∷ []) us) in
    let over = result_words_again f (t ∷ us) (result_no_word t.kind ret e) w in
    rw (whole, over, e) refl

pub result_finds : Finds (passed_result_at true) IsResult
result_finds ts us ret e =
    let a = bind_ok (passed_at true ts) (λ w. pick_at (λ t. result_in t.kind) word_refusal w.1) (ret, us) e in
    let w = result_words_found ts a.0.1 a.0.0 a.1 in
    let r = pick_finds (λ t. result_in t.kind) word_refusal a.0.1 us ret a.2 in
    (w.0 ++ r.0, (w.0, r.0, w.1, r.1, refl), w.2 ∙ ap (λ z. w.0 ++ z) r.2 ∙ sym (append_assoc w.0 r.0 us))

-- Words behind parentheses.

-- a kind that stands behind the parentheses of an import and of a function
abbrev Goes : Kind → Type 0
Goes k = ((is_mark Hash k || is_import_word k) ≡ true) × ((is_mark Hash k || is_any_word k) ≡ true)

group_goes : (k : Kind) → is_mark Hash k ≡ true → Goes k
group_goes k e = (rw e refl, rw e refl)

plain_goes : (k : Kind) → is_kind keywords.Attribute k ≡ true → Goes k
plain_goes (kinds.Word keywords.Attribute) e = (refl, refl)
plain_goes k e = cc

align_goes : (k : Kind) → is_kind keywords.Align k ≡ true → Goes k
align_goes (kinds.Word keywords.Align) e = (refl, refl)
align_goes k e = cc

section_goes : (k : Kind) → is_kind keywords.Section k ≡ true → Goes k
section_goes (kinds.Word keywords.Section) e = (refl, refl)
section_goes k e = cc

abbrev BothGo : List Tok → Type 0
BothGo ts = (has_import_attribute ts ≡ true) × (has_function_attribute ts ≡ true)

first_goes : (t : Tok) (f b ts us : List Tok) → Goes t.kind → f ≡ t ∷ [] → ts ≡ f ++ b → BothGo (ts ++ us)
first_goes t f b ts us g e w = (rw (w, e) g.0, rw (w, e) g.1)

attribute_goes : (ts us : List Tok) → IsAttribute ts → BothGo (ts ++ us)
attribute_goes ts us (inl (f, b, (t, k, e), c, w)) = first_goes t f b ts us (group_goes t.kind k) e w
attribute_goes ts us (inr (inl (t, k, e))) = let g = plain_goes t.kind k in (rw e g.0, rw e g.1)
attribute_goes ts us (inr (inr (inl (f, b, (t, k, e), c, w)))) = first_goes t f b ts us (align_goes t.kind k) e w
attribute_goes ts us (inr (inr (inr (f, b, (t, k, e), c, w)))) = first_goes t f b ts us (section_goes t.kind k) e w

over_imports : GoesOver has_import_attribute one_attribute_at IsAttribute Anything
over_imports =
    record {
      filled = λ ts q. (let o = one_attribute ts q in let size : length ts ≡ suc (length o.rest) = ap length o.whole in omega (arith, size));
      goes = λ ts us q b. (attribute_goes ts us q).0;
      reads = λ ts us q b. (let o = one_attribute ts q in rw o.whole (o.reads us));
      keeps = λ ts us q b. tt;
    }

over_functions : GoesOver has_function_attribute one_attribute_at IsAttribute Anything
over_functions =
    record {
      filled = λ ts q. (let o = one_attribute ts q in let size : length ts ≡ suc (length o.rest) = ap length o.whole in omega (arith, size));
      goes = λ ts us q b. (attribute_goes ts us q).1;
      reads = λ ts us q b. (let o = one_attribute ts q in rw o.whole (o.reads us));
      keeps = λ ts us q b. tt;
    }

pub import_attributes_again : (x : Unit {0}) (ts us : List Tok) → has_import_attribute us ≡ false → Repeated IsAttribute ts → import_attributes_at (ts ++ us) ≡ Ok (x, us)
import_attributes_again x ts us h (n, m) = times_again has_import_attribute one_attribute_at IsAttribute Anything over_imports n (length (ts ++ us)) ts us m tt (omega arith) h

pub import_attributes_found : Finds import_attributes_at (λ x. Repeated IsAttribute)
import_attributes_found ts us x e =
    steps_found has_import_attribute one_attribute_at IsAttribute (λ ws vs y h i. attribute_step (has (is_mark Hash) ws) ws vs y refl i) (length ts) ts us x e

pub function_attributes_again : (x : Unit {0}) (ts us : List Tok) → has_function_attribute us ≡ false → Repeated IsAttribute ts → function_attributes_at (ts ++ us) ≡ Ok (x, us)
function_attributes_again x ts us h (n, m) = times_again has_function_attribute one_attribute_at IsAttribute Anything over_functions n (length (ts ++ us)) ts us m tt (omega arith) h

pub function_attributes_found : Finds function_attributes_at (λ x. Repeated IsAttribute)
function_attributes_found ts us x e =
    steps_found has_function_attribute one_attribute_at IsAttribute (λ ws vs y h i. attribute_step (has (is_mark Hash) ws) ws vs y refl i) (length ts) ts us x e
