-- Whole texts with their names given anew.
use Rattle.std.proofs.Common.{◌≡◌, ℕ, ◌≤◌, true, List, [], ◌∷◌, ◌++◌, map, length, codes, refl, sym, ap, subst, ◌∙◌}
use Rattle.std.proofs.lemmas.List.{map-append, length-map}
use Rattle.lx_words.specs.declared.token.Token.{Token}
use Rattle.lx_words.specs.declared.token.TokenRule.TheVariants as rules
use Rattle.lx_words.specs.declared.token.TokenKind.{TokenKind}
use Rattle.lx_words.specs.declared.token.TokenKind.TheVariants as kinds
use Rattle.lx_words.specs.Cuts.{OneWay}
use Rattle.lx_annot.specs.declared.interface.Slot.{Slot}
use Rattle.lx_annot.specs.declared.interface.Export.{Export}
use Rattle.lx_annot.specs.declared.interface.Interface.{Interface}
use Rattle.lx_annot.specs.declared.action.Annotation.{Annotation}
use Rattle.lx_annot.specs.Canonical.{Text, canonical}
use Rattle.lx_annot_expressions.specs.Tokens.{Tok, tok_of, toks_of, most_tokens}
use Rattle.lx_annot_read.specs.declared.head.Version.{Version}
use Rattle.lx_annot_read.specs.declared.head.Version.TheVariants as versions
use Rattle.lx_annot_read.specs.Head.{may_lend}
use Rattle.lx_annot_read.specs.Interfaces.{empty, iterator_names}
use Rattle.lx_annot_laws.specs.Statements.{Statement, Stands, AreStatements, IsHead, IsInterface, IsStatement, with_statement, number_of_version}
use Rattle.lx_annot_laws.specs.GrammarLaws.{OneInterface}
use Rattle.lx_annot_laws.specs.Renaming.{is_language, IsRenaming, IsRenamed, HaveSameTokens, said, renamed}
use Rattle.lx_annot_laws.specs.Anew.{unlined_slot, unlined_export, anew_slot, anew_export, IsAnew, KeepsListNames, HaveSameTexts}
use Rattle.lx_annot_laws.proofs.RenamedTerms.{cut, word}
use Rattle.lx_annot_laws.proofs.RenamedStatements.{seen, again, in_line, iterators_named, grown_anew, statement_anew}
use Rattle.lx_annot_laws.proofs.SameText.{text_same}

-- What maps to two lists, one behind the other, falls into two.
record Fallen {A B : Type 0} (f : A → B) (all : List A) (a b : List B) : Type 0 where
  front : List A
  back : List A
  whole : all ≡ front ++ back
  first : map f front ≡ a
  second : map f back ≡ b

fall : {A B : Type 0} (f : A → B) (all : List A) (a b : List B) → map f all ≡ a ++ b → Fallen f all a b
fall f all [] b e = record { front = []; back = all; whole = refl; first = refl; second = e }
fall f [] (x ∷ a) b e = cc
fall f (t ∷ all) (x ∷ a) b e =
    let head : f t ≡ x = cc in
    let rest : map f all ≡ a ++ b = cc in
    let more = fall f all a b rest in
    record {
      front = t ∷ more.front;
      back = more.back;
      whole = ap (λ ts. t ∷ ts) more.whole;
      first = ap (λ y. y ∷ map f more.front) head ∙ ap (λ ys. x ∷ ys) more.first;
      second = more.second;
    }

none_from : {A B : Type 0} (f : A → B) (xs : List A) → map f xs ≡ [] → xs ≡ []
none_from f [] e = refl
none_from f (x ∷ xs) e = cc

-- the number of a version is of its language
number_kept : (v : Version) → is_language (may_lend v) (number_of_version v) ≡ true
number_kept versions.One = refl
number_kept versions.Two = refl

module _ (r : List ℕ → List ℕ) (v : Version) (is : IsRenaming (may_lend v) r) (x y : List ℕ) where
  abbrev S : List Tok → List Tok
  S ts = map (renamed r) ts

  stands_anew : (i j : Interface) → IsAnew r i j → (s : Statement) (front others : List Token) → toks_of y others ≡ S (toks_of x front) → Stands x v i s front → (line : ℕ) × Stands y v j (again r line s) others
  stands_anew i j anew s front [] e stands = let none : S (toks_of x (stands.first ∷ stands.more)) ≡ [] = ap (λ ts. S (toks_of x ts)) (sym stands.whole) ∙ sym e in cc
  stands_anew i j anew s front (t ∷ ts) e stands =
      let long : length (t ∷ ts) ≡ length front = sym (length-map (t ∷ ts) (tok_of y)) ∙ ap length e ∙ length-map (toks_of x front) (renamed r) ∙ length-map front (tok_of x) in (
        t.line,
        record {
          first = t;
          more = ts;
          whole = refl;
          short = subst (λ n. n ≤ most_tokens) (sym long) stands.short;
          line = in_line r t.line s;
          is = subst (IsStatement v j (again r t.line s)) (sym e) (statement_anew r i j anew v is t.line s (toks_of x front) stands.is);
        },
      )

  statements_anew : (i j : Interface) → IsAnew r i j → (ss : List Statement) (last : Interface) (tokens others : List Token) → toks_of y others ≡ S (toks_of x tokens) → AreStatements x v i ss last tokens →
      (us : List Statement) × (final : Interface) × AreStatements y v j us final others × IsAnew r last final
  statements_anew i j anew [] last tokens others e (same, none) =
      ([], j, (refl, none_from (tok_of y) others (e ∙ ap (λ ts. S (toks_of x ts)) none)), subst (λ k. IsAnew r k j) same anew)
  statements_anew i j anew (s ∷ ss) last tokens others e (front, back, stands, more, whole) =
      let fallen = fall (tok_of y) others (S (toks_of x front)) (S (toks_of x back)) (e ∙ ap (λ ts. S (toks_of x ts)) whole ∙ ap S (map-append (tok_of x) front back) ∙ map-append (renamed r) (toks_of x front) (toks_of x back)) in
      let one = stands_anew i j anew s front fallen.front fallen.first stands in
      let rest = statements_anew (with_statement i s) (with_statement j (again r one.0 s)) (grown_anew r i j anew one.0 s) ss last back fallen.back fallen.second more in
      (again r one.0 s ∷ rest.0, rest.1, (fallen.front, fallen.back, one.1, rest.2, fallen.whole), rest.3)

  head_anew : (ts : List Tok) → IsHead v ts → IsHead v (S ts)
  head_anew ts (a, b, w, n, e) = (S a, S b, word r is (codes "interface") refl a w, word r is (number_of_version v) (number_kept v) b n, cut r is ts a b e)

pub interface_anew : (r : List ℕ → List ℕ) (x y : List ℕ) → OneWay rules.Interface x → IsRenamed r x y → (i : Interface) (h : IsInterface x i) → IsRenaming (may_lend h.version) r → (j : Interface) × IsInterface y j × IsAnew r i j
interface_anew r x y one names i h is =
    let tokens : h.tokens ≡ names.tokens = one.whole h.tokens names.tokens h.scans names.scans in
    let fallen = fall (tok_of y) names.others (map (renamed r) (toks_of x h.head)) (map (renamed r) (toks_of x h.body)) (names.same ∙ ap (λ ts. map (renamed r) (toks_of x ts)) (sym tokens ∙ h.whole) ∙ ap (map (renamed r)) (map-append (tok_of x) h.head h.body) ∙ map-append (renamed r) (toks_of x h.head) (toks_of x h.body)) in
    let nothing : IsAnew r empty empty = record { reftypes = refl; iterators = refl; slots = refl; fields = refl; exports = refl } in
    let all = statements_anew r h.version is x y empty empty nothing h.statements i h.body fallen.back fallen.second h.are in (
      all.1,
      record {
        version = h.version;
        tokens = names.others;
        scans = names.other_scans;
        head = fallen.front;
        body = fallen.back;
        whole = fallen.whole;
        begins = subst (IsHead h.version) (sym fallen.first) (head_anew r h.version is x y (toks_of x h.head) h.begins);
        statements = all.0;
        are = all.2;
      },
      all.3,
    )

-- Canonical texts of interfaces with names given anew.
texts_anew : (r : List ℕ → List ℕ) (i j : Interface) → IsAnew r i j → KeepsListNames r i → HaveSameTexts i j
texts_anew r i j anew keeps =
    let text = text_same i j (anew.reftypes ∙ keeps.reftypes) (iterators_named r i j anew ∙ keeps.iterators) in
    record {
      slots = seen unlined_slot (anew_slot r) (λ (s : Slot). canonical j s.annotation) i.slots j.slots anew.slots ∙ ap (λ (f : Annotation → Text). map (λ (s : Slot). f s.annotation) i.slots) (λ k a. text a k);
      exports = seen unlined_export (anew_export r) (λ (e : Export). canonical j e.annotation) i.exports j.exports anew.exports ∙ ap (λ (f : Annotation → Text). map (λ (e : Export). f e.annotation) i.exports) (λ k a. text a k);
    }

pub names_same : (r : List ℕ → List ℕ) (x y : List ℕ) (i j : Interface) → OneWay rules.Interface x → OneInterface → (h : IsInterface x i) → IsRenaming (may_lend h.version) r → IsRenamed r x y → IsInterface y j → KeepsListNames r i → HaveSameTexts i j
names_same r x y i j way one h is names k keeps =
    let found = interface_anew r x y way names i h is in
    texts_anew r i j (subst (λ z. IsAnew r i z) (one y found.0 j found.1 k) found.2) keeps

-- The renaming that keeps all names.

kind_kept : (kind : TokenKind) (bytes : List ℕ) → said (λ name. name) kind bytes ≡ bytes
kind_kept kinds.Word bytes = refl
kind_kept kinds.Local bytes = refl
kind_kept kinds.Global bytes = refl
kind_kept kinds.Number bytes = refl
kind_kept kinds.Text bytes = refl
kind_kept kinds.Bytes bytes = refl
kind_kept kinds.Mark bytes = refl

said_kept : (t : Tok) → renamed (λ name. name) t ≡ t
said_kept t = λ j. record { kind = t.kind; bytes = kind_kept t.kind t.bytes j }

map_kept : {A : Type 0} (xs : List A) → map (λ x. x) xs ≡ xs
map_kept [] = refl
map_kept (x ∷ xs) = ap (λ ys. x ∷ ys) (map_kept xs)

toks_kept : (ts : List Tok) → map (renamed (λ name. name)) ts ≡ ts
toks_kept ts = ap (λ f. map f ts) (λ j t. said_kept t j) ∙ map_kept ts

pub spaces_same : (x y : List ℕ) (i j : Interface) → OneWay rules.Interface x → OneInterface → HaveSameTokens x y → IsInterface x i → IsInterface y j → HaveSameTexts i j
spaces_same x y i j way one same h k =
    names_same (λ name. name) x y i j way one h
    (record { keeps = λ text l. refl; apart = λ a b e. e })
    (record { tokens = same.tokens; others = same.others; scans = same.scans; other_scans = same.other_scans; same = same.same ∙ sym (toks_kept (toks_of x same.tokens)) })
    k (record { reftypes = map_kept i.reftypes; iterators = map_kept (iterator_names i) })
