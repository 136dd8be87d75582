-- The table of nodes stays right as nodes are written, linked and taken out.
use Rattle.std.proofs.Common.{◌≡◌, ◌≢◌, ℕ, ◌<◌, true, false, ◌&&◌, ◌||◌, nat_eq, cond, List, [], ◌∷◌, ◌++◌, length, map, set, Option, Some, None, refl, sym, ap, ◌∙◌, subst, arith, eqb-true}
use Rattle.std.specs.Prelude.{IfNone, IfSome, suc, zero}
use Rattle.std.proofs.lemmas.Bool.Decides.{nat_tests}
use Rattle.std.proofs.lemmas.Bool.{or_from}
use Rattle.std.proofs.lemmas.List.{get_or-set_same, get_or-set_other}
use Rattle.lx_words.proofs.Tests.{none_left, none_right, or_other}
use Rattle.std.proofs.Math.ListN as listn
use Rattle.lx_cap_nodes.specs.declared.pool.Family.TheVariants as family
use Rattle.lx_cap_nodes.specs.Names.{has}
use Rattle.lx_cap_nodes.specs.Pool.{Pool}
use Rattle.lx_cap_nodes.specs.Words.{names, nodes_at, value_in, with_value, without, PoolLaws}
use Rattle.lx_cap_lists.specs.declared.entry.Entry.{Entry}
use Rattle.lx_cap_lists.specs.declared.holder.Holder.{Holder}
use Rattle.lx_cap_lists.specs.Entries.{is_holder, with_mask}
use Rattle.lx_cap_lists.specs.Holders.{same_holder}
use Rattle.lx_cap_lists.specs.Index.{HolderKey, key_at, node_at, node_in, node_once, same_holder_key, AreOfDifferent, IsIndexed}
use Rattle.lx_cap_lists.specs.Walks.{StandsAt}
use Rattle.lx_cap_lists.proofs.BitLemmas.{same_is}
use Rattle.lx_cap_lists.proofs.HolderKeys.{holder_key_is, holder_turned, key_test}
use Rattle.lx_cap_lists.proofs.TakenLemmas.{same_some}

-- the node that is found is of the holder, and where none is found the holder has none
node_none : (q : Holder) (es : List (ℕ × Entry)) → is_holder q es ≡ false → node_in q es ≡ None
node_none q [] h = refl
node_none q (e ∷ es) h =
    ap (λ t. cond t (Some e.0) (node_in q es)) (none_left (same_holder q e.1.holder) (is_holder q es) h) ∙ node_none q es (none_right (same_holder q e.1.holder) (is_holder q es) h)

none_there : (q : Holder) (es : List (ℕ × Entry)) → node_in q es ≡ None → is_holder q es ≡ false
none_there q [] h = refl
none_there q (e ∷ es) h =
    (elim (same_holder q e.1.holder) as (λ t. cond t (Some e.0) (node_in q es) ≡ None → (t || is_holder q es) ≡ false) [
      | true ↦ λ f. absurd (cc)
      | false ↦ λ f. none_there q es f
    ]) h

stands : (q : Holder) (es : List (ℕ × Entry)) (n : ℕ) → node_in q es ≡ Some n → StandsAt es n (λ e. same_holder q e.holder ≡ true)
stands q [] n h = absurd (cc)
stands q (e ∷ es) n h =
    (elim (same_holder q e.1.holder) as (λ t. same_holder q e.1.holder ≡ t → cond t (Some e.0) (node_in q es) ≡ Some n → StandsAt (e ∷ es) n (λ v. same_holder q v.holder ≡ true)) [
      | true ↦ λ f g. let same : e.0 ≡ n = cc in record { front = []; v = e.1; behind = es; is = ap (λ k. (k, e.1) ∷ es) same; such = f }
      | false ↦ λ f g. let r = stands q es n g in record { front = e ∷ r.front; v = r.v; behind = r.behind; is = ap (λ ys. e ∷ ys) r.is; such = r.such }
    ]) refl h

pub found_is : (q : Holder) (es : List (ℕ × Entry)) (o : Option ℕ) → o ≡ node_in q es → IfSome o (λ n. StandsAt es n (λ e. same_holder q e.holder ≡ true))
found_is q es None h = tt
found_is q es (Some n) h = stands q es n (sym h)

pub none_is : (q : Holder) (es : List (ℕ × Entry)) (o : Option ℕ) → o ≡ node_in q es → IfNone o (is_holder q es ≡ false)
none_is q es None h = none_there q es (sym h)
none_is q es (Some n) h = tt

-- another value of the same holder
module _ (n : ℕ) (v w : Entry) (same : w.holder ≡ v.holder) where
  abbrev Only : List (ℕ × Entry) → Type 0
  Only es = (xs : List (ℕ × Entry)) (u : Entry) (ys : List (ℕ × Entry)) → es ≡ xs ++ (n, u) ∷ ys → u ≡ v

  only_rest : (e : ℕ × Entry) (es : List (ℕ × Entry)) → Only (e ∷ es) → Only es
  only_rest e es is = λ xs u ys at. is (e ∷ xs) u ys (ap (λ r. e ∷ r) at)

  holder_here : (e : ℕ × Entry) (es : List (ℕ × Entry)) → Only (e ∷ es) → n ≡ e.0 → w.holder ≡ e.1.holder
  holder_here e es is at = same ∙ ap (λ (x : Entry). x.holder) (sym (is [] e.1 es (ap (λ j. (j, e.1) ∷ es) (sym at))))

  node_with : (q : Holder) (es : List (ℕ × Entry)) → Only es → node_in q (with_value n w es) ≡ node_in q es
  node_with q [] is = refl
  node_with q (e ∷ es) is =
      let rest = node_with q es (only_rest e es is) in
      (elim (nat_eq n e.0) as (λ t. nat_eq n e.0 ≡ t → node_in q (cond t ((n, w) ∷ with_value n w es) (e ∷ with_value n w es)) ≡ node_in q (e ∷ es)) [
        | true ↦ λ f. let at = eqb-true n e.0 f in let h = holder_here e es is at in λ i. cond (same_holder q (h i)) (Some (at i)) (rest i)
        | false ↦ λ f. ap (λ r. cond (same_holder q e.1.holder) (Some e.0) r) rest
      ]) refl

  holder_with : (q : Holder) (es : List (ℕ × Entry)) → Only es → is_holder q (with_value n w es) ≡ is_holder q es
  holder_with q [] is = refl
  holder_with q (e ∷ es) is =
      let rest = holder_with q es (only_rest e es is) in
      (elim (nat_eq n e.0) as (λ t. nat_eq n e.0 ≡ t → is_holder q (cond t ((n, w) ∷ with_value n w es) (e ∷ with_value n w es)) ≡ is_holder q (e ∷ es)) [
        | true ↦ λ f. let h = holder_here e es is (eqb-true n e.0 f) in λ i. same_holder q (h i) || rest i
        | false ↦ λ f. ap (λ r. same_holder q e.1.holder || r) rest
      ]) refl

  different_with : (es : List (ℕ × Entry)) → Only es → AreOfDifferent es → AreOfDifferent (with_value n w es)
  different_with [] is d = tt
  different_with (e ∷ es) is d =
      let rest = different_with es (only_rest e es is) d.1 in
      let none = holder_with e.1.holder es (only_rest e es is) ∙ d.0 in
      (elim (nat_eq n e.0) as (λ t. nat_eq n e.0 ≡ t → AreOfDifferent (cond t ((n, w) ∷ with_value n w es) (e ∷ with_value n w es))) [
        | true ↦ λ f. (ap (λ q. is_holder q (with_value n w es)) (holder_here e es is (eqb-true n e.0 f)) ∙ none, rest)
        | false ↦ λ f. (none, rest)
      ]) refl

pub indexed_with : (pool : Pool Entry) (n : ℕ) (v : Entry) (m : ℕ) (entries : List (HolderKey × ℕ)) → PoolLaws pool → value_in n pool.places ≡ Some v → IsIndexed pool.places entries
    → IsIndexed (map (with_value n (with_mask v m)) pool.places) entries
indexed_with pool n v m entries laws at ix =
    let w = with_mask v m in
    let only = λ (l : ℕ) (xs : List (ℕ × Entry)) (u : Entry) (ys : List (ℕ × Entry)) (is : nodes_at pool.places l ≡ xs ++ (n, u) ∷ ys). same_some u v (value_in n pool.places) (laws.at_node family.Place l xs n u ys is).value at in
    record {
      finds = λ l q. ix.finds l q ∙ sym (ap (node_in q) (listn.get_or-map (with_value n w) pool.places l []) ∙ node_with n v w refl q (nodes_at pool.places l) (only l));
      different = λ l. subst AreOfDifferent (sym (listn.get_or-map (with_value n w) pool.places l [])) (different_with n v w refl (nodes_at pool.places l) (only l) (ix.different l));
      only = ix.only;
    }

-- lists that show the same
pub indexed_same : (old new : List (List (ℕ × Entry))) (entries : List (HolderKey × ℕ)) → ((l : ℕ) → nodes_at new l ≡ nodes_at old l) → IsIndexed old entries → IsIndexed new entries
indexed_same old new entries same ix = record {
  finds = λ l q. ix.finds l q ∙ ap (node_in q) (sym (same l));
  different = λ l. subst AreOfDifferent (sym (same l)) (ix.different l);
  only = ix.only;
}

nodes_added : (lists : List (List (ℕ × Entry))) (l : ℕ) → nodes_at (lists ++ [] ∷ []) l ≡ nodes_at lists l
nodes_added [] zero = refl
nodes_added [] (suc l) = refl
nodes_added (es ∷ lists) zero = refl
nodes_added (es ∷ lists) (suc l) = nodes_added lists l

pub indexed_added : (lists : List (List (ℕ × Entry))) (entries : List (HolderKey × ℕ)) → IsIndexed lists entries → IsIndexed (lists ++ [] ∷ []) entries
indexed_added lists entries ix = indexed_same lists (lists ++ [] ∷ []) entries (nodes_added lists) ix

pub indexed_none : IsIndexed [] []
indexed_none = record { finds = λ l q. refl; different = λ l. tt; only = λ key n e. absurd (cc) }

-- one key of the table is written or taken out
module _ (places : List (List (ℕ × Entry))) (entries new : List (HolderKey × ℕ)) (place : ℕ) (h : Holder) (node : Option ℕ) (says : (other : HolderKey) → node_at new other ≡ node_once (key_at place h) node entries other) (ix : IsIndexed places entries) where
  once_at : (l : ℕ) (q : Holder) → node_at new (key_at l q) ≡ cond (nat_eq place l && same_holder h q) node (node_at entries (key_at l q))
  once_at l q = says (key_at l q) ∙ ap (λ t. cond t node (node_at entries (key_at l q))) (key_test place l h q)

  only_once : (key : HolderKey) (n : ℕ) → node_at new key ≡ Some n → (l : ℕ) × (q : Holder) × (key ≡ key_at l q)
  only_once key n e =
      (elim (same_holder_key (key_at place h) key) as (λ t. same_holder_key (key_at place h) key ≡ t → cond t node (node_at entries key) ≡ Some n → (l : ℕ) × (q : Holder) × (key ≡ key_at l q)) [
        | true ↦ λ f g. (place, h, sym (holder_key_is (key_at place h) key f))
        | false ↦ λ f g. ix.only key n g
      ]) refl (sym (says key) ∙ e)

-- a node more
list_linked : (old new : List (List (ℕ × Entry))) (place n : ℕ) (e : Entry) → place < length old → new ≡ set old place ((n, e) ∷ nodes_at old place)
    → (l : ℕ) → nodes_at new l ≡ cond (nat_eq place l) ((n, e) ∷ nodes_at old l) (nodes_at old l)
list_linked old new place n e within is l =
    (elim (nat_eq place l) as (λ t. nat_eq place l ≡ t → nodes_at new l ≡ cond t ((n, e) ∷ nodes_at old l) (nodes_at old l)) [
      | true ↦ λ f.
          let at = eqb-true place l f in
          ap (λ k. nodes_at new k) (sym at) ∙ (ap (λ ls. nodes_at ls place) is ∙ (get_or-set_same old place ((n, e) ∷ nodes_at old place) [] within ∙ ap (λ k. (n, e) ∷ nodes_at old k) at))
      | false ↦ λ f. ap (λ ls. nodes_at ls l) is ∙ get_or-set_other old place l ((n, e) ∷ nodes_at old place) [] (λ same. grind (arith, nat_tests, f, same))
    ]) refl

pub indexed_linked : (old new : List (List (ℕ × Entry))) (place n : ℕ) (e : Entry) (entries after : List (HolderKey × ℕ)) → place < length old → new ≡ set old place ((n, e) ∷ nodes_at old place) → is_holder e.holder (nodes_at old place) ≡ false
    → ((other : HolderKey) → node_at after other ≡ node_once (key_at place e.holder) (Some n) entries other) → IsIndexed old entries → IsIndexed new after
indexed_linked old new place n e entries after within is none says ix =
    let list = list_linked old new place n e within is in
    record {
      finds = λ l q.
          once_at old entries after place e.holder (Some n) says ix l q
          ∙ ((elim (nat_eq place l) as (λ t. cond (t && same_holder e.holder q) (Some n) (node_at entries (key_at l q)) ≡ node_in q (cond t ((n, e) ∷ nodes_at old l) (nodes_at old l))) [
            | true ↦ let turned = holder_turned e.holder q in let here = ix.finds l q in λ j. cond (turned j) (Some n) (here j)
            | false ↦ ix.finds l q
          ])
          ∙ ap (node_in q) (sym (list l)));
      different = λ l. subst AreOfDifferent (sym (list l)) ((elim (nat_eq place l) as (λ t. nat_eq place l ≡ t → AreOfDifferent (cond t ((n, e) ∷ nodes_at old l) (nodes_at old l))) [
        | true ↦ λ f. (subst (λ k. is_holder e.holder (nodes_at old k) ≡ false) (eqb-true place l f) none, ix.different l)
        | false ↦ λ f. ix.different l
      ]) refl);
      only = only_once old entries after place e.holder (Some n) says ix;
    }

-- a node less
split_at_name : (es : List (ℕ × Entry)) (n : ℕ) → has n (names es) ≡ true → (xs : List (ℕ × Entry)) × (u : Entry) × (ys : List (ℕ × Entry)) × (es ≡ xs ++ (n, u) ∷ ys)
split_at_name [] n h = absurd (cc)
split_at_name (e ∷ es) n h =
    (elim (nat_eq n e.0) as (λ t. nat_eq n e.0 ≡ t → (xs : List (ℕ × Entry)) × (u : Entry) × (ys : List (ℕ × Entry)) × ((e ∷ es) ≡ xs ++ (n, u) ∷ ys)) [
      | true ↦ λ f. ([], e.1, es, ap (λ k. (k, e.1) ∷ es) (sym (eqb-true n e.0 f)))
      | false ↦ λ f. let r = split_at_name es n (or_other (nat_eq n e.0) (has n (names es)) h f) in (e ∷ r.0, r.1, r.2, ap (λ ys. e ∷ ys) r.3)
    ]) refl

holder_apart : (q : Holder) (xs ys : List (ℕ × Entry)) (n : ℕ) (u : Entry) → is_holder q (xs ++ (n, u) ∷ ys) ≡ false → same_holder q u.holder ≡ false
holder_apart q [] ys n u h = none_left (same_holder q u.holder) (is_holder q ys) h
holder_apart q (x ∷ xs) ys n u h = holder_apart q xs ys n u (none_right (same_holder q x.1.holder) (is_holder q (xs ++ (n, u) ∷ ys)) h)

holder_skips : (q : Holder) (xs ys : List (ℕ × Entry)) (n : ℕ) (u : Entry) → is_holder q (xs ++ (n, u) ∷ ys) ≡ false → is_holder q (xs ++ ys) ≡ false
holder_skips q [] ys n u h = none_right (same_holder q u.holder) (is_holder q ys) h
holder_skips q (x ∷ xs) ys n u h =
    or_from (same_holder q x.1.holder) (is_holder q (xs ++ ys)) (none_left (same_holder q x.1.holder) (is_holder q (xs ++ (n, u) ∷ ys)) h)
    (holder_skips q xs ys n u (none_right (same_holder q x.1.holder) (is_holder q (xs ++ (n, u) ∷ ys)) h))

holder_gone : (xs ys : List (ℕ × Entry)) (n : ℕ) (u : Entry) → AreOfDifferent (xs ++ (n, u) ∷ ys) → is_holder u.holder (xs ++ ys) ≡ false
holder_gone [] ys n u d = d.0
holder_gone (x ∷ xs) ys n u d =
    or_from (same_holder u.holder x.1.holder) (is_holder u.holder (xs ++ ys)) (holder_turned u.holder x.1.holder ∙ holder_apart x.1.holder xs ys n u d.0) (holder_gone xs ys n u d.1)

different_gone : (xs ys : List (ℕ × Entry)) (n : ℕ) (u : Entry) → AreOfDifferent (xs ++ (n, u) ∷ ys) → AreOfDifferent (xs ++ ys)
different_gone [] ys n u d = d.1
different_gone (x ∷ xs) ys n u d = (holder_skips x.1.holder xs ys n u d.0, different_gone xs ys n u d.1)

node_skips : (q : Holder) (xs ys : List (ℕ × Entry)) (n : ℕ) (u : Entry) → same_holder q u.holder ≡ false → node_in q (xs ++ (n, u) ∷ ys) ≡ node_in q (xs ++ ys)
node_skips q [] ys n u f = ap (λ t. cond t (Some n) (node_in q ys)) f
node_skips q (x ∷ xs) ys n u f = ap (λ r. cond (same_holder q x.1.holder) (Some x.0) r) (node_skips q xs ys n u f)

node_gone : (q : Holder) (xs ys : List (ℕ × Entry)) (n : ℕ) (u : Entry) → AreOfDifferent (xs ++ (n, u) ∷ ys) → cond (same_holder u.holder q) None (node_in q (xs ++ (n, u) ∷ ys)) ≡ node_in q (xs ++ ys)
node_gone q xs ys n u d =
    (elim (same_holder u.holder q) as (λ t. same_holder u.holder q ≡ t → cond t None (node_in q (xs ++ (n, u) ∷ ys)) ≡ node_in q (xs ++ ys)) [
      | true ↦ λ e. sym (node_none q (xs ++ ys) (subst (λ k. is_holder k (xs ++ ys) ≡ false) (same_is u.holder q e) (holder_gone xs ys n u d)))
      | false ↦ λ e. node_skips q xs ys n u (holder_turned q u.holder ∙ e)
    ]) refl

list_gone : (old new : List (List (ℕ × Entry))) (place : ℕ) (rest : List (ℕ × Entry)) → nodes_at new place ≡ rest → ((l : ℕ) → l ≢ place → nodes_at new l ≡ nodes_at old l) → (l : ℕ) → nodes_at new l ≡ cond (nat_eq place l) rest (nodes_at old l)
list_gone old new place rest here others l =
    (elim (nat_eq place l) as (λ t. nat_eq place l ≡ t → nodes_at new l ≡ cond t rest (nodes_at old l)) [
      | true ↦ λ f. ap (λ k. nodes_at new k) (sym (eqb-true place l f)) ∙ here
      | false ↦ λ f. others l (λ same. grind (arith, nat_tests, f, same))
    ]) refl

indexed_gone : (old new : List (List (ℕ × Entry))) (place n : ℕ) (xs ys : List (ℕ × Entry)) (u : Entry) (entries after : List (HolderKey × ℕ)) → nodes_at old place ≡ xs ++ (n, u) ∷ ys → nodes_at new place ≡ xs ++ ys
    → ((l : ℕ) → l ≢ place → nodes_at new l ≡ nodes_at old l) → ((other : HolderKey) → node_at after other ≡ node_once (key_at place u.holder) None entries other) → IsIndexed old entries → IsIndexed new after
indexed_gone old new place n xs ys u entries after is here others says ix =
    let list = list_gone old new place (xs ++ ys) here others in
    let apart = subst AreOfDifferent is (ix.different place) in
    record {
      finds = λ l q.
          once_at old entries after place u.holder None says ix l q
          ∙ ((elim (nat_eq place l) as (λ t. nat_eq place l ≡ t → cond (t && same_holder u.holder q) None (node_at entries (key_at l q)) ≡ node_in q (cond t (xs ++ ys) (nodes_at old l))) [
            | true ↦ λ f. ap (λ r. cond (same_holder u.holder q) None r) (ix.finds l q ∙ (ap (λ k. node_in q (nodes_at old k)) (sym (eqb-true place l f)) ∙ ap (node_in q) is)) ∙ node_gone q xs ys n u apart
            | false ↦ λ f. ix.finds l q
          ]) refl
          ∙ ap (node_in q) (sym (list l)));
      different = λ l. subst AreOfDifferent (sym (list l)) (elim (nat_eq place l) as (λ t. AreOfDifferent (cond t (xs ++ ys) (nodes_at old l))) [ true ↦ different_gone xs ys n u apart | false ↦ ix.different l ]);
      only = only_once old entries after place u.holder None says ix;
    }

pub indexed_without : (pool : Pool Entry) (new : List (List (ℕ × Entry))) (place n : ℕ) (v : Entry) (entries after : List (HolderKey × ℕ)) → PoolLaws pool → has n (names (nodes_at pool.places place)) ≡ true → value_in n pool.places ≡ Some v → new ≡ map (without n) pool.places
    → ((other : HolderKey) → node_at after other ≡ node_once (key_at place v.holder) None entries other) → IsIndexed pool.places entries → IsIndexed new after
indexed_without pool new place n v entries after laws «in» value is says ix =
    let s = split_at_name (nodes_at pool.places place) n «in» in
    let at = laws.at_node family.Place place s.0 n s.1 s.2 s.3 in
    let own : s.1 ≡ v = same_some s.1 v (value_in n pool.places) at.value value in
    indexed_gone pool.places new place n s.0 s.2 s.1 entries after s.3 (ap (λ ls. nodes_at ls place) is ∙ at.gone) (λ l ne. ap (λ ls. nodes_at ls l) is ∙ at.gone_elsewhere l ne)
    (λ other. says other ∙ ap (λ (x : Entry). node_once (key_at place x.holder) None entries other) (sym own)) ix
