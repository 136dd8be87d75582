-- The table and the lists, step by step.
use Rattle.std.proofs.Common.{◌≡◌, ◌≢◌, ℕ, ◌<◌, Bool, true, false, ◌&&◌, ◌||◌, nat_eq, cond, List, [], ◌∷◌, ◌++◌, Option, Some, None, length, set, refl, sym, ap, ◌∙◌, subst, arith, eqb-true}
use Rattle.std.proofs.lemmas.Bool.Decides.{nat_tests}
use Rattle.std.proofs.lemmas.List.{get_or-set_same, get_or-set_other}
use Rattle.lx_words.proofs.Tests.{nat_turned, none_left, none_right}
use Rattle.lx_caps.specs.declared.Principal.{Principal}
use Rattle.lx_caps.specs.declared.Principal.TheVariants.{Kernel, Shared, Global, Inst}
use Rattle.lx_caps.specs.History.{same_principal}
use Rattle.lx_caps.specs.Precedence.{module_rank, rank_in_module}
use Rattle.lx_cap_nodes.specs.Words.{nodes_at}
use Rattle.lx_writer_sets.specs.declared.entry.Entry.{Entry}
use Rattle.lx_writer_sets.specs.Index.{Key, key_of, same_key, node_at, node_once, node_in, AreIndexed}
use Rattle.lx_writer_sets.specs.Nodes.{has_writer, with_mask, AreNodes, AllNodes}
use Rattle.lx_writer_sets.specs.Sets.{touches, writes_in}
use Rattle.lx_writer_sets.specs.Walks.{StandsAt}
use Rattle.lx_caps.proofs.Principals.{same_principal_is}

same_ranks : (w q : Principal) → (nat_eq (module_rank w) (module_rank q) && nat_eq (rank_in_module w) (rank_in_module q)) ≡ same_principal q w
same_ranks Kernel Kernel = refl
same_ranks Kernel (Shared n) = grind (arith, nat_tests)
same_ranks Kernel (Global n) = grind (arith, nat_tests)
same_ranks Kernel (Inst n l) = grind (arith, nat_tests)
same_ranks (Shared m) Kernel = grind (arith, nat_tests)
same_ranks (Shared m) (Shared n) = grind (arith, nat_tests)
same_ranks (Shared m) (Global n) = grind (arith, nat_tests)
same_ranks (Shared m) (Inst n l) = grind (arith, nat_tests)
same_ranks (Global m) Kernel = grind (arith, nat_tests)
same_ranks (Global m) (Shared n) = grind (arith, nat_tests)
same_ranks (Global m) (Global n) = grind (arith, nat_tests)
same_ranks (Global m) (Inst n l) = grind (arith, nat_tests)
same_ranks (Inst m k) Kernel = grind (arith, nat_tests)
same_ranks (Inst m k) (Shared n) = grind (arith, nat_tests)
same_ranks (Inst m k) (Global n) = grind (arith, nat_tests)
same_ranks (Inst m k) (Inst n l) = grind (arith, nat_tests)

-- two keys are the same where the lists and the writers are
pub same_key_of : (l k : ℕ) (w q : Principal) → same_key (key_of l w) (key_of k q) ≡ (nat_eq k l && same_principal q w)
same_key_of l k w q = λ j. nat_turned l k j && same_ranks w q j

-- where a node is found, it stands there
found_by : (q : Principal) (e : ℕ × Entry) (es : List (ℕ × Entry)) (n : ℕ) (t : Bool) → same_principal q e.1.writer ≡ t → cond t (Some e.0) (node_in q es) ≡ Some n
    → (node_in q es ≡ Some n → StandsAt es n (λ v. same_principal q v.writer ≡ true)) → StandsAt (e ∷ es) n (λ v. same_principal q v.writer ≡ true)
found_by q e es n true same is rest = let at : e.0 ≡ n = cc in record { front = []; v = e.1; behind = es; is = ap (λ k. (k, e.1) ∷ es) at; such = same }
found_by q e es n false same is rest = let r = rest is in record { front = e ∷ r.front; v = r.v; behind = r.behind; is = ap (λ fs. e ∷ fs) r.is; such = r.such }

pub found_in : (q : Principal) (es : List (ℕ × Entry)) (n : ℕ) → node_in q es ≡ Some n → StandsAt es n (λ v. same_principal q v.writer ≡ true)
found_in q [] n is = absurd (cc)
found_in q (e ∷ es) n is = found_by q e es n (same_principal q e.1.writer) refl is (found_in q es n)

none_by : (t r : Bool) (n : ℕ) (o : Option ℕ) → cond t (Some n) o ≡ None → (o ≡ None → r ≡ false) → (t || r) ≡ false
none_by true r n o is rest = absurd (cc)
none_by false r n o is rest = rest is

-- where none is found, the list has no such writer
pub none_in : (q : Principal) (es : List (ℕ × Entry)) → node_in q es ≡ None → has_writer q es ≡ false
none_in q [] is = refl
none_in q (e ∷ es) is = none_by (same_principal q e.1.writer) (has_writer q es) e.0 (node_in q es) is (none_in q es)

no_node : (q : Principal) (es : List (ℕ × Entry)) → has_writer q es ≡ false → node_in q es ≡ None
no_node q [] is = refl
no_node q (e ∷ es) is =
    ap (λ (t : Bool). cond t (Some e.0) (node_in q es)) (none_left (same_principal q e.1.writer) (has_writer q es) is) ∙ no_node q es (none_right (same_principal q e.1.writer) (has_writer q es) is)

-- another mask is no other writer
in_put : (q : Principal) (xs ys : List (ℕ × Entry)) (n : ℕ) (v : Entry) (m : ℕ) → node_in q (xs ++ (n, with_mask v m) ∷ ys) ≡ node_in q (xs ++ (n, v) ∷ ys)
in_put q [] ys n v m = refl
in_put q (x ∷ xs) ys n v m = ap (λ (o : Option ℕ). cond (same_principal q x.1.writer) (Some x.0) o) (in_put q xs ys n v m)

not_there : (q : Principal) (xs ys : List (ℕ × Entry)) (n : ℕ) (v : Entry) → has_writer q (xs ++ (n, v) ∷ ys) ≡ false → same_principal q v.writer ≡ false
not_there q [] ys n v is = none_left (same_principal q v.writer) (has_writer q ys) is
not_there q (x ∷ xs) ys n v is = not_there q xs ys n v (none_right (same_principal q x.1.writer) (has_writer q (xs ++ (n, v) ∷ ys)) is)

gone_here : (q : Principal) (ys : List (ℕ × Entry)) (n : ℕ) (v : Entry) (t : Bool) → same_principal q v.writer ≡ t → has_writer v.writer ys ≡ false
    → node_in q ys ≡ cond t None (cond t (Some n) (node_in q ys))
gone_here q ys n v true same out = no_node q ys (ap (λ w. has_writer w ys) (same_principal_is q v.writer same) ∙ out)
gone_here q ys n v false same out = refl

gone_behind : (q : Principal) (x : ℕ × Entry) (v : Entry) (s : Bool) (now was : Option ℕ) → same_principal q x.1.writer ≡ s → same_principal x.1.writer v.writer ≡ false
    → now ≡ cond (same_principal q v.writer) None was → cond s (Some x.0) now ≡ cond (same_principal q v.writer) None (cond s (Some x.0) was)
gone_behind q x v true now was same out rest =
    sym (ap (λ (t : Bool). cond t None (Some x.0)) (ap (λ w. same_principal w v.writer) (same_principal_is q x.1.writer same) ∙ out))
gone_behind q x v false now was same out rest = rest

-- without a node the list has all others
in_gone : (q : Principal) (xs ys : List (ℕ × Entry)) (n : ℕ) (v : Entry) → AreNodes (xs ++ (n, v) ∷ ys)
    → node_in q (xs ++ ys) ≡ cond (same_principal q v.writer) None (node_in q (xs ++ (n, v) ∷ ys))
in_gone q [] ys n v nodes = gone_here q ys n v (same_principal q v.writer) refl nodes.0
in_gone q (x ∷ xs) ys n v nodes =
    gone_behind q x v (same_principal q x.1.writer) (node_in q (xs ++ ys)) (node_in q (xs ++ (n, v) ∷ ys)) refl (not_there x.1.writer xs ys n v nodes.0) (in_gone q xs ys n v nodes.2)

-- one key of the table and one list change together
indexed_once : (was now : List (Key × ℕ)) (old new : List (List (ℕ × Entry))) (list : ℕ) (w : Principal) (node : Option ℕ) (key : Key) → key ≡ key_of list w
    → ((other : Key) → node_at now other ≡ node_once key node was other)
    → ((q : Principal) → node_in q (nodes_at new list) ≡ cond (same_principal q w) node (node_in q (nodes_at old list)))
    → ((l : ℕ) → l ≢ list → nodes_at new l ≡ nodes_at old l) → AreIndexed was old → AreIndexed now new
unfolding AreIndexed
indexed_once was now old new list w node key at keys here others all l q =
    keys (key_of l q)
    ∙ (ap (λ (t : Bool). cond t node (node_at was (key_of l q))) (ap (λ k. same_key k (key_of l q)) at ∙ same_key_of list l w q)
    ∙ (elim (nat_eq l list) as (λ t. nat_eq l list ≡ t → cond (t && same_principal q w) node (node_at was (key_of l q)) ≡ node_in q (nodes_at new l)) [
      | true ↦ λ e.
          let same = eqb-true l list e in
          ap (cond (same_principal q w) node) (all l q ∙ ap (λ k. node_in q (nodes_at old k)) same) ∙ (sym (here q) ∙ ap (λ k. node_in q (nodes_at new k)) (sym same))
      | false ↦ λ e. all l q ∙ ap (node_in q) (sym (others l (λ same. grind (arith, nat_tests, e, same))))
    ]) refl)

-- the lists are as they were but for masks
pub indexed_same : (entries : List (Key × ℕ)) (old new : List (List (ℕ × Entry))) → ((l : ℕ) (q : Principal) → node_in q (nodes_at new l) ≡ node_in q (nodes_at old l)) → AreIndexed entries old → AreIndexed entries new
unfolding AreIndexed
indexed_same entries old new same all l q = all l q ∙ sym (same l q)

pub indexed_stays : (entries : List (Key × ℕ)) (old new : List (List (ℕ × Entry))) → ((l : ℕ) → nodes_at new l ≡ nodes_at old l) → AreIndexed entries old → AreIndexed entries new
indexed_stays entries old new same = indexed_same entries old new (λ l q. ap (node_in q) (same l))

-- another mask of a node
pub indexed_put : (entries : List (Key × ℕ)) (old new : List (List (ℕ × Entry))) (list n m : ℕ) (v : Entry) (xs ys : List (ℕ × Entry)) → nodes_at old list ≡ xs ++ (n, v) ∷ ys
    → nodes_at new list ≡ xs ++ (n, with_mask v m) ∷ ys → ((l : ℕ) → l ≢ list → nodes_at new l ≡ nodes_at old l) → AreIndexed entries old → AreIndexed entries new
indexed_put entries old new list n m v xs ys was is others =
    indexed_same entries old new
    (λ l q.
    (elim (nat_eq l list) as (λ t. nat_eq l list ≡ t → node_in q (nodes_at new l) ≡ node_in q (nodes_at old l)) [
      | true ↦ λ e.
          let same = eqb-true l list e in
          ap (λ k. node_in q (nodes_at new k)) same ∙ (ap (node_in q) is ∙ (in_put q xs ys n v m ∙ (ap (node_in q) (sym was) ∙ ap (λ k. node_in q (nodes_at old k)) (sym same))))
      | false ↦ λ e. ap (node_in q) (others l (λ same. grind (arith, nat_tests, e, same)))
    ]) refl)

-- one node more
pub indexed_linked : (was now : List (Key × ℕ)) (old new : List (List (ℕ × Entry))) (list n : ℕ) (e : Entry) (key : Key) → list < length old → new ≡ set old list ((n, e) ∷ nodes_at old list)
    → key ≡ key_of list e.writer → ((other : Key) → node_at now other ≡ node_once key (Some n) was other) → AreIndexed was old → AreIndexed now new
indexed_linked was now old new list n e key h is at keys =
    indexed_once was now old new list e.writer (Some n) key at keys
    (λ q. ap (λ ls. node_in q (nodes_at ls list)) is ∙ ap (node_in q) (get_or-set_same old list ((n, e) ∷ nodes_at old list) [] h))
    (λ l ne. ap (λ ls. nodes_at ls l) is ∙ get_or-set_other old list l ((n, e) ∷ nodes_at old list) [] ne)

-- one node less
pub indexed_gone : (was now : List (Key × ℕ)) (old new : List (List (ℕ × Entry))) (list n : ℕ) (v : Entry) (xs ys : List (ℕ × Entry)) (key : Key) → nodes_at old list ≡ xs ++ (n, v) ∷ ys → nodes_at new list ≡ xs ++ ys
    → AllNodes old → ((l : ℕ) → l ≢ list → nodes_at new l ≡ nodes_at old l) → key ≡ key_of list v.writer
    → ((other : Key) → node_at now other ≡ node_once key None was other) → AreIndexed was old → AreIndexed now new
unfolding AllNodes
indexed_gone was now old new list n v xs ys key split left nodes others at keys =
    indexed_once was now old new list v.writer None key at keys
    (λ q. ap (node_in q) left ∙ (in_gone q xs ys n v (subst AreNodes split (nodes list)) ∙ ap (λ es. cond (same_principal q v.writer) None (node_in q es)) (sym split))) others

pub indexed_none : (entries : List (Key × ℕ)) (lists : List (List (ℕ × Entry))) → entries ≡ [] → lists ≡ [] → AreIndexed entries lists
unfolding AreIndexed
indexed_none entries lists empty is l q = ap (λ es. node_at es (key_of l q)) empty ∙ ap (λ ls. node_in q (nodes_at ls l)) (sym is)

node_is : (entries : List (Key × ℕ)) (lists : List (List (ℕ × Entry))) (l : ℕ) (q : Principal) (key : Key) (found : Option ℕ) → AreIndexed entries lists → key ≡ key_of l q → found ≡ node_at entries key → found ≡ node_in q (nodes_at lists l)
unfolding AreIndexed
node_is entries lists l q key found all at is = is ∙ (ap (node_at entries) at ∙ all l q)

-- the node that the table finds is the writer's, in the list
pub stands : (entries : List (Key × ℕ)) (lists : List (List (ℕ × Entry))) (l : ℕ) (q : Principal) (key : Key) (found : Option ℕ) (n : ℕ) → AreIndexed entries lists → key ≡ key_of l q → found ≡ node_at entries key → found ≡ Some n
    → StandsAt (nodes_at lists l) n (λ v. same_principal q v.writer ≡ true)
stands entries lists l q key found n all at is some = found_in q (nodes_at lists l) n (sym (node_is entries lists l q key found all at is) ∙ some)

-- where it finds none, the list has no node of the writer
pub no_writer : (entries : List (Key × ℕ)) (lists : List (List (ℕ × Entry))) (l : ℕ) (q : Principal) (key : Key) (found : Option ℕ) → AreIndexed entries lists → key ≡ key_of l q → found ≡ node_at entries key → found ≡ None
    → has_writer q (nodes_at lists l) ≡ false
no_writer entries lists l q key found all at is none = none_in q (nodes_at lists l) (sym (node_is entries lists l q key found all at is) ∙ none)

-- who has no node in a list is no writer by it
pub no_writes : (part slot : ℕ) (q : Principal) (es : List (ℕ × Entry)) → has_writer q es ≡ false → writes_in part es slot q ≡ false
no_writes part slot q [] out = refl
no_writes part slot q (e ∷ es) out =
    ap (λ (t : Bool). (t && touches part e.1 slot) || writes_in part es slot q) (none_left (same_principal q e.1.writer) (has_writer q es) out)
    ∙ no_writes part slot q es (none_right (same_principal q e.1.writer) (has_writer q es) out)

alone_here : (s t r : Bool) → s ≡ true → r ≡ false → ((s && t) || r) ≡ t
alone_here true true r is out = refl
alone_here true false r is out = out
alone_here false t r is out = absurd (cc)

other_here : (q : Principal) (x : ℕ × Entry) (v : Entry) (s t r : Bool) → same_principal q x.1.writer ≡ s → same_principal q v.writer ≡ true → same_principal x.1.writer v.writer ≡ false → ((s && t) || r) ≡ r
other_here q x v true t r same is out = absurd (let yes : same_principal x.1.writer v.writer ≡ true = ap (λ w. same_principal w v.writer) (sym (same_principal_is q x.1.writer same)) ∙ is in cc)
other_here q x v false t r same is out = refl

-- a writer writes what its node says
writes_split : (part slot : ℕ) (q : Principal) (xs ys : List (ℕ × Entry)) (n : ℕ) (v : Entry) → same_principal q v.writer ≡ true → AreNodes (xs ++ (n, v) ∷ ys) → writes_in part (xs ++ (n, v) ∷ ys) slot q ≡ touches part v slot
writes_split part slot q [] ys n v is nodes =
    alone_here (same_principal q v.writer) (touches part v slot) (writes_in part ys slot q) is (no_writes part slot q ys (ap (λ w. has_writer w ys) (same_principal_is q v.writer is) ∙ nodes.0))
writes_split part slot q (x ∷ xs) ys n v is nodes =
    other_here q x v (same_principal q x.1.writer) (touches part x.1 slot) (writes_in part (xs ++ (n, v) ∷ ys) slot q) refl is (not_there x.1.writer xs ys n v nodes.0)
    ∙ writes_split part slot q xs ys n v is nodes.2

pub writes_here : (lists : List (List (ℕ × Entry))) (l part slot : ℕ) (q : Principal) (xs ys : List (ℕ × Entry)) (n : ℕ) (v : Entry) → AllNodes lists → nodes_at lists l ≡ xs ++ (n, v) ∷ ys → same_principal q v.writer ≡ true
    → writes_in part (nodes_at lists l) slot q ≡ touches part v slot
unfolding AllNodes
writes_here lists l part slot q xs ys n v nodes split is =
    ap (λ es. writes_in part es slot q) split ∙ writes_split part slot q xs ys n v is (subst AreNodes split (nodes l))
