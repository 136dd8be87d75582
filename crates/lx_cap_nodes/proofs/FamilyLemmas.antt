-- What each change of the links does to the lists.
use Rattle.std.proofs.Common.{◌≡◌, ◌≢◌, ℕ, zero, suc, ◌+◌, ◌<◌, ◌≤◌, Bool, true, false, ◌||◌, cond, List, [], ◌∷◌, length, map, get_or, set, Option, Some, None, refl, sym, ap, ◌∙◌, subst, arith, length-set, eqb-true}
use Rattle.std.specs.Prelude.{nat_eq}
use Rattle.std.proofs.lemmas.List.{get_or-set_same, get_or-set_other, get_or_past, length-map}
use Rattle.std.proofs.Math.ListN as listn
use Rattle.std.proofs.lemmas.Bool.{or_right as or_true}
use Rattle.lx_words.proofs.Tests.{none_left, none_right, or_other}
use Rattle.lx_cap_nodes.specs.declared.links.Link.{Link}
use Rattle.lx_cap_nodes.specs.Links.{at_list, no_link, link_at, head_at, with_previous, with_next, passing, heads_passing, IsWithin, Below, Fits, IsList, IsFamily}
use Rattle.lx_cap_nodes.specs.Names.{has, is_listed, first_of, next_of, next_in, drop_name, Apart}
use Rattle.lx_cap_nodes.proofs.LinkLemmas.{ne_from_eq, link-same, link-other, has_apart, fits-other, IsOut, fits-with_next, fits-with_previous, length-with_next, length-with_previous, fits-before, list_is, below_has, first_has, previous_has, next_is, next_has, drop_out, apart_drop, below_drop, below_more}

-- a list without the node's number where it is the first
unlink_first : (links : List Link) (l : ℕ) (b : Option ℕ) (m : ℕ) (ns : List ℕ) → Fits links l b (m ∷ ns) → Apart (m ∷ ns) → Below (length links) (m ∷ ns) → IsOut b ns → Fits (passing links (link_at links m)) l b ns
unlink_first links l b m ns fits apart below out =
    subst (λ (x : Link). Fits (passing links x) l b ns) (sym fits.0)
    (fits-before (with_next links b (first_of ns)) l (Some m) b ns apart.1
    (subst (λ n. Below n ns) (sym (length-with_next links b (first_of ns))) below.1)
    (fits-with_next links l (Some m) ns b (first_of ns) out fits.1))

-- the option's number, if there is one, is another one
abbrev pub IsNot : Option ℕ → ℕ → Type 0
IsNot None m = Unit {0}
IsNot (Some k) m = m ≢ k

link-with_previous : (links : List Link) (at e : Option ℕ) (m : ℕ) → IsNot at m → link_at (with_previous links at e) m ≡ link_at links m
link-with_previous links None e m ne = refl
link-with_previous links (Some k) e m ne = link-other links k m _ ne

link-with_next : (links : List Link) (at e : Option ℕ) (m : ℕ) → IsNot at m → link_at (with_next links at e) m ≡ link_at links m
link-with_next links None e m ne = refl
link-with_next links (Some k) e m ne = link-other links k m _ ne

is_not_from : (at : Option ℕ) (m : ℕ) → ((k : ℕ) → at ≡ Some k → m ≢ k) → IsNot at m
is_not_from None m h = tt
is_not_from (Some k) m h = h k refl

out_from : (at : Option ℕ) (ns : List ℕ) → ((k : ℕ) → at ≡ Some k → has k ns ≡ false) → IsOut at ns
out_from None ns h = tt
out_from (Some k) ns h = h k refl

out_less : (b : Option ℕ) (m : ℕ) (ns : List ℕ) → IsOut b (m ∷ ns) → IsOut b ns
out_less None m ns out = tt
out_less (Some k) m ns out = none_right (nat_eq k m) (has k ns) out

-- a node that stays is linked to what then stands behind it
stays_linked : (links : List Link) (l : ℕ) (b : Option ℕ) (m n : ℕ) (ns : List ℕ) → Fits links l b (m ∷ ns) → Apart (m ∷ ns) → Below (length links) (m ∷ ns) → nat_eq n m ≡ false → has n ns ≡ true → link_at (passing links (link_at links n)) m ≡ record { previous = b; next = first_of (drop_name n ns); list = l }
stays_linked links l b m n [] fits apart below ne «in» = absurd (cc)
stays_linked links l b m n (k ∷ ns) fits apart below ne «in» =
    let x = link_at links n in
    let behind : IsNot x.next m = is_not_from x.next m (λ j is same. has_apart (k ∷ ns) m j apart.0 (next_has n (k ∷ ns) j (sym (next_is links l n (Some m) (k ∷ ns) fits.1 «in») ∙ is)) (sym same)) in
    link-with_previous (with_next links x.previous x.next) x.next x.previous m behind
    ∙ (elim (nat_eq n k) as (λ t. nat_eq n k ≡ t → link_at (with_next links x.previous x.next) m ≡ record { previous = b; next = first_of (cond t (drop_name n ns) (k ∷ drop_name n ns)); list = l }) [
      | true ↦ λ e.
          let at : x ≡ record { previous = Some m; next = first_of ns; list = l } = ap (λ j. link_at links j) (eqb-true n k e) ∙ fits.1.0 in
          let gone : drop_name n ns ≡ ns = drop_out n ns (subst (λ j. has j ns ≡ false) (sym (eqb-true n k e)) apart.1.0) in
          subst (λ (y : Link). link_at (with_next links y.previous y.next) m ≡ record { previous = b; next = first_of (drop_name n ns); list = l }) (sym at)
          (link-same links m _ below.0 ∙ (ap (λ (y : Link). record { previous = y.previous; next = first_of ns; list = y.list }) fits.0 ∙ ap (λ js. record { previous = b; next = first_of js; list = l }) (sym gone)))
      | false ↦ λ e.
          let before = previous_has links l k n ns fits.1.1 (or_other (nat_eq n k) (has n ns) «in» e) in
          link-with_next links x.previous x.next m (is_not_from x.previous m (λ j is same.
          let found : before.0 ≡ j = cc (before.1, is) in
          has_apart (k ∷ ns) m before.0 apart.0 before.2 (found ∙ sym same)))
          ∙ fits.0
    ]) refl

-- a list without the node's number
pub unlink_fits : (links : List Link) (l : ℕ) (b : Option ℕ) (n : ℕ) (ns : List ℕ) → Fits links l b ns → Apart ns → Below (length links) ns → IsOut b ns → has n ns ≡ true → Fits (passing links (link_at links n)) l b (drop_name n ns)
unlink_fits links l b n [] fits apart below out «in» = absurd (cc)
unlink_fits links l b n (m ∷ ns) fits apart below out «in» =
    (elim (nat_eq n m) as (λ t. nat_eq n m ≡ t → Fits (passing links (link_at links n)) l b (cond t (drop_name n ns) (m ∷ drop_name n ns))) [
      | true ↦ λ e.
          let same = eqb-true n m e in
          let gone : drop_name n ns ≡ ns = drop_out n ns (subst (λ j. has j ns ≡ false) (sym same) apart.0) in
          subst (λ js. Fits (passing links (link_at links n)) l b js) (sym gone)
          (subst (λ j. Fits (passing links (link_at links j)) l b ns) (sym same) (unlink_first links l b m ns fits apart below (out_less b m ns out)))
      | false ↦ λ e.
          let rest = or_other (nat_eq n m) (has n ns) «in» e in
          (stays_linked links l b m n ns fits apart below e rest, unlink_fits links l (Some m) n ns fits.1 apart.1 below.1 apart.0 rest)
    ]) refl

-- what is listed stands in one of the lists
pub listed_at : (lists : List (List ℕ)) (n : ℕ) → is_listed n lists ≡ true → (l : ℕ) × (l < length lists) × (has n (at_list lists l) ≡ true)
listed_at [] n «in» = absurd (cc)
listed_at (ns ∷ lists) n «in» =
    (elim (has n ns) as (λ t. has n ns ≡ t → (l : ℕ) × (l < suc (length lists)) × (has n (at_list (ns ∷ lists) l) ≡ true)) [
      | true ↦ λ e. (0, omega arith, e)
      | false ↦ λ e. let found = listed_at lists n (or_other (has n ns) (is_listed n lists) «in» e) in
          (suc found.0, (let h = found.1 in omega (arith, h)), found.2)
    ]) refl

pub unlisted_at : (lists : List (List ℕ)) (n : ℕ) → is_listed n lists ≡ false → (l : ℕ) → has n (at_list lists l) ≡ false
unlisted_at [] n out l = refl
unlisted_at (ns ∷ lists) n out zero = none_left (has n ns) (is_listed n lists) out
unlisted_at (ns ∷ lists) n out (suc l) = unlisted_at lists n (none_right (has n ns) (is_listed n lists) out) l

pub listed_by : (lists : List (List ℕ)) (n l : ℕ) → has n (at_list lists l) ≡ true → is_listed n lists ≡ true
listed_by [] n l «in» = absurd (cc)
listed_by (ns ∷ lists) n zero «in» = rw «in» refl
listed_by (ns ∷ lists) n (suc l) «in» = or_true (has n ns) (is_listed n lists) (listed_by lists n l «in»)

false_from : (b : Bool) → (b ≡ true → b ≡ false) → b ≡ false
false_from true h = h refl
false_from false h = refl

-- a node stands in one list alone
pub alone : (links : List Link) (heads : List (Option ℕ)) (lists : List (List ℕ)) (l k n : ℕ) → IsFamily links heads lists → has n (at_list lists l) ≡ true → k ≢ l → has n (at_list lists k) ≡ false
alone links heads lists l k n family «in» ne =
    false_from (has n (at_list lists k)) (λ e. absurd (ne
    (sym (list_is links k None (at_list lists k) n (family.each k).fits e) ∙ list_is links l None (at_list lists l) n (family.each l).fits «in»)))

-- a list that a write does not reach
keeps_other : (links : List Link) (head : Option ℕ) (l : ℕ) (ns : List ℕ) (k : ℕ) (x : Link) → has k ns ≡ false → IsList links head l ns → IsList (set links k x) head l ns
keeps_other links head l ns k x out is = record {
  first = is.first;
  fits = fits-other links l None ns k x out is.fits;
  apart = is.apart;
  below = subst (λ n. Below n ns) (sym (length-set links k x)) is.below;
}

keeps_previous : (links : List Link) (head : Option ℕ) (l : ℕ) (ns : List ℕ) (at e : Option ℕ) → IsOut at ns → IsList links head l ns → IsList (with_previous links at e) head l ns
keeps_previous links head l ns None e out is = is
keeps_previous links head l ns (Some k) e out is = keeps_other links head l ns k _ out is

keeps_next : (links : List Link) (head : Option ℕ) (l : ℕ) (ns : List ℕ) (at e : Option ℕ) → IsOut at ns → IsList links head l ns → IsList (with_next links at e) head l ns
keeps_next links head l ns None e out is = is
keeps_next links head l ns (Some k) e out is = keeps_other links head l ns k _ out is

-- a node comes first in a list
put_here : (links : List Link) (head : Option ℕ) (l : ℕ) (ns : List ℕ) (n : ℕ) → IsList links head l ns → has n ns ≡ false → n < length links
    → IsList (with_previous (set links n (record { previous = None; next = head; list = l })) head (Some n)) (Some n) l (n ∷ ns)
put_here links head l ns n is out h =
    let x : Link = record { previous = None; next = head; list = l } in
    let links1 = set links n x in
    let kept : IsList links1 head l ns = keeps_other links head l ns n x out is in
    let other : IsNot head n = is_not_from head n (λ k e same. let «in» = first_has ns k (sym is.first ∙ e) in has_apart ns n k out «in» (sym same)) in
    record {
      first = refl;
      fits = (
        link-with_previous links1 head (Some n) n other ∙ (link-same links n x h ∙ ap (λ (o : Option ℕ). record { previous = None; next = o; list = l }) is.first),
        subst (λ (o : Option ℕ). Fits (with_previous links1 o (Some n)) l (Some n) ns) (sym is.first) (fits-before links1 l None (Some n) ns kept.apart kept.below kept.fits),
      );
      apart = (out, is.apart);
      below = subst (λ m. Below m (n ∷ ns)) (sym (length-with_previous links1 head (Some n))) (subst (λ m. n < m) (sym (length-set links n x)) h, kept.below);
    }

pub put_family : (links : List Link) (heads : List (Option ℕ)) (lists : List (List ℕ)) (l n : ℕ) → IsFamily links heads lists → l < length heads → n < length links → is_listed n lists ≡ false
    → IsFamily (with_previous (set links n (record { previous = None; next = head_at heads l; list = l })) (head_at heads l) (Some n)) (set heads l (Some n)) (set lists l (n ∷ at_list lists l))
put_family links heads lists l n family in_use within fresh =
    let x : Link = record { previous = None; next = head_at heads l; list = l } in
    let after = with_previous (set links n x) (head_at heads l) (Some n) in
    let here = family.each l in
    record {
      count = length-set lists l (n ∷ at_list lists l) ∙ family.count ∙ sym (length-set heads l (Some n));
      each = λ k. (elim (nat_eq k l) as (λ t. nat_eq k l ≡ t → IsList after (head_at (set heads l (Some n)) k) k (at_list (set lists l (n ∷ at_list lists l)) k)) [
        | true ↦ λ e.
            let lt : l < length lists = subst (λ m. l < m) (sym family.count) in_use in
            subst (λ j. IsList after (head_at (set heads l (Some n)) j) j (at_list (set lists l (n ∷ at_list lists l)) j)) (sym (eqb-true k l e))
            (subst (λ (o : Option ℕ). IsList after o l (at_list (set lists l (n ∷ at_list lists l)) l)) (sym (get_or-set_same heads l (Some n) None in_use))
            (subst (λ ns. IsList after (Some n) l ns) (sym (get_or-set_same lists l (n ∷ at_list lists l) [] lt))
            (put_here links (head_at heads l) l (at_list lists l) n here (unlisted_at lists n fresh l) within)))
        | false ↦ λ e.
            let ne = ne_from_eq k l e in
            subst (λ (o : Option ℕ). IsList after o k (at_list (set lists l (n ∷ at_list lists l)) k)) (sym (get_or-set_other heads l k (Some n) None ne))
            (subst (λ ns. IsList after (head_at heads k) k ns) (sym (get_or-set_other lists l k (n ∷ at_list lists l) [] ne))
            (keeps_previous (set links n x) (head_at heads k) k (at_list lists k) (head_at heads l) (Some n)
            (out_from (head_at heads l) (at_list lists k) (λ j is. alone links heads lists l k j family (first_has (at_list lists l) j (sym here.first ∙ is)) ne))
            (keeps_other links (head_at heads k) k (at_list lists k) n x (unlisted_at lists n fresh k) (family.each k))))
      ]) refl;
    }

-- what the list's first node is then
first_stays : (links : List Link) (l n : ℕ) (m : ℕ) (ns : List ℕ) (q : ℕ) → Fits links l None (m ∷ ns) → has n (m ∷ ns) ≡ true → (link_at links n).previous ≡ Some q → first_of (drop_name n (m ∷ ns)) ≡ Some m
first_stays links l n m ns q fits «in» previous =
    (elim (nat_eq n m) as (λ t. nat_eq n m ≡ t → first_of (cond t (drop_name n ns) (m ∷ drop_name n ns)) ≡ Some m) [
      | true ↦ λ e. let at : (link_at links n).previous ≡ None = ap (λ j. (link_at links j).previous) (eqb-true n m e) ∙ ap (λ (x : Link). x.previous) fits.0 in absurd (cc (at, previous))
      | false ↦ λ e. refl
    ]) refl

first_goes : (links : List Link) (l n : ℕ) (m : ℕ) (ns : List ℕ) → Fits links l None (m ∷ ns) → Apart (m ∷ ns) → has n (m ∷ ns) ≡ true → (link_at links n).previous ≡ None → first_of (drop_name n (m ∷ ns)) ≡ (link_at links n).next
first_goes links l n m ns fits apart «in» previous =
    (elim (nat_eq n m) as (λ t. nat_eq n m ≡ t → first_of (cond t (drop_name n ns) (m ∷ drop_name n ns)) ≡ (link_at links n).next) [
      | true ↦ λ e.
          let same = eqb-true n m e in
          ap first_of (drop_out n ns (subst (λ j. has j ns ≡ false) (sym same) apart.0)) ∙ sym (ap (λ j. (link_at links j).next) same ∙ ap (λ (x : Link). x.next) fits.0)
      | false ↦ λ e. let found = previous_has links l m n ns fits.1 (or_other (nat_eq n m) (has n ns) «in» e) in absurd (cc (found.1, previous))
    ]) refl

pub first_after : (links : List Link) (l n : ℕ) (ns : List ℕ) (head : Option ℕ) → IsList links head l ns → has n ns ≡ true → (previous : Option ℕ) → (link_at links n).previous ≡ previous → elim previous [ None ↦ (link_at links n).next | Some q ↦ head ] ≡ first_of (drop_name n ns)
first_after links l n [] head is «in» previous e = absurd (cc)
first_after links l n (m ∷ ns) head is «in» None e = sym (first_goes links l n m ns is.fits is.apart «in» e)
first_after links l n (m ∷ ns) head is «in» (Some q) e = is.first ∙ sym (first_stays links l n m ns q is.fits «in» e)

previous_in : (links : List Link) (l n j : ℕ) (ns : List ℕ) → Fits links l None ns → has n ns ≡ true → (link_at links n).previous ≡ Some j → has j ns ≡ true
previous_in links l n j [] fits «in» is = absurd (cc)
previous_in links l n j (m ∷ ns) fits «in» is =
    (elim (nat_eq n m) as (λ t. nat_eq n m ≡ t → has j (m ∷ ns) ≡ true) [
      | true ↦ λ e. let at : (link_at links n).previous ≡ None = ap (λ i. (link_at links i).previous) (eqb-true n m e) ∙ ap (λ (x : Link). x.previous) fits.0 in absurd (cc (at, is))
      | false ↦ λ e. let found = previous_has links l m n ns fits.1 (or_other (nat_eq n m) (has n ns) «in» e) in
          let same : found.0 ≡ j = cc (found.1, is) in subst (λ i. has i (m ∷ ns) ≡ true) same found.2
    ]) refl

-- the neighbours of a node stand in its list
pub previous_is_out : (links : List Link) (heads : List (Option ℕ)) (lists : List (List ℕ)) (l k n : ℕ) → IsFamily links heads lists → has n (at_list lists l) ≡ true → k ≢ l → IsOut (link_at links n).previous (at_list lists k)
previous_is_out links heads lists l k n family «in» ne =
    out_from (link_at links n).previous (at_list lists k) (λ j is. alone links heads lists l k j family (previous_in links l n j (at_list lists l) (family.each l).fits «in» is) ne)

next_is_out : (links : List Link) (heads : List (Option ℕ)) (lists : List (List ℕ)) (l k n : ℕ) → IsFamily links heads lists → has n (at_list lists l) ≡ true → k ≢ l → IsOut (link_at links n).next (at_list lists k)
next_is_out links heads lists l k n family «in» ne =
    out_from (link_at links n).next (at_list lists k) (λ j is.
    alone links heads lists l k j family (next_has n (at_list lists l) j (sym (next_is links l n None (at_list lists l) (family.each l).fits «in») ∙ is)) ne)

-- the list that the node was in
out_here : (links : List Link) (head : Option ℕ) (l : ℕ) (ns : List ℕ) (n : ℕ) (now : Option ℕ) → IsList links head l ns → has n ns ≡ true → now ≡ first_of (drop_name n ns) → IsList (passing links (link_at links n)) now l (drop_name n ns)
out_here links head l ns n now is «in» first =
    let x = link_at links n in
    record {
      first = first;
      fits = unlink_fits links l None n ns is.fits is.apart is.below tt «in»;
      apart = apart_drop n ns is.apart;
      below = subst (λ m. Below m (drop_name n ns)) (sym (length-with_previous (with_next links x.previous x.next) x.next x.previous ∙ length-with_next links x.previous x.next)) (below_drop (length links) n ns is.below);
    }

length-heads_passing : (heads : List (Option ℕ)) (previous : Option ℕ) (l : ℕ) (next : Option ℕ) → length (heads_passing heads previous l next) ≡ length heads
length-heads_passing heads None l next = length-set heads l next
length-heads_passing heads (Some q) l next = refl

head_here : (heads : List (Option ℕ)) (previous : Option ℕ) (l : ℕ) (next : Option ℕ) → l < length heads → head_at (heads_passing heads previous l next) l ≡ elim previous [ None ↦ next | Some q ↦ head_at heads l ]
head_here heads None l next h = get_or-set_same heads l next None h
head_here heads (Some q) l next h = refl

head_elsewhere : (heads : List (Option ℕ)) (previous : Option ℕ) (l k : ℕ) (next : Option ℕ) → k ≢ l → head_at (heads_passing heads previous l next) k ≡ head_at heads k
head_elsewhere heads None l k next ne = get_or-set_other heads l k next None ne
head_elsewhere heads (Some q) l k next ne = refl

pub out_family : (links : List Link) (heads : List (Option ℕ)) (lists : List (List ℕ)) (n : ℕ) → IsFamily links heads lists → is_listed n lists ≡ true
    → let x = link_at links n in IsFamily (passing links x) (heads_passing heads x.previous x.list x.next) (map (drop_name n) lists)
out_family links heads lists n family listed =
    let x = link_at links n in
    let found = listed_at lists n listed in
    let l = found.0 in
    let here = family.each l in
    let at : x.list ≡ l = list_is links l None (at_list lists l) n here.fits found.2 in
    let after = passing links x in
    let heads1 = heads_passing heads x.previous x.list x.next in
    let in_use : l < length heads = subst (λ m. l < m) family.count found.1 in
    record {
      count = length-map lists (drop_name n) ∙ family.count ∙ sym (length-heads_passing heads x.previous x.list x.next);
      each = λ k. subst (λ ns. IsList after (head_at heads1 k) k ns) (sym (listn.get_or-map (drop_name n) lists k []))
          ((elim (nat_eq k l) as (λ t. nat_eq k l ≡ t → IsList after (head_at heads1 k) k (drop_name n (at_list lists k))) [
            | true ↦ λ e.
                subst (λ j. IsList after (head_at heads1 j) j (drop_name n (at_list lists j))) (sym (eqb-true k l e))
                (out_here links (head_at heads l) l (at_list lists l) n (head_at heads1 l) here found.2
                (ap (λ j. head_at (heads_passing heads x.previous j x.next) l) at ∙ head_here heads x.previous l x.next in_use ∙ first_after links l n (at_list lists l) (head_at heads l) here found.2 x.previous refl))
            | false ↦ λ e.
                let ne = ne_from_eq k l e in
                subst (λ (o : Option ℕ). IsList after o k (drop_name n (at_list lists k))) (sym (ap (λ j. head_at (heads_passing heads x.previous j x.next) k) at ∙ head_elsewhere heads x.previous l k x.next ne))
                (subst (λ ns. IsList after (head_at heads k) k ns) (sym (drop_out n (at_list lists k) (alone links heads lists l k n family found.2 ne)))
                (keeps_previous (with_next links x.previous x.next) (head_at heads k) k (at_list lists k) x.next x.previous (next_is_out links heads lists l k n family found.2 ne)
                (keeps_next links (head_at heads k) k (at_list lists k) x.previous x.next (previous_is_out links heads lists l k n family found.2 ne) (family.each k))))
          ]) refl);
    }

-- the node behind a node
next_in_at : (lists : List (List ℕ)) (l n : ℕ) → has n (at_list lists l) ≡ true → ((k : ℕ) → k ≢ l → has n (at_list lists k) ≡ false) → next_in n lists ≡ next_of n (at_list lists l)
next_in_at [] l n «in» others = absurd (cc)
next_in_at (ns ∷ lists) zero n «in» others = rw «in» refl
next_in_at (ns ∷ lists) (suc l) n «in» others =
    rw (others 0 (λ e. omega (arith, e))) (next_in_at lists l n «in» (λ k ne. others (suc k) (λ e. ne (let f : k ≡ l = omega (arith, e) in f))))

pub next_is_in : (links : List Link) (heads : List (Option ℕ)) (lists : List (List ℕ)) (n : ℕ) → IsFamily links heads lists → is_listed n lists ≡ true → (link_at links n).next ≡ next_in n lists
next_is_in links heads lists n family listed =
    let found = listed_at lists n listed in
    let l = found.0 in
    next_is links l n None (at_list lists l) (family.each l).fits found.2 ∙ sym (next_in_at lists l n found.2 (λ k ne. alone links heads lists l k n family found.2 ne))

-- a listed node has a link
pub listed_within : (links : List Link) (heads : List (Option ℕ)) (lists : List (List ℕ)) (n : ℕ) → IsFamily links heads lists → is_listed n lists ≡ true → n < length links
listed_within links heads lists n family listed =
    let found = listed_at lists n listed in below_has (length links) (at_list lists found.0) n (family.each found.0).below found.2

pub list_within : (links : List Link) (heads : List (Option ℕ)) (lists : List (List ℕ)) (n : ℕ) → IsFamily links heads lists → is_listed n lists ≡ true → (link_at links n).list < length heads
list_within links heads lists n family listed =
    let found = listed_at lists n listed in
    subst (λ l. l < length heads) (sym (list_is links found.0 None (at_list lists found.0) n (family.each found.0).fits found.2)) (subst (λ m. found.0 < m) family.count found.1)

within_from : (at : Option ℕ) (bound : ℕ) → ((k : ℕ) → at ≡ Some k → k < bound) → IsWithin at bound
within_from None bound h = tt
within_from (Some k) bound h = h k refl

pub previous_within : (links : List Link) (heads : List (Option ℕ)) (lists : List (List ℕ)) (n : ℕ) → IsFamily links heads lists → is_listed n lists ≡ true → IsWithin (link_at links n).previous (length links)
previous_within links heads lists n family listed =
    let found = listed_at lists n listed in
    let here = family.each found.0 in
    within_from (link_at links n).previous (length links) (λ k is. below_has (length links) (at_list lists found.0) k here.below (previous_in links found.0 n k (at_list lists found.0) here.fits found.2 is))

pub next_within : (links : List Link) (heads : List (Option ℕ)) (lists : List (List ℕ)) (n : ℕ) → IsFamily links heads lists → is_listed n lists ≡ true → IsWithin (link_at links n).next (length links)
next_within links heads lists n family listed =
    let found = listed_at lists n listed in
    let here = family.each found.0 in
    within_from (link_at links n).next (length links) (λ k is.
    below_has (length links) (at_list lists found.0) k here.below (next_has n (at_list lists found.0) k (sym (next_is links found.0 n None (at_list lists found.0) here.fits found.2) ∙ is)))
