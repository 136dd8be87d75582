-- The parts of memory and their lists.
use Rattle.std.proofs.Common.{◌≡◌, ℕ, suc, ◌+◌, ◌-◌, ◌/◌, ◌<◌, Bool, true, false, not, ◌&&◌, ◌||◌, nat_eq, List, length, Option, Some, None, refl, sym, ap, ◌∙◌, arith}
use Rattle.lx_words.proofs.Tests.{and_true}
use Rattle.lx_caps.specs.Regions.{covers}
use Rattle.lx_cap_nodes.specs.Words.{nodes_at}
use Rattle.lx_cap_nodes.specs.Pieces.{part_list}
use Rattle.lx_cap_lists.specs.declared.entry.Entry.{Entry}
use Rattle.lx_cap_lists.specs.Tables.{count_in, work_in}
use Rattle.lx_cap_nodes.proofs.Ranges.{covered, covered_more, none_before, all_before}

-- bytes that are taken
untouched : (r c : Bool) → r ≡ (r && not (c && false))
untouched true true = refl
untouched true false = refl
untouched false c = refl

pub not_taken : (r c e : Bool) → e ≡ false → r ≡ (r && not (c && e))
not_taken r c e is = untouched r c ∙ ap (λ (t : Bool). r && not (c && t)) (sym is)

both_taken : (r c e : Bool) → ((r && not c) && not e) ≡ (r && not (c || e))
both_taken false c e = refl
both_taken true true e = refl
both_taken true false e = refl

pub taken_none : (r : Bool) (at size b : ℕ) → r ≡ (r && not (covered at size (at / 64) b))
taken_none r at size b = and_true r ∙ ap (λ (t : Bool). r && not t) (sym (none_before at size b))

pub taken_more : (r now new : Bool) (at size part b : ℕ) → now ≡ (r && not (covered at size part b)) → new ≡ (now && not (covers at size b && nat_eq part (b / 64))) → new ≡ (r && not (covered at size (part + 1) b))
taken_more r now new at size part b was is =
    is ∙ ap (λ (t : Bool). t && not (covers at size b && nat_eq part (b / 64))) was
    ∙ both_taken r (covered at size part b) (covers at size b && nat_eq part (b / 64))
    ∙ ap (λ (t : Bool). r && not t) (sym (covered_more at size part b))

pub taken_all : (r now : Bool) (at size end b : ℕ) → 0 < size → end ≡ (at + size + 63) / 64 → now ≡ (r && not (covered at size end b)) → now ≡ (r && not (covers at size b))
taken_all r now at size end b some is was = was ∙ ap (λ (t : Bool). r && not t) (all_before at size b end some is)

-- the work of one part more
pub work_more : (places : List (List (ℕ × Entry))) (part end : ℕ) → part < end → work_in places part (end - part) ≡ 1 + count_in places (part_list part) + work_in places (part + 1) (end - (part + 1))
work_more places part end lt = ap (work_in places part) (let e : end - part ≡ suc (end - (part + 1)) = omega arith in e)

-- a part's count by lists that are the same there
pub same_count_by : (first now : List (List (ℕ × Entry))) (o : Option ℕ) → ((k : ℕ) → o ≡ Some k → nodes_at now k ≡ nodes_at first k) → count_in now o ≡ count_in first o
same_count_by first now None h = refl
same_count_by first now (Some k) h = ap length (h k refl)

pub same_count : (first now : List (List (ℕ × Entry))) (part : ℕ) → ((k : ℕ) → part_list part ≡ Some k → nodes_at now k ≡ nodes_at first k) → count_in now (part_list part) ≡ count_in first (part_list part)
same_count first now part h = same_count_by first now (part_list part) h
