-- Whole texts: reading and the grammar agree.
use Rattle.std.proofs.Common.{◌≡◌, ℕ, zero, suc, ◌+◌, ◌≤◌, ◌<◌, Option, Some, None, List, [], ◌∷◌, ◌++◌, length, map, Result, Ok, Err, refl, sym, ap, ◌∙◌, subst, append_assoc, codes, arith}
use Rattle.std.proofs.lemmas.List.{length-append, length-map, append-nil}
use Rattle.lx_words.specs.declared.token.TokenRule.TheVariants as rules
use Rattle.lx_words.specs.declared.token.Token.{Token}
use Rattle.lx_words.specs.declared.token.Stop.{Stop}
use Rattle.lx_words.specs.Cuts.{OneWay, Scans}
use Rattle.lx_annot.specs.declared.expr.Ty.{Ty}
use Rattle.lx_annot.specs.declared.interface.Interface.{Interface}
use Rattle.lx_annot_expressions.specs.Tokens.{Tok, tok_of, toks_of, most_tokens}
use Rattle.lx_annot_expressions.specs.Reading.{Read, ◌>>=◌, next_at}
use Rattle.lx_annot_expressions.specs.Grammar.{Part, Is, ◌then◌}
use Rattle.lx_annot_expressions.specs.Laws.{Reads, Finds}
use Rattle.lx_annot_expressions.proofs.Parts.{bind_reads, bind_finds, next_reads, next_finds}
use Rattle.lx_annot_read.specs.declared.fault.Met.{Met}
use Rattle.lx_annot_read.specs.declared.fault.InterfaceFault.{InterfaceFault}
use Rattle.lx_annot_read.specs.Faults.{met_at_end, lexical, answered}
use Rattle.lx_annot_read.specs.Interfaces.{empty}
use Rattle.lx_annot_read.specs.Texts.{seen, rest_behind, ◌and_then◌, ended}
use Rattle.lx_annot_laws.proofs.TextLaws.{and_ok, ok_same, err_same, apart, further, limited_read, limited_ok, Front, front_found}
use Rattle.lx_cproto.specs.Types.{type_at, base_at}
use Rattle.lx_cproto.specs.Statements.{Declared, nothing, now, opened, closed, step_at}
use Rattle.lx_cproto.specs.Texts.{head_at, first_at, more_at, body_at, end_by, end_at, interface_at, SaysPrototypes, FirstPrototypeFault}
use Rattle.lx_annot_laws.specs.Declarations.{Member, Plain, Holds, Declaration, OfReftype, OfIterator, OfPrototype, OfStruct, name_of, with_member, IsMember, MemberInLine, StandsInside, AreMembers, IsOpening, IsClosing, IsStruct, IsPlain, IsInLine, with_plain, Stands, Declares, structs_behind, AreDeclarations, IsHead, ArePrototypes}
use Rattle.lx_annot_laws.proofs.Typing.{HasToken, is_some as is_one, then_some}
use Rattle.lx_annot_laws.proofs.DeclarationLaws.{made}
use Rattle.lx_annot_laws.proofs.StepLaws.{plain_step, opening_step, closing_step, member_step, FoundOutside, IsDeclared, Opens, FoundInside, Closes, Adds, outside_found, inside_found}

abbrev outside : Interface → List (List ℕ) → Declared
outside i structs = record { interface = i; structs = structs; inside = None; members = [] }

abbrev inside : Interface → List (List ℕ) → List ℕ → List (List ℕ) → Declared
inside i structs s names = record { interface = i; structs = structs; inside = Some s; members = names }

module _ (text : List ℕ) where
  -- Tokens that are read in one step.
  record Segment (d e : Declared) (tokens : List Token) : Type 0 where
    first : Token
    more : List Token
    whole : tokens ≡ first ∷ more
    short : length tokens ≤ most_tokens
    reads : (us : List Tok) → step_at first.line d (toks_of text tokens ++ us) ≡ Ok (e, us)

  -- so many steps
  abbrev Chain : ℕ → Declared → Declared → List Token → Type 0
  Chain zero d e tokens = (d ≡ e) × (tokens ≡ [])
  Chain (suc n) d e tokens = (k : Declared) × (front : List Token) × (back : List Token) × Segment d k front × Chain n k e back × (tokens ≡ front ++ back)

  chain_append : (m n : ℕ) (d k e : Declared) (xs ys : List Token) → Chain m d k xs → Chain n k e ys → Chain (m + n) d e (xs ++ ys)
  chain_append zero n d k e xs ys (same, none) more =
      let count : n ≡ 0 + n = omega arith in
      subst (λ x. Chain x d e (xs ++ ys)) count (subst (λ (x : Declared). Chain n x e (xs ++ ys)) (sym same) (subst (Chain n k e) (ap (λ x. x ++ ys) (sym none)) more))
  chain_append (suc m) n d k e xs ys (j, front, back, one, rest, w) more =
      let count : suc (m + n) ≡ suc m + n = omega arith in
      let all : Chain (suc (m + n)) d e (xs ++ ys) = (j, front, back ++ ys, one, chain_append m n j k e back ys rest more, ap (λ x. x ++ ys) w ∙ append_assoc front back ys) in
      subst (λ x. Chain x d e (xs ++ ys)) count all

  chain_one : (d e : Declared) (tokens : List Token) → Segment d e tokens → Chain 1 d e tokens
  chain_one d e tokens one = (e, tokens, [], one, (refl, refl), sym (append-nil tokens))

  -- Declarations are steps.

  plain_segment : (i : Interface) (structs : List (List ℕ)) (x : Declaration) (tokens : List Token) → Stands text i x tokens → Segment (outside i structs) (outside (with_plain i x) structs) tokens
  plain_segment i structs x tokens is = record {
    first = is.first;
    more = is.more;
    whole = is.whole;
    short = is.short;
    reads = λ us. plain_step is.first.line (outside i structs) refl x (toks_of text tokens) us is.line is.is;
  }

  record Begun (tokens : List Token) : Type 0 where
    head : Token
    others : List Token
    are : tokens ≡ head ∷ others

  begun : (n : ℕ) (tokens : List Token) → length (toks_of text tokens) ≡ suc n → Begun tokens
  begun n [] e = absurd (omega (arith, e))
  begun n (t ∷ ts) e = record { head = t; others = ts; are = refl }

  opening_length : (structs : List (List ℕ)) (name : List ℕ) (ts : List Tok) → IsOpening structs name ts → length ts ≡ 3
  opening_length structs name ts (f, b, (t, h, g), (f1, b1, (n, fresh, g1), (c, brace, g2), w1), w) =
      ap length (w ∙ (λ i. g i ++ (w1 ∙ (λ k. g1 k ++ g2 k)) i))

  closing_length : (ts : List Tok) → IsClosing ts → length ts ≡ 2
  closing_length ts (f, b, (t, h, g), (c, end, g1), w) = ap length (w ∙ (λ i. g i ++ g1 i))

  opening_segment : (i : Interface) (structs : List (List ℕ)) (name : List ℕ) (tokens : List Token) → IsOpening structs name (toks_of text tokens) → Segment (outside i structs) (inside i (structs ++ name ∷ []) name []) tokens
  opening_segment i structs name tokens is =
      let n = opening_length structs name (toks_of text tokens) is in
      let b = begun 2 tokens n in
      let m = length-map tokens (tok_of text) in
      record {
        first = b.head;
        more = b.others;
        whole = b.are;
        short = omega (arith, n, m);
        reads = λ us. opening_step b.head.line (outside i structs) refl name (toks_of text tokens) us is;
      }

  closing_segment : (i : Interface) (structs : List (List ℕ)) (s : List ℕ) (names : List (List ℕ)) (tokens : List Token) → IsClosing (toks_of text tokens) → Segment (inside i structs s names) (outside i structs) tokens
  closing_segment i structs s names tokens is =
      let n = closing_length (toks_of text tokens) is in
      let b = begun 1 tokens n in
      let m = length-map tokens (tok_of text) in
      record {
        first = b.head;
        more = b.others;
        whole = b.are;
        short = omega (arith, n, m);
        reads = λ us. closing_step b.head.line (inside i structs s names) s refl (toks_of text tokens) us is;
      }

  member_segment : (i : Interface) (structs : List (List ℕ)) (s : List ℕ) (names : List (List ℕ)) (m : Member) (tokens : List Token) → StandsInside text i names m tokens → Segment (inside i structs s names) (inside (with_member s (length names) i m) structs s (names ++ name_of m ∷ [])) tokens
  member_segment i structs s names m tokens is = record {
    first = is.first;
    more = is.more;
    whole = is.whole;
    short = is.short;
    reads = λ us. member_step is.first.line (inside i structs s names) s refl m (toks_of text tokens) us is.line is.is;
  }

  abbrev MembersChain : List (List ℕ) → List ℕ → Interface → List (List ℕ) → Interface → List Token → Type 0
  MembersChain structs s i names j tokens = (n : ℕ) × (all : List (List ℕ)) × Chain n (inside i structs s names) (inside j structs s all) tokens

  members_chain : (structs : List (List ℕ)) (s : List ℕ) (ms : List Member) (i j : Interface) (names : List (List ℕ)) (tokens : List Token) → AreMembers text s i names ms j tokens → MembersChain structs s i names j tokens
  members_chain structs s [] i j names tokens (same, none) = (0, names, (ap (λ x. inside x structs s names) same, none))
  members_chain structs s (m ∷ ms) i j names tokens (front, back, is, are, w) =
      let (n, all, more) = members_chain structs s ms (with_member s (length names) i m) j (names ++ name_of m ∷ []) back are in
      (suc n, all, (inside (with_member s (length names) i m) structs s (names ++ name_of m ∷ []), front, back, member_segment i structs s names m front is, more, w))

  abbrev DeclaredChain : Interface → List (List ℕ) → Interface → List (List ℕ) → List Token → Type 0
  DeclaredChain i structs j known tokens = (n : ℕ) × Chain n (outside i structs) (outside j known) tokens

  struct_chain : (i : Interface) (structs : List (List ℕ)) (name : List ℕ) (ms : List Member) (j : Interface) (tokens : List Token) → IsStruct text i structs name ms j tokens → DeclaredChain i structs j (structs ++ name ∷ []) tokens
  struct_chain i structs name ms j tokens is =
      let all = structs ++ name ∷ [] in
      let (n, names, body) = members_chain all name ms i j [] is.body is.members in
      let start = chain_one (outside i structs) (inside i all name []) is.front (opening_segment i structs name is.front is.opens) in
      let end = chain_one (inside j all name names) (outside j all) is.back (closing_segment j all name names is.back is.closes) in
      let rest = chain_append n 1 (inside i all name []) (inside j all name names) (outside j all) is.body is.back body end in
      (1 + (n + 1), subst (Chain (1 + (n + 1)) (outside i structs) (outside j all)) (sym is.whole) (chain_append 1 (n + 1) (outside i structs) (inside i all name []) (outside j all) is.front (is.body ++ is.back) start rest))

  plain_chain : (i : Interface) (structs : List (List ℕ)) (x : Declaration) (k : Interface) (tokens : List Token) → Stands text i x tokens → k ≡ with_plain i x → DeclaredChain i structs k structs tokens
  plain_chain i structs x k tokens is same =
      (1, subst (λ y. Chain 1 (outside i structs) (outside y structs) tokens) (sym same) (chain_one (outside i structs) (outside (with_plain i x) structs) tokens (plain_segment i structs x tokens is)))

  declared_chain : (i : Interface) (structs : List (List ℕ)) (x : Declaration) (k : Interface) (tokens : List Token) → Declares text i structs x k tokens → DeclaredChain i structs k (structs_behind structs x) tokens
  declared_chain i structs (OfReftype name) k tokens (is, same) = plain_chain i structs (OfReftype name) k tokens is same
  declared_chain i structs (OfIterator x) k tokens (is, same) = plain_chain i structs (OfIterator x) k tokens is same
  declared_chain i structs (OfPrototype x) k tokens (is, same) = plain_chain i structs (OfPrototype x) k tokens is same
  declared_chain i structs (OfStruct name ms) k tokens is = struct_chain i structs name ms k tokens is

  all_chain : (ds : List Declaration) (i j : Interface) (structs : List (List ℕ)) (tokens : List Token) → AreDeclarations text i structs ds j tokens → (known : List (List ℕ)) × DeclaredChain i structs j known tokens
  all_chain [] i j structs tokens (same, none) = (structs, (0, (ap (λ x. outside x structs) same, none)))
  all_chain (x ∷ ds) i j structs tokens (k, front, back, is, are, w) =
      let (n, one) = declared_chain i structs x k front is in
      let (known, (m, more)) = all_chain ds k j (structs_behind structs x) back are in
      (known, (n + m, subst (Chain (n + m) (outside i structs) (outside j known)) (sym w) (chain_append n m (outside i structs) (outside k (structs_behind structs x)) (outside j known) front back one more)))

  -- Steps are read.

  segment_read : (d e : Declared) (front back : List Token) (is : Segment d e front) → more_at text None is.first.line d (front ++ back) ≡ Ok (e, back)
  unfolding more_at
  segment_read d e front back is = limited_read text None (step_at is.first.line d) e front back is.short (is.reads (further text None front back))

  step : (n : ℕ) (d e : Declared) (t : Token) (more rest : List Token) → more_at text None t.line d (t ∷ more) ≡ Ok (e, rest) → body_at text None (suc n) d (t ∷ more) ≡ body_at text None n e rest
  unfolding body_at
  step n d e t more rest h = rw h refl

  at_end : (n : ℕ) (d : Declared) → body_at text None n d [] ≡ Ok d
  unfolding body_at
  at_end zero d = refl
  at_end (suc n) d = refl

  body_read : (fuel n : ℕ) (d e : Declared) (tokens : List Token) → length tokens ≤ fuel → Chain n d e tokens → body_at text None fuel d tokens ≡ Ok e
  body_read fuel zero d e tokens le (same, none) = ap (body_at text None fuel d) none ∙ at_end fuel d ∙ ap Ok same
  body_read zero (suc n) d e tokens le (k, front, back, is, rest, w) =
      let size : length tokens ≡ suc (length (is.more ++ back)) = ap length (w ∙ ap (λ x. x ++ back) is.whole) in
      absurd (omega (arith, size, le))
  body_read (suc fuel) (suc n) d e tokens le (k, front, back, is, rest, w) =
      let all : front ++ back ≡ is.first ∷ (is.more ++ back) = ap (λ x. x ++ back) is.whole in
      let size : length tokens ≡ suc (length (is.more ++ back)) = ap length (w ∙ all) in
      let more : length (is.more ++ back) ≡ length is.more + length back = length-append is.more back in
      ap (body_at text None (suc fuel) d) (w ∙ all)
      ∙ step fuel d k is.first (is.more ++ back) back (subst (λ x. more_at text None is.first.line d x ≡ Ok (k, back)) all (segment_read d k front back is))
      ∙ body_read fuel n k e back (omega (arith, size, more, le)) rest

  -- The head.

  head_read : Reads head_at tt IsHead
  unfolding head_at
  head_read = bind_reads (next_at (codes "lxfi_c")) (λ w. next_at (codes "1") w.1) tt tt _ _ (next_reads (codes "lxfi_c")) (next_reads (codes "1"))

  head_length : (ts : List Tok) → IsHead ts → length ts ≡ 2
  head_length ts (f, b, (t, h, g), (u, k, l), w) = ap length (w ∙ (λ i. g i ++ l i))

  first_read : (head body : List Token) → IsHead (toks_of text head) → first_at text None (head ++ body) ≡ Ok (tt, body)
  unfolding first_at
  first_read head body is =
      let a : length (toks_of text head) ≡ length head = length-map head (tok_of text) in
      let b = head_length (toks_of text head) is in
      limited_read text None head_at tt head body (omega (arith, a, b)) (head_read (toks_of text head) (further text None head body) is)

  all_read : (tokens body : List Token) (i : Interface) (known : List (List ℕ)) → first_at text None tokens ≡ Ok (tt, body) → body_at text None (length body) nothing body ≡ Ok (outside i known) → interface_at text None tokens ≡ Ok i
  unfolding interface_at
  all_read tokens body i known f e = rw (f, e) refl

  -- a text that is an interface is read as it
  pub prototypes_read : (i : Interface) → ArePrototypes text i → SaysPrototypes text i
  prototypes_read i is =
      let (known, (n, chain)) = all_chain is.declarations empty i [] is.body is.are in
      (is.tokens, None, is.scans, all_read is.tokens is.body i known (ap (first_at text None) is.whole ∙ first_read is.head is.body is.begins) (body_read (length is.body) n nothing (outside i known) is.body (omega arith) chain))

  -- Steps are found.

  -- what was declared, from outside a struct, or from inside this one
  record Ending (s : List ℕ) (d e : Declared) (tokens : List Token) : Type 0 where
    members : List Member
    interface : Interface
    body : List Token
    back : List Token
    rest : List Token
    are : AreMembers text s d.interface d.members members interface body
    closes : IsClosing (toks_of text back)
    whole : tokens ≡ body ++ (back ++ rest)
    declarations : List Declaration
    further_are : AreDeclarations text interface d.structs declarations e.interface rest

  abbrev Found : Option (List ℕ) → Declared → Declared → List Token → Type 0
  Found None d e tokens = (ds : List Declaration) × AreDeclarations text d.interface d.structs ds e.interface tokens
  Found (Some s) d e tokens = Ending s d e tokens

  ended_here : (o : Option (List ℕ)) (d e : Declared) → d.inside ≡ o → e.inside ≡ None → d ≡ e → Found o d e []
  ended_here None d e a b same = ([], (ap (λ (x : Declared). x.interface) same, refl))
  ended_here (Some s) d e a b same = let f : Some s ≡ None = sym a ∙ ap (λ (x : Declared). x.inside) same ∙ b in cc

  first_of : (t u : Token) (ts us : List Token) → t ∷ ts ≡ u ∷ us → t ≡ u
  first_of t u ts us e = cc

  line_first : (x : Declaration) (t u : Token) (ts us : List Token) → t ∷ ts ≡ u ∷ us → IsInLine t.line x → IsInLine u.line x
  line_first x t u ts us e l = subst (λ (y : Token). IsInLine y.line x) (first_of t u ts us e) l

  no_type : (x : Ty) (us : List Tok) → type_at [] ≡ Ok (x, us) → ⊥
  unfolding type_at base_at
  no_type x us e = cc

  declaration_some : (i : Interface) (x : Declaration) → HasToken (IsPlain i x)
  declaration_some i (OfReftype name) is = then_some (Is (codes "reftype")) _ (is_one (codes "reftype")) is
  declaration_some i (OfIterator x) is = then_some (Is (codes "iterator")) _ (is_one (codes "iterator")) is
  declaration_some i (OfPrototype x) (none, (rest, read, is)) = no_type x.ret rest read
  declaration_some i (OfStruct name ms) is = is

  member_some : (i : Interface) (names : List (List ℕ)) (m : Member) → HasToken (IsMember i names m)
  member_some i names (Plain name) (t, (v, (rest, read, is))) = no_type t rest read
  member_some i names (Holds s) (rest, read, is) = no_type s.ret rest read

  stands_by : (i : Interface) (x : Declaration) (t : Token) (more front rest : List Token) → t ∷ more ≡ front ++ rest → length front ≤ most_tokens → IsInLine t.line x → IsPlain i x (toks_of text front) → Stands text i x front
  stands_by i x t more [] rest e short line is = absurd (declaration_some i x is)
  stands_by i x t more (u ∷ us) rest e short line is =
      record { first = u; more = us; whole = refl; short = short; line = line_first x t u more (us ++ rest) e line; is = is }

  member_line_first : (m : Member) (t u : Token) (ts us : List Token) → t ∷ ts ≡ u ∷ us → MemberInLine t.line m → MemberInLine u.line m
  member_line_first m t u ts us e l = subst (λ (y : Token). MemberInLine y.line m) (first_of t u ts us e) l

  inside_by : (i : Interface) (names : List (List ℕ)) (m : Member) (t : Token) (more front rest : List Token) → t ∷ more ≡ front ++ rest → length front ≤ most_tokens → MemberInLine t.line m → IsMember i names m (toks_of text front) → StandsInside text i names m front
  inside_by i names m t more [] rest e short line is = absurd (member_some i names m is)
  inside_by i names m t more (u ∷ us) rest e short line is =
      record { first = u; more = us; whole = refl; short = short; line = member_line_first m t u more (us ++ rest) e line; is = is }

  some_length : (q : Part) (front : List Token) → HasToken q → q (toks_of text front) → 1 ≤ length front
  some_length q [] some is = absurd (some is)
  some_length q (t ∷ ts) some is = omega arith

  fewer : (n : ℕ) (tokens front rest : List Token) → tokens ≡ front ++ rest → 1 ≤ length front → length tokens ≤ suc n → length rest ≤ n
  fewer n tokens front rest w some le = let size = ap length w ∙ length-append front rest in omega (arith, size, some, le)

  declares_plain : (i : Interface) (structs : List (List ℕ)) (x : Declaration) (tokens : List Token) → Stands text i x tokens → Declares text i structs x (with_plain i x) tokens
  declares_plain i structs (OfReftype name) tokens is = (is, refl)
  declares_plain i structs (OfIterator x) tokens is = (is, refl)
  declares_plain i structs (OfPrototype x) tokens is = (is, refl)
  declares_plain i structs (OfStruct name ms) tokens is = absurd is.is

  same_structs : (i : Interface) (structs : List (List ℕ)) (x : Declaration) (ts : List Tok) → IsPlain i x ts → structs_behind structs x ≡ structs
  same_structs i structs (OfReftype name) ts is = refl
  same_structs i structs (OfIterator x) ts is = refl
  same_structs i structs (OfPrototype x) ts is = refl
  same_structs i structs (OfStruct name ms) ts is = absurd is

  abbrev Next : ℕ → Declared → Type 0
  Next n e = (d : Declared) (tokens : List Token) → length tokens ≤ n → body_at text None n d tokens ≡ Ok e → (o : Option (List ℕ)) → d.inside ≡ o → Found o d e tokens

  abbrev Rest : ℕ → Declared → Declared → List Token → Type 0
  Rest n k e rest = body_at text None n k rest ≡ Ok e

  module _ (n : ℕ) (e : Declared) (next : Next n e) (d : Declared) (t : Token) (more : List Token) where
    abbrev tokens : List Token
    tokens = t ∷ more

    declared_more : d.inside ≡ None → length tokens ≤ suc n → (k : Declared) (rest : List Token) (x : Declaration) → IsInLine t.line x → Front text None (IsPlain d.interface x) tokens rest → k ≡ now d (with_plain d.interface x) → Rest n k e rest → Found None d e tokens
    declared_more o le k rest x l f same go =
        let some = some_length (IsPlain d.interface x) f.front (declaration_some d.interface x) f.is in
        let stands = stands_by d.interface x t more f.front rest f.whole f.short l f.is in
        let all = next (now d (with_plain d.interface x)) rest (fewer n tokens f.front rest f.whole some le) (subst (λ y. Rest n y e rest) same go) None o in
        (x ∷ all.0, (with_plain d.interface x, f.front, rest, declares_plain d.interface d.structs x f.front stands, subst (λ y. AreDeclarations text (with_plain d.interface x) y all.0 e.interface rest) (sym (same_structs d.interface d.structs x (toks_of text f.front) f.is)) all.1, f.whole))

    opened_more : length tokens ≤ suc n → (k : Declared) (rest : List Token) (name : List ℕ) → Front text None (IsOpening d.structs name) tokens rest → k ≡ opened d name → Rest n k e rest → Found None d e tokens
    opened_more le k rest name f same go =
        let some = some_length (IsOpening d.structs name) f.front (then_some (Is (codes "struct")) _ (is_one (codes "struct"))) f.is in
        let all : Ending name (opened d name) e rest = next (opened d name) rest (fewer n tokens f.front rest f.whole some le) (subst (λ y. Rest n y e rest) same go) (Some name) refl in
        let struct : IsStruct text d.interface d.structs name all.members all.interface (f.front ++ (all.body ++ all.back)) =
        record { front = f.front; body = all.body; back = all.back; whole = refl; opens = f.is; members = all.are; closes = all.closes } in
        let whole : tokens ≡ (f.front ++ (all.body ++ all.back)) ++ all.rest =
        f.whole ∙ ap (λ y. f.front ++ y) (all.whole ∙ sym (append_assoc all.body all.back all.rest)) ∙ sym (append_assoc f.front (all.body ++ all.back) all.rest) in
        (OfStruct name all.members ∷ all.declarations, (all.interface, f.front ++ (all.body ++ all.back), all.rest, struct, all.further_are, whole))

    outside_more : d.inside ≡ None → length tokens ≤ suc n → (k : Declared) (rest : List Token) (us : List Tok) → rest_behind tokens us ≡ rest → FoundOutside t.line d k (seen text tokens) us → Rest n k e rest → Found None d e tokens
    outside_more o le k rest us same (IsDeclared x l front is w eq) go =
        declared_more o le k rest x l (subst (Front text None (IsPlain d.interface x) tokens) same (front_found text None (IsPlain d.interface x) tokens us front is w)) eq go
    outside_more o le k rest us same (Opens name front is w eq) go =
        opened_more le k rest name (subst (Front text None (IsOpening d.structs name) tokens) same (front_found text None (IsOpening d.structs name) tokens us front is w)) eq go

    closed_more : (s : List ℕ) → length tokens ≤ suc n → (k : Declared) (rest : List Token) → Front text None IsClosing tokens rest → k ≡ closed d → Rest n k e rest → Found (Some s) d e tokens
    closed_more s le k rest f same go =
        let some = some_length IsClosing f.front (then_some (Is (codes "}")) _ (is_one (codes "}"))) f.is in
        let all = next (closed d) rest (fewer n tokens f.front rest f.whole some le) (subst (λ y. Rest n y e rest) same go) None refl in
        record { members = []; interface = d.interface; body = []; back = f.front; rest = rest; are = (refl, refl); closes = f.is; whole = f.whole; declarations = all.0; further_are = all.1 }

    added_more : (s : List ℕ) → d.inside ≡ Some s → length tokens ≤ suc n → (k : Declared) (rest : List Token) (m : Member) → MemberInLine t.line m → Front text None (IsMember d.interface d.members m) tokens rest → k ≡ made t.line s d (with_member s (length d.members) d.interface m) (name_of m) → Rest n k e rest → Found (Some s) d e tokens
    added_more s o le k rest m l f same go =
        let some = some_length (IsMember d.interface d.members m) f.front (member_some d.interface d.members m) f.is in
        let j = made t.line s d (with_member s (length d.members) d.interface m) (name_of m) in
        let all : Ending s j e rest = next j rest (fewer n tokens f.front rest f.whole some le) (subst (λ y. Rest n y e rest) same go) (Some s) o in
        record {
          members = m ∷ all.members;
          interface = all.interface;
          body = f.front ++ all.body;
          back = all.back;
          rest = all.rest;
          are = (f.front, all.body, inside_by d.interface d.members m t more f.front rest f.whole f.short l f.is, all.are, refl);
          closes = all.closes;
          whole = f.whole ∙ ap (λ y. f.front ++ y) all.whole ∙ sym (append_assoc f.front all.body (all.back ++ all.rest));
          declarations = all.declarations;
          further_are = all.further_are;
        }

    inside_more : (s : List ℕ) → d.inside ≡ Some s → length tokens ≤ suc n → (k : Declared) (rest : List Token) (us : List Tok) → rest_behind tokens us ≡ rest → FoundInside t.line d s k (seen text tokens) us → Rest n k e rest → Found (Some s) d e tokens
    inside_more s o le k rest us same (Closes front is w eq) go =
        closed_more s le k rest (subst (Front text None IsClosing tokens) same (front_found text None IsClosing tokens us front is w)) eq go
    inside_more s o le k rest us same (Adds m l front is w eq) go =
        added_more s o le k rest m l (subst (Front text None (IsMember d.interface d.members m) tokens) same (front_found text None (IsMember d.interface d.members m) tokens us front is w)) eq go

    step_more : length tokens ≤ suc n → (k : Declared) (rest : List Token) → more_at text None t.line d tokens ≡ Ok (k, rest) → Rest n k e rest → (o : Option (List ℕ)) → d.inside ≡ o → Found o d e tokens
    unfolding more_at
    step_more le k rest is go None o =
        let (us, r, same) = limited_ok text None tokens k rest (step_at t.line d (seen text tokens)) is in
        outside_more o le k rest us same (outside_found t.line d o k (seen text tokens) us r) go
    step_more le k rest is go (Some s) o =
        let (us, r, same) = limited_ok text None tokens k rest (step_at t.line d (seen text tokens)) is in
        inside_more s o le k rest us same (inside_found t.line d s o k (seen text tokens) us r) go

  body_found : (n : ℕ) (e : Declared) → e.inside ≡ None → Next n e
  unfolding body_at
  body_found zero e out d [] le is o at = ended_here o d e at out (ok_same d e (Ok d) refl is)
  body_found zero e out d (t ∷ more) le is o at = absurd (omega (arith, le))
  body_found (suc n) e out d [] le is o at = ended_here o d e at out (ok_same d e (Ok d) refl is)
  body_found (suc n) e out d (t ∷ more) le is o at =
      let x = and_ok (more_at text None t.line d (t ∷ more)) (λ k. body_at text None n k.0 k.1) e is in
      step_more n e (body_found n e out) d t more le x.0.0 x.0.1 x.1 x.2 o at

  abbrev HeadParts : Unit {0} → Part
  HeadParts u = IsHead

  head_found : Finds head_at HeadParts
  unfolding head_at
  head_found ts us u e =
      let w = bind_finds (next_at (codes "lxfi_c")) (λ w. next_at (codes "1") w.1) (λ (w : Unit {0}). Is (codes "lxfi_c")) (λ w. λ (x : Unit {0}). Is (codes "1")) (next_finds (codes "lxfi_c")) (λ w. next_finds (codes "1")) ts us u e in
      (w.0, w.1.1, w.2)

  first_found : (tokens body : List Token) (u : Unit {0}) → first_at text None tokens ≡ Ok (u, body) → Front text None IsHead tokens body
  unfolding first_at
  first_found tokens body u e =
      let (us, r, same) = limited_ok text None tokens u body (head_at (seen text tokens)) e in
      let h = head_found (seen text tokens) us u r in
      subst (Front text None IsHead tokens) same (front_found text None IsHead tokens us h.0 h.1 h.2)

  record Parted (stop : Option Stop) (tokens : List Token) (i : Interface) : Type 0 where
    no_stop : stop ≡ None
    head : Unit {0}
    body : List Token
    last : Declared
    out : last.inside ≡ None
    says : last.interface ≡ i
    head_is : first_at text None tokens ≡ Ok (head, body)
    body_is : body_at text None (length body) nothing body ≡ Ok last

  ended_ok : (o : Option (List ℕ)) (tokens : List Token) (stop : Option Stop) (i j : Interface) → end_by o tokens stop i ≡ Ok j → (o ≡ None) × (stop ≡ None) × (i ≡ j)
  ended_ok None tokens None i j e = (refl, refl, ok_same i j (Ok i) refl e)
  ended_ok None tokens (Some s) i j e = absurd (apart j (lexical s) (Err (lexical s)) e refl)
  ended_ok (Some name) tokens stop i j e = absurd (apart j (met_at_end tokens stop) (Err (met_at_end tokens stop)) e refl)

  parted_by : (stop : Option Stop) (tokens : List Token) (i : Interface) (h : Unit {0} × List Token) (d : Declared) → first_at text stop tokens ≡ Ok h → body_at text stop (length h.1) nothing h.1 ≡ Ok d → (d.inside ≡ None) × (stop ≡ None) × (d.interface ≡ i) → Parted stop tokens i
  parted_by stop tokens i h d f b (out, none, same) =
      record {
        no_stop = none;
        head = h.0;
        body = h.1;
        last = d;
        out = out;
        says = same;
        head_is = subst (λ s. first_at text s tokens ≡ Ok h) none f;
        body_is = subst (λ s. body_at text s (length h.1) nothing h.1 ≡ Ok d) none b;
      }

  parted : (stop : Option Stop) (tokens : List Token) (i : Interface) → interface_at text stop tokens ≡ Ok i → Parted stop tokens i
  unfolding interface_at
  parted stop tokens i e =
      let h = and_ok (first_at text stop tokens) (λ h. body_at text stop (length h.1) nothing h.1 and_then λ d. end_at tokens stop d) i e in
      let b = and_ok (body_at text stop (length h.0.1) nothing h.0.1) (λ d. end_at tokens stop d) i h.2 in
      parted_by stop tokens i h.0 b.0 h.1 b.1 (ended_ok b.0.inside tokens stop b.0.interface i b.2)

  -- what is read of a text is an interface that it is
  pub prototypes_found : (i : Interface) → SaysPrototypes text i → ArePrototypes text i
  prototypes_found i (tokens, stop, scans, e) =
      let p = parted stop tokens i e in
      let h = first_found tokens p.body p.head p.head_is in
      let all = body_found (length p.body) p.last p.out nothing p.body (omega arith) p.body_is None refl in
      record {
        tokens = tokens;
        scans = subst (Scans rules.Prototype text tokens) p.no_stop scans;
        head = h.front;
        body = p.body;
        whole = h.whole;
        begins = h.is;
        declarations = all.0;
        are = subst (λ j. AreDeclarations text empty [] all.0 j p.body) p.says all.1;
      }

  -- One answer.

  scan_one : OneWay rules.Prototype text → (a b : List Token) (s t : Option Stop) → Scans rules.Prototype text a s → Scans rules.Prototype text b t → (a ≡ b) × (s ≡ t)
  scan_one one a b None None p q = (one.whole a b p q, refl)
  scan_one one a b None (Some t) p q = absurd (one.apart a b t p q)
  scan_one one a b (Some s) None p q = absurd (one.apart b a s q p)
  scan_one one a b (Some s) (Some t) p q = let k = one.stop a b s t p q in (k.0, ap Some k.1)

  pub one_interface : OneWay rules.Prototype text → (i j : Interface) → SaysPrototypes text i → SaysPrototypes text j → i ≡ j
  one_interface one i j (a, s, p, e) (b, t, q, f) =
      let k = scan_one one a b s t p q in
      ok_same i j (interface_at text t b) (ap (interface_at text t) (sym k.0) ∙ ap (λ r. interface_at text r a) (sym k.1) ∙ e) f

  pub one_fault : OneWay rules.Prototype text → (e f : InterfaceFault) → FirstPrototypeFault text e → FirstPrototypeFault text f → e ≡ f
  one_fault one e f (a, s, d, p, g, x) (b, t, m, q, h, y) =
      let k = scan_one one a b s t p q in
      x ∙ ap answered (err_same d m (interface_at text t b) (ap (interface_at text t) (sym k.0) ∙ ap (λ r. interface_at text r a) (sym k.1) ∙ g) h) ∙ sym y

  pub not_both : OneWay rules.Prototype text → (i : Interface) (f : InterfaceFault) → SaysPrototypes text i → FirstPrototypeFault text f → ⊥
  not_both one i f (a, s, p, e) (b, t, m, q, h, y) =
      let k = scan_one one a b s t p q in
      apart i m (interface_at text t b) (ap (interface_at text t) (sym k.0) ∙ ap (λ r. interface_at text r a) (sym k.1) ∙ e) h
