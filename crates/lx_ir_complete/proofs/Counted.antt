-- What the statements of a module define, by number: its types, globals and functions, in order.
use Rattle.std.proofs.Common.{◌≡◌, ◌⊎◌, inl, inr, ℕ, zero, suc, Bool, true, false, not, ◌||◌, ◌&&◌, List, [], ◌∷◌, ◌++◌, length, map, refl, sym, ap, ◌∙◌, subst, true≢false, Option, Some, None, slice_get, append_assoc}
use Rattle.std.specs.Prelude.{if◌then◌else◌, is_some, fold}
use Rattle.std.specs.List.{AllZip, AllByRecursion, list_all}
use Rattle.std.proofs.lemmas.Bool.{and_parts}
use Rattle.std.proofs.lemmas.List.{append-nil}
use Rattle.std.proofs.lemmas.Grind.{fold-append}
use Rattle.lx_words.specs.declared.token.Token.{Token}
use Rattle.lx_ir.specs.declared.types.NamedType.{NamedType}
use Rattle.lx_ir.specs.declared.module.GlobalVar.{GlobalVar}
use Rattle.lx_ir.specs.declared.module.Block.{Block}
use Rattle.lx_ir.specs.declared.module.Function.{Function}
use Rattle.lx_ir.specs.declared.module.Module.{Module}
use Rattle.lx_ir.specs.Lookup.{is_defined}
use Rattle.lx_ir.specs.Lawful.{imports_first, is_block_write as is_written}
use Rattle.lx_ir_tokens.specs.declared.token.Tok.{Tok}
use Rattle.lx_ir_tokens.specs.Names.{number_of}
use Rattle.lx_ir_terms.specs.Context.{Context}
use Rattle.lx_ir_calls.specs.declared.intrinsics.TextForm.{TextForm}
use Rattle.lx_ir_calls.specs.Writes.{block_write_named}
use Rattle.lx_ir_complete.proofs.PrintedCalls.{not_block}
use Rattle.lx_ir_complete.proofs.PrintedInits.{said_bytes}
use Rattle.lx_ir_statements.specs.declared.form.Statement.{Statement}
use Rattle.lx_ir_statements.specs.declared.form.Statement.TheVariants as statements
use Rattle.lx_ir_statements.specs.declared.defined.Defined.{Defined}
use Rattle.lx_ir_statements.specs.Defined.{with_statement, is_block_write}
use Rattle.lx_ir_tables.specs.Numbering.{Numbering, numbering, with_thing}
use Rattle.lx_ir_lawful.specs.Alike.{AlikeStatements}
use Rattle.lx_ir_complete.specs.Statements.{Own, OfType, OfGlobal, OfFunction}
use Rattle.lx_ir_read.specs.declared.first.Found.{Found}
use Rattle.lx_ir_read.specs.Tables.{with_type, with_global, with_import, with_function, types_of, globals_of, functions_of}
use Rattle.lx_ir_complete.specs.KnownTables.{AreOnce}
use Rattle.lx_ir_complete.specs.KnownLaws.{unknown}
use Rattle.lx_ir_complete.specs.First.{AreFound}
use Rattle.lx_ir_complete.specs.FirstLaws.{Defines}
use Rattle.lx_ir_complete.proofs.Placed.{number_at_place}
use Rattle.lx_ir_complete.proofs.RoundTripFirsts.{written_same}

-- Statements that are alike define the same.

type_step : (c e : Context) (m : Numbering) (s t : Statement) → AlikeStatements c e s t → with_type m t ≡ with_type m s
type_step c e m (statements.Type n a) (statements.Type k b) same = ap (λ x. with_thing m (Some x)) (sym same)
type_step c e m (statements.Global n a t i) (statements.Global k b u j) same = refl
type_step c e m (statements.Import n r ps) (statements.Import k s qs) same = refl
type_step c e m (statements.Function n r ps bs) (statements.Function k s qs ds) same = refl
type_step c e m s t same = absurd same

global_step : (c e : Context) (m : Numbering) (s t : Statement) → AlikeStatements c e s t → with_global m t ≡ with_global m s
global_step c e m (statements.Type n a) (statements.Type k b) same = refl
global_step c e m (statements.Global n a t i) (statements.Global k b u j) same = ap (λ x. with_thing m (Some x)) (sym same.0)
global_step c e m (statements.Import n r ps) (statements.Import k s qs) same = refl
global_step c e m (statements.Function n r ps bs) (statements.Function k s qs ds) same = refl
global_step c e m s t same = absurd same

function_step : (c e : Context) (m : Numbering) (s t : Statement) → AlikeStatements c e s t → with_function m t ≡ with_function m s
function_step c e m (statements.Type n a) (statements.Type k b) same = refl
function_step c e m (statements.Global n a t i) (statements.Global k b u j) same = refl
function_step c e m (statements.Import n r ps) (statements.Import k s qs) same = refl
function_step c e m (statements.Function n r ps bs) (statements.Function k s qs ds) same = ap (λ x. with_thing m (Some x)) (sym same.0)
function_step c e m s t same = absurd same

import_by : (c d : Context) (m : Numbering) (n k : ℕ) → c.names ≡ d.names → n ≡ k → (if is_block_write d k then m else with_thing m (Some k)) ≡ (if is_block_write c n then m else with_thing m (Some n))
import_by c d m n k names same =
    ap (λ x. if is_block_write d x then m else with_thing m (Some x)) (sym same) ∙ ap (λ b. if b then m else with_thing m (Some n)) (sym (written_same c d n names))

import_step : (c d e : Context) (m : Numbering) (s t : Statement) → c.names ≡ d.names → AlikeStatements c e s t → with_import d m t ≡ with_import c m s
import_step c d e m (statements.Type n a) (statements.Type k b) names same = refl
import_step c d e m (statements.Global n a t i) (statements.Global k b u j) names same = refl
import_step c d e m (statements.Import n r ps) (statements.Import k s qs) names same = import_by c d m n k names same.0
import_step c d e m (statements.Function n r ps bs) (statements.Function k s qs ds) names same = refl
import_step c d e m s t names same = absurd same

-- Tables of what was found.

module _ (form : TextForm) (places : List Token) (names : List (List ℕ)) where
  -- a table over what was found is the table over the statements
  folded : (p : Numbering → Own → Numbering) (q : Numbering → Found → Numbering)
      → ((m : Numbering) (s : Own) (f : Found) → s.context.names ≡ names → AlikeStatements s.context (unknown names) s.statement f.statement → q m f ≡ p m s)
      → (ss : List Own) (fs : List Found) (defined : Defined) (ts : List Tok) → AllByRecursion (λ s. s.context.names ≡ names) ss → AreFound form places names defined ss fs ts → (m : Numbering) → fold q m fs ≡ fold p m ss
  folded p q step [] [] defined ts all are m = refl
  folded p q step [] (f ∷ fs) defined ts all are m = absurd are
  folded p q step (s ∷ ss) [] defined ts all are m = absurd are
  folded p q step (s ∷ ss) (f ∷ fs) defined ts all (front, back, is, alike, left, more, w) m =
      folded p q step ss fs (with_statement s.context defined s.statement) back all.1 more (q m f) ∙ ap (λ x. fold p x ss) (step m s f all.0 alike)

-- Parts of a module.

module _ (names : List (List ℕ)) (once : AreOnce names) where
  counts : {X : Type 0} (p : Numbering → Own → Numbering) (name : X → List ℕ) (xs : List X) (ss : List Own) → AllZip (λ x s. (m : Numbering) → p m s ≡ with_thing m (number_of names (name x))) xs ss
      → (done : List (Option ℕ)) → fold p (numbering (length names) done) ss ≡ numbering (length names) (done ++ map (number_of names) (map name xs))
  counts p name [] [] each done = ap (numbering (length names)) (sym (append-nil done))
  counts p name [] (s ∷ ss) each done = absurd each
  counts p name (x ∷ xs) [] each done = absurd each
  counts p name (x ∷ xs) (s ∷ ss) each done =
      ap (λ m. fold p m ss) (each.0 (numbering (length names) done)) ∙ counts p name xs ss each.1 (done ++ number_of names (name x) ∷ []) ∙ ap (numbering (length names)) (append_assoc done (number_of names (name x) ∷ []) (map (number_of names) (map name xs)))

  stays : {X : Type 0} (p : Numbering → Own → Numbering) (xs : List X) (ss : List Own) → AllZip (λ x s. (m : Numbering) → p m s ≡ m) xs ss → (m : Numbering) → fold p m ss ≡ m
  stays p [] [] each m = refl
  stays p [] (s ∷ ss) each m = absurd each
  stays p (x ∷ xs) [] each m = absurd each
  stays p (x ∷ xs) (s ∷ ss) each m = ap (λ n. fold p n ss) (each.0 m) ∙ stays p xs ss each.1 m

  turned : {X : Type 0} (R S : X → Own → Type 0) → ((x : X) (s : Own) → R x s → S x s) → (xs : List X) (ss : List Own) → AllZip R xs ss → AllZip S xs ss
  turned R S f [] [] h = h
  turned R S f [] (s ∷ ss) h = absurd h
  turned R S f (x ∷ xs) [] h = absurd h
  turned R S f (x ∷ xs) (s ∷ ss) h = (f x s h.0, turned R S f xs ss h.1)

  abbrev a_type : Numbering → Own → Numbering
  a_type m s = with_type m s.statement

  abbrev a_global : Numbering → Own → Numbering
  a_global m s = with_global m s.statement

  abbrev an_import : Numbering → Own → Numbering
  an_import m s = with_import s.context m s.statement

  abbrev a_function : Numbering → Own → Numbering
  a_function m s = with_function m s.statement

  number_is : (c : Context) (n : ℕ) (name : List ℕ) → c.names ≡ names → slice_get c.names n ≡ Some name → Some n ≡ number_of names name
  number_is c n name e at = sym (number_at_place names once n name (ap (λ ns. slice_get ns n) (sym e) ∙ at))

  module _ (context : Context) (same : context.names ≡ names) where
    type_counts : (t : NamedType) (s : Own) → OfType context t s → (m : Numbering) → a_type m s ≡ with_thing m (number_of names t.name)
    type_counts t s (n, at, e) m = ap (a_type m) e ∙ ap (with_thing m) (number_is context n t.name same at)

    global_counts : (g : GlobalVar) (s : Own) → OfGlobal context g s → (m : Numbering) → a_global m s ≡ with_thing m (number_of names g.name)
    global_counts g s (n, at, e) m = ap (a_global m) e ∙ ap (with_thing m) (number_is context n g.name same at)

    type_is_no_global : (t : NamedType) (s : Own) → OfType context t s → (m : Numbering) → a_global m s ≡ m
    type_is_no_global t s (n, at, e) m = ap (a_global m) e

    type_is_no_import : (t : NamedType) (s : Own) → OfType context t s → (m : Numbering) → an_import m s ≡ m
    type_is_no_import t s (n, at, e) m = ap (an_import m) e

    type_is_no_function : (t : NamedType) (s : Own) → OfType context t s → (m : Numbering) → a_function m s ≡ m
    type_is_no_function t s (n, at, e) m = ap (a_function m) e

    global_is_no_type : (g : GlobalVar) (s : Own) → OfGlobal context g s → (m : Numbering) → a_type m s ≡ m
    global_is_no_type g s (n, at, e) m = ap (a_type m) e

    global_is_no_import : (g : GlobalVar) (s : Own) → OfGlobal context g s → (m : Numbering) → an_import m s ≡ m
    global_is_no_import g s (n, at, e) m = ap (an_import m) e

    global_is_no_function : (g : GlobalVar) (s : Own) → OfGlobal context g s → (m : Numbering) → a_function m s ≡ m
    global_is_no_function g s (n, at, e) m = ap (a_function m) e

  -- Functions.

  module _ (own : Function → Context) where
    abbrev Of : Function → Own → Type 0
    Of f s = OfFunction (own f) f s

    -- a function's context has these names, and its own is no block write's
    abbrev pub IsPlainFunction : Function → Type 0
    IsPlainFunction f = ((own f).names ≡ names) × (is_written f.name ≡ false)

    no_blocks : (f : Function) (bs : List Block) → is_defined f ≡ false → f.blocks ≡ Some bs → ⊥
    no_blocks f bs e some = true≢false (sym (ap is_some some) ∙ e)

    some_blocks : (f : Function) → is_defined f ≡ true → f.blocks ≡ None → ⊥
    some_blocks f e none = true≢false (sym e ∙ ap is_some none)

    import_counts : (f : Function) (s : Own) → is_defined f ≡ false → IsPlainFunction f → Of f s → (m : Numbering) → an_import m s ≡ with_thing m (number_of names f.name)
    import_counts f s import plain (n, at, inl (none, e)) m =
        let unwritten : is_block_write (own f) n ≡ false = ap (λ b. is_some (block_write_named b)) (said_bytes (own f) n f.name at) ∙ ap is_some (not_block f.name plain.1) in
        ap (an_import m) e ∙ ap (λ b. if b then m else with_thing m (Some n)) unwritten ∙ ap (with_thing m) (number_is (own f) n f.name plain.0 at)
    import_counts f s import plain (n, at, inr (bs, ds, some, same, e)) m = absurd (no_blocks f bs import some)

    import_is_no_function : (f : Function) (s : Own) → is_defined f ≡ false → Of f s → (m : Numbering) → a_function m s ≡ m
    import_is_no_function f s import (n, at, inl (none, e)) m = ap (a_function m) e
    import_is_no_function f s import (n, at, inr (bs, ds, some, same, e)) m = absurd (no_blocks f bs import some)

    function_counts : (f : Function) (s : Own) → is_defined f ≡ true → IsPlainFunction f → Of f s → (m : Numbering) → a_function m s ≡ with_thing m (number_of names f.name)
    function_counts f s body plain (n, at, inl (none, e)) m = absurd (some_blocks f body none)
    function_counts f s body plain (n, at, inr (bs, ds, some, same, e)) m = ap (a_function m) e ∙ ap (with_thing m) (number_is (own f) n f.name plain.0 at)

    function_is_no_import : (f : Function) (s : Own) → is_defined f ≡ true → Of f s → (m : Numbering) → an_import m s ≡ m
    function_is_no_import f s body (n, at, inl (none, e)) m = absurd (some_blocks f body none)
    function_is_no_import f s body (n, at, inr (bs, ds, some, same, e)) m = ap (an_import m) e

    function_is_no_type : (f : Function) (s : Own) → Of f s → (m : Numbering) → a_type m s ≡ m
    function_is_no_type f s (n, at, inl (none, e)) m = ap (a_type m) e
    function_is_no_type f s (n, at, inr (bs, ds, some, same, e)) m = ap (a_type m) e

    function_is_no_global : (f : Function) (s : Own) → Of f s → (m : Numbering) → a_global m s ≡ m
    function_is_no_global f s (n, at, inl (none, e)) m = ap (a_global m) e
    function_is_no_global f s (n, at, inr (bs, ds, some, same, e)) m = ap (a_global m) e

    all_defined : (fs : List Function) (ss : List Own) → AllZip Of fs ss → list_all is_defined fs ≡ true → AllByRecursion IsPlainFunction fs
        → AllZip (λ f s. (m : Numbering) → an_import m s ≡ m) fs ss × AllZip (λ f s. (m : Numbering) → a_function m s ≡ with_thing m (number_of names f.name)) fs ss
    all_defined [] [] h d plain = (tt, tt)
    all_defined [] (s ∷ ss) h d plain = absurd h
    all_defined (f ∷ fs) [] h d plain = absurd h
    all_defined (f ∷ fs) (s ∷ ss) h d plain =
        let both = and_parts (is_defined f) (list_all is_defined fs) d in
        let rest = all_defined fs ss h.1 both.1 plain.1 in
        ((function_is_no_import f s both.0 h.0, rest.0), (function_counts f s both.0 plain.0 h.0, rest.1))

    abbrev both_kinds : List Own → Numbering → Numbering
    both_kinds ss m = fold a_function (fold an_import m ss) ss

    function_by : (b : Bool) (f : Function) (fs : List Function) (s : Own) (ss : List Own) → is_defined f ≡ b → AllZip Of (f ∷ fs) (s ∷ ss) → (not b || list_all is_defined fs) ≡ true → AllByRecursion IsPlainFunction (f ∷ fs) → (done : List (Option ℕ))
        → ((more : List (Option ℕ)) → both_kinds ss (numbering (length names) more) ≡ numbering (length names) (more ++ map (number_of names) (map (λ g. g.name) fs)))
        → both_kinds (s ∷ ss) (numbering (length names) done) ≡ numbering (length names) (done ++ map (number_of names) (map (λ g. g.name) (f ∷ fs)))
    function_by true f fs s ss e h d plain done rest =
        let each = all_defined (f ∷ fs) (s ∷ ss) h (ap (λ b. b && list_all is_defined fs) e ∙ d) plain in
        ap (λ m. fold a_function m (s ∷ ss)) (stays an_import (f ∷ fs) (s ∷ ss) each.0 (numbering (length names) done)) ∙ counts a_function (λ g. g.name) (f ∷ fs) (s ∷ ss) each.1 done
    function_by false f fs s ss e h d plain done rest =
        let start : Numbering = numbering (length names) done in
        let added = import_counts f s e plain.0 h.0 start in
        ap (λ m. fold a_function m ss) (import_is_no_function f s e h.0 (fold an_import (an_import start s) ss)) ∙ ap (both_kinds ss) added ∙ rest (done ++ number_of names f.name ∷ [])
        ∙ ap (numbering (length names)) (append_assoc done (number_of names f.name ∷ []) (map (number_of names) (map (λ g. g.name) fs)))

    functions_counted : (fs : List Function) (ss : List Own) → AllZip Of fs ss → imports_first fs ≡ true → AllByRecursion IsPlainFunction fs → (done : List (Option ℕ)) → both_kinds ss (numbering (length names) done) ≡ numbering (length names) (done ++ map (number_of names) (map (λ g. g.name) fs))
    functions_counted [] [] h first plain done = ap (numbering (length names)) (sym (append-nil done))
    functions_counted [] (s ∷ ss) h first plain done = absurd h
    functions_counted (f ∷ fs) [] h first plain done = absurd h
    functions_counted (f ∷ fs) (s ∷ ss) h first plain done =
        let both = and_parts (not (is_defined f) || list_all is_defined fs) (imports_first fs) first in
        function_by (is_defined f) f fs s ss refl h both.0 plain done (λ more. functions_counted fs ss h.1 both.1 plain.1 more)

    -- The whole module.

    segments : (p : Numbering → Own → Numbering) (m : Numbering) (xs ys zs : List Own) → fold p m (xs ++ (ys ++ zs)) ≡ fold p (fold p (fold p m xs) ys) zs
    segments p m xs ys zs = fold-append p m xs (ys ++ zs) ∙ fold-append p (fold p m xs) ys zs

    pub counted : (form : TextForm) (places : List Token) (context : Context) → context.names ≡ names
        → (types : List NamedType) (globals : List GlobalVar) (functions : List Function) (xs ys zs : List Own)
        → AllZip (OfType context) types xs → AllZip (OfGlobal context) globals ys → AllZip Of functions zs
        → imports_first functions ≡ true → AllByRecursion IsPlainFunction functions
        → (fs : List Found) (defined : Defined) (ts : List Tok) → AllByRecursion (λ s. s.context.names ≡ names) (xs ++ (ys ++ zs)) → AreFound form places names defined (xs ++ (ys ++ zs)) fs ts
        → Defines names (record { types = types; globals = globals; functions = functions }) fs
    counted form places context same types globals functions xs ys zs a b c first plain fs defined ts all are =
        let none : Numbering = numbering (length names) [] in
        let types_told = folded form places names a_type (λ t f. with_type t f.statement) (λ m s f e alike. type_step s.context (unknown names) m s.statement f.statement alike) (xs ++ (ys ++ zs)) fs defined ts all are none in
        let globals_told = folded form places names a_global (λ t f. with_global t f.statement) (λ m s f e alike. global_step s.context (unknown names) m s.statement f.statement alike) (xs ++ (ys ++ zs)) fs defined ts all are none in
        let imports_told = folded form places names an_import (λ t f. with_import (unknown names) t f.statement) (λ m s f e alike. import_step s.context (unknown names) (unknown names) m s.statement f.statement e alike) (xs ++ (ys ++ zs)) fs defined ts all are none in
        let functions_told = folded form places names a_function (λ t f. with_function t f.statement) (λ m s f e alike. function_step s.context (unknown names) m s.statement f.statement alike) (xs ++ (ys ++ zs)) fs defined ts all are in
        let imports_in : fold an_import none (xs ++ (ys ++ zs)) ≡ fold an_import none zs =
        segments an_import none xs ys zs
        ∙ ap (λ m. fold an_import (fold an_import m ys) zs) (stays an_import types xs (turned (OfType context) (λ t s. (m : Numbering) → an_import m s ≡ m) (type_is_no_import context same) types xs a) none)
        ∙ ap (λ m. fold an_import m zs) (stays an_import globals ys (turned (OfGlobal context) (λ g s. (m : Numbering) → an_import m s ≡ m) (global_is_no_import context same) globals ys b) none) in
        let functions_in : (m : Numbering) → fold a_function m (xs ++ (ys ++ zs)) ≡ fold a_function m zs = λ m.
        segments a_function m xs ys zs
        ∙ ap (λ n. fold a_function (fold a_function n ys) zs) (stays a_function types xs (turned (OfType context) (λ t s. (k : Numbering) → a_function k s ≡ k) (type_is_no_function context same) types xs a) m)
        ∙ ap (λ n. fold a_function n zs) (stays a_function globals ys (turned (OfGlobal context) (λ g s. (k : Numbering) → a_function k s ≡ k) (global_is_no_function context same) globals ys b) m) in
        record {
          types =
              types_told ∙ segments a_type none xs ys zs
              ∙ stays a_type functions zs (turned Of (λ f s. (m : Numbering) → a_type m s ≡ m) function_is_no_type functions zs c) (fold a_type (fold a_type none xs) ys)
              ∙ stays a_type globals ys (turned (OfGlobal context) (λ g s. (m : Numbering) → a_type m s ≡ m) (global_is_no_type context same) globals ys b) (fold a_type none xs)
              ∙ counts a_type (λ t. t.name) types xs (turned (OfType context) (λ t s. (m : Numbering) → a_type m s ≡ with_thing m (number_of names t.name)) (type_counts context same) types xs a) [];
          globals =
              globals_told ∙ segments a_global none xs ys zs
              ∙ stays a_global functions zs (turned Of (λ f s. (m : Numbering) → a_global m s ≡ m) function_is_no_global functions zs c) (fold a_global (fold a_global none xs) ys)
              ∙ ap (λ m. fold a_global m ys) (stays a_global types xs (turned (OfType context) (λ t s. (m : Numbering) → a_global m s ≡ m) (type_is_no_global context same) types xs a) none)
              ∙ counts a_global (λ g. g.name) globals ys (turned (OfGlobal context) (λ g s. (m : Numbering) → a_global m s ≡ with_thing m (number_of names g.name)) (global_counts context same) globals ys b) [];
          functions =
              ap (λ m. fold (λ t f. with_function t f.statement) m fs) imports_told ∙ functions_told (fold an_import none (xs ++ (ys ++ zs)))
              ∙ ap (λ m. fold a_function m (xs ++ (ys ++ zs))) imports_in ∙ functions_in (fold an_import none zs) ∙ functions_counted functions zs c first plain [];
        }
