-- The first reading of the statements of a lawful module.
use Rattle.std.proofs.Common.{◌≡◌, ◌⊎◌, inl, inr, ℕ, ◌≤◌, true, List, [], ◌∷◌, ◌++◌, length, refl, ap, ◌∙◌, arith}
use Rattle.std.specs.List.{AllZip, AllByRecursion, list_all}
use Rattle.std.proofs.lemmas.Bool.{and_parts}
use Rattle.lx_words.specs.declared.token.Token.{Token}
use Rattle.lx_ir.specs.declared.types.NamedType.{NamedType}
use Rattle.lx_ir.specs.declared.module.GlobalVar.{GlobalVar}
use Rattle.lx_ir.specs.declared.module.Function.{Function}
use Rattle.lx_ir.specs.declared.module.Module.{Module}
use Rattle.lx_ir.specs.Lawful.{is_lawful_function, IsLawful}
use Rattle.lx_ir_tokens.specs.declared.token.Tok.{Tok}
use Rattle.lx_ir_terms.specs.Context.{Context}
use Rattle.lx_ir_calls.specs.declared.intrinsics.TextForm.{TextForm}
use Rattle.lx_ir_statements.specs.Defined.{nothing_defined}
use Rattle.lx_ir_statements.specs.Laws.{StatementsAreRead}
use Rattle.lx_ir_lawful.specs.ForgottenLaws.{StatementsAreForgotten}
use Rattle.lx_ir_complete.specs.Statements.{Own, OfType, OfGlobal, OfFunction, StateModule}
use Rattle.lx_ir_read.specs.First.{no_progress}
use Rattle.lx_ir_complete.specs.KnownTables.{AreOnce}
use Rattle.lx_ir_complete.specs.FirstLaws.{FirstFinds}
use Rattle.lx_ir_complete.proofs.RoundTripFirsts.{firsts}
use Rattle.lx_ir_complete.proofs.Counted.{IsPlainFunction, counted}
use Rattle.lx_ir_complete.proofs.Sayings.{function_parts}

-- Names.

abbrev pub Named : List (List ℕ) → List Own → Type 0
Named names ss = AllByRecursion (λ s. s.context.names ≡ names) ss

pub joined : (names : List (List ℕ)) (xs ys : List Own) → Named names xs → Named names ys → Named names (xs ++ ys)
joined names [] ys h k = k
joined names (x ∷ xs) ys h k = (h.0, joined names xs ys h.1 k)

pub types_named : (c : Context) (ts : List NamedType) (ss : List Own) → AllZip (OfType c) ts ss → Named c.names ss
types_named c [] [] h = tt
types_named c [] (s ∷ ss) h = absurd h
types_named c (t ∷ ts) [] h = absurd h
types_named c (t ∷ ts) (s ∷ ss) h = (ap (λ (o : Own). o.context.names) h.0.2, types_named c ts ss h.1)

pub globals_named : (c : Context) (gs : List GlobalVar) (ss : List Own) → AllZip (OfGlobal c) gs ss → Named c.names ss
globals_named c [] [] h = tt
globals_named c [] (s ∷ ss) h = absurd h
globals_named c (g ∷ gs) [] h = absurd h
globals_named c (g ∷ gs) (s ∷ ss) h = (ap (λ (o : Own). o.context.names) h.0.2, globals_named c gs ss h.1)

function_named : (c : Context) (f : Function) (s : Own) → OfFunction c f s → s.context.names ≡ c.names
function_named c f s (n, at, inl (none, e)) = ap (λ (o : Own). o.context.names) e
function_named c f s (n, at, inr (bs, ds, some, same, e)) = ap (λ (o : Own). o.context.names) e

pub functions_named : (names : List (List ℕ)) (own : Function → Context) → ((f : Function) → (own f).names ≡ names) → (fs : List Function) (ss : List Own) → AllZip (λ f s. OfFunction (own f) f s) fs ss → Named names ss
functions_named names own all [] [] h = tt
functions_named names own all [] (s ∷ ss) h = absurd h
functions_named names own all (f ∷ fs) [] h = absurd h
functions_named names own all (f ∷ fs) (s ∷ ss) h = (function_named (own f) f s h.0 ∙ all f, functions_named names own all fs ss h.1)

-- Functions.

pub plain_functions : (m : Module) (names : List (List ℕ)) (once : AreOnce names) (own : Function → Context) → ((f : Function) → (own f).names ≡ names) → (fs : List Function) → list_all (is_lawful_function m) fs ≡ true → AllByRecursion (IsPlainFunction names once own) fs
plain_functions m names once own all [] h = tt
plain_functions m names once own all (f ∷ fs) h =
    let both = and_parts (is_lawful_function m f) (list_all (is_lawful_function m) fs) h in
    ((all f, (function_parts m f both.0).1), plain_functions m names once own all fs both.1)

-- The first reading finds the statements.
pub first_finds : StatementsAreRead → StatementsAreForgotten → (context : Context) (own : Function → Context) (form : TextForm) (places : List Token) (m : Module) (toks : List Tok)
    → IsLawful m → AreOnce context.names → ((f : Function) → (own f).names ≡ context.names) → StateModule context own form places m toks → FirstFinds context form places m toks
first_finds read forget context own form places m toks lawful once all state =
    let ss : List Own = state.types ++ (state.globals ++ state.functions) in
    let named : Named context.names ss =
    joined context.names state.types (state.globals ++ state.functions) (types_named context m.types state.types state.of_types)
    (joined context.names state.globals state.functions (globals_named context m.globals state.globals state.of_globals) (functions_named context.names own all m.functions state.functions state.of_functions)) in
    let f = firsts read forget form places context.names ss named (length toks) no_progress toks (omega arith) state.are in
    record {
      statements = ss;
      found = f.0;
      are = f.1;
      reads = f.2;
      defines =
          counted context.names once own form places context refl m.types m.globals m.functions state.types state.globals state.functions state.of_types state.of_globals state.of_functions lawful.imports_first
          (plain_functions m context.names once own all m.functions lawful.functions) f.0 nothing_defined toks named f.1;
    }
