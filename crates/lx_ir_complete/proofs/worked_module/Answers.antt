use Rattle.std.proofs.Common.{◌≡◌, ℕ, zero, suc, ◌<◌, true, Some, refl, sym, ap, arith, slice_get}
use Rattle.std.proofs.lemmas.Bool.{ltb-true}
use Rattle.lx_ir.specs.declared.module.Symbol.{Symbol}
use Rattle.lx_ir.specs.declared.module.Symbol.TheVariants as symbol
use Rattle.lx_ir.specs.Text.{name_text, symbol_name}
use Rattle.lx_ir.specs.Lawful.{is_lawful_symbol, IsLawful}
use Rattle.lx_ir_terms.specs.Context.{symbol_of}
use Rattle.lx_ir_complete.specs.Knows.{Knows, KnowsRegisters}
use Rattle.lx_ir_complete.specs.ModuleRows.{idle, small, reader}
use Rattle.lx_ir_complete.proofs.worked_module.Goals as goal

first_only : (k : ℕ) → k < 1 → k ≡ 0
first_only k lt = omega arith

stands_for : (s : Symbol) (name : ℕ) → is_lawful_symbol small s ≡ true → slice_get reader.names name ≡ Some (symbol_name small s) → symbol_of reader name ≡ Some s
stands_for (symbol.Function k) zero h at = let one : k < 1 = ltb-true k 1 h in ap (λ n. Some (symbol.Function n)) (sym (first_only k one))
stands_for (symbol.Function k) (suc n) h at = cc at
stands_for (symbol.Global k) name h at = let none : k < 0 = ltb-true k 0 h in absurd (omega arith)

knows : Knows small reader
knows = record { types = λ k name lt at. absurd (omega arith); symbols = stands_for; limits = λ t h. refl }

no_registers : KnowsRegisters idle reader
no_registers = record { registers = λ r name lt at. absurd (omega arith) }

lawful : IsLawful small
lawful = record {
  types_once = refl;
  symbols_once = refl;
  types = refl;
  globals = refl;
  functions = refl;
  imports_first = refl;
  few_types = omega arith;
  few_globals = omega arith;
  few_functions = omega arith;
}

pub returns : goal.returns
unfolding name_text
returns c = record {
  text = refl;
  given = record { lawful = lawful; kept = refl; knows = knows; own = (record { names = refl; knows = knows; registers = λ e. no_registers }, tt); program = λ e. refl; foreign = λ e. refl };
}
