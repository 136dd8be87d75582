-- The parts of a lawful module, put together.
use Rattle.std.proofs.Common.{◌≤◌, [], length, arith}
use Rattle.lx_ir_read.specs.Laws.{ModulesAreFound}
use Rattle.lx_ir_lawful.specs.SymbolLaws.{TextsTell, TextsName, GlobalsAreLawful, ThingsAreFew}
use Rattle.lx_ir_lawful.proofs.FewSymbols.{tokens_few}
use Rattle.lx_ir_lawful.specs.FunctionLaws.{FunctionsAreLawful, TypesAreOnce, SymbolsAreOnce, ImportsAreFirst}
use Rattle.lx_ir_lawful.specs.Laws.{ReadIsLawful}

pub lawful : ModulesAreFound → TypesAreOnce → SymbolsAreOnce → ImportsAreFirst → TextsTell → TextsName → GlobalsAreLawful → ThingsAreFew → FunctionsAreLawful → ReadIsLawful
lawful found types symbols imports tell name globals few functions form text m short says =
    let is = found form text m says in
    let t = types form text m is in
    let tokens : length is.ir.toks ≤ length text = tokens_few text is.ir is.reads in
    let f = few form text m short is in
    record {
      types_once = t.types_once;
      symbols_once = (symbols form text m is).symbols_once;
      types = t.types;
      globals = globals form text m is;
      functions = functions form text m is (tell form text m is []) (name form text m is []) (omega (arith, tokens, short));
      imports_first = (imports form text m is).first;
      few_types = f.types;
      few_globals = f.globals;
      few_functions = f.functions;
    }
