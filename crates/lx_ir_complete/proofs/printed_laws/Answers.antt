use Rattle.std.proofs.Common.{sym, subst}
use Rattle.lx_ir_complete.specs.KnownTables.{AreOnce}
use Rattle.lx_ir_complete.proofs.NamesOnce.{names_once}
use Rattle.lx_ir.specs.Text.{module_text}
use Rattle.lx_ir_complete.proofs.Assembled.{read_again}
use Rattle.lx_ir_complete.proofs.printed_laws.Goals as goal

pub returns : goal.returns
returns c form m lawful kept plain ir reads =
    read_again
    (record {
      read = c.statement_laws.ensures.read;
      forget = c.forgotten_laws.ensures;
      known = c.table_laws.ensures.known;
      registers_known = c.table_laws.ensures.registers;
      numbered = c.table_laws.ensures.numbered;
      stated = c.printed_module_laws.ensures.stated;
      calm = c.printed_module_laws.ensures.calm;
    })
    form m lawful kept plain ir reads (subst AreOnce (sym reads.names) (names_once (module_text m) ir.places))
