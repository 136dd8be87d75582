use Rattle.std.proofs.Common.{[], List}
use Rattle.lx_model.specs.declared.program.Program.{Program}
use Rattle.lx_model.specs.declared.program.ScriptCall.{ScriptCall}
use Rattle.lx_why.specs.contracts.logged.LoggedCapStore.TheImpl as logged
use Rattle.lx_why.specs.Run.{StandsForWhy}
use Rattle.lx_runs.proofs.Certifying.{HasCertified}
use Rattle.lx_runs.proofs.why.certify.Given as goal

abbrev pub invariant-loop-entry : goal.invariant-loop-entry
invariant-loop-entry g l =
    (p : Program) (script : List (List ScriptCall)) → StandsForWhy (logged.stands-value g.row.C g.C.CapStore g.C.CapStore-dict g.C.Destruct-dict).it p script [] l.fn.run
    → HasCertified (logged.stands-value g.row.C g.C.CapStore g.C.CapStore-dict g.C.Destruct-dict).it p script l.schedule l.entry l.run l.out.items
