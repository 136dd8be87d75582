-- The laws are lemmas.
use Rattle.lx_threads.proofs.WorkerSchedules as schedules
use Rattle.lx_threads.proofs.worker_laws.monitor_laws.Goals as goal

pub returns : goal.returns
returns c = record {
  runs = λ p before history threads events. schedules.is_run p before threads history events;
  whole = λ p before history threads events done. schedules.whole p before.state before.threads threads history events done;
}
