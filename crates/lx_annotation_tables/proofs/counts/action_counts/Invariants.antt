use Rattle.std.proofs.Common.{◌≡◌, map, take}
use Rattle.lx_code.specs.declared.code.ActionCounts.{ActionCounts}
use Rattle.lx_annotation_tables.specs.Counted.{pre_count, post_count}
use Rattle.lx_annotation_tables.specs.Entries.{annotation_by}
use Rattle.lx_annotation_tables.proofs.counts.action_counts.Given as goal

abbrev pub invariant-loop-source : goal.invariant-loop-source
invariant-loop-source l = record {
  pre : map (λ (x : ActionCounts). x.pre) l.counts.items ≡ map (λ s. pre_count (annotation_by l.program s)) (take l.source-index l.sources);
  post : map (λ (x : ActionCounts). x.post) l.counts.items ≡ map (λ s. post_count (annotation_by l.program s)) (take l.source-index l.sources);
}
