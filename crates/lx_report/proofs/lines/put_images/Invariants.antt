use Rattle.std.proofs.Common.{◌≡◌, ◌++◌, take}
use Rattle.std.specs.List.{flat_map, enumerate_from}
use Rattle.lx_report.specs.Report.{image_line}
use Rattle.lx_report.proofs.lines.put_images.Given as goal

abbrev pub invariant-loop-m : goal.invariant-loop-m
invariant-loop-m l =
    l.out.items ≡ l.fn.out.items ++ flat_map (image_line l.p) (take l.m (enumerate_from 0 l.images))
