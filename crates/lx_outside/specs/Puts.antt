-- What a sink in memory has to take.
use Rattle.std.specs.Prelude.{ℕ, ◌&&◌, ◌||◌, ◌==◌, nat_lt, min, length, List, Option, Some, None, if◌then◌else◌}
use Rattle.lx_outside.specs.declared.mem_sink.MemSink.{MemSink}
use Rattle.lx_outside.specs.Counts.{is_to_fail}

-- how many bytes of a piece the next put has to take, as much as there is room for; nothing where
-- it is to fail, by its number or since no byte of a piece that has some finds room
abbrev pub size_to_take : MemSink → List ℕ → Option ℕ
size_to_take sink piece =
    if is_to_fail sink.fails sink.calls || (sink.room == 0 && nat_lt 0 (length piece))
    then None
    else Some (min (length piece) sink.room)
