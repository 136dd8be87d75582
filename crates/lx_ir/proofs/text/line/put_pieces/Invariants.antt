use Rattle.std.proofs.Common.{◌≡◌, ◌++◌, take, flat_map}
use Rattle.lx_ir.specs.Pieces.{piece_text}
use Rattle.lx_ir.proofs.text.line.put_pieces.Given as goal

abbrev pub invariant-loop-piece : goal.invariant-loop-piece
invariant-loop-piece l = l.out.items ≡ l.initial.out.items ++ flat_map (piece_text l.scope.m.now l.scope.f.now) (take l.piece-index l.pieces)
