use Rattle.std.proofs.Common.{◌≡◌, ℕ, List, ◌++◌}
use Rattle.std.specs.Io.KnownBytes.{Appends}
use Rattle.std.specs.Slice.Iter.{chunks_rest, chunks_size}
use Rattle.lines.specs.Written.{hex}
use Rattle.lines.proofs.print_hex.Given as goal

abbrev pub invariant-loop-part : goal.invariant-loop-part
invariant-loop-part g l =
    (goal.iterator-loop-part g).can_next l.part-iterator
    × (goal.iterator-loop-part g).is_finite l.part-iterator
    × (chunks_size l.part-iterator ≡ 2048)
    × ((done : List ℕ) × Appends (g.W.Write.contents l.initial.out) (g.W.Write.contents l.out) done
    × (done ++ hex (chunks_rest l.part-iterator) ≡ hex l.bytes))
