-- The rows on graphs and terms, by computation: one statement.
-- A wrong edit of a definition is refused here first.
-- Assumes nothing.
use Rattle.std.specs.Prelude.{◌≡◌, refl}
use Rattle.heap.specs.Graph.{deref, follow, look, gather, thread, index_of, outermost, first, first_call, args, sight, sweep, reach, named, renamed, copy, variable, write, write_each}
use Rattle.heap.specs.Build.{up_from, build, build_all, build_right, start}
use Rattle.heap.specs.Rows.{rows, computed, expected}

-- each row's computed thing is the one expected
pub table : computed rows ≡ expected rows
unfolding
    deref follow look gather thread index_of outermost first first_call args sight sweep reach named renamed copy variable write write_each
    up_from build build_all build_right start
table = refl
