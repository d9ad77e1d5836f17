use mathlib.Core.Path.{◌≡◌}
use lib.ListN.{length}
use Rattle.store.specs.Rows.{filled}
use Rattle.mem.specs.Words.{words}
use Rattle.store.proofs.put_args.Given as goal

abbrev pub invariant-loop-j : goal.invariant-loop-j
invariant-loop-j l = record {
  so_far : words l.s ≡ filled (words l.initial.s) l.at l.args l.j;
  long : length (words l.s) ≡ length (words l.initial.s);
}
