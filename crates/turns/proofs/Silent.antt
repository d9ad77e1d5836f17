-- A turn that walked a call writes no result: so where a result is to be written, the graph is as it was.
-- Assumes nothing.
use Prim.Native.Nat.{ℕ}
use mathlib.Core.Path.{◌≡◌, refl, ap, sym, ◌∙◌}
use mathlib.Core.Option.{Option, none, some}
use mathlib.Core.List.{List, []}
use Rattle.heap.specs.Store.{Store}
use Rattle.engine.specs.Machine as m
use Rattle.standing.specs.Shared.{split, wrote, none_left, finish, pour_all}
use Rattle.machine.specs.declared.Stop.{Stop}
use Rattle.pool.specs.declared.Held.{Held}
use Rattle.turns.specs.declared.What.TheVariants.{Wrote}
use Rattle.turns.specs.declared.Turned.{Turned}
use Rattle.turns.specs.Front.{took_of}
use Rattle.turns.specs.Ends.{Finished}

-- no end of the code writes
finish-no-result : (c : m.Held) (x : m.Stop Store) (b : List ℕ) → finish c x ≡ wrote b → ⊥
unfolding finish
finish-no-result c (m.demand N μ) b e = cc
finish-no-result c (m.becomes h r N μ) b e = cc
finish-no-result c (m.parts h ks μ) b e = go (pour_all μ c h ks) refl
  where
    go : (o : Option (Store × List m.Held)) → pour_all μ c h ks ≡ o → ⊥
    go none p = let q : none_left ≡ wrote b = rw (p, finish) at e in cc
    go (some y) p = let q : split y.0 y.1 ≡ wrote b = rw (p, finish) at e in cc
finish-no-result c (m.fails μ) b e = cc
finish-no-result c (m.misfits μ) b e = cc
finish-no-result c m.broken b e = cc
finish-no-result c m.full b e = cc

pub finished-no-result : {L base made top terms : ℕ} {held : Held} {stop : Stop} {s s' : List ℕ} {r : Turned} → Finished L base held made top terms stop s s' r → r.what ≡ Wrote → ⊥
unfolding took_of
finished-no-result {L} {base} {made} {top} {terms} {held} {stop} {s} {s'} {r} Z e = finish-no-result _ _ _ (sym (Z.is [] []) ∙ ap (took_of L base held [] s' r) e)
