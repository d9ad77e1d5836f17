-- What is known of a store's bytes is known of the work memory that was lent to it.
-- Here: each fact carried from the bytes that a store was left with to the work memory, which are the same.
-- Assumes nothing.
use Prim.Native.Nat.{ℕ}
use mathlib.Core.Path.{◌≡◌, subst, sym}
use mathlib.Core.List.{List}
use Rattle.std.specs.Prelude.{Result}
use Rattle.heap.specs.Graph.{write_each}
use Rattle.engine.specs.Run as e
use Rattle.store.specs.Regions.{Room, AllRoom, graph_of}
use Rattle.copier.specs.Listed.{Clean}
use Rattle.writer.specs.Walk.{Reads}
use Rattle.pool.specs.declared.Held.{Held}
use Rattle.compiler.specs.declared.Refused.{Refused}
use Rattle.run.specs.declared.State.{State}
use Rattle.run.specs.declared.Answer.{Answer}
use Rattle.run.specs.declared.Done.{Done}
use Rattle.run.specs.Between.{Bounded, Runs, StepTaken, RunDone}
use Rattle.run.specs.Arms.{WentOn, Spread, Valued}
use Rattle.run.specs.Setting.{SettingIs}

module _ {s s' : List ℕ} (q : s' ≡ s) where
  pub lend-all : {L P : ℕ} → AllRoom L P s → AllRoom L P s'
  lend-all {L} {P} h = subst (λ (x : List ℕ). AllRoom L P x) (sym q) h

  pub lend-room : {L : ℕ} → Room L s → Room L s'
  lend-room {L} h = subst (λ (x : List ℕ). Room L x) (sym q) h

  pub lend-reads : (L : ℕ) {ks : List ℕ} → Reads (graph_of L s) ks → Reads (graph_of L s') ks
  lend-reads L {ks} h = subst (λ (x : List ℕ). Reads (graph_of L x) ks) (sym q) h

  pub lend-clean : (L : ℕ) → Clean L s → Clean L s'
  lend-clean L h = subst (λ (x : List ℕ). Clean L x) (sym q) h

  pub lend-bounded : {l : e.Limits} {n : ℕ} {st : State} {results : List ℕ} → Bounded l n st s results → Bounded l n st s' results
  lend-bounded {l} {n} {st} {results} h = subst (λ (x : List ℕ). Bounded l n st x results) (sym q) h

  pub lend-runs : {l : e.Limits} {n : ℕ} {code : List ℕ} {st : State} {results : List ℕ} → Runs l n code st s results → Runs l n code st s' results
  lend-runs {l} {n} {code} {st} {results} h = subst (λ (x : List ℕ). Runs l n code st x results) (sym q) h

  -- the bytes afterwards
  pub lend-spread : {l : e.Limits} {n : ℕ} {st : State} {count made : ℕ} {s₀ : List ℕ} {r : Result State Answer} → Spread l n st count made s₀ s r → Spread l n st count made s₀ s' r
  lend-spread {l} {n} {st} {count} {made} {s₀} {r} h = subst (λ (x : List ℕ). Spread l n st count made s₀ x r) (sym q) h

  pub lend-valued : {l : e.Limits} {st : State} {terms s₀ results results' : List ℕ} {r : Result State Answer} → Valued l st terms s₀ s results results' r → Valued l st terms s₀ s' results results' r
  lend-valued {l} {st} {terms} {s₀} {results} {results'} {r} h = subst (λ (x : List ℕ). Valued l st terms s₀ x results results' r) (sym q) h

  pub lend-step : {l : e.Limits} {n : ℕ} {code : List ℕ} {st : State} {s₀ results results' : List ℕ} {r : Result State Answer} → StepTaken l n code st s₀ s results results' r → StepTaken l n code st s₀ s' results results' r
  lend-step {l} {n} {code} {st} {s₀} {results} {results'} {r} h = subst (λ (x : List ℕ). StepTaken l n code st s₀ x results results' r) (sym q) h

  pub lend-setting : (b : List ℕ) (l : e.Limits) (s₀ code code' : List ℕ) (r : Result ℕ Refused) → SettingIs b l s₀ s code code' r → SettingIs b l s₀ s' code code' r
  lend-setting b l s₀ code code' r h = subst (λ (x : List ℕ). SettingIs b l s₀ x code code' r) (sym q) h

  -- the bytes before
  pub lent-went : {l : e.Limits} {n : ℕ} {st : State} {held : Held} {made : ℕ} {s₂ : List ℕ} {r : State} → WentOn l n st held made s' s₂ r → WentOn l n st held made s s₂ r
  lent-went {l} {n} {st} {held} {made} {s₂} {r} h = subst (λ (x : List ℕ). WentOn l n st held made x s₂ r) q h

  pub lent-spread : {l : e.Limits} {n : ℕ} {st : State} {count made : ℕ} {s₂ : List ℕ} {r : Result State Answer} → Spread l n st count made s' s₂ r → Spread l n st count made s s₂ r
  lent-spread {l} {n} {st} {count} {made} {s₂} {r} h = subst (λ (x : List ℕ). Spread l n st count made x s₂ r) q h

  pub lent-valued : {l : e.Limits} {st : State} (L : ℕ) (ks : List ℕ) {s₂ results results' : List ℕ} {r : Result State Answer} → Valued l st (write_each L (graph_of L s') ks) s' s₂ results results' r → Valued l st (write_each L (graph_of L s) ks) s s₂ results results' r
  lent-valued {l} {st} L ks {s₂} {results} {results'} {r} h = subst (λ (x : List ℕ). Valued l st (write_each L (graph_of L x) ks) x s₂ results results' r) q h

  pub lent-run : {l : e.Limits} {n : ℕ} {code : List ℕ} {st : State} {results results' : List ℕ} {r : Done} → RunDone l n code st s' results results' r → RunDone l n code st s results results' r
  lent-run {l} {n} {code} {st} {results} {results'} {r} h = subst (λ (x : List ℕ). RunDone l n code st x results results' r) q h
