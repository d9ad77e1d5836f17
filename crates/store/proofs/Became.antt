-- Laws of the store as one value: the loan; what it became, by a limit that is known; two steps one behind the other.
-- Assumes nothing.
use Prim.Native.Nat.{ℕ}
use mathlib.Core.Path.{◌≡◌, refl, subst, ◌∙◌}
use Rattle.store.specs.declared.whole.Store.{Store}
use Rattle.store.specs.Regions.{Memory, Did}
use Rattle.store.specs.Whole.{SameLoan, Became}
use Rattle.store.proofs.Writes.{did_then}

-- nothing was done
pub loan_same : {a : Store} → SameLoan a a
loan_same = record { limit = refl; lent = refl; long = refl }

-- two steps
pub loan_then : {a b c : Store} → SameLoan a b → SameLoan b c → SameLoan a c
loan_then d e = record { limit = e.limit ∙ d.limit; lent = e.lent ∙ d.lent; long = e.long ∙ d.long }

-- what a store became, by the limit that an older one has
pub did_at : {L : ℕ} {old new : Store} {f : Memory → Memory} → old.limit ≡ L → Became old new f → Did L old.bytes.now new.bytes.now f
did_at {old = old} {new = new} {f = f} e b = subst (λ (L' : ℕ). Did L' old.bytes.now new.bytes.now f) e b.did

-- two steps, each by what it does
pub became_then : {a b c : Store} {f g : Memory → Memory} → Became a b f → Became b c g → Became a c (λ m. g (f m))
became_then {g = g} d e = record { loan = loan_then d.loan e.loan; did = did_then {g = g} d.did (did_at d.loan.limit e) }
