-- What an accepted book's trees and terms are like, as far as the machine's agreement with the plain reading needs it.
-- Assumes nothing.
use Prim.Native.Nat.{ℕ, ◌<◌}
use mathlib.Core.Path.{◌≡◌}
use mathlib.Core.List.{List, [], ◌∷◌}
use lib.ListN.{length, get_or}
use Rattle.book.specs.Syntax.{Symbol, con, fun, Term, Terms, app, slot, fresh, done, arg, Right, Tree, Trees, split, rule, norule, stop, child, cons_of, con_arities}
use Rattle.book.specs.Accepted.{count}
use Rattle.engine.specs.Compile.{Program, Positions, below}
use Rattle.engine.specs.Machine.{arity_of}

-- a symbol is known
abbrev pub Known : Program → Symbol → Type 0
Known m (con c) = c < length (con_arities m.types)
Known m (fun f) = f < length m.arities

-- a known symbol with as many arguments as it takes
pub record Takes (m : Program) (y : Symbol) (n : ℕ) : Type 0 where
  pub known : Known m y
  pub exact : n ≡ arity_of m y

-- n slots, v fresh variables
abbrev mutual
  pub FineTerm : Program → ℕ → ℕ → Term → Type 0
  FineTerm m n v (app s ts) = Known m s × (count ts ≡ arity_of m s) × FineTerms m n v ts
  FineTerm m n v (slot i) = i < n
  FineTerm m n v (fresh i) = i < v

  pub FineTerms : Program → ℕ → ℕ → Terms → Type 0
  FineTerms m n v done = Unit
  FineTerms m n v (arg t ts) = FineTerm m n v t × FineTerms m n v ts

abbrev pub FineRights : Program → ℕ → List Right → Type 0
FineRights m n [] = Unit
FineRights m n (r ∷ rs) = FineTerm m n r.vars r.term × FineRights m n rs

abbrev pub Some : List Right → Type 0
Some [] = ⊥
Some (r ∷ rs) = Unit

abbrev mutual
  pub FineTree : Program → Positions → Tree → Type 0
  FineTree m pos (split s t ts) = (s < length pos) × (length (get_or pos s []) < 8) × FineTrees m pos s ts (cons_of m.types t)
  FineTree m pos (rule rs) = Some rs × FineRights m (length pos) rs
  FineTree m pos norule = Unit

  pub FineTrees : Program → Positions → ℕ → Trees → List ℕ → Type 0
  FineTrees m pos s stop [] = Unit
  FineTrees m pos s stop (a ∷ more) = ⊥
  FineTrees m pos s (child t ts) [] = ⊥
  FineTrees m pos s (child t ts) (a ∷ more) = FineTree m (below pos s a) t × FineTrees m pos s ts more
