-- Laws of the kinds and their numbers.
use Prim.Native.Nat.{ℕ, zero, suc, ◌≤◌}
use native.Mathlib.Omega.{arith}
use mathlib.Core.Path.{◌≡◌, refl, ap, sym, ◌∙◌}
use mathlib.Core.Option.{none}
use Rattle.std.specs.Prelude.{Some, None}
use Rattle.book.specs.declared.Kind.{Kind}
use Rattle.book.specs.declared.Kind.TheVariants as kind
use Rattle.book.specs.Record.{body_of}
use Rattle.book.specs.Kinds.{number_of, kind_at}

again : (k : Kind) → kind_at (number_of k) ≡ Some k
again kind.Type = refl
again kind.Cons = refl
again kind.Func = refl
again kind.Split = refl
again kind.Rule = refl
again kind.Right = refl
again kind.Con = refl
again kind.Call = refl
again kind.Slot = refl
again kind.Fresh = refl
again kind.None = refl

-- a kind known is a number known
pub same-number : {k : Kind} (j : Kind) → k ≡ j → number_of k ≡ number_of j
same-number j e = ap number_of e

-- two kinds are two numbers
pub other-number : {j k : Kind} → (j ≡ k → ⊥) → number_of j ≡ number_of k → ⊥
other-number {j} {k} n e = n (let z : Some j ≡ Some k = sym (again j) ∙ ap kind_at e ∙ again k in cc)

-- from 1 to 11
pub number-within : (k : Kind) → (1 ≤ number_of k) × (number_of k ≤ 11)
number-within kind.Type = (omega arith, omega arith)
number-within kind.Cons = (omega arith, omega arith)
number-within kind.Func = (omega arith, omega arith)
number-within kind.Split = (omega arith, omega arith)
number-within kind.Rule = (omega arith, omega arith)
number-within kind.Right = (omega arith, omega arith)
number-within kind.Con = (omega arith, omega arith)
number-within kind.Call = (omega arith, omega arith)
number-within kind.Slot = (omega arith, omega arith)
number-within kind.Fresh = (omega arith, omega arith)
number-within kind.None = (omega arith, omega arith)

-- the kind of a number has that number
pub number-back : (n : ℕ) {k : Kind} → kind_at n ≡ Some k → number_of k ≡ n
number-back zero q = cc
number-back (suc zero) {k} q = let z : kind.Type ≡ k = cc in ap number_of (sym z)
number-back (suc (suc zero)) {k} q = let z : kind.Cons ≡ k = cc in ap number_of (sym z)
number-back (suc (suc (suc zero))) {k} q = let z : kind.Func ≡ k = cc in ap number_of (sym z)
number-back (suc (suc (suc (suc zero)))) {k} q = let z : kind.Split ≡ k = cc in ap number_of (sym z)
number-back (suc (suc (suc (suc (suc zero))))) {k} q = let z : kind.Rule ≡ k = cc in ap number_of (sym z)
number-back (suc (suc (suc (suc (suc (suc zero)))))) {k} q = let z : kind.Right ≡ k = cc in ap number_of (sym z)
number-back (suc (suc (suc (suc (suc (suc (suc zero))))))) {k} q = let z : kind.Con ≡ k = cc in ap number_of (sym z)
number-back (suc (suc (suc (suc (suc (suc (suc (suc zero)))))))) {k} q = let z : kind.Call ≡ k = cc in ap number_of (sym z)
number-back (suc (suc (suc (suc (suc (suc (suc (suc (suc zero))))))))) {k} q = let z : kind.Slot ≡ k = cc in ap number_of (sym z)
number-back (suc (suc (suc (suc (suc (suc (suc (suc (suc (suc zero)))))))))) {k} q = let z : kind.Fresh ≡ k = cc in ap number_of (sym z)
number-back (suc (suc (suc (suc (suc (suc (suc (suc (suc (suc (suc zero))))))))))) {k} q = let z : kind.None ≡ k = cc in ap number_of (sym z)
number-back (suc (suc (suc (suc (suc (suc (suc (suc (suc (suc (suc (suc n)))))))))))) q = cc

-- a number that is no kind's has no body
pub no-kind : (n : ℕ) → kind_at n ≡ None → body_of n ≡ none
unfolding body_of
no-kind zero q = refl
no-kind (suc zero) q = cc
no-kind (suc (suc zero)) q = cc
no-kind (suc (suc (suc zero))) q = cc
no-kind (suc (suc (suc (suc zero)))) q = cc
no-kind (suc (suc (suc (suc (suc zero))))) q = cc
no-kind (suc (suc (suc (suc (suc (suc zero)))))) q = cc
no-kind (suc (suc (suc (suc (suc (suc (suc zero))))))) q = cc
no-kind (suc (suc (suc (suc (suc (suc (suc (suc zero)))))))) q = cc
no-kind (suc (suc (suc (suc (suc (suc (suc (suc (suc zero))))))))) q = cc
no-kind (suc (suc (suc (suc (suc (suc (suc (suc (suc (suc zero)))))))))) q = cc
no-kind (suc (suc (suc (suc (suc (suc (suc (suc (suc (suc (suc zero))))))))))) q = cc
no-kind (suc (suc (suc (suc (suc (suc (suc (suc (suc (suc (suc (suc n)))))))))))) q = refl
