-- Laws for callers: the tables, from words that are right below the counts and say "none" from there on.
-- Assumes nothing.
use Prim.Native.Nat.{ℕ, zero, suc, ◌+◌, ◌*◌, ◌≤◌, ◌<◌}
use mathlib.Core.Path.{◌≡◌, refl, ap, sym, ◌∙◌, subst}
use mathlib.Core.Bool.{Bool, true, false}
use mathlib.Core.Option.{Option, none, some}
use mathlib.Core.List.{List, [], ◌∷◌}
use lib.ListN.{length, get_or, get_elem?, length-append, get_or-eq_default}
use lib.Dec.{ltb}
use borrow.Author.Tests.{ltb-true, ltb-false}
use native.Mathlib.Omega.{arith}
use Rattle.book.specs.Syntax.{Symbol, con_arities}
use Rattle.engine.specs.Compile.{Program}
use Rattle.engine.specs.Machine.{members, homes, arity_of}
use Rattle.machine.specs.Tables.{Has, Home}

length-members : (t j : ℕ) (l : List ℕ) → length (members t j l) ≡ length l
unfolding members
length-members t j [] = refl
length-members t j (a ∷ l) = ap suc (length-members t (suc j) l)

length-homes : (t : ℕ) (types : List (List ℕ)) → length (homes t types) ≡ length (con_arities types)
unfolding homes
length-homes t [] = refl
length-homes t (l ∷ types) = rw (length-append, length-append, length-members, length-homes (suc t) types)

beyond : (l : List (ℕ × ℕ)) (c : ℕ) → length l ≤ c → get_elem? l c ≡ none
beyond [] c h = refl
beyond (x ∷ l) zero h = absurd (omega arith)
beyond (x ∷ l) (suc c) h = beyond l c (omega arith)

-- what the words say below the counts of functions and constructors, and from there on
pub record Counted (p : Program) (base : ℕ) (rest : List ℕ) : Type 0 where
  pub starts : (f : ℕ) → f < length p.arities → get_or rest (base + 2 * f) 0 + 65536 * get_or rest (base + 2 * f + 1) 0 ≡ get_or p.starts f 0
  pub funs : (f : ℕ) → f < length p.arities → get_or rest (base + 512 + f) 0 ≡ get_or p.arities f 0
  pub cons : (c : ℕ) → c < length (con_arities p.types) → get_or rest (base + 768 + c) 0 ≡ get_or (con_arities p.types) c 0
  pub homed : (c : ℕ) → c < length (con_arities p.types) → get_elem? (homes 0 p.types) c ≡ some (get_or rest (base + 1024 + c) 0, get_or rest (base + 1280 + c) 0)
  pub no_fun : (f : ℕ) → length p.arities ≤ f → f < 256 → (get_or rest (base + 2 * f) 0 ≡ 0) × (get_or rest (base + 2 * f + 1) 0 ≡ 0) × (get_or rest (base + 512 + f) 0 ≡ 0)
  pub no_con : (c : ℕ) → length (con_arities p.types) ≤ c → c < 256 → (get_or rest (base + 768 + c) 0 ≡ 0) × (get_or rest (base + 1024 + c) 0 ≡ 65535)
  pub alike : length p.starts ≤ length p.arities
  pub small : (y : Symbol) → arity_of p y ≤ 8

module _ (p : Program) (base : ℕ) (rest : List ℕ) (C : Counted p base rest) where
  start-all : (f : ℕ) → f < 256 → (b : Bool) → ltb f (length p.arities) ≡ b → get_or rest (base + 2 * f) 0 + 65536 * get_or rest (base + 2 * f + 1) 0 ≡ get_or p.starts f 0
  start-all f h true e = C.starts f (ltb-true f (length p.arities) e)
  start-all f h false e =
      let out = ltb-false f (length p.arities) e in
      let z = C.no_fun f out h in
      let past : length p.starts ≤ f = let a = C.alike in omega arith in
      rw (z.0, z.1) (sym (get_or-eq_default p.starts 0 past))

  fun-all : (f : ℕ) → f < 256 → (b : Bool) → ltb f (length p.arities) ≡ b → get_or rest (base + 512 + f) 0 ≡ get_or p.arities f 0
  fun-all f h true e = C.funs f (ltb-true f (length p.arities) e)
  fun-all f h false e = let out = ltb-false f (length p.arities) e in (C.no_fun f out h).2 ∙ sym (get_or-eq_default p.arities 0 out)

  con-all : (c : ℕ) → c < 256 → (b : Bool) → ltb c (length (con_arities p.types)) ≡ b → get_or rest (base + 768 + c) 0 ≡ get_or (con_arities p.types) c 0
  con-all c h true e = C.cons c (ltb-true c (length (con_arities p.types)) e)
  con-all c h false e = let out = ltb-false c (length (con_arities p.types)) e in (C.no_con c out h).0 ∙ sym (get_or-eq_default (con_arities p.types) 0 out)

  home_all : (c : ℕ) → c < 256 → (b : Bool) → ltb c (length (con_arities p.types)) ≡ b → Home (get_elem? (homes 0 p.types) c) (get_or rest (base + 1024 + c) 0) (get_or rest (base + 1280 + c) 0)
  home_all c h true e =
      subst (λ (o : Option (ℕ × ℕ)). Home o (get_or rest (base + 1024 + c) 0) (get_or rest (base + 1280 + c) 0)) (sym (C.homed c (ltb-true c (length (con_arities p.types)) e))) (refl, refl)
  home_all c h false e =
      let out = ltb-false c (length (con_arities p.types)) e in
      subst (λ (o : Option (ℕ × ℕ)). Home o (get_or rest (base + 1024 + c) 0) (get_or rest (base + 1280 + c) 0)) (sym (beyond (homes 0 p.types) c (rw (length-homes 0 p.types) out))) (C.no_con c out h).1

  pub has-counted : Has p base rest
  has-counted = record {
    start = λ f h. start-all f h (ltb f (length p.arities)) refl;
    funs = λ f h. fun-all f h (ltb f (length p.arities)) refl;
    cons = λ c h. con-all c h (ltb c (length (con_arities p.types))) refl;
    home = λ c h. home_all c h (ltb c (length (con_arities p.types))) refl;
    small = C.small;
  }
