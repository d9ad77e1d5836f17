-- The machine's table of constructors gives the arm that the plain reading finds in the type.
-- Assumes nothing.
use Prim.Native.Nat.{ℕ, zero, suc, ◌+◌, ◌-◌, ◌≤◌, ◌<◌}
use native.Mathlib.Nat.{le_of_suc-le-suc, not-suc-le-zero, add-zero, add-suc, suc-add, zero-add}
use native.Mathlib.Decide.{dec_lt}
use native.Mathlib.Omega.{arith}
use mathlib.Core.Path.{◌≡◌, refl, sym, ap, ◌∙◌}
use mathlib.Core.Logic.{◌⊎◌, inl, inr}
use mathlib.Core.Bool.{true, false}
use mathlib.Core.Option.{Option, none, some}
use mathlib.Core.List.{List, [], ◌∷◌, ◌++◌}
use lib.Dec.{eqb}
use lib.ListN.{length, get_elem?, take, length-append}
use borrow.Author.Tests.{lt-ltb, le-ltb, le-leb, lt-leb, eq-eqb, ne_eqb}
use Rattle.book.specs.Syntax.{join, first_con, cons_of}
use Rattle.engine.specs.Plain.{place}
use Rattle.engine.specs.Compile.{Program}
use Rattle.engine.specs.Machine.{members, homes, arm_of}

-- below n, or n and some more
pub cases : (n i : ℕ) → (i < n) ⊎ ((q : ℕ) × (i ≡ n + q))
cases n i = go (dec_lt i n)
  where
    go : Dec (i < n) → (i < n) ⊎ ((q : ℕ) × (i ≡ n + q))
    go (yes p) = inl p
    go (no p) = inr (i - n, omega arith)

-- the plain reading's place, by where the number lies
module _ (types : List (List ℕ)) (t c : ℕ) where
  place_in : first_con types t ≤ c → c < first_con types t + length (cons_of types t) → place types t c ≡ some (c - first_con types t)
  unfolding place
  place_in p q = rw (le-leb (first_con types t) c p, lt-ltb c (first_con types t + length (cons_of types t)) q, place)

  place-below : c < first_con types t → place types t c ≡ none
  unfolding place
  place-below p = rw (lt-leb (first_con types t) c p, place)

  place-above : first_con types t + length (cons_of types t) ≤ c → place types t c ≡ none
  unfolding place
  place-above p = rw (le-leb (first_con types t) c (omega arith), le-ltb c (first_con types t + length (cons_of types t)) p, place)

-- and the same by what it comes to
module _ (types types' : List (List ℕ)) (t t' c c' d : ℕ) (F : first_con types t ≡ d + first_con types' t') (L : cons_of types t ≡ cons_of types' t') (C : c ≡ d + c') where
  place-shift : place types t c ≡ place types' t' c'
  place-shift = go (cases (first_con types' t') c')
    where
      in-it : first_con types' t' ≤ c' → Dec (c' < first_con types' t' + length (cons_of types' t')) → place types t c ≡ place types' t' c'
      in-it p (yes q) = place_in types t c (omega arith) (omega (arith, ap length L)) ∙ ap some (omega arith) ∙ sym (place_in types' t' c' p q)
      in-it p (no q) = place-above types t c (omega (arith, ap length L)) ∙ sym (place-above types' t' c' (omega arith))

      go : (c' < first_con types' t') ⊎ ((q : ℕ) × (c' ≡ first_con types' t' + q)) → place types t c ≡ place types' t' c'
      go (inl p) = place-below types t c (omega arith) ∙ sym (place-below types' t' c' p)
      go (inr (q, e)) = in-it (omega arith) (dec_lt c' (first_con types' t' + length (cons_of types' t')))

-- the arm, of a constructor's home
unfoldable chosen : ℕ → Option (ℕ × ℕ) → Option ℕ
chosen t none = none
chosen t (some h) = elim (eqb h.0 t) [ true ↦ some h.1 | false ↦ none ]

members-front : (cons : List ℕ) (t j c : ℕ) (rest : List (ℕ × ℕ)) → c < length cons → get_elem? (members t j cons ++ rest) c ≡ some (t, j + c)
unfolding members
members-front [] t j c rest p = absurd (not-suc-le-zero p)
members-front (a ∷ cons) t j zero rest p = rw (add-zero j)
members-front (a ∷ cons) t j (suc c) rest p = members-front cons t (suc j) c rest (le_of_suc-le-suc p) ∙ rw (suc-add j c, add-suc j c)

members-back : (cons : List ℕ) (t j q : ℕ) (rest : List (ℕ × ℕ)) → get_elem? (members t j cons ++ rest) (length cons + q) ≡ get_elem? rest q
unfolding members
members-back [] t j q rest = rw (zero-add q)
members-back (a ∷ cons) t j q rest = rw (suc-add (length cons) q) (members-back cons t (suc j) q rest)

-- no constructor is of a type before the first
homes-low : (types : List (List ℕ)) (b t c : ℕ) → t < b → chosen t (get_elem? (homes b types) c) ≡ none
unfolding homes chosen
homes-low [] b t c p = refl
homes-low (cons ∷ types) b t c p = go (λ q. homes-low types (suc b) t q (omega arith)) (cases (length cons) c)
  where
    go : ((q : ℕ) → chosen t (get_elem? (homes (suc b) types) q) ≡ none) → (c < length cons) ⊎ ((q : ℕ) × (c ≡ length cons + q)) → chosen t (get_elem? (members b 0 cons ++ homes (suc b) types) c) ≡ none
    go ih (inl l) = rw (members-front cons b 0 c (homes (suc b) types) l, ne_eqb b t (λ e. omega arith), chosen)
    go ih (inr (q, e)) = rw (e, members-back cons b 0 q (homes (suc b) types)) (ih q)

homes-place : (types : List (List ℕ)) (b t c : ℕ) → chosen (b + t) (get_elem? (homes b types) c) ≡ place types t c
unfolding homes chosen
homes-place [] b t c = sym (go t)
  where
    go : (t : ℕ) → place [] t c ≡ none
    go zero = place-above [] zero c (omega arith)
    go (suc t) = place-above [] (suc t) c (omega arith)
homes-place (cons ∷ types) b t c = go (λ t q. homes-place types (suc b) t q) t (cases (length cons) c)
  where
    H : List (ℕ × ℕ)
    H = homes (suc b) types

    go : ((t q : ℕ) → chosen (suc b + t) (get_elem? H q) ≡ place types t q) → (t : ℕ) → (c < length cons) ⊎ ((q : ℕ) × (c ≡ length cons + q)) → chosen (b + t) (get_elem? (members b 0 cons ++ H) c) ≡ place (cons ∷ types) t c
    go ih zero (inl l) = rw (members-front cons b 0 c H l, eq-eqb b (b + 0) (omega arith), chosen) (ap some (omega arith) ∙ sym (place_in (cons ∷ types) zero c (omega arith) (omega arith)))
    go ih zero (inr (q, e)) = rw (e, members-back cons b 0 q H, add-zero b) (homes-low types (suc b) b q (omega arith) ∙ sym (place-above (cons ∷ types) zero (length cons + q) (omega arith)))
    go ih (suc t) (inl l) = rw (members-front cons b 0 c H l, ne_eqb b (b + suc t) (λ e. omega arith), chosen) (sym (place-below (cons ∷ types) (suc t) c (simp length-append (omega arith))))
    go ih (suc t) (inr (q, e)) = rw (e, members-back cons b 0 q H, add-suc b t, ← suc-add b t) (ih t q ∙ sym (place-shift (cons ∷ types) types (suc t) t (length cons + q) q (length cons) (length-append cons (join (take t types))) refl refl))

pub arm-place : (m : Program) (t c : ℕ) → arm_of m t c ≡ place m.types t c
unfolding arm_of chosen
arm-place m t c = go (get_elem? (homes 0 m.types) c) refl ∙ ap (λ (x : ℕ). chosen x (get_elem? (homes 0 m.types) c)) (sym (zero-add t)) ∙ homes-place m.types 0 t c
  where
    go : (o : Option (ℕ × ℕ)) → get_elem? (homes 0 m.types) c ≡ o → arm_of m t c ≡ chosen t (get_elem? (homes 0 m.types) c)
    go none e = rw (e, arm_of)
    go (some h) e = rw (e, arm_of)
