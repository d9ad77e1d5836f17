-- Where compiled blocks stand in the code, and what a GO and a constructor's number lead to.
-- Assumes nothing.
use Prim.Native.Nat.{ℕ, zero, suc, ◌+◌, ◌-◌, ◌*◌, ◌≤◌, ◌<◌, ◌^◌}
use native.Mathlib.Nat.{le_of_suc-le-suc, not-suc-le-zero, add-zero, add-suc, suc-add, zero-add, add_assoc}
use native.Mathlib.Omega.{arith}
use mathlib.Core.Path.{◌≡◌, refl, sym, ap, ◌∙◌}
use mathlib.Core.Bool.{Bool, true, false, ◌&&◌}
use mathlib.Core.Option.{Option, none, some}
use mathlib.Core.List.{List, [], ◌∷◌, ◌++◌, append_assoc, map}
use lib.Dec.{leb, ltb, leb→le, ltb→lt}
use lib.ListN.{length, get_or, take, drop, length-append, get_or-append}
use lib.Seq.{drop-drop, drop-append_seam, get_or-append-add}
use Rattle.book.specs.Syntax.{con, fun, join, con_arities, first_con, cons_of}
use Rattle.engine.specs.Plain.{place}
use Rattle.engine.specs.Code.{Instr, load, branch, go, push, pop, make_anon, store_var, make_var, make_term, replace, narrow, choice, fail, wrong, four, from_four, encode, emit}
use Rattle.engine.specs.Compile.{Program, offsets, flat}
use Rattle.engine.specs.Machine.{arity_of}
use Rattle.agreement.proofs.Decoding.{from-four, emit-append}
use Rattle.agreement.proofs.Rights.{Arities}

-- these bytes stand at this place of the code
pub record At (code : List ℕ) (at : ℕ) (X : List ℕ) : Type 0 where
  pub rest : List ℕ
  pub here : drop at code ≡ X ++ rest
  pub fits : at + length X ≤ length code

pub at_front : (code : List ℕ) (at : ℕ) (X Y : List ℕ) → At code at (X ++ Y) → At code at X
at_front code at X Y a = record {
  rest = Y ++ a.rest;
  here = a.here ∙ append_assoc X Y a.rest;
  fits = omega (arith, simp length-append at a.fits);
}

pub at_back : (code : List ℕ) (at : ℕ) (X Y : List ℕ) → At code at (X ++ Y) → At code (at + length X) Y
at_back code at X Y a = record {
  rest = a.rest;
  here = sym (drop-drop (length X) at code) ∙ rw (a.here, append_assoc X Y a.rest) (drop-append_seam X (Y ++ a.rest));
  fits = omega (arith, simp length-append at a.fits);
}

-- the j-th GO
pub gos-at : (offs : List ℕ) (j : ℕ) (J : List ℕ) → j < length offs → get_or offs j 0 < 2 ^ 32 → from_four (drop (5 * j + 1) (emit (map go offs) ++ J)) ≡ get_or offs j 0
unfolding emit encode four
gos-at [] j J p q = absurd (not-suc-le-zero p)
gos-at (o ∷ offs) zero J p q = from-four o (emit (map go offs) ++ J) q
gos-at (o ∷ offs) (suc j) J p q =
    let e : 5 * suc j + 1 ≡ suc (suc (suc (suc (suc (5 * j + 1))))) = omega arith in
    rw e (gos-at offs j J (le_of_suc-le-suc p) q)

pub gos-length : (offs : List ℕ) → length (emit (map go offs)) ≡ 5 * length offs
unfolding emit encode four
gos-length [] = refl
gos-length (o ∷ offs) = let e = gos-length offs in omega arith

pub offsets-length : (blocks : List (List Instr)) (at : ℕ) → length (offsets at blocks) ≡ length blocks
unfolding offsets
offsets-length [] at = refl
offsets-length (b ∷ bs) at = ap suc (offsets-length bs (at + length (emit b)))

pub offsets-bound : (blocks : List (List Instr)) (at j : ℕ) → j < length blocks → get_or (offsets at blocks) j 0 ≤ at + length (emit (flat blocks))
unfolding offsets flat
offsets-bound [] at j p = absurd (not-suc-le-zero p)
offsets-bound (b ∷ bs) at zero p = omega arith
offsets-bound (b ∷ bs) at (suc j) p =
    let h = offsets-bound bs (at + length (emit b)) j (le_of_suc-le-suc p) in
    rw (emit-append b (flat bs), length-append (emit b) (emit (flat bs))) (omega arith)

-- every instruction takes a byte
a_byte : (i : Instr) → 1 ≤ length (encode i)
unfolding encode four
a_byte (load p) = omega arith
a_byte (branch t) = omega arith
a_byte (go o) = omega arith
a_byte push = omega arith
a_byte pop = omega arith
a_byte make_anon = omega arith
a_byte (store_var v) = omega arith
a_byte (make_var v) = omega arith
a_byte (make_term (con c)) = omega arith
a_byte (make_term (fun f)) = omega arith
a_byte replace = omega arith
a_byte narrow = omega arith
a_byte choice = omega arith
a_byte fail = omega arith
a_byte wrong = omega arith

pub emit-length : (is : List Instr) → length is ≤ length (emit is)
unfolding emit
emit-length [] = omega arith
emit-length (i ∷ is) = let h : length is ≤ length (emit is) = emit-length is in let e : 1 ≤ length (encode i) = a_byte i in rw (length-append (encode i) (emit is)) (omega arith)

-- a constructor's place among its type's
pub record Placed (types : List (List ℕ)) (t c j : ℕ) : Type 0 where
  pub small : j < length (cons_of types t)
  pub number : c ≡ first_con types t + j

pub placed : (types : List (List ℕ)) (t c j : ℕ) → place types t c ≡ some j → Placed types t c j
unfolding place
placed types t c j e = go (leb (first_con types t) c) (ltb c (first_con types t + length (cons_of types t))) refl refl e
  where
    go : (a b : Bool) → leb (first_con types t) c ≡ a → ltb c (first_con types t + length (cons_of types t)) ≡ b
        → (let o : Option ℕ = elim (a && b) [ true ↦ some (c - first_con types t) | false ↦ none ] in o ≡ some j) → Placed types t c j
    go true true p q r =
        let lo : first_con types t ≤ c = leb→le (first_con types t) c (rw p tt) in
        let hi : c < first_con types t + length (cons_of types t) = ltb→lt c (first_con types t + length (cons_of types t)) (rw q tt) in
        let d : c - first_con types t ≡ j = cc in
        record { small = omega arith; number = omega arith }
    go true false p q r = let z : ◌≡◌ {A = ℕ} 0 1 = cc in omega arith
    go false b p q r = let z : ◌≡◌ {A = ℕ} 0 1 = cc in omega arith

pub arity-at : (types : List (List ℕ)) (t j : ℕ) → j < length (cons_of types t) → get_or (con_arities types) (first_con types t + j) 0 ≡ get_or (cons_of types t) j 0
arity-at [] t j p = absurd (not-suc-le-zero p)
arity-at (l ∷ ls) zero j p = rw (zero-add j) (get_or-append l (join ls) 0 j p)
arity-at (l ∷ ls) (suc t) j p = rw (length-append l (join (take t ls)), add_assoc (length l) (length (join (take t ls))) j) (get_or-append-add l (join ls) (first_con ls t + j) 0 ∙ arity-at ls t j p)

pub arities-at : (m : Program) (t : ℕ) → Arities m (first_con m.types t) (cons_of m.types t)
unfolding arity_of
arities-at m t = from (cons_of m.types t) (first_con m.types t) (arity-at m.types t)
  where
    from : (more : List ℕ) (c : ℕ) → ((j : ℕ) → j < length more → get_or (con_arities m.types) (c + j) 0 ≡ get_or more j 0) → Arities m c more
    from [] c f = tt
    from (a ∷ more) c f = (rw (add-zero c) at (f 0 (omega arith)), from more (suc c) (λ j p. rw (suc-add c j, ← add-suc c j) (f (suc j) (omega arith))))
