-- The lore of a book from what was read, and the machine's tables.
use Prim.Native.Nat.{ℕ, zero, suc, ◌+◌, ◌*◌, ◌≤◌, ◌<◌}
use native.Mathlib.Nat.{add_assoc, add-zero, zero-add, add-suc, suc-add}
use native.Mathlib.Numerals.{add-one}
use native.Mathlib.Omega.{arith}
use mathlib.Core.Path.{◌≡◌, refl, ap, sym, ◌∙◌, subst}
use mathlib.Core.Bool.{Bool, true, false}
use mathlib.Core.Option.{some}
use mathlib.Core.List.{List, [], ◌∷◌, ◌++◌, map}
use lib.ListN.{length, get_or, get_elem?, take, length-append, length-take, length-map}
use lib.Seq.{take-suc, take_all, length-take-le, get_or-take}
use lib.Dec.{ltb}
use borrow.Author.Tests.{ltb-true, ltb-false}
use Rattle.std.specs.Prelude.{Result, Ok, Err}
use Rattle.book.specs.Syntax.{arity, join, con_arities, cons_of, first_con}
use Rattle.book.specs.Steps.{BookRead, BookIs}
use Rattle.book.specs.Facts.{HomeIs}
use Rattle.book.specs.Accepted.{FineTypes, FineBook}
use Rattle.book.specs.declared.Fault.{Fault}
use Rattle.book.specs.declared.Sizes.{Sizes}
use Rattle.book.specs.declared.Home.{Home}
use Rattle.book.proofs.Acceptance.{book-fine}
use Rattle.engine.specs.Machine.{members, homes}
use Rattle.compiler.specs.declared.Lore.{Lore}
use Rattle.compiler.specs.Records.{a_cons, bytes, types_recs}
use Rattle.compiler.specs.Rows.{LoreIs}
use Rattle.compiler.specs.Here.{TypesKnown, TypesNoted}
use Rattle.compiler.specs.Tables.{HomeOf, ConsKnown, front_at, BookKnown, SurveyIs}
use Rattle.compiler.proofs.Bytes.{bytes-append}

-- an arity from a table that begins with all of them
from-table : (table all : List ℕ) (n i : ℕ) → take n table ≡ all → i < length all → get_or table i 0 ≡ get_or all i 0
from-table table all n i q h =
    let l : i < n = go (ltb i n) refl in
    sym (get_or-take n table i 0 l) ∙ ap (λ (l : List ℕ). get_or l i 0) q
  where
    go : (b : Bool) → ltb i n ≡ b → i < n
    go true t = ltb-true i n t
    go false t = absurd (omega (arith, ltb-false i n t, ap length q, length-take n table))

module _ (s cons funcs : List ℕ) (n : Sizes) (r : BookRead s cons funcs n.types n.cons n.funcs) where
  fine : FineBook r.book
  fine = book-fine s r.book r.end r.is

  pub types-known : TypesKnown s n.types
  types-known = record { front = record { stand = r.front.stand; many = refl }; many = r.front.many; fine = subst FineTypes (sym r.types_are) fine.types }

  cons-many : length (con_arities r.book.types) ≡ n.cons
  cons-many = sym (ap length r.cons-are) ∙ length-take-le n.cons cons r.cons-few

  funs-many : length r.book.funcs ≡ n.funcs
  funs-many = sym (length-map r.book.funcs arity) ∙ sym (ap length r.funcs-are) ∙ length-take-le n.funcs funcs r.funcs-few

  pub book-known : (lore lore' : Lore) → lore.sizes ≡ n → lore.cons ≡ cons → lore.funcs ≡ funcs → length cons ≡ 256 → TypesNoted s lore lore' n.types → BookKnown s lore'
  book-known lore lore' a b d long t = record {
    book = r.book;
    end = r.end;
    is = r.is;
    front = rw sizes r.front;
    types_are = r.types_are;
    types = rw sizes (ap length (sym r.types_are) ∙ r.front.many);
    cons = rw sizes cons-many;
    funs = rw sizes funs-many;
    told = record {
      long = ap length (t.cons ∙ b) ∙ long;
      fine = fine.types;
      con_ars = λ c h. rw (t.cons, b) (from-table cons (con_arities r.book.types) n.cons c r.cons-are h);
      fun_ars = λ f h. rw (t.funcs, d) (from-table funcs (map arity r.book.funcs) n.funcs f r.funcs-are h);
      firsts = λ u h. t.firsts u (omega (arith, ap length r.types_are, r.front.many)) ∙ ap (λ (ts : List (List ℕ)). first_con ts u) r.types_are;
      counts = λ u h. t.counts u (omega (arith, ap length r.types_are, r.front.many)) ∙ ap (λ (ts : List (List ℕ)). length (cons_of ts u)) r.types_are;
    };
  }
    where
      sizes : lore'.sizes ≡ n
      sizes = t.sizes ∙ a

pub survey-got : (s cons funcs : List ℕ) {r : Result Sizes Fault} {n : Sizes} → BookIs s cons funcs r → r ≡ Ok n → BookRead s cons funcs n.types n.cons n.funcs
unfolding BookIs
survey-got s cons funcs b q = subst (BookIs s cons funcs) q b

pub survey-lost : (s cons funcs : List ℕ) {r : Result Sizes Fault} {f : Fault} → BookIs s cons funcs r → r ≡ Err f → SurveyIs s (Err f)
unfolding BookIs SurveyIs
survey-lost s cons funcs b q = subst (BookIs s cons funcs) q b

pub survey-is : (s : List ℕ) (lore : Lore) → BookKnown s lore → SurveyIs s (Ok lore)
unfolding SurveyIs
survey-is s lore b = b

-- the place after the types
pub front-more : (lore : Lore) (n : ℕ) → front_at lore (n + 1) ≡ front_at lore n + (2 * get_or lore.counts n 0 + 2)
unfolding front_at
front-more lore n = rw (add-one n, front_at)

pub front-none : (lore : Lore) → front_at lore 0 ≡ 0
unfolding front_at
front-none lore = refl

cons-bytes : (cs : List ℕ) → length (bytes (map a_cons cs)) ≡ 2 * length cs
cons-bytes [] = refl
cons-bytes (c ∷ cs) = let h = cons-bytes cs in omega arith

types-append : (a b : List (List ℕ)) → length (bytes (types_recs (a ++ b))) ≡ length (bytes (types_recs a)) + length (bytes (types_recs b))
types-append [] b = omega arith
types-append (cs ∷ a) b =
    let h = types-append a b in
    omega (arith, ap length (bytes-append (map a_cons cs) (types_recs (a ++ b))), ap length (bytes-append (map a_cons cs) (types_recs a)), length-append (bytes (map a_cons cs)) (bytes (types_recs (a ++ b))), length-append (bytes (map a_cons cs)) (bytes (types_recs a)))

one_type : (cs : List ℕ) → length (bytes (types_recs (cs ∷ []))) ≡ 2 * length cs + 2
one_type cs = omega (arith, ap length (bytes-append (map a_cons cs) []), length-append (bytes (map a_cons cs)) [], cons-bytes cs)

front-is : (types : List (List ℕ)) (funcs : List ℕ) (lore : Lore) → LoreIs types funcs lore → (n : ℕ) → n ≤ length types → front_at lore n ≡ length (bytes (types_recs (take n types)))
front-is types funcs lore t zero h = front-none lore
front-is types funcs lore t (suc n) h =
    let k = front-is types funcs lore t n (omega arith) in
    let e : take (suc n) types ≡ take n types ++ (cons_of types n ∷ []) = take-suc types n [] h in
    ap (front_at lore) (sym (add-one n)) ∙ front-more lore n
    ∙ rw (e, types-append (take n types) (cons_of types n ∷ []), one_type (cons_of types n), k, t.counts n h)

pub front-all : (types : List (List ℕ)) (funcs : List ℕ) (lore : Lore) (n : ℕ) → LoreIs types funcs lore → length types ≡ n → front_at lore n ≡ length (bytes (types_recs types))
front-all types funcs lore n t q = front-is types funcs lore t n (omega arith) ∙ ap (λ (ts : List (List ℕ)). length (bytes (types_recs ts))) (take_all n types (omega arith))

pub home-small : (s : List ℕ) (n c : ℕ) → ConsKnown s n → (r : Home) → HomeIs s c r → (r.ty < 65536) × (r.arm < 65536)
home-small s n c k r h = (omega (arith, h.there, k.few), omega (arith, h.below, k.each r.ty h.there))

-- a constructor's home by the machine's definition
members-front : (cons : List ℕ) (t j c : ℕ) (rest : List (ℕ × ℕ)) → c < length cons → get_elem? (members t j cons ++ rest) c ≡ some (t, j + c)
unfolding members
members-front [] t j c rest p = absurd (omega arith)
members-front (a ∷ cons) t j zero rest p = rw (add-zero j)
members-front (a ∷ cons) t j (suc c) rest p = members-front cons t (suc j) c rest (omega arith) ∙ rw (suc-add j c, add-suc j c)

members-back : (cons : List ℕ) (t j q : ℕ) (rest : List (ℕ × ℕ)) → get_elem? (members t j cons ++ rest) (length cons + q) ≡ get_elem? rest q
unfolding members
members-back [] t j q rest = rw (zero-add q)
members-back (a ∷ cons) t j q rest = rw (suc-add (length cons) q) (members-back cons t (suc j) q rest)

homes_at : (types : List (List ℕ)) (b t j : ℕ) → j < length (cons_of types t) → get_elem? (homes b types) (first_con types t + j) ≡ some (b + t, j)
unfolding homes
homes_at [] b t j h = absurd (omega arith)
homes_at (cs ∷ types) b zero j h = rw (zero-add j, add-zero b) (members-front cs b 0 j (homes (suc b) types) h ∙ rw (zero-add j))
homes_at (cs ∷ types) b (suc t) j h =
    rw (length-append cs (join (take t types)), add_assoc (length cs) (length (join (take t types))) j, members-back cs b 0 (first_con types t + j) (homes (suc b) types))
    (homes_at types (suc b) t j h ∙ rw (suc-add b t, add-suc b t))

pub home-is : (types : List (List ℕ)) (c t j : ℕ) → HomeOf types c t j → get_elem? (homes 0 types) c ≡ some (t, j)
home-is types c t j h = rw (← h.is) (homes_at types 0 t j h.below ∙ rw (zero-add t))
