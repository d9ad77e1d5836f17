-- An accepted book, and an accepted question, is fine: the TYPEs, the FUNCs, and the laws on whole books and questions.
use Prim.Native.Nat.{ℕ, zero, suc, ◌+◌, ◌≤◌, ◌<◌}
use native.Mathlib.Nat.{le_of_suc-le-suc, not-suc-le-zero, zero-add}
use native.Mathlib.Omega.{arith}
use mathlib.Core.Path.{◌≡◌, refl, ap, sym, ◌∙◌, subst, subst₂}
use mathlib.Core.Bool.{Bool, true, false, ◌&&◌}
use mathlib.Core.List.{List, [], ◌∷◌, ◌++◌, map}
use mathlib.Core.Option.{none}
use lib.ListN.{length, get_or, replicate, length-append, length-map, get_or-map, get_or-eq_default}
use lib.Dec.{leb, ltb, eqb}
use borrow.Author.Tests.{ltb-true, ltb-false, leb-true, eqb-true, eqb-false}
use Rattle.book.specs.Syntax.{Symbol, con, fun, Right, Tree, norule, Func, arity, Book, con_arities, cons_of}
use Rattle.std.specs.Prelude.{Result, Ok, Err}
use Rattle.book.specs.declared.Fault.{Fault}
use Rattle.book.specs.Record.{Rec, Got, got, fault, rec_at, scan, book_fits, any_fits, funcs_from, func_arities}
use Rattle.book.specs.Reading.{after, make, pick, read_right, read_cons, is_kind, read_types, read_funcs, read_book, last, read_alone, read_question}
use Rattle.book.specs.Accepted.{arity_in, FineRight, FineTree, FineFunc, FineBook}
use Rattle.book.proofs.Passing.{rec-ends, rec-goes, funcs-end, funcs-take, funcs-pass, scan-ends, scan-faults, scan-refuses, scan-takes, scan-passes, arities, arities-take, Past, Fair, fair, lost, fair-here, fair-make, fair-after, fair-pick}
use Rattle.book.proofs.Fairness.{kind-differs, both_hold, right-fair, tree-fair}

-- CONS records: as many as the TYPE says, never beyond the 256th, their arities up to 8
abbrev FineCons : ℕ → ℕ → List ℕ → Type 0
FineCons before n cs = (length cs ≡ n) × (before ≤ 256 → before + length cs ≤ 256) × ((c : ℕ) → get_or cs c 0 ≤ 8)

cons-more : (before n a : ℕ) → before < 256 → a ≤ 8 → (cs : List ℕ) → FineCons (suc before) n cs → FineCons before (suc n) (a ∷ cs)
cons-more before n a l h cs f = (ap suc f.0, (λ z. (let y = f.1 l in omega arith)), at)
  where
    at : (c : ℕ) → get_or (a ∷ cs) c 0 ≤ 8
    at zero = h
    at (suc c) = f.2 c

cons-fair : (s : List ℕ) (before n k : ℕ) → Fair s k (FineCons before n) (read_cons s before n k)
unfolding read_cons
cons-fair s before zero k = fair-here (refl, (λ h. omega arith), (λ c. omega arith))
cons-fair s before (suc n) k = fair-pick s (FineCons before (suc n)) k _ (
  kind-differs 2 tt,
  (λ a b e t.
      (let u = both_hold (ltb before 256) (leb a 8) t in
      fair-make _ (cons-fair s (suc before) n e) (cons-more before n a (ltb-true before 256 u.0) (leb-true a 8 u.1)))),
  tt,
) (rec_at s k) refl

-- TYPEs, after so many types and constructors
record FineAfter (types cons : ℕ) (ts : List (List ℕ)) : Type 0 where
  few : types ≤ 64 → types + length ts ≤ 64
  each : (t : ℕ) → t < length ts → (1 ≤ length (cons_of ts t)) × (length (cons_of ts t) ≤ 32)
  all : cons ≤ 256 → cons + length (con_arities ts) ≤ 256
  low : (c : ℕ) → get_or (con_arities ts) c 0 ≤ 8

append-low : (l m : List ℕ) → ((c : ℕ) → get_or l c 0 ≤ 8) → ((c : ℕ) → get_or m c 0 ≤ 8) → (c : ℕ) → get_or (l ++ m) c 0 ≤ 8
append-low [] m f g c = g c
append-low (a ∷ l) m f g zero = f 0
append-low (a ∷ l) m f g (suc c) = append-low l m (λ i. f (suc i)) g c

types_more : (types cons c : ℕ) → (ltb types 64 && leb 1 c && leb c 32) ≡ true → (cs : List ℕ) → FineCons cons c cs → (ts : List (List ℕ)) → FineAfter (suc types) (cons + c) ts → FineAfter types cons (cs ∷ ts)
types_more types cons c t cs f ts g =
    let u = both_hold (ltb types 64 && leb 1 c) (leb c 32) t in
    let v = both_hold (ltb types 64) (leb 1 c) u.0 in
    let h = ltb-true types 64 v.0 in
    let low = leb-true 1 c v.1 in
    let high = leb-true c 32 u.1 in
    record {
      few = λ z. (let y = g.few h in omega arith);
      each = at low high;
      all = λ z. (let x = f.1 z in let y = g.all (omega (arith, f.0)) in let w = length-append cs (con_arities ts) in omega (arith, f.0));
      low = append-low cs (con_arities ts) f.2 g.low;
    }
  where
    at : 1 ≤ c → c ≤ 32 → (t : ℕ) → t < length (cs ∷ ts) → (1 ≤ length (cons_of (cs ∷ ts) t)) × (length (cons_of (cs ∷ ts) t) ≤ 32)
    at low high zero p = (omega (arith, f.0), omega (arith, f.0))
    at low high (suc t) p = g.each t (le_of_suc-le-suc p)

no_more : (types cons : ℕ) → FineAfter types cons []
no_more types cons = record { few = λ h. omega arith; each = λ t h. absurd (not-suc-le-zero h); all = λ h. omega arith; low = λ c. omega arith }

types-fair : (s : List ℕ) (n types cons k : ℕ) → Fair s k (FineAfter types cons) (read_types s n types cons k)
unfolding read_types
types-fair s zero types cons k = fair-here (no_more types cons)
types-fair s (suc n) types cons k = go (types-fair s n) (is_kind 1 (rec_at s k)) refl
  where
    go : ((types cons k : ℕ) → Fair s k (FineAfter types cons) (read_types s n types cons k)) → (b : Bool) → is_kind 1 (rec_at s k) ≡ b → Fair s k (FineAfter types cons) (read_types s (suc n) types cons k)
    go ih true q = rw (q, read_types) (fair-pick s (FineAfter types cons) k _
        (kind-differs 1 tt, (λ c b e t. fair-after (cons-fair s cons c e) (λ cs e f. fair-make _ (ih (suc types) (cons + c) e) (types_more types cons c t cs f))), tt) (rec_at s k) refl)
    go ih false q = rw (q, read_types) (fair-here (no_more types cons))

module _ (s : List ℕ) (types : List (List ℕ)) (funcs : List ℕ) where
  abbrev FineFuncs : List Func → Type 0
  FineFuncs fs = (f : ℕ) (other : Func) → f < length fs → FineFunc types funcs (get_or fs f other)

  -- the FUNCs from k on, to the end: the FUNCs of the first pass, each fine
  abbrev Ended : ℕ → Got (List Func) → Type 0
  Ended k (got fs e) = (e ≡ length s) × (arities s k ≡ map arity fs) × FineFuncs fs
  Ended k (fault w p) = Unit

  -- what follows a FUNC's record
  abbrev following : ℕ → ℕ → Got Tree → Got (List Func)
  following n a x = after x (λ t e. make (λ fs. record { arity = a; tree = t } ∷ fs) (read_funcs n s types funcs e))

  func-ends : (k f a : ℕ) (t : Tree) → arities s k ≡ a ∷ arities s f → FineFunc types funcs (record { arity = a; tree = t })
      → (y : Got (List Func)) → Ended f y → Ended k (make (λ fs. record { arity = a; tree = t } ∷ fs) y)
  unfolding make arity
  func-ends k f a t q h (got fs e) i = (i.0, q ∙ ap (λ (l : List ℕ). a ∷ l) i.1, at)
    where
      at : FineFuncs (record { arity = a; tree = t } ∷ fs)
      at zero other p = h
      at (suc g) other p = i.2 g other (le_of_suc-le-suc p)
  func-ends k f a t q h (fault w p) i = tt

  tree-ends : (n k : ℕ) → ((k : ℕ) → length s ≤ n + k → k ≤ length s → Ended k (read_funcs n s types funcs k)) → length s ≤ suc n + k
      → {r : Rec} → rec_at s k ≡ Ok r → r.kind ≡ 3 → r.a ≤ 8 → {x : Got Tree} → Fair s r.end (FineTree types funcs (replicate r.a 1)) x → Ended k (following n r.a x)
  unfolding after
  tree-ends n k ih l {r} q u h (fair {a = t} {e = f} p g) =
      let d = rec-goes s k q in
      func-ends k f r.a t (arities-take s k q u ∙ ap (λ (l : List ℕ). r.a ∷ l) p.quiet) (h, g) (read_funcs n s types funcs f) (ih f (omega (arith, p.on)) (p.within d.1))
  tree-ends n k ih l q u h lost = tt

  funcs-end-well : (n k : ℕ) → length s ≤ n + k → k ≤ length s → Ended k (read_funcs n s types funcs k)
  unfolding read_funcs pick
  funcs-end-well zero k l h = (omega arith, funcs-end s (length s) k (rec-ends s k (omega arith)), λ f other p. absurd (not-suc-le-zero p))
  funcs-end-well (suc n) k l h = go (funcs-end-well n) (ltb k (length s)) refl
    where
      fits : ((k : ℕ) → length s ≤ n + k → k ≤ length s → Ended k (read_funcs n s types funcs k)) → ltb k (length s) ≡ true → {r : Rec} → rec_at s k ≡ Ok r → (u : Bool) → eqb r.kind 3 ≡ u → (v : Bool) → leb r.a 8 ≡ v → Ended k (read_funcs (suc n) s types funcs k)
      fits ih t {r} q false u v w = rw (t, read_funcs, q, pick, u) tt
      fits ih t {r} q true u false w = rw (t, read_funcs, q, pick, u, w) tt
      fits ih t {r} q true u true w = rw (t, read_funcs, q, pick, u, w) (tree-ends n k ih l q (eqb-true r.kind 3 u) (leb-true r.a 8 w) (tree-fair s types funcs (suc (length s)) (replicate r.a 1) r.end))

      kinds : ((k : ℕ) → length s ≤ n + k → k ≤ length s → Ended k (read_funcs n s types funcs k)) → ltb k (length s) ≡ true → (r : Result Rec Fault) → rec_at s k ≡ r → Ended k (read_funcs (suc n) s types funcs k)
      kinds ih t (Err w) q = rw (t, read_funcs, q, pick) tt
      kinds ih t (Ok r) q = fits ih t q (eqb r.kind 3) refl (leb r.a 8) refl

      go : ((k : ℕ) → length s ≤ n + k → k ≤ length s → Ended k (read_funcs n s types funcs k)) → (b : Bool) → ltb k (length s) ≡ b → Ended k (read_funcs (suc n) s types funcs k)
      go ih false t = (let d = ltb-false k (length s) t in rw (t, read_funcs) (omega arith, funcs-end s (length s) k (rec-ends s k d), λ f other p. absurd (not-suc-le-zero p)))
      go ih true t = kinds ih t (rec_at s k) refl

-- the first pass lets through at most 256 FUNCs
abbrev Few : ℕ → List ℕ → Got (Unit {0}) → Type 0
Few f l (got u e) = f + length l ≤ 256
Few f l (fault w p) = Unit

fits-few : (f kind a : ℕ) → eqb kind 3 ≡ true → book_fits f kind a ≡ true → f < 256
unfolding book_fits
fits-few f kind a t h = ltb-true f 256 (both_hold (leb a 8) (ltb f 256) (rw (t, book_fits) at h)).1

one_fewer : (f a : ℕ) (l : List ℕ) (x : Got (Unit {0})) → Few (suc f) l x → Few f (a ∷ l) x
one_fewer f a l (got u e) h = omega arith
one_fewer f a l (fault w p) h = tt

scan-few : (s : List ℕ) (n f k : ℕ) → f ≤ 256 → Few f (funcs_from s n k) (scan s book_fits n f k)
unfolding scan funcs_from
scan-few s zero f k h = omega arith
scan-few s (suc n) f k h = go (scan-few s n) (ltb k (length s)) refl
  where
    fits : ((f k : ℕ) → f ≤ 256 → Few f (funcs_from s n k) (scan s book_fits n f k)) → k < length s → {r : Rec} → rec_at s k ≡ Ok r → (u : Bool) → book_fits f r.kind r.a ≡ u → (v : Bool) → eqb r.kind 3 ≡ v → Few f (funcs_from s (suc n) k) (scan s book_fits (suc n) f k)
    fits ih t q false u v w = subst (Few f _) (sym (scan-refuses s book_fits n f k t q u)) tt
    fits ih t {r} q true u true w =
        let is = eqb-true r.kind 3 w in
        let below = fits-few f r.kind r.a w u in
        subst₂ (Few f) (sym (funcs-take s n k q is)) (sym (scan-takes s book_fits n f k t q u is)) (one_fewer f r.a (funcs_from s n r.end) (scan s book_fits n (suc f) r.end) (ih (suc f) r.end below))
    fits ih t {r} q true u false w =
        let other = eqb-false r.kind 3 w in
        subst₂ (Few f) (sym (funcs-pass s n k q other)) (sym (scan-passes s book_fits n f k t q u other)) (ih f r.end h)

    kinds : ((f k : ℕ) → f ≤ 256 → Few f (funcs_from s n k) (scan s book_fits n f k)) → k < length s → (r : Result Rec Fault) → rec_at s k ≡ r → Few f (funcs_from s (suc n) k) (scan s book_fits (suc n) f k)
    kinds ih t (Err w) q = subst (Few f _) (sym (scan-faults s book_fits n f k t q)) tt
    kinds ih t (Ok r) q = fits ih t q (book_fits f r.kind r.a) refl (eqb r.kind 3) refl

    go : ((f k : ℕ) → f ≤ 256 → Few f (funcs_from s n k) (scan s book_fits n f k)) → (b : Bool) → ltb k (length s) ≡ b → Few f (funcs_from s (suc n) k) (scan s book_fits (suc n) f k)
    go ih false t =
        let d = ltb-false k (length s) t in
        subst₂ (Few f) (sym (funcs-end s (suc n) k (rec-ends s k d))) (sym (scan-ends s book_fits (suc n) f k d)) (omega arith)
    go ih true t = kinds ih (ltb-true k (length s) t) (rec_at s k) refl

-- what is known of an accepted book
record Whole (s : List ℕ) (book : Book) (e : ℕ) : Type 0 where
  short : length s ≤ 32768
  few : length (func_arities s) ≤ 256
  types : FineAfter 0 0 book.types
  ends : e ≡ length s
  same : func_arities s ≡ map arity book.funcs
  funcs : FineFuncs s book.types (func_arities s) book.funcs

module _ (s : List ℕ) where
  abbrev WholeIf : Got Book → Type 0
  WholeIf (got book e) = Whole s book e
  WholeIf (fault w p) = Unit

  module _ (short : length s ≤ 32768) where
    whole-funcs : length (func_arities s) ≤ 256 → (types : List (List ℕ)) (k : ℕ) → Past s 0 k → FineAfter 0 0 types
        → (x : Got (List Func)) → Ended s types (func_arities s) k x → WholeIf (make (λ funcs. record { types = types; funcs = funcs }) x)
    unfolding make func_arities
    whole-funcs few types k p t (got fs e) h = record { short = short; few = few; types = t; ends = h.0; same = p.quiet ∙ h.1; funcs = h.2 }
    whole-funcs few types k p t (fault w q) h = tt

    whole-types : length (func_arities s) ≤ 256 → {x : Got (List (List ℕ))} → Fair s 0 (FineAfter 0 0) x
        → WholeIf (after x (λ types e. make (λ funcs. record { types = types; funcs = funcs }) (read_funcs (length s) s types (func_arities s) e)))
    unfolding after
    whole-types few (fair {a = types} {e = k} p t) =
        whole-funcs few types k p t (read_funcs (length s) s types (func_arities s) k) (funcs-end-well s types (func_arities s) (length s) k (omega arith) (p.within (omega arith)))
    whole-types few lost = tt

    whole-scan : (x : Got (Unit {0})) → Few 0 (func_arities s) x
        → WholeIf (after x (λ _ _. after (read_types s 65 0 0 0) (λ types e. make (λ funcs. record { types = types; funcs = funcs }) (read_funcs (length s) s types (func_arities s) e))))
    unfolding after
    whole-scan (got u e) h = whole-types (omega arith) (types-fair s 65 0 0 0)
    whole-scan (fault w p) h = tt

  whole-book : WholeIf (read_book s)
  unfolding read_book func_arities
  whole-book = go (leb (length s) 32768) refl
    where
      go : (b : Bool) → leb (length s) 32768 ≡ b → WholeIf (read_book s)
      go true t = rw (t, read_book) (whole-scan (leb-true (length s) 32768 t) (scan s book_fits (length s) 0 0) (scan-few s (length s) 0 0 (omega arith)))
      go false t = rw (t, read_book) tt

module _ (s : List ℕ) (book : Book) (e : ℕ) (q : read_book s ≡ got book e) where
  whole : Whole s book e
  whole = subst (WholeIf s) q (whole-book s)

  -- The FUNC records of the first pass are exactly the functions: none lies inside a tree.
  pub book-arities : func_arities s ≡ map arity book.funcs
  book-arities = whole.same

  -- An accepted book is read to its end,
  pub book-ends : e ≡ length s
  book-ends = whole.ends

  -- has at most 32,768 bytes,
  pub book-short : length s ≤ 32768
  book-short = whole.short

  -- and obeys every rule on what it names and on how many records there are.
  pub book-fine : FineBook book
  book-fine = record {
    types = record { few = rw zero-add at (whole.types.few (omega arith)); each = whole.types.each; cons = rw zero-add at (whole.types.all (omega arith)); arities = whole.types.low };
    few = rw (book-arities, length-map) at whole.few;
    funcs = rw book-arities at whole.funcs;
  }

-- In an accepted book every symbol's arity is at most 8; one that doesn't exist counts as 0 here.
pub arity-small : (book : Book) → FineBook book → (f : Symbol) → arity_in (con_arities book.types) (map arity book.funcs) f ≤ 8
unfolding arity
arity-small book h (con c) = h.types.arities c
arity-small book h (fun f) = go (ltb f (length book.funcs)) refl
  where
    nothing : Func
    nothing = record { arity = 0; tree = norule }

    go : (b : Bool) → ltb f (length book.funcs) ≡ b → get_or (map arity book.funcs) f 0 ≤ 8
    go true t =
        let e : get_or (map arity book.funcs) f 0 ≡ (get_or book.funcs f nothing).arity = get_or-map arity book.funcs f nothing in
        rw e (h.funcs f nothing (ltb-true f (length book.funcs) t)).0
    go false t =
        let d = ltb-false f (length book.funcs) t in
        let n = length-map book.funcs arity in
        omega (arith, get_or-eq_default (map arity book.funcs) 0 {n = f} (omega arith))

-- what is known of an accepted question
abbrev AskedIf : List ℕ → List ℕ → List ℕ → Got Right → Type 0
AskedIf s cons funcs (got q e) = FineRight cons funcs 0 q × (e ≡ length s)
AskedIf s cons funcs (fault w p) = Unit

asked-last : (s cons funcs : List ℕ) (k : ℕ) → k ≤ length s → (q : Right) → FineRight cons funcs 0 q → AskedIf s cons funcs (last s q k)
unfolding last
asked-last s cons funcs k l q h = go (ltb k (length s)) refl
  where
    go : (b : Bool) → ltb k (length s) ≡ b → AskedIf s cons funcs (last s q k)
    go true t = rw (t, last) tt
    go false t = let d = ltb-false k (length s) t in rw (t, last) (h, omega arith)

asked-right : (s cons funcs : List ℕ) {x : Got Right} → Fair s 0 (FineRight cons funcs 0) x → AskedIf s cons funcs (after x (last s))
unfolding after
asked-right s cons funcs (fair {a = q} {e = k} p h) = asked-last s cons funcs k (p.within (omega arith)) q h
asked-right s cons funcs lost = tt

asked-scan : (s cons funcs : List ℕ) (x : Got (Unit {0})) → AskedIf s cons funcs (after x (λ _ _. after (read_right s cons funcs none 0) (last s)))
unfolding after
asked-scan s cons funcs (got u e) = asked-right s cons funcs (right-fair s cons funcs none 0)
asked-scan s cons funcs (fault w p) = tt

module _ (book : Book) (s : List ℕ) (q : Right) (e : ℕ) (r : read_question book s ≡ got q e) where
  asked : FineRight (con_arities book.types) (map arity book.funcs) 0 q × (e ≡ length s)
  unfolding read_question read_alone
  asked = subst (AskedIf s (con_arities book.types) (map arity book.funcs)) r (asked-scan s (con_arities book.types) (map arity book.funcs) (scan s any_fits (length s) 0 0))

  -- An accepted question is a RIGHT without a SLOT, over the book's constructors and functions,
  pub question-fine : FineRight (con_arities book.types) (map arity book.funcs) 0 q
  question-fine = asked.0

  -- and nothing stands after it.
  pub question-ends : e ≡ length s
  question-ends = asked.1
