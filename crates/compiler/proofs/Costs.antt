-- What each record of the book brings of code, as the lore gives it, and the walk over all of them.
use Prim.Native.Nat.{ℕ, suc, ◌+◌, ◌-◌, ◌*◌, ◌≤◌, ◌<◌}
use native.Mathlib.Nat.{add-zero, zero-add}
use native.Mathlib.Numerals.{add-one}
use native.Mathlib.Omega.{arith}
use mathlib.Core.Path.{◌≡◌, refl, ap, sym, ◌∙◌, subst}
use mathlib.Core.List.{List, [], ◌∷◌, ◌++◌, map}
use lib.ListN.{length, get_or, take, drop, length-append, length-drop, drop_of_length-le}
use lib.Seq.{drop-cons}
use borrow.Author.Tests.{eq-eqb, ne_eqb, lt-ltb, le-ltb}
use Rattle.book.specs.Syntax.{con, fun, Term, Terms, app, slot, fresh, done, arg, Right, Tree, Trees, split, rule, norule, stop, child, Func, arity, Book, cons_of}
use Rattle.book.specs.Accepted.{FineTree, FineTrees, FineBook}
use Rattle.book.proofs.Acceptance.{book-fine, book-short}
use Rattle.engine.specs.Compile.{compile}
use Rattle.compiler.specs.declared.Lore.{Lore}
use Rattle.compiler.specs.Records.{Rcd, a_type, a_cons, a_func, a_split, a_rule, a_right, a_symbol, a_slot, a_fresh, a_none, bytes_of, bytes, term_recs, terms_recs, rights_recs, tree_recs, trees_recs, funcs_recs, types_recs, book_recs, arm_cost, cost, costs}
use Rattle.compiler.specs.Rows.{width_at, arm_at, split_at, cost_at}
use Rattle.compiler.specs.Here.{FineRcd, RcdHere, Surveyed}
use Rattle.compiler.proofs.Bytes.{book-bytes}
use Rattle.compiler.proofs.Terms.{head-is, two-are, skipped}
use Rattle.compiler.proofs.Splits.{first_fits, lore-part}
use Rattle.compiler.proofs.Lengths.{code-cost, fine-all, FineAll}

pub arm_more : (cons : List ℕ) (c n : ℕ) → 0 < n → c + n ≤ length cons → arm_at cons c n ≡ get_or cons c 0 + 3 + arm_at cons (c + 1) (n - 1)
unfolding arm_at
arm_more cons c n h q =
    let e : n ≡ suc (n - 1) = omega arith in
    let d : drop c cons ≡ get_or cons c 0 ∷ drop (suc c) cons = drop-cons cons c 0 (omega arith) in
    ap (λ (k : ℕ). arm_cost (take k (drop c cons))) e ∙ rw (d, add-one c)

pub arm_end : (cons : List ℕ) (c n : ℕ) → n ≤ 0 → arm_at cons c n ≡ 1
unfolding arm_at
arm_end cons c n h = let e : n ≡ 0 = omega arith in rw e

pub cost-rule : (n : ℕ) → (n ≡ 1 → ⊥) → cost_at 5 n ≡ 1
unfolding cost_at
cost-rule n h = rw (cost_at, ne_eqb n 1 h)

module _ (kind n : ℕ) where
  pub cost-rule-one : kind ≡ 5 → n ≡ 1 → cost_at kind n ≡ 2
  unfolding cost_at
  cost-rule-one p q = rw (eq-eqb kind 5 p, cost_at, eq-eqb n 1 q)

  pub cost-right : (kind ≡ 5 → ⊥) → kind ≡ 6 → cost_at kind n ≡ 2 * n
  unfolding cost_at
  cost-right p q = rw (ne_eqb kind 5 p, cost_at, eq-eqb kind 6 q)

  module _ (p : kind ≡ 5 → ⊥) (q : kind ≡ 6 → ⊥) where
    pub cost-slot : kind ≡ 9 → cost_at kind n ≡ 11
    unfolding cost_at
    cost-slot r = rw (ne_eqb kind 5 p, cost_at, ne_eqb kind 6 q, eq-eqb kind 9 r)

    module _ (r : kind ≡ 9 → ⊥) where
      pub cost-fresh : kind ≡ 10 → cost_at kind n ≡ 2
      unfolding cost_at
      cost-fresh s = rw (ne_eqb kind 5 p, cost_at, ne_eqb kind 6 q, ne_eqb kind 9 r, eq-eqb kind 10 s)

      module _ (s : kind ≡ 10 → ⊥) where
        pub cost-none : kind ≡ 11 → cost_at kind n ≡ 1
        unfolding cost_at
        cost-none u = rw (ne_eqb kind 5 p, cost_at, ne_eqb kind 6 q, ne_eqb kind 9 r, ne_eqb kind 10 s, eq-eqb kind 11 u)

  pub cost-front : kind < 5 → cost_at kind n ≡ 0
  unfolding cost_at
  cost-front v = rw (ne_eqb kind 5 (λ z. omega arith), cost_at, ne_eqb kind 6 (λ z. omega arith), ne_eqb kind 9 (λ z. omega arith), ne_eqb kind 10 (λ z. omega arith), ne_eqb kind 11 (λ z. omega arith), lt-ltb kind 7 (omega arith))

  pub cost-symbol : 7 ≤ kind → (kind ≡ 9 → ⊥) → (kind ≡ 10 → ⊥) → (kind ≡ 11 → ⊥) → cost_at kind n ≡ 3
  unfolding cost_at
  cost-symbol v r s u = rw (ne_eqb kind 5 (λ z. omega arith), cost_at, ne_eqb kind 6 (λ z. omega arith), ne_eqb kind 9 r, ne_eqb kind 10 s, ne_eqb kind 11 u, le-ltb kind 7 v)

pub width-split : (kind : ℕ) → kind ≡ 4 → width_at kind ≡ 3
unfolding width_at
width-split kind p = rw (eq-eqb kind 4 p, width_at)

pub width-none : (kind : ℕ) → (kind ≡ 4 → ⊥) → kind ≡ 11 → width_at kind ≡ 1
unfolding width_at
width-none kind p q = rw (ne_eqb kind 4 p, width_at, eq-eqb kind 11 q)

pub width_two : (kind : ℕ) → (kind ≡ 4 → ⊥) → (kind ≡ 11 → ⊥) → width_at kind ≡ 2
unfolding width_at
width_two kind p q = rw (ne_eqb kind 4 p, width_at, ne_eqb kind 11 q)

-- the record at a place, by its kind
pub record Kinds (s : List ℕ) (lore : Lore) (k : ℕ) (types : List (List ℕ)) (r : Rcd) : Type 0 where
  pub one : k + 1 ≤ length s
  pub split : get_or s k 0 ≡ 4 → (k + 3 ≤ length s) × (get_or s (k + 2) 0 < 64) × (split_at lore (get_or s (k + 2) 0) ≡ cost types r) × (get_or lore.firsts (get_or s (k + 2) 0) 0 + get_or lore.counts (get_or s (k + 2) 0) 0 ≤ 256)
  pub none : get_or s k 0 ≡ 11 → 1 ≡ cost types r
  pub other : (get_or s k 0 ≡ 4 → ⊥) → (get_or s k 0 ≡ 11 → ⊥) → (k + 2 ≤ length s) × (cost_at (get_or s k 0) (get_or s (k + 1) 0) ≡ cost types r)
  pub wide : width_at (get_or s k 0) ≡ length (bytes_of r)

module _ {s : List ℕ} {lore : Lore} {k : ℕ} (x : RcdHere s lore k) where
  two-kinds : (kind n : ℕ) → drop k s ≡ kind ∷ n ∷ x.rest → (kind ≡ 4 → ⊥) → (kind ≡ 11 → ⊥) → cost_at kind n ≡ cost x.types x.rcd → 2 ≡ length (bytes_of x.rcd) → Kinds s lore k x.types x.rcd
  two-kinds kind n h f g e l =
      let w = two-are s k kind n x.rest h in
      record {
        one = omega (arith, w.inside);
        split = λ z. absurd (f (sym w.first ∙ z));
        none = λ z. absurd (g (sym w.first ∙ z));
        other = λ p q. (w.inside, rw (w.first, w.second) e);
        wide = ap width_at w.first ∙ width_two kind f g ∙ l;
      }

  none-kinds : x.rcd ≡ a_none → Kinds s lore k x.types x.rcd
  unfolding cost width_at
  none-kinds q =
      let h = head-is s k 11 x.rest (x.is ∙ ap (λ (r : Rcd). bytes_of r ++ x.rest) q) in
      record {
        one = h.1;
        split = λ z. absurd (omega (arith, h.0));
        none = λ z. rw q refl;
        other = λ p r. absurd (r h.0);
        wide = ap width_at h.0 ∙ ap (λ (r : Rcd). length (bytes_of r)) (sym q);
      }

  split-kinds : (i t : ℕ) → x.rcd ≡ a_split i t → Kinds s lore k x.types x.rcd
  unfolding cost split_at arm_at width_at
  split-kinds i t q =
      let w = two-are s k 4 i (t ∷ x.rest) (x.is ∙ ap (λ (r : Rcd). bytes_of r ++ x.rest) q) in
      let h = head-is s (k + 2) t x.rest w.rest in
      let f : t < length x.types = subst (FineRcd x.types) q x.fine in
      let e : k + 3 ≡ k + 2 + 1 = omega arith in
      record {
        one = omega (arith, w.inside);
        split = λ z. (omega (arith, h.1), omega (arith, h.0, x.told.fine.few), rw (h.0, q, x.told.counts t f, x.told.firsts t f, lore-part x.types x.funcs lore x.told t f) (omega arith), rw (h.0, x.told.firsts t f, x.told.counts t f) (omega (arith, first_fits x.types t f, x.told.fine.cons)));
        none = λ z. absurd (omega (arith, w.first));
        other = λ p r. absurd (p w.first);
        wide = ap width_at w.first ∙ ap (λ (r : Rcd). length (bytes_of r)) (sym q);
      }

  pub kinds : Kinds s lore k x.types x.rcd
  unfolding cost cost_at
  kinds = go x.rcd refl
    where
      at : (r : Rcd) → x.rcd ≡ r → drop k s ≡ bytes_of r ++ x.rest
      at r q = x.is ∙ ap (λ (r : Rcd). bytes_of r ++ x.rest) q

      two : (r : Rcd) → x.rcd ≡ r → (kind n : ℕ) → bytes_of r ≡ kind ∷ n ∷ [] → (kind ≡ 4 → ⊥) → (kind ≡ 11 → ⊥) → cost_at kind n ≡ cost x.types r → Kinds s lore k x.types x.rcd
      two r q kind n b f g e = two-kinds kind n (at r q ∙ rw b) f g (e ∙ rw q) (rw (q, b))

      go : (r : Rcd) → x.rcd ≡ r → Kinds s lore k x.types x.rcd
      go (a_type c) q = two (a_type c) q 1 c refl (λ z. omega arith) (λ z. omega arith) refl
      go (a_cons a) q = two (a_cons a) q 2 a refl (λ z. omega arith) (λ z. omega arith) refl
      go (a_func a) q = two (a_func a) q 3 a refl (λ z. omega arith) (λ z. omega arith) refl
      go (a_split i t) q = split-kinds i t q
      go (a_rule n) q = two (a_rule n) q 5 n refl (λ z. omega arith) (λ z. omega arith) refl
      go (a_right v) q = two (a_right v) q 6 v refl (λ z. omega arith) (λ z. omega arith) refl
      go (a_symbol (con c)) q = two (a_symbol (con c)) q 7 c refl (λ z. omega arith) (λ z. omega arith) refl
      go (a_symbol (fun f)) q = two (a_symbol (fun f)) q 8 f refl (λ z. omega arith) (λ z. omega arith) refl
      go (a_slot i) q = two (a_slot i) q 9 i refl (λ z. omega arith) (λ z. omega arith) refl
      go (a_fresh v) q = two (a_fresh v) q 10 v refl (λ z. omega arith) (λ z. omega arith) refl
      go a_none q = none-kinds q

-- all the records are of types that exist
abbrev AllFine : List (List ℕ) → List Rcd → Type 0
AllFine types [] = Unit
AllFine types (r ∷ rs) = FineRcd types r × AllFine types rs

all_append : (types : List (List ℕ)) (a b : List Rcd) → AllFine types a → AllFine types b → AllFine types (a ++ b)
all_append types [] b f g = g
all_append types (r ∷ a) b f g = (f.0, all_append types a b f.1 g)

module _ (types : List (List ℕ)) where
  mutual
    term-all : (t : Term) → AllFine types (term_recs t)
    term-all (app f ts) = (tt, terms-all ts)
    term-all (slot i) = (tt, tt)
    term-all (fresh i) = (tt, tt)

    terms-all : (ts : Terms) → AllFine types (terms_recs ts)
    terms-all done = tt
    terms-all (arg t ts) = all_append types (term_recs t) (terms_recs ts) (term-all t) (terms-all ts)

  rights-all : (rs : List Right) → AllFine types (rights_recs rs)
  rights-all [] = tt
  rights-all (r ∷ rs) = (tt, all_append types (term_recs r.term) (rights_recs rs) (term-all r.term) (rights-all rs))

  module _ (funcs : List ℕ) where
    mutual
      tree_all : (slots : List ℕ) (t : Tree) → FineTree types funcs slots t → AllFine types (tree_recs t)
      tree_all slots (split i t ts) f = (f.2, trees-all slots i ts (cons_of types t) f.3)
      tree_all slots (rule rs) f = (tt, rights-all rs)
      tree_all slots norule f = (tt, tt)

      trees-all : (slots : List ℕ) (s : ℕ) (ts : Trees) (l : List ℕ) → FineTrees types funcs slots s ts l → AllFine types (trees_recs ts)
      trees-all slots s stop l f = tt
      trees-all slots s (child t ts) [] f = absurd f
      trees-all slots s (child t ts) (a ∷ l) f = all_append types (tree_recs t) (trees_recs ts) (tree_all _ t f.0) (trees-all slots s ts l f.1)

    funcs-all : (fs : List Func) → FineAll types funcs fs → AllFine types (funcs_recs fs)
    funcs-all [] f = tt
    funcs-all (g ∷ fs) f = (tt, all_append types (tree_recs g.tree) (funcs_recs fs) (tree_all _ g.tree f.0.1) (funcs-all fs f.1))

  types-all : (ts : List (List ℕ)) → AllFine types (types_recs ts)
  types-all [] = tt
  types-all (cs ∷ ts) = (tt, all_append types (map a_cons cs) (types_recs ts) (cons-all cs) (types-all ts))
    where
      cons-all : (cs : List ℕ) → AllFine types (map a_cons cs)
      cons-all [] = tt
      cons-all (c ∷ cs) = (tt, cons-all cs)

book-all : (book : Book) → FineBook book → AllFine book.types (book_recs book)
book-all book f =
    all_append book.types (types_recs book.types) (funcs_recs book.funcs) (types-all book.types book.types)
    (funcs-all book.types (map arity book.funcs) book.funcs (fine-all book.types (map arity book.funcs) book.funcs f.funcs))

-- the walk over the records
module _ {s : List ℕ} {lore : Lore} (x : Surveyed s lore) where
  pub record Ahead (at sum : ℕ) : Type 0 where
    pub rcds : List Rcd
    pub is : drop at s ≡ bytes rcds
    pub fine : AllFine x.book.types rcds
    pub total : sum + costs x.book.types rcds ≡ length (compile x.book).code

  fine-book : FineBook x.book
  fine-book = book-fine s x.book x.end x.is

  pub short : length s ≤ 32768
  short = book-short s x.book x.end x.is

  pub ahead-start : Ahead 0 0
  ahead-start = record { rcds = book_recs x.book; is = book-bytes s x.book x.end x.is; fine = book-all x.book fine-book; total = zero-add _ ∙ sym (code-cost x.book fine-book) }

  module _ {at sum : ℕ} (d : Ahead at sum) where
    pub record Onward : Type 0 where
      pub here : RcdHere s lore at
      pub next : (n w : ℕ) → n ≡ cost here.types here.rcd → w ≡ width_at (get_or s at 0) → Ahead (at + w) (sum + n)
      pub goes : (w : ℕ) → w ≡ width_at (get_or s at 0) → (1 ≤ w) × (at + w ≤ length s)

    pub ahead-on : at < length s → Onward
    ahead-on h = go d.rcds d.is d.fine d.total
      where
        a_byte : (r : Rcd) → 1 ≤ length (bytes_of r)
        a_byte (a_type c) = omega arith
        a_byte (a_cons a) = omega arith
        a_byte (a_func a) = omega arith
        a_byte (a_split i t) = omega arith
        a_byte (a_rule n) = omega arith
        a_byte (a_right v) = omega arith
        a_byte (a_symbol (con c)) = omega arith
        a_byte (a_symbol (fun f)) = omega arith
        a_byte (a_slot i) = omega arith
        a_byte (a_fresh v) = omega arith
        a_byte a_none = omega arith

        go : (rs : List Rcd) → drop at s ≡ bytes rs → AllFine x.book.types rs → sum + costs x.book.types rs ≡ length (compile x.book).code → Onward
        go [] p f q = absurd (omega (arith, ap length p, length-drop at s))
        go (r ∷ rs) p f q =
            let X : RcdHere s lore at = record { types = x.book.types; funcs = map arity x.book.funcs; told = x.told; rcd = r; rest = bytes rs; is = p; fine = f.0 } in
            let K = kinds X in
            record {
              here = X;
              next = λ n w a b. (let e : w ≡ length (bytes_of r) = b ∙ K.wide in record { rcds = rs; is = rw e (skipped s at (bytes_of r) (bytes rs) p); fine = f.1; total = rw a (omega arith) });
              goes = λ w b. (let e : w ≡ length (bytes_of r) = b ∙ K.wide in let z = a_byte r in (omega arith, omega (arith, ap length p, length-append (bytes_of r) (bytes rs), length-drop at s)));
            }

    pub ahead-end : length s ≤ at → sum ≡ length (compile x.book).code
    ahead-end h = go d.rcds d.is d.total
      where
        a_byte : (r : Rcd) (l : List ℕ) → bytes_of r ++ l ≡ [] → ⊥
        a_byte (a_type c) l z = omega (arith, ap length z)
        a_byte (a_cons a) l z = omega (arith, ap length z)
        a_byte (a_func a) l z = omega (arith, ap length z)
        a_byte (a_split i t) l z = omega (arith, ap length z)
        a_byte (a_rule n) l z = omega (arith, ap length z)
        a_byte (a_right v) l z = omega (arith, ap length z)
        a_byte (a_symbol (con c)) l z = omega (arith, ap length z)
        a_byte (a_symbol (fun f)) l z = omega (arith, ap length z)
        a_byte (a_slot i) l z = omega (arith, ap length z)
        a_byte (a_fresh v) l z = omega (arith, ap length z)
        a_byte a_none l z = omega (arith, ap length z)

        go : (rs : List Rcd) → drop at s ≡ bytes rs → sum + costs x.book.types rs ≡ length (compile x.book).code → sum ≡ length (compile x.book).code
        go [] p q = sym (add-zero sum) ∙ q
        go (r ∷ rs) p q = absurd (a_byte r (bytes rs) (sym p ∙ drop_of_length-le s {i = at} h))
