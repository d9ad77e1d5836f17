-- An accepted book's bytes are the records of what was read.
use Prim.Native.Nat.{ℕ, zero, suc, ◌+◌, ◌≤◌}
use native.Mathlib.Omega.{arith}
use mathlib.Core.Path.{◌≡◌, refl, ap, sym, ◌∙◌, subst}
use mathlib.Core.Bool.{Bool, true, false}
use mathlib.Core.List.{List, [], ◌∷◌, ◌++◌, append_assoc, append-nil, map}
use mathlib.Core.Option.{Option, none, some}
use lib.ListN.{length, get_or, drop, drop_of_length-le}
use lib.Seq.{drop-cons}
use lib.Dec.{ltb, leb, eqb}
use borrow.Author.Tests.{leb-true, eqb-true}
use Rattle.std.specs.Prelude.{Result, Ok, Err}
use Rattle.book.specs.Syntax.{Terms, done, arg, Tree, Func, Book, con_arities, cons_of}
use Rattle.book.specs.declared.Sort.{Sort}
use Rattle.book.specs.declared.Fault.{Fault}
use Rattle.book.specs.Record.{Got, got, fault, Rec, body_of, body_byte, rec_at, scan, book_fits, func_arities}
use Rattle.book.specs.Reading.{after, make, Case, pick, Names, Head, slot_case, read_head, first_terms, others_of, joined, read_terms, the_one, read_right, read_rights, Slots, under, read_trees, read_tree, read_cons, is_kind, read_types, read_funcs, read_book}
use Rattle.book.specs.Accepted.{count}
use Rattle.book.proofs.Fairness.{both_hold}
use Rattle.book.proofs.Acceptance.{book-ends}
use Rattle.book.proofs.Enough.{terms-are-due}
use Rattle.compiler.specs.Records.{Rcd, a_cons, bytes_of, bytes, term_recs, terms_recs, right_recs, rights_recs, tree_recs, trees_recs, funcs_recs, types_recs, book_recs}

pub bytes-append : (a b : List Rcd) → bytes (a ++ b) ≡ bytes a ++ bytes b
bytes-append [] b = refl
bytes-append (r ∷ a) b = rw (bytes-append a b, append_assoc (bytes_of r) (bytes a) (bytes b))

-- a record that was read
abbrev read : ℕ → ℕ → ℕ → ℕ → Result Rec Fault
read kind a b e = Ok (record { kind = kind; a = a; b = b; end = e })

-- what is known of it
record Is (s : List ℕ) (k kind a b e : ℕ) : Type 0 where
  body : ℕ
  known : body_of kind ≡ some body
  first : a ≡ body_byte s (k + 1) body 0
  second : b ≡ body_byte s (k + 1) body 1
  here : get_or s k 0 ≡ kind
  next : e ≡ k + 1 + body
  within : k + 1 + body ≤ length s

abbrev Known : List ℕ → ℕ → Result Rec Fault → Type 0
Known s k (Err f) = Unit
Known s k (Ok r) = Is s k r.kind r.a r.b r.end

rec-body : (s : List ℕ) (k : ℕ) → ltb k (length s) ≡ true → (m : Option ℕ) → body_of (get_or s k 0) ≡ m → Known s k (rec_at s k)
unfolding rec_at
rec-body s k t none q = rw (t, rec_at, q) tt
rec-body s k t (some m) q = go (leb (k + 1 + m) (length s)) refl
  where
    go : (b : Bool) → leb (k + 1 + m) (length s) ≡ b → Known s k (rec_at s k)
    go true u =
        let h = leb-true (k + 1 + m) (length s) u in
        rw (t, rec_at, q, u) (record { body = m; known = q; first = refl; second = refl; here = refl; next = refl; within = h })
    go false u = rw (t, rec_at, q, u) tt

rec-known : (s : List ℕ) (k : ℕ) → Known s k (rec_at s k)
unfolding rec_at
rec-known s k = go (ltb k (length s)) refl
  where
    go : (b : Bool) → ltb k (length s) ≡ b → Known s k (rec_at s k)
    go true t = rec-body s k t (body_of (get_or s k 0)) refl
    go false t = rw (t, rec_at) tt

rec-is : (s : List ℕ) (k : ℕ) {kind a b e : ℕ} → rec_at s k ≡ read kind a b e → Is s k kind a b e
rec-is s k q = subst (Known s k) q (rec-known s k)

the-some : {m n : ℕ} → some m ≡ some n → m ≡ n
the-some q = cc

-- a record without a body, with one byte, with two
module _ (s : List ℕ) (k : ℕ) {kind a b e : ℕ} (q : rec_at s k ≡ read kind a b e) where
  rec-none : body_of kind ≡ some 0 → drop k s ≡ kind ∷ drop e s
  rec-none h =
      let r = rec-is s k q in
      let m : r.body ≡ 0 = the-some (sym r.known ∙ h) in
      let n : e ≡ suc k = omega (arith, r.next) in
      drop-cons s k 0 (omega (arith, r.within)) ∙ rw (r.here, n)

  rec_one : body_of kind ≡ some 1 → drop k s ≡ kind ∷ a ∷ drop e s
  unfolding body_byte
  rec_one h =
      let r = rec-is s k q in
      let m : r.body ≡ 1 = the-some (sym r.known ∙ h) in
      let n : e ≡ suc (suc k) = omega (arith, r.next) in
      let x : a ≡ get_or s (k + 1 + 0) 0 = r.first ∙ rw m in
      let y : k + 1 + 0 ≡ suc k = omega arith in
      drop-cons s k 0 (omega (arith, r.within)) ∙ rw (drop-cons s (suc k) 0 (omega (arith, r.within)), r.here, n, x, y)

  rec-two : body_of kind ≡ some 2 → drop k s ≡ kind ∷ a ∷ b ∷ drop e s
  unfolding body_byte
  rec-two h =
      let r = rec-is s k q in
      let m : r.body ≡ 2 = the-some (sym r.known ∙ h) in
      let n : e ≡ suc (suc (suc k)) = omega (arith, r.next) in
      let x : a ≡ get_or s (k + 1 + 0) 0 = r.first ∙ rw m in
      let y : k + 1 + 0 ≡ suc k = omega arith in
      let x' : b ≡ get_or s (k + 1 + 1) 0 = r.second ∙ rw m in
      let y' : k + 1 + 1 ≡ suc (suc k) = omega arith in
      drop-cons s k 0 (omega (arith, r.within)) ∙ rw (drop-cons s (suc k) 0 (omega (arith, r.within)), drop-cons s (suc (suc k)) 0 (omega (arith, r.within)), r.here, n, x, x', y, y')

-- what is read, if anything, and where it ends, is as P says
data Holds {A : Type 0} (P : A → ℕ → Type 0) : Got A → Type 0 where
  holds : {a : A} {e : ℕ} → P a e → Holds P (got a e)
  lost : {w : Sort} {p : ℕ} → Holds P (fault w p)

module _ {A : Type 0} {P : A → ℕ → Type 0} where
  held : {a : A} {e : ℕ} → Holds P (got a e) → P a e
  held (holds p) = p

  hold-got : {x : Got A} {a : A} {e : ℕ} → Holds P x → x ≡ got a e → P a e
  hold-got h q = held (subst (Holds P) q h)

  hold-make : {B : Type 0} {Q : B → ℕ → Type 0} (g : A → B) {x : Got A} → Holds P x → ((a : A) (e : ℕ) → P a e → Q (g a) e) → Holds Q (make g x)
  unfolding make
  hold-make g (holds {a = a} {e = e} p) h = holds (h a e p)
  hold-make g lost h = lost

  hold-after : {B : Type 0} {Q : B → ℕ → Type 0} {g : A → ℕ → Got B} {x : Got A} → Holds P x → ((a : A) (e : ℕ) → P a e → Holds Q (g a e)) → Holds Q (after x g)
  unfolding after
  hold-after (holds {a = a} {e = e} p) h = h a e p
  hold-after lost h = lost

  -- two things at once
  both : {Q : A → ℕ → Type 0} {x : Got A} → Holds P x → ((a : A) (e : ℕ) → x ≡ got a e → Q a e) → Holds (λ a e. P a e × Q a e) x
  both (holds {a = a} {e = e} p) h = holds (p, h a e refl)
  both lost h = lost

-- whatever was read
any : {A : Type 0} (x : Got A) → Holds (λ a e. Unit {0}) x
any (got a e) = holds tt
any (fault w p) = lost

module _ {A : Type 0} (s : List ℕ) (k : ℕ) (P : A → ℕ → Type 0) where
  abbrev HoldCases : List (Case A) → Type 0
  HoldCases [] = Unit
  HoldCases (c ∷ cases) = ((a b e : ℕ) → rec_at s k ≡ read c.kind a b e → c.fits a b ≡ true → Holds P (c.read a b e)) × HoldCases cases

  hold-pick : (cases : List (Case A)) → HoldCases cases → (r : Result Rec Fault) → rec_at s k ≡ r → Holds P (pick cases k r)
  unfolding pick
  hold-pick [] h (Err f) q = lost
  hold-pick (c ∷ cases) h (Err f) q = lost
  hold-pick [] h (Ok r) q = lost
  hold-pick (c ∷ cases) h (Ok r) q = go (hold-pick cases h.1 (Ok r) q) (eqb r.kind c.kind) refl (c.fits r.a r.b) refl
    where
      go : Holds P (pick cases k (Ok r)) → (t : Bool) → eqb r.kind c.kind ≡ t → (u : Bool) → c.fits r.a r.b ≡ u → Holds P (pick (c ∷ cases) k (Ok r))
      go ih true t true u = let z = eqb-true r.kind c.kind t in rw (t, pick, u) (h.0 r.a r.b r.end (q ∙ ap (λ (k : ℕ). read k r.a r.b r.end) z) u)
      go ih true t false u = rw (t, pick, u) lost
      go ih false t u v = rw (t, pick) ih

module _ (s : List ℕ) where
  -- from k to e these bytes stand
  record Stand (k : ℕ) (x : List ℕ) (e : ℕ) : Type 0 where
    is : drop k s ≡ x ++ drop e s

  chain : {j k e : ℕ} {x y : List ℕ} (z : List ℕ) → Stand j x k → Stand k y e → z ≡ x ++ y → Stand j z e
  chain {j} {k} {e} {x} {y} z p q r = record { is = p.is ∙ rw (q.is, r, append_assoc x y (drop e s)) }

  -- a record by itself
  module _ (k : ℕ) (kind a : ℕ) {b e : ℕ} (q : rec_at s k ≡ read kind a b e) where
    two-stand : body_of kind ≡ some 2 → Stand k (kind ∷ a ∷ b ∷ []) e
    two-stand h = record { is = rec-two s k q h }

    one-stands : body_of kind ≡ some 1 → Stand k (kind ∷ a ∷ []) e
    one-stands h = record { is = rec_one s k q h }

  -- a head's term begins with its record, and its arguments follow
  record HeadIs (k : ℕ) (h : Head) (e : ℕ) : Type 0 where
    own : List ℕ
    stand : Stand k own e
    follow : (ts : Terms) → bytes (term_recs (h.term (first_terms h.args ts))) ≡ own ++ bytes (terms_recs (first_terms h.args ts))

  terms-split : (n : ℕ) (ts : Terms) → bytes (terms_recs (first_terms n ts)) ++ bytes (terms_recs (others_of n ts)) ≡ bytes (terms_recs ts)
  unfolding first_terms others_of
  terms-split zero ts = refl
  terms-split (suc n) done = refl
  terms-split (suc n) (arg t ts) =
      rw (bytes-append (term_recs t) (terms_recs (first_terms n ts)), bytes-append (term_recs t) (terms_recs ts), append_assoc (bytes (term_recs t)) (bytes (terms_recs (first_terms n ts))) (bytes (terms_recs (others_of n ts))), terms-split n ts)

  joined_bytes : {k e : ℕ} (h : Head) (p : HeadIs k h e) (ts : Terms) → bytes (terms_recs (joined h ts)) ≡ p.own ++ bytes (terms_recs ts)
  unfolding joined
  joined_bytes h p ts =
      bytes-append (term_recs (h.term (first_terms h.args ts))) (terms_recs (others_of h.args ts))
      ∙ rw (p.follow ts, append_assoc p.own (bytes (terms_recs (first_terms h.args ts))) (bytes (terms_recs (others_of h.args ts))), terms-split h.args ts)

  module _ (names : Names) where
    abbrev HeadTold : Bool → ℕ → Head → ℕ → Type 0
    HeadTold more k h e = HeadIs k h e × (more ≡ true)

    head-is : (more : Bool) (k : ℕ) → Holds (HeadTold more k) (read_head s names more k)
    unfolding read_head body_of first_terms
    head-is more k = hold-pick s k (HeadTold more k) _ (
      (λ c b e q t. holds (record { own = 7 ∷ c ∷ []; stand = record { is = rec_one s k q refl }; follow = λ ts. refl }, (both_hold more _ t).0)),
      (
        (λ f b e q t. holds (record { own = 8 ∷ f ∷ []; stand = record { is = rec_one s k q refl }; follow = λ ts. refl }, (both_hold more _ t).0)),
        ((λ v b e q t. holds (record { own = 10 ∷ v ∷ []; stand = record { is = rec_one s k q refl }; follow = λ ts. refl }, (both_hold more _ t).0)), slots names.slots),
      ),
    ) (rec_at s k) refl
      where
        slots : (o : Option ℕ) → HoldCases s k (HeadTold more k) (slot_case o more)
        slots none = unfold slot_case in tt
        slots (some n) = unfold slot_case body_of first_terms in ((λ i b e q t. holds (record { own = 9 ∷ i ∷ []; stand = record { is = rec_one s k q refl }; follow = λ ts. refl }, (both_hold more _ t).0)), tt)

    terms-stand : (room due k : ℕ) → Holds (λ ts e. Stand k (bytes (terms_recs ts)) e) (read_terms s names room due k)
    unfolding read_terms
    terms-stand zero zero k = holds (record { is = refl })
    terms-stand (suc room) zero k = holds (record { is = refl })
    terms-stand zero (suc due) k = hold-after (head-is false k) (λ h e q. (let z : ◌≡◌ {A = ℕ} 0 1 = cc in absurd (omega arith)))
    terms-stand (suc room) (suc due) k = hold-after (head-is true k) (λ h e p. hold-make (joined h) (terms-stand room (h.args + due) e) (λ ts f q. chain _ p.0.stand q (joined_bytes h p.0 ts)))

  module _ (cons funcs : List ℕ) where
    the_one_lem : (ts : Terms) → count ts ≡ 1 → bytes (terms_recs ts) ≡ bytes (term_recs (the_one ts))
    unfolding the_one
    the_one_lem done q = absurd (omega arith)
    the_one_lem (arg t done) q = rw (bytes-append (term_recs t) []) (append-nil (bytes (term_recs t)))
    the_one_lem (arg t (arg u ts)) q = absurd (omega arith)

    right-stands : (slots : Option ℕ) (k : ℕ) → Holds (λ r e. Stand k (bytes (right_recs r)) e) (read_right s cons funcs slots k)
    unfolding read_right body_of
    right-stands slots k = hold-pick s k _ _ (
      (λ v b e q t.
          (let names : Names = record { cons = cons; funcs = funcs; slots = slots; vars = v } in
          hold-make _ (both (terms-stand names 255 1 e) (λ ts f u. terms-are-due s names 255 1 e ts f u)) (λ ts f p. chain _ (one-stands k 6 v q refl) p.0 (rw (the_one_lem ts p.1) refl)))),
      tt,
    ) (rec_at s k) refl

    rights-stand : (slots n k : ℕ) → Holds (λ rs e. Stand k (bytes (rights_recs rs)) e × (length rs ≡ n)) (read_rights (read_right s cons funcs (some slots)) n k)
    unfolding read_rights
    rights-stand slots zero k = holds (record { is = refl }, refl)
    rights-stand slots (suc n) k =
        hold-after (right-stands (some slots) k) (λ r e p. hold-make _ (rights-stand slots n e) (λ rs f q. (chain _ p q.0 (bytes-append (right_recs r) (rights_recs rs)), ap suc q.1)))

  module _ (types : List (List ℕ)) (funcs : List ℕ) where
    trees-stand : (one : ℕ → ℕ → Got Tree) → ((a k : ℕ) → Holds (λ t e. Stand k (bytes (tree_recs t)) e) (one a k)) → (l : List ℕ) (k : ℕ) → Holds (λ ts e. Stand k (bytes (trees_recs ts)) e) (read_trees one l k)
    unfolding read_trees
    trees-stand one h [] k = holds (record { is = refl })
    trees-stand one h (a ∷ more) k = hold-after (h a k) (λ t e p. hold-make _ (trees-stand one h more e) (λ ts f q. chain _ p q (bytes-append (tree_recs t) (trees_recs ts))))

    tree-stands : (n : ℕ) (slots : Slots) (k : ℕ) → Holds (λ t e. Stand k (bytes (tree_recs t)) e) (read_tree n s types funcs slots k)
    unfolding read_tree body_of
    tree-stands zero slots k = lost
    tree-stands (suc n) slots k = hold-pick s k _ _ (
      (λ i t e q u. hold-make _ (trees-stand _ (λ a k. tree-stands n (under slots i a) k) (cons_of types t) e) (λ ts f p. chain _ (two-stand k 4 i q refl) p refl)),
      (
        (λ c b e q u. hold-make _ (rights-stand (con_arities types) funcs (length slots) c e) (λ rs f p. chain _ (one-stands k 5 c q refl) p.0 (rw p.1 refl))),
        ((λ a b e q u. holds (record { is = rec-none s k q refl })), tt),
      ),
    ) (rec_at s k) refl

    func-bytes : (a : ℕ) (t : Tree) (fs : List Func) → bytes (funcs_recs (record { arity = a; tree = t } ∷ fs)) ≡ (3 ∷ a ∷ bytes (tree_recs t)) ++ bytes (funcs_recs fs)
    func-bytes a t fs = rw (bytes-append (tree_recs t) (funcs_recs fs))

    funcs-stand : (n k : ℕ) → Holds (λ fs e. Stand k (bytes (funcs_recs fs)) e) (read_funcs n s types funcs k)
    unfolding read_funcs body_of
    funcs-stand zero k = holds (record { is = refl })
    funcs-stand (suc n) k = go (funcs-stand n) (ltb k (length s)) refl
      where
        go : ((k : ℕ) → Holds (λ fs e. Stand k (bytes (funcs_recs fs)) e) (read_funcs n s types funcs k)) → (b : Bool) → ltb k (length s) ≡ b → Holds (λ fs e. Stand k (bytes (funcs_recs fs)) e) (read_funcs (suc n) s types funcs k)
        go ih false t = rw (t, read_funcs) (holds (record { is = refl }))
        go ih true t = rw (t, read_funcs) (hold-pick s k _ _ (
          (λ a b e q u. hold-after (tree-stands (suc (length s)) _ e) (λ t f p. hold-make _ (ih f) (λ fs g r. chain _ (chain (3 ∷ a ∷ bytes (tree_recs t)) (one-stands k 3 a q refl) p refl) r (func-bytes a t fs)))),
          tt,
        ) (rec_at s k) refl)

  cons-stand : (before n k : ℕ) → Holds (λ cs e. Stand k (bytes (map a_cons cs)) e × (length cs ≡ n)) (read_cons s before n k)
  unfolding read_cons body_of
  cons-stand before zero k = holds (record { is = refl }, refl)
  cons-stand before (suc n) k = hold-pick s k _ _ (
    (λ a b e q t. hold-make _ (cons-stand (suc before) n e) (λ cs f p. (chain _ (one-stands k 2 a q refl) p.0 refl, ap suc p.1))),
    tt,
  ) (rec_at s k) refl

  types-stand : (n types cons k : ℕ) → Holds (λ ts e. Stand k (bytes (types_recs ts)) e) (read_types s n types cons k)
  unfolding read_types body_of
  types-stand zero types cons k = holds (record { is = refl })
  types-stand (suc n) types cons k = go (types-stand n) (is_kind 1 (rec_at s k)) refl
    where
      go : ((types cons k : ℕ) → Holds (λ ts e. Stand k (bytes (types_recs ts)) e) (read_types s n types cons k)) → (b : Bool) → is_kind 1 (rec_at s k) ≡ b → Holds (λ ts e. Stand k (bytes (types_recs ts)) e) (read_types s (suc n) types cons k)
      go ih false t = rw (t, read_types) (holds (record { is = refl }))
      go ih true t = rw (t, read_types) (hold-pick s k _ _ (
        (λ c b e q u. hold-after (cons-stand cons c e) (λ cs f p. hold-make _ (ih (suc types) (cons + c) f) (λ ts g r.
            chain _ (chain (1 ∷ length cs ∷ bytes (map a_cons cs)) (one-stands k 1 c q refl) p.0 (rw p.1 refl)) r (rw (bytes-append (map a_cons cs) (types_recs ts)) refl)))),
        tt,
      ) (rec_at s k) refl)

  book-stands : Holds (λ book e. Stand 0 (bytes (book_recs book)) e) (read_book s)
  unfolding read_book
  book-stands = go (leb (length s) 32768) refl
    where
      go : (b : Bool) → leb (length s) 32768 ≡ b → Holds (λ book e. Stand 0 (bytes (book_recs book)) e) (read_book s)
      go false t = rw (t, read_book) lost
      go true t = rw (t, read_book) (hold-after (any (scan s book_fits (length s) 0 0)) (λ u e p. hold-after (types-stand 65 0 0 0) (λ types f q.
          hold-make _ (funcs-stand types (func_arities s) (length s) f) (λ funcs g r. chain _ q r (bytes-append (types_recs types) (funcs_recs funcs))))))

-- An accepted book is, byte for byte, the records of what was read.
pub book-bytes : (s : List ℕ) (book : Book) (e : ℕ) → read_book s ≡ got book e → s ≡ bytes (book_recs book)
book-bytes s book e q =
    let p : drop 0 s ≡ bytes (book_recs book) ++ drop e s = (hold-got (book-stands s) q).is in
    let h : e ≡ length s = book-ends s book e q in
    p ∙ rw (drop_of_length-le s {i = e} (omega arith)) (append-nil (bytes (book_recs book)))
