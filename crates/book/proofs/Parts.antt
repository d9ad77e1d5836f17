-- What is read in a part that starts at j is what is read in the whole, j places further on.
use Prim.Native.Nat.{ℕ, zero, suc, ◌+◌, ◌-◌, ◌≤◌, ◌<◌}
use mathlib.Core.Path.{◌≡◌, refl, ap, sym, ◌∙◌}
use mathlib.Core.Bool.{Bool, true, false}
use mathlib.Core.List.{List, [], ◌∷◌}
use mathlib.Core.Option.{Option, none, some}
use lib.ListN.{length, get_or, drop, length-drop}
use lib.Seq.{get_or-drop}
use lib.Dec.{ltb, leb, eqb}
use native.Mathlib.Omega.{arith}
use borrow.Author.Tests.{ltb-true, ltb-false, leb-true, leb-false, eqb-true, eqb-false}
use Rattle.book.specs.Syntax.{done, Right, Tree, child, cons_of, con_arities}
use Rattle.std.specs.Prelude.{Result, Ok, Err}
use Rattle.book.specs.declared.Fault.{Fault}
use Rattle.book.specs.Record.{Rec, Got, got, fault, bad, body_of, body_byte, rec_at}
use Rattle.book.specs.Reading.{after, make, Case, pick, Names, Head, slot_case, read_head, joined, read_terms, read_right, read_rights, read_trees, read_tree, under}
use Rattle.book.specs.Steps.{step}
use Rattle.book.proofs.Records.{rec-end, rec-unknown, rec-cut, rec-of}
use Rattle.book.proofs.Fronts.{pick-fit, pick-unfit, pick_next}

unfoldable pub shift_rec : ℕ → Result Rec Fault → Result Rec Fault
shift_rec j (Err w) = bad w.sort (j + w.at)
shift_rec j (Ok r) = Ok (record r { end = j + r.end })

unfoldable pub shift : {A : Type 0} → ℕ → Got A → Got A
shift j (got a e) = got a (j + e)
shift j (fault w p) = fault w (j + p)

byte-drop : (s : List ℕ) (j k m i : ℕ) → body_byte s (j + k + 1) m i ≡ body_byte (drop j s) (k + 1) m i
unfolding body_byte
byte-drop s j k m i = go (ltb i m) refl
  where
    go : (t : Bool) → ltb i m ≡ t → body_byte s (j + k + 1) m i ≡ body_byte (drop j s) (k + 1) m i
    go false t = rw (t, body_byte)
    go true t = (let e : j + k + 1 + i ≡ j + (k + 1 + i) = omega arith in let d = get_or-drop j s (k + 1 + i) 0 in rw (t, body_byte, e) (sym d))

pub rec-drop : (s : List ℕ) (j k : ℕ) → j ≤ length s → rec_at s (j + k) ≡ shift_rec j (rec_at (drop j s) k)
unfolding shift_rec
rec-drop s j k h = go (ltb k (length (drop j s))) refl
  where
    long : length (drop j s) ≡ length s - j
    long = length-drop j s

    same : get_or (drop j s) k 0 ≡ get_or s (j + k) 0
    same = get_or-drop j s k 0

    body : (m : Option ℕ) → body_of (get_or s (j + k) 0) ≡ m → k < length (drop j s) → rec_at s (j + k) ≡ shift_rec j (rec_at (drop j s) k)
    body none q l = (let q' : body_of (get_or (drop j s) k 0) ≡ none = rw same q in rec-unknown s (j + k) (omega (arith, long)) q ∙ sym (ap (shift_rec j) (rec-unknown (drop j s) k l q')))
    body (some m) q l = fits (leb (k + 1 + m) (length (drop j s))) refl
      where
        q' : body_of (get_or (drop j s) k 0) ≡ some m
        q' = rw same q

        fits : (t : Bool) → leb (k + 1 + m) (length (drop j s)) ≡ t → rec_at s (j + k) ≡ shift_rec j (rec_at (drop j s) k)
        fits false t = (let g = leb-false _ _ t in rec-cut s (j + k) m (omega (arith, long)) q (omega (arith, long)) ∙ sym (ap (shift_rec j) (rec-cut (drop j s) k m l q' g)))
        fits true t =
            let g = leb-true _ _ t in
            let x = byte-drop s j k m 0 in
            let y = byte-drop s j k m 1 in
            let z : j + k + 1 + m ≡ j + (k + 1 + m) = omega arith in
            rec-of s (j + k) m (omega (arith, long)) q (omega (arith, long)) ∙ rw (x, y, z, ← same) (sym (ap (shift_rec j) (rec-of (drop j s) k m l q' g)))

    go : (t : Bool) → ltb k (length (drop j s)) ≡ t → rec_at s (j + k) ≡ shift_rec j (rec_at (drop j s) k)
    go false t = (let g = ltb-false _ _ t in rec-end s (j + k) (omega (arith, long)) ∙ sym (ap (shift_rec j) (rec-end (drop j s) k g)))
    go true t = body (body_of (get_or s (j + k) 0)) refl (ltb-true _ _ t)

module _ {A B : Type 0} (j : ℕ) where
  make-shift : (g : A → B) (y : Got A) → make g (shift j y) ≡ shift j (make g y)
  unfolding make shift
  make-shift g (got a e) = refl
  make-shift g (fault w p) = refl

  after-shift : (f g : A → ℕ → Got B) (y : Got A) → ((a : A) (e : ℕ) → f a (j + e) ≡ shift j (g a e)) → after (shift j y) f ≡ shift j (after y g)
  unfolding after shift
  after-shift f g (got a e) h = h a e
  after-shift f g (fault w p) h = refl

-- the same cases, those of the whole reading j places further on
unfoldable Same : {A : Type 0} → ℕ → List (Case A) → List (Case A) → Type 0
Same j [] [] = Unit {0}
Same j [] (d ∷ ds) = ⊥
Same j (c ∷ cs) [] = ⊥
Same j (c ∷ cs) (d ∷ ds) = (c.kind ≡ d.kind) × ((a b : ℕ) → c.fits a b ≡ d.fits a b) × ((a b e : ℕ) → c.read a b (j + e) ≡ shift j (d.read a b e)) × Same j cs ds

pick-shift : {A : Type 0} (j k : ℕ) (cs ds : List (Case A)) → Same j cs ds → (r : Result Rec Fault) → pick cs (j + k) (shift_rec j r) ≡ shift j (pick ds k r)
unfolding Same pick shift_rec shift
pick-shift j k [] [] h (Err w) = refl
pick-shift j k [] [] h (Ok r) = refl
pick-shift j k [] (d ∷ ds) h r = absurd h
pick-shift j k (c ∷ cs) [] h r = absurd h
pick-shift j k (c ∷ cs) (d ∷ ds) h (Err w) = refl
pick-shift j k (c ∷ cs) (d ∷ ds) h (Ok r) = go (eqb r.kind d.kind) refl (d.fits r.a r.b) refl (pick-shift j k cs ds h.3 (Ok r))
  where
    go : (t : Bool) → eqb r.kind d.kind ≡ t → (u : Bool) → d.fits r.a r.b ≡ u → pick cs (j + k) (Ok (record r { end = j + r.end })) ≡ shift j (pick ds k (Ok r)) → pick (c ∷ cs) (j + k) (Ok (record r { end = j + r.end })) ≡ shift j (pick (d ∷ ds) k (Ok r))
    go false t u' u ih = (let n = eqb-false r.kind d.kind t in pick_next (j + k) c cs refl (λ v. n (v ∙ h.0)) ∙ ih ∙ sym (ap (shift j) (pick_next k d ds refl n)))
    go true t false u ih = (let m = eqb-true r.kind d.kind t in pick-unfit (j + k) c cs refl (m ∙ sym h.0) (h.1 r.a r.b ∙ u) ∙ sym (ap (shift j) (pick-unfit k d ds refl m u)))
    go true t true u ih = (let m = eqb-true r.kind d.kind t in pick-fit (j + k) c cs refl (m ∙ sym h.0) (h.1 r.a r.b ∙ u) ∙ h.2 r.a r.b r.end ∙ sym (ap (shift j) (pick-fit k d ds refl m u)))

module _ (s : List ℕ) (j : ℕ) (l : j ≤ length s) where
  picked : {A : Type 0} (k : ℕ) (cs ds : List (Case A)) → Same j cs ds → pick cs (j + k) (rec_at s (j + k)) ≡ shift j (pick ds k (rec_at (drop j s) k))
  picked k cs ds h = ap (pick cs (j + k)) (rec-drop s j k l) ∙ pick-shift j k cs ds h (rec_at (drop j s) k)

  slots_same : (o : Option ℕ) (m : Bool) → Same j (slot_case o m) (slot_case o m)
  unfolding Same slot_case shift
  slots_same none m = tt
  slots_same (some n) m = (refl, (λ a b. refl), (λ a b e. refl), tt)

  head-shift : (names : Names) (m : Bool) (k : ℕ) → read_head s names m (j + k) ≡ shift j (read_head (drop j s) names m k)
  unfolding read_head Same shift
  head-shift names m k = picked k _ _ (refl, (λ a b. refl), (λ a b e. refl), (refl, (λ a b. refl), (λ a b e. refl), (refl, (λ a b. refl), (λ a b e. refl), slots_same names.slots m)))

  terms-shift : (names : Names) (room due k : ℕ) → read_terms s names room due (j + k) ≡ shift j (read_terms (drop j s) names room due k)
  unfolding read_terms shift
  terms-shift names zero zero k = refl
  terms-shift names (suc room) zero k = refl
  terms-shift names zero (suc due) k = ap (λ (x : Got Head). after x (λ h e. got done e)) (head-shift names false k) ∙ after-shift j _ _ (read_head (drop j s) names false k) (λ h e. refl)
  terms-shift names (suc room) (suc due) k =
      ap (λ (x : Got Head). after x (λ h e. make (joined h) (read_terms s names room (h.args + due) e))) (head-shift names true k)
      ∙ after-shift j _ _ (read_head (drop j s) names true k) (λ h e. ap (make (joined h)) (terms-shift names room (h.args + due) e) ∙ make-shift j (joined h) _)

  right-shift : (cons funcs : List ℕ) (slots : Option ℕ) (k : ℕ) → read_right s cons funcs slots (j + k) ≡ shift j (read_right (drop j s) cons funcs slots k)
  unfolding read_right Same
  right-shift cons funcs slots k = picked k _ _ (refl, (λ a b. refl), (λ a b e. ap (make _) (terms-shift _ 255 1 e) ∙ make-shift j _ _), tt)

  rights-shift : (cons funcs : List ℕ) (slots : Option ℕ) (n k : ℕ) → read_rights (read_right s cons funcs slots) n (j + k) ≡ shift j (read_rights (read_right (drop j s) cons funcs slots) n k)
  unfolding read_rights shift
  rights-shift cons funcs slots zero k = refl
  rights-shift cons funcs slots (suc n) k =
      ap (λ (x : Got Right). after x (λ r e. make (λ rs. r ∷ rs) (read_rights (read_right s cons funcs slots) n e))) (right-shift cons funcs slots k)
      ∙ after-shift j _ _ (read_right (drop j s) cons funcs slots k) (λ r e. ap (make (λ rs. r ∷ rs)) (rights-shift cons funcs slots n e) ∙ make-shift j _ _)

  trees-shift : (one two : ℕ → ℕ → Got Tree) → ((a k : ℕ) → one a (j + k) ≡ shift j (two a k)) → (cs : List ℕ) (k : ℕ) → read_trees one cs (j + k) ≡ shift j (read_trees two cs k)
  unfolding read_trees shift
  trees-shift one two h [] k = refl
  trees-shift one two h (a ∷ cs) k =
      ap (λ (x : Got Tree). after x (λ t e. make (λ ts. child t ts) (read_trees one cs e))) (h a k)
      ∙ after-shift j _ _ (two a k) (λ t e. ap (make (λ ts. child t ts)) (trees-shift one two h cs e) ∙ make-shift j _ _)

  pub tree-shift : (n : ℕ) (types : List (List ℕ)) (funcs slots : List ℕ) (k : ℕ) → read_tree n s types funcs slots (j + k) ≡ shift j (read_tree n (drop j s) types funcs slots k)
  unfolding read_tree Same shift
  tree-shift zero types funcs slots k = refl
  tree-shift (suc n) types funcs slots k = picked k _ _ ((
    refl,
    (λ a b. refl),
    (λ i t e. ap (make _) (trees-shift _ _ (λ a m. tree-shift n types funcs (under slots i a) m) (cons_of types t) e) ∙ make-shift j _ _),
    (
      refl,
      (λ a b. refl),
      (λ c b e. ap (make _) (rights-shift (con_arities types) funcs (some (length slots)) c e) ∙ make-shift j _ _),
      (refl, (λ a b. refl), (λ a b e. refl), tt),
    ),
  ))

-- a step in a part that starts at j, by the places of the whole
unfoldable pub moved : ℕ → Result ℕ Fault → Result ℕ Fault
moved j (Ok e) = Ok (j + e)
moved j (Err w) = bad w.sort (j + w.at)

-- the place that a step names
unfoldable pub place_of : Result ℕ Fault → ℕ
place_of (Ok e) = e
place_of (Err w) = w.at

pub step-shift : {A : Type 0} (j : ℕ) (y : Got A) → step (shift j y) ≡ moved j (step y)
unfolding step shift moved
step-shift j (got a e) = refl
step-shift j (fault w p) = refl

pub place-next : {x : Result ℕ Fault} {e : ℕ} → x ≡ Ok e → place_of x ≡ e
unfolding place_of
place-next q = rw q

pub place-fault : {x : Result ℕ Fault} {w : Fault} → x ≡ Err w → place_of x ≡ w.at
unfolding place_of
place-fault q = rw q
