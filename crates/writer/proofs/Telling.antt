-- Bytes over a list; the table of the variables seen; what is told.
-- Here, in order: bytes over a list; indices; a number found, and a new one; the table of none.
-- Assumes nothing.
use Prim.Native.Nat.{ℕ, suc, ◌+◌, ◌-◌, ◌*◌, ◌/◌, ◌%◌, ◌≤◌, ◌<◌}
use native.Mathlib.Omega.{arith}
use native.Mathlib.Numerals.{add-one}
use native.Mathlib.Nat.{add-zero, add-suc, suc-add}
use native.Mathlib.Decide.{ℕ_discrete}
use mathlib.Core.Path.{◌≡◌, refl, sym, ap, ◌∙◌}
use mathlib.Core.Logic.{◌⊎◌, inl, inr, ◌≢◌}
use mathlib.Core.Bool.{Bool, true, false}
use mathlib.Core.Option.{Option, none, some}
use mathlib.Core.List.Memᴰ
use mathlib.Core.List.{List, [], ◌∷◌, ◌++◌, append_assoc, Memᴰ}
use lib.ListN.{length, get_or, take, drop, set, length-append, length-set, get_or-replicate}
use lib.Seq.{sets, length-sets, sets-eq, drop-drop, take-suc-set, length-take-le, get_or-set_same, get_or-set_other}
use lib.Dec.{eqb}
use borrow.Author.Tests.{eq-eqb, ne_eqb}
use borrow.Rule.Slice.PartMut.{put_mid}
use Rattle.mem.specs.Words.{words}
use Rattle.heap.specs.Graph.{index_of, variable}
use Rattle.heap.specs.Place.{Distinct}
use Rattle.heap.proofs.Laws.Few.{few}
use Rattle.heap.proofs.Laws.Shape.{index_of-none}
use Rattle.store.specs.Regions.{list_of, places_of, Memory, Did, set_list, set_place}
use Rattle.store.proofs.Writes.{length-list, length-places}
use Rattle.writer.specs.Owes.{after, numbered, tells}
use Rattle.writer.specs.Written.{over, ends, seen_of, place_of, Table, Clean, Named, Told}
use Rattle.writer.specs.declared.Met.{Met}
use Rattle.writer.specs.declared.Met.TheVariants.{Made, Free, Nothing}
use Rattle.book.specs.declared.ConNo.{ConNo}
use Rattle.store.specs.declared.NodeNo.{NodeNo}
use Rattle.writer.proofs.Turning.{kept-none}

-- bytes over a list: a part of it, up to e, replaced by bs
pub over-part : (l ys bs : List ℕ) (k e : ℕ) → ys ≡ bs → e ≡ k + length bs → e ≤ length l → put_mid k (e - k) l ys ≡ over l k bs
unfolding over
over-part l ys bs k e q f h =
    let a : e - k ≡ length bs = omega arith in
    rw (q, a, drop-drop, ← append_assoc (take k l) bs (drop (k + length bs) l)) (sym (sets-eq bs l k (omega arith)))

pub free_bytes : (l ys : List ℕ) (k n : ℕ) → k + 3 ≤ length l → ys ≡ n % 256 ∷ n / 256 % 256 ∷ [] → put_mid (k + 1) (k + 3 - (k + 1)) (set l k 12) ys ≡ over l k (variable n)
unfolding over variable
free_bytes l ys k n h q = over-part (set l k 12) ys (n % 256 ∷ n / 256 % 256 ∷ []) (k + 1) (k + 3) q (omega arith) (simp length-set h) ∙ rw add-one

pub over-then : (a b l : List ℕ) (k : ℕ) → over l k (a ++ b) ≡ over (over l k a) (k + length a) b
unfolding over
over-then [] b l k = rw add-zero
over-then (x ∷ a) b l k = over-then a b (set l k x) (suc k) ∙ ap (λ (j : ℕ). sets (sets (set l k x) (suc k) a) j b) (suc-add k (length a) ∙ sym (add-suc k (length a)))

pub length_over : (l : List ℕ) (k : ℕ) (bs : List ℕ) → length (over l k bs) ≡ length l
unfolding over
length_over l k bs = length-sets l k bs

-- what comes after p, where p is written
pub ends-after : (out : List ℕ) (at : ℕ) (p : List ℕ × List ℕ) (f : List ℕ → List ℕ × List ℕ) → ends out at (after p f) ≡ ends (over out at p.1) (at + length p.1) (f p.0)
unfolding after
ends-after out at p f = λ i. record {
  seen = (f p.0).0;
  out = over-then p.1 (f p.0).1 out at i;
  at = (ap (λ (j : ℕ). at + j) (length-append p.1 (f p.0).1) ∙ sym (native.Mathlib.Nat.add_assoc at (length p.1) (length (f p.0).1))) i;
}

-- indices
index-new : (k : ℕ) (l : List ℕ) → index_of k l ≡ none → index_of k (l ++ k ∷ []) ≡ some (length l)
unfolding index_of
index-new k [] e = rw (eq-eqb k k refl, index_of)
index-new k (x ∷ l) e = go (index-new k l) (eqb k x) (index_of k l) refl refl
  where
    go : (index_of k l ≡ none → index_of k (l ++ k ∷ []) ≡ some (length l)) → (b : Bool) (o : Option ℕ) → eqb k x ≡ b → index_of k l ≡ o → index_of k (x ∷ (l ++ k ∷ [])) ≡ some (suc (length l))
    go ih true o p q = let u : ◌≡◌ {A = Option ℕ} (some 0) none = rw (p, index_of) at e in cc
    go ih false (some j) p q = let u : some (suc j) ≡ none = rw (p, q, index_of) at e in cc
    go ih false none p q = rw (p, ih q, index_of)

index-other : (j k : ℕ) (l : List ℕ) → j ≢ k → index_of j (l ++ k ∷ []) ≡ index_of j l
unfolding index_of
index-other j k [] n = rw (ne_eqb j k n, index_of)
index-other j k (x ∷ l) n = go (index-other j k l n) (eqb j x) refl
  where
    go : index_of j (l ++ k ∷ []) ≡ index_of j l → (b : Bool) → eqb j x ≡ b → index_of j (x ∷ (l ++ k ∷ [])) ≡ index_of j (x ∷ l)
    go ih true p = rw (p, index_of)
    go ih false p = rw (p, ih, index_of)

distinct_snoc : (l : List ℕ) (k : ℕ) → Distinct l → ((y : ℕ) → Memᴰ y l → y ≢ k) → Distinct (l ++ k ∷ [])
distinct_snoc [] k d n = (λ y m. absurd (Memᴰ.not-nil m), tt)
distinct_snoc (x ∷ l) k d n = ((λ y m. cases y (Memᴰ.append_cases l m)), distinct_snoc l k d.1 (λ y m. n y (Memᴰ.tail m)))
  where
    cases : (y : ℕ) → Memᴰ y l ⊎ Memᴰ y (k ∷ []) → y ≢ x
    cases y (inl m) = d.0 y m
    cases y (inr m) = λ e. n x (Memᴰ.head refl) (sym e ∙ Memᴰ.eq_of_singleton m)

low-snoc : (L : ℕ) (l : List ℕ) (k : ℕ) → k < L → ((y : ℕ) → Memᴰ y l → y < L) → (y : ℕ) → Memᴰ y (l ++ k ∷ []) → y < L
low-snoc L l k h f y m = go (Memᴰ.append_cases l m)
  where
    go : Memᴰ y l ⊎ Memᴰ y (k ∷ []) → y < L
    go (inl w) = f y w
    go (inr w) = rw (Memᴰ.eq_of_singleton w) h

place_none : (o : Option ℕ) → place_of o ≡ 0 → o ≡ none
unfolding place_of
place_none none e = refl
place_none (some i) e = absurd (omega arith)

place-some : (o : Option ℕ) → 0 < place_of o → o ≡ some (place_of o - 1)
unfolding place_of
place-some none e = absurd (omega arith)
place-some (some i) e = ap some (omega arith)

pub length_seen : (L n : ℕ) (s : List ℕ) → 16 * L ≤ length (words s) → n ≤ L → length (seen_of L s n) ≡ n
unfolding seen_of
length_seen L n s room h = length-take-le n (list_of L s) (omega (arith, length-list L s room))

list-new : (L : ℕ) (s s1 s2 : List ℕ) (seen k : ℕ) → 16 * L ≤ length (words s) → seen < L → Did L s s1 (set_list seen k) → Did L s1 s2 (set_place k (seen + 1)) → seen_of L s2 (seen + 1) ≡ seen_of L s seen ++ k ∷ []
unfolding seen_of
list-new L s s1 s2 seen k room h d e =
    let q : list_of L s2 ≡ set (list_of L s) seen k = ap (λ (m : Memory). m.list) e.is ∙ ap (λ (m : Memory). m.list) d.is in
    rw (q, add-one, take-suc-set (list_of L s) seen k (omega (arith, length-list L s room)))

-- the number of a variable
module _ (L : ℕ) (s : List ℕ) (seen k p : ℕ) (room : 16 * L ≤ length (words s)) (T : Table L s seen) (low : k < L) (is : p ≡ get_or (places_of L s) k 0) where
  abbrev l : List ℕ
  l = seen_of L s seen

  pub number-old : 0 < p → Named L s s seen k (p - 1) seen
  unfolding numbered
  number-old q =
      let e : p ≡ place_of (index_of k l) = is ∙ T.placed k low in
      let f : index_of k l ≡ some (p - 1) = rw e (place-some (index_of k l) (rw e at q)) in
      record { is = rw (f, numbered); table = T; kept = kept-none L s; frames = refl }

  module _ (z : p ≤ 0) where
    none_yet : index_of k l ≡ none
    none_yet = let e : p ≡ place_of (index_of k l) = is ∙ T.placed k low in place_none (index_of k l) (omega arith)

    pub number-room : seen < L
    number-room =
        let d = distinct_snoc l k T.distinct (index_of-none k l none_yet) in
        let f = few L (l ++ k ∷ []) d (low-snoc L l k low T.low) in
        omega (arith, length-append l (k ∷ []), length_seen L seen s room T.short)

    place-new : (s1 s2 : List ℕ) → Did L s s1 (set_list seen k) → Did L s1 s2 (set_place k (seen + 1)) → (j : ℕ) → j < L → get_or (places_of L s2) j 0 ≡ place_of (index_of j (l ++ k ∷ []))
    unfolding place_of
    place-new s1 s2 d e j h =
        let q : places_of L s2 ≡ set (places_of L s) k (seen + 1) = ap (λ (m : Memory). m.places) e.is ∙ ap (λ (m : Memory). set m.places k (seen + 1)) d.is in
        rw q (go (ℕ_discrete j k))
      where
        go : Dec (j ≡ k) → get_or (set (places_of L s) k (seen + 1)) j 0 ≡ place_of (index_of j (l ++ k ∷ []))
        go (yes u) = rw (u, get_or-set_same (places_of L s) k (seen + 1) 0 (omega (arith, length-places L s room)), index-new k l none_yet, place_of, length_seen L seen s room T.short, add-one)
        go (no u) = rw (get_or-set_other (places_of L s) k j (seen + 1) 0 u, index-other j k l u) (T.placed j h)

    pub number-new : (s1 s2 : List ℕ) → Did L s s1 (set_list seen k) → Did L s1 s2 (set_place k (seen + 1)) → Named L s s2 seen k seen (seen + 1)
    unfolding numbered
    number-new s1 s2 d e =
        let list : seen_of L s2 (seen + 1) ≡ l ++ k ∷ [] = list-new L s s1 s2 seen k room number-room d e in
        let long = length_seen L seen s room T.short in
        record {
          is = rw (none_yet, numbered, long, list);
          table = record {
            short = omega (arith, number-room);
            placed = λ j h. rw list (place-new s1 s2 d e j h);
            distinct = rw list (distinct_snoc l k T.distinct (index_of-none k l none_yet));
            low = rw list (low-snoc L l k low T.low);
          };
          kept = record {
            graph = ap (λ (m : Memory). m.graph) e.is ∙ ap (λ (m : Memory). m.graph) d.is;
            marks = ap (λ (m : Memory). m.marks) e.is ∙ ap (λ (m : Memory). m.marks) d.is;
            links = ap (λ (m : Memory). m.links) e.is ∙ ap (λ (m : Memory). m.links) d.is;
            rest = ap (λ (m : Memory). m.rest) e.is ∙ ap (λ (m : Memory). m.rest) d.is;
            long = e.long ∙ d.long;
          };
          frames = ap (λ (m : Memory). m.frames) e.is ∙ ap (λ (m : Memory). m.frames) d.is;
        }

-- the table where list and places stay, and the table of no variable
pub table_same : (L n : ℕ) (s s' : List ℕ) → list_of L s' ≡ list_of L s → places_of L s' ≡ places_of L s → Table L s n → Table L s' n
unfolding seen_of
table_same L n s s' a b T = record { short = T.short; placed = λ k h. rw (a, b) (T.placed k h); distinct = rw a T.distinct; low = rw a T.low }

pub seen_same : (L n : ℕ) (s s' : List ℕ) → list_of L s' ≡ list_of L s → seen_of L s' n ≡ seen_of L s n
unfolding seen_of
seen_same L n s s' a = rw a

pub table_none : (L : ℕ) (s : List ℕ) → Clean L s → Table L s 0
unfolding seen_of index_of place_of
table_none L s e = record { short = omega arith; placed = λ k h. rw e (get_or-replicate L k 0 0 h); distinct = tt; low = λ k m. absurd (Memᴰ.not-nil m) }

pub seen_none : (L : ℕ) (s : List ℕ) → seen_of L s 0 ≡ []
unfolding seen_of
seen_none L s = refl

-- what is told
module _ (L : ℕ) (s out : List ℕ) (seen at : ℕ) (m : Met) where
  pub told-made : (c : ConNo) (out' : List ℕ) → m ≡ Made c → Table L s seen → out' ≡ over out at (tells [] (Made c)).1 → Told L s s out out' at (tells (seen_of L s seen) m) seen (at + 2)
  unfolding tells
  told-made c out' e T q = rw (e, tells) (record { is = λ i. record { seen = seen_of L s seen; out = q i; at = at + 2 }; table = T; kept = kept-none L s; frames = refl })

  pub told_free : (n : NodeNo) (s' out' : List ℕ) (no seen' : ℕ) → m ≡ Free n → Named L s s' seen n.0 no seen' → out' ≡ over out at (variable no) → Told L s s' out out' at (tells (seen_of L s seen) m) seen' (at + 3)
  unfolding tells variable
  told_free n s' out' num seen' e N q = rw (e, tells) (record { is = (λ i. record { seen = seen_of L s' seen'; out = q i; at = at + 3 }) ∙ ap (ends out at) N.is; table = N.table; kept = N.kept; frames = N.frames })

  pub told-nothing : m ≡ Nothing → Table L s seen → Told L s s out out at (tells (seen_of L s seen) m) seen at
  unfolding tells over
  told-nothing e T = rw (e, tells) (record { is = λ i. record { seen = seen_of L s seen; out = out; at = sym (add-zero at) i }; table = T; kept = kept-none L s; frames = refl })
