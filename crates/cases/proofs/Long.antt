-- A question that is too long is judged by its start: where both have whole records only, its reading stops at the same fault as that of any start of more than 768 bytes.
-- Here, in order: a record of the start; terms; a RIGHT; a question.
-- Assumes nothing.
use Prim.Native.Nat.{ℕ, zero, suc, ◌+◌, ◌*◌, ◌≤◌, ◌<◌}
use mathlib.Core.Path.{◌≡◌, refl, ap, sym, ◌∙◌, subst}
use mathlib.Core.Bool.{Bool, true, false, ◌&&◌}
use mathlib.Core.List.{List, [], ◌∷◌, ◌++◌}
use mathlib.Core.Option.{Option, none, some}
use lib.ListN.{length, get_or, drop, length-append, get_or-append}
use lib.Dec.{ltb, leb, eqb}
use native.Mathlib.Omega.{arith}
use borrow.Author.Tests.{ltb-true, leb-true, leb-false, lt-ltb, eqb-true, eqb-false}
use Rattle.book.specs.Syntax.{Terms, Right, done}
use Rattle.book.specs.declared.Sort.{Sort}
use Rattle.book.specs.declared.Sort.TheVariants.{End}
use Rattle.book.specs.declared.Fault.{Fault}
use Rattle.std.specs.Prelude.{Result, Ok}
use Rattle.book.specs.Record.{Rec, Got, got, fault, bodies, body_of, body_byte, rec_at}
use Rattle.book.specs.Reading.{after, make, Case, case, pick, Names, Head, slot_case, read_head, joined, the_one, read_terms, read_right, last}
use Rattle.book.proofs.Records.{rec-of}
use Rattle.book.proofs.Enough.{room-ends}
use Rattle.book.proofs.Fairness.{both_hold}
use Rattle.book.proofs.Fronts.{after-got, after-fault, pick-fit, pick-unfit, pick_next, pick-none}
use Rattle.cases.specs.declared.Passed.TheVariants.{Whole}
use Rattle.cases.specs.Parts.{passed, start, found}
use Rattle.cases.proofs.Passes.{pass-unknown, pass-whole, pass-short}

-- a body has at most two bytes
few : Option ℕ → Bool
few none = true
few (some m) = leb m 2

few_all : List (Option ℕ) → Bool
few_all [] = true
few_all (o ∷ l) = few o && few_all l

few-at : (l : List (Option ℕ)) → few_all l ≡ true → (k : ℕ) {m : ℕ} → get_or l k none ≡ some m → m ≤ 2
unfolding few_all few
few-at [] h k q = let z : ◌≡◌ {A = ℕ} 0 1 = cc in absurd (omega arith)
few-at (none ∷ l) h zero q = let z : ◌≡◌ {A = ℕ} 0 1 = cc in absurd (omega arith)
few-at (none ∷ l) h (suc k) q = few-at l h k q
few-at (some x ∷ l) h zero {m} q = let z : x ≡ m = cc in let g = leb-true x 2 (both_hold (leb x 2) (few_all l) h).0 in omega arith
few-at (some x ∷ l) h (suc k) q = few-at l (both_hold (leb x 2) (few_all l) h).1 k q

pub body-few : (x : ℕ) {m : ℕ} → body_of x ≡ some m → m ≤ 2
unfolding body_of few few_all
body-few x q = few-at bodies refl x q

-- a record with whole records behind it
record Sound (s : List ℕ) (n k : ℕ) (res : Result Rec Fault) : Type 0 where
  rec : Rec
  is : res ≡ Ok rec
  near : rec.end ≤ k + 3
  on : passed (Whole rec.end) (drop rec.end s) ≡ Whole n

-- what reads a place: nothing beyond n
unfoldable pub Within : {A : Type 0} → ℕ → Got A → Type 0
Within n (got a e) = e ≤ n
Within n (fault w p) = Unit {0}

within_more : {A : Type 0} (m n : ℕ) (x : Got A) → m ≤ n → Within m x → Within n x
unfolding Within
within_more m n (got a e) l h = omega arith
within_more m n (fault w p) l h = tt

within-make : {A B : Type 0} (n : ℕ) (g : A → B) (x : Got A) → Within n x → Within n (make g x)
unfolding Within make
within-make n g (got a e) h = h
within-make n g (fault w p) h = tt

-- a record's reading that goes on right behind it
unfoldable Behind : {A : Type 0} → ℕ → Got A → Type 0
Behind e (got a e') = e' ≡ e
Behind e (fault w p) = Unit {0}

unfoldable AllBehind : {A : Type 0} → List (Case A) → Type 0
AllBehind [] = Unit {0}
AllBehind (c ∷ cases) = ((a b e : ℕ) → Behind e (c.read a b e)) × AllBehind cases

pick-behind : {A : Type 0} (cases : List (Case A)) → AllBehind cases → (k : ℕ) {r : Rec} {res : Result Rec Fault} → res ≡ Ok r → Behind r.end (pick cases k res)
unfolding AllBehind Behind
pick-behind {A} [] h k {r} q = subst (λ (x : Got A). Behind r.end x) (sym (pick-none k q)) tt
pick-behind {A} (c ∷ cases) h k {r} {res} q = go (eqb r.kind c.kind) refl (c.fits r.a r.b) refl (pick-behind cases h.1 k q)
  where
    go : (t : Bool) → eqb r.kind c.kind ≡ t → (u : Bool) → c.fits r.a r.b ≡ u → Behind r.end (pick cases k res) → Behind r.end (pick (c ∷ cases) k res)
    go false t u' u ih = subst (λ (x : Got A). Behind r.end x) (sym (pick_next k c cases q (eqb-false _ _ t))) ih
    go true t false u ih = subst (λ (x : Got A). Behind r.end x) (sym (pick-unfit k c cases q (eqb-true _ _ t) u)) tt
    go true t true u ih = subst (λ (x : Got A). Behind r.end x) (sym (pick-fit k c cases q (eqb-true _ _ t) u)) (h.0 r.a r.b r.end)

slots-behind : (o : Option ℕ) (m : Bool) → AllBehind (slot_case o m)
unfolding AllBehind slot_case Behind
slots-behind none m = tt
slots-behind (some n) m = ((λ a b e. refl), tt)

byte-front : (s t : List ℕ) (k m i : ℕ) → k + 1 + m ≤ length s → body_byte (s ++ t) (k + 1) m i ≡ body_byte s (k + 1) m i
unfolding body_byte
byte-front s t k m i l = go (ltb i m) refl
  where
    go : (b : Bool) → ltb i m ≡ b → body_byte (s ++ t) (k + 1) m i ≡ body_byte s (k + 1) m i
    go false u = rw (u, body_byte)
    go true u = (let g = ltb-true i m u in rw (u, body_byte, get_or-append s t 0 (k + 1 + i) (omega arith)))

-- where whole records follow, a place within the start has one, the same in the whole
record Front (s t : List ℕ) (n k : ℕ) : Type 0 where
  sound : Sound s n k (rec_at s k)
  same : rec_at (s ++ t) k ≡ rec_at s k

front : (s t : List ℕ) (n k : ℕ) → k < length s → passed (Whole k) (drop k s) ≡ Whole n → Front s t n k
unfolding found
front s t n k h p = kinds (body_of (get_or s k 0)) refl
  where
    known : (m : ℕ) → body_of (get_or s k 0) ≡ some m → (b : Bool) → leb (k + 1 + m) (length s) ≡ b → Front s t n k
    known m q false b = (let z = sym (pass-short s k h m q (leb-false _ _ b)) ∙ ap found p in let y : ◌≡◌ {A = ℕ} 0 1 = cc in absurd (omega arith))
    known m q true b =
        let l = leb-true (k + 1 + m) (length s) b in
        let f = body-few (get_or s k 0) q in
        let g = get_or-append s t 0 k h in
        let long = length-append s t in
        let here = rec-of s k m h q l in
        let q' : body_of (get_or (s ++ t) k 0) ≡ some m = rw g q in
        let there = rec-of (s ++ t) k m (omega arith) q' (omega arith) in
        let x = byte-front s t k m 0 l in
        let y = byte-front s t k m 1 l in
        record {
          sound = record { rec = _; is = here; near = omega arith; on = sym (pass-whole s k h m q l) ∙ p };
          same = there ∙ rw (g, x, y) (sym here);
        }

    kinds : (o : Option ℕ) → body_of (get_or s k 0) ≡ o → Front s t n k
    kinds none q = (let z = sym (pass-unknown s k h q) ∙ p in let y : ◌≡◌ {A = ℕ} 0 1 = cc in absurd (omega arith))
    kinds (some m) q = known m q (leb (k + 1 + m) (length s)) refl

head-front : (s t : List ℕ) (names : Names) (more : Bool) (k : ℕ) → rec_at (s ++ t) k ≡ rec_at s k → read_head (s ++ t) names more k ≡ read_head s names more k
unfolding read_head
head-front s t names more k q = rw q

head-behind : (s : List ℕ) (names : Names) (more : Bool) (k : ℕ) {r : Rec} → rec_at s k ≡ Ok r → Behind r.end (read_head s names more k)
unfolding read_head AllBehind Behind
head-behind s names more k q = pick-behind _ ((λ a b e. refl), ((λ a b e. refl), ((λ a b e. refl), slots-behind names.slots more))) k q

-- the terms that are due, read in the start and in the whole
record Alike (s t : List ℕ) (names : Names) (room due k : ℕ) : Type 0 where
  same : read_terms (s ++ t) names room due k ≡ read_terms s names room due k
  within : Within (k + 3 * room) (read_terms s names room due k)

terms-front : (s t : List ℕ) (n : ℕ) (names : Names) (room due k : ℕ) → k + 3 * room < length s → passed (Whole k) (drop k s) ≡ Whole n → Alike s t names room due k
unfolding read_terms Within Behind
terms-front s t n names zero zero k h p = record { same = refl; within = omega arith }
terms-front s t n names (suc room) zero k h p = record { same = refl; within = omega arith }
terms-front s t n names zero (suc due) k h p =
    let f = front s t n k (omega arith) p in
    let r = room-ends s names due k in
    record {
      same = ap (λ (x : Got Head). after x (λ h e. got done e)) (head-front s t names false k f.same);
      within = subst (λ (x : Got Terms). Within (k + 3 * 0) x) (sym r.1) tt;
    }
terms-front s t n names (suc room) (suc due) k h p =
    let f = front s t n k (omega arith) p in
    go f (read_head s names true k) refl (head-behind s names true k f.sound.is) (λ due e h p. terms-front s t n names room due e h p)
  where
    go : (f : Front s t n k) (x : Got Head) → read_head s names true k ≡ x → Behind f.sound.rec.end x
        → ((due e : ℕ) → e + 3 * room < length s → passed (Whole e) (drop e s) ≡ Whole n → Alike s t names room due e) → Alike s t names (suc room) (suc due) k
    go f (fault w q) r b ih =
        let r' = head-front s t names true k f.same ∙ r in
        record {
          same = after-fault _ r' ∙ sym (after-fault _ r);
          within = subst (λ (x : Got Terms). Within (k + 3 * suc room) x) (sym (after-fault _ r)) tt;
        }
    go f (got x e) r b ih =
        let r' = head-front s t names true k f.same ∙ r in
        let near = f.sound.near in
        let i = ih (x.args + due) e (omega arith) (rw b f.sound.on) in
        record {
          same = after-got _ r' ∙ ap (make (joined x)) i.same ∙ sym (after-got _ r);
          within = subst (λ (y : Got Terms). Within (k + 3 * suc room) y) (sym (after-got _ r)) (within-make _ (joined x) _ (within_more (e + 3 * room) (k + 3 * suc room) (read_terms s names room (x.args + due) e) (omega arith) i.within));
        }

-- the RIGHT at the start
pub record Begins (s t cons funcs : List ℕ) : Type 0 where
  pub same : read_right (s ++ t) cons funcs none 0 ≡ read_right s cons funcs none 0
  pub within : Within 768 (read_right s cons funcs none 0)

abbrev right_case : List ℕ → List ℕ → List ℕ → Case Right
right_case s cons funcs = case 6 (λ v _. leb v 8) (λ v _ e. make (λ ts. record { vars = v; term = the_one ts }) (read_terms s (record { cons = cons; funcs = funcs; slots = none; vars = v }) 255 1 e))

pub right-front : (s t : List ℕ) (n : ℕ) (cons funcs : List ℕ) → 768 < length s → passed start s ≡ Whole n → Begins s t cons funcs
unfolding read_right Within
right-front s t n cons funcs h p = let f = front s t n 0 (omega arith) p in go f (eqb f.sound.rec.kind 6) refl (leb f.sound.rec.a 8) refl
  where
    question : ℕ → Names
    question v = record { cons = cons; funcs = funcs; slots = none; vars = v }

    go : (f : Front s t n 0) (b : Bool) → eqb f.sound.rec.kind 6 ≡ b → (c : Bool) → leb f.sound.rec.a 8 ≡ c → Begins s t cons funcs
    go f false b c' c =
        let q = f.sound.is in
        let u = pick_next 0 (right_case s cons funcs) [] q (eqb-false _ _ b) ∙ pick-none 0 q in
        let v = pick_next 0 (right_case (s ++ t) cons funcs) [] (f.same ∙ q) (eqb-false _ _ b) ∙ pick-none 0 (f.same ∙ q) in
        record { same = v ∙ sym u; within = subst (λ (x : Got Right). Within 768 x) (sym u) tt }
    go f true b false c =
        let q = f.sound.is in
        let u = pick-unfit 0 (right_case s cons funcs) [] q (eqb-true _ _ b) c in
        let v = pick-unfit 0 (right_case (s ++ t) cons funcs) [] (f.same ∙ q) (eqb-true _ _ b) c in
        record { same = v ∙ sym u; within = subst (λ (x : Got Right). Within 768 x) (sym u) tt }
    go f true b true c =
        let q = f.sound.is in
        let near = f.sound.near in
        let u = pick-fit 0 (right_case s cons funcs) [] q (eqb-true _ _ b) c in
        let v = pick-fit 0 (right_case (s ++ t) cons funcs) [] (f.same ∙ q) (eqb-true _ _ b) c in
        let i = terms-front s t n (question f.sound.rec.a) 255 1 f.sound.rec.end (omega arith) f.sound.on in
        record {
          same = v ∙ ap (make _) i.same ∙ sym u;
          within = subst (λ (x : Got Right). Within 768 x) (sym u) (within-make _ _ _ (within_more (f.sound.rec.end + 765) 768 (read_terms s (question f.sound.rec.a) 255 1 f.sound.rec.end) (omega arith) i.within));
        }

-- what comes behind what was read within the start is too much, in the start and in the whole
pub last-front : (s t : List ℕ) (x : Got Right) → 768 < length s → Within 768 x → (after x (last (s ++ t)) ≡ after x (last s)) × ((w : Sort) × ((p : ℕ) × (after x (last s) ≡ fault w p)))
unfolding after Within last
last-front s t (fault w p) h l = (refl, (w, (p, refl)))
last-front s t (got r e) h l =
    let long = length-append s t in
    let x = lt-ltb e (length s) (omega arith) in
    let y = lt-ltb e (length (s ++ t)) (omega arith) in
    (rw (x, y, last), (End, (e, rw (x, last))))
