-- Trees as they stand in the book, and their code.
use Prim.Native.Nat.{ℕ, suc, ◌+◌, ◌*◌, ◌≤◌, ◌<◌}
use native.Mathlib.Omega.{arith}
use mathlib.Core.Path.{◌≡◌, refl, ap, sym, ◌∙◌, subst}
use mathlib.Core.Bool.{true, false}
use mathlib.Core.Logic.{◌⊎◌, inl, inr}
use mathlib.Core.List.{List, [], ◌∷◌, ◌++◌, append_assoc, append-nil}
use lib.ListN.{length, get_or, take, drop, length-append}
use lib.Seq.{length-sets}
use lib.Dec.{eqb}
use borrow.Author.Tests.{eq-eqb, ne_eqb}
use Rattle.book.specs.Syntax.{Right, Tree, split, rule, norule, con_arities}
use Rattle.book.specs.Accepted.{FineRights, FineTree}
use Rattle.engine.specs.Code.{four, emit, encode, pop, replace, choice}
use Rattle.engine.specs.Compile.{Positions, of_right, of_rights, of_rule, of_tree}
use Rattle.compiler.specs.declared.Lore.{Lore}
use Rattle.compiler.specs.Records.{bytes, rights_recs, tree_recs}
use Rattle.compiler.specs.Here.{RightsHere, RightsDone, TreeHere, TreeDone}
use Rattle.compiler.specs.declared.Ends.{Ends}
use Rattle.compiler.proofs.Terms.{head-is, two-are, emit-append}
use Rattle.compiler.specs.Rows.{row, Grown, Fronts, Emits, arm_code}
use Rattle.compiler.proofs.Writing.{emits-long, emits_then}
use Rattle.compiler.proofs.Loops.{row-long, row_at}

-- the length byte of a row
pub row_first : (rows rows' : List ℕ) (slot : ℕ) → row rows' slot ≡ row rows slot → get_or rows' (9 * slot) 0 ≡ get_or rows (9 * slot) 0
row_first rows rows' slot q =
    let z : 9 * slot + 0 ≡ 9 * slot = omega arith in
    rw (← z) (sym (row_at rows' slot 0 (omega arith)) ∙ ap (λ (l : List ℕ). get_or l 0 0) q ∙ row_at rows slot 0 (omega arith))

-- a slot that is kept while rows grow
pub grow-kept : (rows rows' : List ℕ) (slot n a i : ℕ) → Grown rows rows' slot n i → i < a → n + a ≤ 64 → slot < 256 → (slot < n) ⊎ (slot ≡ 255) → get_or rows (9 * slot) 0 < 8
    → (get_or rows' (9 * slot) 0 < 8) × (slot ≡ n + i → ⊥) × ((slot < n) ⊎ (n + i < slot))
grow-kept rows rows' slot n a i g h u v (inl w) k = (rw (row_first rows rows' slot (g.same slot v (inl w))) k, (λ z. omega arith), inl w)
grow-kept rows rows' slot n a i g h u v (inr w) k = (rw (row_first rows rows' slot (g.same slot v (inr (omega arith)))) k, (λ z. omega arith), inr (omega arith))

module _ (rows : List ℕ) (slot ty o : ℕ) (long : length rows ≡ 2304) (small : slot < 256) {l l₁ l₂ : List ℕ} {p g : ℕ} (e₁ : Emits l l₁ o p (0x30 ∷ row rows slot)) (e₂ : Emits l₁ l₂ p g (0x31 ∷ ty ∷ [])) where
  pub front-place : (g ≡ o + 12) × (length l₂ ≡ length l)
  front-place = let n = row-long rows slot long small in (omega (arith, e₁.next, e₂.next), emits-long e₂ ∙ emits-long e₁)

  pub fronts : (lore : Lore) (c m : ℕ) {l₃ l₄ : List ℕ} {q r : ℕ} → Emits l₂ l₃ g q (0x32 ∷ four (g + 5 + 5 * m)) → Emits l₃ l₄ (g + 5 + 5 * m) r (arm_code c (take m (drop c lore.cons))) → Fronts lore rows l l₄ slot ty c m o r
  fronts lore c m {l₃} {l₄} {q} {r} e₃ e₄ =
      let n = front-place.0 in
      let k : g + 5 + 5 * m ≡ o + 17 + 5 * m = omega arith in
      let a : Emits l l₃ o q (((0x30 ∷ row rows slot) ++ 0x31 ∷ ty ∷ []) ++ 0x32 ∷ four (g + 5 + 5 * m)) = emits_then (emits_then e₁ e₂) e₃ in
      let b : ((0x30 ∷ row rows slot) ++ 0x31 ∷ ty ∷ []) ++ 0x32 ∷ four (g + 5 + 5 * m) ≡ (0x30 ∷ row rows slot) ++ 0x31 ∷ ty ∷ 0x32 ∷ four (g + 5 + 5 * m) = append_assoc (0x30 ∷ row rows slot) (0x31 ∷ ty ∷ []) (0x32 ∷ four (g + 5 + 5 * m)) in
      record { is = e₄.is ∙ rw (a.is, b, k); next = e₄.next ∙ rw k }

-- a RULE's code is its RIGHTs' and its end
unfoldable pub ending : ℕ → List ℕ
ending n = elim (eqb n 1) [ true ↦ 0x34 ∷ 0x39 ∷ [] | false ↦ 0x3B ∷ [] ]

pub ending-one : (n : ℕ) → n ≡ 1 → ending n ≡ 0x34 ∷ 0x39 ∷ []
unfolding ending
ending-one n h = rw (eq-eqb n 1 h, ending)

pub ending-more : (n : ℕ) → (n ≡ 1 → ⊥) → ending n ≡ 0x3B ∷ []
unfolding ending
ending-more n h = rw (ne_eqb n 1 h, ending)

pub rule-emit : (pos : Positions) (rs : List Right) → emit (of_rule pos rs) ≡ emit (of_rights pos rs) ++ ending (length rs)
unfolding ending of_rule of_rights emit encode
rule-emit pos [] = refl
rule-emit pos (r ∷ []) = emit-append (of_right pos r) (pop ∷ replace ∷ []) ∙ rw (append-nil (of_right pos r))
rule-emit pos (r ∷ r' ∷ rs) = emit-append (of_rights pos (r ∷ r' ∷ rs)) (choice ∷ []) ∙ ap (λ (l : List ℕ). emit (of_rights pos (r ∷ r' ∷ rs)) ++ l) (sym (ending-more (suc (suc (length rs))) (λ z. omega arith)))

module _ {s : List ℕ} {lore : Lore} {rows : List ℕ} {n at o : ℕ} {code : List ℕ} (x : TreeHere s lore rows n at o code) where
  -- a RULE
  pub record RuleIs (k : ℕ) : Type 0 where
    pub inside : at + 2 ≤ length s
    pub here : RightsHere s lore rows (at + 2) k o code
    pub room : (code' : List ℕ) (e : Ends) → RightsDone here code' e → (e.out + length (ending k) ≤ length code') × (length code' ≡ length code)
    pub finish : (code' code'' : List ℕ) (e r : Ends) → RightsDone here code' e → r.at ≡ e.at → Emits code' code'' e.out r.out (ending k) → TreeDone x code'' r

  pub rule-is : (k : ℕ) → k ≡ get_or s (at + 1) 0 → get_or s at 0 ≡ 5 → RuleIs k
  rule-is k same five = go x.tree refl
    where
      go : (t : Tree) → x.tree ≡ t → RuleIs k
      go (split i u ts) q = let h = head-is s at 4 _ (x.is ∙ ap (λ (t : Tree). bytes (tree_recs t) ++ x.rest) q) in absurd (omega (arith, h.0))
      go norule q = let h = head-is s at 11 _ (x.is ∙ ap (λ (t : Tree). bytes (tree_recs t) ++ x.rest) q) in absurd (omega (arith, h.0))
      go (rule rs) q =
          let two = two-are s at 5 (length rs) (bytes (rights_recs rs) ++ x.rest) (x.is ∙ ap (λ (t : Tree). bytes (tree_recs t) ++ x.rest) q) in
          let f : FineTree x.types x.funcs x.slots (rule rs) = subst (FineTree x.types x.funcs x.slots) q x.fine in
          let e : emit (of_tree x.types x.tree x.pos o) ≡ emit (of_rights x.pos rs) ++ ending (length rs) = ap (λ (t : Tree). emit (of_tree x.types t x.pos o)) q ∙ (unfold of_tree in rule-emit x.pos rs) in
          let m = length-append (emit (of_rights x.pos rs)) (ending (length rs)) in
          let w : bytes (tree_recs x.tree) ≡ 5 ∷ length rs ∷ bytes (rights_recs rs) = ap (λ (t : Tree). bytes (tree_recs t)) q in
          let y : RightsHere s lore rows (at + 2) k o code =
          record {
            types = x.types;
            funcs = x.funcs;
            told = x.told;
            pos = x.pos;
            are = x.are;
            rights = rs;
            rest = x.rest;
            is = two.rest;
            count = sym (same ∙ two.second);
            fine = subst (λ (k : ℕ). FineRights (con_arities x.types) x.funcs k rs) (sym x.match.long) f.2;
            fits = omega (arith, x.fits, ap length e);
          } in
          record {
            inside = two.inside;
            here = y;
            room = λ code' d r. (let z : length code' ≡ length code = rw r.is (length-sets code o (emit (of_rights x.pos rs))) in (rw (same ∙ two.second) (omega (arith, x.fits, ap length e, r.out)), z));
            finish = λ code' code'' d r u a v.
                (let v' : Emits code' code'' d.out r.out (ending (length rs)) = subst (λ (k : ℕ). Emits code' code'' d.out r.out (ending k)) (same ∙ two.second) v in
                let u' : Emits code code' o d.out (emit (of_rights x.pos rs)) = record { is = u.is; next = u.out } in
                let b : Emits code code'' o r.out (emit (of_rights x.pos rs) ++ ending (length rs)) = emits_then u' v' in
                record { at = a ∙ u.at ∙ omega (arith, ap length w); out = b.next ∙ rw e; is = b.is ∙ rw e });
          }
