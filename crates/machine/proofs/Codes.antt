-- Laws of the code's bytes: operations, symbols, jumps.
-- Assumes nothing.
use Prim.Native.Nat.{ℕ, suc, ◌+◌, ◌-◌, ◌*◌, ◌≤◌, ◌<◌}
use mathlib.Core.Path.{◌≡◌, refl, ap, sym, ◌∙◌}
use mathlib.Core.Logic.{◌⊎◌, inl, inr}
use mathlib.Core.Bool.{Bool, true, false}
use mathlib.Core.List.{List, ◌∷◌}
use lib.ListN.{length, get_or, take, drop, length-take, get_or-eq_default}
use lib.Seq.{get_or-drop, drop-cons, drop-drop, take-take, take_all}
use lib.Dec.{leb}
use Rattle.std.proofs.Common.{min}
use borrow.Author.Tests.{ne_eqb, leb-true, leb-false}
use native.Mathlib.Omega.{arith}
use native.Mathlib.Nat.{add-zero, add_assoc}
use native.Mathlib.Numerals.{add-one}
use Rattle.book.specs.Syntax.{con, fun}
use Rattle.engine.specs.Code.{Instr, load, branch, store_var, make_var, make_term, wrong, decode, bodies, symbol, from_four, width}
use Rattle.store.specs.Rows.{symbol_of}
use Rattle.store.specs.declared.Head.{Head}
use Rattle.store.specs.declared.Head.TheVariants.{Makes, Calls}
use Rattle.machine.specs.View.{op_of, width_of, SymbolAt}
use Rattle.machine.specs.declared.Op.{Op}
use Rattle.machine.specs.declared.Op.TheVariants.{Load, Branch, Go, Push, Pop, MakeAnon, StoreVar, MakeVar, MakeTerm, Replace, Narrow, Choice, Fail, Wrong}

-- the byte behind a place
behind : (code : List ℕ) (a i : ℕ) → get_or (drop a code) i 0 ≡ get_or code (a + i) 0
behind code a i = get_or-drop a code i 0

first-behind : (code : List ℕ) (a : ℕ) → get_or (drop a code) 0 0 ≡ get_or code a 0
first-behind code a = get_or-drop a code 0 0 ∙ ap (λ (i : ℕ). get_or code i 0) (add-zero a)

-- MAKETERM's symbol
symbol-zero : (b : List ℕ) (y : ℕ) → get_or b 0 0 ≡ 0 → get_or b 1 0 ≡ y → symbol b ≡ con y
unfolding symbol
symbol-zero b y e e' = rw (e, symbol) (ap con e')

symbol-one : (b : List ℕ) (y : ℕ) → (get_or b 0 0 ≡ 0 → ⊥) → get_or b 1 0 ≡ y → symbol b ≡ fun y
unfolding symbol
symbol-one b y e e' = rw (ne_eqb (get_or b 0 0) 0 e, symbol) (ap fun e')

pub symbol-con : (code : List ℕ) (at k y : ℕ) → k ≡ get_or code at 0 → y ≡ get_or code (at + 1) 0 → k ≡ 0 → SymbolAt code at (Makes (record { 0 = y }))
unfolding SymbolAt symbol_of
symbol-con code at k y e e' z = sym (symbol-zero (drop at code) y (first-behind code at ∙ sym e ∙ z) (behind code at 1 ∙ sym e'))

pub symbol-fun : (code : List ℕ) (at k y : ℕ) → k ≡ get_or code at 0 → y ≡ get_or code (at + 1) 0 → (k ≡ 0 → ⊥) → SymbolAt code at (Calls (record { 0 = y }))
unfolding SymbolAt symbol_of
symbol-fun code at k y e e' z = sym (symbol-one (drop at code) y (λ q. z (e ∙ sym (first-behind code at) ∙ q)) (behind code at 1 ∙ sym e'))

past : (a k : ℕ) → a ≤ k → (k ≡ a → ⊥) → suc a ≤ k
past a k h n = omega arith

-- a kind that is none of the thirteen
pub outside : (k : ℕ) → (k ≡ 0x30 → ⊥) → (k ≡ 0x31 → ⊥) → (k ≡ 0x32 → ⊥) → (k ≡ 0x33 → ⊥) → (k ≡ 0x34 → ⊥) → (k ≡ 0x35 → ⊥) → (k ≡ 0x36 → ⊥) → (k ≡ 0x37 → ⊥) → (k ≡ 0x38 → ⊥) → (k ≡ 0x39 → ⊥) → (k ≡ 0x3a → ⊥) → (k ≡ 0x3b → ⊥) → (k ≡ 0x3c → ⊥) → (k < 0x30) ⊎ (0x3c < k)
outside k n0 n1 n2 n3 n4 n5 n6 n7 n8 n9 na nb nc = go (leb 0x30 k) refl (leb k 0x3c) refl
  where
    go : (a : Bool) → leb 0x30 k ≡ a → (b : Bool) → leb k 0x3c ≡ b → (k < 0x30) ⊎ (0x3c < k)
    go false e b e' = inl (leb-false 0x30 k e)
    go true e false e' = inr (leb-false k 0x3c e')
    go true e true e' = inr (past 0x3c k (past 0x3b k (past 0x3a k (past 0x39 k (past 0x38 k (past 0x37 k (past 0x36 k (past 0x35 k (past 0x34 k (past 0x33 k (past 0x32 k (past 0x31 k (past 0x30 k (leb-true 0x30 k e) n0) n1) n2) n3) n4) n5) n6) n7) n8) n9) na) nb) nc)

-- an operation by its kind
module _ (code : List ℕ) (pc : ℕ) (h : pc < length code) where
  kind : (k : ℕ) → get_or code pc 0 ≡ k → decode (drop pc code) ≡ decode (k ∷ drop (pc + 1) code)
  kind k e = rw (drop-cons code pc 0 h, e, add-one)

  body : (b : ℕ) → b ≡ get_or code (pc + 1) 0 → get_or (drop (pc + 1) code) 0 0 ≡ b
  body b e = first-behind code (pc + 1) ∙ sym e

  steps : drop 1 (drop (pc + 1) code) ≡ drop (pc + 2) code
  steps = drop-drop 1 (pc + 1) code ∙ ap (λ (i : ℕ). drop i code) (add_assoc pc 1 1)

  pub op-load : (b n : ℕ) → b ≡ get_or code (pc + 1) 0 → n ≡ min b 8 → get_or code pc 0 ≡ 0x30 → op_of code pc (Load n) ≡ decode (drop pc code)
  unfolding op_of decode
  op-load b n e en k = sym (kind 0x30 k ∙ rw (body b e, steps) (ap load (go (leb b 8) refl)))
    where
      go : (x : Bool) → leb b 8 ≡ x → take b (take 8 (drop (pc + 2) code)) ≡ take n (drop (pc + 2) code)
      go true e' = let le = leb-true b 8 e' in let s : n ≡ b = omega arith in rw s (take-take b 8 (drop (pc + 2) code) le)
      go false e' = let lt = leb-false b 8 e' in let s : n ≡ 8 = omega arith in rw s (take_all b (take 8 (drop (pc + 2) code)) (rw length-take (omega arith)))

  pub op-branch : (b : ℕ) → b ≡ get_or code (pc + 1) 0 → get_or code pc 0 ≡ 0x31 → op_of code pc (Branch b) ≡ decode (drop pc code)
  unfolding op_of decode
  op-branch b e k = sym (kind 0x31 k ∙ ap branch (body b e))

  pub op-go : get_or code pc 0 ≡ 0x32 → op_of code pc Go ≡ decode (drop pc code)
  unfolding op_of decode
  op-go k = sym (kind 0x32 k)

  pub op-push : get_or code pc 0 ≡ 0x33 → op_of code pc Push ≡ decode (drop pc code)
  unfolding op_of decode
  op-push k = sym (kind 0x33 k)

  pub op-pop : get_or code pc 0 ≡ 0x34 → op_of code pc Pop ≡ decode (drop pc code)
  unfolding op_of decode
  op-pop k = sym (kind 0x34 k)

  pub op-anon : get_or code pc 0 ≡ 0x35 → op_of code pc MakeAnon ≡ decode (drop pc code)
  unfolding op_of decode
  op-anon k = sym (kind 0x35 k)

  pub op-store : (b : ℕ) → b ≡ get_or code (pc + 1) 0 → get_or code pc 0 ≡ 0x36 → op_of code pc (StoreVar b) ≡ decode (drop pc code)
  unfolding op_of decode
  op-store b e k = sym (kind 0x36 k ∙ ap store_var (body b e))

  pub op-var : (b : ℕ) → b ≡ get_or code (pc + 1) 0 → get_or code pc 0 ≡ 0x37 → op_of code pc (MakeVar b) ≡ decode (drop pc code)
  unfolding op_of decode
  op-var b e k = sym (kind 0x37 k ∙ ap make_var (body b e))

  pub op-term : (y : Head) → SymbolAt code (pc + 1) y → get_or code pc 0 ≡ 0x38 → op_of code pc (MakeTerm y) ≡ decode (drop pc code)
  unfolding op_of decode SymbolAt
  op-term y e k = sym (kind 0x38 k ∙ ap make_term (sym e))

  pub op-replace : get_or code pc 0 ≡ 0x39 → op_of code pc Replace ≡ decode (drop pc code)
  unfolding op_of decode
  op-replace k = sym (kind 0x39 k)

  pub op-narrow : get_or code pc 0 ≡ 0x3a → op_of code pc Narrow ≡ decode (drop pc code)
  unfolding op_of decode
  op-narrow k = sym (kind 0x3a k)

  pub op-choice : get_or code pc 0 ≡ 0x3b → op_of code pc Choice ≡ decode (drop pc code)
  unfolding op_of decode
  op-choice k = sym (kind 0x3b k)

  pub op-fail : get_or code pc 0 ≡ 0x3c → op_of code pc Fail ≡ decode (drop pc code)
  unfolding op_of decode
  op-fail k = sym (kind 0x3c k)

  pub op-wrong : (get_or code pc 0 < 0x30) ⊎ (0x3c < get_or code pc 0) → op_of code pc Wrong ≡ decode (drop pc code)
  unfolding op_of decode
  op-wrong o = sym (kind (get_or code pc 0) refl ∙ go (leb 0x30 (get_or code pc 0)) refl o)
    where
      go : (b : Bool) → leb 0x30 (get_or code pc 0) ≡ b → (get_or code pc 0 < 0x30) ⊎ (0x3c < get_or code pc 0) → decode (get_or code pc 0 ∷ drop (pc + 1) code) ≡ wrong
      go false e o' = rw (e, decode)
      go true e (inl lt) = absurd (omega (arith, leb-true 0x30 (get_or code pc 0) e))
      go true e (inr lt) = rw (e, decode) (ap (λ (f : List ℕ → Instr). f (drop (pc + 1) code)) (get_or-eq_default bodies (λ b. wrong) {n = get_or code pc 0 - 0x30} (omega arith)))

-- a width by the operation
pub width-op : (code : List ℕ) (at : ℕ) (o : Op) → width (op_of code at o) ≡ width_of o
unfolding op_of width
width-op code at (Load n) = refl
width-op code at (Branch t) = refl
width-op code at Go = refl
width-op code at Push = refl
width-op code at Pop = refl
width-op code at MakeAnon = refl
width-op code at (StoreVar v) = refl
width-op code at (MakeVar v) = refl
width-op code at (MakeTerm h) = refl
width-op code at Replace = refl
width-op code at Narrow = refl
width-op code at Choice = refl
width-op code at Fail = refl
width-op code at Wrong = refl

-- where a GO leads
pub jump-is : (code : List ℕ) (pc j a b c d : ℕ) → a ≡ get_or code (pc + (5 * j + 1)) 0 → b ≡ get_or code (pc + (5 * j + 1) + 1) 0 → c ≡ get_or code (pc + (5 * j + 1) + 2) 0 → d ≡ get_or code (pc + (5 * j + 1) + 3) 0
    → a + 256 * (b + 256 * (c + 256 * d)) ≡ from_four (drop (5 * j + 1) (drop pc code))
unfolding from_four
jump-is code pc j a b c d ea eb ec ed =
    let w : drop (5 * j + 1) (drop pc code) ≡ drop (pc + (5 * j + 1)) code = drop-drop (5 * j + 1) pc code in
    let f0 : get_or (drop (pc + (5 * j + 1)) code) 0 0 ≡ a = first-behind code (pc + (5 * j + 1)) ∙ sym ea in
    let f1 : get_or (drop (pc + (5 * j + 1)) code) 1 0 ≡ b = behind code (pc + (5 * j + 1)) 1 ∙ sym eb in
    let f2 : get_or (drop (pc + (5 * j + 1)) code) 2 0 ≡ c = behind code (pc + (5 * j + 1)) 2 ∙ sym ec in
    let f3 : get_or (drop (pc + (5 * j + 1)) code) 3 0 ≡ d = behind code (pc + (5 * j + 1)) 3 ∙ sym ed in
    rw (w, f0, f1, f2, f3)
