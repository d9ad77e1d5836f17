-- The lore gathered, the starts noted, and the functions compiled one after the other.
use Prim.Native.Nat.{ℕ, suc, ◌+◌, ◌-◌, ◌*◌, ◌/◌, ◌%◌, ◌≤◌, ◌<◌}
use native.Mathlib.Nat.{zero-add, add_comm, mul_comm, div-add-mod'}
use native.Mathlib.Omega.{arith}
use mathlib.Core.Path.{◌≡◌, refl, ap, sym, ◌∙◌, subst}
use mathlib.Core.Bool.{Bool, true, false}
use mathlib.Core.Logic.{◌⊎◌, inr}
use mathlib.Core.List.{List, [], ◌∷◌, ◌++◌, append_assoc, map}
use lib.ListN.{length, get_or, take, drop, replicate, length-append, length-drop, length-replicate, get_or-replicate, get_or-eq_default, drop_of_length-le}
use lib.Seq.{take_all, get_or-set_same, get_or-set_other, get_or_at}
use lib.Dec.{ltb, eqb}
use borrow.Author.Tests.{ltb-true, ltb-false, eqb-true, eqb-false}
use Rattle.mem.specs.Words.{Wrote}
use Rattle.book.specs.Syntax.{Func, arity, cons_of, first_con}
use Rattle.book.specs.Accepted.{FineTypes, FineBook}
use Rattle.book.proofs.Acceptance.{book-fine}
use Rattle.heap.specs.Build.{up_from}
use Rattle.engine.specs.Code.{Instr, emit}
use Rattle.engine.specs.Compile.{of_tree, of_funcs, offsets, flat, compile}
use Rattle.compiler.specs.declared.Lore.{Lore}
use Rattle.compiler.specs.Records.{bytes, tree_recs, funcs_recs, types_recs}
use Rattle.compiler.specs.Rows.{Rows, Keeps, Grown, row, load_body, Progress, Emits}
use Rattle.compiler.specs.Here.{Match, TreeHere, TreeDone, start_at, Started, FuncsHere, FuncsDone}
use Rattle.compiler.specs.declared.Ends.{Ends}
use Rattle.compiler.proofs.Bytes.{bytes-append, book-bytes}
use Rattle.compiler.proofs.Writing.{progress_start, progress_step, progress-stop, progress-room}
use Rattle.compiler.proofs.Loops.{row_at}
use Rattle.compiler.proofs.Terms.{two-are, skipped, emit-append}
use Rattle.compiler.proofs.Rowing.{apart, rows_grown, steps-at, steps-long}
use Rattle.compiler.proofs.Splits.{first_fits}
use Rattle.compiler.proofs.Lengths.{FineAll, fine-all}

pub part-all : (s : List ℕ) (k : ℕ) → take (length s - k) (drop k s) ≡ drop k s
part-all s k = take_all (length s - k) (drop k s) (omega (arith, length-drop k s))

pub types-small : (types : List (List ℕ)) → FineTypes types → (t : ℕ) → t < length types → (first_con types t < 256) × (length (cons_of types t) < 256)
types-small types f t h = let a = first_fits types t h in let b = f.each t h in (omega (arith, f.cons), omega arith)

-- a start in two words
pub started : (w w₁ w₂ : List ℕ) (f start : ℕ) → f < 256 → 512 ≤ length w → Wrote w w₁ (2 * f) (start % 65536) → Wrote w₁ w₂ (2 * f + 1) (start / 65536) → Started w w₂ f start
started w w₁ w₂ f start h l p q = record {
  long = q.long ∙ p.long;
  is =
      let a : get_or w₂ (2 * f) 0 ≡ start % 65536 = rw q.is (get_or-set_other w₁ (2 * f + 1) (2 * f) (start / 65536) 0 (λ z. omega arith) ∙ rw p.is (get_or-set_same w (2 * f) (start % 65536) 0 (omega arith))) in
      let b : get_or w₂ (2 * f + 1) 0 ≡ start / 65536 = rw q.is (get_or-set_same w₁ (2 * f + 1) (start / 65536) 0 (omega (arith, p.long))) in
      rw (a, b) (add_comm (start % 65536) (65536 * (start / 65536)) ∙ rw (mul_comm 65536 (start / 65536)) (div-add-mod' start 65536));
  same = λ g d.
      (let a : get_or w₂ (2 * g) 0 ≡ get_or w (2 * g) 0 = rw q.is (get_or-set_other w₁ (2 * f + 1) (2 * g) (start / 65536) 0 (λ z. omega arith) ∙ rw p.is (get_or-set_other w (2 * f) (2 * g) (start % 65536) 0 (λ z. d (omega arith)))) in
      let b : get_or w₂ (2 * g + 1) 0 ≡ get_or w (2 * g + 1) 0 = rw q.is (get_or-set_other w₁ (2 * f + 1) (2 * g + 1) (start / 65536) 0 (λ z. d (omega arith)) ∙ rw p.is (get_or-set_other w (2 * f) (2 * g + 1) (start % 65536) 0 (λ z. omega arith))) in
      rw (a, b));
  behind = λ i m. rw q.is (get_or-set_other w₁ (2 * f + 1) i (start / 65536) 0 (λ z. omega arith) ∙ rw p.is (get_or-set_other w (2 * f) i (start % 65536) 0 (λ z. omega arith)));
}

-- a function's first positions
arguments-match : (a : ℕ) → Match (replicate a 1) (map (λ i. i ∷ []) (up_from 1 a))
arguments-match a = record { long = steps-long [] 1 a ∙ sym (length-replicate a 1); each = λ i h. at i (ltb i a) refl h }
  where
    at : (i : ℕ) (b : Bool) → ltb i a ≡ b → get_or (replicate a 1) i 8 < 8 → length (get_or (map (λ i. i ∷ []) (up_from 1 a)) i []) ≡ get_or (replicate a 1) i 8
    at i true t h = let l = ltb-true i a t in rw (steps-at [] 1 a i l, get_or-replicate {A = ℕ} a i 1 8 l)
    at i false t h = absurd (omega (arith, rw (get_or-eq_default {A = ℕ} (replicate a 1) 8 {n = i} (omega (arith, length-replicate {A = ℕ} a 1, ltb-false i a t))) at h))

module _ {s : List ℕ} {lore : Lore} {rows₀ w₀ : List ℕ} {from : ℕ} {code₀ : List ℕ} (x : FuncsHere s lore rows₀ w₀ from code₀) where
  abbrev types : List (List ℕ)
  types = x.book.types

  abbrev arities : List ℕ
  arities = map arity x.book.funcs

  abbrev block : Func → ℕ → List Instr
  block g out = of_tree types g.tree (map (λ i. i ∷ []) (up_from 1 g.arity)) out

  -- the functions that are left
  pub record Left (rows w code : List ℕ) (at out f : ℕ) : Type 0 where
    pub funcs : List Func
    pub is : drop at s ≡ bytes (funcs_recs funcs)
    pub fine : FineAll types arities funcs
    pub wrote : Progress code₀ code 0 out (emit (flat (of_funcs types funcs out))) (compile x.book).code
    pub before : List ℕ
    pub starts : (compile x.book).starts ≡ before ++ offsets out (of_funcs types funcs out)
    pub passed : length before ≡ f
    pub count : f + length funcs ≡ length x.book.funcs
    pub noted : (g : ℕ) → g < f → start_at w g ≡ get_or (compile x.book).starts g 0
    pub long : length w ≡ length w₀
    pub behind : (i : ℕ) → 512 ≤ i → get_or w i 0 ≡ get_or w₀ i 0
    pub rows_long : length rows ≡ 2304
    pub empty : row rows 255 ≡ load_body []

  fine : FineBook x.book
  fine = book-fine s x.book x.end x.is

  pub left-start : Left rows₀ w₀ code₀ from 0 0
  unfolding compile
  left-start = record {
    funcs = x.book.funcs;
    is = rw (x.start, ← zero-add (length (bytes (types_recs types)))) (skipped s 0 (bytes (types_recs types)) (bytes (funcs_recs x.book.funcs)) (book-bytes s x.book x.end x.is ∙ bytes-append (types_recs types) (funcs_recs x.book.funcs)));
    fine = fine-all types arities x.book.funcs fine.funcs;
    wrote = progress_start code₀ 0 (emit (flat (of_funcs types x.book.funcs 0)));
    before = [];
    starts = refl;
    passed = refl;
    count = zero-add (length x.book.funcs);
    noted = λ g h. absurd (omega arith);
    long = refl;
    behind = λ i h. refl;
    rows_long = x.long;
    empty = x.empty;
  }

  module _ {rows w code : List ℕ} {at out f : ℕ} (d : Left rows w code at out f) where
    pub left_end : length s ≤ at → FuncsDone x w code
    left_end h = go d.funcs d.is d.wrote d.count
      where
        nothing : emit (flat (of_funcs types [] out)) ≡ []
        nothing = unfold of_funcs flat emit in refl

        go : (fs : List Func) → drop at s ≡ bytes (funcs_recs fs) → Progress code₀ code 0 out (emit (flat (of_funcs types fs out))) (compile x.book).code → f + length fs ≡ length x.book.funcs → FuncsDone x w code
        go [] p q r = record { is = (progress-stop q nothing).is; long = d.long; starts = λ g l. d.noted g (omega arith); behind = d.behind }
        go (g ∷ fs) p q r = absurd (omega (arith, ap length (sym p ∙ drop_of_length-le s {i = at} h)))

    -- the next function
    pub record Turn (a : ℕ) : Type 0 where
      pub inside : at + 2 ≤ length s
      pub starting : (f < 256) × (out ≤ 262144) × (512 ≤ length w)
      pub grows : ((255 < 256) × (0 + a ≤ 64)) × (((255 < 0) ⊎ (◌≡◌ {A = ℕ} 255 255)) × (get_or rows (9 * 255) 0 < 8))
      pub tree : (part rows₁ : List ℕ) → part ≡ drop (at + 2) s → Grown rows rows₁ 255 0 a → TreeHere part lore rows₁ a 0 out code
      pub inside_too : (part rows₁ code₂ : List ℕ) (p : part ≡ drop (at + 2) s) (g : Grown rows rows₁ 255 0 a) (e : Ends) → TreeDone (tree part rows₁ p g) code₂ e → at + 2 + e.at ≤ length s
      pub next : (part rows₁ rows₂ w₁ code₂ : List ℕ) (p : part ≡ drop (at + 2) s) (g : Grown rows rows₁ 255 0 a) (e : Ends) → TreeDone (tree part rows₁ p g) code₂ e → Keeps a rows₁ rows₂ → Started w w₁ f out → Left rows₂ w₁ code₂ (at + 2 + e.at) e.out (f + 1)

    module _ (g : Func) (fs : List Func) (p : drop at s ≡ bytes (funcs_recs (g ∷ fs))) (fine-are : FineAll types arities (g ∷ fs)) (wrote : Progress code₀ code 0 out (emit (flat (of_funcs types (g ∷ fs) out))) (compile x.book).code)
        (starts : (compile x.book).starts ≡ d.before ++ offsets out (of_funcs types (g ∷ fs) out)) (count : f + suc (length fs) ≡ length x.book.funcs) where
      stands : drop (at + 2) s ≡ bytes (tree_recs g.tree) ++ bytes (funcs_recs fs)
      stands = (two-are s at 3 g.arity (bytes (tree_recs g.tree) ++ bytes (funcs_recs fs)) (p ∙ rw (bytes-append (tree_recs g.tree) (funcs_recs fs)))).rest

      inside : at + 2 ≤ length s
      inside = (two-are s at 3 g.arity (bytes (tree_recs g.tree) ++ bytes (funcs_recs fs)) (p ∙ rw (bytes-append (tree_recs g.tree) (funcs_recs fs)))).inside

      flat-is : emit (flat (of_funcs types (g ∷ fs) out)) ≡ emit (block g out) ++ emit (flat (of_funcs types fs (out + length (emit (block g out)))))
      unfolding of_funcs flat
      flat-is = emit-append (block g out) (flat (of_funcs types fs (out + length (emit (block g out)))))

      offsets_are : offsets out (of_funcs types (g ∷ fs) out) ≡ out ∷ offsets (out + length (emit (block g out))) (of_funcs types fs (out + length (emit (block g out))))
      unfolding of_funcs offsets
      offsets_are = refl

      room : out + length (emit (flat (of_funcs types (g ∷ fs) out))) ≤ length code
      room = progress-room wrote (omega (arith, x.fits))

      low : out ≤ 262144
      low = let h = ap length wrote.all in omega (arith, wrote.next, length-append wrote.written (emit (flat (of_funcs types (g ∷ fs) out))), x.small)

      empty-first : get_or rows (9 * 255) 0 < 8
      empty-first = let y : get_or rows 2295 0 ≡ 0 = sym (row_at rows 255 0 (omega arith)) ∙ ap (λ (l : List ℕ). get_or l 0 0) d.empty in omega arith

      module _ (part rows₁ : List ℕ) (q : part ≡ drop (at + 2) s) (G : Grown rows rows₁ 255 0 g.arity) where
        no_rows : Rows rows []
        no_rows = record { long = d.rows_long; few = omega arith; are = λ i h. absurd (omega arith); short = λ i. omega arith }

        abbrev tree-here : TreeHere part lore rows₁ g.arity 0 out code
        tree-here = record {
          types = types;
          funcs = arities;
          told = x.told;
          slots = replicate g.arity 1;
          pos = map (λ i. i ∷ []) (up_from 1 g.arity);
          match = arguments-match g.arity;
          are = rows_grown rows rows₁ [] 255 g.arity [] no_rows G d.empty (omega arith) (omega (arith, fine-are.0.0));
          many = steps-long [] 1 g.arity;
          tree = g.tree;
          rest = bytes (funcs_recs fs);
          is = q ∙ stands;
          fine = fine-are.0.1;
          fits = omega (arith, room, ap length flat-is, length-append (emit (block g out)) (emit (flat (of_funcs types fs (out + length (emit (block g out)))))));
        }

        module _ (code₂ : List ℕ) (e : Ends) (D : TreeDone tree-here code₂ e) where
          past : at + 2 + e.at ≤ length s
          past = let h : e.at ≡ 0 + length (bytes (tree_recs g.tree)) = D.at in omega (arith, ap length stands, length-append (bytes (tree_recs g.tree)) (bytes (funcs_recs fs)), length-drop (at + 2) s, inside)

          next-left : (rows₂ w₁ : List ℕ) → Keeps g.arity rows₁ rows₂ → Started w w₁ f out → Left rows₂ w₁ code₂ (at + 2 + e.at) e.out (f + 1)
          next-left rows₂ w₁ K S =
              let h : e.at ≡ length (bytes (tree_recs g.tree)) = D.at ∙ zero-add (length (bytes (tree_recs g.tree))) in
              let k : e.out ≡ out + length (emit (block g out)) = D.out in
              let E : Emits code code₂ out e.out (emit (block g out)) = record { is = D.is; next = D.out } in
              let T : (compile x.book).starts ≡ (d.before ++ out ∷ []) ++ offsets e.out (of_funcs types fs e.out) =
              starts ∙ rw (offsets_are, k) (sym (append_assoc d.before (out ∷ []) (offsets (out + length (emit (block g out))) (of_funcs types fs (out + length (emit (block g out))))))) in
              record {
                funcs = fs;
                is = rw h (skipped s (at + 2) (bytes (tree_recs g.tree)) (bytes (funcs_recs fs)) stands);
                fine = fine-are.1;
                wrote = progress_step wrote (emit (flat (of_funcs types fs e.out))) E (flat-is ∙ rw k);
                before = d.before ++ out ∷ [];
                starts = T;
                passed = length-append d.before (out ∷ []) ∙ rw d.passed;
                count = omega (arith, count);
                noted = λ i l. noted-at i (eqb i f) refl l;
                long = S.long ∙ d.long;
                behind = λ i l. S.behind i l ∙ d.behind i l;
                rows_long = K.long ∙ G.long ∙ d.rows_long;
                empty = K.empty ∙ G.same 255 (omega arith) (inr (omega (arith, fine-are.0.0))) ∙ d.empty;
              }
            where
              noted-at : (i : ℕ) (b : Bool) → eqb i f ≡ b → i < f + 1 → start_at w₁ i ≡ get_or (compile x.book).starts i 0
              noted-at i true z l =
                  let u = eqb-true i f z in
                  rw u (S.is ∙ sym (ap (λ (l : List ℕ). get_or l f 0) (starts ∙ ap (λ (l : List ℕ). d.before ++ l) offsets_are) ∙ get_or_at d.before out (offsets (out + length (emit (block g out))) (of_funcs types fs (out + length (emit (block g out))))) 0 f d.passed))
              noted-at i false z l = let u = eqb-false i f z in S.same i u ∙ d.noted i (apart i f (omega arith) u)

      made : Turn g.arity
      made = record {
        inside = inside;
        starting = (omega (arith, count, fine.few), low, omega (arith, d.long, x.wide));
        grows = ((omega arith, omega (arith, fine-are.0.0)), (inr refl, empty-first));
        tree = λ part rows₁ q G. tree-here part rows₁ q G;
        inside_too = λ part rows₁ code₂ q G e D. past part rows₁ q G code₂ e D;
        next = λ part rows₁ rows₂ w₁ code₂ q G e D K S. next-left part rows₁ q G code₂ e D rows₂ w₁ K S;
      }

    pub left-turns : (a : ℕ) → a ≡ get_or s (at + 1) 0 → at < length s → Turn a
    left-turns a q h = go d.funcs d.is d.fine d.wrote d.starts d.count
      where
        go : (fs : List Func) → drop at s ≡ bytes (funcs_recs fs) → FineAll types arities fs → Progress code₀ code 0 out (emit (flat (of_funcs types fs out))) (compile x.book).code
            → (compile x.book).starts ≡ d.before ++ offsets out (of_funcs types fs out) → f + length fs ≡ length x.book.funcs → Turn a
        go [] p u v r c = absurd (omega (arith, ap length p, length-drop at s))
        go (g ∷ fs) p u v r c =
            let two = two-are s at 3 g.arity (bytes (tree_recs g.tree) ++ bytes (funcs_recs fs)) (p ∙ rw (bytes-append (tree_recs g.tree) (funcs_recs fs))) in
            subst Turn (sym (q ∙ two.second)) (made g fs p u v r c)
