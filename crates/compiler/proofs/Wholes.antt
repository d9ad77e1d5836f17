-- A whole book compiled: what its parts give together, and what the compiler answers.
use Prim.Native.Nat.{ℕ, ◌+◌, ◌*◌, ◌≤◌, ◌<◌}
use native.Mathlib.Nat.{zero-add}
use native.Mathlib.Omega.{arith}
use mathlib.Core.Path.{◌≡◌, refl, ap, sym, ◌∙◌, subst}
use mathlib.Core.Logic.{inl, inr}
use mathlib.Core.List.{List, [], map}
use lib.ListN.{length, get_or, length-map}
use lib.Seq.{sets-eq}
use Rattle.std.specs.Prelude.{Result, Ok, Err}
use Rattle.mem.specs.Words.{words}
use Rattle.book.specs.Syntax.{arity, con_arities}
use Rattle.book.specs.Accepted.{FineBook}
use Rattle.book.specs.declared.Fault.{Fault}
use Rattle.book.proofs.Acceptance.{book-fine}
use Rattle.engine.specs.Compile.{compile}
use Rattle.compiler.specs.declared.Lore.{Lore}
use Rattle.compiler.specs.Rows.{row, load_body}
use Rattle.compiler.specs.Here.{start_at, Surveyed, FuncsHere, FuncsDone}
use Rattle.compiler.specs.Tables.{HomeOf, FunsNoted, ConsNoted, ConsKnown, front_at, BookKnown, BookDone, SurveyIs, CompiledIs}
use Rattle.compiler.specs.declared.Refused.TheVariants as refused
use Rattle.compiler.proofs.Filling.{front-all, home-is}

module _ {s : List ℕ} {lore : Lore} (x : BookKnown s lore) where
  fine : FineBook x.book
  fine = book-fine s x.book x.end x.is

  pub few : (lore.sizes.cons ≤ 256) × (lore.sizes.funcs ≤ 256) × (lore.sizes.types ≤ 64)
  few = (omega (arith, x.cons, fine.types.cons), omega (arith, x.funs, fine.few), omega (arith, x.types, fine.types.few))

  pub cons-known : ConsKnown s lore.sizes.cons
  cons-known = record {
    front = record { stand = x.front.stand; many = refl };
    cons = ap (λ (ts : List (List ℕ)). length (con_arities ts)) x.types_are ∙ x.cons;
    few = rw x.types_are fine.types.few;
    each = rw x.types_are (λ t h. (fine.types.each t h).1);
  }

  abbrev pub funcs-here : (rows w code : List ℕ) (from : ℕ) → length rows ≡ 2304 → row rows 255 ≡ load_body [] → 1536 ≤ length w → from ≡ front_at lore lore.sizes.types → length (compile x.book).code ≤ length code → length (compile x.book).code ≤ 262144 → FuncsHere s lore rows w from code
  funcs-here rows w code from a b c d e f = record {
    book = x.book;
    end = x.end;
    is = x.is;
    told = x.told;
    start = d ∙ front-all x.book.types (map arity x.book.funcs) lore lore.sizes.types x.told x.types;
    long = a;
    empty = b;
    wide = omega arith;
    fits = e;
    small = f;
  }

  abbrev pub surveyed : Surveyed s lore
  surveyed = record { book = x.book; end = x.end; is = x.is; told = x.told }

  module _ (rows w w₁ w₂ w₃ code code' : List ℕ) (from : ℕ) (a : length rows ≡ 2304) (b : row rows 255 ≡ load_body []) (c : 1536 ≤ length w) (d : from ≡ front_at lore lore.sizes.types) (e : length (compile x.book).code ≤ length code)
      (f : length (compile x.book).code ≤ 262144) (p : FuncsDone (funcs-here rows w code from a b c d e f) w₁ code') (q : FunsNoted lore w₁ w₂ lore.sizes.funcs) (r : ConsNoted s lore w₂ w₃ lore.sizes.cons) where
    starts-kept : (g : ℕ) → g < lore.sizes.funcs → start_at w₃ g ≡ start_at w₁ g
    starts-kept g h =
        let k = few.1 in
        let u : get_or w₃ (2 * g) 0 ≡ get_or w₁ (2 * g) 0 = r.same (2 * g) (inl (omega arith)) ∙ q.same (2 * g) (inl (omega arith)) in
        let v : get_or w₃ (2 * g + 1) 0 ≡ get_or w₁ (2 * g + 1) 0 = r.same (2 * g + 1) (inl (omega arith)) ∙ q.same (2 * g + 1) (inl (omega arith)) in
        rw (u, v)

    many : length (map arity x.book.funcs) ≡ lore.sizes.funcs
    many = length-map x.book.funcs arity ∙ x.funs

    pub book-done : BookDone x w w₃ code code'
    unfolding compile
    book-done = record {
      is = p.is;
      tables = record {
        starts = λ g h. starts-kept g (omega (arith, many)) ∙ p.starts g (omega (arith, many, x.funs));
        funs = λ g h. r.same (512 + g) (inl (omega (arith, many, few.1))) ∙ q.are g (omega (arith, many)) ∙ x.told.fun_ars g h;
        cons = λ g h. r.are g (omega (arith, x.cons)) ∙ x.told.con_ars g h;
        homes = λ g h. home-is x.book.types g (get_or w₃ (1024 + g) 0) (get_or w₃ (1280 + g) 0) (subst (λ (ts : List (List ℕ)). HomeOf ts g (get_or w₃ (1024 + g) 0) (get_or w₃ (1280 + g) 0)) x.types_are (r.homes g (omega (arith, x.cons))));
      };
      behind = λ i h. r.same i (inr h) ∙ q.same i (inr (omega arith)) ∙ p.behind i (omega arith);
    }

pub known : (s : List ℕ) {lore : Lore} {r : Result Lore Fault} → SurveyIs s r → r ≡ Ok lore → BookKnown s lore
unfolding SurveyIs
known s b q = subst (SurveyIs s) q b

pub answer-fault : (s tables code : List ℕ) (room : ℕ) {r : Result Lore Fault} {f : Fault} → SurveyIs s r → r ≡ Err f → CompiledIs s room tables tables code code (Err (refused.Fault f))
unfolding SurveyIs CompiledIs
answer-fault s tables code room b q = (subst (SurveyIs s) q b, refl, refl)

pub answer-long : (s : List ℕ) (lore : Lore) (tables code : List ℕ) (room long : ℕ) (x : BookKnown s lore) → long ≡ length (compile x.book).code → room < long → CompiledIs s room tables tables code code (Err (refused.TooLong long))
unfolding CompiledIs
answer-long s lore tables code room long x q h = record { book = x.book; end = x.end; is = x.is; long = q; over = h; tables-kept = refl; code-kept = refl }

pub answer-fits : (s : List ℕ) (lore : Lore) (tables tables' code code' : List ℕ) (room long : ℕ) (x : BookKnown s lore) → long ≡ length (compile x.book).code → long ≤ room → room ≤ length code
    → BookDone x (words tables) (words tables') code code' → CompiledIs s room tables tables' code code' (Ok long)
unfolding CompiledIs
answer-fits s lore tables tables' code code' room long x q h l d = record {
  book = x.book;
  end = x.end;
  is = x.is;
  long = q;
  fits = h;
  stands =
      let e : 0 + length (compile x.book).code ≡ long = zero-add (length (compile x.book).code) ∙ sym q in
      d.is ∙ sets-eq (compile x.book).code code 0 (omega arith) ∙ rw e;
  filled = d.tables;
  behind = d.behind;
}
