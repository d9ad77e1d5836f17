-- Running the code of a call does what walking its tree does.
-- Assumes nothing.
use Prim.Native.Nat.{ℕ, zero, suc, ◌+◌, ◌-◌, ◌≤◌, ◌<◌, ◌^◌}
use native.Mathlib.Nat.{le_of_suc-le-suc, not-suc-le-zero}
use native.Mathlib.Numerals.{one-add}
use native.Mathlib.Omega.{arith}
use mathlib.Core.Path.{◌≡◌, sym, ap, ◌∙◌}
use mathlib.Core.List.{List, [], ◌∷◌, append-nil, map}
use lib.ListN.{length, get_or, drop, length-map}
use Rattle.heap.proofs.Laws.Numbers.{up_from-at, up_from-length}
use Rattle.book.specs.Syntax.{fun, Func, arity, Book}
use Rattle.heap.specs.Graph.{Graph, Node, cell, look, follow, args}
use Rattle.heap.specs.Build.{up_from}
use Rattle.heap.proofs.Laws.Good.{Good}
use Rattle.engine.specs.Plain.{walk, walk_call, no_func}
use Rattle.engine.specs.Code.{Instr, emit}
use Rattle.engine.specs.Compile.{Program, Positions, of_tree, of_funcs, offsets, flat, compile}
use Rattle.engine.specs.Machine.{arity_of, st, own, exec, on_top}
use mathlib.Core.Option.{none}
use Rattle.agreement.proofs.Fine.{Takes, FineTree}
use Rattle.agreement.proofs.Decoding.{emit-append}
use Rattle.agreement.proofs.Rights.{Sees, get-some}
use Rattle.agreement.proofs.Places.{At, at_front, at_back, emit-length}
use Rattle.agreement.proofs.Trees.{stop_of, tree-runs, one-step, look-grown, look-inside, get_d-map-in}

-- the positions of a function's arguments
abbrev pub arg_positions : ℕ → Positions
arg_positions n = map (λ i. i ∷ []) (up_from 1 n)

-- what the agreement needs of a book
pub record FineBook (book : Book) : Type 0 where
  pub trees : (f : ℕ) → f < length book.funcs → FineTree (compile book) (arg_positions (get_or book.funcs f no_func).arity) (get_or book.funcs f no_func).tree
  pub small : length (compile book).code < 2 ^ 32

-- where a function's code stands
funcs_at : (types : List (List ℕ)) (code : List ℕ) (fs : List Func) (at₀ : ℕ) → At code at₀ (emit (flat (of_funcs types fs at₀))) → (f : ℕ) → f < length fs
    → At code (get_or (offsets at₀ (of_funcs types fs at₀)) f 0) (emit (of_tree types (get_or fs f no_func).tree (arg_positions (get_or fs f no_func).arity) (get_or (offsets at₀ (of_funcs types fs at₀)) f 0)))
unfolding of_funcs offsets flat
funcs_at types code [] at₀ A f p = absurd (not-suc-le-zero p)
funcs_at types code (x ∷ fs) at₀ A zero p =
    let b = of_tree types x.tree (arg_positions x.arity) at₀ in
    at_front code at₀ (emit b) (emit (flat (of_funcs types fs (at₀ + length (emit b))))) (rw (emit-append b (flat (of_funcs types fs (at₀ + length (emit b))))) at A)
funcs_at types code (x ∷ fs) at₀ A (suc f) p =
    let b = of_tree types x.tree (arg_positions x.arity) at₀ in
    funcs_at types code fs (at₀ + length (emit b))
    (at_back code at₀ (emit b) (emit (flat (of_funcs types fs (at₀ + length (emit b))))) (rw (emit-append b (flat (of_funcs types fs (at₀ + length (emit b))))) at A)) f (le_of_suc-le-suc p)

pub arg-at : (n q : ℕ) → q < n → get_or (arg_positions n) q [] ≡ suc q ∷ []
arg-at n q p = get_d-map-in (λ i. i ∷ []) (up_from 1 n) q 0 [] (rw (up_from-length n 1) p) ∙ ap (λ (k : ℕ). k ∷ []) (up_from-at n 1 q p ∙ one-add q)

pub args-length : (n : ℕ) → length (arg_positions n) ≡ n
args-length n = length-map (up_from 1 n) (λ i. i ∷ []) ∙ up_from-length n 1

top-fun : (m : Program) (g : Graph) (N : List ℕ) (x : Node) (f : ℕ) (hs : List ℕ) → x ≡ cell (fun f) hs → on_top (λ x. x) own m x N g ≡ exec (λ x. x) own (length m.code) m (st (drop (get_or m.starts f 0) m.code) N none [] [] g)
unfolding on_top
top-fun m g N x f hs e = rw e

pub walk_call-fun : (book : Book) (g : Graph) (h f : ℕ) (hs : List ℕ) → look g h ≡ cell (fun f) hs → walk_call book g h ≡ walk (get_or book.funcs f no_func).tree book.types g hs
unfolding walk_call
walk_call-fun book g h f hs e = rw (e, walk_call)

module _ (book : Book) (B : FineBook book) (g : Graph) (G : Good (Takes (compile book)) g) where
  code_at : (f : ℕ) → f < length book.funcs → At (compile book).code (get_or (compile book).starts f 0)
      (emit (of_tree book.types (get_or book.funcs f no_func).tree (arg_positions (get_or book.funcs f no_func).arity) (get_or (compile book).starts f 0)))
  unfolding compile
  code_at f p = funcs_at book.types (compile book).code book.funcs 0 (record { rest = []; here = sym (append-nil _); fits = omega arith }) f p

  arity-of : (f : ℕ) → f < length book.funcs → arity_of (compile book) (fun f) ≡ (get_or book.funcs f no_func).arity
  unfolding arity_of compile arity
  arity-of f p = get_d-map-in arity book.funcs f no_func 0 p

  pub known-call : (h f : ℕ) (hs : List ℕ) → look g h ≡ cell (fun f) hs → f < length book.funcs
  unfolding look compile
  known-call h f hs e = rw (length-map book.funcs arity) at (G.fine (follow g h) (fun f) hs e).known

  pub call-arity : (h f : ℕ) (hs : List ℕ) → look g h ≡ cell (fun f) hs → length hs ≡ (get_or book.funcs f no_func).arity
  unfolding look
  call-arity h f hs e = (G.fine (follow g h) (fun f) hs e).exact ∙ arity-of f (known-call h f hs e)

  sees-call : (h f : ℕ) (hs N : List ℕ) → h < length g → look g h ≡ cell (fun f) hs → Sees (arg_positions (get_or book.funcs f no_func).arity) hs h g
  unfolding args
  sees-call h f hs N i e =
      let n = (get_or book.funcs f no_func).arity in
      let a : length hs ≡ n = call-arity h f hs e in
      record {
        same = a ∙ sym (args-length n);
        see = λ g' w q u. (let z : suc q - 1 ≡ q = omega arith in rw (arg-at n q (rw (args-length n) at u)) (one-step g' h q (get_or hs q 0) (rw (look-grown G w h i, e, z) (get-some hs q (rw a (rw (args-length n) at u))))));
        short = λ q u. rw (arg-at n q (rw (args-length n) at u)) (omega arith);
        inside = λ q u. look-inside (compile book) g G h N h (fun f) hs q i e (rw a (rw (args-length n) at u));
      }

  fuel : (at₀ : ℕ) (is : List Instr) → At (compile book).code at₀ (emit is) → length is ≤ length (compile book).code
  fuel at₀ is A = let h = A.fits in let k = emit-length is in omega arith

  -- the code of a call ends as the walk of its tree, with every bound from the code's length on
  pub code_runs : (n : ℕ) → length (compile book).code ≤ n → (h f : ℕ) (hs N : List ℕ) → h < length g → look g h ≡ cell (fun f) hs
      → exec (λ x. x) own n (compile book) (st (drop (get_or (compile book).starts f 0) (compile book).code) (h ∷ N) none [] [] g) ≡ stop_of (compile book) g h N (walk_call book g h)
  unfolding compile
  code_runs n q h f hs N i e =
      let p = known-call h f hs e in
      let t = (get_or book.funcs f no_func).tree in
      let pos = arg_positions (get_or book.funcs f no_func).arity in
      let o = get_or (compile book).starts f 0 in
      let A = code_at f p in
      let b = fuel o (of_tree book.types t pos o) A in
      rw (walk_call-fun book g h f hs e) (tree-runs (compile book) g G h N B.small t pos o A (B.trees f p) hs (sees-call h f hs N i e) none [] n (omega arith))

  -- and so on top of the stack
  pub call-runs : (h f : ℕ) (hs N : List ℕ) → h < length g → look g h ≡ cell (fun f) hs → on_top (λ x. x) own (compile book) (look g h) (h ∷ N) g ≡ stop_of (compile book) g h N (walk_call book g h)
  call-runs h f hs N i e = top-fun (compile book) g (h ∷ N) (look g h) f hs e ∙ code_runs (length (compile book).code) (omega arith) h f hs N i e
