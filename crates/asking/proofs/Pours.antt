-- Laws of what is laid down: a built graph at the first numbers is itself.
-- Here, in order: numbers in a row; a graph laid down at them; handles of a built graph; the computation laid down.
-- Not here: the question's computation (Answers).
-- Assumes nothing.
use Prim.Native.Nat.{ℕ, zero, suc, ◌+◌, ◌-◌, ◌≤◌, ◌<◌}
use native.Mathlib.Omega.{arith}
use native.Mathlib.Numerals.{add-one}
use mathlib.Core.Path.{◌≡◌, refl, ap, sym, ◌∙◌}
use mathlib.Core.Bool.{true, false}
use mathlib.Core.List.{List, [], ◌∷◌, ◌++◌, map, append_assoc}
use mathlib.Core.Option.{none, some}
use lib.ListN.{length, get_or, take, drop, set, replicate, length-append, length-set, take-append-drop}
use lib.Seq.{take-suc-set, drop-set-lt}
use lib.Dec.{leb}
use borrow.Author.Tests.{le-leb, lt-leb}
use Rattle.book.specs.Syntax.{Term, Terms, app, slot, fresh, done, arg}
use Rattle.book.specs.Accepted.{FineTerm, FineTerms}
use Rattle.heap.specs.Graph.{Graph, Node, cell, var, fwd, Comp}
use Rattle.heap.specs.Build.{up_from, build, build_all}
use Rattle.heap.specs.Store.{Store, moved, laid}
use Rattle.heap.proofs.Laws.Numbers.{up_from-at, up_from-length}
use Rattle.store.specs.Regions.{graph_of, store_of}
use Rattle.store.proofs.Laws.{length-graph}
use Rattle.standing.specs.Shared.{pour}
use Rattle.asking.specs.Question.{over}

take-up : (n m a : ℕ) → n ≤ m → take n (up_from a m) ≡ up_from a n
unfolding up_from
take-up zero m a h = refl
take-up (suc n) zero a h = absurd (omega arith)
take-up (suc n) (suc m) a h = ap (λ (l : List ℕ). a ∷ l) (take-up n m (suc a) (omega arith))

drop-up : (n m a : ℕ) → n ≤ m → drop n (up_from a m) ≡ up_from (a + n) (m - n)
unfolding up_from
drop-up zero m a h = let e : a + zero ≡ a = omega arith in let f : m - zero ≡ m = omega arith in rw (e, f)
drop-up (suc n) zero a h = absurd (omega arith)
drop-up (suc n) (suc m) a h = let e : a + suc n ≡ suc a + n = omega arith in let f : suc m - suc n ≡ m - n = omega arith in rw (e, f) (drop-up n m (suc a) (omega arith))

up_more : (a n : ℕ) → up_from a (suc n) ≡ up_from a n ++ (a + n) ∷ []
unfolding up_from
up_more a zero = let e : a + zero ≡ a = omega arith in rw e
up_more a (suc n) = let e : a + suc n ≡ suc a + n = omega arith in rw e (ap (λ (l : List ℕ). a ∷ l) (up_more (suc a) n))

-- handles of a question: its value and the variables so far
pub first-none : (v : ℕ) → v ∷ [] ≡ v ∷ up_from 0 0
unfolding up_from
first-none v = refl

pub first_step : (v j : ℕ) (l l' : List ℕ) → length l ≡ 9 → j < 8 → take (j + 1) l ≡ v ∷ up_from 0 j → l' ≡ set l (j + 1) j → take (j + 1 + 1) l' ≡ v ∷ up_from 0 (j + 1)
first_step v j l l' h h' e f =
    let a : 0 + j ≡ j = omega arith in
    rw (f, add-one (j + 1), take-suc-set l (j + 1) j (omega arith), e, add-one j, up_more 0 j, a)

-- a graph laid down at numbers in a row
laid-row : (names : List ℕ) (xs : Graph) (a : ℕ) (s : Graph) → a + length xs ≤ length s → laid names xs (up_from a (length xs)) s ≡ take a s ++ (map (moved names) xs ++ drop (a + length xs) s)
unfolding laid up_from
laid-row names [] a s h = let e : a + 0 ≡ a = omega arith in rw e (sym (take-append-drop a s))
laid-row names (x ∷ xs) a s h =
    let y : Node = moved names x in
    let e : a + suc (length xs) ≡ suc a + length xs = omega arith in
    laid-row names xs (suc a) (set s a y) (omega (arith, length-set s a y))
    ∙ rw (take-suc-set s a y (omega arith), drop-set-lt (suc a + length xs) s a y (omega arith), append_assoc (take a s) (y ∷ []) (map (moved names) xs ++ drop (suc a + length xs) s), e)

-- numbers that are all below a bound; nodes whose arguments are, and that are no forwards
abbrev pub Below : ℕ → List ℕ → Type 0
Below N [] = Unit
Below N (h ∷ hs) = (h < N) × Below N hs

abbrev pub LowNode : ℕ → Node → Type 0
LowNode N (cell y hs) = Below N hs
LowNode N var = Unit
LowNode N (fwd k) = ⊥

abbrev pub Low : ℕ → Graph → Type 0
Low N [] = Unit
Low N (x ∷ g) = LowNode N x × Low N g

below_more : (M N : ℕ) (hs : List ℕ) → M ≤ N → Below M hs → Below N hs
below_more M N [] h b = tt
below_more M N (x ∷ hs) h (b, bs) = (omega arith, below_more M N hs h bs)

pub below_up : (N n a : ℕ) → a + n ≤ N → Below N (up_from a n)
unfolding up_from
below_up N zero a h = tt
below_up N (suc n) a h = (omega arith, below_up N n (suc a) (omega arith))

low-append : (N : ℕ) (g g' : Graph) → Low N g → Low N g' → Low N (g ++ g')
low-append N [] g' l l' = l'
low-append N (x ∷ g) g' (l, ls) l' = (l, low-append N g g' ls l')

pub low-vars : (N n : ℕ) → Low N (replicate n var)
low-vars N zero = tt
low-vars N (suc n) = (tt, low-vars N n)

-- they keep their names
names_same : (N : ℕ) (hs : List ℕ) → Below N hs → map (λ h. get_or (up_from 0 N) h 0) hs ≡ hs
names_same N [] b = refl
names_same N (h ∷ hs) (b, bs) = λ i. (up_from-at N 0 h b ∙ zero_more h) i ∷ names_same N hs bs i
  where
    zero_more : (h : ℕ) → 0 + h ≡ h
    zero_more h = omega arith

moved_same : (N : ℕ) (x : Node) → LowNode N x → moved (up_from 0 N) x ≡ x
unfolding moved
moved_same N (cell y hs) l = ap (cell y) (names_same N hs l)
moved_same N var l = refl
moved_same N (fwd k) l = absurd l

all_same : (N : ℕ) (g : Graph) → Low N g → map (moved (up_from 0 N)) g ≡ g
all_same N [] l = refl
all_same N (x ∷ g) (l, ls) = λ i. moved_same N x l i ∷ all_same N g ls i

-- what building does: the graph grows, the handle is in it, and nodes stay low
pub record Grows (g g' : Graph) : Type 0 where
  pub long : length g ≤ length g'
  pub low : (N : ℕ) → length g' ≤ N → Low N g → Low N g'

module _ (cons funcs : List ℕ) (vars : ℕ) where
  mutual
    unfolding build build_all

    pub build-grows : (t : Term) → FineTerm cons funcs 0 vars t → (g : Graph) → vars ≤ length g → Grows g (build t [] (up_from 0 vars) g).0 × ((build t [] (up_from 0 vars) g).1 < length (build t [] (up_from 0 vars) g).0)
    build-grows (app y ts) f g h =
        let i = builds-grow ts f.2 g h in
        let p = build_all ts [] (up_from 0 vars) g in
        let n : length (p.0 ++ cell y p.1 ∷ []) ≡ length p.0 + 1 = length-append p.0 (cell y p.1 ∷ []) in (
          record {
            long = omega (arith, i.0.long);
            low = λ N l w. low-append N p.0 (cell y p.1 ∷ []) (i.0.low N (omega arith) w) (below_more (length p.0) N p.1 (omega arith) i.1, tt);
          },
          omega arith,
        )
    build-grows (slot i) f g h = absurd (omega arith)
    build-grows (fresh i) f g h = let e = up_from-at vars 0 i f in (record { long = omega arith; low = λ N l w. w }, omega arith)

    builds-grow : (ts : Terms) → FineTerms cons funcs 0 vars ts → (g : Graph) → vars ≤ length g → Grows g (build_all ts [] (up_from 0 vars) g).0 × Below (length (build_all ts [] (up_from 0 vars) g).0) (build_all ts [] (up_from 0 vars) g).1
    builds-grow done f g h = (record { long = omega arith; low = λ N l w. w }, tt)
    builds-grow (arg t ts) f g h =
        let i = builds-grow ts f.1 g h in
        let p = build_all ts [] (up_from 0 vars) g in
        let j = build-grows t f.0 p.0 (omega (arith, i.0.long)) in (
          record { long = omega (arith, i.0.long, j.0.long); low = λ N l w. j.0.low N l (i.0.low N (omega (arith, j.0.long)) w) },
          (j.1, below_more (length p.0) (length (build t [] (up_from 0 vars) p.0).0) p.1 j.0.long i.1),
        )

-- a computation laid down at the first free numbers
pour-takes : (C : Comp) (μ : Store) → leb (length C.graph) (length μ.free) ≡ true → (ks ms : List ℕ) → take (length C.graph) μ.free ≡ ks → drop (length C.graph) μ.free ≡ ms
    → pour C μ ≡ some (record { nodes = laid ks C.graph ks μ.nodes; free = ms }, record { value = get_or ks C.value 0; askers = map (λ h. get_or ks h 0) C.askers; stack = [] })
unfolding pour
pour-takes C μ t ks ms e f = rw (t, pour, e, f)

free-is : (L : ℕ) (s : List ℕ) → (store_of L 0 s).free ≡ up_from 0 L
unfolding store_of
free-is L s = let e : L - 0 ≡ L = omega arith in rw e

nodes-are : (L : ℕ) (s : List ℕ) → (store_of L 0 s).nodes ≡ graph_of L s
unfolding store_of
nodes-are L s = refl

pub pour-fits : (C : Comp) (L : ℕ) (s : List ℕ) → length C.graph ≤ L → Low (length C.graph) C.graph → C.value < length C.graph → Below (length C.graph) C.askers
    → pour C (store_of L 0 s) ≡ some (record { nodes = over C.graph (graph_of L s); free = up_from (length C.graph) (L - length C.graph) }, record { value = C.value; askers = C.askers; stack = [] })
unfolding over
pour-fits C L s h l v a =
    let n : ℕ = length C.graph in
    let free = free-is L s in
    let z : 0 + n ≡ n = omega arith in
    let y : 0 + C.value ≡ C.value = omega arith in
    let t : leb n (length (store_of L 0 s).free) ≡ true = rw free (le-leb n (length (up_from 0 L)) (omega (arith, up_from-length L 0))) in
    let e : take n (store_of L 0 s).free ≡ up_from 0 n = ap (take n) free ∙ take-up n L 0 h in
    let f : drop n (store_of L 0 s).free ≡ up_from n (L - n) = ap (drop n) free ∙ drop-up n L 0 h ∙ ap (λ (i : ℕ). up_from i (L - n)) z in
    let g : laid (up_from 0 n) C.graph (up_from 0 n) (store_of L 0 s).nodes ≡ C.graph ++ drop n (graph_of L s) =
    ap (laid (up_from 0 n) C.graph (up_from 0 n)) (nodes-are L s) ∙ laid-row (up_from 0 n) C.graph 0 (graph_of L s) (omega (arith, length-graph L s)) ∙ rw (all_same n C.graph l, z) in
    let b : get_or (up_from 0 n) C.value 0 ≡ C.value = up_from-at n 0 C.value v ∙ y in
    let c : map (λ h. get_or (up_from 0 n) h 0) C.askers ≡ C.askers = names_same n C.askers a in
    pour-takes C (store_of L 0 s) t (up_from 0 n) (up_from n (L - n)) e f
    ∙ (λ i. some (record { nodes = g i; free = up_from n (L - n) }, record { value = b i; askers = c i; stack = [] }))

pub pour-full : (C : Comp) (L : ℕ) (s : List ℕ) → L < length C.graph → pour C (store_of L 0 s) ≡ none
unfolding pour store_of
pour-full C L s h =
    let e : L - 0 ≡ L = omega arith in
    let t : leb (length C.graph) (length (up_from 0 L)) ≡ false = lt-leb (length C.graph) (length (up_from 0 L)) (omega (arith, up_from-length L 0)) in
    rw (e, t, pour)
