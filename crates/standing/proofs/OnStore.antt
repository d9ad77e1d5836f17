-- The run on the store gives what the machine's definition gives, for all bytes, limits and lent memory, and any store to begin with.
-- Here, in order: a store to begin with; from a moment on; the first moment; a question asked; `on_store_lem`; and so what is read plainly from the book.
-- Assumes nothing.
use Prim.Native.Nat.{ℕ, zero, suc}
use native.Mathlib.Omega.{arith}
use mathlib.Core.Path.{◌≡◌, refl, ◌∙◌}
use mathlib.Core.Bool.{Bool, true, false, ◌&&◌}
use mathlib.Core.Option.{Option, none, some}
use mathlib.Core.List.Memᴰ
use mathlib.Core.List.{List, [], ◌∷◌, ◌++◌}
use lib.Dec.{leb}
use lib.ListN.{length}
use Rattle.book.specs.Syntax.{Book, Right}
use Rattle.book.specs.Record.{Got, got, fault}
use Rattle.book.specs.Reading.{read_book, read_question}
use Rattle.book.specs.Answers.{counts}
use Rattle.book.proofs.Acceptance.{question-fine}
use Rattle.heap.specs.Graph.{Graph, node}
use Rattle.heap.specs.Build.{up_from, start}
use Rattle.heap.specs.Store.{Store}
use Rattle.heap.proofs.Laws.Numbers.{up_from-length, up_from-mem, up_from-distinct}
use Rattle.heap.proofs.Laws.Built.{real-at, real-right}
use Rattle.heap.proofs.Laws.Copies.{Whole}
use Rattle.heap.proofs.Laws.Reach.{args-kids}
use Rattle.heap.proofs.Laws.Pour.{Solid}
use Rattle.engine.specs.Compile.{Program, compile}
use Rattle.engine.specs.Machine as Machine
use Rattle.engine.specs.Machine.{Held, Kept, from_start}
use Rattle.engine.specs.Run.{Limits, Lent, in_range, lent_fits, Answer, Moment, moment, Next, opening, step, run_from, ask, closed, checked, machine, plain}
use Rattle.agreement.proofs.Fine.{Takes, FineTerm}
use Rattle.agreement.proofs.Calls.{FineBook}
use Rattle.agreement.proofs.Accept.{question-of}
use Rattle.agreement.proofs.Runs.{start-whole, fine-book, agree}
use Rattle.standing.specs.Shared.{pour, StoreMoment, store_moment, StoreNext, store_step, store_run_from, store_ask, store_closed, on_store}
use Rattle.standing.specs.Stands.{empty, join, Ready}
use Rattle.standing.specs.Moments.{StandsFor, stands-for, StandsNext, both_end, both_go, StandsEnd, stands-end}
use Rattle.standing.proofs.Stands.{Poured, pour-stands, pour-none}
use Rattle.standing.proofs.Room.{room-ready, room_fits, room-short, room-start}
use Rattle.standing.proofs.Moments.{step-stands}

-- a store that no run has used: its numbers are taken upward from 0
pub ready-fresh : (l : Limits) (s : Graph) → length s ≡ l.nodes → Ready l (record { nodes = s; free = up_from 0 l.nodes })
ready-fresh l s e = record { room = up_from-length l.nodes 0; fits = λ x m. (let i = up_from-mem l.nodes 0 x m in omega arith); distinct = up_from-distinct l.nodes 0 }

module _ (book : Book) (B : FineBook book) (l : Limits) where
  abbrev m : Program
  m = compile book

  -- from moments that stand for one another: the same answer, at moments that stand for one another
  pub runs-stand : (n : ℕ) (x : Moment Kept) (y : StoreMoment) → StandsFor book B l x y → StandsEnd book B l (run_from (Machine.turn m) l n x) (store_run_from m l n y)
  unfolding run_from store_run_from
  runs-stand zero x y S = stands-end S
  runs-stand (suc n) x y S = go (runs-stand n) (step (Machine.turn m) l x) (store_step m l y) refl refl (step-stands book B l x y S)
    where
      go : ((x : Moment Kept) (y : StoreMoment) → StandsFor book B l x y → StandsEnd book B l (run_from (Machine.turn m) l n x) (store_run_from m l n y))
          → (u : Next Kept) (v : StoreNext) → step (Machine.turn m) l x ≡ u → store_step m l y ≡ v → StandsNext book B l u v → StandsEnd book B l (run_from (Machine.turn m) l (suc n) x) (store_run_from m l (suc n) y)
      go ih _ _ e f both_end = rw (e, f, run_from, store_run_from) (stands-end S)
      go ih _ _ e f (both_go {x = x'} {y = y'} S') = rw (e, f, run_from, store_run_from) (ih x' y' S')

  module _ (μ : Store) (R : Ready l μ) (q : Right) (f : FineTerm m 0 q.vars q.term) where
    W : Whole (Takes m) (start q)
    W = start-whole book B q f

    solid : Solid (start q).graph
    unfolding start
    solid = record {
      real = λ i p. real-at (start q).graph (real-right q [] [] tt) i p;
      under = λ i h p w. (W.good.kid i h p (args-kids W.good (node (start q).graph i) h w)).0;
    }

    pub question-poured : (μ' : Store) (c : Held) → pour (start q) μ ≡ some (μ', c) → Poured (start q) μ μ' c
    question-poured μ' c e = pour-stands (start q) solid W.value_in W.askers-in μ R.distinct R.fits μ' c e

    -- the first moment: the question's computation, laid down at the first free numbers
    pub opening-stands : (μ' : Store) (c : Held) → pour (start q) μ ≡ some (μ', c) → StandsFor book B l (opening from_start (start q)) (store_moment μ' (c ∷ []) (counts 0 (length (start q).graph) 1 0 0 0 0) [])
    unfolding opening from_start
    opening-stands μ' c e =
        let Z = question-poured μ' c e in
        stands-for (record { own = Z.stands.world.owned ++ []; pool = join Z.stands empty (λ x o w. Memᴰ.not-nil w) }) (record { whole = W; chain = tt }, tt) (room-start μ (start q) R.room Z.count)

    -- a question asked
    pub ask-stands : StandsEnd book B l (ask (Machine.turn m) l from_start q) (store_ask m l μ q)
    unfolding ask store_ask
    ask-stands = go (pour (start q) μ) refl
      where
        Goal : Type 0
        Goal = StandsEnd book B l (ask (Machine.turn m) l from_start q) (store_ask m l μ q)

        go : (o : Option (Store × Held)) → pour (start q) μ ≡ o → Goal
        go none e = rw (e, room-short (room-ready R) (length (start q).graph) (pour-none (start q) μ e), store_ask, ask) (stands-end (stands-for (record { own = []; pool = empty }) tt (room-ready R)))
        go (some p) e = rw (e, (room_fits (room-ready R) (length (start q).graph) p.0 (question-poured p.0 p.1 e).count).0, store_ask, ask) (runs-stand (suc l.budget) _ _ (opening-stands p.0 p.1 e))

  -- what stands for one another gives the same outcome
  pub closed-stands : (code : List ℕ) (x : Answer × Moment Kept) (y : Answer × StoreMoment) → StandsEnd book B l x y → store_closed code y ≡ closed code x
  unfolding store_closed closed
  closed-stands code (a, moment ks k out) (a', store_moment μ cs k' out') (stands-end (stands-for Q s R)) = refl

-- The run on the store is the machine's.
pub on_store_lem : (l : Limits) (μ : Store) → Ready l μ → (m : Lent) (b q : List ℕ) → on_store μ l m b q ≡ machine l m b q
unfolding on_store machine checked
on_store_lem l μ R m b q = on-range (in_range l && lent_fits l m) refl
  where
    Goal₁ : Type 0
    Goal₁ = on_store μ l m b q ≡ machine l m b q

    on-code : (book : Book) (e : ℕ) (r : Right) (d : ℕ) (c : Bool) → (in_range l && lent_fits l m) ≡ true → read_book b ≡ got book e → read_question book q ≡ got r d → leb (length (compile book).code) l.code ≡ c → Goal₁
    on-code book e r d false t u v w = rw (t, u, v, w, checked)
    on-code book e r d true t u v w =
        let B = fine-book l m b book e t u w in
        rw (t, u, v, w, checked) (closed-stands book B l (compile book).code _ _ (ask-stands book B l μ R r (question-of book r (question-fine book q r d v).1)))

    on-question : (book : Book) (e : ℕ) (x : Got Right) → (in_range l && lent_fits l m) ≡ true → read_book b ≡ got book e → read_question book q ≡ x → Goal₁
    on-question book e (fault s p) t u v = rw (t, u, v, checked)
    on-question book e (got r d) t u v = on-code book e r d (leb (length (compile book).code) l.code) t u v refl

    on-book : (x : Got Book) → (in_range l && lent_fits l m) ≡ true → read_book b ≡ x → Goal₁
    on-book (fault s p) t u = rw (t, u, checked)
    on-book (got book e) t u = on-question book e (read_question book q) t u refl

    on-range : (x : Bool) → (in_range l && lent_fits l m) ≡ x → Goal₁
    on-range false t = rw (t, checked)
    on-range true t = on-book (read_book b) t refl

-- and so what is read plainly from the book
pub on-store-plain : (l : Limits) (μ : Store) → Ready l μ → (m : Lent) (b q : List ℕ) → on_store μ l m b q ≡ plain l m b q
on-store-plain l μ R m b q = on_store_lem l μ R m b q ∙ agree l m b q
