-- A step of a run on the store stands for the step of the definition's run.
-- Here, in order: the pool's computations; what is shown; sound computations; no turn is lost; the turn of the front; one step, and what it shows.
-- Assumes nothing.
use Prim.Native.Nat.{ℕ, suc, ◌+◌, ◌≤◌}
use mathlib.Core.Path.{◌≡◌, refl, sym, ap, subst}
use mathlib.Core.Bool.{Bool, true, false}
use mathlib.Core.List.{List, [], ◌∷◌, ◌++◌, map, Memᴰ}
use lib.Dec.{leb, ltb}
use lib.ListN.{length}
use Rattle.book.specs.Syntax.{Book}
use Rattle.book.specs.Answers.{Counts, counts}
use Rattle.heap.specs.Graph.{Comp}
use Rattle.heap.specs.Store.{Store}
use Rattle.engine.specs.Turn as T
use Rattle.engine.specs.Turn.{Turned, goes, splits, value}
use Rattle.engine.specs.Compile.{Program, compile}
use Rattle.engine.specs.Plain as Plain
use Rattle.engine.specs.Machine as Machine
use Rattle.engine.specs.Machine.{Held, Kept, held_of}
use Rattle.engine.specs.Run.{Limits, Next, next, turns_of, nodes_of, result_record, Moment, moment, fits, ◌⊕◌, tally, taken, step}
use Rattle.agreement.proofs.Calls.{FineBook}
use Rattle.agreement.proofs.Agree.{Sound, Pools, Same, same-goes, same-splits, same-value, same_ended}
use Rattle.agreement.proofs.Runs.{same_turn}
use Rattle.standing.specs.Shared.{StoreNext, Took, split, wrote, lost, none_left, made_in, store_turn, StoreMoment, store_moment, store_taken, store_step}
use Rattle.standing.specs.Stands.{Ours, Stands, Pool, empty, join, Short, After, after-goes, after-splits, after-value, after-ended, after-lost, after-full}
use Rattle.standing.specs.Contract.{shape}
use Rattle.standing.specs.Moments.{Room, Sounds, shown, shown_next, store_shown, store_shown_next, StandsFor, stands-for, StandsNext, both_end, both_go}
use Rattle.standing.proofs.Queue.{queue-goes, queue-splits}
use Rattle.standing.proofs.Turns.{store-stands}
use Rattle.standing.proofs.Contract.{stands-shape}
use Rattle.standing.proofs.Room.{Sized, turn-sized, nodes-still, nodes-ended, room_fits, room-short, room_after, room-ended, room_bound}

pub pool-length : {μ : Store} {ks : List Kept} {cs : List Held} {own : List ℕ} → Pool μ ks cs own → length cs ≡ length ks
pool-length empty = refl
pool-length (join S p a) = ap suc (pool-length p)

-- numbers and forwards aside, they are the same
pub pool-shapes : {μ : Store} {ks : List Kept} {cs : List Held} {own : List ℕ} → Pool μ ks cs own → map (λ k. shape k.comp.graph (held_of k)) ks ≡ map (shape μ.nodes) cs
pool-shapes empty = refl
pool-shapes {μ} (join {k = k} {c = c} S p a) = let e = stands-shape k.comp.graph (held_of k) μ c S in let f = pool-shapes p in cc

-- what stands for one another is shown alike
pub stands-shown : (book : Book) (B : FineBook book) (l : Limits) (x : Moment Kept) (y : StoreMoment) → StandsFor book B l x y → store_shown y ≡ shown x
unfolding shown store_shown
stands-shown book B l (moment ks κ out) (store_moment μ cs κ' out') (stands-for Q ss R) = let e = pool-shapes Q.pool in rw e

module _ (book : Book) (B : FineBook book) where
  abbrev m : Program
  m = compile book

  sounds-append : (ks ks' : List Kept) → Sounds book B ks → Sounds book B ks' → Sounds book B (ks ++ ks')
  sounds-append [] ks' s s' = s'
  sounds-append (k ∷ ks) ks' (s, ss) s' = (s, sounds-append ks ks' ss s')

  pools-sound : (cs : List Comp) (ks : List Kept) → Pools book B cs ks → Sounds book B ks
  pools-sound [] [] p = tt
  pools-sound [] (k ∷ ks) p = absurd p
  pools-sound (c ∷ cs) [] p = absurd p
  pools-sound (c ∷ cs) (k ∷ ks) (e, s, p) = (subst (λ (x : Comp). Sound book B x k.stack) (sym e) s, pools-sound cs ks p)

  -- what a turn makes is sound, and there is such
  abbrev SoundTurn : Turned Kept → Type 0
  SoundTurn (goes k n) = Sound book B k.comp k.stack
  SoundTurn (splits ks n) = Sounds book B ks
  SoundTurn (value b) = Unit
  SoundTurn (T.ended e) = Unit
  SoundTurn T.lost = ⊥

  sound-turn : (y : Turned Comp) (x : Turned Kept) → Same book B y x → SoundTurn x
  sound-turn _ _ (same-goes {k} q s) = subst (λ (x : Comp). Sound book B x k.stack) (sym q) s
  sound-turn _ _ (same-splits {cs} {ks} p) = pools-sound cs ks p
  sound-turn _ _ same-value = tt
  sound-turn _ _ same_ended = tt

  -- a turn on the store is never lost, so its code never finds itself broken
  pub turn-known : (k : Kept) (s : Sound book B k.comp k.stack) (μ : Store) (c : Held) → Stands k.comp.graph (held_of k) μ c → (n : ℕ) → length k.comp.graph ≤ n → store_turn n m μ c ≡ lost → ⊥
  turn-known k s μ c S n i e =
      go (Machine.turn m k) (sound-turn (Plain.turn book k.comp) (Machine.turn m k) (same_turn book B k.comp k refl s)) (subst (After S.world μ (Machine.turn m k)) e (store-stands book B k s μ c S n i))
    where
      go : (x : Turned Kept) → SoundTurn x → After S.world μ x lost → ⊥
      go x s after-lost = s

  module _ (l : Limits) where
    module _ (μ : Store) (k : Kept) (c : Held) (S : Stands k.comp.graph (held_of k) μ c) (ks : List Kept) (cs : List Held) (own : List ℕ) (p : Pool μ ks cs own)
        (apart : (x : ℕ) → Ours S.world x → ¬ (Memᴰ x own)) (ss : Sounds book B ks) (κ : Counts) (out : List ℕ) (R : Room l μ (k ∷ ks) κ) where
      abbrev After₁ : Turned Kept → Took → Type 0
      After₁ x y = StandsNext book B l (taken (Machine.turn m) l ks κ out x) (store_taken l μ cs κ out y)

      same : length cs ≡ length ks
      same = pool-length p

      -- the computation is gone
      gone : (κ' : Counts) (out' : List ℕ) → nodes_of κ' ≡ nodes_of κ → StandsFor book B l (moment ks κ' out') (store_moment μ cs κ' out')
      gone κ' out' e = stands-for (record { own = own; pool = p }) ss (room-ended R κ' e)

      no-nodes : (x : Turned Kept) → SoundTurn x → Short (length μ.free) x → After₁ x none_left
      unfolding taken store_taken
      no-nodes (goes k' j) s f = rw (room-short R j f, taken) both_end
      no-nodes (splits ks' j) s f = rw (room-short R j f, taken) both_end
      no-nodes (value b) s f = absurd f
      no-nodes (T.ended e) s f = absurd f
      no-nodes T.lost s f = absurd s

      taken-stands : (x : Turned Kept) (y : Took) → SoundTurn x → Sized (length k.comp.graph) x → After S.world μ x y → After₁ x y
      unfolding taken store_taken
      taken-stands _ _ s z (after-goes {k = k'} {n = j} {μ'} S' new t q) =
          let r = room_fits R j μ' q in
          rw (r.0, r.1, taken) (both_go (stands-for (queue-goes p S.world apart (after-goes S' new t q)) (sounds-append ks (k' ∷ []) ss (s, tt)) (room_after R (k' ∷ []) j q z 1 0 0 0 0 0)))
      taken-stands _ _ s z (after-splits {ks = ks'} {n = j} {μ'} {cs = cs'} I) = go (leb (length ks + length ks') l.pool) refl
        where
          r : (fits l κ j ≡ true) × (made_in μ μ' ≡ j)
          r = room_fits R j μ' I.count

          d : length cs' ≡ length ks'
          d = pool-length I.pool

          go : (b : Bool) → leb (length ks + length ks') l.pool ≡ b → After₁ (splits ks' j) (split μ' cs')
          go true t = rw (r.0, same, d, t, taken, store_taken) (rw (r.1, d) (both_go (stands-for (queue-splits p S.world apart (after-splits I)) (sounds-append ks ks' ss s) (room_after R ks' j I.count z 1 (length ks') 1 0 0 0))))
          go false t = rw (r.0, same, d, t, taken, store_taken) both_end
      taken-stands _ _ s z (after-value {b}) = go (leb (length (out ++ result_record (suc (turns_of κ)) b)) l.results) refl
        where
          go : (a : Bool) → leb (length (out ++ result_record (suc (turns_of κ)) b)) l.results ≡ a → After₁ (value b) (wrote b)
          go true t = rw (t, taken, store_taken) (both_go (gone (κ ⊕ counts 1 0 0 0 1 0 0) (out ++ result_record (suc (turns_of κ)) b) (nodes-still κ 1 0 0 1 0 0)))
          go false t = rw (t, taken, store_taken) both_end
      taken-stands _ _ s z (after-ended {e}) = both_go (gone (κ ⊕ tally e) out (nodes-ended κ e))
      taken-stands _ _ s z after-lost = absurd s
      taken-stands _ _ s z (after-full {x} f) = no-nodes x s f

    -- One step: moments that stand for one another come to the same answer, or to moments that stand for one another again.
    pub step-stands : (x : Moment Kept) (y : StoreMoment) → StandsFor book B l x y → StandsNext book B l (step (Machine.turn m) l x) (store_step m l y)
    unfolding step store_step
    step-stands (moment ks κ out) (store_moment μ cs κ' out') (stands-for Q ss R) = go ks cs Q.own Q.pool ss R
      where
        go : (ks : List Kept) (cs : List Held) (own : List ℕ) → Pool μ ks cs own → Sounds book B ks → Room l μ ks κ → StandsNext book B l (step (Machine.turn m) l (moment ks κ out)) (store_step m l (store_moment μ cs κ out))
        go ks cs own empty ss R = both_end
        go ks cs own (join {k = k} {ks = ks'} {c = c} {cs = cs'} {own = own'} S p a) (s, ss) R = turn (ltb (turns_of κ) l.budget) refl
          where
            turn : (b : Bool) → ltb (turns_of κ) l.budget ≡ b → StandsNext book B l (step (Machine.turn m) l (moment (k ∷ ks') κ out)) (store_step m l (store_moment μ (c ∷ cs') κ out))
            turn true t = rw (t, step, store_step) (taken-stands μ k c S ks' cs' own' p a ss κ out R (Machine.turn m k) (store_turn l.nodes m μ c)
                (sound-turn (Plain.turn book k.comp) (Machine.turn m k) (same_turn book B k.comp k refl s)) (turn-sized m k) (store-stands book B k s μ c S l.nodes (room_bound R)))
            turn false t = rw (t, step, store_step) both_end

    -- and so, numbers and forwards aside, the state after the turn is the state that the definition gives, each computation's stack included
    pub step-shown : (x : Moment Kept) (y : StoreMoment) → StandsFor book B l x y → store_shown_next (store_step m l y) ≡ shown_next (step (Machine.turn m) l x)
    unfolding shown_next store_shown_next
    step-shown x y S = go (step (Machine.turn m) l x) (store_step m l y) (step-stands x y S)
      where
        go : (u : Next Kept) (v : StoreNext) → StandsNext book B l u v → store_shown_next v ≡ shown_next u
        go _ _ both_end = refl
        go _ _ (both_go {x} {y} S) = ap next (stands-shown book B l x y S)
