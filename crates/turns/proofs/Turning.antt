-- One turn, put together.
-- Here, in order: how the code ended and what the step relies on; what stays; calls on a stack; the turn; what it promises.
-- Assumes nothing.
use Prim.Native.Nat.{ℕ, zero, suc, ◌+◌, ◌≤◌, ◌<◌}
use native.Mathlib.Omega.{arith}
use mathlib.Core.Path.{◌≡◌, refl, sym, ap, ◌∙◌, subst}
use mathlib.Core.Logic.{◌⊎◌, inl, inr, ◌≢◌}
use Rattle.std.specs.Prelude.{Some, None}
use mathlib.Core.List.Memᴰ
use mathlib.Core.List.{List, [], ◌∷◌, reverse, Memᴰ}
use lib.ListN.{length, get_or, take, drop, length-reverse}
use Rattle.mem.specs.Words.{words}
use Rattle.book.specs.Syntax.{Symbol, con, fun}
use Rattle.heap.specs.Alike.{Each}
use Rattle.heap.specs.Graph.{Graph, Node, cell, var, fwd, node, follow, look, write_each}
use Rattle.heap.specs.Place.{here}
use Rattle.heap.proofs.Laws.Alike.{leads-follow}
use Rattle.heap.specs.Store.{Store, take1}
use Rattle.engine.specs.Compile.{Program, compile}
use Rattle.engine.specs.Machine as m
use Rattle.agreement.proofs.Fine.{Takes}
use Rattle.standing.specs.Shared.{wrote, finish, store_turn}
use Rattle.standing.specs.Stands.{Ours, Reps}
use Rattle.standing.proofs.Grows.{Stops, stops-becomes}
use Rattle.standing.proofs.Step.{Tolds, same_stop, turn-alike}
use Rattle.standing.proofs.Alternatives.{Splits, splits-turn}
use Rattle.standing.proofs.Stacks.{each-ours}
use Rattle.store.specs.Regions.{graph_of, marks_of, links_of, rest_of, store_of}
use Rattle.store.proofs.Laws.{length-graph}
use Rattle.alternatives.proofs.Steps.{made-taken, nodes-are}
use Rattle.alternatives.specs.Copies.{terms_in}
use Rattle.machine.specs.View.{stack_of, stop_of, terms_of, pre_terms}
use Rattle.machine.specs.Tables.{Has}
use Rattle.machine.specs.declared.Regs.{Regs}
use Rattle.machine.specs.declared.Ended.{Ended}
use Rattle.machine.specs.declared.Stop.{Stop}
use Rattle.machine.specs.declared.Stop.TheVariants.{Demand, Becomes, Parts, Fails, Misfits, Broken, Full}
use Rattle.copier.specs.Listed.{Clean}
use Rattle.seek.specs.Path.{Closed, Resumes, CallAt, Later}
use Rattle.seek.proofs.Survives.{later_rows, later_same, closed-later, resumes-later}
use Rattle.pool.specs.declared.Held.{Held}
use Rattle.store.specs.Roots.{roots_of}
use Rattle.pool.specs.Ring.{Sized, held_by, held_in, SameLinks}
use Rattle.pool.specs.Ring as p
use Rattle.turns.specs.Front.{Space, Standing, Front, told_by, took_of, value_in, Searched, Stays, Dropped, TurnTaken}
use Rattle.turns.specs.Calls.{Calls, HitCall, Driven, StackKept, Begun}
use Rattle.turns.specs.Ends.{regs_with, Stopped, Hit, Finished}
use Rattle.turns.specs.declared.Turned.{Turned}
use Rattle.turns.specs.declared.What.TheVariants.{Went, Wrote}
use Rattle.turns.proofs.Grounds.{ours-made}
use Rattle.turns.proofs.Driving.{row_kept}
use Rattle.turns.proofs.Begins.{ground}
use Rattle.turns.proofs.Few.{few-alternatives}
use Rattle.turns.proofs.Finishing.{Capped, terms-are}
use Rattle.turns.proofs.Silent.{finished-no-result}

-- the registers that the end of the code speaks of
stop-regs : (L base : ℕ) (s : List ℕ) (r : Regs) (k : ℕ) → store_of L k s ≡ store_of L r.made s → (x : Stop) → stop_of L base s r x ≡ stop_of L base s (regs_with r.top r.terms k) x
unfolding stop_of
stop-regs L base s r k e (Demand h) = ap (m.demand (h.0 ∷ stack_of L s r.top)) (sym e)
stop-regs L base s r k e (Becomes h j) = ap (m.becomes h.0 j.0 (stack_of L s r.top)) (sym e)
stop-regs L base s r k e (Parts h) = ap (m.parts h.0 (reverse (pre_terms L base s r.terms))) (sym e)
stop-regs L base s r k e Fails = ap m.fails (sym e)
stop-regs L base s r k e Misfits = ap m.misfits (sym e)
stop-regs L base s r k e Broken = refl
stop-regs L base s r k e Full = refl

count-terms : (k : ℕ) (w : List ℕ) → length (terms_of k w) ≡ k
unfolding terms_of
count-terms zero w = refl
count-terms (suc k) w = ap suc (count-terms k w)

-- the model by what the turn told
turn-told : (n : ℕ) (q : Program) (μ : Store) (c : m.Held) (b : List ℕ) → m.turn_on (λ (μ : Store). μ.nodes) take1 n q μ c ≡ m.told b → store_turn n q μ c ≡ wrote b
unfolding store_turn
turn-told n q μ c b e = rw (e, store_turn)

turn_stopped : (n : ℕ) (q : Program) (μ : Store) (c : m.Held) (x : m.Stop Store) → m.turn_on (λ (μ : Store). μ.nodes) take1 n q μ c ≡ m.stopped x → store_turn n q μ c ≡ finish c x
unfolding store_turn
turn_stopped n q μ c x e = rw (e, store_turn)

held_by_lem : (L : ℕ) (s : List ℕ) (held : Held) → held_in L s held ≡ held_by (roots_of held.roots) (p.stack_of L s held.top)
unfolding held_in
held_by_lem L s held = refl

-- a computation's handles, its stack aside
splits-by : {Fine : Symbol → ℕ → Type 0} (μ : Store) (c d : m.Held) (h : ℕ) (ks : List ℕ) → c.value ≡ d.value → c.askers ≡ d.askers → Splits Fine μ c h ks → Splits Fine μ d h ks
splits-by {Fine} μ c d h ks a b S = record {
  world = S.world;
  graph = S.graph;
  holds = S.holds;
  call = S.call;
  value = S.value;
  askers = S.askers;
  terms = S.terms;
  same = S.same;
  values = subst (Reps S.world S.graph μ.nodes S.value) a S.values;
  asked = subst (Each (Reps S.world S.graph μ.nodes) S.askers) b S.asked;
  each = S.each;
  whole = S.whole;
}

-- a call on a stack is on the settled one too
look-call : (g : Graph) (x f : ℕ) (hs : List ℕ) → node g x ≡ cell (fun f) hs → look g x ≡ cell (fun f) hs
unfolding look
look-call g x f hs e =
    let q : follow g x ≡ x = leads-follow (λ y. Unit) g x (here tt refl (rw e tt)) in
    ap (node g) q ∙ e

settle-has : (g : Graph) (N : List ℕ) (x f : ℕ) (hs : List ℕ) → node g x ≡ cell (fun f) hs → Memᴰ x N → Memᴰ x (m.settle g N)
unfolding m.settle
settle-has g [] x f hs e w = w
settle-has g (h ∷ N) x f hs e w = go (settle-has g N x f hs e) (look g h) refl (Memᴰ.cases_cons w)
  where
    call : (y : Node) → look g h ≡ y → x ≡ h → cell (fun f) hs ≡ y
    call y q u = sym (look-call g x f hs e) ∙ ap (look g) u ∙ q

    go : (Memᴰ x N → Memᴰ x (m.settle g N)) → (y : Node) → look g h ≡ y → (x ≡ h) ⊎ Memᴰ x N → Memᴰ x (m.settle g (h ∷ N))
    go ih (cell (fun k) ks) q u = rw (q, m.settle) w
    go ih (cell (con c) ks) q (inl u) = let z = call (cell (con c) ks) q u in cc
    go ih (cell (con c) ks) q (inr u) = rw (q, m.settle) (ih u)
    go ih var q (inl u) = let z = call var q u in cc
    go ih var q (inr u) = rw (q, m.settle) (ih u)
    go ih (fwd k) q (inl u) = let z = call (fwd k) q u in cc
    go ih (fwd k) q (inr u) = rw (q, m.settle) (ih u)

-- without a top there is no entry
held_none : (L : ℕ) (s : List ℕ) (held : Held) → held.top ≡ 0 → (held_in L s held).stack ≡ []
unfolding held_in p.stack_of p.chain
held_none L s held e = rw e

module _ (L base : ℕ) (code : List ℕ) (made : ℕ) (held : Held) (s : List ℕ) (F : Front L base code made held s) where
  abbrev S : Standing L made held s
  S = F.standing

  abbrev μ : Store
  μ = store_of L made s

  abbrev c : m.Held
  c = held_in L s held

  -- a forward's node is one of the store, the computation's own or free before
  becomes-own : (h r : ℕ) (N : List ℕ) (μ' : Store) → told_by S ≡ m.stopped (m.becomes h r N μ') → (h < length μ'.nodes) × (Ours S.stands.world h ⊎ Memᴰ h μ.free)
  becomes-own h r N μ' e =
      go (m.turn_on (λ x. x) m.own L (compile S.book) S.kept.comp.graph (m.held_of S.kept))
      (subst (Tolds S.stands.world S.kept.comp.graph μ (m.turn_on (λ x. x) m.own L (compile S.book) S.kept.comp.graph (m.held_of S.kept))) e (turn-alike (compile S.book) S.stands.world S.kept.comp.graph μ S.stands.holds L (m.held_of S.kept) c S.stands.helds))
    where
      at-stop : (x : m.Stop Graph) → Stops S.stands.world S.kept.comp.graph μ x (m.becomes h r N μ') → (h < length μ'.nodes) × (Ours S.stands.world h ⊎ Memᴰ h μ.free)
      at-stop x (stops-becomes {h = j} o q u w) = let i = o.holds.alike.right j h q in (o.holds.in_q h i, o.new h i)

      go : (x : m.Told Graph) → Tolds S.stands.world S.kept.comp.graph μ x (m.stopped (m.becomes h r N μ')) → (h < length μ'.nodes) × (Ours S.stands.world h ⊎ Memᴰ h μ.free)
      go x (same_stop {x = y} z) = at-stop y z

  -- the calls that are walked
  pub front-calls : (s₁ : List ℕ) (t : ℕ) → Begun L made held s s₁ (Some t) → Calls L base code t made s₁
  front-calls s₁ t B = record {
    book = S.book;
    accepted = S.accepted;
    fine = S.fine;
    tables = subst (Has (compile S.book) base) (sym B.rest) F.tables;
    coded = F.coded;
    graph = S.kept.comp.graph;
    good = S.sound.whole.good;
    value = S.kept.comp.value;
    world = S.stands.world;
    stack = (B.begun S).1;
  }

  module _ (s₁ s₂ : List ℕ) (t : ℕ) (B : Begun L made held s s₁ (Some t)) (a : Ended) (D : Driven L base code L t made s₁ s₂ a) (k : ℕ) (K : Capped L a.regs.made k) (space : Space L base s) (low : made ≤ L) where
    abbrev x : Stop
    x = a.stop

    abbrev rs : Regs
    rs = regs_with a.regs.top a.regs.terms k

    tells : told_by S ≡ m.stopped (stop_of L base s₂ rs x)
    unfolding front-calls
    tells = (B.begun S).0 ∙ ap m.stopped (sym (D.is (front-calls s₁ t B)) ∙ stop-regs L base s₂ a.regs k (K.store s₂) x)

    long : length (words s₂) ≡ length (words s)
    long = D.kept.long ∙ B.long

    pub turn-stops : Stopped L base held a.regs.terms k s₂ x
    unfolding stop_of pre_terms held_in
    turn-stops = go x tells
      where
        size : length (store_of L k s₂).nodes ≡ L
        size = ap length (nodes-are L k s₂) ∙ length-graph L s₂

        go : (y : Stop) → told_by S ≡ m.stopped (stop_of L base s₂ rs y) → Stopped L base held a.regs.terms k s₂ y
        go (Demand h) q = tt
        go (Becomes h j) q = let i = (becomes-own h.0 j.0 (stack_of L s₂ a.regs.top) (store_of L k s₂) q).0 in let j = size in omega arith
        go (Parts h) q =
            let ks : List ℕ = reverse (pre_terms L base s₂ a.regs.terms) in
            let n : length ks ≡ a.regs.terms = length-reverse (pre_terms L base s₂ a.regs.terms) ∙ count-terms a.regs.terms (drop (base + 2696) (rest_of L s₂)) in
            let i = few-alternatives S h.0 ks (store_of L k s₂) q in
            let Q = splits-turn S.book S.fine S.kept S.sound μ c S.stands L S.small h.0 ks (store_of L k s₂) q in
            let l = long in
            let te : ks ≡ terms_in L base s₂ a.regs.terms = terms-are L base s₂ a.regs.terms (omega arith) (omega arith) in
            (omega arith, record { book = S.book; splits = splits-by (store_of L k s₂) c (held_by (roots_of held.roots) []) h.0 (terms_in L base s₂ a.regs.terms) refl refl (subst (Splits (Takes (compile S.book)) (store_of L k s₂) c h.0) te Q) })
        go Fails q = tt
        go Misfits q = tt
        go Broken q = tt
        go Full q = tt

    pub turn-own : (y : ℕ) → y < made → ¬ (Ours S.stands.world y) → ¬ (Hit x y)
    unfolding stop_of
    turn-own y lt o = go x tells
      where
        apart : (h : ℕ) → Ours S.stands.world h ⊎ Memᴰ h μ.free → y ≡ h → ⊥
        apart h (inl u) q = o (subst (Ours S.stands.world) (sym q) u)
        apart h (inr u) q = made-taken L made y s lt h u q

        go : (z : Stop) → told_by S ≡ m.stopped (stop_of L base s₂ rs z) → ¬ (Hit z y)
        go (Demand h) q = λ w. w
        go (Becomes h j) q = λ w. apart h.0 (becomes-own h.0 j.0 (stack_of L s₂ a.regs.top) (store_of L k s₂) q).1 w
        go (Parts h) q = λ w. w
        go Fails q = λ w. w
        go Misfits q = λ w. w
        go Broken q = λ w. w
        go Full q = λ w. w

    -- the turn
    module _ (s₃ : List ℕ) (r : Turned) (Z : Finished L base held k a.regs.top a.regs.terms x s₂ s₃ r) where
      pub turn_is : took_of L base held s s₃ r r.what ≡ store_turn L (compile S.book) μ c
      turn_is = Z.is s (p.stack_of L s held.top) ∙ ap (λ (y : m.Held). finish y (stop_of L base s₂ rs x)) (sym (held_by_lem L s held)) ∙ sym (turn_stopped L (compile S.book) μ c (stop_of L base s₂ rs x) tells)

      made_in : made ≤ k
      made_in = K.least made D.more low

      same-marks : marks_of L s₃ ≡ marks_of L s₁
      same-marks = Z.marks ∙ D.kept.marks

      -- only calls have changed, of what was made
      no_hit : (y : ℕ) → y < made → ¬ (CallAt (graph_of L s) y) → ¬ (Hit x y)
      unfolding front-calls
      no_hit y lt o = go x (D.hit (front-calls s₁ t B))
        where
          go : (z : Stop) → HitCall L s₂ z → ¬ (Hit z y)
          go (Demand h) q = λ w. w
          go (Becomes h j) q = λ w. o (q.0, q.1, ap (λ (g : Graph). node g y) (sym B.graph) ∙ sym (row_kept L base made s₁ s₂ D.kept y lt) ∙ ap (node (graph_of L s₂)) w ∙ q.2)
          go (Parts h) q = λ w. w
          go Fails q = λ w. w
          go Misfits q = λ w. w
          go Broken q = λ w. w
          go Full q = λ w. w

      row_stays : (y : ℕ) → y < made → ¬ (CallAt (graph_of L s) y) → node (graph_of L s₃) y ≡ node (graph_of L s) y
      row_stays y lt o = Z.nodes y (let i = made_in in omega arith) (no_hit y lt o) ∙ row_kept L base made s₁ s₂ D.kept y lt ∙ ap (λ (g : Graph). node g y) B.graph

      pub turn-later : Later made (graph_of L s) made (graph_of L s₃)
      turn-later = later_rows (graph_of L s) (graph_of L s₃) (omega arith) row_stays

      pub turn-finished : (y : ℕ) → get_or (marks_of L s) y 0 ≡ 2 → get_or (marks_of L s₃) y 0 ≡ 2
      turn-finished y q = ap (λ (l : List ℕ). get_or l y 0) same-marks ∙ B.finished y q

      closed₁ : Closed made (graph_of L s) (marks_of L s₁)
      closed₁ = subst (λ (g : Graph). Closed made g (marks_of L s₁)) B.graph B.searched.closed

      pub turn-searched : Sized held.roots → Searched L made (value_in held) s₃
      unfolding front-calls
      turn-searched z = record {
        closed = closed-later closed₁ turn-later (marks_of L s₃) (λ y. ap (λ (l : List ℕ). get_or l y 0) same-marks);
        resumes = resumes-later closed₁ turn-later (ground L made held s S z) (links_of L s₁) (marks_of L s₃) (links_of L s₃) (λ y q. ap (λ (l : List ℕ). get_or l y 0) same-marks ∙ q) (λ y w. ap (λ (l : List ℕ). get_or l y 0) same-marks)
            (λ y w o. ap (λ (l : List ℕ). get_or l y 0) Z.links ∙ D.links (front-calls s₁ t B) y (ours-made L made s S.stands y w) (λ u. o (subst (λ (g : Graph). CallAt g y) B.graph u.1)))
            (subst (λ (g : Graph). Resumes made g (marks_of L s₁) (links_of L s₁) (value_in held)) B.graph B.searched.resumes);
      }

      pub turn-stays : Stays L base made (Ours S.stands.world) s s₃
      unfolding front-calls
      turn-stays = record {
        nodes = λ y lt o. Z.nodes y (let i = made_in in omega arith) (turn-own y lt o) ∙ row_kept L base made s₁ s₂ D.kept y lt ∙ ap (λ (g : Graph). node g y) B.graph;
        links = λ y lt o. ap (λ (l : List ℕ). get_or l y 0) Z.links ∙ D.links (front-calls s₁ t B) y lt (λ u. o u.0) ∙ B.links S y lt o;
        rest = Z.rest ∙ D.kept.before ∙ ap (take (base + 2440)) B.rest;
        long = Z.long ∙ long;
        marks = λ y lt o. ap (λ (l : List ℕ). get_or l y 0) same-marks ∙ B.marks S y lt o;
        clean = Z.clean;
      }

      -- no node that was made is changed, unless the computation goes on
      pub turn-rows : r.what ≢ Went → (y : ℕ) → y < made → node (graph_of L s₃) y ≡ node (graph_of L s) y
      turn-rows f y lt = Z.rows f y (let i = made_in in omega arith) ∙ row_kept L base made s₁ s₂ D.kept y lt ∙ ap (λ (g : Graph). node g y) B.graph

      -- the stack that was there: its calls are on the settled one, whose links stay, and links are written of calls only
      pub turn-stack : ¬ (Dropped L held s) → SameLinks (links_of L s) (links_of L s₃) c.stack
      unfolding front-calls
      turn-stack kept = go (B.stack kept)
        where
          C : Calls L base code t made s₁
          C = front-calls s₁ t B

          links₃ : (y : ℕ) → get_or (links_of L s₃) y 0 ≡ get_or (links_of L s₂) y 0
          links₃ y = ap (λ (l : List ℕ). get_or l y 0) Z.links

          no_call : (y : ℕ) → links_of L s₁ ≡ links_of L s → Memᴰ y c.stack → ¬ (CallAt (graph_of L s) y) → get_or (links_of L s₃) y 0 ≡ get_or (links_of L s) y 0
          no_call y q w o = links₃ y ∙ D.links (front-calls s₁ t B) y (ours-made L made s S.stands y (each-ours S.stands.holds S.kept.stack c.stack S.stands.helds.stack y w)) (λ u. o (subst (λ (g : Graph). CallAt g y) B.graph u.1)) ∙ ap (λ (l : List ℕ). get_or l y 0) q

          other : (y : ℕ) (x : Node) → node (graph_of L s) y ≡ x → ((f : ℕ) (hs : List ℕ) → x ≡ cell (fun f) hs → ⊥) → ¬ (CallAt (graph_of L s) y)
          other y x a f u = f u.0 u.1 (sym a ∙ u.2)

          at : (q : links_of L s₁ ≡ links_of L s) (u : stack_of L s₁ t ≡ m.settle (graph_of L s) c.stack) (y : ℕ) → Memᴰ y c.stack → (x : Node) → node (graph_of L s) y ≡ x → get_or (links_of L s₃) y 0 ≡ get_or (links_of L s) y 0
          at q u y w (cell (fun f) hs) a = links₃ y ∙ D.deep C y (subst (Memᴰ y) (sym u) (settle-has (graph_of L s) c.stack y f hs a w)) ∙ ap (λ (l : List ℕ). get_or l y 0) q
          at q u y w (cell (con k) hs) a = no_call y q w (other y (cell (con k) hs) a (λ f hs' z. (cc)))
          at q u y w var a = no_call y q w (other y var a (λ f hs' z. (cc)))
          at q u y w (fwd k) a = no_call y q w (other y (fwd k) a (λ f hs' z. (cc)))

          go : StackKept L held s s₁ (Some t) → SameLinks (links_of L s) (links_of L s₃) c.stack
          go (inl z) = λ y w. absurd (Memᴰ.not-nil (subst (Memᴰ y) (held_none L s held z) w))
          go (inr (q, u)) = λ y w. at q u y w (node (graph_of L s) y) refl

      pub turn_more : (made ≤ r.made) × (r.made ≤ L)
      turn_more = let i = made_in in let j = Z.more.0 in (omega arith, Z.more.1)

  -- there is no call
  module _ (s₁ : List ℕ) (B : Begun L made held s s₁ None) where
    pub silent-is : (r : Turned) → took_of L base held s s₁ r Wrote ≡ store_turn L (compile S.book) μ c
    unfolding took_of
    silent-is r = sym (turn-told L (compile S.book) μ c (write_each L (graph_of L s) (c.value ∷ c.askers)) (B.begun S))

    pub silent-stays : Clean L s → Stays L base made (Ours S.stands.world) s s₁
    silent-stays clean = record {
      nodes = λ y lt o. ap (λ (g : Graph). node g y) B.graph;
      links = B.links S;
      rest = ap (take (base + 2440)) B.rest;
      long = B.long;
      marks = B.marks S;
      clean = B.places ∙ clean;
    }

    pub silent-stack : ¬ (Dropped L held s) → SameLinks (links_of L s) (links_of L s₁) c.stack
    silent-stack kept = go (B.stack kept)
      where
        go : StackKept L held s s₁ None → SameLinks (links_of L s) (links_of L s₁) c.stack
        go (inl z) = λ y w. absurd (Memᴰ.not-nil (subst (Memᴰ y) (held_none L s held z) w))
        go (inr (q, t)) = λ y w. ap (λ (l : List ℕ). get_or l y 0) q

    pub silent-later : Later made (graph_of L s) made (graph_of L s₁)
    silent-later = subst (Later made (graph_of L s) made) (sym B.graph) (later_same made (graph_of L s))

-- what `take_turn` promises: of a turn whose code ran, and of one that finds no call
module _ (L base : ℕ) (code : List ℕ) (made : ℕ) (held : Held) (s : List ℕ) (F₀ : Front L base code made held s) (low : made ≤ L) where
  pub turn-taken : {s₁ s₂ s₃ : List ℕ} {t k : ℕ} {a : Ended} {r : Turned} → Begun L made held s s₁ (Some t) → Driven L base code L t made s₁ s₂ a → Capped L a.regs.made k → Space L base s → Sized held.roots
      → Finished L base held k a.regs.top a.regs.terms a.stop s₂ s₃ r → TurnTaken L base code made held s s₃ r
  turn-taken {s₁} {s₂} {s₃} {t} {k} {a} {r} B D K space z Z = record {
    is = λ F. turn_is L base code made held s F s₁ s₂ t B a D k K space low s₃ r Z;
    stays = λ F. turn-stays L base code made held s F s₁ s₂ t B a D k K space low s₃ r Z;
    more = turn_more L base code made held s F₀ s₁ s₂ t B a D k K space low s₃ r Z;
    still = λ w. absurd (finished-no-result Z w);
    later = turn-later L base code made held s F₀ s₁ s₂ t B a D k K space low s₃ r Z;
    finished = turn-finished L base code made held s F₀ s₁ s₂ t B a D k K space low s₃ r Z;
    searched = turn-searched L base code made held s F₀ s₁ s₂ t B a D k K space low s₃ r Z z;
    rows = turn-rows L base code made held s F₀ s₁ s₂ t B a D k K space low s₃ r Z;
    stack = turn-stack L base code made held s F₀ s₁ s₂ t B a D k K space low s₃ r Z;
  }

  pub silent-taken : {s₁ : List ℕ} → Begun L made held s s₁ None → Clean L s → TurnTaken L base code made held s s₁ (record { what = Wrote; made = made; top = 0 })
  silent-taken {s₁} B clean = record {
    is = λ F. silent-is L base code made held s F s₁ B _;
    stays = λ F. silent-stays L base code made held s F s₁ B clean;
    more = (omega arith, low);
    still = λ w. B.graph;
    later = silent-later L base code made held s F₀ s₁ B;
    finished = B.finished;
    searched = B.searched;
    rows = λ f y lt. ap (λ (g : Graph). node g y) B.graph;
    stack = silent-stack L base code made held s F₀ s₁ B;
  }
