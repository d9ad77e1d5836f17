-- A book set up: its code, and its tables ended at its counts; or its code is too long.
-- Here, in order: the tables ended; room; the tables' words; the answers.
-- Assumes nothing.
use Prim.Native.Nat.{ℕ, suc, ◌+◌, ◌*◌, ◌-◌, ◌/◌, ◌≤◌}
use native.Mathlib.Omega.{arith}
use mathlib.Core.Path.{◌≡◌, refl, ap, sym, ◌∙◌, subst}
use mathlib.Core.List.{List, [], ◌∷◌}
use lib.ListN.{length, get_or, drop, length-map, length-drop}
use lib.Seq.{length-take-le}
use borrow.Rule.Slice.PartMut.{put_same, same_len_mid, mid_of}
use Rattle.mem.specs.Words.{words}
use Rattle.mem.proofs.Laws.{length-words}
use Rattle.std.specs.Prelude.{Result, Ok, Err}
use Rattle.book.specs.declared.Fault.{Fault}
use Rattle.book.specs.declared.Sizes.{Sizes}
use Rattle.book.specs.Syntax.{Book, Func, Symbol, con, fun, arity, con_arities}
use Rattle.book.specs.Record.{fault}
use Rattle.book.specs.Reading.{read_book}
use Rattle.book.specs.Steps.{BookRead, BookIs}
use Rattle.book.proofs.Acceptance.{book-fine, arity-small}
use Rattle.engine.specs.Compile.{compile, of_funcs}
use Rattle.engine.specs.Machine as m
use Rattle.engine.specs.Run as e
use Rattle.agreement.proofs.Places.{offsets-length}
use Rattle.store.specs.Regions.{rest_of}
use Rattle.pool.specs.Ring.{RestRoom}
use Rattle.compiler.specs.declared.Refused.{Refused}
use Rattle.compiler.specs.declared.Refused.TheVariants as refused
use Rattle.compiler.specs.Tables.{DoesFit, IsTooLong, CompiledIs}
use Rattle.machine.proofs.Tabled.{Counted, has-counted}
use Rattle.run.specs.Filled.{Ended}
use Rattle.run.specs.Setting.{EndedAt, Lends, OverRoom, SettingIs}
use Rattle.run.proofs.Slices.{ending, ending-word}

-- a book that was read, by its answer
pub book-read : (b cons funcs : List ℕ) (r : Result Sizes Fault) (n : Sizes) → BookIs b cons funcs r → r ≡ Ok n → BookRead b cons funcs n.types n.cons n.funcs
unfolding BookIs
book-read b cons funcs r n x q = subst (BookIs b cons funcs) q x

-- bytes that are no book have no counts
pub ended-none : (b cons funcs : List ℕ) (r : Result Sizes Fault) (f : Fault) → BookIs b cons funcs r → r ≡ Err f → (L base : ℕ) (s : List ℕ) → EndedAt b L base s s
unfolding BookIs
ended-none b cons funcs r f x q L base s = record { is = λ book end y. let z : read_book b ≡ fault f.sort f.at = subst (BookIs b cons funcs) q x in absurd cc }

-- the counts that were read are the book's
pub ended_at : {b cons funcs : List ℕ} {n nc nf : ℕ} → BookRead b cons funcs n nc nf → {L base : ℕ} {s s' : List ℕ} → Ended L base nf nc s s' → EndedAt b L base s s'
ended_at {b} {cons} {funcs} {n} {nc} {nf} x {L} {base} {s} {s'} d = record {
  is = λ book end y.
      let same : x.book ≡ book = cc in
      let many : nf ≡ length book.funcs = sym (length-take-le nf funcs x.funcs-few) ∙ ap length x.funcs-are ∙ length-map x.book.funcs arity ∙ ap (λ (k : Book). length k.funcs) same in
      let cs : nc ≡ length (con_arities book.types) = sym (length-take-le nc cons x.cons-few) ∙ ap length x.cons-are ∙ ap (λ (k : Book). length (con_arities k.types)) same in
      subst (λ (k : ℕ). Ended L base k (length (con_arities book.types)) s s') many (subst (λ (k : ℕ). Ended L base nf k s s') cs d);
}

-- a block of code for each function
length-blocks : (types : List (List ℕ)) (fs : List Func) (at : ℕ) → length (of_funcs types fs at) ≡ length fs
unfolding of_funcs
length-blocks types [] at = refl
length-blocks types (f ∷ fs) at = ap suc (length-blocks types fs _)

-- where the tables begin, in bytes
abbrev pub tables_at : e.Limits → ℕ
tables_at l = 2 * (16 * l.nodes + 20 * l.pool)

module _ (l : e.Limits) (work code : List ℕ) (X : Lends l work code) where
  pub tables-within : tables_at l ≤ length work
  tables-within = let w = length-words work in let r = X.room.2 in omega arith

  pub tables-room : 1536 ≤ length (words (mid_of (tables_at l) (length work - tables_at l) work))
  tables-room =
      let w = length-words work in
      let r = X.room.2 in
      let d = length-drop (tables_at l) work in
      let t = length-take-le (length work - tables_at l) (drop (tables_at l) work) (omega arith) in
      let v = length-words (mid_of (tables_at l) (length work - tables_at l) work) in
      omega arith

  module _ (t : List ℕ) (k : length t ≡ length (mid_of (tables_at l) (length work - tables_at l) work)) where
    ending-long : length (words (ending work (tables_at l) t)) ≡ length (words work)
    ending-long = length-words (ending work (tables_at l) t) ∙ ap (λ (n : ℕ). n / 2) (same_len_mid (tables_at l) (length work - tables_at l) work t k) ∙ sym (length-words work)

    pub ending-room : RestRoom l.nodes (20 * l.pool + 1536) (ending work (tables_at l) t)
    ending-room = let n = X.nodes in let p = X.pool in let r = X.room.2 in let z = ending-long in (omega arith, omega arith, omega arith)

    -- a word of what was lent on, where it stands in the rest
    word : (j i : ℕ) → j ≡ 20 * l.pool + i → get_or (rest_of l.nodes (ending work (tables_at l) t)) j 0 ≡ get_or (words t) i 0
    word j i q = ap (λ (n : ℕ). get_or (rest_of l.nodes (ending work (tables_at l) t)) n 0) q ∙ ending-word l.nodes (20 * l.pool) work t i tables-within

    -- the tables are filled below the book's counts and ended there
    module _ (b code' work' : List ℕ) (n : ℕ) (D : DoesFit b l.code (mid_of (tables_at l) (length work - tables_at l) work) t code code' n)
        (E : EndedAt b l.nodes (20 * l.pool) (ending work (tables_at l) t) work') where
      ended : Ended l.nodes (20 * l.pool) (length D.book.funcs) (length (con_arities D.book.types)) (ending work (tables_at l) t) work'
      ended = E.is D.book D.end D.is

      many : length (compile D.book).arities ≡ length D.book.funcs
      unfolding compile
      many = length-map D.book.funcs arity

      cons-many : length (con_arities (compile D.book).types) ≡ length (con_arities D.book.types)
      unfolding compile
      cons-many = refl

      alike : length (compile D.book).starts ≤ length (compile D.book).arities
      unfolding compile
      alike = let o = offsets-length (of_funcs D.book.types D.book.funcs 0) 0 in let f = length-blocks D.book.types D.book.funcs 0 in let a = length-map D.book.funcs arity in omega arith

      small : (y : Symbol) → m.arity_of (compile D.book) y ≤ 8
      unfolding compile m.arity_of
      small (con c) = arity-small D.book (book-fine b D.book D.end D.is) (con c)
      small (fun f) = arity-small D.book (book-fine b D.book D.end D.is) (fun f)

      counted : Counted (compile D.book) (20 * l.pool) (rest_of l.nodes work')
      counted = record {
        starts = λ f h. let u = ended.start f (omega (arith, many)) in rw (u.0, u.1, word (20 * l.pool + 2 * f) (2 * f) refl, word (20 * l.pool + 2 * f + 1) (2 * f + 1) (omega arith)) (D.filled.starts f h);
        funs = λ f h. (ended.start f (omega (arith, many))).2 ∙ word (20 * l.pool + 512 + f) (512 + f) (omega arith) ∙ D.filled.funs f h;
        cons = λ c h. (ended.con c (omega (arith, cons-many))).0 ∙ word (20 * l.pool + 768 + c) (768 + c) (omega arith) ∙ D.filled.cons c h;
        homed = λ c h. let u = ended.con c (omega (arith, cons-many)) in rw (u.1, u.2, word (20 * l.pool + 1024 + c) (1024 + c) (omega arith), word (20 * l.pool + 1280 + c) (1280 + c) (omega arith)) (D.filled.homes c h);
        no_fun = λ f h. ended.no_fun f (omega (arith, many));
        no_con = λ c h. ended.no_con c (omega (arith, cons-many));
        alike = alike;
        small = small;
      }

      pub set-fits : SettingIs b l work work' code code' (Ok n)
      unfolding SettingIs
      set-fits = record { book = D.book; end = D.end; is = D.is; long = D.long; fits = D.fits; coded = D.stands; tables = has-counted (compile D.book) (20 * l.pool) (rest_of l.nodes work') counted; same = ended.long ∙ ending-long }

-- the compiler's answer, by its cases
pub does-fit : (b : List ℕ) (room : ℕ) (s s' code code' : List ℕ) (r : Result ℕ Refused) (n : ℕ) → CompiledIs b room s s' code code' r → r ≡ Ok n → DoesFit b room s s' code code' n
unfolding CompiledIs
does-fit b room s s' code code' r n x q = subst (CompiledIs b room s s' code code') q x

pub set_long : (b : List ℕ) (l : e.Limits) (work t code code' : List ℕ) (n : ℕ) → IsTooLong b l.code (mid_of (tables_at l) (length work - tables_at l) work) t code code' n → OverRoom b l work (ending work (tables_at l) t) code code' n
set_long b l work t code code' n y =
    record { book = y.book; end = y.end; is = y.is; long = y.long; over = y.over; work_stays = ap (ending work (tables_at l)) y.tables-kept ∙ put_same (tables_at l) (length work - tables_at l) work; code_stays = y.code-kept }

pub set-fault : (b : List ℕ) (l : e.Limits) (work work' s t code code' : List ℕ) (r : Result ℕ Refused) (f : Fault) → CompiledIs b l.code s t code code' r → r ≡ Err (refused.Fault f) → SettingIs b l work work' code code' (Err (refused.Fault f))
unfolding CompiledIs SettingIs
set-fault b l work work' s t code code' r f x q = (subst (CompiledIs b l.code s t code code') q x).0

-- a refusal of the compiler, handed on as it is
pub set-refused : (b : List ℕ) (l : e.Limits) (work t code code' : List ℕ) (r : Result ℕ Refused) (f : Refused) → CompiledIs b l.code (mid_of (tables_at l) (length work - tables_at l) work) t code code' r → r ≡ Err f
    → SettingIs b l work (ending work (tables_at l) t) code code' (Err f)
unfolding CompiledIs SettingIs
set-refused b l work t code code' r f x q = go f (subst (CompiledIs b l.code (mid_of (tables_at l) (length work - tables_at l) work) t code code') q x)
  where
    go : (f : Refused) → CompiledIs b l.code (mid_of (tables_at l) (length work - tables_at l) work) t code code' (Err f) → SettingIs b l work (ending work (tables_at l) t) code code' (Err f)
    go (refused.TooLong n) y = set_long b l work t code code' n y
    go (refused.Fault f) y = y.0
