-- What the refusals leave: the four ways in which a run is refused, in their order, or what is known of a run that is not.
-- Here, in order: what is known of a run that is not refused; the five cases; each run is one of them; what the two runs then are.
-- Assumes nothing.
use Prim.Native.Nat.{ℕ}
use mathlib.Core.Path.{◌≡◌, refl}
use mathlib.Core.Bool.{Bool, true, false, ◌&&◌}
use mathlib.Core.List.{List}
use lib.Dec.{leb}
use lib.ListN.{length}
use Rattle.book.specs.declared.Sort.{Sort}
use Rattle.book.specs.Syntax.{Right, Book}
use Rattle.book.specs.Record.{Got, got, fault}
use Rattle.book.specs.Reading.{read_book, read_question}
use Rattle.engine.specs.Plain as Plain
use Rattle.engine.specs.Compile.{compile}
use Rattle.engine.specs.Machine as Machine
use Rattle.engine.specs.Machine.{from_start}
use Rattle.engine.specs.Run.{Limits, Lent, in_range, lent_fits, Outcome, bad_limits, bad_book, bad_question, long_code, ask, refused, closed, checked, plain, machine}

-- limits and lent memory are accepted, the bytes are this book and this question, and the book's code fits
pub record Accepted (l : Limits) (m : Lent) (b q : List ℕ) (book : Book) (r : Right) : Type 0 where
  pub limits : (in_range l && lent_fits l m) ≡ true
  pub book_end : ℕ
  pub reads : read_book b ≡ got book book_end
  pub question_end : ℕ
  pub asks : read_question book q ≡ got r question_end
  pub short : leb (length (compile book).code) l.code ≡ true

module _ (l : Limits) (m : Lent) (b q : List ℕ) where
  -- refused for limits or lent memory, for the book, for the question, for the code's length; or not refused
  pub data Case : Type 0 where
    at-limits : (in_range l && lent_fits l m) ≡ false → ((go : Book → Right → Outcome) → checked l m b q go ≡ refused bad_limits) → Case
    at-book : (w : Sort) (p : ℕ) → read_book b ≡ fault w p → ((go : Book → Right → Outcome) → checked l m b q go ≡ refused (bad_book w p)) → Case
    at-question : (book : Book) (e : ℕ) (w : Sort) (p : ℕ) → read_book b ≡ got book e → read_question book q ≡ fault w p → ((go : Book → Right → Outcome) → checked l m b q go ≡ refused (bad_question w p)) → Case
    at_code : (book : Book) (e : ℕ) (r : Right) (d : ℕ) → read_book b ≡ got book e → read_question book q ≡ got r d → ((go : Book → Right → Outcome) → checked l m b q go ≡ refused long_code) → Case
    runs : (book : Book) (r : Right) → Accepted l m b q book r → Case

  -- each run is one of these
  pub case : Case
  unfolding checked
  case = on-range (in_range l && lent_fits l m) refl
    where
      on-code : (book : Book) (e : ℕ) (r : Right) (d : ℕ) (c : Bool) → (in_range l && lent_fits l m) ≡ true → read_book b ≡ got book e → read_question book q ≡ got r d → leb (length (compile book).code) l.code ≡ c → Case
      on-code book e r d false t u v w = at_code book e r d u v (λ go. rw (t, u, v, w, checked))
      on-code book e r d true t u v w = runs book r (record { limits = t; book_end = e; reads = u; question_end = d; asks = v; short = w })

      on-question : (book : Book) (e : ℕ) (x : Got Right) → (in_range l && lent_fits l m) ≡ true → read_book b ≡ got book e → read_question book q ≡ x → Case
      on-question book e (fault w p) t u v = at-question book e w p u v (λ go. rw (t, u, v, checked))
      on-question book e (got r d) t u v = on-code book e r d (leb (length (compile book).code) l.code) t u v refl

      on-book : (x : Got Book) → (in_range l && lent_fits l m) ≡ true → read_book b ≡ x → Case
      on-book (fault w p) t u = at-book w p u (λ go. rw (t, u, checked))
      on-book (got book e) t u = on-question book e (read_question book q) t u refl

      on-range : (x : Bool) → (in_range l && lent_fits l m) ≡ x → Case
      on-range false t = at-limits t (λ go. rw (t, checked))
      on-range true t = on-book (read_book b) t refl

module _ {l : Limits} {m : Lent} {b q : List ℕ} {book : Book} {r : Right} (A : Accepted l m b q book r) where
  pub checked-runs : (go : Book → Right → Outcome) → checked l m b q go ≡ go book r
  unfolding checked
  checked-runs go = rw (A.limits, A.reads, A.asks, A.short, checked)

  -- the plain run of an accepted book and question
  pub plain-asks : plain l m b q ≡ closed (compile book).code (ask (Plain.turn book) l (λ c. c) r)
  unfolding plain
  plain-asks = checked-runs (λ book right. closed (compile book).code (ask (Plain.turn book) l (λ c. c) right))

  -- the machine's
  pub machine-asks : machine l m b q ≡ closed (compile book).code (ask (Machine.turn (compile book)) l from_start r)
  unfolding machine
  machine-asks = checked-runs (λ book right. closed (compile book).code (ask (Machine.turn (compile book)) l from_start right))
