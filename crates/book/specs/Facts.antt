-- Where an accepted book has its things, as the code finds them.
-- Here, in order: the type and the arm of a constructor; the place of a function's tree.
-- Not here: a type's first constructor and count (TypeIs in Steps), the arities (BookRead in Steps).
-- Assumes nothing.
use Rattle.std.specs.Prelude.{ℕ, zero, suc, ◌+◌, ◌-◌, ◌<◌, List, true, false, ◌≡◌, length, get_or, replicate, eqb, Ok, Err}
use Rattle.book.specs.Syntax.{norule, Func, cons_of, first_con, Book}
use Rattle.book.specs.declared.Home.{Home}
use Rattle.book.specs.Record.{got, rec_at, func_arities}
use Rattle.book.specs.Reading.{read_tree, read_book}
use Rattle.book.specs.Steps.{types_of}

-- where constructor c belongs
pub record HomeIs (s : List ℕ) (c : ℕ) (r : Home) : Type 0 where
  pub there : r.ty < length (types_of s)
  pub below : r.arm < length (cons_of (types_of s) r.ty)
  pub is : first_con (types_of s) r.ty + r.arm ≡ c

-- the place after FUNC record f, counted from place k on; the second argument bounds the number of records
unfoldable pub tree_from : List ℕ → ℕ → ℕ → ℕ → ℕ
tree_from s zero k f = k
tree_from s (suc n) k f =
    elim (rec_at s k) [
      | Err w ↦ k
      | Ok r ↦ elim (eqb r.kind 3) [ true ↦ elim (eqb f 0) [ true ↦ r.end | false ↦ tree_from s n r.end (f - 1) ] | false ↦ tree_from s n r.end f ]
    ]

-- function f of a book
unfoldable pub func_of : Book → ℕ → Func
func_of book f = get_or book.funcs f (record { arity = 0; tree = norule })

-- the tree of function f is read at place r
pub record TreeAt (s : List ℕ) (book : Book) (f r : ℕ) : Type 0 where
  pub end : ℕ
  pub is : read_tree (suc (length s)) s book.types (func_arities s) (replicate (func_of book f).arity 1) r ≡ got (func_of book f).tree end

-- in an accepted book that has function f, its tree is read at place r
pub record TreeStands (s : List ℕ) (f r : ℕ) : Type 0 where
  pub is : (book : Book) (e : ℕ) → read_book s ≡ got book e → f < length book.funcs → TreeAt s book f r
