-- The kinds of records, as the code has them, and their numbers.
-- Here, in order: a kind's number; a number's kind; a record that the code read, by its kind's number.
-- Not here: what a record is (Record).
-- Assumes nothing.
use Rattle.std.specs.Prelude.{ℕ, List, [], ◌∷◌, get_or, Option, Some, None, Result, Ok, Err}
use Rattle.book.specs.declared.Fault.{Fault}
use Rattle.book.specs.declared.Kind.{Kind}
use Rattle.book.specs.declared.Kind.TheVariants as kind
use Rattle.book.specs.declared.Rec as code
use Rattle.book.specs.Record.{Rec}

-- a kind's number
abbrev pub number_of : Kind → ℕ
number_of kind.Type = 1
number_of kind.Cons = 2
number_of kind.Func = 3
number_of kind.Split = 4
number_of kind.Rule = 5
number_of kind.Right = 6
number_of kind.Con = 7
number_of kind.Call = 8
number_of kind.Slot = 9
number_of kind.Fresh = 10
number_of kind.None = 11

-- the kinds, from number 0 on
abbrev pub kinds : List (Option Kind)
kinds = None ∷ Some kind.Type ∷ Some kind.Cons ∷ Some kind.Func ∷ Some kind.Split ∷ Some kind.Rule ∷ Some kind.Right ∷ Some kind.Con ∷ Some kind.Call ∷ Some kind.Slot ∷ Some kind.Fresh ∷ Some kind.None ∷ []

-- the kind of a number, if it is one's
abbrev pub kind_at : ℕ → Option Kind
kind_at n = get_or kinds n None

-- a record that the code read, by its kind's number
abbrev pub by_number : Result code.Rec Fault → Result Rec Fault
by_number (Ok r) = Ok (record { kind = number_of r.kind; a = r.a; b = r.b; end = r.end })
by_number (Err f) = Err f
