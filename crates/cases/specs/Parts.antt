-- The first pass over a question by its bytes, one behind the other, so that the question may come in parts.
-- Here, in order: the record begun at a place; the next byte; bytes; what the pass has found; how far it has come.
-- Not here: the first pass over whole bytes (book, Record); that both find the same, and that two parts one behind the other are passed as the whole (proofs, Passes).
-- Assumes nothing.
use Rattle.std.specs.Prelude.{ℕ, zero, suc, ◌+◌, List, [], ◌∷◌, Result, Ok}
use Rattle.std.proofs.Math.Option.{Option, none, some}
use Rattle.book.specs.Record.{bad, body_of}
use Rattle.book.specs.declared.Sort.TheVariants.{Unknown, Cut}
use Rattle.book.specs.declared.Fault.{Fault}
use Rattle.cases.specs.declared.Passed.{Passed}
use Rattle.cases.specs.declared.Passed.TheVariants.{Whole, Begun, Lost}

-- the record at place k, by the length of its body
unfoldable pub begun : ℕ → Option ℕ → Passed
begun k none = Lost k
begun k (some zero) = Whole (k + 1)
begun k (some (suc m)) = Begun k m (k + 1)

-- one byte of a body, after which m more are due; it stands at place e
unfoldable pub due : ℕ → ℕ → ℕ → Passed
due k zero e = Whole (e + 1)
due k (suc m) e = Begun k m (e + 1)

-- the next byte
unfoldable pub byte : Passed → ℕ → Passed
byte (Whole k) x = begun k (body_of x)
byte (Begun k m e) x = due k m e
byte (Lost k) x = Lost k

-- the next bytes
unfoldable pub passed : Passed → List ℕ → Passed
passed p [] = p
passed p (x ∷ s) = passed (byte p x) s

-- where a pass begins
abbrev pub start : Passed
start = Whole 0

-- what the first pass says, if the bytes end here: a record that is not whole is cut short
unfoldable pub found : Passed → Result ℕ Fault
found (Whole k) = Ok k
found (Begun k m e) = bad Cut k
found (Lost k) = bad Unknown k

-- the place after what was passed, or that of an unknown kind
unfoldable pub reach : Passed → ℕ
reach (Whole k) = k
reach (Begun k m e) = e
reach (Lost k) = k
