-- From bytes to records: the record at a place, and the first pass over all of them.
-- Here, in order: what reading gives; a record; the length of each kind's body; the record at a place; the first pass; the functions' arities.
-- Not here: which record is expected where (Reading). The form of a fault is declared in src/lib.rt (Sort, Fault).
-- Assumes nothing.
use Rattle.std.specs.Prelude.{ℕ, zero, suc, ◌+◌, List, [], ◌∷◌, Bool, true, false, ◌&&◌, length, get_or, leb, ltb, eqb, Result, Ok, Err}
use Rattle.std.proofs.Math.Option.{Option, none, some}
use Rattle.book.specs.declared.Sort.{Sort}
use Rattle.book.specs.declared.Sort.TheVariants.{Unknown, Cut, Range, End}
use Rattle.book.specs.declared.Fault.{Fault}

-- what reading at a place gives: a thing and the place after it, or the first fault's sort and place
pub data Got (A : Type 0) : Type 0 where
  got : A → ℕ → Got A
  fault : Sort → ℕ → Got A

-- a record: its kind, its body's two bytes (0 for one that it lacks), and the place after it
pub record Rec : Type 0 where
  pub kind : ℕ
  pub a : ℕ
  pub b : ℕ
  pub end : ℕ

-- a fault of this sort, at this place
abbrev pub bad : {A : Type 0} → Sort → ℕ → Result A Fault
bad w k = Err (record { sort = w; at = k })

-- the length of each kind's body, from kind 0 on; `none`: no such kind
abbrev pub bodies : List (Option ℕ)
bodies = none ∷ some 1 ∷ some 1 ∷ some 1 ∷ some 2 ∷ some 1 ∷ some 1 ∷ some 1 ∷ some 1 ∷ some 1 ∷ some 1 ∷ some 0 ∷ []

-- the length of a kind's body
unfoldable pub body_of : ℕ → Option ℕ
body_of k = get_or bodies k none

-- byte i of a body of m bytes that starts at k; 0 where the body has none
unfoldable pub body_byte : List ℕ → ℕ → ℕ → ℕ → ℕ
body_byte s k m i = elim (ltb i m) [ true ↦ get_or s (k + i) 0 | false ↦ 0 ]

-- the record at place k: its kind, its body's bytes and the place after it; or what is wrong there: no byte is left, an unknown kind, a body cut short
unfoldable pub rec_at : List ℕ → ℕ → Result Rec Fault
rec_at s k =
    elim (ltb k (length s)) [
      | false ↦ bad End k
      | true ↦ elim (body_of (get_or s k 0)) [
        | none ↦ bad Unknown k
        | some m ↦ elim (leb (k + 1 + m) (length s)) [
          | false ↦ bad Cut k
          | true ↦ Ok (record { kind = get_or s k 0; a = body_byte s (k + 1) m 0; b = body_byte s (k + 1) m 1; end = k + 1 + m })
        ]
      ]
    ]

-- The first pass: ONE scan over the records from place k on. `fits` judges each by the number of FUNCs before it, its kind and its first number.
-- The third argument bounds the number of records: the length is enough.
unfoldable pub scan : List ℕ → (ℕ → ℕ → ℕ → Bool) → ℕ → ℕ → ℕ → Got Unit
scan s fits zero funcs k = got tt k
scan s fits (suc n) funcs k =
    elim (ltb k (length s)) [
      | false ↦ got tt k
      | true ↦ elim (rec_at s k) [
        | Err f ↦ fault f.sort f.at
        | Ok r ↦ elim (fits funcs r.kind r.a) [
          | false ↦ fault Range k
          | true ↦ elim (eqb r.kind 3) [ true ↦ scan s fits n (suc funcs) r.end | false ↦ scan s fits n funcs r.end ]
        ]
      ]
    ]

-- in a book, a FUNC has an arity up to 8, and there are at most 256
unfoldable pub book_fits : ℕ → ℕ → ℕ → Bool
book_fits funcs kind a = elim (eqb kind 3) [ true ↦ leb a 8 && ltb funcs 256 | false ↦ true ]

-- a question's first pass looks only for unknown kinds and cut bodies
unfoldable pub any_fits : ℕ → ℕ → ℕ → Bool
any_fits funcs kind a = true

-- the arities of all FUNCs from place k on; the second argument bounds the number of records
unfoldable pub funcs_from : List ℕ → ℕ → ℕ → List ℕ
funcs_from s zero k = []
funcs_from s (suc n) k =
    elim (rec_at s k) [
      | Err f ↦ []
      | Ok r ↦ elim (eqb r.kind 3) [ true ↦ r.a ∷ funcs_from s n r.end | false ↦ funcs_from s n r.end ]
    ]

-- the arities of the FUNCs of the first pass, by function number, misplaced ones too
unfoldable pub func_arities : List ℕ → List ℕ
func_arities s = funcs_from s (length s) 0
