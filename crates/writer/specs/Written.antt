-- What is written: the bytes over what is lent, and the table of the variables seen: their numbers + 1 in the places, themselves in the list.
-- Here, in order: bytes over a list; the table; what the functions leave.
-- Assumes nothing.
use Rattle.std.specs.Prelude.{ℕ, suc, ◌+◌, ◌≤◌, ◌<◌, ◌≡◌, length, get_or, take, drop, replicate}
use mathlib.Core.List.{List, ◌++◌, Memᴰ}
use Rattle.std.proofs.Math.Option.{Option, none, some}
use Rattle.std.proofs.lemmas.List.Edits.{sets}
use Rattle.heap.specs.Graph.{index_of, variable}
use Rattle.heap.specs.Place.{Distinct}
use Rattle.store.specs.Regions.{list_of, places_of, frames_of}
use Rattle.writer.specs.Walk.{Kept}
use Rattle.writer.specs.Owes.{numbered}
use Rattle.writer.specs.declared.Met.{Met}
use Rattle.writer.specs.declared.Met.TheVariants.{Made, Free, Nothing}

-- l with bs over it from place k on
unfoldable pub over : List ℕ → ℕ → List ℕ → List ℕ
over l k bs = sets l k bs

-- the variables seen, the bytes written and the next place, when x is all that comes
pub record End : Type 0 where
  pub seen : List ℕ
  pub out : List ℕ
  pub at : ℕ

abbrev pub ends : List ℕ → ℕ → List ℕ × List ℕ → End
ends out at x = record { seen = x.0; out = over out at x.1; at = at + length x.1 }

-- the first n of the list
unfoldable pub seen_of : ℕ → List ℕ → ℕ → List ℕ
seen_of L s n = take n (list_of L s)

unfoldable pub place_of : Option ℕ → ℕ
place_of none = 0
place_of (some i) = suc i

-- n variables are seen: they are the first of the list, and the places have their numbers
pub record Table (L : ℕ) (s : List ℕ) (n : ℕ) : Type 0 where
  pub short : n ≤ L
  pub placed : (k : ℕ) → k < L → get_or (places_of L s) k 0 ≡ place_of (index_of k (seen_of L s n))
  pub distinct : Distinct (seen_of L s n)
  pub low : (k : ℕ) → Memᴰ k (seen_of L s n) → k < L

-- no node has a place
abbrev pub Clean : ℕ → List ℕ → Type 0
Clean L s = places_of L s ≡ replicate L 0

-- a variable that is met is a number below the limit
abbrev pub Within : ℕ → Met → Type 0
Within L (Made c) = Unit {0}
Within L (Free n) = n.0 < L
Within L Nothing = Unit {0}

-- variable k has the number no, and seen' are seen; the frames stay
pub record Named (L : ℕ) (s s' : List ℕ) (seen k no seen' : ℕ) : Type 0 where
  pub is : (seen_of L s' seen', variable no) ≡ numbered (index_of k (seen_of L s seen)) (seen_of L s seen) k
  pub table : Table L s' seen'
  pub kept : Kept L s s'
  pub frames : frames_of L s' ≡ frames_of L s

-- x is written at `at`; the frames stay
pub record Told (L : ℕ) (s s' out out' : List ℕ) (at : ℕ) (x : List ℕ × List ℕ) (seen' at' : ℕ) : Type 0 where
  pub is : ◌≡◌ {A = End} (record { seen = seen_of L s' seen'; out = out'; at = at' }) (ends out at x)
  pub table : Table L s' seen'
  pub kept : Kept L s s'
  pub frames : frames_of L s' ≡ frames_of L s

-- x is written at `at`
pub record Writes (L : ℕ) (s s' out out' : List ℕ) (at : ℕ) (x : List ℕ × List ℕ) (seen' at' : ℕ) : Type 0 where
  pub is : ◌≡◌ {A = End} (record { seen = seen_of L s' seen'; out = out'; at = at' }) (ends out at x)
  pub table : Table L s' seen'
  pub kept : Kept L s s'

pub record Cleared (L : ℕ) (s s' : List ℕ) : Type 0 where
  pub clean : Clean L s'
  pub kept : Kept L s s'

-- bs stand at the start of what was lent, r is how many they are, and the places are clean again
pub record Written (L : ℕ) (s s' out out' bs : List ℕ) (r : ℕ) : Type 0 where
  pub bytes : out' ≡ bs ++ drop (length bs) out
  pub count : r ≡ length bs
  pub clean : Clean L s'
  pub kept : Kept L s s'
