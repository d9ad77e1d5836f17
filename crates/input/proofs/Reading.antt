-- Laws of what reading takes from an input.
-- Assumes nothing.
use Rattle.std.proofs.Common.{ℕ, ◌+◌, ◌≤◌, ◌≡◌, List, [], ◌++◌, length, take, arith}
use Rattle.std.specs.declared.option.Option.{Option}
use Rattle.std.specs.Io.KnownBytes.{Consumes}
use Rattle.std.proofs.KnownBytes.{Consumes-nil, Consumes-trans}
use lib.Seq.{length-take-le}
use lib.ListN.{length-append}
use Rattle.input.specs.Reading.{Lost, Gone}

-- bytes that were read
pub lost-bytes : (a b : Option (List ℕ)) (bs : List ℕ) → Consumes a b bs → Lost a b
lost-bytes a b bs p = record { bytes = bs; front = p }

-- nothing was read
pub lost-none : (a : Option (List ℕ)) → Lost a a
lost-none a = record { bytes = []; front = Consumes-nil a }

-- some was read, and then some more
pub lost-then : {a b c : Option (List ℕ)} → Lost a b → Lost b c → Lost a c
lost-then {a} {b} {c} p q = record { bytes = p.bytes ++ q.bytes; front = Consumes-trans a b c p.bytes q.bytes p.front q.front }

-- the same, counted
pub gone-none : (a : Option (List ℕ)) → Gone 0 a a
gone-none a = record { bytes = []; many = omega arith; front = Consumes-nil a }

pub gone-then : {a b c : Option (List ℕ)} (n k m : ℕ) → Gone n a b → (bs : List ℕ) → k ≤ length bs → Consumes b c (take k bs) → n + k ≡ m → Gone m a c
gone-then {a} {b} {c} n k m p bs f q e =
    let x = length-append p.bytes (take k bs) in
    let y = length-take-le k bs f in
    let z = p.many in
    record { bytes = p.bytes ++ take k bs; many = omega arith; front = Consumes-trans a b c p.bytes (take k bs) p.front q }

pub gone-lost : {n : ℕ} {a b : Option (List ℕ)} → Gone n a b → Lost a b
gone-lost p = record { bytes = p.bytes; front = p.front }
