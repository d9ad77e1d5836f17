use Rattle.std.proofs.Common.{◌≡◌, ℕ, ◌+◌, ◌≤◌, List, ◌++◌, rules, length, take, sym, ap, ◌∙◌, subst}
use Rattle.std.proofs.lemmas.List.{take-append-le}
use Rattle.std.specs.Io.KnownBytes.{Consumes}
use Rattle.std.proofs.KnownBytes.{Consumes-trans, Consumes-kept}
use borrow.Rule.Slice.PartMut.{put_mid, post_of}
use lib.Seq.{take-append-add, length-take-le}
use Rattle.input.proofs.Reading.{lost-bytes, lost-then}
use Rattle.input.proofs.read_full.Goals as goal

-- what was read into the rest of a buffer, behind what was there
put_on : (a k n : ℕ) (xs ys : List ℕ) → a ≤ length xs → n ≤ length ys → take (a + n) (put_mid a k xs ys) ≡ take a xs ++ take n ys
put_on a k n xs ys within fits =
    let long = length-take-le a xs within in
    ap (λ (m : ℕ). take (m + n) (put_mid a k xs ys)) (sym long)
    ∙ take-append-add (take a xs) (ys ++ post_of a k xs) n
    ∙ ap (λ (l : List ℕ). take a xs ++ l) (take-append-le n ys (post_of a k xs) fits)

pub loop-done-preserved : goal.loop-done-preserved
loop-done-preserved g c =
    let at = c.loop-done.done in
    record {
      fits = search rules;
      bytes = subst (Consumes _ _) (sym (put_on at _ c.in_ok-n.n c.loop-done.buf c.read.new.buf c.loop-done.invariant.fits c.in_ok-n.ensures.bound.0)) (Consumes-trans _ _ _ _ _ c.loop-done.invariant.bytes c.in_ok-n.ensures.bytes.0);
    }

pub returns-in_err-n-clause-lost : goal.returns-in_err-n-clause-lost
returns-in_err-n-clause-lost g c = lost-bytes _ _ _ (Consumes-kept _ _ _ _ c.loop-done.invariant.bytes c.in_err-n.ensures.bytes)

pub returns-then-n-eq0-clause-lost : goal.returns-then-n-eq0-clause-lost
returns-then-n-eq0-clause-lost g c = lost-then (lost-bytes _ _ _ c.loop-done.invariant.bytes) (lost-bytes _ _ _ c.in_ok-n.ensures.bytes.0)

pub returns-clause-lost : goal.returns-clause-lost
returns-clause-lost g c = lost-bytes _ _ _ c.loop-done.invariant.bytes
