use Rattle.std.proofs.Common.{List, [], ℕ, ◌++◌, ◌≡◌, subst, append-nil, rules}
use Rattle.std.proofs.lemmas.List.{nil_from_length}
use Rattle.std.specs.Io.KnownBytes.{Appends}
use Rattle.std.proofs.KnownBytes.{Appends-nil, Appends-trans}
use Rattle.lines.specs.Written.{hex}
use Rattle.lines.proofs.Hex.{hex-part}
use Rattle.lines.proofs.print_hex.Goals as goal

pub loop-part-init : goal.loop-part-init
loop-part-init g c = (search rules, tt, search rules, ([], Appends-nil _, search rules))

pub loop-part-preserved : goal.loop-part-preserved
loop-part-preserved g c =
    let steps = c.in-Some.ensures.steps in
    let so_far = c.loop-part.invariant.3 in (
      search rules,
      tt,
      search rules,
      (
        so_far.0 ++ hex c.in-Some.part.now,
        Appends-trans _ _ _ _ _ so_far.1 c.in_ok-print_part.ensures,
        hex-part so_far.0 c.in-Some.part.now _ _ _ steps.1.0 so_far.2,
      ),
    )

all_done : (done rest all : List ℕ) → rest ≡ [] → done ++ hex rest ≡ hex all → done ≡ hex all
unfolding hex
all_done done rest all e h = rw (e, append-nil) at h

pub returns : goal.returns
returns g c =
    let so_far = c.loop-part.invariant.3 in
    subst (λ (l : List ℕ). Appends (g.W.Write.contents c.args.out.now) (g.W.Write.contents c.loop-part.out) l) (all_done so_far.0 _ _ (nil_from_length _ c.in-None.ensures.steps.1.0) so_far.2) so_far.1
