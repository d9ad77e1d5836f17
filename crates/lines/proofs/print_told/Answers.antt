use Rattle.std.proofs.Common.{ℕ, List, [], ◌∷◌, ◌++◌, ◌≡◌, subst, append_assoc}
use Rattle.std.proofs.lemmas.Result.{on_ok_weaker}
use Rattle.std.specs.Io.KnownBytes.{Appends}
use Rattle.std.specs.Fmt.{decimal}
use Rattle.engine.specs.Run.{number_of, place_of}
use Rattle.run.specs.declared.Outcome.{Outcome}
use Rattle.run.specs.Given.{answer_is}
use Rattle.lines.specs.Written.{told_line}
use Rattle.lines.proofs.print_told.Goals as goal

-- the format's pieces stand in twelve and the rest
pieces : (s a b c d e f g h i : List ℕ) → (a ++ (s ++ (b ++ (s ++ (c ++ (s ++ (d ++ (s ++ (e ++ (s ++ (f ++ s))))))))))) ++ (g ++ (s ++ (h ++ (s ++ i)))) ≡ a ++ (s ++ b) ++ (s ++ c) ++ (s ++ d) ++ (s ++ e) ++ (s ++ f) ++ (s ++ g) ++ (s ++ h) ++ (s ++ i)
pieces s a b c d e f g h i = simp append_assoc

told : (o : Outcome) (n p : ℕ) → n ≡ number_of (answer_is o.answer) → p ≡ place_of (answer_is o.answer)
    → (decimal n ++ (32 ∷ decimal p ++ (32 ∷ decimal o.turns ++ (32 ∷ decimal o.nodes ++ (32 ∷ decimal o.begun ++ (32 ∷ decimal o.split ++ (32 ∷ []))))))) ++ (decimal o.values ++ (32 ∷ decimal o.failed ++ (32 ∷ decimal o.misfits))) ≡ told_line o
unfolding told_line
told o n p h k = rw (h, k) (pieces (32 ∷ []) _ _ (decimal o.turns) (decimal o.nodes) (decimal o.begun) (decimal o.split) (decimal o.values) (decimal o.failed) (decimal o.misfits))

pub returns : goal.returns
returns g c = on_ok_weaker c.write.result (λ h. subst (Appends _ _) (told c.args.o _ _ c.number.ensures c.place.ensures) h) c.write.ensures.bytes
