use Rattle.std.proofs.Common.{ℕ, List, ◌≤◌, ◌≡◌, refl, ap, sym, ◌∙◌, length, rules, arith}
use mathlib.Core.Path.{subst⁻¹}
use lib.ListN.{replicate, length-replicate}
use lib.Seq.{length-take-le}
use Rattle.mem.proofs.Laws.{length-words}
use Rattle.guards.proofs.Seen.{code_fits}
use Rattle.guards.proofs.leaves.check_code.Goals as goal

pub compile_into-r-requires : goal.compile_into-r-requires
compile_into-r-requires g c = (search rules, omega arith, rw length-words (search rules))

-- the code fits the array
in_own : {k : ℕ} (own own' : List ℕ) → length own' ≡ length own → own ≡ replicate {A = ℕ} 262144 0 → k ≤ 262144 → k ≤ length own'
in_own {k} own own' h e f = subst⁻¹ (λ (n : ℕ). k ≤ n) (h ∙ ap length e ∙ length-replicate {A = ℕ} 262144 0) f

pub slice_bounds-own-end : goal.slice_bounds-own-end
slice_bounds-own-end g c = in_own _ _ c.compile_into-r.auto.code refl (code_fits _ _ _ _ _ _ c.compile_into-r.ensures c.in-Ok.is)

pub slice_bounds-own-end-in-Ok : goal.slice_bounds-own-end-in-Ok
slice_bounds-own-end-in-Ok g c = sym (length-take-le _ _ (in_own _ _ c.compile_into-r.auto.code refl (code_fits _ _ _ _ _ _ c.compile_into-r.ensures c.in-Ok.is)))
