use mathlib.Core.Path.{◌≡◌, ap, sym, ◌∙◌}
use lib.Dec.{ltb}
use borrow.Author.Tests.{lt-ltb, le-ltb}
use Rattle.book.specs.Reading.{read_head}
use Rattle.book.specs.Steps.{args_of, names, slots_of}
use Rattle.std.proofs.lemmas.Result.{err_from_is_err_and}
use Rattle.book.specs.Kinds.{number_of, by_number}
use Rattle.book.proofs.Numbers.{other-number}
use Rattle.book.proofs.Words.{counted, counted-some, counted-none, counted-full, head-bad, head-odd, head-con, head-fun, head-slot, head-var}
use Rattle.book.proofs.term.head_at.Goals as goal
use Rattle.book.proofs.term.head_at.Goals.{in-Con-default, in-Call-default, in-Slot-Some, in-Fresh-default, in_default-via-in-Slot+in_default, in_default-via-in_default, in_default-known-via-in-Some+else-room-gt0, in_default-known-via-in_default-known}

pub returns-in_err-r : goal.returns-in_err-r
returns-in_err-r c = let p = err_from_is_err_and c.from_residual.result c.from_residual.ensures.1 in rw (p.1, p.2) (head-bad _ _ _ _ c.rec_at.ensures (ap by_number c.in_err-r.was))

pub returns-in-Some : goal.returns-in-Some
returns-in-Some c =
    let known : counted (ltb 0 c.args.room) c.match-r.known c.args.at c.in_ok-r.r.end ≡ args_of (read_head c.args.s.now (names c.args.cons.now c.args.funcs.now c.args.pattern c.args.vars) (ltb 0 c.args.room) c.args.at) = elim c.match-r.branch [
      | in-Con-default w ↦ head-con _ _ _ _ c.rec_at.ensures (ap by_number c.in_ok-r.was) (ap number_of w.in-Con-default.is-0) (w.known-is ∙ w.con_arity-known.ensures)
      | in-Call-default w ↦ head-fun _ _ _ _ c.rec_at.ensures (ap by_number c.in_ok-r.was) (ap number_of w.in-Call-default.is-0) (w.known-is ∙ w.fun_arity-known.ensures)
      | in-Slot-Some w ↦ head-slot _ _ _ _ c.rec_at.ensures (ap by_number c.in_ok-r.was) (ap number_of w.in-Slot-Some.is-0) (ap slots_of w.in-Slot-Some.is-1) (w.known-is ∙ w.alone-known.ensures)
      | in-Fresh-default w ↦ head-var _ _ _ _ c.rec_at.ensures (ap by_number c.in_ok-r.was) (ap number_of w.in-Fresh-default.is-0) (w.known-is ∙ w.alone-known-in-Fresh-default.ensures)
    ] in
    sym (counted-some _ _ (lt-ltb 0 c.args.room c.if-room-gt0.true) c.in-Some.is) ∙ known

pub returns-in_default : goal.returns-in_default
returns-in_default c = rw c.new.ensures (elim c.in_default.branch [
  | in_default-via-in-Slot+in_default w ↦ let d = w.in_default in head-odd _ _ _ _ c.rec_at.ensures (ap by_number c.in_ok-r.was) (other-number d.not-Con-0) (other-number d.not-Call-0) (other-number d.not-Fresh-0) (λ q. ap slots_of d.is-1)
  | in_default-via-in_default w ↦ let d = w.in_default in head-odd _ _ _ _ c.rec_at.ensures (ap by_number c.in_ok-r.was) (other-number d.not-Con-0) (other-number d.not-Call-0) (other-number d.not-Fresh-0) (λ q. absurd (other-number d.not-Slot-0 q))
])

pub returns-in_default-known : goal.returns-in_default-known
returns-in_default-known c =
    let known : counted (ltb 0 c.args.room) c.match-r.known c.args.at c.in_ok-r.r.end ≡ args_of (read_head c.args.s.now (names c.args.cons.now c.args.funcs.now c.args.pattern c.args.vars) (ltb 0 c.args.room) c.args.at) = elim c.match-r.branch [
      | in-Con-default w ↦ head-con _ _ _ _ c.rec_at.ensures (ap by_number c.in_ok-r.was) (ap number_of w.in-Con-default.is-0) (w.known-is ∙ w.con_arity-known.ensures)
      | in-Call-default w ↦ head-fun _ _ _ _ c.rec_at.ensures (ap by_number c.in_ok-r.was) (ap number_of w.in-Call-default.is-0) (w.known-is ∙ w.fun_arity-known.ensures)
      | in-Slot-Some w ↦ head-slot _ _ _ _ c.rec_at.ensures (ap by_number c.in_ok-r.was) (ap number_of w.in-Slot-Some.is-0) (ap slots_of w.in-Slot-Some.is-1) (w.known-is ∙ w.alone-known.ensures)
      | in-Fresh-default w ↦ head-var _ _ _ _ c.rec_at.ensures (ap by_number c.in_ok-r.was) (ap number_of w.in-Fresh-default.is-0) (w.known-is ∙ w.alone-known-in-Fresh-default.ensures)
    ] in
    rw c.new-in_default-known.ensures (elim c.in_default-known.branch [ in_default-known-via-in-Some+else-room-gt0 w ↦ sym (counted-full c.match-r.known _ _ (le-ltb 0 c.args.room w.if-room-gt0.false)) ∙ known | in_default-known-via-in_default-known w ↦ sym (counted-none _ _ _ w.in_default-known.is) ∙ known ])
