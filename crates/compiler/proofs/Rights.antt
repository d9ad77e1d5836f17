-- RIGHTs as they stand in the book, one after the other, and their code.
use Prim.Native.Nat.{ℕ, ◌+◌, ◌-◌, ◌*◌, ◌≤◌, ◌<◌}
use native.Mathlib.Omega.{arith}
use mathlib.Core.Path.{◌≡◌, refl, ap, sym, ◌∙◌, subst}
use mathlib.Core.List.{List, [], ◌∷◌, ◌++◌, append_assoc, map}
use lib.ListN.{length, get_or, drop, length-append}
use Rattle.book.specs.Syntax.{Right, con_arities}
use Rattle.book.specs.Accepted.{records, FineRights}
use Rattle.heap.specs.Build.{up_from}
use Rattle.engine.specs.Code.{emit, store_var}
use Rattle.engine.specs.Compile.{Positions, of_term, of_right, of_rights}
use Rattle.compiler.specs.declared.Lore.{Lore}
use Rattle.compiler.specs.Records.{bytes, term_recs, rights_recs}
use Rattle.compiler.specs.Rows.{Emits, Progress, back, vars_code}
use Rattle.compiler.specs.Here.{TermHere, RightsHere, RightsDone}
use Rattle.compiler.specs.declared.Ends.{Ends}
use Rattle.compiler.proofs.Bytes.{bytes-append}
use Rattle.compiler.proofs.Writing.{progress_start, progress_step, progress-stop, progress-room}
use Rattle.compiler.proofs.Loops.{vars-long}
use Rattle.compiler.proofs.Terms.{two-are, skipped, term-long, term-inside, term-code, vars-emit, emit-append}

pub right-emit : (pos : Positions) (r : Right) (rs : List Right) → emit (of_rights pos (r ∷ rs)) ≡ vars_code r.vars ++ (emit (of_term pos r.term) ++ emit (of_rights pos rs))
unfolding of_rights of_right
right-emit pos r rs =
    emit-append (of_right pos r) (of_rights pos rs)
    ∙ ap (λ (l : List ℕ). l ++ emit (of_rights pos rs)) (emit-append (map store_var (up_from 0 r.vars)) (of_term pos r.term) ∙ ap (λ (l : List ℕ). l ++ emit (of_term pos r.term)) (sym (vars-emit r.vars)))
    ∙ append_assoc (vars_code r.vars) (emit (of_term pos r.term)) (emit (of_rights pos rs))

pub no-rights : (pos : Positions) → emit (of_rights pos []) ≡ []
unfolding of_rights emit
no-rights pos = refl

module _ {s : List ℕ} {lore : Lore} {rows code₀ : List ℕ} {from n o : ℕ} (x : RightsHere s lore rows from n o code₀) where
  -- the RIGHTs that are left
  pub record Left (at left out : ℕ) (code : List ℕ) : Type 0 where
    pub rights : List Right
    pub is : drop at s ≡ bytes (rights_recs rights) ++ x.rest
    pub fine : FineRights (con_arities x.types) x.funcs (length x.pos) rights
    pub count : length rights ≡ left
    pub wrote : Progress code₀ code o out (emit (of_rights x.pos rights)) (emit (of_rights x.pos x.rights))
    pub passed : at + length (bytes (rights_recs rights)) ≡ from + length (bytes (rights_recs x.rights))

  pub left-start : Left from n o code₀
  left-start = record { rights = x.rights; is = x.is; fine = x.fine; count = x.count; wrote = progress_start code₀ o (emit (of_rights x.pos x.rights)); passed = refl }

  -- the first of them, and one turn of the loop
  pub record Turn (at left out : ℕ) (code : List ℕ) : Type 0 where
    pub here : TermHere s lore (at + 2)
    pub vars : ℕ
    pub are : get_or s (at + 1) 0 ≡ vars
    pub inside : at + 2 + 2 * records here.term ≤ length s
    pub ahead : out + (2 * vars + length (back rows s (at + 2) (records here.term))) ≤ length code
    pub next : (size p q : ℕ) (code' code'' : List ℕ) → size ≡ records here.term → Emits code code' out p (vars_code vars) → Emits code' code'' p q (back rows s (at + 2) size) → Left (at + 2 + 2 * size) (left - 1) q code''

  module _ {at left out : ℕ} {code : List ℕ} (d : Left at left out code) where
    pub left-as : (k : ℕ) → left ≡ k → Left at k out code
    left-as k e = subst (λ (k : ℕ). Left at k out code) e d

    pub left-turns : 0 < left → Turn at left out code
    left-turns h = go d.rights d.is d.fine d.count d.wrote d.passed
      where
        go : (rs : List Right) → drop at s ≡ bytes (rights_recs rs) ++ x.rest → FineRights (con_arities x.types) x.funcs (length x.pos) rs → length rs ≡ left
            → Progress code₀ code o out (emit (of_rights x.pos rs)) (emit (of_rights x.pos x.rights)) → at + length (bytes (rights_recs rs)) ≡ from + length (bytes (rights_recs x.rights)) → Turn at left out code
        go [] p f u w v = absurd (omega arith)
        go (r ∷ rs) p f u w v =
            let T : List ℕ = bytes (term_recs r.term) in
            let K : List ℕ = bytes (rights_recs rs) in
            let J : bytes (rights_recs (r ∷ rs)) ≡ 6 ∷ r.vars ∷ (T ++ K) = rw (bytes-append (term_recs r.term) (rights_recs rs)) in
            let two = two-are s at 6 r.vars (T ++ (K ++ x.rest)) (p ∙ ap (λ (l : List ℕ). l ++ x.rest) J ∙ ap (λ (l : List ℕ). 6 ∷ r.vars ∷ l) (append_assoc T K x.rest)) in
            let X : TermHere s lore (at + 2) = record { types = x.types; funcs = x.funcs; told = x.told; slots = length x.pos; vars = r.vars; term = r.term; rest = K ++ x.rest; is = two.rest; fine = f.0.1 } in
            let C : back rows s (at + 2) (records r.term) ≡ emit (of_term x.pos r.term) = term-code rows x.pos x.are s (con_arities x.types) x.funcs r.vars r.term (at + 2) (K ++ x.rest) two.rest f.0.1 in
            let E : emit (of_rights x.pos (r ∷ rs)) ≡ vars_code r.vars ++ (back rows s (at + 2) (records r.term) ++ emit (of_rights x.pos rs)) = right-emit x.pos r rs ∙ rw C in
            let R = progress-room w x.fits in
            record {
              here = X;
              vars = r.vars;
              are = two.second;
              inside = term-inside X;
              ahead =
                  let a = ap length E in
                  let b = length-append (vars_code r.vars) (back rows s (at + 2) (records r.term) ++ emit (of_rights x.pos rs)) in
                  let c = length-append (back rows s (at + 2) (records r.term)) (emit (of_rights x.pos rs)) in
                  let e = vars-long r.vars in
                  omega arith;
              next = λ size p' q' code' code'' m e₁ e₂. (
                  let S : size ≡ records r.term = m in
                  let e₃ : Emits code' code'' p' q' (back rows s (at + 2) (records r.term)) = rw S at e₂ in
                  record {
                    rights = rs;
                    is = rw S (rw (term-long r.term) at (skipped s (at + 2) T (K ++ x.rest) two.rest));
                    fine = f.1;
                    count = omega arith;
                    wrote = progress_step (progress_step w _ e₁ E) _ e₃ refl;
                    passed = omega (arith, ap length J, length-append T K, term-long r.term);
                  });
            }

    pub left-none : left ≤ 0 → (r : Ends) → r.at ≡ at → r.out ≡ out → RightsDone x code r
    left-none h r a b = go d.rights d.count d.wrote d.passed
      where
        go : (rs : List Right) → length rs ≡ left → Progress code₀ code o out (emit (of_rights x.pos rs)) (emit (of_rights x.pos x.rights)) → at + length (bytes (rights_recs rs)) ≡ from + length (bytes (rights_recs x.rights)) → RightsDone x code r
        go [] u w v = let e = progress-stop w (no-rights x.pos) in record { at = omega arith; out = b ∙ e.next; is = e.is }
        go (y ∷ rs) u w v = absurd (omega arith)
