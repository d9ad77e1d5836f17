-- From bytes to a book or a question, left to right, or the first fault's sort and place.
-- Here, in order: readers; cases of records; terms and RIGHTs; slots and trees; TYPEs and FUNCs; a book's bytes and a question's.
-- Not here: the record at a place and the first pass (Record), what a book says (Syntax), the numbers of the answers (Answers).
-- Assumes nothing.
use Rattle.std.specs.Prelude.{ℕ, zero, suc, ◌+◌, List, [], ◌∷◌, ◌++◌, map, Bool, true, false, ◌&&◌, length, get_or, set, replicate, leb, ltb, eqb, Result, Ok, Err}
use Rattle.std.proofs.Math.Option.{Option, none, some}
use Rattle.book.specs.Syntax.{Symbol, con, fun, Term, Terms, app, slot, fresh, done, arg, Right, Tree, Trees, split, rule, norule, stop, child, Func, arity, Book, con_arities, cons_of}
use Rattle.book.specs.declared.Sort.TheVariants.{Range, Unexpected, End}
use Rattle.book.specs.declared.Fault.{Fault}
use Rattle.book.specs.Record.{Got, got, fault, Rec, rec_at, scan, book_fits, any_fits, func_arities}

-- reading a thing from a place on
abbrev pub Reader : Type 0 → Type 0
Reader A = ℕ → Got A

module _ {A B : Type 0} where
  -- on from what was read; a fault stays
  unfoldable pub after : Got A → (A → Reader B) → Got B
  after (got a e) f = f a e
  after (fault w p) f = fault w p

  -- what is read, made into another thing
  unfoldable pub make : (A → B) → Got A → Got B
  make f (got a e) = got (f a) e
  make f (fault w p) = fault w p

-- a kind of record: what the two bytes of its body must be like, and what is read after it
pub record Case (A : Type 0) : Type 0 where
  pub kind : ℕ
  pub fits : ℕ → ℕ → Bool
  pub read : ℕ → ℕ → Reader A

module _ {A : Type 0} where
  -- a case from its parts
  abbrev pub case : ℕ → (ℕ → ℕ → Bool) → (ℕ → ℕ → Reader A) → Case A
  case kind fits read = record { kind = kind; fits = fits; read = read }

  -- the record at k must be of one of these kinds, else it is unexpected; and its body must fit, else it is out of range
  unfoldable pub pick : List (Case A) → ℕ → Result Rec Fault → Got A
  pick cases k (Err f) = fault f.sort f.at
  pick [] k (Ok r) = fault Unexpected k
  pick (c ∷ cases) k (Ok r) =
      elim (eqb r.kind c.kind) [
        | true ↦ elim (c.fits r.a r.b) [ true ↦ c.read r.a r.b r.end | false ↦ fault Range k ]
        | false ↦ pick cases k (Ok r)
      ]

  -- the next record is of one of these kinds
  abbrev pub one_of : List ℕ → List (Case A) → Reader A
  one_of s cases k = pick cases k (rec_at s k)

-- any body will do
abbrev pub any_body : ℕ → ℕ → Bool
any_body a b = true

-- what a term may name: constructors and functions, by their arities; how many slots, `none` in a question, which has no SLOT; how many fresh variables
pub record Names : Type 0 where
  pub cons : List ℕ
  pub funcs : List ℕ
  pub slots : Option ℕ
  pub vars : ℕ

-- the first record of a term: how many terms follow as its arguments, and the term that it makes of them
pub record Head : Type 0 where
  pub args : ℕ
  pub term : Terms → Term

-- a symbol's record, with as many arguments as its arity
abbrev pub applied : Symbol → ℕ → Head
applied f a = record { args = a; term = λ ts. app f ts }

-- a record that is a term by itself
abbrev pub alone : Term → Head
alone t = record { args = 0; term = λ ts. t }

-- a SLOT is expected only where there is a pattern: not in a question
unfoldable pub slot_case : Option ℕ → Bool → List (Case Head)
slot_case none more = []
slot_case (some slots) more = case 9 (λ n _. more && ltb n slots) (λ n _ e. got (alone (slot n)) e) ∷ []

-- a term's record; `more`: the term may have one more
unfoldable pub read_head : List ℕ → Names → Bool → Reader Head
read_head s names more = one_of s (
    case 7 (λ c _. more && ltb c (length names.cons)) (λ c _ e. got (applied (con c) (get_or names.cons c 0)) e)
    ∷ case 8 (λ f _. more && ltb f (length names.funcs)) (λ f _ e. got (applied (fun f) (get_or names.funcs f 0)) e)
    ∷ case 10 (λ v _. more && ltb v names.vars) (λ v _ e. got (alone (fresh v)) e)
    ∷ slot_case names.slots more)

-- the first n of some terms
unfoldable pub first_terms : ℕ → Terms → Terms
first_terms zero ts = done
first_terms (suc n) done = done
first_terms (suc n) (arg t ts) = arg t (first_terms n ts)

-- and the others
unfoldable pub others_of : ℕ → Terms → Terms
others_of zero ts = ts
others_of (suc n) done = done
others_of (suc n) (arg t ts) = others_of n ts

-- the first of the terms that follow are the head's arguments
unfoldable pub joined : Head → Terms → Terms
joined h ts = arg (h.term (first_terms h.args ts)) (others_of h.args ts)

-- The terms that are due, with the number of records that they may still have. A head with a arguments makes a more terms due.
unfoldable pub read_terms : List ℕ → Names → ℕ → ℕ → Reader Terms
read_terms s names zero zero k = got done k
read_terms s names (suc room) zero k = got done k
read_terms s names zero (suc due) k = after (read_head s names false k) (λ h e. got done e)
read_terms s names (suc room) (suc due) k = after (read_head s names true k) (λ h e. make (joined h) (read_terms s names room (h.args + due) e))

-- the one term that was due
unfoldable pub the_one : Terms → Term
the_one done = slot 0
the_one (arg t ts) = t

-- a RIGHT, whose term has at most 255 records
unfoldable pub read_right : List ℕ → List ℕ → List ℕ → Option ℕ → Reader Right
read_right s cons funcs slots = one_of s (
    case 6 (λ v _. leb v 8) (λ v _ e. make (λ ts. record { vars = v; term = the_one ts }) (read_terms s (record { cons = cons; funcs = funcs; slots = slots; vars = v }) 255 1 e))
    ∷ [])

-- as many RIGHTs as the RULE says
unfoldable pub read_rights : Reader Right → ℕ → Reader (List Right)
read_rights one zero k = got [] k
read_rights one (suc n) k = after (one k) (λ r e. make (λ rs. r ∷ rs) (read_rights one n e))

-- The slots of a pattern: the length of each one's position, and 8, which is too long to split, for one that is split already.
abbrev pub Slots : Type 0
Slots = List ℕ

-- no child may have more than 64 slots
unfoldable pub all_fit : ℕ → List ℕ → Bool
all_fit n [] = true
all_fit n (a ∷ more) = leb (n + a) 64 && all_fit n more

-- whether slot n can be split by type t: both exist, the slot is not split already on the path and its position is shorter than 8, and each child's slots are few enough
unfoldable pub splits : List (List ℕ) → Slots → ℕ → ℕ → Bool
splits types slots n t = ltb (get_or slots n 8) 8 && ltb t (length types) && all_fit (length slots) (cons_of types t)

-- the slots under a SPLIT of slot n, for a constructor of arity a
unfoldable pub under : Slots → ℕ → ℕ → Slots
under slots n a = set slots n 8 ++ replicate a (get_or slots n 8 + 1)

-- a tree for each constructor's arity, in order
unfoldable pub read_trees : (ℕ → Reader Tree) → List ℕ → Reader Trees
read_trees one [] k = got stop k
read_trees one (a ∷ more) k = after (one a k) (λ t e. make (child t) (read_trees one more e))

-- A tree: SPLIT, RULE or NONE. The first argument bounds the depth: the number of bytes is enough.
unfoldable pub read_tree : ℕ → List ℕ → List (List ℕ) → List ℕ → Slots → Reader Tree
read_tree zero s types funcs slots k = fault End k
read_tree (suc n) s types funcs slots k = one_of s (
    case 4 (λ i t. splits types slots i t) (λ i t e. make (split i t) (read_trees (λ a. read_tree n s types funcs (under slots i a)) (cons_of types t) e))
    ∷ case 5 (λ c _. leb 1 c && leb c 16) (λ c _ e. make rule (read_rights (read_right s (con_arities types) funcs (some (length slots))) c e))
    ∷ case 11 any_body (λ _ _ e. got norule e)
    ∷ []) k

-- the CONS records of a TYPE, `before` of them standing before these; the 257th is at fault itself
unfoldable pub read_cons : List ℕ → ℕ → ℕ → Reader (List ℕ)
read_cons s before zero k = got [] k
read_cons s before (suc n) k = one_of s (
    case 2 (λ a _. ltb before 256 && leb a 8) (λ a _ e. make (λ more. a ∷ more) (read_cons s (suc before) n e))
    ∷ []) k

-- the record is of this kind
abbrev pub is_kind : ℕ → Result Rec Fault → Bool
is_kind k (Err f) = false
is_kind k (Ok r) = eqb r.kind k

-- The TYPEs, with the number of those before and of the constructors before. The second argument bounds their number: 65 is enough, since the 65th is at fault.
unfoldable pub read_types : List ℕ → ℕ → ℕ → ℕ → Reader (List (List ℕ))
read_types s zero types cons k = got [] k
read_types s (suc n) types cons k =
    elim (is_kind 1 (rec_at s k)) [
      | true ↦ one_of s (
          case 1 (λ c _. ltb types 64 && leb 1 c && leb c 32)
          (λ c _ e. after (read_cons s cons c e) (λ cs e. make (λ ts. cs ∷ ts) (read_types s n (suc types) (cons + c) e)))
          ∷ []) k
      | false ↦ got [] k
    ]

-- the FUNCs, up to the end, each with its tree; the first argument bounds their number: the number of bytes is enough
unfoldable pub read_funcs : ℕ → List ℕ → List (List ℕ) → List ℕ → Reader (List Func)
read_funcs zero s types funcs k = got [] k
read_funcs (suc n) s types funcs k =
    elim (ltb k (length s)) [
      | false ↦ got [] k
      | true ↦ one_of s (
          case 3 (λ a _. leb a 8) (λ a _ e. after (read_tree (suc (length s)) s types funcs (replicate a 1) e)
          (λ t e. make (λ fs. record { arity = a; tree = t } ∷ fs) (read_funcs n s types funcs e)))
          ∷ []) k
    ]

-- a book's bytes, read: over 32,768 bytes is a fault at 32,768; then the first pass; then its TYPEs and its FUNCs
unfoldable pub read_book : List ℕ → Got Book
read_book s =
    elim (leb (length s) 32768) [
      | false ↦ fault End 32768
      | true ↦ after (scan s book_fits (length s) 0 0) (λ _ _.
          after (read_types s 65 0 0 0) (λ types e.
          make (λ funcs. record { types = types; funcs = funcs }) (read_funcs (length s) s types (func_arities s) e)))
    ]

-- nothing may follow
unfoldable pub last : List ℕ → Right → Reader Right
last s r k = elim (ltb k (length s)) [ true ↦ fault End k | false ↦ got r k ]

-- a question's bytes, over the arities of a book's constructors and functions: the first pass, then one RIGHT and its term
unfoldable pub read_alone : List ℕ → List ℕ → List ℕ → Got Right
read_alone cons funcs s =
    after (scan s any_fits (length s) 0 0) (λ _ _.
    after (read_right s cons funcs none 0) (last s))

-- a question's bytes, read over a book
unfoldable pub read_question : Book → List ℕ → Got Right
read_question book s = read_alone (con_arities book.types) (map arity book.funcs) s
