-- The worked rows on books and questions, computed: what the two checks' definitions give.
-- Here, in order: a row; the table; the one statement on all of its rows.
-- Not here: rows of the run (engine).
-- Assumes nothing.
use Rattle.std.specs.Prelude.{ℕ, zero, suc, List, [], ◌∷◌, ◌++◌, map, ◌≡◌, refl}
use Rattle.book.specs.Syntax.{arity}
use Rattle.book.specs.declared.Sort.{Sort}
use Rattle.book.specs.declared.Sort.TheVariants.{Unknown, Cut, Range, Unexpected, End}
use Rattle.book.specs.Record.{body_of, body_byte, rec_at, scan, book_fits, any_fits, funcs_from, func_arities}
use Rattle.book.specs.Reading.{after, make, pick, slot_case, read_head, first_terms, others_of, joined, read_terms, the_one, read_right, read_rights, all_fit, splits, under, read_trees, read_tree, read_cons, read_types, read_funcs, read_book, last, read_alone, read_question}
use Rattle.book.specs.Answers.{Told, told, zeros, Verdict, accepted, book_fault, question_fault, told_of, on_question, on_both, check_question}

-- a verdict with what it tells
pub data Seen : Type 0 where
  seen : Verdict → Told → Seen

-- a book and a question, and what is seen of the question check
pub record Row : Type 0 where
  book : List ℕ
  question : List ℕ
  gives : Seen

-- both are accepted
abbrev fine : List ℕ → List ℕ → Row
fine b q = record { book = b; question = q; gives = seen accepted (told 0 0 zeros) }

-- the book is at fault, whatever the question
abbrev book_at : List ℕ → Sort → ℕ → Row
book_at b w p = record { book = b; question = []; gives = seen (book_fault w p) (told 11 p zeros) }

-- the question is at fault
abbrev question_at : List ℕ → List ℕ → Sort → ℕ → Row
question_at b q w p = record { book = b; question = q; gives = seen (question_fault w p) (told 12 p zeros) }

-- a list n times over
abbrev times : ℕ → List ℕ → List ℕ
times zero l = []
times (suc n) l = l ++ times n l

-- book B of document 01
abbrev book_b : List ℕ
book_b = 1 ∷ 2 ∷ 2 ∷ 0 ∷ 2 ∷ 0 ∷ 1 ∷ 3 ∷ 2 ∷ 0 ∷ 2 ∷ 0 ∷ 2 ∷ 0 ∷ 3 ∷ 1 ∷ 4 ∷ 0 ∷ 1 ∷ 5 ∷ 1 ∷ 6 ∷ 0 ∷ 7 ∷ 0 ∷ 5 ∷ 1 ∷ 6 ∷ 0 ∷ 7 ∷ 1 ∷ 5 ∷ 1 ∷ 6 ∷ 0 ∷ 7 ∷ 1 ∷ 3 ∷ 2 ∷ 4 ∷ 0 ∷ 0 ∷ 11 ∷ 5 ∷ 1 ∷ 6 ∷ 0 ∷ 9 ∷ 1 ∷ []

-- the rows
pub table : List Row
table =
    -- document 01, "Worked on paper", and the readings of its rules on places
    fine book_b (6 ∷ 1 ∷ 8 ∷ 1 ∷ 8 ∷ 0 ∷ 10 ∷ 0 ∷ 10 ∷ 0 ∷ []) ∷
    fine book_b (6 ∷ 0 ∷ 8 ∷ 0 ∷ 7 ∷ 1 ∷ []) ∷
    fine [] (6 ∷ 1 ∷ 10 ∷ 0 ∷ []) ∷
    question_at [] [] End 0 ∷
    question_at [] (6 ∷ 0 ∷ []) End 2 ∷
    question_at [] (6 ∷ 0 ∷ 9 ∷ 0 ∷ []) Unexpected 2 ∷
    book_at (1 ∷ []) Cut 0 ∷
    book_at (1 ∷ 0 ∷ []) Range 0 ∷
    book_at (1 ∷ 1 ∷ []) End 2 ∷
    book_at (3 ∷ 9 ∷ 255 ∷ []) Range 0 ∷
    book_at (1 ∷ 0 ∷ 255 ∷ []) Unknown 2 ∷
    book_at (3 ∷ 0 ∷ 5 ∷ 1 ∷ 6 ∷ 0 ∷ 8 ∷ 1 ∷ 7 ∷ 0 ∷ 3 ∷ 1 ∷ []) Range 8 ∷
    book_at (3 ∷ 1 ∷ 4 ∷ 0 ∷ 0 ∷ 1 ∷ 1 ∷ 2 ∷ 0 ∷ 11 ∷ []) Range 2 ∷
    book_at (1 ∷ 1 ∷ 3 ∷ 9 ∷ []) Range 2 ∷
    book_at (1 ∷ 1 ∷ 3 ∷ 8 ∷ 11 ∷ []) Unexpected 2 ∷
    book_at (3 ∷ 1 ∷ 4 ∷ 0 ∷ []) Cut 2 ∷
    book_at (3 ∷ 0 ∷ 11 ∷ 1 ∷ 0 ∷ []) Unexpected 3 ∷
    book_at (1 ∷ 1 ∷ 2 ∷ 0 ∷ 3 ∷ 1 ∷ 5 ∷ 1 ∷ 6 ∷ 0 ∷ 9 ∷ 0 ∷ 7 ∷ []) Cut 12 ∷
    book_at (3 ∷ 0 ∷ 11 ∷ 11 ∷ []) Unexpected 3 ∷
    book_at (1 ∷ 1 ∷ 2 ∷ 0 ∷ 2 ∷ 0 ∷ []) Unexpected 4 ∷
    book_at (1 ∷ 2 ∷ 2 ∷ 0 ∷ 3 ∷ 0 ∷ 11 ∷ []) Unexpected 4 ∷
    book_at (1 ∷ 2 ∷ 2 ∷ 0 ∷ 2 ∷ 0 ∷ 3 ∷ 1 ∷ 4 ∷ 0 ∷ 0 ∷ 4 ∷ 0 ∷ 0 ∷ 11 ∷ 11 ∷ 11 ∷ []) Range 11 ∷
    book_at (1 ∷ 1 ∷ 2 ∷ 8 ∷ 3 ∷ 8 ∷ 4 ∷ 0 ∷ 0 ∷ 4 ∷ 1 ∷ 0 ∷ 4 ∷ 2 ∷ 0 ∷ 4 ∷ 3 ∷ 0 ∷ 4 ∷ 4 ∷ 0 ∷ 4 ∷ 5 ∷ 0 ∷ 4 ∷ 6 ∷ 0 ∷ 4 ∷ 7 ∷ 0 ∷ 11 ∷ []) Range 27 ∷
    book_at (1 ∷ 2 ∷ 2 ∷ 2 ∷ 2 ∷ 0 ∷ 1 ∷ 3 ∷ 2 ∷ 1 ∷ 2 ∷ 0 ∷ 2 ∷ 0 ∷ 1 ∷ 1 ∷ 0 ∷ 3 ∷ 2 ∷ 4 ∷ 0 ∷ 0 ∷ 5 ∷ 3 ∷ 6 ∷ 0 ∷ 7 ∷ 5 ∷ 6 ∷ 2 ∷ 7 ∷ 5 ∷ 6 ∷ 0 ∷ 8 ∷ 0 ∷ 9 ∷ 1 ∷ 9 ∷ 0 ∷ 5 ∷ 3 ∷ 6 ∷ 1 ∷ 7 ∷ 5 ∷ 6 ∷ 0 ∷ 8 ∷ 0 ∷ 9 ∷ 1 ∷ 7 ∷ 1 ∷ 6 ∷ 1 ∷ 7 ∷ 5 ∷ []) Unknown 16 ∷
    book_at (1 ∷ 1 ∷ 2 ∷ 2 ∷ 1 ∷ 1 ∷ 2 ∷ 2 ∷ 1 ∷ 1 ∷ 2 ∷ 0 ∷ 3 ∷ 3 ∷ 4 ∷ 1 ∷ 0 ∷ 11 ∷ 3 ∷ 1 ∷ 4 ∷ 0 ∷ 1 ∷ 4 ∷ 2 ∷ 1 ∷ 4 ∷ 3 ∷ 0 ∷ 11 ∷ 3 ∷ 0 ∷ 5 ∷ 1 ∷ 11 ∷ 2 ∷ 8 ∷ 0 ∷ 7 ∷ 2 ∷ 10 ∷ 0 ∷ 10 ∷ 1 ∷ []) Unknown 37 ∷
    question_at (1 ∷ 2 ∷ 2 ∷ 0 ∷ 2 ∷ 2 ∷ 1 ∷ 2 ∷ 2 ∷ 0 ∷ 2 ∷ 1 ∷ 3 ∷ 0 ∷ 5 ∷ 1 ∷ 6 ∷ 1 ∷ 8 ∷ 2 ∷ 10 ∷ 0 ∷ 7 ∷ 0 ∷ 7 ∷ 0 ∷ 3 ∷ 0 ∷ 5 ∷ 1 ∷ 6 ∷ 0 ∷ 8 ∷ 1 ∷ 3 ∷ 3 ∷ 4 ∷ 0 ∷ 1 ∷ 4 ∷ 2 ∷ 0 ∷ 4 ∷ 1 ∷ 0 ∷ 5 ∷ 2 ∷ 6 ∷ 1 ∷ 7 ∷ 3 ∷ 9 ∷ 0 ∷ 6 ∷ 0 ∷ 8 ∷ 3 ∷ 5 ∷ 2 ∷ 6 ∷ 1 ∷ 8 ∷ 3 ∷ 6 ∷ 0 ∷ 8 ∷ 2 ∷ 9 ∷ 0 ∷ 9 ∷ 4 ∷ 8 ∷ 1 ∷ 4 ∷ 3 ∷ 0 ∷ 5 ∷ 1 ∷ 6 ∷ 0 ∷ 9 ∷ 0 ∷ 5 ∷ 3 ∷ 6 ∷ 0 ∷ 9 ∷ 0 ∷ 6 ∷ 1 ∷ 7 ∷ 3 ∷ 7 ∷ 2 ∷ 6 ∷ 0 ∷ 9 ∷ 0 ∷ 4 ∷ 3 ∷ 1 ∷ 11 ∷ 4 ∷ 4 ∷ 1 ∷ 5 ∷ 1 ∷ 6 ∷ 1 ∷ 8 ∷ 0 ∷ 5 ∷ 1 ∷ 6 ∷ 0 ∷ 7 ∷ 3 ∷ 9 ∷ 5 ∷ 3 ∷ 0 ∷ 5 ∷ 1 ∷ 6 ∷ 1 ∷ 10 ∷ 0 ∷ 3 ∷ 3 ∷ 11 ∷ []) (6 ∷ 1 ∷ 8 ∷ []) Cut 2 ∷
    book_at (1 ∷ 3 ∷ 2 ∷ 1 ∷ 2 ∷ 0 ∷ 2 ∷ 2 ∷ 1 ∷ 1 ∷ 2 ∷ 0 ∷ 3 ∷ 0 ∷ 5 ∷ 1 ∷ 6 ∷ 0 ∷ 8 ∷ 1 ∷ 8 ∷ 0 ∷ 7 ∷ 3 ∷ 3 ∷ 2 ∷ 4 ∷ 1 ∷ 1 ∷ 4 ∷ 1 ∷ 5 ∷ 1 ∷ 6 ∷ 0 ∷ 7 ∷ 3 ∷ 3 ∷ 2 ∷ 4 ∷ 0 ∷ 1 ∷ 4 ∷ 1 ∷ 0 ∷ 5 ∷ 3 ∷ 6 ∷ 1 ∷ 9 ∷ 1 ∷ 6 ∷ 0 ∷ 9 ∷ 1 ∷ 6 ∷ 2 ∷ 7 ∷ 1 ∷ 5 ∷ 2 ∷ 6 ∷ 0 ∷ 9 ∷ 1 ∷ 6 ∷ 0 ∷ 7 ∷ 1 ∷ 5 ∷ 2 ∷ 6 ∷ 0 ∷ 8 ∷ 3 ∷ 7 ∷ 3 ∷ 6 ∷ 0 ∷ 9 ∷ 3 ∷ 3 ∷ 1 ∷ 4 ∷ 0 ∷ 1 ∷ 5 ∷ 1 ∷ 6 ∷ 0 ∷ 7 ∷ 1 ∷ []) Unknown 34 ∷
    -- a count in a body is that record's fault; the 65th TYPE and the 257th CONS are at fault themselves
    book_at (1 ∷ 33 ∷ []) Range 0 ∷
    book_at (times 65 (1 ∷ 1 ∷ 2 ∷ 0 ∷ [])) Range 256 ∷
    book_at (times 8 (1 ∷ 32 ∷ times 32 (2 ∷ 0 ∷ [])) ++ (1 ∷ 1 ∷ 2 ∷ 0 ∷ [])) Range 530 ∷
    -- a position of length 7 may be split, of length 8 never; 64 slots are enough, 65 are the SPLIT's fault
    fine (1 ∷ 1 ∷ 2 ∷ 1 ∷ 3 ∷ 1 ∷ 4 ∷ 0 ∷ 0 ∷ 4 ∷ 1 ∷ 0 ∷ 4 ∷ 2 ∷ 0 ∷ 4 ∷ 3 ∷ 0 ∷ 4 ∷ 4 ∷ 0 ∷ 4 ∷ 5 ∷ 0 ∷ 4 ∷ 6 ∷ 0 ∷ 11 ∷ []) (6 ∷ 1 ∷ 7 ∷ 0 ∷ 10 ∷ 0 ∷ []) ∷
    book_at (1 ∷ 1 ∷ 2 ∷ 1 ∷ 3 ∷ 1 ∷ 4 ∷ 0 ∷ 0 ∷ 4 ∷ 1 ∷ 0 ∷ 4 ∷ 2 ∷ 0 ∷ 4 ∷ 3 ∷ 0 ∷ 4 ∷ 4 ∷ 0 ∷ 4 ∷ 5 ∷ 0 ∷ 4 ∷ 6 ∷ 0 ∷ 4 ∷ 7 ∷ 0 ∷ 11 ∷ []) Range 27 ∷
    fine (1 ∷ 1 ∷ 2 ∷ 8 ∷ 3 ∷ 8 ∷ 4 ∷ 0 ∷ 0 ∷ 4 ∷ 1 ∷ 0 ∷ 4 ∷ 2 ∷ 0 ∷ 4 ∷ 3 ∷ 0 ∷ 4 ∷ 4 ∷ 0 ∷ 4 ∷ 5 ∷ 0 ∷ 4 ∷ 6 ∷ 0 ∷ 11 ∷ []) (6 ∷ 1 ∷ 10 ∷ 0 ∷ []) ∷
    -- a term may have 255 records, the 256th is at fault; in a question a SLOT is never expected, and nothing may follow
    fine (1 ∷ 2 ∷ 2 ∷ 0 ∷ 2 ∷ 1 ∷ []) ((6 ∷ 0 ∷ []) ++ (times 254 (7 ∷ 1 ∷ []) ++ (7 ∷ 0 ∷ []))) ∷
    question_at (1 ∷ 2 ∷ 2 ∷ 0 ∷ 2 ∷ 1 ∷ []) ((6 ∷ 0 ∷ []) ++ (times 255 (7 ∷ 1 ∷ []) ++ (7 ∷ 0 ∷ []))) Range 512 ∷
    question_at (1 ∷ 2 ∷ 2 ∷ 0 ∷ 2 ∷ 1 ∷ []) ((6 ∷ 0 ∷ []) ++ (times 255 (7 ∷ 1 ∷ []) ++ (9 ∷ 0 ∷ []))) Unexpected 512 ∷
    question_at [] (6 ∷ 1 ∷ 10 ∷ 0 ∷ 11 ∷ []) End 4 ∷
    question_at [] (6 ∷ 1 ∷ 10 ∷ 1 ∷ []) Range 2 ∷
    question_at [] (6 ∷ 9 ∷ 10 ∷ 0 ∷ []) Range 0 ∷
    question_at [] (3 ∷ 9 ∷ []) Unexpected 0 ∷
    book_at (3 ∷ 0 ∷ 5 ∷ 17 ∷ []) Range 2 ∷
    book_at (3 ∷ 1 ∷ 5 ∷ 1 ∷ 6 ∷ 0 ∷ 9 ∷ 1 ∷ []) Range 6 ∷
    book_at (3 ∷ 0 ∷ []) End 2 ∷
    book_at (12 ∷ 0 ∷ []) Unknown 0 ∷
    []

-- what the definition gives for a row, and what the row says
pub given : Row → Seen
given r = let v = check_question r.book r.question in seen v (told_of v)

pub said : Row → Seen
said r = r.gives

-- every row is what the definition gives
pub every-row : map given table ≡ map said table
unfolding given said table check_question on_both on_question told_of after make pick slot_case read_head first_terms others_of joined read_terms the_one read_right read_rights all_fit splits under read_trees read_tree read_cons read_types read_funcs read_book last read_alone read_question body_of body_byte rec_at scan book_fits any_fits funcs_from func_arities arity
every-row = refl
