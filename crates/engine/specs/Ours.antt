-- Rows of our own, where a misreading would pass document 01's; the kept stacks, turn by turn; what lent memory holds afterwards.
-- Here, in order: rows that are refused; a book with SPLITs under SPLITs, and its code; the rows; the stacks; the memory.
-- Not here: the paper's rows (Rows), the statements (Table). Expected values are worked out by hand from document 01.
-- Assumes nothing.
use Rattle.std.specs.Prelude.{ℕ, zero, suc, ◌-◌, List, [], ◌∷◌, ◌++◌, map, replicate}
use Rattle.book.specs.Answers.{counts, zeros, told}
use Rattle.book.specs.Record.{got, fault}
use Rattle.book.specs.Reading.{read_book, read_question}
use Rattle.heap.specs.Build.{start}
use Rattle.engine.specs.Compile.{compile}
use Rattle.engine.specs.Machine.{Kept, from_start, turn}
use Rattle.engine.specs.Run.{Limits, Lent, work_size, Moment, moment, Next, ends, next, step, opening, Outcome, results_after, code_after}
use Rattle.engine.specs.Rows.{Row, row, asked, limits, usual, code_room, book_b, question_q, coins, load1, go_to, code_b, code_coins, first_b, second_b}

-- a row that is refused, so that nothing is written
abbrev refusal : Limits → List ℕ → List ℕ → (answer place : ℕ) → Row
refusal l b q a p = row l b q (told a p zeros) [] []

-- a row that is refused for its lent memory: so much work, code and results memory
abbrev lent_to : Limits → (work code results : ℕ) → Row
lent_to l w c r = record { limits = l; lent = record { work = w; code = c; results = r }; book = []; question = []; gives = record { told = told 10 0 zeros; results = []; code = [] } }

-- no, yes; pair. Function 0: of a pair, no if its first part is no, and its second part if it is yes. Function 1: of no and no, yes; of no and yes, NONE; of yes
-- and another, the other. Function 2: a fresh variable and its argument as a pair, with another fresh variable that is not used
abbrev book_n : List ℕ
book_n =
    0x01 ∷ 0x02 ∷ 0x02 ∷ 0x00 ∷ 0x02 ∷ 0x00 ∷ 0x01 ∷ 0x01 ∷ 0x02 ∷ 0x02
    ∷ 0x03 ∷ 0x01 ∷ 0x04 ∷ 0x00 ∷ 0x01 ∷ 0x04 ∷ 0x01 ∷ 0x00 ∷ 0x05 ∷ 0x01 ∷ 0x06 ∷ 0x00 ∷ 0x07 ∷ 0x00 ∷ 0x05 ∷ 0x01 ∷ 0x06 ∷ 0x00 ∷ 0x09 ∷ 0x02
    ∷ 0x03 ∷ 0x02 ∷ 0x04 ∷ 0x00 ∷ 0x00 ∷ 0x04 ∷ 0x01 ∷ 0x00 ∷ 0x05 ∷ 0x01 ∷ 0x06 ∷ 0x00 ∷ 0x07 ∷ 0x01 ∷ 0x0B ∷ 0x05 ∷ 0x01 ∷ 0x06 ∷ 0x00 ∷ 0x09 ∷ 0x01
    ∷ 0x03 ∷ 0x01 ∷ 0x05 ∷ 0x01 ∷ 0x06 ∷ 0x02 ∷ 0x07 ∷ 0x02 ∷ 0x0A ∷ 0x01 ∷ 0x09 ∷ 0x00 ∷ []

-- LOAD of a position of length 2
abbrev load2 : ℕ → ℕ → List ℕ
load2 i j = 0x30 ∷ 2 ∷ i ∷ j ∷ replicate 6 0

-- N's code, 189 bytes, by hand from Figure 4: function 0 from 0, its inner SPLIT from 28; function 1 from 80, its inner SPLIT from 114; function 2 from 167
abbrev code_n : List ℕ
code_n =
    load1 1 ++ 0x31 ∷ 1 ∷ go_to 22 ++ go_to 28 ++ 0x35 ∷ 0x35 ∷ 0x38 ∷ 0 ∷ 2 ∷ 0x3A
    ∷ load2 1 1 ++ 0x31 ∷ 0 ∷ go_to 55 ++ go_to 62 ++ go_to 67 ++ 0x38 ∷ 0 ∷ 0 ∷ 0x38 ∷ 0 ∷ 1 ∷ 0x3A ∷ 0x38 ∷ 0 ∷ 0 ∷ 0x34 ∷ 0x39 ∷ load2 1 2 ++ 0x33 ∷ 0x34 ∷ 0x39
    ∷ load1 1 ++ 0x31 ∷ 0 ∷ go_to 107 ++ go_to 114 ++ go_to 154 ++ 0x38 ∷ 0 ∷ 0 ∷ 0x38 ∷ 0 ∷ 1 ∷ 0x3A
    ∷ load1 2 ++ 0x31 ∷ 0 ∷ go_to 141 ++ go_to 148 ++ go_to 153 ++ 0x38 ∷ 0 ∷ 0 ∷ 0x38 ∷ 0 ∷ 1 ∷ 0x3A ∷ 0x38 ∷ 0 ∷ 1 ∷ 0x34 ∷ 0x39 ∷ 0x3C
    ∷ load1 2 ++ 0x33 ∷ 0x34 ∷ 0x39
    ∷ 0x36 ∷ 0 ∷ 0x36 ∷ 1 ∷ load1 1 ++ 0x33 ∷ 0x37 ∷ 1 ∷ 0x38 ∷ 0 ∷ 2 ∷ 0x34 ∷ 0x39 ∷ []

-- a result's kind and turn
abbrev at : ℕ → List ℕ
at n = 0x20 ∷ n ∷ 0 ∷ 0 ∷ 0 ∷ []

-- a variable in a result
abbrev free : ℕ → List ℕ
free i = 0x0C ∷ i ∷ 0 ∷ []

-- the ends of runs at their limits, met and missed by one
abbrev edges : List Row
edges =
    -- waiting, less one, plus three alternatives is the pool limit
    row (limits 1600 3 10000 4096) book_b question_q (told 0 0 (counts 9 18 4 1 2 1 0)) (first_b ++ second_b) code_b
    -- the budget met by the turn that empties the pool
    ∷ row (limits 1600 64 9 4096) book_b question_q (told 0 0 (counts 9 18 4 1 2 1 0)) (first_b ++ second_b) code_b
    -- no budget: no turn, the question built
    ∷ row (limits 1600 64 0 4096) book_b question_q (told 1 0 (counts 0 3 1 0 0 0 0)) [] code_b
    -- as many nodes as are made
    ∷ row (limits 18 64 10000 4096) book_b question_q (told 0 0 (counts 9 18 4 1 2 1 0)) (first_b ++ second_b) code_b
    -- one fewer: the third rule's node
    ∷ row (limits 17 64 10000 4096) book_b question_q (told 2 0 (counts 3 17 4 1 0 0 0)) [] code_b
    -- the question's own nodes just fit
    ∷ row (limits 3 64 10000 4096) book_b question_q (told 2 0 (counts 0 3 1 0 0 0 0)) [] code_b
    -- they do not: every count 0, before the budget is looked at; the code stands
    ∷ row (limits 2 64 0 4096) book_b question_q (told 2 0 zeros) [] code_b
    -- both results just fit
    ∷ row (limits 1600 64 10000 18) book_b question_q (told 0 0 (counts 9 18 4 1 2 1 0)) (first_b ++ second_b) code_b
    -- the first does not
    ∷ row (limits 1600 64 10000 8) book_b question_q (told 4 0 (counts 7 18 4 1 0 1 0)) [] code_b
    ∷ []

-- the ranges, the order of refusals, and lent memory one byte short. Where the limits are in range, the empty question is refused
abbrev refusals : List Row
refusals =
    -- the largest limits
    refusal (record { nodes = 16384; pool = 1024; budget = 1000000; results = 65536; code = 262144 }) [] [] 12 0
    -- the smallest
    ∷ refusal (record { nodes = 1; pool = 1; budget = 0; results = 0; code = 0 }) [] [] 12 0
    -- nodes from 1
    ∷ refusal (limits 0 64 10000 4096) [] [] 10 0
    -- nodes to 16,384
    ∷ refusal (limits 16385 64 10000 4096) [] [] 10 0
    -- pool from 1
    ∷ refusal (limits 1600 0 10000 4096) [] [] 10 0
    -- pool to 1,024
    ∷ refusal (limits 1600 1025 10000 4096) [] [] 10 0
    -- budget to 1,000,000
    ∷ refusal (limits 1600 64 1000001 4096) [] [] 10 0
    -- results room to 65,536
    ∷ refusal (limits 1600 64 10000 65537) [] [] 10 0
    -- code room to 262,144
    ∷ refusal (code_room 262145) [] [] 10 0
    -- 10 before 11
    ∷ refusal (limits 0 64 10000 4096) (0x01 ∷ []) [] 10 0
    -- 11 before 12
    ∷ refusal usual (0x01 ∷ []) [] 11 0
    -- 12 before 13
    ∷ refusal (code_room 104) book_b [] 12 0
    -- work memory
    ∷ lent_to usual (work_size usual - 1) 16384 4096
    -- code memory
    ∷ lent_to usual (work_size usual) 16383 4096
    -- results memory
    ∷ lent_to usual (work_size usual) 16384 4095
    ∷ []

-- a SPLIT under a SPLIT, a child that is NONE, a type with one constructor, constructors with arguments, alternatives made while others
-- wait, fresh variables, an asker's variable that is not used
abbrev longer : List Row
longer =
    -- B's function 1 of a variable: no is tried too, and fails
    row usual book_b (0x06 ∷ 0x01 ∷ 0x08 ∷ 0x01 ∷ 0x0A ∷ 0x00 ∷ 0x07 ∷ 0x02 ∷ []) (told 0 0 (counts 4 11 3 1 1 1 0)) (at 4 ++ 7 ∷ 2 ∷ 7 ∷ 1 ∷ []) code_b
    -- N's function 0 of a variable: a pair of two new variables, then its first part is narrowed
    ∷ row usual book_n (0x06 ∷ 0x01 ∷ 0x08 ∷ 0x00 ∷ 0x0A ∷ 0x00 ∷ []) (told 0 0 (counts 6 20 4 2 2 0 0)) (at 5 ++ 7 ∷ 0 ∷ 7 ∷ 2 ∷ 7 ∷ 0 ∷ free 0 ++ at 6 ++ free 0 ++ 7 ∷ 2 ∷ 7 ∷ 1 ∷ free 0) code_n
    -- N's function 1 of two variables: alternatives made while another waits go to the back
    ∷ row usual book_n (0x06 ∷ 0x02 ∷ 0x08 ∷ 0x01 ∷ 0x0A ∷ 0x00 ∷ 0x0A ∷ 0x01 ∷ []) (told 0 0 (counts 7 20 5 2 2 1 0)) (at 6 ++ free 0 ++ 7 ∷ 1 ∷ free 0 ++ at 7 ++ 7 ∷ 1 ∷ 7 ∷ 0 ∷ 7 ∷ 0 ∷ []) code_n
    -- the pool limit with one waiting, just met
    ∷ row (limits 1600 3 10000 4096) book_n (0x06 ∷ 0x02 ∷ 0x08 ∷ 0x01 ∷ 0x0A ∷ 0x00 ∷ 0x0A ∷ 0x01 ∷ []) (told 0 0 (counts 7 20 5 2 2 1 0)) (at 6 ++ free 0 ++ 7 ∷ 1 ∷ free 0 ++ at 7 ++ 7 ∷ 1 ∷ 7 ∷ 0 ∷ 7 ∷ 0 ∷ []) code_n
    -- and missed by one
    ∷ row (limits 1600 2 10000 4096) book_n (0x06 ∷ 0x02 ∷ 0x08 ∷ 0x01 ∷ 0x0A ∷ 0x00 ∷ 0x0A ∷ 0x01 ∷ []) (told 3 0 (counts 1 11 3 1 0 0 0)) [] code_n
    -- N's function 2: two fresh variables made, one used
    ∷ row usual book_n (0x06 ∷ 0x01 ∷ 0x08 ∷ 0x02 ∷ 0x0A ∷ 0x00 ∷ []) (told 0 0 (counts 2 5 1 0 1 0 0)) (at 2 ++ 7 ∷ 2 ∷ free 0 ++ free 1 ++ free 0) code_n
    -- N's function 0 of function 2 of a variable: the unused variable is not copied
    ∷ row usual book_n (0x06 ∷ 0x01 ∷ 0x08 ∷ 0x00 ∷ 0x08 ∷ 0x02 ∷ 0x0A ∷ 0x00 ∷ []) (told 0 0 (counts 6 17 3 1 2 0 0)) (at 5 ++ 7 ∷ 0 ∷ free 0 ++ at 6 ++ free 0 ++ free 0) code_n
    -- each asker's variable has a term, and 0 in its own
    ∷ row usual [] (0x06 ∷ 0x02 ∷ 0x0A ∷ 0x01 ∷ []) (told 0 0 (counts 1 2 1 0 1 0 0)) (at 1 ++ free 0 ++ free 0 ++ free 0) []
    ∷ []

-- all of them
abbrev pub ours : List Row
ours = edges ++ refusals ++ longer

-- the stack of each computation waiting
abbrev stacks_of : Moment Kept → List (List ℕ)
stacks_of (moment pool k out) = map (λ c. c.stack) pool

-- the stacks at a moment, and after each of n turns
abbrev stacks_from : (Moment Kept → Next Kept) → ℕ → Moment Kept → List (List (List ℕ))
stacks_from step zero m = stacks_of m ∷ []
stacks_from step (suc n) m = stacks_of m ∷ elim (step m) [ ends a ↦ [] | next m' ↦ stacks_from step n m' ]

-- the stacks of a book and a question, at first and after each of n turns
abbrev pub stacks_along : ℕ → List ℕ → List ℕ → List (List (List ℕ))
stacks_along n b q = elim (read_book b) [
  | fault _ _ ↦ []
  | got book _ ↦ elim (read_question book q) [
    | fault _ _ ↦ []
    | got right _ ↦ stacks_from (step (turn (compile book)) usual) n (opening from_start (start right))
  ]
]

-- a stack of calls 2 and 0 of an alternative: its first call is 0, of function 1, which demands 2, of function 0; the asker's term is 1
abbrev two : List ℕ
two = 2 ∷ 0 ∷ []

-- a stack of call 0
abbrev one : List ℕ
one = 0 ∷ []

-- the stacks of B and Q at first and after each of the 9 turns, the front first: alternatives start with an empty stack, and REPLACE leaves its handle,
-- which the computation's next turn pops
abbrev pub stacks_b : List (List (List ℕ))
stacks_b =
    ([] ∷ [])
    ∷ ([] ∷ [] ∷ [] ∷ [])
    ∷ ([] ∷ [] ∷ two ∷ [])
    ∷ ([] ∷ two ∷ two ∷ [])
    ∷ (two ∷ two ∷ two ∷ [])
    ∷ (two ∷ two ∷ [])
    ∷ (two ∷ one ∷ [])
    ∷ (one ∷ one ∷ [])
    ∷ (one ∷ [])
    ∷ []
    ∷ []

-- results memory and code memory, as lent
abbrev lent_results : List ℕ
lent_results = replicate 13 0xAA

abbrev lent_code : List ℕ
lent_code = replicate 9 0xBB

-- a room of 13 bytes for results and of 9 for code
abbrev tight : Limits
tight = record { nodes = 5; pool = 2; budget = 9; results = 13; code = 9 }

-- what lent memory holds after a run in those rooms: of coin, whose second result does not fit; and of no question
abbrev pub leaves : (Limits → Lent → List ℕ → List ℕ → Outcome) → List (List ℕ)
leaves run =
    results_after (run tight (asked tight) coins (0x06 ∷ 0x00 ∷ 0x08 ∷ 0x00 ∷ [])) lent_results
    ∷ code_after (run tight (asked tight) coins (0x06 ∷ 0x00 ∷ 0x08 ∷ 0x00 ∷ [])) lent_code
    ∷ results_after (run tight (asked tight) coins []) lent_results
    ∷ code_after (run tight (asked tight) coins []) lent_code
    ∷ []

-- what was written stands, and beyond it, or where a run was refused, what was lent
abbrev pub left : List (List ℕ)
left = (at 2 ++ 7 ∷ 0 ∷ replicate 6 0xAA) ∷ (code_coins ++ 0xBB ∷ 0xBB ∷ []) ∷ lent_results ∷ lent_code ∷ []
