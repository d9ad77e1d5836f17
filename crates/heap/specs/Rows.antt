-- Small graphs and terms with what document 01 says of them, as data.
-- Here, in order: a row; forwards; calls; copies; the bytes of terms; building; all rows.
-- Not here: the statement that what is computed is what is expected (Table). Expected values are worked out by hand.
-- Assumes nothing.
use Rattle.std.specs.Prelude.{ℕ, List, [], ◌∷◌, ◌++◌}
use Rattle.std.proofs.Math.Option.{Option, none, some}
use Rattle.book.specs.Syntax.{Term, Terms, con, fun, app, slot, fresh, done, arg, Right}
use Rattle.heap.specs.Graph.{Node, cell, var, fwd, Graph, follow, look, outermost, first_call, Comp, copy, variable, write, write_each}
use Rattle.heap.specs.Build.{build_right, start}

-- what a row is about: a node's number; several, or bytes; a call, if there is one; a node; a graph and a number in it; a computation
pub data Thing : Type 0 where
  at : ℕ → Thing
  list : List ℕ → Thing
  call : Option ℕ → Thing
  read : Node → Thing
  built : Graph × ℕ → Thing
  comp : Comp → Thing

-- a row: what is computed, and what is expected
pub data Row : Type 0 where
  ◌gives◌ : Thing → Thing → Row

infix 1 ◌gives◌
-- a chain of two forwards from 0, and a variable beside it
abbrev chain : Graph
chain = fwd 2 ∷ var ∷ fwd 3 ∷ cell (con 5) [] ∷ []

-- forwards are followed wherever a node is read
abbrev forwards : List Row
forwards =
    -- a chain, to its end
    (at (follow chain 0) gives at 3)
    -- what is no forward stands for itself
    ∷ (at (follow chain 1) gives at 1)
    ∷ (at (follow chain 3) gives at 3)
    -- the node that is read is the last one
    ∷ (read (look chain 0) gives read (cell (con 5) []))
    -- every node but one is a forward
    ∷ (at (follow (fwd 1 ∷ fwd 2 ∷ fwd 3 ∷ var ∷ []) 0) gives at 3)
    ∷ []

-- call 1 has call 4 inside, and stands twice in 0; call 6 is reached by a forward; 7 is a forward to 0; 9 has no call
abbrev calls : Graph
calls =
    cell (con 2) (1 ∷ 2 ∷ 1 ∷ [])
    ∷ cell (fun 0) (4 ∷ [])
    ∷ cell (con 3) (5 ∷ 3 ∷ [])
    ∷ cell (fun 1) []
    ∷ cell (fun 9) []
    ∷ fwd 6
    ∷ cell (fun 2) []
    ∷ fwd 0
    ∷ cell (con 3) (2 ∷ 1 ∷ [])
    ∷ cell (con 3) (10 ∷ 10 ∷ [])
    ∷ var
    ∷ []

-- the first call in preorder, not looking inside calls
abbrev firsts : List Row
firsts =
    -- outermost calls in preorder: a shared one at each place, one behind a forward by its own number, none inside a call
    (list (outermost 11 calls 0) gives list (1 ∷ 6 ∷ 3 ∷ 1 ∷ []))
    -- the same from a forward
    ∷ (list (outermost 11 calls 7) gives list (1 ∷ 6 ∷ 3 ∷ 1 ∷ []))
    -- preorder, not level by level
    ∷ (list (outermost 11 calls 8) gives list (6 ∷ 3 ∷ 1 ∷ []))
    -- a call is its own outermost call
    ∷ (list (outermost 11 calls 1) gives list (1 ∷ []))
    -- the first of them is taken
    ∷ (call (first_call 11 calls 8) gives call (some 6))
    ∷ (call (first_call 11 calls 1) gives call (some 1))
    -- constructors and variables only: none
    ∷ (call (first_call 11 calls 9) gives call none)
    ∷ (call (first_call 11 calls 10) gives call none)
    ∷ []

-- a computation from its parts
abbrev held : Graph → ℕ → List ℕ → Comp
held g v us = record { graph = g; value = v; askers = us }

-- each reachable node copied once, shared nodes still shared, forwards left out
abbrev copies : List Row
copies =
    -- twice of a shared node, behind a forward: one node; what is not reachable, none
    (comp (copy (held (cell (con 2) (2 ∷ 2 ∷ []) ∷ fwd 0 ∷ fwd 3 ∷ cell (con 1) [] ∷ cell (con 4) [] ∷ []) 1 []))
    gives comp (held (cell (con 2) (1 ∷ 1 ∷ []) ∷ cell (con 1) [] ∷ []) 0 []))
    -- shared behind two forwards
    ∷ (comp (copy (held (cell (con 2) (1 ∷ 2 ∷ []) ∷ fwd 3 ∷ fwd 3 ∷ cell (fun 0) [] ∷ []) 0 []))
    gives comp (held (cell (con 2) (1 ∷ 1 ∷ []) ∷ cell (fun 0) [] ∷ []) 0 []))
    -- the askers' terms too, and a variable that only its asker has; the value is seen first, then the askers' terms, then what is under them
    ∷ (comp (copy (held (var ∷ var ∷ cell (fun 0) (0 ∷ 3 ∷ []) ∷ cell (con 1) [] ∷ []) 2 (0 ∷ 1 ∷ [])))
    gives comp (held (cell (fun 0) (1 ∷ 3 ∷ []) ∷ var ∷ var ∷ cell (con 1) [] ∷ []) 0 (1 ∷ 2 ∷ [])))
    -- an asker's variable that is a forward now, shared with the value: what is under it once
    ∷ (comp (copy (held (fwd 3 ∷ cell (fun 0) (0 ∷ []) ∷ var ∷ cell (con 7) (2 ∷ []) ∷ []) 1 (0 ∷ [])))
    gives comp (held (cell (fun 0) (1 ∷ []) ∷ cell (con 7) (2 ∷ []) ∷ var ∷ []) 0 (1 ∷ [])))
    -- by first sight: a node's arguments before what is under them
    ∷ (comp (copy (held (cell (con 4) [] ∷ var ∷ cell (con 3) (1 ∷ []) ∷ cell (con 2) (2 ∷ 0 ∷ []) ∷ []) 3 []))
    gives comp (held (cell (con 2) (1 ∷ 2 ∷ []) ∷ cell (con 3) (3 ∷ []) ∷ cell (con 4) [] ∷ var ∷ []) 0 []))
    ∷ []

-- variables 0 and 1; terms of them; 4 a forward to 1; 6 a constant, twice in 7
abbrev terms : Graph
terms =
    var
    ∷ var
    ∷ cell (con 2) (1 ∷ 3 ∷ [])
    ∷ cell (con 5) (0 ∷ 1 ∷ [])
    ∷ fwd 1
    ∷ cell (con 2) (4 ∷ 1 ∷ [])
    ∷ cell (con 1) []
    ∷ cell (con 2) (6 ∷ 6 ∷ [])
    ∷ []

-- CON records and, for variables, kind 0C with a 2-byte number
abbrev written : List Row
written =
    -- preorder; variables numbered from 0 by first sight, a shared one by the same number
    (list (write 8 terms [] 2).1 gives list (7 ∷ 2 ∷ 12 ∷ 0 ∷ 0 ∷ 7 ∷ 5 ∷ 12 ∷ 1 ∷ 0 ∷ 12 ∷ 0 ∷ 0 ∷ []))
    -- and those seen are handed on, in that order
    ∷ (list (write 8 terms [] 2).0 gives list (1 ∷ 0 ∷ []))
    -- a variable behind a forward is the same variable
    ∷ (list (write 8 terms [] 5).1 gives list (7 ∷ 2 ∷ 12 ∷ 0 ∷ 0 ∷ 12 ∷ 0 ∷ 0 ∷ []))
    -- a shared constructor is written at each place
    ∷ (list (write 8 terms [] 7).1 gives list (7 ∷ 2 ∷ 7 ∷ 1 ∷ 7 ∷ 1 ∷ []))
    -- afresh in each term: two variables, each 0 in its own
    ∷ (list (write_each 8 terms (0 ∷ 1 ∷ 3 ∷ [])) gives list (12 ∷ 0 ∷ 0 ∷ 12 ∷ 0 ∷ 0 ∷ 7 ∷ 5 ∷ 12 ∷ 0 ∷ 0 ∷ 12 ∷ 1 ∷ 0 ∷ []))
    -- little-endian
    ∷ (list (variable 258) gives list (12 ∷ 2 ∷ 1 ∷ []))
    ∷ []

-- a RIGHT from its parts
abbrev right : ℕ → Term → Right
right n t = record { vars = n; term = t }

-- a constructor without arguments
abbrev constant : ℕ → Term
constant c = app (con c) done

-- an application to two terms
abbrev two : Term → Term → Terms
two s t = arg s (arg t done)

-- two nodes that stand already
abbrev standing : Graph
standing = cell (con 1) [] ∷ cell (con 0) [] ∷ []

-- Q's term
abbrev term_q : Term
term_q = app (fun 1) (two (app (fun 0) (arg (fresh 0) done)) (fresh 0))

-- a RIGHT makes its declared fresh variables, used or not, plus its CON and CALL records; SLOT and FRESH make nothing
abbrev building : List Row
building =
    -- the variables first, then the node behind them; the unused one is made too
    (built (build_right (right 2 (app (con 2) (two (fresh 1) (slot 0)))) (1 ∷ []) standing) gives built (standing ++ var ∷ var ∷ cell (con 2) (3 ∷ 1 ∷ []) ∷ [], 4))
    -- arguments last to first, then the node; and in their order in it
    ∷ (built (build_right (right 0 (app (con 2) (two (constant 0) (constant 1)))) [] []) gives built (cell (con 1) [] ∷ cell (con 0) [] ∷ cell (con 2) (1 ∷ 0 ∷ []) ∷ [], 2))
    -- a slot twice is shared, not copied
    ∷ (built (build_right (right 0 (app (con 2) (two (slot 1) (slot 1)))) (0 ∷ 1 ∷ []) standing) gives built (standing ++ cell (con 2) (1 ∷ 1 ∷ []) ∷ [], 2))
    -- a slot alone makes nothing
    ∷ (built (build_right (right 0 (slot 1)) (0 ∷ 1 ∷ []) standing) gives built (standing, 1))
    -- and its RIGHT's variable all the same
    ∷ (built (build_right (right 1 (slot 1)) (0 ∷ 1 ∷ []) standing) gives built (standing ++ var ∷ [], 1))
    -- a fresh variable twice is one variable
    ∷ (built (build_right (right 1 (app (con 2) (two (fresh 0) (fresh 0)))) [] standing) gives built (standing ++ var ∷ cell (con 2) (2 ∷ 2 ∷ []) ∷ [], 3))
    -- the question Q: three nodes, each asker's variable its own term at first
    ∷ (comp (start (right 1 term_q)) gives comp (held (var ∷ cell (fun 0) (0 ∷ []) ∷ cell (fun 1) (1 ∷ 0 ∷ []) ∷ []) 2 (0 ∷ [])))
    -- an asker's variable that is not used
    ∷ (comp (start (right 2 (fresh 1))) gives comp (held (var ∷ var ∷ []) 1 (0 ∷ 1 ∷ [])))
    ∷ []

-- all rows
abbrev pub rows : List Row
rows = forwards ++ firsts ++ copies ++ written ++ building

-- what is computed
abbrev pub computed : List Row → List Thing
computed [] = []
computed ((x gives y) ∷ rs) = x ∷ computed rs

-- what is expected
abbrev pub expected : List Row → List Thing
expected [] = []
expected ((x gives y) ∷ rs) = y ∷ expected rs
