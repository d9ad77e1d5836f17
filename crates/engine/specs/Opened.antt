-- Every definition that a run computes with, by one name, for statements by computation.
-- Not here: the statements (Table; crate vectors).
-- Assumes nothing.
use Rattle.book.specs.Syntax.{arity}
use Rattle.book.specs.Record.{body_of, body_byte, rec_at, scan, book_fits, any_fits, funcs_from, func_arities}
use Rattle.book.specs.Reading.{after, make, pick, slot_case, read_head, first_terms, others_of, joined, read_terms, the_one, read_right, read_rights, all_fit, splits, under, read_trees, read_tree, read_cons, read_types, read_funcs, read_book, last, read_alone, read_question}
use Rattle.heap.specs.Graph.{deref, follow, look, gather, thread, index_of, outermost, first, first_call, args, sight, sweep, reach, named, renamed, copy, variable, write, write_each}
use Rattle.heap.specs.Build.{up_from, build, build_all, build_right, start}
use Rattle.engine.specs.Turn.{forward, alternatives, sizes}
use Rattle.engine.specs.Plain as P
use Rattle.engine.specs.Code.{four, from_four, encode, emit, symbol, decode, width}
use Rattle.engine.specs.Compile.{of_term, of_terms, of_right, of_rights, of_rule, of_instances, offsets, flat, below, of_tree, of_trees, of_funcs, compile}
use Rattle.engine.specs.Machine as M
use Rattle.engine.specs.Run.{in_range, work_size, lent_fits, number_of, place_of, ◌⊕◌, turns_of, nodes_of, tally, result_record, fits, taken, step, run_from, opening, ask, tells, results_of, code_of, over, results_after, code_after, refused, closed, checked, plain, machine}

-- anything, with all these definitions open
unfoldable pub opened : {A : Type 0} → A → A
unfolding
    body_of body_byte rec_at scan book_fits any_fits funcs_from func_arities
    after make pick slot_case read_head first_terms others_of joined read_terms the_one read_right read_rights all_fit splits under read_trees read_tree read_cons read_types read_funcs read_book last read_alone read_question
    deref follow look gather thread index_of outermost first first_call args sight sweep reach named renamed copy variable write write_each
    up_from build build_all build_right start
    forward alternatives sizes
    P.place P.at_split P.walk P.walk_child P.walk_call P.down_to P.instances P.build_rights P.parted P.replaced P.applied P.step_at P.turn_within P.turn
    four from_four encode emit symbol decode width
    of_term of_terms of_right of_rights of_rule of_instances offsets flat below of_tree of_trees of_funcs arity compile
    M.at M.put M.arity_of M.members M.homes M.arm_of M.jump M.need M.when M.made M.on_branch M.run M.step M.exec M.on_top M.drive M.settle M.on_first M.on_stack M.turn_on M.own M.with_graph M.from_start M.parted M.finish M.turn_within M.turn
    in_range work_size lent_fits number_of place_of ◌⊕◌ turns_of nodes_of tally result_record fits taken step run_from opening ask tells results_of code_of over results_after code_after refused closed checked plain machine
opened x = x
