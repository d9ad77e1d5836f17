use Rattle.store.proofs.Became.{loan_same}
use native.Mathlib.Omega.{arith}
use Rattle.run.proofs.Prepared.{book-read, ended-none, ended_at}
use Rattle.run.proofs.setup.end_at_counts.Goals as goal

pub end_tables-requires : goal.end_tables-requires
end_tables-requires c = let x = book-read _ _ _ _ _ c.read_book.ensures c.in-Ok.is in record { rest_room = c.requires; nf_bound = (omega (arith, x.funcs-few, c.read_book.auto), omega (arith, x.cons-few, c.read_book.auto)) }

pub returns-in-Ok : goal.returns-in-Ok
returns-in-Ok c = let e = c.end_tables.ensures in record { loan = e.loan; ended = ended_at (book-read _ _ _ _ _ c.read_book.ensures c.in-Ok.is) e.ended }

pub returns-in_default : goal.returns-in_default
returns-in_default c = record { loan = loan_same; ended = ended-none _ _ _ _ _ c.read_book.ensures c.in_default.is _ _ _ }
