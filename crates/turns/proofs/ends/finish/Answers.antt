use Rattle.store.proofs.Became.{loan_same}
use mathlib.Core.Path.{subst}
use mathlib.Core.Logic.{inl, inr}
use Rattle.turns.proofs.Finishing.{by-stop, ends-fails, ends-misfits, ends-full, ends-broken, ends-demand, ends-becomes, ends-split, ends-none}
use Rattle.turns.specs.Ends.{Stopped}
use Rattle.turns.proofs.ends.finish.Goals as goal

pub returns-in-Some : goal.returns-in-Some
returns-in-Some c = record { loan = c.pour_all.ensures.loan; finished = (let q = subst (Stopped c.args.store.now.limit c.args.base c.args.held c.args.terms c.args.made c.args.store.now.bytes.now) c.in-Parts.is c.requires.stopped in by-stop _ _ _ _ _ _ _ c.in-Parts.is (ends-split _ _ _ _ _ _ _ c.requires.space q.0 _ _ _ c.in-Some.ensures.poured)) }

pub returns-in-None : goal.returns-in-None
returns-in-None c = record { loan = c.pour_all.ensures.loan; finished = (let q = subst (Stopped c.args.store.now.limit c.args.base c.args.held c.args.terms c.args.made c.args.store.now.bytes.now) c.in-Parts.is c.requires.stopped in by-stop _ _ _ _ _ _ _ c.in-Parts.is (ends-none _ _ _ _ _ _ _ c.requires.space q.0 _ _ c.in-None.ensures.poured c.requires.made_le_limit.0)) }

pub returns-in-Becomes : goal.returns-in-Becomes
returns-in-Becomes c = record { loan = c.put_fwd.ensures.loan; finished = by-stop _ _ _ _ _ _ _ c.in-Becomes.is (ends-becomes _ _ _ _ _ _ _ _ _ _ c.put_fwd.ensures.did c.requires.clean c.requires.made_le_limit.0) }

pub returns-in-Fails : goal.returns-in-Fails
returns-in-Fails c = record { loan = loan_same; finished = by-stop _ _ _ _ _ _ _ c.in-Fails.is (ends-fails _ _ _ _ _ _ _ c.requires.clean c.requires.made_le_limit.0) }

pub returns-in-Misfits : goal.returns-in-Misfits
returns-in-Misfits c = record { loan = loan_same; finished = by-stop _ _ _ _ _ _ _ c.in-Misfits.is (ends-misfits _ _ _ _ _ _ _ c.requires.clean c.requires.made_le_limit.0) }

pub returns-in-Full : goal.returns-in-Full
returns-in-Full c = record { loan = loan_same; finished = by-stop _ _ _ _ _ _ _ c.in-Full.is (ends-full _ _ _ _ _ _ _ c.requires.clean c.requires.made_le_limit.0) }

pub returns-in-Broken : goal.returns-in-Broken
returns-in-Broken c = record { loan = loan_same; finished = elim c.in-Broken.is [ inl e ↦ by-stop _ _ _ _ _ _ _ e (ends-broken _ _ _ _ _ _ _ c.requires.clean c.requires.made_le_limit.0) | inr e ↦ by-stop _ _ _ _ _ _ _ e.1 (ends-demand _ _ _ _ _ _ _ e.0 c.requires.clean c.requires.made_le_limit.0) ] }
