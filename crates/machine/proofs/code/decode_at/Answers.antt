use Rattle.machine.proofs.Codes.{outside}
use Rattle.machine.proofs.Codes.{op-load, op-branch, op-go, op-push, op-pop, op-anon, op-store, op-var, op-term, op-replace, op-narrow, op-choice, op-fail, op-wrong}
use Rattle.machine.proofs.code.decode_at.Goals as goal

pub returns-in-48 : goal.returns-in-48
returns-in-48 c = op-load _ _ c.requires.pc_in_bounds _ _ c.byte_at.ensures c.min.ensures c.in-48.is

pub returns-in-49 : goal.returns-in-49
returns-in-49 c = op-branch _ _ c.requires.pc_in_bounds _ c.byte_at-in-49.ensures c.in-49.is

pub returns-in-50 : goal.returns-in-50
returns-in-50 c = op-go _ _ c.requires.pc_in_bounds c.in-50.is

pub returns-in-51 : goal.returns-in-51
returns-in-51 c = op-push _ _ c.requires.pc_in_bounds c.in-51.is

pub returns-in-52 : goal.returns-in-52
returns-in-52 c = op-pop _ _ c.requires.pc_in_bounds c.in-52.is

pub returns-in-53 : goal.returns-in-53
returns-in-53 c = op-anon _ _ c.requires.pc_in_bounds c.in-53.is

pub returns-in-54 : goal.returns-in-54
returns-in-54 c = op-store _ _ c.requires.pc_in_bounds _ c.byte_at-in-54.ensures c.in-54.is

pub returns-in-55 : goal.returns-in-55
returns-in-55 c = op-var _ _ c.requires.pc_in_bounds _ c.byte_at-in-55.ensures c.in-55.is

pub returns-in-56 : goal.returns-in-56
returns-in-56 c = op-term _ _ c.requires.pc_in_bounds _ c.symbol_at.ensures c.in-56.is

pub returns-in-57 : goal.returns-in-57
returns-in-57 c = op-replace _ _ c.requires.pc_in_bounds c.in-57.is

pub returns-in-58 : goal.returns-in-58
returns-in-58 c = op-narrow _ _ c.requires.pc_in_bounds c.in-58.is

pub returns-in-59 : goal.returns-in-59
returns-in-59 c = op-choice _ _ c.requires.pc_in_bounds c.in-59.is

pub returns-in-60 : goal.returns-in-60
returns-in-60 c = op-fail _ _ c.requires.pc_in_bounds c.in-60.is

pub returns-in_default : goal.returns-in_default
returns-in_default c = op-wrong _ _ c.requires.pc_in_bounds (outside _ c.in_default.in_default-own.rest.0.0.0.0.0.0.0.0.0.0.0.0.1 c.in_default.in_default-own.rest.0.0.0.0.0.0.0.0.0.0.0.1 c.in_default.in_default-own.rest.0.0.0.0.0.0.0.0.0.0.1 c.in_default.in_default-own.rest.0.0.0.0.0.0.0.0.0.1 c.in_default.in_default-own.rest.0.0.0.0.0.0.0.0.1 c.in_default.in_default-own.rest.0.0.0.0.0.0.0.1 c.in_default.in_default-own.rest.0.0.0.0.0.0.1 c.in_default.in_default-own.rest.0.0.0.0.0.1 c.in_default.in_default-own.rest.0.0.0.0.1 c.in_default.in_default-own.rest.0.0.0.1 c.in_default.in_default-own.rest.0.0.1 c.in_default.in_default-own.rest.0.1 c.in_default.in_default-own.rest.1)
