use Rattle.asm_statements.proofs.Mnemonics.{form_branch, form_load, form_store, form_imm, form_shift, form_reg, form_mul}
use Rattle.asm_statements.proofs.laws.mnemonics_are_read.Goals as goal

pub returns-clause-branches : goal.returns-clause-branches
returns-clause-branches c = form_branch

pub returns-clause-loads : goal.returns-clause-loads
returns-clause-loads c = form_load

pub returns-clause-stores : goal.returns-clause-stores
returns-clause-stores c = form_store

pub returns-clause-immediates : goal.returns-clause-immediates
returns-clause-immediates c = form_imm

pub returns-clause-shifts : goal.returns-clause-shifts
returns-clause-shifts c = form_shift

pub returns-clause-registers : goal.returns-clause-registers
returns-clause-registers c = form_reg

pub returns-clause-products : goal.returns-clause-products
returns-clause-products c = form_mul
