use Rattle.rv_asm.proofs.ShownAgain.{shown_assembles, words_assemble}
use Rattle.rv_asm.proofs.laws.shown_texts_assemble.Goals as goal

pub returns-clause-instr : goal.returns-clause-instr
returns-clause-instr c = shown_assembles

pub returns-clause-word : goal.returns-clause-word
returns-clause-word c = words_assemble
