use Rattle.rv_decode.proofs.WordLaws.{reads_word, writes_word, has_row}
use Rattle.rv_decode.proofs.laws.words_and_instructions.Goals as goal

pub returns-clause-word : goal.returns-clause-word
returns-clause-word c = reads_word

pub returns-clause-instr : goal.returns-clause-instr
returns-clause-instr c = writes_word

pub returns-clause-row : goal.returns-clause-row
returns-clause-row c = has_row
