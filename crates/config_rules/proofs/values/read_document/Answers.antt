use Rattle.std.proofs.Common.{Some, None, refl}
use Rattle.toml.specs.View.{table_view}
use Rattle.config_rules.proofs.Documents.{document-no_text, document-text}
use Rattle.config_rules.proofs.values.read_document.Goals as goal

pub returns-in-None-clause-refused : goal.returns-in-None-clause-refused
returns-in-None-clause-refused c = (refl, document-no_text c.args.bytes.now c.in-None.ensures)

pub returns-in-Ok-clause-ok : goal.returns-in-Ok-clause-ok
returns-in-Ok-clause-ok c =
    document-text c.args.bytes.now c.in-Some.text.now (Some (table_view c.in-Ok.table)) c.in-Some.ensures.0 c.in-Some.ensures.1 c.in-Ok.ensures.ok

pub returns-else-is_memory-clause-refused : goal.returns-else-is_memory-clause-refused
returns-else-is_memory-clause-refused c =
    (refl, document-text c.args.bytes.now c.in-Some.text.now None c.in-Some.ensures.0 c.in-Some.ensures.1 (c.in-Err.ensures.refused (λ h. let memory = c.is_memory.ensures.1 h in let other = c.if-is_memory.false in cc)))
