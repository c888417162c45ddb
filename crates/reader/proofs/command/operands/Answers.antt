-- `command::operands` meets its contract: no byte, another command byte, too few bytes after it, or all of them.
-- Assumes nothing.
use Rattle.reader.proofs.Operands.{byte-missing, another-command, values-missing, values-there}
use Rattle.reader.proofs.command.operands.Goals as goal

pub returns-in_default-clause-refusal : goal.returns-in_default-clause-refusal
returns-in_default-clause-refusal g c = byte-missing _ _ _ c.in_default.ensures.cases

pub returns-then-first-command-clause-refusal : goal.returns-then-first-command-clause-refusal
returns-then-first-command-clause-refusal g c = another-command _ _ _ c.in-Some.ensures.cases.0 c.if-first-command.true

pub returns-in_default-first_chunk-clause-refusal : goal.returns-in_default-first_chunk-clause-refusal
returns-in_default-first_chunk-clause-refusal g c =
    values-missing _ _ _ c.in-Some.ensures.cases.0 c.if-first-command.false c.in_default-first_chunk.ensures.cases

pub returns-clause-refusal : goal.returns-clause-refusal
returns-clause-refusal g c =
    values-there _ _ _ c.in-Some.ensures.cases.0 c.if-first-command.false c.in-Some-first_chunk.ensures.cases.enough
