use Rattle.rl_pattern.proofs.Final.{right_text_found, right_text_reads, right_text_spans}
use Rattle.rl_pattern.proofs.laws.right_texts_are_read.Goals as goal

pub returns-clause-pattern : goal.returns-clause-pattern
returns-clause-pattern c = right_text_found

pub returns-clause-reads : goal.returns-clause-reads
returns-clause-reads c = right_text_reads

pub returns-clause-spans : goal.returns-clause-spans
returns-clause-spans c = right_text_spans
