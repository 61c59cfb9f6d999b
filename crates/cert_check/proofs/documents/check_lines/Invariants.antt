use Rattle.std.proofs.Common.{length}
use Rattle.cert_check.proofs.Texts.{InText}
use Rattle.cert_check.proofs.documents.check_lines.Given as goal

abbrev pub invariant-judging : goal.invariant-judging
invariant-judging l = InText l.table l.text l.judge l.rest

abbrev pub decreases-judging : goal.decreases-judging
decreases-judging l = length l.rest
