-- What is told of each answer of a call, in the document's numbers (document 01, "The session"). Assumes nothing.
use Rattle.std.specs.Prelude.{Option, Some, None}
use Rattle.summary.specs.Answers.{plain}
use Rattle.summary.specs.declared.Told.{Told}
use Rattle.guide.specs.Numbers.{verdict_told}
use Rattle.session.specs.declared.Answer.{Answer}
use Rattle.session.specs.declared.Answer.TheVariants.{Next, Over, BadState}

-- while a reply is awaited there is no number, since DONE is 0; 15 has no line, no place and no N
unfoldable pub report_of : Answer → Option Told
report_of Next = None
report_of (Over v) = Some (verdict_told v)
report_of BadState = Some (plain 15)
