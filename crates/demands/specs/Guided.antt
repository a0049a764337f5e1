-- The run beside the guide's list: what a session puts out and answers is what the guide's tree (crate guide, Guide) gives, by its own
-- definitions. Demands 2 and 3 stand on this; they say it without the tree. Assumes nothing.
use Rattle.std.specs.Prelude.{◌≡◌, List, ℕ}
use Rattle.summary.specs.declared.Summary.{Summary}
use Rattle.image.specs.Check.{check_of}
use Rattle.summary.specs.Answers.{answer_told}
use Rattle.bus.specs.declared.Request.{Request}
use Rattle.guide.specs.Terms.{Terms}
use Rattle.guide.specs.Plan.{Reply, Outcome, waiting, ended, requests, verdict, bare}
use Rattle.guide.specs.Guide.{guide_for}
use Rattle.session.specs.declared.Settings.{Settings}
use Rattle.session.specs.declared.Handed.{Handed}
use Rattle.session.specs.declared.Answer.{Answer}
use Rattle.session.specs.declared.Answer.TheVariants.{Next, Over}
use Rattle.session.specs.Terms.{keeping}
use Rattle.demands.specs.Headline.{Allowed, Keeps}

-- the checker's number of this text is 0, this is the summary that it hands back with it, the settings' rule keeps so many places free,
-- and the settings are allowed
pub record Premises (S : Settings) (kept : ℕ) (text : List ℕ) (file : Summary) : Type 0 where
  pub accepted : (answer_told (check_of text).answer).number ≡ 0
  pub summary : file ≡ (check_of text).summary
  pub rule : Keeps S.rule kept
  pub allowed : Allowed (keeping kept S)

-- what a session answers where the guide is there
unfoldable pub answer_for : Outcome → Answer
answer_for waiting = Next
answer_for (ended v) = Over v

pub record Guided (T : Terms) (file : Summary) (text : List ℕ) (rs : List Reply) (out : List Request) (last : Handed) : Type 0 where
  pub same_requests : out ≡ bare (requests (guide_for T file text) rs)
  pub same_answer : last.answer ≡ answer_for (verdict (guide_for T file text) rs)
