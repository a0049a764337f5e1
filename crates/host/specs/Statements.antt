-- What is proved of the simulated regulator. Assumes nothing.
use Rattle.std.specs.Prelude.{◌≡◌, ℕ, ◌/◌, ◌%◌, ◌<◌, List, ◌∷◌, ◌≢◌, slice_index}
use Rattle.bus.specs.declared.Request.{Request}
use Rattle.bus.specs.Bus.{framed}
use Rattle.bus.specs.InForm.{InForm, spelled}
use Rattle.guide.specs.Requests.{read_data, read_block}
use Rattle.host.specs.declared.Regulator.{Regulator}
use Rattle.host.specs.Replies.{kind_of, handed, value_of, device_reply}

-- what four bytes say of a word
abbrev pub told : ℕ → ℕ
told w = spelled (w % 256) (w / 256 % 256) (w / 65536 % 256) (w / 16777216 % 256)

abbrev pub Answers : Regulator → Request → ℕ → Type 0
Answers d q w = InForm q (kind_of (device_reply d q)) (handed (device_reply d q)) w

-- while it lasts, it answers every request of a session for its address in form: reads with what it holds
pub record AnswersInForm (d : Regulator) : Type 0 where
  pub writes : (sent : List ℕ) (p : ℕ) → Answers d (framed (d.address ∷ sent) p) 0
  pub register : Answers d (read_data d.address) (told (value_of d))
  pub identity : Answers d (read_block d.address 0xAD) (told d.file.identity)
  pub revision : Answers d (read_block d.address 0xAE) (told 0x06000000)

abbrev pub InFormWhileItLasts : Type 0
InFormWhileItLasts = (d : Regulator) → 0 < d.lasts → AnswersInForm d

-- and a request for another address it does not acknowledge
abbrev pub SilentElsewhere : Type 0
SilentElsewhere = (d : Regulator) (q : Request) → (slice_index q.bytes 0 ≢ d.address) → kind_of (device_reply d q) ≡ 0
